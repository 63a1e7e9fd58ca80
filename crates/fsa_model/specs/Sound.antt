-- What is always true of a volume.
use Rattle.std.specs.Prelude.{◌≡◌, ℕ, Bool, true, false, ◌-◌, ◌^◌, ◌<◌, ◌≤◌, ◌&&◌, ◌||◌, ◌==◌, List, is_some, length, All, AllPairs, IsTrue, IfSome}
use Rattle.std.specs.Option.{option_map_or}
use Rattle.std.specs.List.{list_any}
use Rattle.fsa_types.specs.OplockLists.{AreOplocks}
use Rattle.fsa_types.specs.Rows.{row_of, lives, IsNumbered}
use Rattle.fsa_types.specs.declared.reply.Blocker.{Blocker}
use Rattle.fsa_types.specs.declared.reply.Blocker.TheVariants.{Break, Lock as LockOf}
use Rattle.fsa_model.specs.Bounds.{most_point_bytes}
use Rattle.fsa_model.specs.Setup.{Client}
use Rattle.fsa_model.specs.Volume.{File, Link, Stream, Handle, Lock, Oplock, Pending, Watch, Volume}
use Rattle.fsa_model.specs.Lookups.{is_named, is_stream_named, is_opened_by, is_directory, has_child, leads_to}
use Rattle.fsa_model.specs.Edits.{is_call}

-- from this directory links lead up to the root
pub record LeadsUp (links : List (ℕ × Link)) (dir : ℕ) : Type 0 where
  pub steps : ℕ
  pub leads : IsTrue (leads_to steps links 1 dir)

-- the stream is one of the link's file; link 0 is the root's, which has no stream
abbrev pub is_stream_of_link : List (ℕ × Link) → List (ℕ × Stream) → ℕ → ℕ → Bool
is_stream_of_link links streams link stream =
    list_any (λ s. s.0 == stream && list_any (λ l. l.0 == link && l.1.file == s.1.file) links) streams

-- a handle's link lives or is 0, and its stream, where it has one, is a stream of that link's file
abbrev pub is_of_living : List (ℕ × Link) → List (ℕ × Stream) → Handle → Bool
is_of_living links streams handle =
    (handle.link == 0 || lives links handle.link)
    && option_map_or (λ stream. is_stream_of_link links streams handle.link stream) handle.stream true

-- the link is a directory's; link 0 is the root's
abbrev pub is_link_of_directory : List (ℕ × File) → List (ℕ × Link) → ℕ → Bool
is_link_of_directory files links link = link == 0 || list_any (λ l. l.0 == link && is_directory files l.1.file) links

-- a handle has no stream only where its link is a directory's
abbrev pub has_its_stream : List (ℕ × File) → List (ℕ × Link) → Handle → Bool
has_its_stream files links handle = is_some handle.stream || is_link_of_directory files links handle.link

-- the bound of a file: that of its reparse point
abbrev pub PointFits : File → Type 0
PointFits file = IfSome file.point (λ point. length point.1 ≤ most_point_bytes)

-- the tree: names, parents, and the files of links and streams
pub record IsTree (table : List (ℕ × ℕ)) (files : List (ℕ × File)) (links : List (ℕ × Link)) (streams : List (ℕ × Stream)) : Type 0 where
  -- the names of the links of one parent differ by the table, and so do those of the streams of one file
  pub link_names_differ : AllPairs (λ a b. is_named table b.1.parent b.1.name a.1 ≡ false) links
  pub stream_names_differ : AllPairs (λ a b. is_stream_named table b.1.file b.1.name a.1 ≡ false) streams
  -- each link's and each stream's file lives; each link's parent is a directory from which links lead up to the root
  pub link_files_live : All (λ entry. IsTrue (lives files entry.1.file)) links
  pub stream_files_live : All (λ entry. IsTrue (lives files entry.1.file)) streams
  pub parents_are_directories : All (λ entry. IsTrue (is_directory files entry.1.parent)) links
  pub parents_lead_up : All (λ entry. LeadsUp links entry.1.parent) links
  -- file 1 lives and is a directory without a link
  pub root_is_directory : IsTrue (is_directory files 1)
  pub root_has_no_link : All (λ entry. (entry.1.file == 1) ≡ false) links
  -- a directory has no stream and at most one link, and one whose link is marked has no link in it
  pub directories_have_no_stream : All (λ entry. is_directory files entry.1.file ≡ false) streams
  pub directories_have_one_link : AllPairs (λ a b. (is_directory files b.1.file && a.1.file == b.1.file) ≡ false) links
  pub marked_are_empty : All (λ entry. (entry.1.deleted && has_child links entry.1.file) ≡ false) links
  -- no link has the number 0, which a handle of the root has
  pub numbers_are_not_0 : All (λ entry. (entry.0 == 0) ≡ false) links

-- the handles, each of a client of the setup
pub record AreOpens (clients : List Client) (files : List (ℕ × File)) (links : List (ℕ × Link)) (streams : List (ℕ × Stream)) (handles : List (ℕ × Handle)) : Type 0 where
  pub are_of_living : All (λ entry. IsTrue (is_of_living links streams entry.1)) handles
  pub have_streams : All (λ entry. IsTrue (has_its_stream files links entry.1)) handles
  -- no two have the same client and number
  pub differ : AllPairs (λ a b. is_opened_by b.1.client b.1.number a.1 ≡ false) handles
  pub have_clients : All (λ entry. entry.1.client < length clients) handles

-- the pending calls, each of a client of the setup
pub record ArePending (clients : List Client) (pending : List (ℕ × Pending)) : Type 0 where
  -- no two have the same client and number, or the same turn
  pub differ : AllPairs (λ a b. is_call b.1.call.client b.1.call.number a.1 ≡ false) pending
  pub turns_differ : AllPairs (λ a b. (a.0 == b.0) ≡ false) pending
  pub have_clients : All (λ entry. entry.1.call.client < length clients) pending

-- the setup's clients; each has a SID, and those that have left are among them
pub record AreClients (clients : List Client) (left : List Bool) : Type 0 where
  pub have_sids : All (λ client. 0 < length client.sids) clients
  pub may_leave : length left ≡ length clients

-- the number of what blocks a call was given
abbrev pub IsGiven : ℕ → ℕ → Blocker → Type 0
IsGiven last_lock last_break (LockOf number) = number ≤ last_lock
IsGiven last_lock last_break (Break number) = number ≤ last_break

-- an oplock's handle lives and has its key
abbrev pub has_its_key : List (ℕ × Handle) → Oplock → Bool
has_its_key handles oplock = option_map_or (λ row. row.key == oplock.key) (row_of handles oplock.handle) false

-- locks, oplocks and watches are of living handles, at most one watch each; an oplock has its handle's key
pub record AreOfHandles (handles : List (ℕ × Handle)) (locks : List (ℕ × Lock)) (oplocks : List Oplock) (watches : List Watch) : Type 0 where
  pub locks_live : All (λ entry. IsTrue (lives handles entry.1.handle)) locks
  pub oplocks_have_keys : All (λ oplock. IsTrue (has_its_key handles oplock)) oplocks
  pub watches_live : All (λ watch. IsTrue (lives handles watch.handle)) watches
  pub watches_differ : AllPairs (λ a b. (a.handle == b.handle) ≡ false) watches

-- fewer than 2^32 - 1 numbers of each kind were given; the clock and the last numbers of locks and
-- breaks are below 2^64
pub record AreBounded (v : Volume) : Type 0 where
  pub files : v.last_file < 2 ^ 32 - 1
  pub links : v.last_link < 2 ^ 32 - 1
  pub streams : v.last_stream < 2 ^ 32 - 1
  pub handles : v.last_handle < 2 ^ 32 - 1
  pub clock : v.clock < 2 ^ 64
  pub locks : v.last_lock < 2 ^ 64
  pub breaks : v.last_break < 2 ^ 64

-- a volume is sound
pub record IsSound (v : Volume) : Type 0 where
  pub tree : IsTree v.table v.files v.links v.streams
  pub opens : AreOpens v.clients v.files v.links v.streams v.handles
  pub pending : ArePending v.clients v.pending
  pub clients : AreClients v.clients v.left
  pub of_handles : AreOfHandles v.handles v.locks v.oplocks v.watches
  -- the numbers of each kind rise, and none is above the last one given
  pub files_numbered : IsNumbered v.files v.last_file
  pub links_numbered : IsNumbered v.links v.last_link
  pub streams_numbered : IsNumbered v.streams v.last_stream
  pub handles_numbered : IsNumbered v.handles v.last_handle
  pub locks_numbered : IsNumbered v.locks v.last_lock
  -- at most one oplock is of a handle, with a break exactly where it has a target within its level; breaks
  -- have numbers that differ
  pub oplocks : AreOplocks v.oplocks v.last_break
  -- what blocks a call is a lock or a break whose number was given
  pub blockers_given : All (λ entry. All (IsGiven v.last_lock v.last_break) entry.1.blockers) v.pending
  -- a stream has at most 2^26 bytes, and a reparse point at most most_point_bytes
  pub streams_fit : All (λ entry. length entry.1.bytes ≤ 2 ^ 26) v.streams
  pub points_fit : All (λ entry. PointFits entry.1) v.files
  pub bounded : AreBounded v

-- a part of it that holds however many calls are made, without the bounds: the tree; each handle's link is there or
-- is 0, its stream is of that link's file, and only a directory's handle has none; and the numbers of files, links,
-- streams and handles rise, none above the last one given
pub record IsSoundTree (v : Volume) : Type 0 where
  pub tree : IsTree v.table v.files v.links v.streams
  pub are_of_living : All (λ entry. IsTrue (is_of_living v.links v.streams entry.1)) v.handles
  pub have_streams : All (λ entry. IsTrue (has_its_stream v.files v.links entry.1)) v.handles
  pub files_numbered : IsNumbered v.files v.last_file
  pub links_numbered : IsNumbered v.links v.last_link
  pub streams_numbered : IsNumbered v.streams v.last_stream
  pub handles_numbered : IsNumbered v.handles v.last_handle
