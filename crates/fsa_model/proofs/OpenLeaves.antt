-- What opens leave, worked by hand from the rules and shown by computation: which oplocks they break and
-- for which breaks they wait, the rows that they make and change, and the changes that they note.
use Rattle.std.specs.Prelude.{◌≡◌, ℕ, Bool, true, false, List, [], ◌∷◌, map, Option, Some, None, codes, refl}
use Rattle.std.specs.Option.{option_map_or}
use Rattle.fsa_types.specs.CaseTable.{ascii_pairs}
use Rattle.fsa_types.specs.declared.request.Disposition.{Disposition}
use Rattle.fsa_types.specs.declared.request.Disposition.TheVariants.{Supersede, OpenExisting, CreateNew, OpenIf, Overwrite, OverwriteIf}
use Rattle.fsa_types.specs.declared.request.Level.{Level}
use Rattle.fsa_types.specs.declared.request.Level.TheVariants.{Nil, R, RH, RW, RWH}
use Rattle.fsa_types.specs.declared.reply.Action.{Action}
use Rattle.fsa_types.specs.declared.reply.Action.TheVariants as action
use Rattle.fsa_types.specs.declared.reply.Blocker.{Blocker}
use Rattle.fsa_types.specs.declared.reply.Blocker.TheVariants.{Break}
use Rattle.fsa_types.specs.declared.reply.Body.TheVariants.{Nothing, Opened}
use Rattle.fsa_types.specs.declared.reply.Reply.{Reply}
use Rattle.fsa_types.specs.declared.status.Status.TheVariants.{Success, OplockBreakInProgress, SharingViolation, AccessDenied}
use Rattle.fsa_model.specs.Edits.{with_file, with_link, with_stream, with_bytes, with_handle, with_ticks}
use Rattle.fsa_model.specs.Open.{Asked, try_create, create_at, create_walked, create_named, create_by_link, create_found, create_there, create_in_file, create_stream, create_on_stream, open_stream, open_directory, open_granted, overwrite_existing, open_existing, clashed, create_missing, make_file, make_directory, stopped}
use Rattle.fsa_model.specs.Outcome.{Outcome, Done, Hold}
use Rattle.fsa_model.specs.Turn.{volume_after}
use Rattle.fsa_model.specs.Volume.{File, Link, Stream, Handle, Change, Volume, fresh}

-- ---- what is there

-- client 0 has SID 7 and client 1 has SID 9; in the root is the file 2 `f`, HIDDEN, with the default
-- stream 1 of two bytes and the stream 2 `s` of one; its times are 1, 2, 3 and 4, and the clock stands at 8
abbrev pub hidden_file : File
hidden_file = record {
  directory = false;
  attributes = 0x22;
  creation = 1;
  access = 2;
  write = 3;
  change = 4;
  owner = 9;
  dacl = None;
  point = None;
}

abbrev pub empty : Volume
empty = fresh (record { table = ascii_pairs; clients = record { name = codes "a"; sids = 7 ∷ [] } ∷ record { name = codes "b"; sids = 9 ∷ [] } ∷ [] })

abbrev pub begun : Volume
begun =
    with_ticks
    (with_bytes
    (with_bytes (with_stream (with_stream (with_link (with_file empty hidden_file) 1 (codes "f") 2) 2 []) 2 (codes "s")) 1 0 (5 ∷ 6 ∷ []))
    2 0 (7 ∷ []))
    8

-- client 1 has the default stream open with this access, share and key, and on it an oplock of this
-- level, which is being broken to this target by break 1, where there is one
abbrev pub held : ℕ → ℕ → ℕ → Option Level → Level → Volume
held access share key target level =
    record (with_handle begun (record {
      client = 1;
      number = 1;
      link = 1;
      stream = Some 1;
      access = access;
      share = share;
      key = key;
      delete_on_close = false;
      enumeration = None;
    })) {
      oplocks = record { handle = 1; key = key; level = level; target = target; number = option_map_or (λ _. 1) target 0; call = None } ∷ [];
      last_break = 1;
    }

-- ---- what is asked, and what is seen

-- client 0 asks, sharing all, with HIDDEN and with the key 5
abbrev pub asks : List ℕ → ℕ → Disposition → ℕ → Asked
asks path wanted disposition options = record {
  client = 0;
  number = 3;
  path = path;
  wanted = wanted;
  share = 0x7;
  disposition = disposition;
  options = options;
  attributes = 0x2;
  key = 5;
}

-- the reply, or the breaks waited for; and each oplock that is left, with its target and break
abbrev pub broken : Volume → List (Level × Option Level × ℕ)
broken v = map (λ oplock. (oplock.level, oplock.target, oplock.number)) v.oplocks

abbrev pub seen : Outcome → List Reply × List Blocker × List (Level × Option Level × ℕ)
seen (Done v reply) = (reply ∷ [], [], broken v)
seen (Hold v blockers interim) = ([], blockers, broken v)
seen _ = ([], [], [])

-- the same open against an oplock of each level
abbrev pub each_level : (Level → Volume) → Asked → List (List Reply × List Blocker × List (Level × Option Level × ℕ))
each_level volume asked = map (λ level. seen (try_create (volume level) asked)) (R ∷ RH ∷ RW ∷ RWH ∷ [])

-- an oplock of R alone is never in a break: it ends at once
abbrev pub each_breaking : (Level → Volume) → Asked → List (List Reply × List Blocker × List (Level × Option Level × ℕ))
each_breaking volume asked = map (λ level. seen (try_create (volume level) asked)) (RH ∷ RW ∷ RWH ∷ [])

abbrev pub opens : Action → List Reply
opens found = record { status = Success; body = Opened found } ∷ []

abbrev pub clashes : List Reply
clashes = record { status = SharingViolation; body = Nothing } ∷ []

-- ---- breaks; the oplock has the break 1 from before, or the open begins the break 2

-- an open that reads keeps R and H, and waits for W to be given up
pub opened :
    each_level (held 0x1 0x7 0 None) (asks (codes "\\f") 0x1 OpenExisting 0x0)
    ≡ (opens action.Opened, [], (R, None, 0) ∷ [])
    ∷ (opens action.Opened, [], (RH, None, 0) ∷ [])
    ∷ ([], Break 2 ∷ [], (RW, Some R, 2) ∷ [])
    ∷ ([], Break 2 ∷ [], (RWH, Some RH, 2) ∷ [])
    ∷ []
unfolding try_create create_at create_walked create_named create_by_link create_found create_there create_in_file create_stream create_on_stream open_stream open_directory open_granted overwrite_existing open_existing clashed create_missing make_file make_directory stopped
opened = refl

-- COMPLETE_IF_OPLOCKED goes on beside the break
pub completed :
    each_level (held 0x1 0x7 0 None) (asks (codes "\\f") 0x1 OpenExisting 0x100)
    ≡ (opens action.Opened, [], (R, None, 0) ∷ [])
    ∷ (opens action.Opened, [], (RH, None, 0) ∷ [])
    ∷ (record { status = OplockBreakInProgress; body = Opened action.Opened } ∷ [], [], (RW, Some R, 2) ∷ [])
    ∷ (record { status = OplockBreakInProgress; body = Opened action.Opened } ∷ [], [], (RWH, Some RH, 2) ∷ [])
    ∷ []
unfolding try_create create_at create_walked create_named create_by_link create_found create_there create_in_file create_stream create_on_stream open_stream open_directory open_granted overwrite_existing open_existing clashed create_missing make_file make_directory stopped
completed = refl

-- READ_ATTRIBUTES, WRITE_ATTRIBUTES and SYNCHRONIZE break nothing
pub attributes_opened :
    each_level (held 0x1 0x7 0 None) (asks (codes "\\f") 0x100180 OpenIf 0x0)
    ≡ (opens action.Opened, [], (R, None, 0) ∷ [])
    ∷ (opens action.Opened, [], (RH, None, 0) ∷ [])
    ∷ (opens action.Opened, [], (RW, None, 0) ∷ [])
    ∷ (opens action.Opened, [], (RWH, None, 0) ∷ [])
    ∷ []
unfolding try_create create_at create_walked create_named create_by_link create_found create_there create_in_file create_stream create_on_stream open_stream open_directory open_granted overwrite_existing open_existing clashed create_missing make_file make_directory stopped
attributes_opened = refl

-- READ_CONTROL breaks as reading does
pub control_opened :
    each_level (held 0x1 0x7 0 None) (asks (codes "\\f") 0x20080 OpenIf 0x0)
    ≡ (opens action.Opened, [], (R, None, 0) ∷ [])
    ∷ (opens action.Opened, [], (RH, None, 0) ∷ [])
    ∷ ([], Break 2 ∷ [], (RW, Some R, 2) ∷ [])
    ∷ ([], Break 2 ∷ [], (RWH, Some RH, 2) ∷ [])
    ∷ []
unfolding try_create create_at create_walked create_named create_by_link create_found create_there create_in_file create_stream create_on_stream open_stream open_directory open_granted overwrite_existing open_existing clashed create_missing make_file make_directory stopped
control_opened = refl

-- an overwrite breaks all, whatever is wanted
pub overwritten :
    each_level (held 0x1 0x7 0 None) (asks (codes "\\f") 0x80 Overwrite 0x0)
    ≡ (opens action.Overwritten, [], [])  -- R ends at once
    ∷ (opens action.Overwritten, [], (RH, Some Nil, 2) ∷ [])  -- H is lost, and only W is waited for
    ∷ ([], Break 2 ∷ [], (RW, Some Nil, 2) ∷ [])
    ∷ ([], Break 2 ∷ [], (RWH, Some Nil, 2) ∷ [])
    ∷ []
unfolding try_create create_at create_walked create_named create_by_link create_found create_there create_in_file create_stream create_on_stream open_stream open_directory open_granted overwrite_existing open_existing clashed create_missing make_file make_directory stopped
overwritten = refl

-- COMPLETE_IF_OPLOCKED does not help an overwrite
pub overwrite_completed :
    each_level (held 0x1 0x7 0 None) (asks (codes "\\f") 0x3 OverwriteIf 0x100)
    ≡ (opens action.Overwritten, [], [])
    ∷ (opens action.Overwritten, [], (RH, Some Nil, 2) ∷ [])
    ∷ ([], Break 2 ∷ [], (RW, Some Nil, 2) ∷ [])
    ∷ ([], Break 2 ∷ [], (RWH, Some Nil, 2) ∷ [])
    ∷ []
unfolding try_create create_at create_walked create_named create_by_link create_found create_there create_in_file create_stream create_on_stream open_stream open_directory open_granted overwrite_existing open_existing clashed create_missing make_file make_directory stopped
overwrite_completed = refl

-- a clash keeps R and W, and waits for H to be given up
pub clash_broken :
    each_level (held 0x1 0x0 0 None) (asks (codes "\\f") 0x1 OpenExisting 0x0)
    ≡ (clashes, [], (R, None, 0) ∷ [])  -- nothing to wait for
    ∷ ([], Break 2 ∷ [], (RH, Some R, 2) ∷ [])
    ∷ (clashes, [], (RW, None, 0) ∷ [])  -- W is no matter of sharing
    ∷ ([], Break 2 ∷ [], (RWH, Some RW, 2) ∷ [])
    ∷ []
unfolding try_create create_at create_walked create_named create_by_link create_found create_there create_in_file create_stream create_on_stream open_stream open_directory open_granted overwrite_existing open_existing clashed create_missing make_file make_directory stopped
clash_broken = refl

-- nor an open that clashes
pub clash_completed :
    each_level (held 0x1 0x0 0 None) (asks (codes "\\f") 0x1 OpenExisting 0x100)
    ≡ (clashes, [], (R, None, 0) ∷ [])
    ∷ ([], Break 2 ∷ [], (RH, Some R, 2) ∷ [])
    ∷ (clashes, [], (RW, None, 0) ∷ [])
    ∷ ([], Break 2 ∷ [], (RWH, Some RW, 2) ∷ [])
    ∷ []
unfolding try_create create_at create_walked create_named create_by_link create_found create_there create_in_file create_stream create_on_stream open_stream open_directory open_granted overwrite_existing open_existing clashed create_missing make_file make_directory stopped
clash_completed = refl

-- a clash comes before the overwrite, and keeps W
pub clash_before_overwrite :
    each_level (held 0x1 0x0 0 None) (asks (codes "\\f") 0x3 Supersede 0x0)
    ≡ (clashes, [], (R, None, 0) ∷ [])
    ∷ ([], Break 2 ∷ [], (RH, Some R, 2) ∷ [])
    ∷ (clashes, [], (RW, None, 0) ∷ [])
    ∷ ([], Break 2 ∷ [], (RWH, Some RW, 2) ∷ [])
    ∷ []
unfolding try_create create_at create_walked create_named create_by_link create_found create_there create_in_file create_stream create_on_stream open_stream open_directory open_granted overwrite_existing open_existing clashed create_missing make_file make_directory stopped
clash_before_overwrite = refl

-- an open of the same key breaks nothing
pub same_key :
    each_level (held 0x1 0x7 5 None) (asks (codes "\\f") 0x3 Supersede 0x0)
    ≡ (opens action.Superseded, [], (R, None, 0) ∷ [])
    ∷ (opens action.Superseded, [], (RH, None, 0) ∷ [])
    ∷ (opens action.Superseded, [], (RW, None, 0) ∷ [])
    ∷ (opens action.Superseded, [], (RWH, None, 0) ∷ [])
    ∷ []
unfolding try_create create_at create_walked create_named create_by_link create_found create_there create_in_file create_stream create_on_stream open_stream open_directory open_granted overwrite_existing open_existing clashed create_missing make_file make_directory stopped
same_key = refl

-- and where it clashes it is refused at once
pub same_key_clashed :
    each_level (held 0x1 0x0 5 None) (asks (codes "\\f") 0x3 OpenExisting 0x0)
    ≡ (clashes, [], (R, None, 0) ∷ [])
    ∷ (clashes, [], (RH, None, 0) ∷ [])
    ∷ (clashes, [], (RW, None, 0) ∷ [])
    ∷ (clashes, [], (RWH, None, 0) ∷ [])
    ∷ []
unfolding try_create create_at create_walked create_named create_by_link create_found create_there create_in_file create_stream create_on_stream open_stream open_directory open_granted overwrite_existing open_existing clashed create_missing make_file make_directory stopped
same_key_clashed = refl

-- an open of another stream of the file clashes with nothing and breaks nothing
pub other_stream :
    each_level (held 0x1 0x0 0 None) (asks (codes "\\f:s") 0x3 Supersede 0x0)
    ≡ (opens action.Superseded, [], (R, None, 0) ∷ [])
    ∷ (opens action.Superseded, [], (RH, None, 0) ∷ [])
    ∷ (opens action.Superseded, [], (RW, None, 0) ∷ [])
    ∷ (opens action.Superseded, [], (RWH, None, 0) ∷ [])
    ∷ []
unfolding try_create create_at create_walked create_named create_by_link create_found create_there create_in_file create_stream create_on_stream open_stream open_directory open_granted overwrite_existing open_existing clashed create_missing make_file make_directory stopped
other_stream = refl

-- a refusal before the clash breaks nothing
pub refused :
    each_level (held 0x1 0x0 0 None) (record (asks (codes "\\f") 0x3 Supersede 0x0) { attributes = 0x0 })
    ≡ (record { status = AccessDenied; body = Nothing } ∷ [], [], (R, None, 0) ∷ [])
    ∷ (record { status = AccessDenied; body = Nothing } ∷ [], [], (RH, None, 0) ∷ [])
    ∷ (record { status = AccessDenied; body = Nothing } ∷ [], [], (RW, None, 0) ∷ [])
    ∷ (record { status = AccessDenied; body = Nothing } ∷ [], [], (RWH, None, 0) ∷ [])
    ∷ []
unfolding try_create create_at create_walked create_named create_by_link create_found create_there create_in_file create_stream create_on_stream open_stream open_directory open_granted overwrite_existing open_existing clashed create_missing make_file make_directory stopped
refused = refl

-- while a break to R is in progress an open waits where W is held; the break keeps its number
pub opened_while_broken :
    each_breaking (held 0x1 0x7 0 (Some R)) (asks (codes "\\f") 0x1 OpenExisting 0x0)
    ≡ (opens action.Opened, [], (RH, Some R, 1) ∷ [])  -- R is within R and H, and RH has no W
    ∷ ([], Break 1 ∷ [], (RW, Some R, 1) ∷ [])
    ∷ ([], Break 1 ∷ [], (RWH, Some R, 1) ∷ [])
    ∷ []
unfolding try_create create_at create_walked create_named create_by_link create_found create_there create_in_file create_stream create_on_stream open_stream open_directory open_granted overwrite_existing open_existing clashed create_missing make_file make_directory stopped
opened_while_broken = refl

-- an overwrite lowers the target to nothing, and waits, since R was told
pub overwritten_while_broken :
    each_breaking (held 0x1 0x7 0 (Some R)) (asks (codes "\\f") 0x3 Overwrite 0x0)
    ≡ ([], Break 1 ∷ [], (RH, Some Nil, 1) ∷ [])
    ∷ ([], Break 1 ∷ [], (RW, Some Nil, 1) ∷ [])
    ∷ ([], Break 1 ∷ [], (RWH, Some Nil, 1) ∷ [])
    ∷ []
unfolding try_create create_at create_walked create_named create_by_link create_found create_there create_in_file create_stream create_on_stream open_stream open_directory open_granted overwrite_existing open_existing clashed create_missing make_file make_directory stopped
overwritten_while_broken = refl

-- a clash waits where H is held
pub clashed_while_broken :
    each_breaking (held 0x1 0x0 0 (Some R)) (asks (codes "\\f") 0x1 OpenExisting 0x0)
    ≡ ([], Break 1 ∷ [], (RH, Some R, 1) ∷ [])
    ∷ (clashes, [], (RW, Some R, 1) ∷ [])
    ∷ ([], Break 1 ∷ [], (RWH, Some R, 1) ∷ [])
    ∷ []
unfolding try_create create_at create_walked create_named create_by_link create_found create_there create_in_file create_stream create_on_stream open_stream open_directory open_granted overwrite_existing open_existing clashed create_missing make_file make_directory stopped
clashed_while_broken = refl

-- where none was told an overwrite waits for W alone
pub overwritten_while_lost :
    each_breaking (held 0x1 0x7 0 (Some Nil)) (asks (codes "\\f") 0x3 Overwrite 0x0)
    ≡ (opens action.Overwritten, [], (RH, Some Nil, 1) ∷ [])
    ∷ ([], Break 1 ∷ [], (RW, Some Nil, 1) ∷ [])
    ∷ ([], Break 1 ∷ [], (RWH, Some Nil, 1) ∷ [])
    ∷ []
unfolding try_create create_at create_walked create_named create_by_link create_found create_there create_in_file create_stream create_on_stream open_stream open_directory open_granted overwrite_existing open_existing clashed create_missing make_file make_directory stopped
overwritten_while_lost = refl

-- ---- clashes without oplocks

-- with a second link `g` of the file, link 2, and the directory 3 `d`, link 3
abbrev pub more : Volume → Volume
more v = with_link (with_file (with_link v 1 (codes "g") 2) (record {
  directory = true;
  attributes = 0;
  creation = 0;
  access = 0;
  write = 0;
  change = 0;
  owner = 9;
  dacl = None;
  point = None;
})) 1 (codes "d") 3

-- client 1 has this directory open to read, by its link, and shares nothing
abbrev pub listing : ℕ → Volume
listing link = with_handle (more begun) (record {
  client = 1;
  number = 1;
  link = link;
  stream = None;
  access = 0x1;
  share = 0x0;
  key = 0;
  delete_on_close = false;
  enumeration = None;
})

-- client 1 has the default stream open to read, and shares nothing
abbrev pub reading : Volume
reading = more (record (held 0x1 0x0 0 None R) { oplocks = [] })

-- opens of the root, of `d`, of `f`, of `g` and of `f:s`, in this order
abbrev pub each_path : Volume → ℕ → List (List Reply × List Blocker × List (Level × Option Level × ℕ))
each_path v wanted =
    map (λ path. seen (try_create v (asks path wanted OpenExisting 0x0)))
    (codes "\\" ∷ codes "\\d" ∷ codes "\\f" ∷ codes "\\g" ∷ codes "\\f:s" ∷ [])

pub root_listed :
    each_path (listing 0) 0x1
    ≡ (clashes, [], []) ∷ (opens action.Opened, [], []) ∷ (opens action.Opened, [], []) ∷ (opens action.Opened, [], []) ∷ (opens action.Opened, [], []) ∷ []
unfolding try_create create_at create_walked create_named create_by_link create_found create_there create_in_file create_stream create_on_stream open_stream open_directory open_granted overwrite_existing open_existing clashed create_missing make_file make_directory stopped
root_listed = refl

pub directory_listed :
    each_path (listing 3) 0x1
    ≡ (opens action.Opened, [], []) ∷ (clashes, [], []) ∷ (opens action.Opened, [], []) ∷ (opens action.Opened, [], []) ∷ (opens action.Opened, [], []) ∷ []
unfolding try_create create_at create_walked create_named create_by_link create_found create_there create_in_file create_stream create_on_stream open_stream open_directory open_granted overwrite_existing open_existing clashed create_missing make_file make_directory stopped
directory_listed = refl

-- the stream is the same by either link
pub stream_read :
    each_path reading 0x1
    ≡ (opens action.Opened, [], []) ∷ (opens action.Opened, [], []) ∷ (clashes, [], []) ∷ (clashes, [], []) ∷ (opens action.Opened, [], []) ∷ []
unfolding try_create create_at create_walked create_named create_by_link create_found create_there create_in_file create_stream create_on_stream open_stream open_directory open_granted overwrite_existing open_existing clashed create_missing make_file make_directory stopped
stream_read = refl

-- READ_ATTRIBUTES has no part in sharing
pub attributes_read :
    each_path reading 0x80
    ≡ (opens action.Opened, [], []) ∷ (opens action.Opened, [], []) ∷ (opens action.Opened, [], []) ∷ (opens action.Opened, [], []) ∷ (opens action.Opened, [], []) ∷ []
unfolding try_create create_at create_walked create_named create_by_link create_found create_there create_in_file create_stream create_on_stream open_stream open_directory open_granted overwrite_existing open_existing clashed create_missing make_file make_directory stopped
attributes_read = refl

-- ---- what is left

abbrev pub left_by : Volume → Asked → Volume
left_by v asked = volume_after (try_create v asked)

abbrev pub file_left : ℕ → ℕ → ℕ → File
file_left attributes write change = record {
  directory = false;
  attributes = attributes;
  creation = 1;
  access = 2;
  write = write;
  change = change;
  owner = 9;
  dacl = None;
  point = None;
}

abbrev pub root_left : ℕ × File
root_left = (1, record { directory = true; attributes = 0; creation = 0; access = 0; write = 0; change = 0; owner = 0; dacl = None; point = None })

abbrev pub link_left : ℕ × Link
link_left = (1, record { parent = 1; name = codes "f"; file = 2; deleted = false })

abbrev pub stream_left : ℕ → List ℕ → List ℕ → ℕ × Stream
stream_left number name bytes = (number, record { file = 2; name = name; bytes = bytes; deleted = false })

-- the handle that is opened: generic rights are mapped, and rights that a disposition needs aren't granted
abbrev pub handle_left : ℕ → Option ℕ → ℕ → Bool → Handle
handle_left link stream access delete_on_close = record {
  client = 0;
  number = 3;
  link = link;
  stream = stream;
  access = access;
  share = 0x7;
  key = 5;
  delete_on_close = delete_on_close;
  enumeration = None;
}

abbrev pub change_left : ℕ → ℕ → List ℕ → Change
change_left action bits name = record { action = action; bits = bits; seen_from = (1, name) ∷ [] }

-- the default stream superseded by a request with HIDDEN: it is empty, ARCHIVE is set, write and change
-- time are the clock, the other stream stays, and ATTRIBUTES, SIZE and LAST_WRITE are noted as modified
pub superseding :
    left_by begun (asks (codes "\\F") 0x80000000 Supersede 0x0)
    ≡ record begun {
      files = root_left ∷ (2, file_left 0x22 8 8) ∷ [];
      streams = stream_left 1 [] [] ∷ stream_left 2 (codes "s") (7 ∷ []) ∷ [];
      handles = (1, handle_left 1 (Some 1) 0x120089 false) ∷ [];
      last_handle = 1;
      changes = change_left 3 0x1C (codes "f") ∷ [];
    }
unfolding try_create create_at create_walked create_named create_by_link create_found create_there create_in_file create_stream create_on_stream open_stream open_directory open_granted overwrite_existing open_existing clashed create_missing make_file make_directory stopped
superseding = refl

-- a named stream overwritten, READONLY asked for too: the file's attributes and times as well, and
-- STREAM_SIZE and STREAM_WRITE are noted of the stream by the name that it has
pub overwriting_a_stream :
    left_by begun (record (asks (codes "\\f:S") 0x10002 OverwriteIf 0x1000) { attributes = 0x31B7 })
    ≡ record begun {
      files = root_left ∷ (2, file_left 0x27 8 8) ∷ [];
      streams = stream_left 1 [] (5 ∷ 6 ∷ []) ∷ stream_left 2 (codes "s") [] ∷ [];
      handles = (1, handle_left 1 (Some 2) 0x10002 true) ∷ [];
      last_handle = 1;
      changes = change_left 8 0xC00 (codes "f:s") ∷ [];
    }
unfolding try_create create_at create_walked create_named create_by_link create_found create_there create_in_file create_stream create_on_stream open_stream open_directory open_granted overwrite_existing open_existing clashed create_missing make_file make_directory stopped
overwriting_a_stream = refl

-- a new stream: no time and no attribute of the file changes, and STREAM_NAME is noted as added
pub adding_a_stream :
    left_by begun (asks (codes "\\f:New") 0x1 CreateNew 0x0)
    ≡ record begun {
      streams = stream_left 1 [] (5 ∷ 6 ∷ []) ∷ stream_left 2 (codes "s") (7 ∷ []) ∷ stream_left 3 (codes "New") [] ∷ [];
      last_stream = 3;
      handles = (1, handle_left 1 (Some 3) 0x1 false) ∷ [];
      last_handle = 1;
      changes = change_left 6 0x200 (codes "f:New") ∷ [];
    }
unfolding try_create create_at create_walked create_named create_by_link create_found create_there create_in_file create_stream create_on_stream open_stream open_directory open_granted overwrite_existing open_existing clashed create_missing make_file make_directory stopped
adding_a_stream = refl

-- an open changes nothing but the handles
pub opening :
    left_by begun (asks (codes "\\f:s:$Data") 0x1 OpenIf 0x0)
    ≡ record begun {
      handles = (1, handle_left 1 (Some 2) 0x1 false) ∷ [];
      last_handle = 1;
    }
unfolding try_create create_at create_walked create_named create_by_link create_found create_there create_in_file create_stream create_on_stream open_stream open_directory open_granted overwrite_existing open_existing clashed create_missing make_file make_directory stopped
opening = refl

-- a file made with a named stream, which is opened: the first SID owns it, ARCHIVE is set, the times are
-- the clock, no time of the parent moves, and the file is noted before the stream
pub making_a_file_and_stream :
    left_by begun (asks (codes "\\g:t") 0x1 OverwriteIf 0x0)
    ≡ record begun {
      files = root_left ∷ (2, hidden_file) ∷ (
        3,
        record {
          directory = false;
          attributes = 0x22;
          creation = 8;
          access = 8;
          write = 8;
          change = 8;
          owner = 7;
          dacl = None;
          point = None;
        },
      ) ∷ [];
      last_file = 3;
      links = link_left ∷ (2, record { parent = 1; name = codes "g"; file = 3; deleted = false }) ∷ [];
      last_link = 2;
      streams = stream_left 1 [] (5 ∷ 6 ∷ []) ∷ stream_left 2 (codes "s") (7 ∷ [])
          ∷ (3, record { file = 3; name = []; bytes = []; deleted = false })
          ∷ (4, record { file = 3; name = codes "t"; bytes = []; deleted = false }) ∷ [];
      last_stream = 4;
      handles = (1, handle_left 2 (Some 4) 0x1 false) ∷ [];
      last_handle = 1;
      changes = change_left 1 0x1 (codes "g") ∷ change_left 6 0x200 (codes "g:t") ∷ [];
    }
unfolding try_create create_at create_walked create_named create_by_link create_found create_there create_in_file create_stream create_on_stream open_stream open_directory open_granted overwrite_existing open_existing clashed create_missing make_file make_directory stopped
making_a_file_and_stream = refl

-- a directory made: it has no stream, and ARCHIVE only where it is asked for; DIR_NAME is noted as added
pub making_a_directory :
    left_by begun (asks (codes "\\D") 0x1 OpenIf 0x1)
    ≡ record begun {
      files = root_left ∷ (2, hidden_file) ∷ (
        3,
        record {
          directory = true;
          attributes = 0x2;
          creation = 8;
          access = 8;
          write = 8;
          change = 8;
          owner = 7;
          dacl = None;
          point = None;
        },
      ) ∷ [];
      last_file = 3;
      links = link_left ∷ (2, record { parent = 1; name = codes "D"; file = 3; deleted = false }) ∷ [];
      last_link = 2;
      handles = (1, handle_left 2 None 0x1 false) ∷ [];
      last_handle = 1;
      changes = change_left 1 0x2 (codes "D") ∷ [];
    }
unfolding try_create create_at create_walked create_named create_by_link create_found create_there create_in_file create_stream create_on_stream open_stream open_directory open_granted overwrite_existing open_existing clashed create_missing make_file make_directory stopped
making_a_directory = refl

-- the root opened: by link 0, without a stream, and nothing is noted
pub opening_the_root :
    left_by begun (asks (codes "\\") 0x1 OpenIf 0x1)
    ≡ record begun { handles = (1, handle_left 0 None 0x1 false) ∷ []; last_handle = 1 }
unfolding try_create create_at create_walked create_named create_by_link create_found create_there create_in_file create_stream create_on_stream open_stream open_directory open_granted overwrite_existing open_existing clashed create_missing make_file make_directory stopped
opening_the_root = refl

-- a refusal at the last check leaves all as it was
pub refusing :
    left_by (held 0x1 0x0 0 None RW) (asks (codes "\\f") 0x3 Supersede 0x0) ≡ held 0x1 0x0 0 None RW
unfolding try_create create_at create_walked create_named create_by_link create_found create_there create_in_file create_stream create_on_stream open_stream open_directory open_granted overwrite_existing open_existing clashed create_missing make_file make_directory stopped
refusing = refl
