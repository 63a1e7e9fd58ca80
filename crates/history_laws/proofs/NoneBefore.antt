-- Where a call, unless it changes oplocks otherwise than by breaks, ends with none of the statuses that are listed for the time
-- behind its breaks, its try has left oplocks as they are. The definition of each request that breaks oplocks is followed once:
-- an end before the breaks leaves the volume as it is, or has a listed status, and each end behind them has one; a rename is
-- followed for a file and for a directory. Other calls break no set.
use Rattle.std.proofs.Common.{◌≡◌, ℕ, Bool, true, false, not, List, [], ◌∷◌, refl, inl, inr, Option, Some, None}
use Rattle.std.specs.Option.{option_map_or}
use Rattle.std.specs.Prelude.{All, option_and_then, if◌then◌else◌}
use Rattle.std.proofs.lemmas.Bool.{cases_Bool}
use Rattle.std.proofs.lemmas.List.Elements.{All-head}
use Rattle.fsa_types.specs.Rows.{row_of}
use Rattle.fsa_types.specs.declared.oplock.HandleSet.{HandleSet}
use Rattle.fsa_types.specs.declared.reply.Blocker.{Blocker}
use Rattle.fsa_types.specs.declared.reply.Interim.{Interim}
use Rattle.fsa_types.specs.declared.reply.Reply.{Reply}
use Rattle.fsa_types.specs.declared.request.Call.{Call}
use Rattle.fsa_types.specs.declared.request.Request.TheVariants as request
use Rattle.fsa_types.specs.declared.request.What.{What}
use Rattle.fsa_types.specs.declared.request.What.TheVariants.{Ask}
use Rattle.fsa_types.specs.declared.status.Status.{Status}
use Rattle.fsa_types.specs.declared.status.Status.TheVariants.{DiskFull, InvalidHandle, QuotaExceeded}
use Rattle.fsa_model.specs.Coherence.{Where, acting_handle, acting_key}
use Rattle.fsa_model.specs.Frame.{asks_create}
use Rattle.fsa_model.specs.Growth.{growth_fault}
use Rattle.fsa_model.specs.Link.{link_at, link_by, link_file, link_into, link_over, link_over_broken, link_over_closed, link_over_other, link_walked, try_link}
use Rattle.fsa_model.specs.Locking.{lock_at, lock_by, lock_free, lock_range, lock_stream, try_lock}
use Rattle.fsa_model.specs.Lookups.{handle_of, is_directory, linked_file}
use Rattle.fsa_model.specs.Open.{Asked, clashed, create_at, create_by_link, create_found, create_in_file, create_missing, create_named, create_on_stream, create_stream, create_there, create_walked, make_directory, make_file, open_directory, open_existing, open_granted, open_stream, overwrite_existing, stopped, try_create}
use Rattle.fsa_model.specs.Outcome.{Outcome, Done, Stay, Hold, refused}
use Rattle.fsa_model.specs.Read.{read_at, read_by, read_bytes, read_range, read_stream, read_unlocked, try_read}
use Rattle.fsa_model.specs.Rename.{rename_at, rename_below_closed, rename_by, rename_directory, rename_done, rename_free, rename_into, rename_link, rename_named, rename_over, rename_over_broken, rename_over_closed, rename_walked, try_rename}
use Rattle.fsa_model.specs.Replacement.{Naming, replace_fault}
use Rattle.fsa_model.specs.SetDisposition.{delete_by, delete_marked, set_disposition_at, set_disposition_by, try_set_disposition}
use Rattle.fsa_model.specs.SetEnd.{set_end_at, set_end_by, set_end_grown, set_end_stream, set_end_to, try_set_end}
use Rattle.fsa_model.specs.Settling.{may_be_held}
use Rattle.fsa_model.specs.Try.{try_what}
use Rattle.fsa_model.specs.Turn.{volume_after}
use Rattle.fsa_model.specs.Volume.{Handle, Volume}
use Rattle.fsa_model.specs.Walk.{Walked, Reached, Barred, Diverted}
use Rattle.fsa_model.specs.Write.{try_write, write_at, write_at_place, write_by, write_bytes, write_grown, write_range, write_stream, write_unlocked}
use Rattle.fsa_model.proofs.FaultStatuses.{Gives, giving}
use Rattle.history_laws.specs.OplockChanges.{MayBreak, acts_on_directory, changes_own, may_end_behind_breaks}
use Rattle.history_laws.proofs.SetsBroken.{BreaksSetsBy, may-some, with_sets_broken}
use Rattle.history_laws.proofs.SetsByCalls.{rest-breaks}
use Rattle.history_laws.proofs.SetsByOpens.{opens_so}

-- ---- ends

-- where a try of such a call from this volume, by a directory's handle or not, ends with a status that isn't listed for it,
-- oplocks are as they were
record Early (directory : Bool) (what : What) (v : Volume) (outcome : Outcome) : Type 0 where
  so : Where (λ reply. not (may_end_behind_breaks directory what reply.status)) (λ (next : Volume). next.oplocks ≡ v.oplocks) outcome

module _ {directory : Bool} {what : What} {v : Volume} where
  early-same : {reply : Reply} → Early directory what v (Done v reply)
  early-same = record { so = λ other. refl }

  early-listed : {w : Volume} {reply : Reply} → may_end_behind_breaks directory what reply.status ≡ true → Early directory what v (Done w reply)
  early-listed is = record { so = λ other. (let impossible = rw is at other in cc) }

  early-held : {w : Volume} {blockers : List Blocker} {interim : Interim} → Early directory what v (Hold w blockers interim)
  early-held = record { so = tt }

  early-if : (test : Bool) (one other : Outcome) → Early directory what v one → Early directory what v other → Early directory what v (if test then one else other)
  early-if true one other holds fails = holds
  early-if false one other holds fails = fails

  early-option : {X : Type 0} (found : Option X) (some : X → Outcome) (none : Outcome) → ((x : X) → Early directory what v (some x)) → Early directory what v none → Early directory what v (option_map_or some found none)
  early-option None some none with_some with_none = with_none
  early-option (Some x) some none with_some with_none = with_some x

  -- whatever the try comes to
  early-stays : (outcome : Outcome) → (volume_after outcome).oplocks ≡ v.oplocks → Early directory what v outcome
  early-stays (Done w reply) stays = record { so = λ other. stays }
  early-stays (Stay w interim) stays = record { so = tt }
  early-stays (Hold w blockers interim) stays = record { so = tt }

  -- refused with a status that is listed, or on
  early-fault : (w : Volume) (fault : Option Status) (other : Outcome) → Gives (may_end_behind_breaks directory what) fault → Early directory what v other → Early directory what v (option_map_or (λ status. refused w status) fault other)
  early-fault w None other gives goes = goes
  early-fault w (Some status) other gives goes = early-listed gives.so

ruleset going = (early-if, early-option, early-same, early-held, early-listed, refl)

-- why a stream can't grow
pub growth-such : {such : Status → Bool} (w : Volume) (stream bytes : ℕ) → such QuotaExceeded ≡ true → such DiskFull ≡ true → Gives such (growth_fault w stream bytes)
growth-such w stream bytes quota full = search (giving, quota, full)

-- ---- reads, writes, new lengths, locks and marks for deletion

read : {directory : Bool} (v : Volume) (client number at count : ℕ) → Early directory (Ask (request.Read number at count)) v (try_read v client number at count)
unfolding try_read read_at read_by read_stream read_range read_unlocked read_bytes
read v client number at count = search going depth 60 fits 4000

write : {directory : Bool} (v : Volume) (client number : ℕ) (at : Option ℕ) (bytes : List ℕ) → Early directory (Ask (request.Write number at bytes)) v (try_write v client number at bytes)
unfolding try_write write_at write_by write_stream write_at_place write_range write_unlocked write_grown write_bytes
write v client number at bytes = search (early-fault, growth-such, going) depth 60 fits 4000

set_end : {directory : Bool} (v : Volume) (client number end : ℕ) → Early directory (Ask (request.SetEnd number end)) v (try_set_end v client number end)
unfolding try_set_end set_end_at set_end_by set_end_stream set_end_to set_end_grown
set_end v client number end = search (early-fault, growth-such, going) depth 60 fits 4000

lock : {directory : Bool} (v : Volume) (client number at count : ℕ) (exclusive wait : Bool) → Early directory (Ask (request.Lock number at count exclusive wait)) v (try_lock v client number at count exclusive wait)
unfolding try_lock lock_at lock_by lock_stream lock_range lock_free
lock v client number at count exclusive wait = search going depth 60 fits 4000

set_disposition : {directory : Bool} (v : Volume) (client number : ℕ) (delete : Bool) → Early directory (Ask (request.SetDisposition number delete)) v (try_set_disposition v client number delete)
unfolding try_set_disposition set_disposition_at set_disposition_by delete_by delete_marked
set_disposition v client number delete = search going depth 60 fits 4000

-- ---- names

stops : {directory : Bool} {what : What} (v : Volume) (file : ℕ) (rest : List ℕ) → Early directory what v (stopped v file rest)
unfolding stopped
stops v file rest = search going depth 60 fits 4000

link_goes : {directory : Bool} (v : Volume) (number : ℕ) (path : List ℕ) (replace : Bool) (naming : Naming) (dir : ℕ) → Early directory (Ask (request.Link number path replace)) v (link_into v naming dir)
unfolding link_into link_over link_over_other link_over_broken link_over_closed
link_goes v number path replace naming dir = search going depth 60 fits 4000

link_walks : {directory : Bool} (v : Volume) (number : ℕ) (path : List ℕ) (replace : Bool) (naming : Naming) (walked : Walked) → Early directory (Ask (request.Link number path replace)) v (link_walked v naming walked)
unfolding link_walked
link_walks v number path replace naming (Reached dir) = link_goes v number path replace naming dir
link_walks v number path replace naming (Barred status) = early-same
link_walks v number path replace naming (Diverted file next) = stops v file _

link : {directory : Bool} (v : Volume) (client number : ℕ) (path : List ℕ) (replace : Bool) → Early directory (Ask (request.Link number path replace)) v (try_link v client number path replace)
unfolding try_link link_at link_by link_file
link v client number path replace = search (going, link_walks) depth 60 fits 4000

-- ---- new names, of a file and of a directory

-- behind the breaks below a directory, the lookup of its new name ends with listed statuses alone
replace-listed : (number : ℕ) (path : List ℕ) (replace : Bool) (w : Volume) (naming : Naming) (link : ℕ) → Gives (may_end_behind_breaks true (Ask (request.Rename number path replace))) (replace_fault w naming link)
replace-listed number path replace w naming link = search giving depth 20

directory_goes : (v : Volume) (number : ℕ) (path : List ℕ) (replace : Bool) (naming : Naming) (dir : ℕ) → Early true (Ask (request.Rename number path replace)) v (rename_directory v naming dir)
unfolding rename_directory rename_below_closed rename_named rename_over rename_over_broken rename_over_closed rename_free rename_done
directory_goes v number path replace naming dir = search (early-fault, replace-listed, going) depth 60 fits 4000

-- a file's is looked up before any break
file_goes : {directory : Bool} (v : Volume) (number : ℕ) (path : List ℕ) (replace : Bool) (naming : Naming) (dir : ℕ) → Early directory (Ask (request.Rename number path replace)) v (rename_named v naming dir)
unfolding rename_named rename_over rename_over_broken rename_over_closed rename_free rename_done
file_goes v number path replace naming dir = search going depth 60 fits 4000

rename_goes : (v : Volume) (number : ℕ) (path : List ℕ) (replace : Bool) (naming : Naming) (dir : ℕ) → Early (is_directory v.files naming.file) (Ask (request.Rename number path replace)) v (rename_into v naming dir)
unfolding rename_into
rename_goes v number path replace naming dir = elim (cases_Bool (is_directory v.files naming.file)) [
  | inl directory ↦ rw directory (directory_goes v number path replace naming dir)
  | inr file ↦ rw file (file_goes v number path replace naming dir)
]

rename_walks : (v : Volume) (number : ℕ) (path : List ℕ) (replace : Bool) (naming : Naming) (walked : Walked) → Early (is_directory v.files naming.file) (Ask (request.Rename number path replace)) v (rename_walked v naming walked)
unfolding rename_walked
rename_walks v number path replace naming (Reached dir) = rename_goes v number path replace naming dir
rename_walks v number path replace naming (Barred status) = early-same
rename_walks v number path replace naming (Diverted file next) = stops v file _

-- by a handle, the test is that of its link
rename_by_handle : (v : Volume) (number id : ℕ) (handle : Handle) (path : List ℕ) (replace : Bool) → Early (is_directory v.files (linked_file v handle.link)) (Ask (request.Rename number path replace)) v (rename_by v id handle path replace)
unfolding rename_by rename_link
rename_by_handle v number id handle path replace = search (going, rename_walks) depth 60 fits 4000

rename_by_row : (v : Volume) (number id : ℕ) (path : List ℕ) (replace : Bool) (row : Option Handle)
    → Early (option_map_or (λ handle. is_directory v.files (linked_file v handle.link)) row false) (Ask (request.Rename number path replace)) v
    (option_map_or (λ handle. rename_by v id handle path replace) row (refused v InvalidHandle))
rename_by_row v number id path replace None = early-same
rename_by_row v number id path replace (Some handle) = rename_by_handle v number id handle path replace

rename_by_number : (v : Volume) (number : ℕ) (path : List ℕ) (replace : Bool) (id : Option ℕ)
    → Early (option_map_or (λ handle. is_directory v.files (linked_file v handle.link)) (option_and_then (λ handle. row_of v.handles handle) id) false) (Ask (request.Rename number path replace)) v
    (option_map_or (λ id. rename_at v id path replace) id (refused v InvalidHandle))
unfolding rename_at
rename_by_number v number path replace None = early-same
rename_by_number v number path replace (Some id) = rename_by_row v number id path replace (row_of v.handles id)

rename : (v : Volume) (call : Call) (number : ℕ) (path : List ℕ) (replace : Bool) → call.what ≡ Ask (request.Rename number path replace)
    → Early (acts_on_directory v call) (Ask (request.Rename number path replace)) v (try_rename v call.client number path replace)
unfolding try_rename
rename v call number path replace is = rw is (rename_by_number v number path replace (handle_of v call.client number))

-- ---- opens

open_there : {directory : Bool} (v : Volume) (asked : Asked) (link file : ℕ) → Early directory (opens_so asked) v (create_found v asked link file)
unfolding create_found create_there create_in_file create_stream create_on_stream open_stream open_directory open_granted clashed open_existing overwrite_existing
open_there v asked link file = search (going, stops) depth 60 fits 4000

open_named : {directory : Bool} (v : Volume) (asked : Asked) (dir : ℕ) (name : List ℕ) → Early directory (opens_so asked) v (create_named v asked dir name)
unfolding create_named create_by_link create_missing make_file make_directory
open_named v asked dir name = search (going, open_there) depth 60 fits 4000

open_walks : {directory : Bool} (v : Volume) (asked : Asked) (walked : Walked) → Early directory (opens_so asked) v (create_walked v asked walked)
unfolding create_walked
open_walks v asked (Reached dir) = search (early-if, open_there, open_named)
open_walks v asked (Barred status) = early-same
open_walks v asked (Diverted file next) = stops v file _

create : {directory : Bool} (v : Volume) (asked : Asked) → Early directory (opens_so asked) v (try_create v asked)
unfolding try_create create_at
create v asked = search (going, open_walks) depth 60 fits 4000

-- ---- what breaks nothing

-- where it may break no set, it breaks none
none-stay : (v : Volume) (call : Call) (outcome : Outcome) → may_be_held call.what ≡ false → BreaksSetsBy v call outcome → (volume_after outcome).oplocks ≡ v.oplocks
none-stay v call outcome none breaks = go breaks.sets breaks.may breaks.oplocks
  where
    go : (sets : List HandleSet) → All (λ on. MayBreak v call breaks.class on) sets
        → (volume_after outcome).oplocks ≡ (with_sets_broken breaks.class (acting_handle v call.client call.what) (acting_key v call.client call.what) sets v).oplocks → (volume_after outcome).oplocks ≡ v.oplocks
    go [] may same = same
    go (on ∷ sets) may same = (let some = may-some v call breaks.class on (All-head (λ on. MayBreak v call breaks.class on) on sets may) in let impossible = rw none at some in cc)

quiet : {directory : Bool} (v : Volume) (client number turn : ℕ) (what : What) → may_be_held what ≡ false → changes_own what ≡ false → asks_create what ≡ false → Early directory what v (try_what v turn client number what)
quiet v client number turn what none others opens =
    let call : Call = record { client = client; number = number; what = what } in
    early-stays (try_what v turn client number what) (none-stay v call (try_what v turn client number what) none (rest-breaks v call turn what refl others opens))

-- ---- any call but a few

some-before : (v : Volume) (call : Call) (turn : ℕ) (what : What) → call.what ≡ what → may_be_held what ≡ true → Early (acts_on_directory v call) what v (try_what v turn call.client call.number what)
some-before v call turn (Ask (request.Create path wanted share disposition options attributes key)) is some = create v _
some-before v call turn (Ask (request.Read handle at count)) is some = read v call.client handle at count
some-before v call turn (Ask (request.Write handle at bytes)) is some = write v call.client handle at bytes
some-before v call turn (Ask (request.SetEnd handle end)) is some = set_end v call.client handle end
some-before v call turn (Ask (request.Lock handle at count exclusive wait)) is some = lock v call.client handle at count exclusive wait
some-before v call turn (Ask (request.SetDisposition handle delete)) is some = set_disposition v call.client handle delete
some-before v call turn (Ask (request.Rename handle path replace)) is some = rename v call handle path replace is
some-before v call turn (Ask (request.Link handle path replace)) is some = link v call.client handle path replace
some-before v call turn _ is some = cc

none-otherwise : {directory : Bool} (v : Volume) (turn client number : ℕ) (what : What) → may_be_held what ≡ false → changes_own what ≡ false → Early directory what v (try_what v turn client number what)
none-otherwise v turn client number (Ask (request.Create path wanted share disposition options attributes key)) none others = cc
none-otherwise v turn client number _ none others = quiet v client number turn _ none others refl

-- a call that ends with a status that isn't listed has left oplocks as they were
pub none-before : (v : Volume) (call : Call) (turn : ℕ) (what : What) → call.what ≡ what → changes_own what ≡ false
    → Where (λ reply. not (may_end_behind_breaks (acts_on_directory v call) what reply.status)) (λ (next : Volume). next.oplocks ≡ v.oplocks) (try_what v turn call.client call.number what)
none-before v call turn what is others = elim (cases_Bool (may_be_held what)) [
  | inl some ↦ (some-before v call turn what is some).so
  | inr none ↦ (none-otherwise v turn call.client call.number what none others).so
]
