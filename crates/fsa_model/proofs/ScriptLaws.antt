-- Laws of scripts: their calls are numbered in turn, within the bounds of requests, and no more than lines.
use Rattle.std.proofs.Common.{◌≡◌, ℕ, ◌+◌, ◌-◌, ◌*◌, ◌<◌, ◌≤◌, zero, suc, List, [], ◌∷◌, ◌++◌, length, map, Bool, true, false, cond, if◌then◌else◌, Option, Some, None, Result, Ok, Err, refl, ap, sym, subst, ◌∙◌, append_assoc, append-nil, arith, length-append, ne_eqb, eqb-true, leb-true, le-leb}
use Rattle.std.proofs.lemmas.Bool.{and_parts}
use Rattle.std.proofs.lemmas.List.Quantifiers.{position-Some}
use Rattle.std.specs.Prelude.{◌==◌, ◌&&◌, not, nat_le, nat_lt, IsTrue, filter, is_some, codes, nat_eq, drop}
use Rattle.std.specs.List.{count_by, enumerate_from, starts_with}
use Rattle.std.proofs.lemmas.List.Splits.{length-slice_split}
use Rattle.std.proofs.lemmas.List.Sums.{sum_by-cons}
use Rattle.fsa_types.specs.declared.request.Call.{Call}
use Rattle.fsa_types.specs.declared.request.Ace.{Ace}
use Rattle.fsa_types.specs.declared.request.DaclChange.{DaclChange}
use Rattle.fsa_types.specs.declared.request.DaclChange.TheVariants.{Keep, Remove, Put}
use Rattle.fsa_types.specs.BoundedList.{full}
use Rattle.fsa_types.specs.declared.request.What.{What}
use Rattle.fsa_types.specs.declared.request.What.TheVariants.{Ask, Tick, WaitFor}
use Rattle.fsa_types.specs.declared.request.Request.TheVariants.{Oplock, Ack}
use Rattle.fsa_types.specs.declared.request.Request.TheVariants.{Create, Close, Read, Write, Flush, SetEnd, Lock, Unlock, QueryDir, Notify, QueryInfo, SetBasic, SetDisposition, Rename, Link, SetSecurity, SetReparse, GetReparse, DeleteReparse, SetQuota, QueryQuota, Cancel}
use Rattle.fsa_types.specs.Request.{dacl_fits, level_fits, what_fits}
use Rattle.fsa_types.specs.CaseTable.{is_at_fault}
use Rattle.fsa_model.specs.Setup.{Client, Script}
use Rattle.fsa_model.specs.Fault.{Kind, BadSyntax, Fault, ◌>>=◌, only_if, read_as}
use Rattle.fsa_model.specs.Numbers.{digit_of, number_after, written_number}
use Rattle.fsa_model.specs.Words.{same, word_of, after_word, field_at, number_at, mask_at, text_at, choice_at, onto, written_bytes, string_of, string_at, ended, is_name, most_id, most_place, most_bytes}
use Rattle.fsa_model.specs.Requests.{what_of}
use Rattle.fsa_model.specs.OpenLines.{most_key, disposition_at, create_fields, close_fields}
use Rattle.fsa_model.specs.ByteLines.{read_fields, start_at, write_fields, flush_fields, set_end_fields}
use Rattle.fsa_model.specs.LockLines.{lock_fields, unlock_fields}
use Rattle.fsa_model.specs.OplockLines.{level_at, oplock_fields, ack_fields}
use Rattle.fsa_model.specs.NameLines.{rename_fields, link_fields, set_disposition_fields}
use Rattle.fsa_model.specs.ListingLines.{dir_kind_at, query_dir_fields, notify_fields}
use Rattle.fsa_model.specs.ControlLines.{set_reparse_fields, get_reparse_fields, delete_reparse_fields, most_limit, set_quota_fields, query_quota_fields}
use Rattle.fsa_model.specs.ClockLines.{tick_fields}
use Rattle.fsa_model.specs.WaitLines.{cancel_fields, wait_fields}
use Rattle.fsa_model.specs.InformationLines.{info_kind_at, query_info_fields, most_time, set_basic_fields, owner_at, ace_of, before_comma, after_entry, ace_onto, aces_of, most_aces, dacl_of, dacl_at, set_security_fields}
use Rattle.fsa_model.specs.Lines.{Line, Version, DefaultTable, PairTable, Pair, ClientLine, RequestLine, pair_at, sids_at, client_at, request_of, line_of}
use Rattle.fsa_model.specs.Script.{Reading, nothing_read, takes_version, takes_table, takes_pairs, takes_clients, takes_requests, place_of, next_number, with_call, with_client, take_client, take_call, take_request_of, take_request, take_line, line_after, end_after, at_line, lines_from, pieces, script_of}
use Rattle.fsa_model.specs.Schedule.{calls_of, leave_after, AreNumbered, all_calls}
use Rattle.fsa_model.specs.LineCalls.{ticks_fit, IsLineCall, AreLineCalls, HaveSids}
use Rattle.fsa_model.proofs.ScheduleLaws.{calls_of-push}

-- ---- the leaves behind the lines

pub AreNumbered-append : (before front back : List Call) → AreNumbered before front → AreNumbered (before ++ front) back → AreNumbered before (front ++ back)
AreNumbered-append before [] back first rest = subst (λ (calls : List Call). AreNumbered calls back) (append-nil before) rest
AreNumbered-append before (call ∷ front) back first rest =
    (first.0, AreNumbered-append (before ++ call ∷ []) front back first.1 (subst (λ (calls : List Call). AreNumbered calls back) (sym (append_assoc before (call ∷ []) front)) rest))

-- a call of another client doesn't count
calls_of-other : (client : ℕ) (calls : List Call) (call : Call) → call.client < client → calls_of client (calls ++ call ∷ []) ≡ calls_of client calls
calls_of-other client calls call below =
    let other : (call.client == client) ≡ false = ne_eqb call.client client (λ same. omega arith) in
    calls_of-push client calls call ∙ rw other (omega arith)

leaves-numbered : (lines before : List Call) (place : ℕ) (clients : List Client) → ((client : ℕ) → place ≤ client → calls_of client before ≡ calls_of client lines)
    → AreNumbered before (map (λ numbered. leave_after lines numbered.0) (enumerate_from place clients))
leaves-numbered lines before place [] counts = tt
leaves-numbered lines before place (one ∷ clients) counts = (
  ap (λ count. count + 1) (sym (counts place (omega arith))),
  leaves-numbered lines (before ++ leave_after lines place ∷ []) (place + 1) clients
      (λ client past. calls_of-other client before (leave_after lines place) (omega arith) ∙ counts client (omega arith)),
)

-- the clients' leaves have the next numbers
pub all_calls-numbered : (script : Script) → AreNumbered [] script.lines → AreNumbered [] (all_calls script)
all_calls-numbered script numbered =
    AreNumbered-append [] script.lines (map (λ numbered. leave_after script.lines numbered.0) (enumerate_from 0 script.setup.clients)) numbered
    (leaves-numbered script.lines script.lines 0 script.setup.clients (λ client past. refl))

-- ---- what holds of all that may be read

-- what was read, if anything was, is so
record IfRead {A E : Type 0} (P : A → Type 0) (read : Result A E) : Type 0 where
  given : (value : A) → read ≡ Ok value → P value

ok-gives : {A E : Type 0} (P : A → Type 0) (value : A) → P value → IfRead {E = E} P (Ok value)
ok-gives P value holds = record { given = λ other is. let same : value ≡ other = cc in subst P same holds }

err-gives : {A E : Type 0} (P : A → Type 0) (fault : E) → IfRead {A = A} P (Err fault)
err-gives P fault = record { given = λ value is. cc }

bind-gives : {A B : Type 0} (P : A → Type 0) (Q : B → Type 0) (read : Result A Kind) (more : A → Result B Kind) → IfRead P read → ((value : A) → P value → IfRead Q (more value)) → IfRead Q (read >>= more)
bind-gives P Q (Ok value) more gives next = next value (gives.given value refl)
bind-gives P Q (Err kind) more gives next = err-gives Q kind

then-gives : {A B : Type 0} (Q : B → Type 0) (read : Result A Kind) (more : A → Result B Kind) → ((value : A) → IfRead Q (more value)) → IfRead Q (read >>= more)
then-gives Q (Ok value) more next = next value
then-gives Q (Err kind) more next = err-gives Q kind

if-gives : {A E : Type 0} (P : A → Type 0) (test : Bool) (one other : Result A E) → (test ≡ true → IfRead P one) → (test ≡ false → IfRead P other) → IfRead P (if test then one else other)
if-gives P true one other holds fails = holds refl
if-gives P false one other holds fails = fails refl

only_if-gives : {A : Type 0} (P : A → Type 0) (test : Bool) (value : A) → P value → IfRead P (only_if test value)
only_if-gives P true value holds = ok-gives P value holds
only_if-gives P false value holds = err-gives P _

only_if-when : {A : Type 0} (P : A → Type 0) (test : Bool) (value : A) → (test ≡ true → P value) → IfRead P (only_if test value)
only_if-when P true value holds = ok-gives P value (holds refl)
only_if-when P false value holds = err-gives P BadSyntax

-- ---- the bounds of the fields

-- the number that was read is at most this
abbrev IsAtMost : ℕ → ℕ × List ℕ → Type 0
IsAtMost most read = read.0 ≤ most

if_some : {A : Type 0} (test : Bool) (read : Option A) (value : A) → (if test then read else None) ≡ Some value → test ≡ true
if_some true read value is = refl
if_some false read value is = cc

else_some : {A : Type 0} (test : Bool) (read : Option A) (value : A) → (if test then None else read) ≡ Some value → read ≡ Some value
else_some true read value is = cc
else_some false read value is = is

number_after-bound : (base most n : ℕ) (bytes : List ℕ) (number : ℕ) → n ≤ most → number_after base most n bytes ≡ Some number → number ≤ most
number_after-bound base most n [] number below is = let same : n ≡ number = cc in omega arith
number_after-bound base most n (byte ∷ bytes) number below is =
    let within : (nat_lt (digit_of byte) base && nat_le (n * base + digit_of byte) most) ≡ true = if_some _ _ number is in
    number_after-bound base most (n * base + digit_of byte) bytes number (leb-true _ most (and_parts (nat_lt (digit_of byte) base) (nat_le (n * base + digit_of byte) most) within).1) (rw within at is)

number_of-bound : (base most : ℕ) (bytes : List ℕ) (number : ℕ) → written_number base most bytes ≡ Some number → number ≤ most
number_of-bound base most [] number is = cc
number_of-bound base most (byte ∷ []) number is = number_after-bound base most 0 (byte ∷ []) number (omega arith) is
number_of-bound base most (byte ∷ second ∷ bytes) number is =
    number_after-bound base most 0 (byte ∷ second ∷ bytes) number (omega arith) (else_some (byte == 48) _ number is)

read_as-gives : {A : Type 0} (P : A → Type 0) (read : Option A) → ((value : A) → read ≡ Some value → P value) → IfRead P (read_as read)
read_as-gives P None holds = err-gives P _
read_as-gives P (Some value) holds = ok-gives P value (holds value refl)

number_at-bound : (most : ℕ) (bytes : List ℕ) → IfRead (IsAtMost most) (number_at most bytes)
unfolding number_at
number_at-bound most bytes =
    then-gives (IsAtMost most) (field_at bytes) _ (λ word.
    bind-gives (λ (number : ℕ). number ≤ most) (IsAtMost most) (read_as (written_number 10 most word.0)) _ (read_as-gives (λ (number : ℕ). number ≤ most) (written_number 10 most word.0) (number_of-bound 10 most word.0)) (λ number below.
    ok-gives (IsAtMost most) (number, word.1) below))

-- a list has at most half as many items as this
abbrev IsHalf : ℕ → List ℕ → Type 0
IsHalf most items = length items + length items ≤ most

onto-half : (most item : ℕ) (read : Result (List ℕ) Kind) → IfRead (IsHalf most) read → IfRead (IsHalf (suc (suc most))) (onto item read)
onto-half most item (Ok items) half = ok-gives (IsHalf (suc (suc most))) (item ∷ items) (let few : length items + length items ≤ most = half.given items refl in omega arith)
onto-half most item (Err kind) half = err-gives (IsHalf (suc (suc most))) kind

bytes_of-half : (digits : List ℕ) → IfRead (IsHalf (length digits)) (written_bytes digits)
bytes_of-half [] = ok-gives (IsHalf 0) [] (omega arith)
bytes_of-half (digit ∷ []) = err-gives (IsHalf 1) _
bytes_of-half (high ∷ low ∷ digits) =
    if-gives (IsHalf (suc (suc (length digits)))) (nat_lt (digit_of high) 16 && nat_lt (digit_of low) 16) _ _
    (λ good. onto-half (length digits) (digit_of high * 16 + digit_of low) (written_bytes digits) (bytes_of-half digits))
    (λ bad. err-gives (IsHalf (suc (suc (length digits)))) _)

-- at most 16,384 bytes
abbrev IsShort : List ℕ → Type 0
IsShort items = length items ≤ 16384

half-short : (most : ℕ) (read : Result (List ℕ) Kind) → most ≤ 32768 → IfRead (IsHalf most) read → IfRead IsShort read
half-short most read few half = record { given = λ items is. let twice : length items + length items ≤ most = half.given items is in omega arith }

string_of-short : (word : List ℕ) → IfRead IsShort (string_of word)
unfolding string_of
string_of-short [] = err-gives IsShort _
string_of-short (byte ∷ digits) =
    if-gives IsShort (byte == 120 && nat_le (length digits) 32768) _ _
    (λ good. half-short (length digits) (written_bytes digits) (leb-true _ 32768 (and_parts (byte == 120) (nat_le (length digits) 32768) good).1) (bytes_of-half digits))
    (λ bad. err-gives IsShort _)

abbrev IsShortAt : List ℕ × List ℕ → Type 0
IsShortAt read = IsShort read.0

string_at-short : (bytes : List ℕ) → IfRead IsShortAt (string_at bytes)
unfolding string_at
string_at-short bytes =
    then-gives IsShortAt (field_at bytes) _ (λ word.
    bind-gives IsShort IsShortAt (string_of word.0) _ (string_of-short word.0) (λ string short. ok-gives IsShortAt (string, word.1) short))

-- ---- the requests are within the bounds

abbrev Fits : What → Type 0
Fits what = IsTrue (what_fits what) × IsTrue (ticks_fit what)

ended-gives : {A : Type 0} (P : A → Type 0) (rest : List ℕ) (value : A) → P value → IfRead P (ended rest value)
ended-gives P rest value holds = only_if-gives P (length rest == 0) value holds

create_fields-fits : (bytes : List ℕ) → IfRead Fits (create_fields bytes)
unfolding create_fields
create_fields-fits bytes =
    then-gives Fits (text_at bytes) _ (λ path. then-gives Fits (mask_at path.1) _ (λ wanted. then-gives Fits (mask_at wanted.1) _ (λ share.
    then-gives Fits (disposition_at share.1) _ (λ disposition. then-gives Fits (mask_at disposition.1) _ (λ options. then-gives Fits (mask_at options.1) _ (λ attributes.
    then-gives Fits (number_at most_key attributes.1) _ (λ key.
    ended-gives Fits key.1 (Ask (Create path.0 wanted.0 share.0 disposition.0 options.0 attributes.0 key.0)) (refl, refl))))))))

close_fields-fits : (bytes : List ℕ) → IfRead Fits (close_fields bytes)
unfolding close_fields
close_fields-fits bytes = then-gives Fits (number_at most_id bytes) _ (λ handle. ended-gives Fits handle.1 (Ask (Close handle.0)) (refl, refl))

read_fields-fits : (bytes : List ℕ) → IfRead Fits (read_fields bytes)
unfolding read_fields
read_fields-fits bytes =
    then-gives Fits (number_at most_id bytes) _ (λ handle. then-gives Fits (number_at most_place handle.1) _ (λ place.
    bind-gives (IsAtMost most_bytes) Fits (number_at most_bytes place.1) _ (number_at-bound most_bytes place.1) (λ count below.
    ended-gives Fits count.1 (Ask (Read handle.0 place.0 count.0)) (le-leb count.0 16384 below, refl))))

write_fields-fits : (bytes : List ℕ) → IfRead Fits (write_fields bytes)
unfolding write_fields
write_fields-fits bytes =
    then-gives Fits (number_at most_id bytes) _ (λ handle. then-gives Fits (start_at handle.1) _ (λ start.
    bind-gives IsShortAt Fits (string_at start.1) _ (string_at-short start.1) (λ string short.
    ended-gives Fits string.1 (Ask (Write handle.0 start.0 string.0)) (le-leb (length string.0) 16384 short, refl))))

flush_fields-fits : (bytes : List ℕ) → IfRead Fits (flush_fields bytes)
unfolding flush_fields
flush_fields-fits bytes = then-gives Fits (number_at most_id bytes) _ (λ handle. ended-gives Fits handle.1 (Ask (Flush handle.0)) (refl, refl))

set_end_fields-fits : (bytes : List ℕ) → IfRead Fits (set_end_fields bytes)
unfolding set_end_fields
set_end_fields-fits bytes =
    then-gives Fits (number_at most_id bytes) _ (λ handle. then-gives Fits (number_at most_place handle.1) _ (λ length.
    ended-gives Fits length.1 (Ask (SetEnd handle.0 length.0)) (refl, refl)))

lock_fields-fits : (bytes : List ℕ) → IfRead Fits (lock_fields bytes)
unfolding lock_fields
lock_fields-fits bytes =
    then-gives Fits (number_at most_id bytes) _ (λ handle. then-gives Fits (number_at most_place handle.1) _ (λ place. then-gives Fits (number_at most_place place.1) _ (λ count.
    then-gives Fits (choice_at (codes "ex") (codes "sh") count.1) _ (λ exclusive. then-gives Fits (choice_at (codes "wait") (codes "now") exclusive.1) _ (λ wait.
    ended-gives Fits wait.1 (Ask (Lock handle.0 place.0 count.0 exclusive.0 wait.0)) (refl, refl))))))

unlock_fields-fits : (bytes : List ℕ) → IfRead Fits (unlock_fields bytes)
unfolding unlock_fields
unlock_fields-fits bytes =
    then-gives Fits (number_at most_id bytes) _ (λ handle. then-gives Fits (number_at most_place handle.1) _ (λ place. then-gives Fits (number_at most_place place.1) _ (λ count.
    ended-gives Fits count.1 (Ask (Unlock handle.0 place.0 count.0)) (refl, refl))))

oplock_fields-fits : (bytes : List ℕ) → IfRead Fits (oplock_fields bytes)
unfolding oplock_fields
oplock_fields-fits bytes =
    then-gives Fits (number_at most_id bytes) _ (λ handle. then-gives Fits (level_at handle.1) _ (λ level.
    bind-gives Fits Fits (only_if (level_fits level.0) (Ask (Oplock handle.0 level.0))) _
    (only_if-when Fits (level_fits level.0) (Ask (Oplock handle.0 level.0)) (λ fits. (fits, refl)))
    (λ what fits. ended-gives Fits level.1 what fits)))

ack_fields-fits : (bytes : List ℕ) → IfRead Fits (ack_fields bytes)
unfolding ack_fields
ack_fields-fits bytes =
    then-gives Fits (number_at most_id bytes) _ (λ handle. then-gives Fits (level_at handle.1) _ (λ level.
    ended-gives Fits level.1 (Ask (Ack handle.0 level.0)) (refl, refl)))

rename_fields-fits : (bytes : List ℕ) → IfRead Fits (rename_fields bytes)
unfolding rename_fields
rename_fields-fits bytes =
    then-gives Fits (number_at most_id bytes) _ (λ handle. then-gives Fits (text_at handle.1) _ (λ path. then-gives Fits (choice_at (codes "replace") (codes "keep") path.1) _ (λ replace.
    ended-gives Fits replace.1 (Ask (Rename handle.0 path.0 replace.0)) (refl, refl))))

link_fields-fits : (bytes : List ℕ) → IfRead Fits (link_fields bytes)
unfolding link_fields
link_fields-fits bytes =
    then-gives Fits (number_at most_id bytes) _ (λ handle. then-gives Fits (text_at handle.1) _ (λ path. then-gives Fits (choice_at (codes "replace") (codes "keep") path.1) _ (λ replace.
    ended-gives Fits replace.1 (Ask (Link handle.0 path.0 replace.0)) (refl, refl))))

set_disposition_fields-fits : (bytes : List ℕ) → IfRead Fits (set_disposition_fields bytes)
unfolding set_disposition_fields
set_disposition_fields-fits bytes =
    then-gives Fits (number_at most_id bytes) _ (λ handle. then-gives Fits (choice_at (codes "yes") (codes "no") handle.1) _ (λ delete.
    ended-gives Fits delete.1 (Ask (SetDisposition handle.0 delete.0)) (refl, refl)))

query_info_fields-fits : (bytes : List ℕ) → IfRead Fits (query_info_fields bytes)
unfolding query_info_fields
query_info_fields-fits bytes =
    then-gives Fits (number_at most_id bytes) _ (λ handle. then-gives Fits (info_kind_at handle.1) _ (λ kind.
    bind-gives (IsAtMost most_bytes) Fits (number_at most_bytes kind.1) _ (number_at-bound most_bytes kind.1) (λ room below.
    ended-gives Fits room.1 (Ask (QueryInfo handle.0 kind.0 room.0)) (le-leb room.0 16384 below, refl))))

set_basic_fields-fits : (bytes : List ℕ) → IfRead Fits (set_basic_fields bytes)
unfolding set_basic_fields
set_basic_fields-fits bytes =
    then-gives Fits (number_at most_id bytes) _ (λ handle. then-gives Fits (number_at most_time handle.1) _ (λ creation. then-gives Fits (number_at most_time creation.1) _ (λ access.
    then-gives Fits (number_at most_time access.1) _ (λ write. then-gives Fits (number_at most_time write.1) _ (λ change. then-gives Fits (mask_at change.1) _ (λ attributes.
    ended-gives Fits attributes.1 (Ask (SetBasic handle.0 creation.0 access.0 write.0 change.0 attributes.0)) (refl, refl)))))))

query_dir_fields-fits : (bytes : List ℕ) → IfRead Fits (query_dir_fields bytes)
unfolding query_dir_fields
query_dir_fields-fits bytes =
    then-gives Fits (number_at most_id bytes) _ (λ handle. then-gives Fits (dir_kind_at handle.1) _ (λ kind. then-gives Fits (text_at kind.1) _ (λ expression.
    then-gives Fits (choice_at (codes "restart") (codes "go") expression.1) _ (λ restart.
    bind-gives (IsAtMost most_bytes) Fits (number_at most_bytes restart.1) _ (number_at-bound most_bytes restart.1) (λ room below.
    ended-gives Fits room.1 (Ask (QueryDir handle.0 kind.0 expression.0 restart.0 room.0)) (le-leb room.0 16384 below, refl))))))

notify_fields-fits : (bytes : List ℕ) → IfRead Fits (notify_fields bytes)
unfolding notify_fields
notify_fields-fits bytes =
    then-gives Fits (number_at most_id bytes) _ (λ handle. then-gives Fits (mask_at handle.1) _ (λ filter. then-gives Fits (choice_at (codes "tree") (codes "flat") filter.1) _ (λ tree.
    bind-gives (IsAtMost most_bytes) Fits (number_at most_bytes tree.1) _ (number_at-bound most_bytes tree.1) (λ room below.
    ended-gives Fits room.1 (Ask (Notify handle.0 filter.0 tree.0 room.0)) (le-leb room.0 16384 below, refl)))))

set_reparse_fields-fits : (bytes : List ℕ) → IfRead Fits (set_reparse_fields bytes)
unfolding set_reparse_fields
set_reparse_fields-fits bytes =
    then-gives Fits (number_at most_id bytes) _ (λ handle.
    bind-gives IsShortAt Fits (string_at handle.1) _ (string_at-short handle.1) (λ buffer short.
    ended-gives Fits buffer.1 (Ask (SetReparse handle.0 buffer.0)) (le-leb (length buffer.0) 16384 short, refl)))

get_reparse_fields-fits : (bytes : List ℕ) → IfRead Fits (get_reparse_fields bytes)
unfolding get_reparse_fields
get_reparse_fields-fits bytes =
    then-gives Fits (number_at most_id bytes) _ (λ handle.
    bind-gives (IsAtMost most_bytes) Fits (number_at most_bytes handle.1) _ (number_at-bound most_bytes handle.1) (λ room below.
    ended-gives Fits room.1 (Ask (GetReparse handle.0 room.0)) (le-leb room.0 16384 below, refl)))

delete_reparse_fields-fits : (bytes : List ℕ) → IfRead Fits (delete_reparse_fields bytes)
unfolding delete_reparse_fields
delete_reparse_fields-fits bytes =
    then-gives Fits (number_at most_id bytes) _ (λ handle. then-gives Fits (mask_at handle.1) _ (λ tag.
    ended-gives Fits tag.1 (Ask (DeleteReparse handle.0 tag.0)) (refl, refl)))

set_quota_fields-fits : (bytes : List ℕ) → IfRead Fits (set_quota_fields bytes)
unfolding set_quota_fields
set_quota_fields-fits bytes =
    then-gives Fits (number_at most_id bytes) _ (λ sid. then-gives Fits (number_at most_limit sid.1) _ (λ limit.
    ended-gives Fits limit.1 (Ask (SetQuota sid.0 limit.0)) (refl, refl)))

query_quota_fields-fits : (bytes : List ℕ) → IfRead Fits (query_quota_fields bytes)
unfolding query_quota_fields
query_quota_fields-fits bytes = then-gives Fits (number_at most_id bytes) _ (λ sid. ended-gives Fits sid.1 (Ask (QueryQuota sid.0)) (refl, refl))

tick_fields-fits : (bytes : List ℕ) → IfRead Fits (tick_fields bytes)
unfolding tick_fields
tick_fields-fits bytes =
    bind-gives (IsAtMost most_id) Fits (number_at most_id bytes) _ (number_at-bound most_id bytes) (λ ticks below.
    ended-gives Fits ticks.1 (Tick ticks.0) (refl, le-leb ticks.0 4294967295 below))

cancel_fields-fits : (bytes : List ℕ) → IfRead Fits (cancel_fields bytes)
unfolding cancel_fields
cancel_fields-fits bytes = then-gives Fits (number_at most_id bytes) _ (λ number. ended-gives Fits number.1 (Ask (Cancel number.0)) (refl, refl))

wait_fields-fits : (bytes : List ℕ) → IfRead Fits (wait_fields bytes)
unfolding wait_fields
wait_fields-fits bytes = then-gives Fits (number_at most_id bytes) _ (λ number. ended-gives Fits number.1 (WaitFor number.0) (refl, refl))

-- at most so many entries
abbrev AreFew : ℕ → List Ace → Type 0
AreFew most aces = length aces ≤ most

ace_onto-few : (most : ℕ) (ace : Ace) (read : Result (List Ace) Kind) → IfRead (AreFew most) read → IfRead (AreFew (suc most)) (ace_onto ace read)
ace_onto-few most ace (Ok aces) few = ok-gives (AreFew (suc most)) (ace ∷ aces) (let at_most : length aces ≤ most = few.given aces refl in omega arith)
ace_onto-few most ace (Err kind) few = err-gives (AreFew (suc most)) kind

aces_of-few : (most : ℕ) (bytes : List ℕ) → IfRead (AreFew most) (aces_of most bytes)
unfolding aces_of
aces_of-few zero bytes = only_if-gives (AreFew 0) (length bytes == 0) [] (omega arith)
aces_of-few (suc most) [] = ok-gives (AreFew (suc most)) [] (omega arith)
aces_of-few (suc most) (comma ∷ bytes) =
    if-gives (AreFew (suc most)) (comma == 44) _ _
    (λ is. then-gives (AreFew (suc most)) (ace_of (before_comma bytes)) _ (λ ace. ace_onto-few most ace (aces_of most (after_entry bytes)) (aces_of-few most (after_entry bytes))))
    (λ no. err-gives (AreFew (suc most)) _)

abbrev DaclFits : DaclChange → Type 0
DaclFits dacl = IsTrue (dacl_fits dacl)

dacl_of-fits : (word : List ℕ) → IfRead DaclFits (dacl_of word)
unfolding dacl_of
dacl_of-fits word =
    if-gives DaclFits (same word (codes "keep")) _ _ (λ is. ok-gives DaclFits Keep refl)
    (λ no. if-gives DaclFits (same word (codes "null")) _ _ (λ is. ok-gives DaclFits Remove refl)
    (λ no. if-gives DaclFits (starts_with nat_eq word (codes "acl")) _ _
    (λ is. bind-gives (AreFew most_aces) DaclFits (aces_of most_aces (drop 3 word)) _ (aces_of-few most_aces (drop 3 word)) (λ aces few. ok-gives DaclFits (Put (full aces)) (le-leb (length aces) 32 few)))
    (λ no. err-gives DaclFits _)))

abbrev DaclFitsAt : DaclChange × List ℕ → Type 0
DaclFitsAt read = DaclFits read.0

dacl_at-fits : (bytes : List ℕ) → IfRead DaclFitsAt (dacl_at bytes)
unfolding dacl_at
dacl_at-fits bytes =
    then-gives DaclFitsAt (field_at bytes) _ (λ word.
    bind-gives DaclFits DaclFitsAt (dacl_of word.0) _ (dacl_of-fits word.0) (λ dacl fits. ok-gives DaclFitsAt (dacl, word.1) fits))

set_security_fields-fits : (bytes : List ℕ) → IfRead Fits (set_security_fields bytes)
unfolding set_security_fields
set_security_fields-fits bytes =
    then-gives Fits (number_at most_id bytes) _ (λ handle. then-gives Fits (owner_at handle.1) _ (λ owner.
    bind-gives DaclFitsAt Fits (dacl_at owner.1) _ (dacl_at-fits owner.1) (λ dacl fits.
    ended-gives Fits dacl.1 (Ask (SetSecurity handle.0 owner.0 dacl.0)) (fits, refl))))

what_of-fits : (verb fields : List ℕ) → IfRead Fits (what_of verb fields)
unfolding what_of
what_of-fits verb fields =
    if-gives Fits (same verb (codes "create")) _ _ (λ is. create_fields-fits fields)
    (λ no. if-gives Fits (same verb (codes "close")) _ _ (λ is. close_fields-fits fields)
    (λ no. if-gives Fits (same verb (codes "read")) _ _ (λ is. read_fields-fits fields)
    (λ no. if-gives Fits (same verb (codes "write")) _ _ (λ is. write_fields-fits fields)
    (λ no. if-gives Fits (same verb (codes "flush")) _ _ (λ is. flush_fields-fits fields)
    (λ no. if-gives Fits (same verb (codes "setend")) _ _ (λ is. set_end_fields-fits fields)
    (λ no. if-gives Fits (same verb (codes "lock")) _ _ (λ is. lock_fields-fits fields)
    (λ no. if-gives Fits (same verb (codes "unlock")) _ _ (λ is. unlock_fields-fits fields)
    (λ no. if-gives Fits (same verb (codes "oplock")) _ _ (λ is. oplock_fields-fits fields)
    (λ no. if-gives Fits (same verb (codes "ack")) _ _ (λ is. ack_fields-fits fields)
    (λ no. if-gives Fits (same verb (codes "rename")) _ _ (λ is. rename_fields-fits fields)
    (λ no. if-gives Fits (same verb (codes "link")) _ _ (λ is. link_fields-fits fields)
    (λ no. if-gives Fits (same verb (codes "setdelete")) _ _ (λ is. set_disposition_fields-fits fields)
    (λ no. if-gives Fits (same verb (codes "query")) _ _ (λ is. query_info_fields-fits fields)
    (λ no. if-gives Fits (same verb (codes "setbasic")) _ _ (λ is. set_basic_fields-fits fields)
    (λ no. if-gives Fits (same verb (codes "setsecurity")) _ _ (λ is. set_security_fields-fits fields)
    (λ no. if-gives Fits (same verb (codes "querydir")) _ _ (λ is. query_dir_fields-fits fields)
    (λ no. if-gives Fits (same verb (codes "notify")) _ _ (λ is. notify_fields-fits fields)
    (λ no. if-gives Fits (same verb (codes "setreparse")) _ _ (λ is. set_reparse_fields-fits fields)
    (λ no. if-gives Fits (same verb (codes "getreparse")) _ _ (λ is. get_reparse_fields-fits fields)
    (λ no. if-gives Fits (same verb (codes "deletereparse")) _ _ (λ is. delete_reparse_fields-fits fields)
    (λ no. if-gives Fits (same verb (codes "setquota")) _ _ (λ is. set_quota_fields-fits fields)
    (λ no. if-gives Fits (same verb (codes "queryquota")) _ _ (λ is. query_quota_fields-fits fields)
    (λ no. if-gives Fits (same verb (codes "tick")) _ _ (λ is. tick_fields-fits fields)
    (λ no. if-gives Fits (same verb (codes "cancel")) _ _ (λ is. cancel_fields-fits fields)
    (λ no. if-gives Fits (same verb (codes "wait")) _ _ (λ is. wait_fields-fits fields)
    (λ no. err-gives Fits _))))))))))))))))))))))))))

-- a line that is a request is within the bounds, and one of a client has a SID
abbrev LineFits : Line → Type 0
LineFits (ClientLine name sids) = 0 < length sids
LineFits (RequestLine name number what) = Fits what
LineFits _ = Unit {0}

pair_at-fits : (bytes : List ℕ) → IfRead LineFits (pair_at bytes)
unfolding pair_at
pair_at-fits bytes = then-gives LineFits (mask_at bytes) _ (λ source. then-gives LineFits (mask_at source.1) _ (λ target. ended-gives LineFits target.1 (Pair source.0 target.0) tt))

client_at-fits : (bytes : List ℕ) → IfRead LineFits (client_at bytes)
unfolding client_at
client_at-fits bytes =
    then-gives LineFits (field_at bytes) _ (λ word. then-gives LineFits (only_if (is_name word.0) word.0) _ (λ name. then-gives LineFits (number_at most_id word.1) _ (λ sid.
    then-gives LineFits (sids_at 15 sid.1) _ (λ sids. ok-gives LineFits (ClientLine name (sid.0 ∷ sids)) (omega arith)))))

request_of-fits : (bytes : List ℕ) → IfRead LineFits (request_of bytes)
unfolding request_of
request_of-fits bytes =
    then-gives LineFits (only_if (is_name (word_of bytes)) (word_of bytes)) _ (λ name. then-gives LineFits (number_at most_id (after_word bytes)) _ (λ number. then-gives LineFits (field_at number.1) _ (λ verb.
    bind-gives Fits LineFits (what_of verb.0 verb.1) _ (what_of-fits verb.0 verb.1) (λ what fits. ok-gives LineFits (RequestLine name number.0 what) fits))))

line_of-fits : (bytes : List ℕ) → IfRead LineFits (line_of bytes)
unfolding line_of
line_of-fits bytes =
    if-gives LineFits (same bytes (codes "fsa 1")) _ _ (λ is. ok-gives LineFits Version tt)
    (λ no. if-gives LineFits (same bytes (codes "table default")) _ _ (λ is. ok-gives LineFits DefaultTable tt)
    (λ no. if-gives LineFits (same bytes (codes "table pairs")) _ _ (λ is. ok-gives LineFits PairTable tt)
    (λ no. if-gives LineFits (starts_with nat_eq bytes (codes "up 0x")) _ _ (λ is. pair_at-fits (drop 2 bytes))
    (λ no. if-gives LineFits (starts_with nat_eq bytes (codes "client ")) _ _ (λ is. client_at-fits (drop 6 bytes))
    (λ no. request_of-fits bytes)))))

-- ---- the calls of the lines so far

HaveSids-push : (clients : List Client) (client : Client) → HaveSids clients → 0 < length client.sids → HaveSids (clients ++ client ∷ [])
HaveSids-push [] client have last = (last, tt)
HaveSids-push (one ∷ clients) client have last = (have.0, HaveSids-push clients client have.1 last)

-- the calls are numbered in turn, and each is one of so many clients and within the bounds
record Lawful (clients : ℕ) (lines : List Call) : Type 0 where
  numbered : AreNumbered [] lines
  fit : AreLineCalls clients lines

AreLineCalls-push : (clients : ℕ) (calls : List Call) (call : Call) → AreLineCalls clients calls → IsLineCall clients call → AreLineCalls clients (calls ++ call ∷ [])
AreLineCalls-push clients [] call fit last = (last, tt)
AreLineCalls-push clients (one ∷ calls) call fit last = (fit.0, AreLineCalls-push clients calls call fit.1 last)

-- so they are of more clients
AreLineCalls-more : (few many : ℕ) (calls : List Call) → few ≤ many → AreLineCalls few calls → AreLineCalls many calls
AreLineCalls-more few many [] more fit = tt
AreLineCalls-more few many (call ∷ calls) more fit = (
  record { fits = fit.0.fits; ticks = fit.0.ticks; client = let below : call.client < few = fit.0.client in omega arith },
  AreLineCalls-more few many calls more fit.1,
)

pub length-filter_calls : (calls : List Call) (client : ℕ) → length (filter (λ (call : Call). call.client == client) calls) ≡ calls_of client calls
length-filter_calls [] client = refl
length-filter_calls (call ∷ calls) client =
    elim (call.client == client) as (λ test. length (cond test (call ∷ filter (λ (call : Call). call.client == client) calls) (filter (λ (call : Call). call.client == client) calls)) ≡ cond test 1 0 + calls_of client calls) [
      | true ↦ omega (arith, length-filter_calls calls client)
      | false ↦ omega (arith, length-filter_calls calls client)
    ]

Lawful-push : (clients : ℕ) (lines : List Call) (call : Call) → Lawful clients lines → call.number ≡ next_number lines call.client → IsLineCall clients call
    → Lawful clients (lines ++ call ∷ [])
Lawful-push clients lines call lawful next fits = record {
  numbered = AreNumbered-append [] lines (call ∷ []) lawful.numbered (next ∙ ap (λ count. count + 1) (length-filter_calls lines call.client), tt);
  fit = AreLineCalls-push clients lines call lawful.fit fits;
}

-- how many clients were read
abbrev clients_in : Reading → ℕ
clients_in reading = length reading.script.setup.clients

abbrev IsLawfulScript : Script → Type 0
IsLawfulScript script = HaveSids script.setup.clients × Lawful (length script.setup.clients) script.lines

abbrev IsLawful : Reading → Type 0
IsLawful reading = IsLawfulScript reading.script

Lawful-more : (few many : ℕ) (lines : List Call) → few ≤ many → Lawful few lines → Lawful many lines
Lawful-more few many lines more lawful = record { numbered = lawful.numbered; fit = AreLineCalls-more few many lines more lawful.fit }

-- the place of a name is one of those of the clients
place_of-below : (clients : List Client) (name : List ℕ) (place : ℕ) → place_of clients name ≡ Some place → place < length clients
place_of-below clients name place is = (position-Some (λ (client : Client). same name client.name) clients place (record { name = []; sids = [] }) is).0

take_call-lawful : (reading : Reading) (client number : ℕ) (what : What) → IsLawful reading → client < clients_in reading → Fits what
    → IfRead IsLawful (take_call reading client number what)
unfolding take_call
take_call-lawful reading client number what lawful known fits =
    if-gives IsLawful (number == next_number reading.script.lines client) _ _
    (λ is. ok-gives IsLawful (with_call reading client number what) (
      lawful.0,
      Lawful-push (clients_in reading) reading.script.lines (record { client = client; number = number; what = what }) lawful.1 (eqb-true number (next_number reading.script.lines client) is)
          (record { fits = fits.0; ticks = fits.1; client = known }),
    ))
    (λ out. err-gives IsLawful _)

take_request_of-lawful : (reading : Reading) (place : Option ℕ) (number : ℕ) (what : What) → IsLawful reading → ((client : ℕ) → place ≡ Some client → client < clients_in reading) → Fits what
    → IfRead IsLawful (take_request_of reading place number what)
take_request_of-lawful reading None number what lawful known fits = err-gives IsLawful _
take_request_of-lawful reading (Some client) number what lawful known fits = take_call-lawful reading client number what lawful (known client refl) fits

take_request-lawful : (reading : Reading) (name : List ℕ) (number : ℕ) (what : What) → IsLawful reading → Fits what → IfRead IsLawful (take_request reading name number what)
unfolding take_request
take_request-lawful reading name number what lawful fits =
    if-gives IsLawful (not (takes_requests reading.stage)) _ _
    (λ early. err-gives IsLawful _)
    (λ behind. take_request_of-lawful reading (place_of reading.script.setup.clients name) number what lawful (place_of-below reading.script.setup.clients name) fits)

take_client-lawful : (reading : Reading) (name sids : List ℕ) → IsLawful reading → 0 < length sids → IfRead IsLawful (take_client reading name sids)
unfolding take_client
take_client-lawful reading name sids lawful some =
    if-gives IsLawful (not (takes_clients reading.stage)) _ _ (λ bad. err-gives IsLawful _)
    (λ good. if-gives IsLawful (is_some (place_of reading.script.setup.clients name)) _ _ (λ named. err-gives IsLawful _) (λ new. ok-gives IsLawful (with_client reading name sids) (HaveSids-push reading.script.setup.clients (record { name = name; sids = sids }) lawful.0 some, Lawful-more (clients_in reading) (clients_in (with_client reading name sids)) reading.script.lines (omega (arith, length-append reading.script.setup.clients (record { name = name; sids = sids } ∷ []))) lawful.1)))

take_line-lawful : (reading : Reading) (line : Line) → IsLawful reading → LineFits line → IfRead IsLawful (take_line reading line)
unfolding take_line
take_line-lawful reading Version lawful fits = only_if-gives IsLawful (takes_version reading.stage) _ lawful
take_line-lawful reading DefaultTable lawful fits = only_if-gives IsLawful (takes_table reading.stage) _ lawful
take_line-lawful reading PairTable lawful fits = only_if-gives IsLawful (takes_table reading.stage) _ lawful
take_line-lawful reading (Pair source target) lawful fits =
    only_if-gives IsLawful (takes_pairs reading.stage && nat_le source 65535 && nat_le target 65535 && not (is_at_fault reading.script.setup.table (source, target))) _ lawful
take_line-lawful reading (ClientLine name sids) lawful fits = take_client-lawful reading name sids lawful fits
take_line-lawful reading (RequestLine name number what) lawful fits = take_request-lawful reading name number what lawful fits

line_after-lawful : (reading : Reading) (bytes : List ℕ) → IsLawful reading → IfRead IsLawful (line_after reading bytes)
unfolding line_after
line_after-lawful reading bytes lawful = bind-gives LineFits IsLawful (line_of bytes) (take_line reading) (line_of-fits bytes) (λ line fits. take_line-lawful reading line lawful fits)

abbrev HasLawful : Script → Type 0
HasLawful script = IsLawfulScript script

end_after-lawful : (line : ℕ) (reading : Reading) (rest : List ℕ) → IsLawful reading → IfRead HasLawful (end_after line reading rest)
unfolding end_after
end_after-lawful line reading rest lawful =
    if-gives HasLawful (not (length rest == 0)) _ _ (λ cut. err-gives HasLawful _)
    (λ whole. if-gives HasLawful (not (takes_requests reading.stage)) _ _ (λ bad. err-gives HasLawful _) (λ good. ok-gives HasLawful reading.script lawful))

at_line-lawful : (line : ℕ) (read : Result Reading Kind) (more : Reading → Result Script Fault) → IfRead IsLawful read → ((next : Reading) → IsLawful next → IfRead HasLawful (more next)) → IfRead HasLawful (at_line line read more)
at_line-lawful line (Ok reading) more lawful next = next reading (lawful.given reading refl)
at_line-lawful line (Err kind) more lawful next = err-gives HasLawful _

lines_from-lawful : (line : ℕ) (reading : Reading) (texts : List (List ℕ)) → IsLawful reading → IfRead HasLawful (lines_from line reading texts)
lines_from-lawful line reading [] lawful = end_after-lawful line reading [] lawful
lines_from-lawful line reading (bytes ∷ more) lawful =
    if-gives HasLawful (length more == 0) _ _
    (λ last. end_after-lawful line reading bytes lawful)
    (λ inner. at_line-lawful line (line_after reading bytes) (λ next. lines_from (line + 1) next more) (line_after-lawful reading bytes lawful) (λ next kept. lines_from-lawful (line + 1) next more kept))

script_of-gives : (bytes : List ℕ) → IfRead HasLawful (script_of bytes)
unfolding script_of
script_of-gives bytes =
    if-gives HasLawful (length bytes == 0) _ _ (λ none. err-gives HasLawful _)
    (λ some. lines_from-lawful 1 nothing_read (pieces bytes) (tt, record { numbered = tt; fit = tt }))

script_of-lawful : (bytes : List ℕ) (script : Script) → script_of bytes ≡ Ok script → IsLawfulScript script
script_of-lawful bytes script is = (script_of-gives bytes).given script is

-- a script's calls are numbered in turn
pub script_of-numbered : (bytes : List ℕ) (script : Script) → script_of bytes ≡ Ok script → AreNumbered [] script.lines
script_of-numbered bytes script is = (script_of-lawful bytes script is).1.numbered

-- a script's calls are of its clients, within the bounds of requests, and ask what a line can say
pub script_of-fits : (bytes : List ℕ) (script : Script) → script_of bytes ≡ Ok script → AreLineCalls (length script.setup.clients) script.lines
script_of-fits bytes script is = (script_of-lawful bytes script is).1.fit

-- a script's clients have SIDs
pub script_of-sids : (bytes : List ℕ) (script : Script) → script_of bytes ≡ Ok script → HaveSids script.setup.clients
script_of-sids bytes script is = (script_of-lawful bytes script is).0

-- ---- how many calls there are

-- a script, or what was read of one, has at most so many calls
abbrev HasCalls : ℕ → Script → Type 0
HasCalls most script = length script.lines ≤ most

abbrev ReadCalls : ℕ → Reading → Type 0
ReadCalls most reading = HasCalls most reading.script

one_more : (most : ℕ) (reading : Reading) (client number : ℕ) (what : What) → ReadCalls most reading → ReadCalls (most + 1) (with_call reading client number what)
one_more most reading client number what few = omega (arith, length-append reading.script.lines (record { client = client; number = number; what = what } ∷ []))

take_call-few : (most : ℕ) (reading : Reading) (client number : ℕ) (what : What) → ReadCalls most reading → IfRead (ReadCalls (most + 1)) (take_call reading client number what)
unfolding take_call
take_call-few most reading client number what few =
    if-gives (ReadCalls (most + 1)) (number == next_number reading.script.lines client) _ _
    (λ is. ok-gives (ReadCalls (most + 1)) (with_call reading client number what) (one_more most reading client number what few))
    (λ out. err-gives (ReadCalls (most + 1)) _)

take_request_of-few : (most : ℕ) (reading : Reading) (place : Option ℕ) (number : ℕ) (what : What) → ReadCalls most reading → IfRead (ReadCalls (most + 1)) (take_request_of reading place number what)
take_request_of-few most reading None number what few = err-gives (ReadCalls (most + 1)) _
take_request_of-few most reading (Some client) number what few = take_call-few most reading client number what few

take_request-few : (most : ℕ) (reading : Reading) (name : List ℕ) (number : ℕ) (what : What) → ReadCalls most reading → IfRead (ReadCalls (most + 1)) (take_request reading name number what)
unfolding take_request
take_request-few most reading name number what few =
    if-gives (ReadCalls (most + 1)) (not (takes_requests reading.stage)) _ _
    (λ early. err-gives (ReadCalls (most + 1)) _)
    (λ behind. take_request_of-few most reading (place_of reading.script.setup.clients name) number what few)

take_client-few : (most : ℕ) (reading : Reading) (name sids : List ℕ) → ReadCalls most reading → IfRead (ReadCalls (most + 1)) (take_client reading name sids)
unfolding take_client
take_client-few most reading name sids few =
    if-gives (ReadCalls (most + 1)) (not (takes_clients reading.stage)) _ _ (λ bad. err-gives (ReadCalls (most + 1)) _)
    (λ good. if-gives (ReadCalls (most + 1)) (is_some (place_of reading.script.setup.clients name)) _ _ (λ named. err-gives (ReadCalls (most + 1)) _) (λ new. ok-gives (ReadCalls (most + 1)) (with_client reading name sids) (omega arith)))

-- a line makes one call at most
take_line-few : (most : ℕ) (reading : Reading) (line : Line) → ReadCalls most reading → IfRead (ReadCalls (most + 1)) (take_line reading line)
unfolding take_line
take_line-few most reading Version few = only_if-gives (ReadCalls (most + 1)) (takes_version reading.stage) _ (omega arith)
take_line-few most reading DefaultTable few = only_if-gives (ReadCalls (most + 1)) (takes_table reading.stage) _ (omega arith)
take_line-few most reading PairTable few = only_if-gives (ReadCalls (most + 1)) (takes_table reading.stage) _ (omega arith)
take_line-few most reading (Pair source target) few =
    only_if-gives (ReadCalls (most + 1)) (takes_pairs reading.stage && nat_le source 65535 && nat_le target 65535 && not (is_at_fault reading.script.setup.table (source, target))) _ (omega arith)
take_line-few most reading (ClientLine name sids) few = take_client-few most reading name sids few
take_line-few most reading (RequestLine name number what) few = take_request-few most reading name number what few

line_after-few : (most : ℕ) (reading : Reading) (bytes : List ℕ) → ReadCalls most reading → IfRead (ReadCalls (most + 1)) (line_after reading bytes)
unfolding line_after
line_after-few most reading bytes few = then-gives (ReadCalls (most + 1)) (line_of bytes) (take_line reading) (λ line. take_line-few most reading line few)

end_after-few : (most line : ℕ) (reading : Reading) (rest : List ℕ) → ReadCalls most reading → IfRead (HasCalls most) (end_after line reading rest)
unfolding end_after
end_after-few most line reading rest few =
    if-gives (HasCalls most) (not (length rest == 0)) _ _ (λ cut. err-gives (HasCalls most) _)
    (λ whole. if-gives (HasCalls most) (not (takes_requests reading.stage)) _ _ (λ bad. err-gives (HasCalls most) _) (λ good. ok-gives (HasCalls most) reading.script few))

at_line-few : (most many line : ℕ) (read : Result Reading Kind) (more : Reading → Result Script Fault) → IfRead (ReadCalls most) read → ((next : Reading) → ReadCalls most next → IfRead (HasCalls many) (more next))
    → IfRead (HasCalls many) (at_line line read more)
at_line-few most many line (Ok reading) more few next = next reading (few.given reading refl)
at_line-few most many line (Err kind) more few next = err-gives (HasCalls many) _

has_more : (few many : ℕ) (read : Result Script Fault) → few ≤ many → IfRead (HasCalls few) read → IfRead (HasCalls many) read
has_more few many read less calls = record { given = λ script is. let at_most : length script.lines ≤ few = calls.given script is in omega arith }

some_left : (texts : List (List ℕ)) → (length texts == 0) ≡ false → 1 ≤ length texts
some_left [] some = (let impossible : true ≡ false = some in cc)
some_left (text ∷ texts) some = omega arith

-- each text but the last is a line
lines_from-few : (most line : ℕ) (reading : Reading) (texts : List (List ℕ)) → ReadCalls most reading → IfRead (HasCalls (most + (length texts - 1))) (lines_from line reading texts)
lines_from-few most line reading [] few = has_more most (most + (0 - 1)) (end_after line reading []) (omega arith) (end_after-few most line reading [] few)
lines_from-few most line reading (bytes ∷ more) few =
    if-gives (HasCalls many) (length more == 0) _ _
    (λ last. has_more most many (end_after line reading bytes) (omega arith) (end_after-few most line reading bytes few))
    (λ inner.
    let some : 1 ≤ length more = some_left more inner in
    at_line-few (most + 1) many line (line_after reading bytes) (λ next. lines_from (line + 1) next more) (line_after-few most reading bytes few)
    (λ next read. has_more (most + 1 + (length more - 1)) many (lines_from (line + 1) next more) (omega arith) (lines_from-few (most + 1) (line + 1) next more read)))
  where
    many : ℕ
    many = most + (length (bytes ∷ more) - 1)

script_of-calls : (bytes : List ℕ) → IfRead (HasCalls (count_by (λ byte. byte == 10) bytes)) (script_of bytes)
unfolding script_of
script_of-calls bytes =
    if-gives (HasCalls (count_by (λ byte. byte == 10) bytes)) (length bytes == 0) _ _ (λ none. err-gives (HasCalls (count_by (λ byte. byte == 10) bytes)) _)
    (λ some. has_more (0 + (length (pieces bytes) - 1)) (count_by (λ byte. byte == 10) bytes) (lines_from 1 nothing_read (pieces bytes)) (omega (arith, length-slice_split (λ byte. byte == 10) bytes)) (lines_from-few 0 1 nothing_read (pieces bytes) (omega arith)))

-- a script has no more calls than there are line feeds in its bytes
pub script_of-few : (bytes : List ℕ) (script : Script) → script_of bytes ≡ Ok script → length script.lines ≤ count_by (λ byte. byte == 10) bytes
script_of-few bytes script is = (script_of-calls bytes).given script is

-- ---- how many clients there are

-- a script, or what was read of one, has at most so many clients
abbrev HasClients : ℕ → Script → Type 0
HasClients most script = length script.setup.clients ≤ most

abbrev ReadClients : ℕ → Reading → Type 0
ReadClients most reading = HasClients most reading.script

-- how many clients a line names that begins so, or doesn't
abbrev named : Bool → ℕ
named begins = cond begins 1 0

abbrev begins_client : List ℕ → Bool
begins_client text = starts_with nat_eq text (codes "client ")

-- only a line that begins so names a client
abbrev BeginsSo : Bool → Line → Type 0
BeginsSo begins (ClientLine name sids) = begins ≡ true
BeginsSo begins _ = Unit {0}

pair_at-begins : (begins : Bool) (bytes : List ℕ) → IfRead (BeginsSo begins) (pair_at bytes)
unfolding pair_at
pair_at-begins begins bytes =
    then-gives (BeginsSo begins) (mask_at bytes) _ (λ source. then-gives (BeginsSo begins) (mask_at source.1) _ (λ target. ended-gives (BeginsSo begins) target.1 (Pair source.0 target.0) tt))

request_of-begins : (begins : Bool) (bytes : List ℕ) → IfRead (BeginsSo begins) (request_of bytes)
unfolding request_of
request_of-begins begins bytes =
    then-gives (BeginsSo begins) (only_if (is_name (word_of bytes)) (word_of bytes)) _ (λ name. then-gives (BeginsSo begins) (number_at most_id (after_word bytes)) _ (λ number.
    then-gives (BeginsSo begins) (field_at number.1) _ (λ verb. then-gives (BeginsSo begins) (what_of verb.0 verb.1) _ (λ what. ok-gives (BeginsSo begins) (RequestLine name number.0 what) tt))))

begun_so : (begins : Bool) (line : Line) → begins ≡ true → BeginsSo begins line
begun_so begins (ClientLine name sids) is = is
begun_so begins _ is = tt

always : {A E : Type 0} (P : A → Type 0) (read : Result A E) → ((value : A) → P value) → IfRead P read
always P read holds = record { given = λ value is. holds value }

line_of-begins : (bytes : List ℕ) → IfRead (BeginsSo (begins_client bytes)) (line_of bytes)
unfolding line_of
line_of-begins bytes =
    if-gives (BeginsSo (begins_client bytes)) (same bytes (codes "fsa 1")) _ _ (λ is. ok-gives (BeginsSo (begins_client bytes)) Version tt)
    (λ no. if-gives (BeginsSo (begins_client bytes)) (same bytes (codes "table default")) _ _ (λ is. ok-gives (BeginsSo (begins_client bytes)) DefaultTable tt)
    (λ no. if-gives (BeginsSo (begins_client bytes)) (same bytes (codes "table pairs")) _ _ (λ is. ok-gives (BeginsSo (begins_client bytes)) PairTable tt)
    (λ no. if-gives (BeginsSo (begins_client bytes)) (starts_with nat_eq bytes (codes "up 0x")) _ _ (λ is. pair_at-begins (begins_client bytes) (drop 2 bytes))
    (λ no. if-gives (BeginsSo (begins_client bytes)) (begins_client bytes) _ _ (λ is. always (BeginsSo (begins_client bytes)) (client_at (drop 6 bytes)) (λ line. begun_so (begins_client bytes) line is))
    (λ no. request_of-begins (begins_client bytes) bytes)))))

take_client-named : (most : ℕ) (begins : Bool) (reading : Reading) (name sids : List ℕ) → begins ≡ true → ReadClients most reading → IfRead (ReadClients (most + named begins)) (take_client reading name sids)
unfolding take_client
take_client-named most begins reading name sids is few =
    if-gives (ReadClients (most + named begins)) (not (takes_clients reading.stage)) _ _ (λ bad. err-gives (ReadClients (most + named begins)) _)
    (λ good. if-gives (ReadClients (most + named begins)) (is_some (place_of reading.script.setup.clients name)) _ _ (λ known. err-gives (ReadClients (most + named begins)) _)
    (λ new. ok-gives (ReadClients (most + named begins)) (with_client reading name sids) (rw is (omega (arith, length-append reading.script.setup.clients (record { name = name; sids = sids } ∷ []))))))

take_call-named : (most : ℕ) (reading : Reading) (client number : ℕ) (what : What) → ReadClients most reading → IfRead (ReadClients most) (take_call reading client number what)
unfolding take_call
take_call-named most reading client number what few =
    if-gives (ReadClients most) (number == next_number reading.script.lines client) _ _ (λ is. ok-gives (ReadClients most) (with_call reading client number what) few) (λ out. err-gives (ReadClients most) _)

take_request_of-named : (most : ℕ) (reading : Reading) (place : Option ℕ) (number : ℕ) (what : What) → ReadClients most reading → IfRead (ReadClients most) (take_request_of reading place number what)
take_request_of-named most reading None number what few = err-gives (ReadClients most) _
take_request_of-named most reading (Some client) number what few = take_call-named most reading client number what few

take_request-named : (most : ℕ) (reading : Reading) (name : List ℕ) (number : ℕ) (what : What) → ReadClients most reading → IfRead (ReadClients most) (take_request reading name number what)
unfolding take_request
take_request-named most reading name number what few =
    if-gives (ReadClients most) (not (takes_requests reading.stage)) _ _ (λ early. err-gives (ReadClients most) _)
    (λ behind. take_request_of-named most reading (place_of reading.script.setup.clients name) number what few)

names_more : (few many : ℕ) (read : Result Reading Kind) → few ≤ many → IfRead (ReadClients few) read → IfRead (ReadClients many) read
names_more few many read less clients = record { given = λ reading is. let at_most : length reading.script.setup.clients ≤ few = clients.given reading is in omega arith }

take_line-named : (most : ℕ) (begins : Bool) (reading : Reading) (line : Line) → BeginsSo begins line → ReadClients most reading → IfRead (ReadClients (most + named begins)) (take_line reading line)
unfolding take_line
take_line-named most begins reading Version so few = names_more most (most + named begins) _ (omega arith) (only_if-gives (ReadClients most) (takes_version reading.stage) _ few)
take_line-named most begins reading DefaultTable so few = names_more most (most + named begins) _ (omega arith) (only_if-gives (ReadClients most) (takes_table reading.stage) _ few)
take_line-named most begins reading PairTable so few = names_more most (most + named begins) _ (omega arith) (only_if-gives (ReadClients most) (takes_table reading.stage) _ few)
take_line-named most begins reading (Pair source target) so few =
    names_more most (most + named begins) _ (omega arith)
    (only_if-gives (ReadClients most) (takes_pairs reading.stage && nat_le source 65535 && nat_le target 65535 && not (is_at_fault reading.script.setup.table (source, target))) _ few)
take_line-named most begins reading (ClientLine name sids) so few = take_client-named most begins reading name sids so few
take_line-named most begins reading (RequestLine name number what) so few =
    names_more most (most + named begins) (take_request reading name number what) (omega arith) (take_request-named most reading name number what few)

line_after-named : (most : ℕ) (reading : Reading) (bytes : List ℕ) → ReadClients most reading → IfRead (ReadClients (most + named (begins_client bytes))) (line_after reading bytes)
unfolding line_after
line_after-named most reading bytes few =
    bind-gives (BeginsSo (begins_client bytes)) (ReadClients (most + named (begins_client bytes))) (line_of bytes) (take_line reading) (line_of-begins bytes)
    (λ line so. take_line-named most (begins_client bytes) reading line so few)

end_after-named : (most line : ℕ) (reading : Reading) (rest : List ℕ) → ReadClients most reading → IfRead (HasClients most) (end_after line reading rest)
unfolding end_after
end_after-named most line reading rest few =
    if-gives (HasClients most) (not (length rest == 0)) _ _ (λ cut. err-gives (HasClients most) _)
    (λ whole. if-gives (HasClients most) (not (takes_requests reading.stage)) _ _ (λ bad. err-gives (HasClients most) _) (λ good. ok-gives (HasClients most) reading.script few))

at_line-named : (most many line : ℕ) (read : Result Reading Kind) (more : Reading → Result Script Fault) → IfRead (ReadClients most) read → ((next : Reading) → ReadClients most next → IfRead (HasClients many) (more next))
    → IfRead (HasClients many) (at_line line read more)
at_line-named most many line (Ok reading) more few next = next reading (few.given reading refl)
at_line-named most many line (Err kind) more few next = err-gives (HasClients many) _

more_named : (few many : ℕ) (read : Result Script Fault) → few ≤ many → IfRead (HasClients few) read → IfRead (HasClients many) read
more_named few many read less clients = record { given = λ script is. let at_most : length script.setup.clients ≤ few = clients.given script is in omega arith }

count-step : (text : List ℕ) (texts : List (List ℕ)) → count_by begins_client (text ∷ texts) ≡ named (begins_client text) + count_by begins_client texts
count-step text texts = sum_by-cons (λ line. named (begins_client line)) text texts

lines_from-named : (most line : ℕ) (reading : Reading) (texts : List (List ℕ)) → ReadClients most reading → IfRead (HasClients (most + count_by begins_client texts)) (lines_from line reading texts)
lines_from-named most line reading [] few = more_named most (most + count_by begins_client []) (end_after line reading []) (omega arith) (end_after-named most line reading [] few)
lines_from-named most line reading (bytes ∷ more) few =
    if-gives (HasClients many) (length more == 0) _ _
    (λ last. more_named most many (end_after line reading bytes) (omega arith) (end_after-named most line reading bytes few))
    (λ inner. at_line-named (most + named (begins_client bytes)) many line (line_after reading bytes) (λ next. lines_from (line + 1) next more) (line_after-named most reading bytes few)
    (λ next read. more_named (most + named (begins_client bytes) + count_by begins_client more) many (lines_from (line + 1) next more) (omega (arith, count-step bytes more)) (lines_from-named (most + named (begins_client bytes)) (line + 1) next more read)))
  where
    many : ℕ
    many = most + count_by begins_client (bytes ∷ more)

script_of-names : (bytes : List ℕ) → IfRead (HasClients (count_by begins_client (pieces bytes))) (script_of bytes)
unfolding script_of
script_of-names bytes =
    if-gives (HasClients (count_by begins_client (pieces bytes))) (length bytes == 0) _ _ (λ none. err-gives (HasClients (count_by begins_client (pieces bytes))) _)
    (λ some. more_named (0 + count_by begins_client (pieces bytes)) (count_by begins_client (pieces bytes)) (lines_from 1 nothing_read (pieces bytes)) (omega arith) (lines_from-named 0 1 nothing_read (pieces bytes) (omega arith)))

-- a script has no more clients than there are lines in its bytes that begin with `client `
pub script_of-named : (bytes : List ℕ) (script : Script) → script_of bytes ≡ Ok script
    → length script.setup.clients ≤ count_by (λ line. starts_with nat_eq line (codes "client ")) (pieces bytes)
script_of-named bytes script is = (script_of-names bytes).given script is
