-- What a volume is between tries stays so over each try and each end.
use Rattle.std.proofs.Common.{◌≡◌, ℕ, ◌+◌, ◌*◌, ◌≤◌, Bool, true, false, not, List, [], ◌∷◌, ◌++◌, length, refl, ap, sym, subst, ◌∙◌, arith, append-nil, inl, inr, ◌⊎◌, zero, suc, IsTrue, All, length-append, lt-ltb, ltb-true, le-leb, leb-true}
use Rattle.std.specs.List.{list_any}
use Rattle.std.specs.Prelude.{◌==◌, ◌&&◌, is_some, nat_le, nat_lt, map, filter}
use Rattle.std.proofs.lemmas.List.{length-map}
use Rattle.std.proofs.lemmas.Bool.{cases_Bool, and_parts, eq-eqb}
use Rattle.std.proofs.lemmas.List.Elements.{All-nil, All-cons, All-head, All-tail}
use Rattle.fsa_types.specs.Request.{what_fits}
use Rattle.fsa_types.specs.declared.reply.Blocker.{Blocker}
use Rattle.fsa_types.specs.declared.reply.Blocker.TheVariants.{Break}
use Rattle.fsa_types.specs.declared.reply.EndOf.{EndOf}
use Rattle.fsa_types.specs.declared.reply.Reply.{Reply}
use Rattle.fsa_types.specs.declared.request.Call.{Call}
use Rattle.fsa_types.specs.declared.request.Request.TheVariants.{Oplock as OplockOf, Ack, Notify, QueryDir}
use Rattle.fsa_types.specs.declared.request.What.{What}
use Rattle.fsa_types.specs.declared.request.What.TheVariants.{Ask, Tick, WaitFor}
use Rattle.fsa_model.specs.Edits.{is_call, with_blockers, with_end, with_pending}
use Rattle.fsa_model.specs.Frame.{FitsReply, FramedTo, InFrame, KeepsFrame, OnlyBreaks, OnlyOplocks, OnlyWatches, PointsFit, StaysTo, lasting, ticks_of, unenumerated}
use Rattle.fsa_model.specs.LineCalls.{IsLineCall, ticks_fit}
use Rattle.fsa_model.specs.Once.{IsOnce, how_many, is_end, made, times}
use Rattle.fsa_model.specs.Outcome.{Outcome, Done, Stay, Hold}
use Rattle.fsa_model.specs.Settling.{AddsEnds, HasGiven, HasOneOplockEach, is_call_of, unbroken}
use Rattle.fsa_model.specs.Try.{try}
use Rattle.fsa_model.specs.Setup.{Setup}
use Rattle.fsa_model.specs.Sound.{PointFits}
use Rattle.fsa_model.specs.Volume.{File, Handle, Oplock, Pending, Volume, fresh, root}
use Rattle.fsa_model.specs.Waiting.{blocker_lives, has_ended, is_breaking}
use Rattle.fsa_model.proofs.CountLaws.{and_right, how_many-append, how_many-filter_le, how_many-map, how_many-none, how_many-same, how_many-some, how_many-split, how_many-weaker, some-how_many}
use Rattle.fsa_model.proofs.FrameLaws.{AddsNothing, AddsNothing-only_breaks}
use Rattle.fsa_model.proofs.GrantLaws.{StaysUnder}
use Rattle.fsa_model.proofs.OnceLaws.{AddsEnds-length, IsOnce-kept, is_same-refl, length-filter_split}
use Rattle.fsa_model.proofs.RowLaws.{change_at}
use Rattle.fsa_model.proofs.TryFrame.{try-frame}
use Rattle.fsa_model.proofs.TryLaws.{AreLiving, FewNumbers, KeepsNumbers, SameNumbers}
use Rattle.fsa_model.proofs.TurnLaws.{TriedTo, try-keeps}
use Rattle.fsa_model.proofs.WaitLaws.{some_item}
use Rattle.fsa_machine.specs.Serves.{BreaksUpTo, GivesUpTo, SameBase, Serves, ServesWithin, awaits_made, is_line_call}

-- ---- lists

-- what holds of each item still holds when it says less
pub All-each : {A : Type 0} (P Q : A → Type 0) → ((item : A) → P item → Q item) → (items : List A) → All P items → All Q items
All-each P Q each [] all = All-nil Q
All-each P Q each (item ∷ items) all = All-cons Q item items (each item (All-head P item items all)) (All-each P Q each items (All-tail P item items all))

pub none-fails : {A : Type 0} (test : A → Bool) (items : List A) → All (λ item. IsTrue (test item)) items → how_many (λ item. not (test item)) items ≡ 0
none-fails test [] all = refl
none-fails test (item ∷ items) all =
    let here : IsTrue (test item) = All-head (λ i. IsTrue (test i)) item items all in
    let rest = none-fails test items (All-tail (λ i. IsTrue (test i)) item items all) in
    let is : test item ≡ true = here in
    rw is (omega arith)

all-pass : {A : Type 0} (test : A → Bool) (items : List A) → how_many (λ item. not (test item)) items ≡ 0 → All (λ item. IsTrue (test item)) items
all-pass test [] none = All-nil (λ i. IsTrue (test i))
all-pass test (item ∷ items) none = elim (cases_Bool (test item)) [
  | inl is ↦ (let rest : 0 + how_many (λ i. not (test i)) items ≡ 0 = rw is at none in All-cons (λ i. IsTrue (test i)) item items is (all-pass test items (omega arith)))
  | inr isnt ↦ (let impossible : 1 + how_many (λ i. not (test i)) items ≡ 0 = rw isnt at none in absurd (omega arith))
]

-- where no more rows fail than before
all-kept : {A : Type 0} (test : A → Bool) (before after : List A) → how_many (λ item. not (test item)) after ≤ how_many (λ item. not (test item)) before
    → All (λ item. IsTrue (test item)) before → All (λ item. IsTrue (test item)) after
all-kept test before after fewer all = all-pass test after (let none = none-fails test before all in omega arith)

all-append : {A : Type 0} (test : A → Bool) (items : List A) (last : A) → All (λ item. IsTrue (test item)) items → IsTrue (test last) → All (λ item. IsTrue (test item)) (items ++ last ∷ [])
all-append test items last all is =
    all-pass test (items ++ last ∷ []) (let none = none-fails test items all in let more = how_many-append (λ i. not (test i)) items (last ∷ []) in
    let passes : test last ≡ true = is in
    let here : how_many (λ i. not (test i)) (items ++ last ∷ []) ≡ how_many (λ i. not (test i)) items + (0 + 0) = rw passes at more in omega arith)

-- ---- ends and numbers

ended-later : (v w : Volume) (client number : ℕ) → AddsEnds v.ended w.ended → IsTrue (has_ended v client number) → IsTrue (has_ended w client number)
ended-later v w client number extends is =
    some-how_many (is_end client number) w.ended
    (let some = how_many-some (is_end client number) v.ended is in
    let more = how_many-append (is_end client number) v.ended extends.more in
    let all : how_many (is_end client number) w.ended ≡ how_many (is_end client number) (v.ended ++ extends.more) = ap (λ (ended : List EndOf). how_many (is_end client number) ended) extends.is in omega arith)

-- the call that has just ended has ended
own-ended : (v : Volume) (client number : ℕ) (reply : Reply) → IsTrue (has_ended (with_end v client number reply) client number)
own-ended v client number reply =
    some-how_many (is_end client number) (v.ended ++ last ∷ [])
    (let more = how_many-append (is_end client number) v.ended (last ∷ []) in
    let own : is_end client number last ≡ true = is_same-refl client number in
    let all : how_many (is_end client number) (v.ended ++ last ∷ []) ≡ how_many (is_end client number) v.ended + (1 + 0) = rw own at more in omega arith)
  where
    last : EndOf
    last = record { client = client; number = number; reply = reply }

AddsEnds-end : (v : Volume) (client number : ℕ) (reply : Reply) → AddsEnds v.ended (with_end v client number reply).ended
AddsEnds-end v client number reply = record { more = record { client = client; number = number; reply = reply } ∷ []; is = refl }

pub GivesUpTo-more : (v : Volume) (few many : ℕ) → few ≤ many → GivesUpTo v few → GivesUpTo v many
GivesUpTo-more v few many more gives =
    let files : v.last_file ≤ few = gives.files in
    let links : v.last_link ≤ few = gives.links in
    let streams : v.last_stream ≤ few * 2 = gives.streams in
    let handles : v.last_handle ≤ few = gives.handles in
    let locks : v.last_lock ≤ few = gives.locks in
    let clock : v.clock ≤ few * 4294967296 = gives.clock in
    record { files = omega arith; links = omega arith; streams = omega arith; handles = omega arith; locks = omega arith; clock = omega arith }

pub ServesWithin-more : (v : Volume) (few many : ℕ) → few ≤ many → ServesWithin v few → ServesWithin v many
ServesWithin-more v few many more serves = record {
  points = serves.points;
  once = serves.once;
  asked = serves.asked;
  numbered = serves.numbered;
  waited = serves.waited;
  handles = serves.handles;
  opened = serves.opened;
  gives = serves.gives;
  breaks = (let least = serves.breaks in omega arith);
}

-- one more end takes away no call but its own, so no fewer were made
made-ends : (v : Volume) (client number : ℕ) (reply : Reply) → IsOnce v → made v ≤ made (with_end v client number reply)
made-ends v client number reply once =
    (let kept = length-filter_split (is_call_of client number) v.pending in
    let more = length-append v.ended (record { client = client; number = number; reply = reply } ∷ []) in
    let few : times client number v ≤ 1 = once client number in omega arith)

-- ---- few oplocks

-- a break is in progress on it; one of a number up to this
abbrev is_broken : Oplock → Bool
is_broken oplock = is_some oplock.target

abbrev is_broken_upto : ℕ → Oplock → Bool
is_broken_upto most oplock = is_some oplock.target && nat_le oplock.number most

-- each break has its own number, so there are few of them
few-broken : (oplocks : List Oplock) → ((number : ℕ) → how_many (is_breaking number) oplocks ≤ 1) → (most : ℕ) → how_many (is_broken_upto most) oplocks ≤ most + 1
few-broken oplocks ones zero =
    (let one = ones 0 in
    let weaker = how_many-weaker (is_broken_upto 0) (is_breaking 0) oplocks (λ o upto. first (is_some o.target) o.number upto) in omega arith)
  where
    first : (broken : Bool) (number : ℕ) → (broken && nat_le number 0) ≡ true → (broken && number == 0) ≡ true
    first true number is = (let least = leb-true number 0 is in eq-eqb number 0 (omega arith))
    first false number is = is
few-broken oplocks ones (suc most) =
    (let one = ones (suc most) in
    let rest = few-broken oplocks ones most in
    let split = how_many-split (is_broken_upto (suc most)) (is_breaking (suc most)) oplocks in
    let here = how_many-weaker (λ o. is_broken_upto (suc most) o && is_breaking (suc most) o) (is_breaking (suc most)) oplocks (λ o both. and_right (is_broken_upto (suc most) o) (is_breaking (suc most) o) both) in
    let below = how_many-weaker (λ o. is_broken_upto (suc most) o && not (is_breaking (suc most) o)) (is_broken_upto most) oplocks (λ o both. less (is_some o.target) o.number both) in omega arith)
  where
    less : (broken : Bool) (number : ℕ) → ((broken && nat_le number (suc most)) && not (broken && number == suc most)) ≡ true → (broken && nat_le number most) ≡ true
    less true number is =
        let parts = and_parts (nat_le number (suc most)) (not (number == suc most)) is in
        let within = leb-true number (suc most) parts.0 in
        elim (cases_Bool (number == suc most)) [
          | inl same ↦ (let impossible : false ≡ true = rw same at parts.1 in cc)
          | inr differs ↦ (let apart : (number ≡ suc most) → ⊥ = λ same. (let equal : (number == suc most) ≡ true = eq-eqb number (suc most) same in cc) in le-leb number most (omega arith))
        ]
    less false number is = is

passes-or_fails : {A : Type 0} (test : A → Bool) (items : List A) → length items ≡ how_many test items + how_many (λ item. not (test item)) items
passes-or_fails test [] = refl
passes-or_fails test (item ∷ items) = (let rest = passes-or_fails test items in elim (cases_Bool (test item)) [ inl is ↦ rw is (omega arith) | inr isnt ↦ rw isnt (omega arith) ])

-- so there are no more oplocks than breaks were begun and can still come
pub few-oplocks : (v : Volume) (turns : ℕ) → HasGiven v → v.last_break + unbroken v + 1 ≤ turns → BreaksUpTo v turns
few-oplocks v turns given few =
    let all = passes-or_fails is_broken v.oplocks in
    let split = how_many-split is_broken (λ o. nat_le o.number v.last_break) v.oplocks in
    let numbered = few-broken v.oplocks given.ones v.last_break in
    let none = none_above (cases_Bool (list_any (λ o. is_broken o && not (nat_le o.number v.last_break)) v.oplocks)) in
    record { breaks = omega arith; oplocks = omega arith }
  where
    none_above : (list_any (λ o. is_broken o && not (nat_le o.number v.last_break)) v.oplocks ≡ true) ⊎ (list_any (λ o. is_broken o && not (nat_le o.number v.last_break)) v.oplocks ≡ false)
        → how_many (λ o. is_broken o && not (nat_le o.number v.last_break)) v.oplocks ≡ 0
    none_above (inr none) = how_many-none (λ o. is_broken o && not (nat_le o.number v.last_break)) v.oplocks none
    none_above (inl some) = absurd (
        let found = some_item (λ (o : Oplock). is_broken o && not (nat_le o.number v.last_break)) v.oplocks some in
        let parts = and_parts (is_broken found.item) (not (nat_le found.item.number v.last_break)) found.passes in
        let lives : blocker_lives v (Break found.item.number) ≡ true = found.is_there (is_breaking found.item.number) (rw (parts.0, eq-eqb found.item.number found.item.number refl) refl) in
        let is : nat_le found.item.number v.last_break ≡ true = given.living (Break found.item.number) lives in
        let impossible : false ≡ true = rw is at parts.1 in cc)

-- ---- a call that a line can ask

pub line-asked : (clients : ℕ) (call : Call) → IsTrue (is_line_call clients call) → IsLineCall clients call
line-asked clients call is =
    let first = and_parts (what_fits call.what) (ticks_fit call.what && nat_lt call.client clients) is in
    let second = and_parts (ticks_fit call.what) (nat_lt call.client clients) first.1 in
    record { fits = first.0; ticks = second.0; client = ltb-true call.client clients second.1 }

pub asked-line : (clients : ℕ) (call : Call) → IsLineCall clients call → IsTrue (is_line_call clients call)
asked-line clients call asked =
    let fits : what_fits call.what ≡ true = asked.fits in
    let ticks : ticks_fit call.what ≡ true = asked.ticks in
    let client : nat_lt call.client clients ≡ true = lt-ltb call.client clients asked.client in
    rw (fits, ticks, client) refl

-- ---- a try

pub SameBase-same : (v : Volume) → SameBase v v
SameBase-same v = record { table = refl; clients = refl }

pub SameBase-next : {u v w : Volume} → SameBase u v → SameBase v w → SameBase u w
SameBase-next first second = record { table = second.table ∙ first.table; clients = second.clients ∙ first.clients }

-- what a try leaves that ends its call: few numbers more, and handles as before, but for one that is the call's
pub record Ends (call : Call) (v w : Volume) : Type 0 where
  pub base : SameBase v w
  pub points : PointsFit w
  pub pending : (test : ℕ × Pending → Bool) → how_many test w.pending ≤ how_many test v.pending
  pub ended : AddsEnds v.ended w.ended
  pub handles : (test : Handle → Bool) → All (λ entry. IsTrue (test (unenumerated entry.1))) v.handles
      → ((handle : Handle) → handle.client ≡ call.client → handle.number ≡ call.number → IsTrue (test (unenumerated handle))) → All (λ entry. IsTrue (test (unenumerated entry.1))) w.handles
  pub gives : GivesUpTo w (length v.ended + 2)
  pub once : IsOnce w
  pub breaks : w.last_break + unbroken w ≤ made w

-- what a try leaves that stays pending: a volume like the one before, but that one break more may come
pub record Remains (v w : Volume) (client : ℕ) (what : What) : Type 0 where
  pub base : SameBase v w
  pub serves : ServesWithin w (made v + 1)
  pub times : (client number : ℕ) → times client number w ≡ times client number v
  pub made : made w ≡ made v
  pub pending : (test : ℕ × Pending → Bool) → how_many test w.pending ≤ how_many test v.pending
  pub awaited : IsTrue (awaits_made w client what)

-- what a try leaves that is held: a volume like the one before
pub record Holds (v w : Volume) (blockers : List Blocker) : Type 0 where
  pub base : SameBase v w
  pub serves : Serves w
  pub times : (client number : ℕ) → times client number w ≡ times client number v
  pub living : AreLiving w blockers

-- how a try comes out
abbrev pub Comes : Call → Volume → Outcome → Type 0
Comes call v (Done w reply) = Ends call v w × FitsReply call.what reply
Comes call v (Stay w interim) = Remains v w call.client call.what
Comes call v (Hold w blockers interim) = Holds v w blockers

pub record ComesTo (call : Call) (v : Volume) (outcome : Outcome) : Type 0 where
  pub so : Comes call v outcome

-- what lasts of a handle is all but its enumeration
unenumerated-lasting : (what : What) (handle : Handle) → unenumerated (lasting what handle) ≡ unenumerated handle
unenumerated-lasting (Ask (QueryDir of kind expression restart room)) handle = refl
unenumerated-lasting _ handle = refl

handles-frame : (call : Call) (v w : Volume) → KeepsFrame call v w → (test : Handle → Bool) → All (λ entry. IsTrue (test (unenumerated entry.1))) v.handles
    → ((handle : Handle) → handle.client ≡ call.client → handle.number ≡ call.number → IsTrue (test (unenumerated handle))) → All (λ entry. IsTrue (test (unenumerated entry.1))) w.handles
handles-frame call v w frame test all own =
    All-each (λ (entry : ℕ × Handle). IsTrue (test (unenumerated (lasting call.what entry.1)))) (λ (entry : ℕ × Handle). IsTrue (test (unenumerated entry.1)))
    (λ entry is. subst (λ (handle : Handle). IsTrue (test handle)) (unenumerated-lasting call.what entry.1) is) w.handles
    (frame.handles (λ entry. test (unenumerated entry.1))
    (All-each (λ (entry : ℕ × Handle). IsTrue (test (unenumerated entry.1))) (λ (entry : ℕ × Handle). IsTrue (test (unenumerated (lasting call.what entry.1))))
    (λ entry is. subst (λ (handle : Handle). IsTrue (test handle)) (sym (unenumerated-lasting call.what entry.1)) is) v.handles all)
    (λ handle creates client number. own handle client number))

few-ticks : (what : What) → IsTrue (ticks_fit what) → ticks_of what ≤ 4294967295
few-ticks (Tick ticks) fit = leb-true ticks 4294967295 fit
few-ticks _ fit = omega arith

ends-done : (v w : Volume) (call : Call) (reply : Reply) → Serves v → IsTrue (is_line_call (length v.clients) call) → FramedTo call v (Done w reply) → KeepsNumbers v w × FewNumbers v w → Ends call v w × FitsReply call.what reply
ends-done v w call reply serves asked frame kept =
    let line : IsLineCall (length v.clients) call = line-asked (length v.clients) call asked in
    let up : GivesUpTo v (length v.ended + 1) = serves.gives in (
      record {
        base = record { table = frame.0.table; clients = frame.0.clients };
        points = frame.0.points line.fits serves.points;
        pending = kept.0.keeps.pending;
        ended = kept.0.keeps.ended;
        handles = λ test all own. handles-frame call v w frame.0 test all own;
        gives = record {
          files = let few = kept.1.files in let most = up.files in omega arith;
          links = let few = kept.1.links in let most = up.links in omega arith;
          streams = let few = kept.1.streams in let most = up.streams in omega arith;
          handles = let few = kept.1.handles in let most = up.handles in omega arith;
          locks = let few = kept.1.locks in let most = up.locks in omega arith;
          clock = let most = up.clock in elim frame.0.clock [
            | inl same ↦ omega arith
            | inr on ↦ (let ticks = few-ticks call.what line.ticks in omega arith)
          ];
        };
        once = IsOnce-kept v w (kept.0.keeps.times serves.once) serves.once;
        breaks = (let same = kept.0.keeps.made serves.once in let fewer = kept.0.breaks in let most = serves.breaks in omega arith);
      },
      frame.1.0,
    )

awaits-later : (v w : Volume) (client : ℕ) (what : What) → ((c n : ℕ) → times c n v ≤ times c n w) → IsTrue (awaits_made v client what) → IsTrue (awaits_made w client what)
awaits-later v w client (WaitFor earlier) more is = (let some = ltb-true 0 (times client earlier v) is in let longer = more client earlier in lt-ltb 0 (times client earlier w) (omega arith))
awaits-later v w client _ more is = refl

-- what a try leaves that ends no call of its own
record Alike (v w : Volume) : Type 0 where
  base : SameBase v w
  points : PointsFit w
  pending : (test : ℕ × Pending → Bool) → how_many test w.pending ≤ how_many test v.pending
  ended : AddsEnds v.ended w.ended
  times : (client number : ℕ) → times client number w ≡ times client number v
  handles : (test : ℕ × Handle → Bool) → All (λ entry. IsTrue (test entry)) v.handles → All (λ entry. IsTrue (test entry)) w.handles
  same : SameNumbers v w
  clock : w.clock ≡ v.clock

serves-alike : (v w : Volume) (most : ℕ) → Serves v → Alike v w → w.last_break + unbroken w ≤ most → ServesWithin w most
serves-alike v w most serves alike few =
    let longer = AddsEnds-length alike.ended in
    let up : GivesUpTo v (length v.ended + 1) = serves.gives in
    record {
      points = alike.points;
      once = IsOnce-kept v w alike.times serves.once;
      asked = rw alike.base.clients (all-kept (λ (entry : ℕ × Pending). is_line_call (length v.clients) entry.1.call) v.pending w.pending (alike.pending (λ entry. not (is_line_call (length v.clients) entry.1.call))) serves.asked);
      numbered = all-kept (λ (entry : ℕ × Pending). nat_lt 0 entry.1.call.number) v.pending w.pending (alike.pending (λ entry. not (nat_lt 0 entry.1.call.number))) serves.numbered;
      waited = All-each (λ (entry : ℕ × Pending). IsTrue (awaits_made v entry.1.call.client entry.1.call.what)) (λ (entry : ℕ × Pending). IsTrue (awaits_made w entry.1.call.client entry.1.call.what))
          (λ entry is. awaits-later v w entry.1.call.client entry.1.call.what (λ c n. (let equal = alike.times c n in omega arith)) is) w.pending
          (all-kept (λ (entry : ℕ × Pending). awaits_made v entry.1.call.client entry.1.call.what) v.pending w.pending (alike.pending (λ entry. not (awaits_made v entry.1.call.client entry.1.call.what))) serves.waited);
      handles = alike.handles (λ entry. has_ended w entry.1.client entry.1.number)
          (All-each (λ (entry : ℕ × Handle). IsTrue (has_ended v entry.1.client entry.1.number)) (λ (entry : ℕ × Handle). IsTrue (has_ended w entry.1.client entry.1.number))
          (λ entry is. ended-later v w entry.1.client entry.1.number alike.ended is) v.handles serves.handles);
      opened = alike.handles (λ entry. nat_lt 0 entry.1.number) serves.opened;
      gives = record {
        files = let equal = alike.same.files in let most = up.files in omega arith;
        links = let equal = alike.same.links in let most = up.links in omega arith;
        streams = let equal = alike.same.streams in let most = up.streams in omega arith;
        handles = let equal = alike.same.handles in let most = up.handles in omega arith;
        locks = let equal = alike.same.locks in let most = up.locks in omega arith;
        clock = let equal = alike.clock in let most = up.clock in omega arith;
      };
      breaks = few;
    }

-- a try that stays pending changes nothing, or oplocks or watches alone
remains : (v w : Volume) (turn client : ℕ) (what : What) → Serves v → StaysUnder v turn w → w.table ≡ v.table → w.clients ≡ v.clients → w.files ≡ v.files → w.handles ≡ v.handles → w.clock ≡ v.clock
    → IsTrue (awaits_made v client what) → Remains v w client what
remains v w turn client what serves under table clients files handles clock awaited =
    let alike : (c n : ℕ) → times c n w ≡ times c n v = under.times serves.once in
    record {
      base = record { table = table; clients = clients };
      serves = serves-alike v w (made v + 1) serves (record {
        base = record { table = table; clients = clients };
        points = rw files serves.points;
        pending = under.pending;
        ended = under.ended;
        times = alike;
        handles = λ test all. rw handles all;
        same = under.same;
        clock = clock;
      }) (let more = under.breaks in let most = serves.breaks in omega arith);
      times = alike;
      made = under.made serves.once;
      pending = under.pending;
      awaited = awaits-later v w client what (λ c n. (let equal = alike c n in omega arith)) awaited;
    }

oplocks-remain : (v w : Volume) (turn client : ℕ) (what : What) → Serves v → StaysUnder v turn w → OnlyOplocks v w → IsTrue (awaits_made v client what) → Remains v w client what
oplocks-remain v w turn client what serves under only awaited =
    remains v w turn client what serves under (ap (λ (u : Volume). u.table) only.is) (ap (λ (u : Volume). u.clients) only.is) (ap (λ (u : Volume). u.files) only.is) (ap (λ (u : Volume). u.handles) only.is) (ap (λ (u : Volume). u.clock) only.is) awaited

watches-remain : (v w : Volume) (turn client : ℕ) (what : What) → Serves v → StaysUnder v turn w → OnlyWatches v w → IsTrue (awaits_made v client what) → Remains v w client what
watches-remain v w turn client what serves under only awaited =
    remains v w turn client what serves under (ap (λ (u : Volume). u.table) only.is) (ap (λ (u : Volume). u.clients) only.is) (ap (λ (u : Volume). u.files) only.is) (ap (λ (u : Volume). u.handles) only.is) (ap (λ (u : Volume). u.clock) only.is) awaited

stays : (v w : Volume) (turn client : ℕ) (what : What) → Serves v → StaysTo v client what w → StaysUnder v turn w → Remains v w client what
stays v w turn client (WaitFor earlier) serves so under =
    let same : w ≡ v = so.1 in
    remains v w turn client (WaitFor earlier) serves under (ap (λ (u : Volume). u.table) same) (ap (λ (u : Volume). u.clients) same) (ap (λ (u : Volume). u.files) same) (ap (λ (u : Volume). u.handles) same) (ap (λ (u : Volume). u.clock) same)
    (let some = how_many-some (λ (entry : ℕ × Pending). is_call client earlier entry.1) v.pending so.0 in lt-ltb 0 (times client earlier v) (omega arith))
stays v w turn client (Ask (OplockOf handle level)) serves so under = oplocks-remain v w turn client (Ask (OplockOf handle level)) serves under so refl
stays v w turn client (Ask (Ack handle level)) serves so under = oplocks-remain v w turn client (Ask (Ack handle level)) serves under so refl
stays v w turn client (Ask (Notify handle filter whole room)) serves so under = watches-remain v w turn client (Ask (Notify handle filter whole room)) serves under so refl
stays v w turn client _ serves so under = absurd so

holds : (v w : Volume) (call : Call) (blockers : List Blocker) → Serves v → OnlyBreaks v w → KeepsNumbers v w → SameNumbers v w → AreLiving w blockers → Holds v w blockers
holds v w call blockers serves only kept same living =
    let nothing : AddsNothing v w = AddsNothing-only_breaks only in
    let alike : (c n : ℕ) → times c n w ≡ times c n v = kept.keeps.times serves.once in
    record {
      base = record { table = nothing.table; clients = nothing.clients };
      times = alike;
      living = living;
      serves = serves-alike v w (made w) serves (record {
        base = record { table = nothing.table; clients = nothing.clients };
        points = nothing.points serves.points;
        pending = kept.keeps.pending;
        ended = kept.keeps.ended;
        times = alike;
        handles = nothing.handles;
        same = same;
        clock = nothing.clock;
      }) (let equal = kept.keeps.made serves.once in let fewer = kept.breaks in let most = serves.breaks in omega arith);
    }

comes : (v : Volume) (call : Call) (turn : ℕ) (outcome : Outcome) → Serves v → IsTrue (is_line_call (length v.clients) call) → FramedTo call v outcome → TriedTo v turn call.what outcome → Comes call v outcome
comes v call turn (Done w reply) serves asked frame tried = ends-done v w call reply serves asked frame tried
comes v call turn (Stay w interim) serves asked frame tried = stays v w turn call.client call.what serves frame.1 tried
comes v call turn (Hold w blockers interim) serves asked frame tried = holds v w call blockers serves frame.1 tried.0 tried.1.0 tried.1.1.0

-- so comes a try of what a line can ask
pub try-comes : (v : Volume) (call : Call) (turn : ℕ) → Serves v → HasOneOplockEach v → IsTrue (is_line_call (length v.clients) call) → ComesTo call v (try v call turn)
try-comes v call turn serves one asked = record {
  so = comes v call turn (try v call turn) serves asked (InFrame.so (try-frame v call turn serves.points)) (try-keeps v call turn one);
}

-- ---- what becomes of the call

-- it ends
record Lasts (v w : Volume) : Type 0 where
  base : SameBase v w
  points : PointsFit w
  pending : (test : ℕ × Pending → Bool) → how_many test w.pending ≤ how_many test v.pending
  ended : AddsEnds v.ended w.ended
  gives : GivesUpTo w (length v.ended + 2)
  once : IsOnce w
  breaks : w.last_break + unbroken w ≤ made w

end-serves : (v w : Volume) (client number : ℕ) (reply : Reply) → Serves v → Lasts v w → IsOnce (with_end w client number reply)
    → ((c n : ℕ) → times c n v ≤ times c n (with_end w client number reply))
    → All (λ entry. IsTrue (has_ended (with_end w client number reply) entry.1.client entry.1.number)) w.handles → All (λ entry. IsTrue (nat_lt 0 entry.1.number)) w.handles
    → Serves (with_end w client number reply)
end-serves v w client number reply serves lasts once more handles opened =
    let longer = AddsEnds-length lasts.ended in
    let one = length-append w.ended (record { client = client; number = number; reply = reply } ∷ []) in
    record {
      points = lasts.points;
      once = once;
      asked = rw lasts.base.clients (all-kept (λ (entry : ℕ × Pending). is_line_call (length v.clients) entry.1.call) v.pending after (fewer (λ entry. not (is_line_call (length v.clients) entry.1.call))) serves.asked);
      numbered = all-kept (λ (entry : ℕ × Pending). nat_lt 0 entry.1.call.number) v.pending after (fewer (λ entry. not (nat_lt 0 entry.1.call.number))) serves.numbered;
      waited = All-each (λ (entry : ℕ × Pending). IsTrue (awaits_made v entry.1.call.client entry.1.call.what)) (λ (entry : ℕ × Pending). IsTrue (awaits_made (with_end w client number reply) entry.1.call.client entry.1.call.what))
          (λ entry is. awaits-later v (with_end w client number reply) entry.1.call.client entry.1.call.what more is) after
          (all-kept (λ (entry : ℕ × Pending). awaits_made v entry.1.call.client entry.1.call.what) v.pending after (fewer (λ entry. not (awaits_made v entry.1.call.client entry.1.call.what))) serves.waited);
      handles = handles;
      opened = opened;
      gives = (let most : GivesUpTo w (length w.ended + 1 + 1) = GivesUpTo-more w (length v.ended + 2) (length w.ended + 1 + 1) (omega arith) lasts.gives in
          let all : GivesUpTo w (length (with_end w client number reply).ended + 1) = rw one most in
          record { files = all.files; links = all.links; streams = all.streams; handles = all.handles; locks = all.locks; clock = all.clock });
      breaks = (let fewer = made-ends w client number reply lasts.once in let most = lasts.breaks in omega arith);
    }
  where
    after : List (ℕ × Pending)
    after = (with_end w client number reply).pending

    fewer : (test : ℕ × Pending → Bool) → how_many test after ≤ how_many test v.pending
    fewer test = (let kept = how_many-filter_le test (λ (entry : ℕ × Pending). not (is_call client number entry.1)) w.pending in let few = lasts.pending test in omega arith)

-- a call that its try ends
pub Serves-ends : (v w : Volume) (call : Call) (reply : Reply) → Serves v → IsTrue (nat_lt 0 call.number) → Ends call v w → IsOnce (with_end w call.client call.number reply)
    → ((c n : ℕ) → times c n v ≤ times c n (with_end w call.client call.number reply)) → Serves (with_end w call.client call.number reply)
Serves-ends v w call reply serves numbered ends once more =
    end-serves v w call.client call.number reply serves
    (record { base = ends.base; points = ends.points; pending = ends.pending; ended = ends.ended; gives = ends.gives; once = ends.once; breaks = ends.breaks }) once more
    (ends.handles (λ handle. has_ended after handle.client handle.number)
    (All-each (λ (entry : ℕ × Handle). IsTrue (has_ended v entry.1.client entry.1.number)) (λ (entry : ℕ × Handle). IsTrue (has_ended after entry.1.client entry.1.number))
    (λ entry is. ended-later w after entry.1.client entry.1.number (AddsEnds-end w call.client call.number reply) (ended-later v w entry.1.client entry.1.number ends.ended is)) v.handles serves.handles)
    (λ handle client number. rw (client, number) (own-ended w call.client call.number reply)))
    (ends.handles (λ handle. nat_lt 0 handle.number) serves.opened (λ handle client number. rw number numbered))
  where
    after : Volume
    after = with_end w call.client call.number reply

-- a pending call that ends without a try
pub Serves-over : (v : Volume) (client number : ℕ) (reply : Reply) → Serves v → IsOnce (with_end v client number reply)
    → ((c n : ℕ) → times c n v ≤ times c n (with_end v client number reply)) → Serves (with_end v client number reply)
Serves-over v client number reply serves once more =
    end-serves v v client number reply serves
    (record {
      base = SameBase-same v;
      points = serves.points;
      pending = λ test. omega arith;
      ended = record { more = []; is = sym (append-nil v.ended) };
      gives = GivesUpTo-more v (length v.ended + 1) (length v.ended + 2) (omega arith) serves.gives;
      once = serves.once;
      breaks = serves.breaks;
    }) once more
    (All-each (λ (entry : ℕ × Handle). IsTrue (has_ended v entry.1.client entry.1.number)) (λ (entry : ℕ × Handle). IsTrue (has_ended (with_end v client number reply) entry.1.client entry.1.number))
    (λ entry is. ended-later v (with_end v client number reply) entry.1.client entry.1.number (AddsEnds-end v client number reply) is) v.handles serves.handles)
    serves.opened

-- a call that becomes pending
pub Serves-pends : (v : Volume) (call : Call) (turn : ℕ) (blockers : List Blocker) → ServesWithin v (made v + 1) → IsTrue (is_line_call (length v.clients) call) → IsTrue (nat_lt 0 call.number)
    → IsTrue (awaits_made v call.client call.what) → IsOnce (with_pending v turn call blockers) → Serves (with_pending v turn call blockers)
Serves-pends v call turn blockers serves asked numbered waited once = record {
  points = serves.points;
  once = once;
  asked = all-append (λ (entry : ℕ × Pending). is_line_call (length v.clients) entry.1.call) v.pending (turn, record { call = call; blockers = blockers }) serves.asked asked;
  numbered = all-append (λ (entry : ℕ × Pending). nat_lt 0 entry.1.call.number) v.pending (turn, record { call = call; blockers = blockers }) serves.numbered numbered;
  waited = All-each (λ (entry : ℕ × Pending). IsTrue (awaits_made v entry.1.call.client entry.1.call.what)) (λ (entry : ℕ × Pending). IsTrue (awaits_made (with_pending v turn call blockers) entry.1.call.client entry.1.call.what))
      (λ entry is. awaits-later v (with_pending v turn call blockers) entry.1.call.client entry.1.call.what
      (λ c n. (let more : how_many (λ (e : ℕ × Pending). is_call c n e.1) (with_pending v turn call blockers).pending ≡ how_many (λ (e : ℕ × Pending). is_call c n e.1) v.pending + how_many (λ (e : ℕ × Pending). is_call c n e.1) ((turn, record { call = call; blockers = blockers }) ∷ [])
      = how_many-append (λ (e : ℕ × Pending). is_call c n e.1) v.pending ((turn, record { call = call; blockers = blockers }) ∷ []) in omega arith)) is) (with_pending v turn call blockers).pending
      (all-append (λ (entry : ℕ × Pending). awaits_made v entry.1.call.client entry.1.call.what) v.pending (turn, record { call = call; blockers = blockers }) serves.waited waited);
  handles = serves.handles;
  opened = serves.opened;
  gives = record { files = serves.gives.files; links = serves.gives.links; streams = serves.gives.streams; handles = serves.gives.handles; locks = serves.gives.locks; clock = serves.gives.clock };
  breaks = (let one = length-append v.pending ((turn, record { call = call; blockers = blockers }) ∷ []) in let most = serves.breaks in omega arith);
}

-- and one that is held anew
pub Serves-blockers : (v : Volume) (turn : ℕ) (blockers : List Blocker) → Serves v → Serves (with_blockers v turn blockers)
Serves-blockers v turn blockers serves = record {
  points = serves.points;
  once = IsOnce-kept v (with_blockers v turn blockers) same serves.once;
  asked = all-changed (λ call. is_line_call (length v.clients) call) v.pending serves.asked;
  numbered = all-changed (λ call. nat_lt 0 call.number) v.pending serves.numbered;
  waited = all-changed (λ call. awaits_made (with_blockers v turn blockers) call.client call.what) v.pending
      (All-each (λ (entry : ℕ × Pending). IsTrue (awaits_made v entry.1.call.client entry.1.call.what)) (λ (entry : ℕ × Pending). IsTrue (awaits_made (with_blockers v turn blockers) entry.1.call.client entry.1.call.what))
      (λ entry is. awaits-later v (with_blockers v turn blockers) entry.1.call.client entry.1.call.what (λ c n. (let equal = same c n in omega arith)) is) v.pending serves.waited);
  handles = serves.handles;
  opened = serves.opened;
  gives = record { files = serves.gives.files; links = serves.gives.links; streams = serves.gives.streams; handles = serves.gives.handles; locks = serves.gives.locks; clock = serves.gives.clock };
  breaks = (let same_rows = length-map v.pending (change_at (λ row. record row { blockers = blockers }) turn) in let most = serves.breaks in omega arith);
}
  where
    call-same : (entry : ℕ × Pending) → (change_at (λ row. record row { blockers = blockers }) turn entry).1.call ≡ entry.1.call
    call-same entry = elim (cases_Bool (entry.0 == turn)) [ inl is ↦ rw is refl | inr isnt ↦ rw isnt refl ]

    same : (c n : ℕ) → times c n (with_blockers v turn blockers) ≡ times c n v
    same c n = (let mapped = how_many-map (λ (e : ℕ × Pending). is_call c n e.1) (change_at (λ row. record row { blockers = blockers }) turn) v.pending in
        let alike = how_many-same (λ (e : ℕ × Pending). is_call c n (change_at (λ row. record row { blockers = blockers }) turn e).1) (λ e. is_call c n e.1) v.pending (λ e. ap (λ (call : Call). call.client == c && call.number == n) (call-same e)) in omega arith)

    all-changed : (test : Call → Bool) (rows : List (ℕ × Pending)) → All (λ entry. IsTrue (test entry.1.call)) rows → All (λ (entry : ℕ × Pending). IsTrue (test entry.1.call)) (map (change_at (λ row. record row { blockers = blockers }) turn) rows)
    all-changed test [] all = All-nil (λ (entry : ℕ × Pending). IsTrue (test entry.1.call))
    all-changed test (row ∷ rows) all =
        All-cons (λ (entry : ℕ × Pending). IsTrue (test entry.1.call)) (change_at (λ row. record row { blockers = blockers }) turn row) (map (change_at (λ row. record row { blockers = blockers }) turn) rows)
        (subst (λ (call : Call). IsTrue (test call)) (sym (call-same row)) (All-head (λ (entry : ℕ × Pending). IsTrue (test entry.1.call)) row rows all))
        (all-changed test rows (All-tail (λ (entry : ℕ × Pending). IsTrue (test entry.1.call)) row rows all))

-- ---- the beginning

pub Serves-fresh : (setup : Setup) → Serves (fresh setup)
Serves-fresh setup = record {
  points = All-cons (λ (entry : ℕ × File). PointFits entry.1) (1, root) [] tt (All-nil (λ (entry : ℕ × File). PointFits entry.1));
  once = λ client number. omega arith;
  asked = All-nil (λ (entry : ℕ × Pending). IsTrue (is_line_call (length setup.clients) entry.1.call));
  numbered = All-nil (λ (entry : ℕ × Pending). IsTrue (nat_lt 0 entry.1.call.number));
  waited = All-nil (λ (entry : ℕ × Pending). IsTrue (awaits_made (fresh setup) entry.1.call.client entry.1.call.what));
  handles = All-nil (λ (entry : ℕ × Handle). IsTrue (has_ended (fresh setup) entry.1.client entry.1.number));
  opened = All-nil (λ (entry : ℕ × Handle). IsTrue (nat_lt 0 entry.1.number));
  gives = record { files = omega arith; links = omega arith; streams = omega arith; handles = omega arith; locks = omega arith; clock = omega arith };
  breaks = omega arith;
}
