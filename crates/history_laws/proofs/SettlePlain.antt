-- Which calls that end in a turn found no memory: just those that its settlement lets starve, in that order. And none is
-- stalled before the settlement's end.
use Rattle.std.proofs.Common.{◌≡◌, ◌≤◌, ℕ, zero, suc, Bool, true, false, arith, List, [], ◌∷◌, ◌++◌, length, drop, append_assoc, refl, ap, sym, subst, ◌∙◌, inl, inr, Some, None}
use Rattle.std.specs.List.{list_any}
use Rattle.std.specs.Prelude.{◌==◌, ◌&&◌, ◌||◌, nat_le, if◌then◌else◌}
use Rattle.std.proofs.lemmas.List.Folds.{list_any-append}
use Rattle.std.proofs.Math.Seq.{drop-append_seam}
use Rattle.std.proofs.lemmas.Bool.{cases_Bool, eqb-true}
use Rattle.fsa_types.specs.declared.reply.Body.TheVariants.{Nothing}
use Rattle.fsa_types.specs.declared.reply.EndOf.{EndOf}
use Rattle.fsa_types.specs.declared.request.Call.{Call}
use Rattle.fsa_types.specs.declared.request.CallId.{CallId}
use Rattle.fsa_types.specs.declared.request.Request.TheVariants.{Notify}
use Rattle.fsa_types.specs.declared.request.What.{What}
use Rattle.fsa_types.specs.declared.request.What.TheVariants.{Ask}
use Rattle.fsa_types.specs.declared.status.Status.TheVariants.{Success, NoMemory, Stalled}
use Rattle.fsa_model.specs.Close.{with_calls_ended}
use Rattle.fsa_model.specs.Edits.{with_blockers, with_end, with_pending}
use Rattle.fsa_model.specs.Engine.{own_tried}
use Rattle.fsa_model.specs.Lookups.{handle_of}
use Rattle.fsa_model.specs.Outcome.{Outcome, Done, Stay, Hold}
use Rattle.fsa_model.specs.Settle.{Settling, come_over, held_taken_up, rest_of_starved, reported, repeated, settle_step, settled, starves, taken_up, taken_up_all, with_ended, with_reported, with_starved, with_tried}
use Rattle.fsa_model.specs.Try.{try}
use Rattle.fsa_model.specs.Turn.{Turned, answered, ends_between, settlement, turn, turn_number, turned, volume_after}
use Rattle.fsa_model.specs.Volume.{Pending, Volume}
use Rattle.fsa_model.specs.Waiting.{all_wait, is_held, next_ready, waits_in_order, with_stalled}
use Rattle.fsa_model.specs.Watching.{due_size, report, with_watch_seen}
use Rattle.fsa_model.proofs.CountLaws.{and_left, and_right, how_many-append}
use Rattle.fsa_model.specs.Once.{how_many}
use Rattle.fsa_model.proofs.RowLaws.{any-weaker, option_cases, or_right}
use Rattle.fsa_model.proofs.SettleLaws.{some_equal}
use Rattle.fsa_model.specs.Starving.{EndsPlain, EndsPlainly, TriesPlain, is_no_memory, is_stalled, only_settlements_give, starved_of}
use Rattle.fsa_model.proofs.PlainLaws.{EndsPlain-end, EndsPlain-next, EndsPlain-same, starved_of-append, starved_of-plain}
use Rattle.history_laws.proofs.PlainTries.{report-plain, try-plain}

-- ---- one step

-- further calls have ended, and these of them found no memory
pub record EndsStarved (v w : Volume) (starved : List CallId) : Type 0 where
  pub more : List EndOf
  pub is : w.ended ≡ v.ended ++ more
  pub names : starved_of more ≡ starved

pub EndsStarved-plain : {v w : Volume} → EndsPlain v w → EndsStarved v w []
EndsStarved-plain plain = record { more = plain.more; is = plain.is; names = starved_of-plain plain.more plain.plain }

pub EndsStarved-next : {u v w : Volume} {first second : List CallId} → EndsStarved u v first → EndsStarved v w second → EndsStarved u w (first ++ second)
EndsStarved-next {u} {first = ids} one two = record {
  more = one.more ++ two.more;
  is = two.is ∙ ap (λ (ended : List EndOf). ended ++ two.more) one.is ∙ append_assoc u.ended one.more two.more;
  names = starved_of-append one.more two.more ∙ ap (λ (front : List CallId). front ++ starved_of two.more) one.names ∙ ap (λ (back : List CallId). ids ++ back) two.names;
}

-- none of these ends is STALLED
abbrev pub is_stalled_end : EndOf → Bool
is_stalled_end end = is_stalled end.reply.status

unstalled-plain : (ends : List EndOf) → list_any (λ end. only_settlements_give end.reply.status) ends ≡ false → list_any is_stalled_end ends ≡ false
unstalled-plain ends plain = elim (cases_Bool (list_any is_stalled_end ends)) [
  | inr none ↦ none
  | inl some ↦ absurd (let any : list_any (λ (end : EndOf). only_settlements_give end.reply.status) ends ≡ true
      = any-weaker is_stalled_end (λ (end : EndOf). only_settlements_give end.reply.status) ends (λ end is. or_right (is_no_memory end.reply.status) (is_stalled end.reply.status) is) some in cc)
]

-- some of those that are to starve have, in order, and no call was stalled
record Lets (s t : Settling) : Type 0 where
  gone : List CallId
  ends : EndsStarved s.volume t.volume gone
  unstalled : list_any is_stalled_end ends.more ≡ false
  left : s.starved ≡ gone ++ t.starved

Lets-plain : (s t : Settling) → EndsPlain s.volume t.volume → s.starved ≡ t.starved → Lets s t
unfolding EndsStarved-plain
Lets-plain s t plain same = record { gone = []; ends = EndsStarved-plain plain; unstalled = unstalled-plain plain.more plain.plain; left = same }

Lets-next : (r s t : Settling) → Lets r s → Lets s t → Lets r t
unfolding EndsStarved-next
Lets-next r s t one two = record {
  gone = one.gone ++ two.gone;
  ends = EndsStarved-next one.ends two.ends;
  unstalled = list_any-append is_stalled_end one.ends.more two.ends.more ∙ ap (λ b. b || list_any is_stalled_end two.ends.more) one.unstalled ∙ two.unstalled;
  left = one.left ∙ ap (λ (left : List CallId). one.gone ++ left) two.left ∙ sym (append_assoc one.gone two.gone t.starved);
}

-- the next one that is to starve
next-starves : (ids : List CallId) (pending : Pending) → starves ids pending ≡ true → ids ≡ record { client = pending.call.client; number = pending.call.number } ∷ rest_of_starved ids
next-starves [] pending is = cc
next-starves (id ∷ ids) pending is =
    let client : id.client ≡ pending.call.client = eqb-true id.client pending.call.client (and_left (id.client == pending.call.client) (id.number == pending.call.number) is) in
    let number : id.number ≡ pending.call.number = eqb-true id.number pending.call.number (and_right (id.client == pending.call.client) (id.number == pending.call.number) is) in
    rw (← client, ← number) refl

-- it finds no memory
Lets-starved : (s : Settling) (pending : Pending) (taken : List ℕ) → starves s.starved pending ≡ true → Lets s (record (with_starved s pending) { taken = taken })
Lets-starved s pending taken is = record {
  gone = record { client = pending.call.client; number = pending.call.number } ∷ [];
  ends = record { more = record { client = pending.call.client; number = pending.call.number; reply = record { status = NoMemory; body = Nothing } } ∷ []; is = refl; names = refl };
  unstalled = refl;
  left = next-starves s.starved pending is;
}

-- it was tried again
EndsPlain-tried : (v : Volume) (turn : ℕ) (pending : Pending) (outcome : Outcome) → EndsPlainly v outcome → EndsPlain v (with_tried turn pending outcome)
EndsPlain-tried v turn pending (Done w reply) so = EndsPlain-end pending.call.client pending.call.number reply so.0 so.1
EndsPlain-tried v turn pending (Stay w interim) so = EndsPlain-next so (EndsPlain-same {v = w} {w = with_blockers w turn []} refl)
EndsPlain-tried v turn pending (Hold w blockers interim) so = EndsPlain-next so (EndsPlain-same {v = w} {w = with_blockers w turn blockers} refl)

Lets-held : (s : Settling) (turn : ℕ) (pending : Pending) → Lets s (held_taken_up s turn pending)
Lets-held s turn pending = elim (cases_Bool (starves s.starved pending)) [
  | inl starving ↦ rw starving (Lets-starved s pending (s.taken ++ turn ∷ []) starving)
  | inr plenty ↦ rw plenty (Lets-plain s _ (EndsPlain-tried s.volume turn pending (try s.volume pending.call turn) (TriesPlain.so (try-plain s.volume pending.call turn))) refl)
]

Lets-if : (s : Settling) (test : Bool) (one other : Settling) → (test ≡ true → Lets s one) → (test ≡ false → Lets s other) → Lets s (if test then one else other)
Lets-if s true one other holds fails = holds refl
Lets-if s false one other holds fails = fails refl

Lets-reported : (s : Settling) (pending : Pending) (id room : ℕ) → Lets s (reported s pending id room)
Lets-reported s pending id room =
    Lets-if s (starves s.starved pending && nat_le (due_size s.volume id) room) _ _
    (λ both. Lets-starved s pending s.taken (and_left (starves s.starved pending) (nat_le (due_size s.volume id) room) both))
    (λ no. Lets-plain s _ reports refl)
  where
    reports : EndsPlain s.volume (with_reported s.volume pending id room)
    reports = EndsPlain-end pending.call.client pending.call.number (report s.volume id room) (EndsPlain-same {v = s.volume} {w = with_watch_seen s.volume id} refl) (report-plain s.volume id room)

EndsPlain-over : (v : Volume) (pending : Pending) → EndsPlain v (with_ended v pending Success)
EndsPlain-over v pending = EndsPlain-end {v = v} {w = v} pending.call.client pending.call.number _ (EndsPlain-same refl) refl

Lets-come : (s : Settling) (pending : Pending) (what : What) → Lets s (come_over s pending what)
Lets-come s pending (Ask (Notify handle filter whole room)) = elim (option_cases (handle_of s.volume pending.call.client handle)) [
  | inl none ↦ rw none (Lets-plain s s (EndsPlain-same refl) refl)
  | inr some ↦ rw some.1 (Lets-reported s pending some.0 room)
]
Lets-come s pending _ = Lets-plain s _ (EndsPlain-over s.volume pending) refl

Lets-taken_up : (s : Settling) (entry : ℕ × Pending) → Lets s (taken_up s entry)
Lets-taken_up s entry = elim (cases_Bool (is_held entry.1)) [
  | inl held ↦ rw held (Lets-held s entry.0 entry.1)
  | inr waits ↦ rw waits (Lets-come s entry.1 entry.1.call.what)
]

Lets-step : (s t : Settling) → settle_step s ≡ Some t → Lets s t
Lets-step s t is = elim (option_cases (next_ready s.volume)) [
  | inl none ↦ (let impossible : None ≡ Some t = rw none at is in cc)
  | inr some ↦ (let same : taken_up s some.0 ≡ t = some_equal (taken_up s some.0) t (rw some.1 at is) in subst (Lets s) same (Lets-taken_up s some.0))
]

-- ---- the settlement

Lets-repeated : (most : ℕ) (s : Settling) → Lets s (repeated settle_step most s)
Lets-repeated zero s = Lets-plain s s (EndsPlain-same refl) refl
Lets-repeated (suc most) s = elim (option_cases (settle_step s)) [
  | inl none ↦ rw none (Lets-plain s s (EndsPlain-same refl) refl)
  | inr some ↦ rw some.1 (Lets-next s some.0 (repeated settle_step most some.0) (Lets-step s some.0 some.1) (Lets-repeated most some.0))
]

-- no call that is stalled found no memory
none_starved-stalled : (calls : List (ℕ × Pending)) (v : Volume) → EndsStarved v (with_calls_ended (λ _. Stalled) calls v) []
none_starved-stalled [] v = EndsStarved-plain (EndsPlain-same refl)
none_starved-stalled (entry ∷ calls) v =
    let end : EndOf = record { client = entry.1.call.client; number = entry.1.call.number; reply = record { status = Stalled; body = Nothing } } in
    EndsStarved-next {v = with_end v entry.1.call.client entry.1.call.number (record { status = Stalled; body = Nothing })} (record { more = end ∷ []; is = refl; names = refl })
    (none_starved-stalled calls (with_end v entry.1.call.client entry.1.call.number (record { status = Stalled; body = Nothing })))

EndsStarved-stalled : (v : Volume) → EndsStarved v (with_stalled v) []
EndsStarved-stalled v = elim (cases_Bool (all_wait v)) [
  | inl all ↦ rw all (none_starved-stalled (waits_in_order v) v)
  | inr some ↦ rw some (EndsStarved-plain (EndsPlain-same refl))
]

none_left : (left : List CallId) → (length left == 0) ≡ true → left ≡ []
none_left [] none = refl
none_left (id ∷ left) none = absurd (let short : length (id ∷ left) ≡ 0 = eqb-true (length (id ∷ left)) 0 none in omega arith)

-- all that are to starve have, where none is left
settled-starved : (v : Volume) (starved : List CallId) → (length (settled v starved).starved == 0) ≡ true → EndsStarved v (settled v starved).volume starved
settled-starved v starved all =
    let lets : Lets (record { volume = v; starved = starved; taken = [] }) (taken_up_all v starved) = Lets-repeated (length v.pending) (record { volume = v; starved = starved; taken = [] }) in
    let ends : EndsStarved v (settled v starved).volume (lets.gone ++ []) = EndsStarved-next lets.ends (EndsStarved-stalled (taken_up_all v starved).volume) in
    let names : lets.gone ++ [] ≡ starved = ap (λ (left : List CallId). lets.gone ++ left) (sym (none_left (taken_up_all v starved).starved all)) ∙ sym lets.left in
    subst (EndsStarved v (settled v starved).volume) names ends

-- further calls have ended, and none of them is STALLED
pub record EndsUnstalled (v w : Volume) : Type 0 where
  pub more : List EndOf
  pub is : w.ended ≡ v.ended ++ more
  pub none : list_any is_stalled_end more ≡ false

-- until all that is ready has been taken up
pub taken_up-unstalled : (v : Volume) (starved : List CallId) → EndsUnstalled v (taken_up_all v starved).volume
taken_up-unstalled v starved =
    let lets : Lets (record { volume = v; starved = starved; taken = [] }) (taken_up_all v starved) = Lets-repeated (length v.pending) (record { volume = v; starved = starved; taken = [] }) in
    record { more = lets.ends.more; is = lets.ends.is; none = lets.unstalled }

-- nor by the try of the turn's own call
answered-plain : (v : Volume) (call : Call) (turn : ℕ) (outcome : Outcome) → EndsPlainly v outcome → EndsPlain v (answered call turn outcome)
answered-plain v call turn (Done w reply) so = EndsPlain-end call.client call.number reply so.0 so.1
answered-plain v call turn (Stay w interim) so = EndsPlain-next so (EndsPlain-same {v = w} {w = with_pending w turn call []} refl)
answered-plain v call turn (Hold w blockers interim) so = EndsPlain-next so (EndsPlain-same {v = w} {w = with_pending w turn call blockers} refl)

pub own-unstalled : (v : Volume) (call : Call) → EndsUnstalled v (own_tried v call)
own-unstalled v call =
    let plain : EndsPlain v (own_tried v call) = answered-plain v call (turn_number v) (try v call (turn_number v)) (TriesPlain.so (try-plain v call (turn_number v))) in
    record { more = plain.more; is = plain.is; none = unstalled-plain plain.more plain.plain }

-- ---- a turn

-- of the calls that end in a turn besides its answer just its starved calls found no memory, in their order; and
-- each of those ends is kept
pub record GivesStarved (t : Turned) (starved : List CallId) : Type 0 where
  pub names : starved_of t.out.ended ≡ starved
  pub kept : (test : EndOf → Bool) → how_many test t.out.ended ≤ how_many test t.volume.ended

ends_between-more : (v w : Volume) (more : List EndOf) → w.ended ≡ v.ended ++ more → ends_between v w ≡ more
ends_between-more v w more is = ap (drop (length v.ended)) is ∙ drop-append_seam v.ended more

-- the own try's ends
own-plain : (v : Volume) (outcome : Outcome) → EndsPlainly v outcome → EndsPlain v (volume_after outcome)
own-plain v (Done w reply) so = so.0
own-plain v (Stay w interim) so = so
own-plain v (Hold w blockers interim) so = so

answered-kept : (call : Call) (turn : ℕ) (outcome : Outcome) (test : EndOf → Bool) → how_many test (volume_after outcome).ended ≤ how_many test (answered call turn outcome).ended
answered-kept call turn (Done w reply) test = let longer = how_many-append test w.ended (record { client = call.client; number = call.number; reply = reply } ∷ []) in omega arith
answered-kept call turn (Stay w interim) test = omega arith
answered-kept call turn (Hold w blockers interim) test = omega arith

turned-starved : (v : Volume) (call : Call) (starved : List CallId) (outcome : Outcome) (after : Volume) → EndsPlainly v outcome → EndsStarved (answered call (turn_number v) outcome) after starved
    → GivesStarved (turned v outcome (answered call (turn_number v) outcome) starved after) starved
turned-starved v call starved outcome after so settles =
    let own : Volume = answered call (turn_number v) outcome in
    let plain : EndsPlain v (volume_after outcome) = own-plain v outcome so in
    let first : ends_between v (volume_after outcome) ≡ plain.more = ends_between-more v (volume_after outcome) plain.more plain.is in
    let second : ends_between own after ≡ settles.more = ends_between-more own after settles.more settles.is in
    let both : ends_between v (volume_after outcome) ++ ends_between own after ≡ plain.more ++ settles.more
    = ap (λ (ends : List EndOf). ends ++ ends_between own after) first ∙ ap (λ (ends : List EndOf). plain.more ++ ends) second in
    record {
      names = ap starved_of both ∙ starved_of-append plain.more settles.more ∙ ap (λ (ids : List CallId). ids ++ starved_of settles.more) (starved_of-plain plain.more plain.plain) ∙ settles.names;
      kept = λ test.
          let counts : how_many test (ends_between v (volume_after outcome) ++ ends_between own after) ≡ how_many test (plain.more ++ settles.more) = ap (how_many test) both in
          let split = how_many-append test plain.more settles.more in
          let tried : how_many test (volume_after outcome).ended ≡ how_many test (v.ended ++ plain.more) = ap (how_many test) plain.is in
          let tried_split = how_many-append test v.ended plain.more in
          let answers = answered-kept call (turn_number v) outcome test in
          let all : how_many test after.ended ≡ how_many test (own.ended ++ settles.more) = ap (how_many test) settles.is in
          let all_split = how_many-append test own.ended settles.more in
          omega arith;
    }

pub turn-starved : (v : Volume) (call : Call) (starved : List CallId) (t : Turned) → turn v call starved ≡ Some t → GivesStarved t starved
turn-starved v call starved t is = elim (cases_Bool (length (settlement v call starved).starved == 0)) [
  | inr some ↦ (let impossible : None ≡ Some t = rw some at is in cc)
  | inl all ↦ subst (λ (t : Turned). GivesStarved t starved) (some_equal _ t (rw all at is))
      (turned-starved v call starved (try v call (turn_number v)) (settlement v call starved).volume (TriesPlain.so (try-plain v call (turn_number v)))
      (settled-starved (answered call (turn_number v) (try v call (turn_number v))) starved all))
]
