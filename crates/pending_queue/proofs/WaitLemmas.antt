-- Blockers with the turns that wait for them: as one is put in, and as those of a turn or of a blocker live no more.
use Rattle.std.proofs.Common.{◌≡◌, ℕ, zero, suc, Bool, true, false, not, ◌-◌, ◌<◌, ◌≤◌, List, [], ◌∷◌, ◌++◌, length, get_or, refl, ap, sym, ◌∙◌, arith, inl, inr, get_or-set_same, get_or-set_other}
use Rattle.std.specs.Prelude.{◌==◌, count_by, map, filter, if◌then◌else◌}
use Rattle.std.proofs.Math.ListN.{set, length-set}
use Rattle.std.proofs.lemmas.Bool.{cases_Bool, cases_eq, cases_lt, eqb-true, eqb-false, false≢true, ne_eqb}
use Rattle.std.proofs.lemmas.List.{length-map}
use Rattle.std.proofs.lemmas.List.Sums.{length-filter}
use Rattle.fsa_types.specs.Rows.{with_row_changed}
use Rattle.fsa_types.specs.declared.reply.Blocker.{Blocker}
use Rattle.fsa_types.specs.declared.reply.Blocker.TheVariants.{Break, Lock}
use Rattle.pending_queue.specs.declared.waits.Wait.{Wait}
use Rattle.pending_queue.specs.Lists.{discounted, turns_of}
use Rattle.pending_queue.specs.PendingQueue.{is_same}
use Rattle.pending_queue.specs.Waits.{AreFound, AreLinked, bare, by_blocker, by_turn, end_of, living_entries, is_blocker, is_in, is_out, is_turn, link_of, wait_links, nothing, blocker_number, ended_where, over_at, seek, slot, slots_of, turn_link_of}
use Rattle.pending_queue.proofs.CountLemmas.{turns-changed}
use Rattle.pending_queue.proofs.SeekLemmas.{AreLinked-push, end-headed, seek-all, seek-gap, seek-le, seek-settled, settled-here}

-- ---- one more

pub entries-push : (waits : List Wait) (wait : Wait) → wait.lives ≡ true → living_entries (waits ++ wait ∷ []) ≡ living_entries waits ++ (wait.turn, wait.blocker) ∷ []
entries-push [] wait lives = rw lives refl
entries-push (w ∷ ws) wait lives =
    elim (cases_Bool w.lives) [
      | inl there ↦ rw there (ap (λ rest. (w.turn, w.blocker) ∷ rest) (entries-push ws wait lives))
      | inr gone ↦ rw gone (entries-push ws wait lives)
    ]

pub entries-many : (waits : List Wait) → length (living_entries waits) ≡ count_by (λ wait. wait.lives) waits
entries-many waits = length-map (filter (λ (wait : Wait). wait.lives) waits) (λ wait. (wait.turn, wait.blocker)) ∙ length-filter _ waits

slots-push : (key : Wait → ℕ) (many : ℕ) (waits : List Wait) (wait : Wait) → slots_of key many (waits ++ wait ∷ []) ≡ slots_of key many waits ++ slot many (key wait) ∷ []
slots-push key many [] wait = refl
slots-push key many (w ∷ ws) wait = ap (λ rest. slot many (key w) ∷ rest) (slots-push key many ws wait)

links-push : (link : Wait → ℕ) (waits : List Wait) (wait : Wait) → wait_links link (waits ++ wait ∷ []) ≡ wait_links link waits ++ link wait ∷ []
links-push link [] wait = refl
links-push link (w ∷ ws) wait = ap (λ rest. link w ∷ rest) (links-push link ws wait)

slots-many : (key : Wait → ℕ) (many : ℕ) (waits : List Wait) → length (slots_of key many waits) ≡ length waits
slots-many key many [] = refl
slots-many key many (w ∷ ws) = ap suc (slots-many key many ws)

links-many : (link : Wait → ℕ) (waits : List Wait) → length (wait_links link waits) ≡ length waits
links-many link [] = refl
links-many link (w ∷ ws) = ap suc (links-many link ws)

-- with no heads all have slot 0
no_slots : (key : Wait → ℕ) (waits : List Wait) (p : ℕ) → is_in (slots_of key 0 waits) 0 p ≡ true
no_slots key [] p = refl
no_slots key (w ∷ ws) zero = refl
no_slots key (w ∷ ws) (suc p) = no_slots key ws p

slot-within : (many number : ℕ) → 0 < many → slot many number < many
slot-within many number some =
    let none : (many == 0) ≡ false = ne_eqb many 0 (λ is. absurd (omega arith)) in
    rw none (omega arith)

-- where those of the slot of a number end
end-is : (key link : Wait → ℕ) (heads : List ℕ) (waits : List Wait) (number : ℕ) → AreLinked heads (slots_of key (length heads) waits) (wait_links link waits)
    → end_of heads (slot (length heads) number) (length waits) ≡ seek (is_in (slots_of key (length heads) waits) (slot (length heads) number)) (length waits)
end-is key link [] waits number are = seek-all (is_in (slots_of key 0 waits) 0) (length waits) (λ p _. no_slots key waits p)
end-is key link (h ∷ hs) waits number are =
    let heads : List ℕ = h ∷ hs in
    let slots : List ℕ = slots_of key (length heads) waits in
    rw (← slots-many key (length heads) waits) (end-headed heads slots (wait_links link waits) (slot (length heads) number) are (slot-within (length heads) number (omega arith)))

-- one is put in, and the head of its slot is set behind it
pub AreLinked-pushed : (key link : Wait → ℕ) (heads : List ℕ) (waits : List Wait) (wait : Wait) (own end : ℕ) → AreLinked heads (slots_of key (length heads) waits) (wait_links link waits)
    → own ≡ slot (length heads) (key wait) → link wait ≡ end_of heads own (length waits) → end ≡ suc (length waits)
    → AreLinked (set heads own end) (slots_of key (length (set heads own end)) (waits ++ wait ∷ [])) (wait_links link (waits ++ wait ∷ []))
AreLinked-pushed key link heads waits wait own end are is linked behind =
    let slots : List ℕ = slots_of key (length heads) waits in
    let many = slots-many key (length heads) waits in
    let as_many = links-many link waits in
    let found : link wait ≡ seek (is_in slots own) (length slots) = linked ∙ ap (λ (k : ℕ). end_of heads k (length waits)) is ∙ end-is key link heads waits (key wait) are
    ∙ ap (λ (k : ℕ). seek (is_in slots k) (length waits)) (sym is) ∙ ap (seek (is_in slots own)) (sym many) in
    let last : end ≡ suc (length slots) = behind ∙ ap suc (sym many) in
    let pushed = AreLinked-push heads slots (wait_links link waits) own (link wait) are (as_many ∙ sym many) found in
    rw (length-set heads own end, slots-push key (length heads) waits wait, links-push link waits wait, ← is, last) pushed

-- ---- all but whether they live

slots-bare : (key : Wait → ℕ) (many : ℕ) (waits : List Wait) → ((wait : Wait) → key (bare wait) ≡ key wait) → slots_of key many (map bare waits) ≡ slots_of key many waits
slots-bare key many [] keeps = refl
slots-bare key many (w ∷ ws) keeps = rw (keeps w, slots-bare key many ws keeps) refl

links-bare : (link : Wait → ℕ) (waits : List Wait) → ((wait : Wait) → link (bare wait) ≡ link wait) → wait_links link (map bare waits) ≡ wait_links link waits
links-bare link [] keeps = refl
links-bare link (w ∷ ws) keeps = rw (keeps w, links-bare link ws keeps) refl

slots-kept : (key : Wait → ℕ) (many : ℕ) (old new : List Wait) → ((wait : Wait) → key (bare wait) ≡ key wait) → map bare new ≡ map bare old → slots_of key many new ≡ slots_of key many old
slots-kept key many old new keeps same = sym (slots-bare key many new keeps) ∙ ap (slots_of key many) same ∙ slots-bare key many old keeps

links-kept : (link : Wait → ℕ) (old new : List Wait) → ((wait : Wait) → link (bare wait) ≡ link wait) → map bare new ≡ map bare old → wait_links link new ≡ wait_links link old
links-kept link old new keeps same = sym (links-bare link new keeps) ∙ ap (wait_links link) same ∙ links-bare link old keeps

pub AreFound-kept : (heads turn_heads : List ℕ) (old new : List Wait) → AreFound heads turn_heads old → map bare new ≡ map bare old → AreFound heads turn_heads new
AreFound-kept heads turn_heads old new are same = record {
  blockers = rw (slots-kept by_blocker (length heads) old new (λ w. refl) same, links-kept link_of old new (λ w. refl) same) are.blockers;
  turns = rw (slots-kept by_turn (length turn_heads) old new (λ w. refl) same, links-kept turn_link_of old new (λ w. refl) same) are.turns;
}

pub bare-over : (out : ℕ × Blocker → Bool) (waits : List Wait) (place : ℕ) → map bare (over_at out waits place) ≡ map bare waits
bare-over out [] place = refl
bare-over out (w ∷ ws) zero = refl
bare-over out (w ∷ ws) (suc place) = ap (λ rest. bare w ∷ rest) (bare-over out ws place)

-- ---- those that pass a test

entries-over : (out : ℕ × Blocker → Bool) (waits : List Wait) (place : ℕ)
    → filter (λ entry. not (out entry)) (living_entries (over_at out waits place)) ≡ filter (λ entry. not (out entry)) (living_entries waits)
entries-over out [] place = refl
entries-over out (w ∷ ws) zero =
    elim (cases_Bool w.lives) [
      | inl there ↦ elim (cases_Bool (out (w.turn, w.blocker))) [
        | inl own ↦ rw (there, own) refl
        | inr other ↦ rw (there, other, other) refl
      ]
      | inr gone ↦ rw gone refl
    ]
entries-over out (w ∷ ws) (suc place) =
    elim (cases_Bool w.lives) [
      | inl there ↦ elim (cases_Bool (out (w.turn, w.blocker))) [
        | inl own ↦ rw (there, own) (entries-over out ws place)
        | inr other ↦ rw (there, other) (ap (λ rest. (w.turn, w.blocker) ∷ rest) (entries-over out ws place))
      ]
      | inr gone ↦ rw gone (entries-over out ws place)
    ]

none-entries : (out : ℕ × Blocker → Bool) (waits : List Wait) → ((p : ℕ) → p < length waits → is_out out (get_or waits p nothing) ≡ false)
    → filter (λ entry. not (out entry)) (living_entries waits) ≡ living_entries waits
none-entries out [] none = refl
none-entries out (w ∷ ws) none =
    let rest = none-entries out ws (λ p within. none (suc p) (omega arith)) in
    let here : is_out out w ≡ false = none 0 (omega arith) in
    elim (cases_Bool w.lives) [
      | inl there ↦ (let other : out (w.turn, w.blocker) ≡ false = rw there at here in rw (there, other) (ap (λ its. (w.turn, w.blocker) ∷ its) rest))
      | inr gone ↦ rw gone rest
    ]

over-out : (out : ℕ × Blocker → Bool) (wait : Wait) → is_out out (ended_where out wait) ≡ false
over-out out wait =
    elim (cases_Bool wait.lives) [
      | inl there ↦ elim (cases_Bool (out (wait.turn, wait.blocker))) [
        | inl own ↦ rw (there, own) refl
        | inr other ↦ rw (there, other) refl
      ]
      | inr gone ↦ rw gone refl
    ]

-- ---- the way from the last of a slot to the first

slot-at : (key : Wait → ℕ) (many : ℕ) (waits : List Wait) (p : ℕ) → p < length waits → get_or (slots_of key many waits) p 0 ≡ slot many (key (get_or waits p nothing))
slot-at key many [] p within = absurd (omega arith)
slot-at key many (w ∷ ws) zero within = refl
slot-at key many (w ∷ ws) (suc p) within = slot-at key many ws p (omega arith)

link-at : (link : Wait → ℕ) (waits : List Wait) (p : ℕ) → p < length waits → get_or (wait_links link waits) p 0 ≡ link (get_or waits p nothing)
link-at link [] p within = absurd (omega arith)
link-at link (w ∷ ws) zero within = refl
link-at link (w ∷ ws) (suc p) within = link-at link ws p (omega arith)

-- what waits are found by, and what is looked for: those that pass the test have the number
pub record Sought : Type 0 where
  pub key : Wait → ℕ
  pub link : Wait → ℕ
  pub key_keeps : (wait : Wait) → key (bare wait) ≡ key wait
  pub link_keeps : (wait : Wait) → link (bare wait) ≡ link wait
  pub number : ℕ
  pub out : ℕ × Blocker → Bool
  pub finds : (wait : Wait) → out (wait.turn, wait.blocker) ≡ true → key wait ≡ number

-- a place of another slot doesn't pass
other-slot : (many : ℕ) (sought : Sought) (waits : List Wait) (p : ℕ) → p < length waits → is_in (slots_of sought.key many waits) (slot many sought.number) p ≡ false
    → is_out sought.out (get_or waits p nothing) ≡ false
other-slot many sought waits p within other =
    let its : Wait = get_or waits p nothing in
    elim (cases_Bool (sought.out (its.turn, its.blocker))) [
      | inl own ↦ (
          let is : get_or (slots_of sought.key many waits) p 0 ≡ slot many sought.number = slot-at sought.key many waits p within ∙ ap (slot many) (sought.finds its own) in
          absurd (eqb-false _ _ other is))
      | inr apart ↦ elim (cases_Bool its.lives) [
        | inl there ↦ rw (there, apart) refl
        | inr gone ↦ rw gone refl
      ]
    ]

-- how far one has come: those of the slot that stand before the end are left
pub record Walked (many : ℕ) (sought : Sought) (before waits : List Wait) (end : ℕ) : Type 0 where
  pub within : end ≤ length waits
  pub settled : seek (is_in (slots_of sought.key many waits) (slot many sought.number)) end ≡ end
  pub same : map bare waits ≡ map bare before
  pub entries : filter (λ entry. not (sought.out entry)) (living_entries waits) ≡ filter (λ entry. not (sought.out entry)) (living_entries before)
  pub none : (p : ℕ) → end ≤ p → p < length waits → is_out sought.out (get_or waits p nothing) ≡ false

pub Walked-start : (heads : List ℕ) (sought : Sought) (waits : List Wait) (end : ℕ) → AreLinked heads (slots_of sought.key (length heads) waits) (wait_links sought.link waits)
    → end ≡ end_of heads (slot (length heads) sought.number) (length waits)
    → Walked (length heads) sought waits waits end
Walked-start heads sought waits end are is =
    let many : ℕ = length heads in
    let own : ℕ = slot many sought.number in
    let test : ℕ → Bool = is_in (slots_of sought.key many waits) own in
    let found : end ≡ seek test (length waits) = is ∙ end-is sought.key sought.link heads waits sought.number are in
    let back = seek-le test (length waits) in
    record {
      within = omega arith;
      settled = rw found (seek-settled test (length waits));
      same = refl;
      entries = refl;
      none = λ p above below. other-slot many sought waits p below (seek-gap test (length waits) p (omega arith) below);
    }

pub none-left : (many : ℕ) (sought : Sought) (before waits : List Wait) (end : ℕ) → Walked many sought before waits end → end ≡ 0 → (p : ℕ) → p < length waits → is_out sought.out (get_or waits p nothing) ≡ false
none-left many sought before waits end walked is p below = walked.none p (omega arith) below

pub Walked-done : (many : ℕ) (sought : Sought) (before waits : List Wait) (end : ℕ) → Walked many sought before waits end → end ≡ 0
    → living_entries waits ≡ filter (λ entry. not (sought.out entry)) (living_entries before)
Walked-done many sought before waits end walked is = sym (none-entries sought.out waits (none-left many sought before waits end walked is)) ∙ walked.entries

-- one goes on where the next place is linked to
pub record Stepped (many : ℕ) (sought : Sought) (waits : List Wait) (place link : ℕ) : Type 0 where
  pub less : link ≤ place
  pub settled : seek (is_in (slots_of sought.key many waits) (slot many sought.number)) link ≡ link
  pub none : (p : ℕ) → link ≤ p → p < place → is_out sought.out (get_or waits p nothing) ≡ false

pub stepped : (heads : List ℕ) (sought : Sought) (before waits : List Wait) (place link : ℕ)
    → AreLinked heads (slots_of sought.key (length heads) before) (wait_links sought.link before)
    → Walked (length heads) sought before waits (suc place) → link ≡ sought.link (get_or waits place nothing)
    → Stepped (length heads) sought waits place link
stepped heads sought before waits place link are walked is =
    let many : ℕ = length heads in
    let own : ℕ = slot many sought.number in
    let slots : List ℕ = slots_of sought.key many waits in
    let test : ℕ → Bool = is_in slots own in
    let here : get_or slots place 0 ≡ own = eqb-true _ _ (settled-here test place walked.settled) in
    let inside = walked.within in
    let slots_same : slots ≡ slots_of sought.key many before = slots-kept sought.key many before waits sought.key_keeps walked.same in
    let links_same : wait_links sought.link waits ≡ wait_links sought.link before = links-kept sought.link before waits sought.link_keeps walked.same in
    let as_before : length (slots_of sought.key many before) ≡ length waits = ap length (sym slots_same) ∙ slots-many sought.key many waits in
    let next : get_or (wait_links sought.link before) place 0 ≡ seek (is_in (slots_of sought.key many before) (get_or (slots_of sought.key many before) place 0)) place = are.nexts place (omega arith) in
    let next_now : get_or (wait_links sought.link waits) place 0 ≡ seek (is_in slots (get_or slots place 0)) place = rw (links_same, slots_same) next in
    let found : link ≡ seek test place = is ∙ sym (link-at sought.link waits place (omega arith)) ∙ next_now ∙ ap (λ (s : ℕ). seek (is_in slots s) place) here in
    let back = seek-le test place in
    record {
      less = omega arith;
      settled = rw found (seek-settled test place);
      none = λ p above below. other-slot many sought waits p (omega arith) (seek-gap test place p (omega arith) below);
    }

-- and what stood at that place lives no more where it passes
pub Walked-step : (many : ℕ) (sought : Sought) (before waits : List Wait) (place link : ℕ)
    → Walked many sought before waits (suc place) → Stepped many sought waits place link
    → Walked many sought before (over_at sought.out waits place) link
Walked-step many sought before waits place link walked step =
    let its : Wait = get_or waits place nothing in
    let kept = bare-over sought.out waits place in
    let as_many : length (over_at sought.out waits place) ≡ length waits = length-set waits place (ended_where sought.out its) in
    let inside = walked.within in
    let less = step.less in
    let here : place < length waits = omega arith in
    record {
      within = omega arith;
      settled = rw (slots-kept sought.key many waits (over_at sought.out waits place) sought.key_keeps kept) step.settled;
      same = kept ∙ walked.same;
      entries = entries-over sought.out waits place ∙ walked.entries;
      none = λ p above below.
          elim (cases_eq p place) [
            | inl same ↦ rw same (rw (get_or-set_same waits place (ended_where sought.out its) nothing here) (over-out sought.out its))
            | inr other ↦ rw (get_or-set_other waits place p (ended_where sought.out its) nothing other) (
                elim (cases_lt p place) [
                  | inl before_it ↦ step.none p above before_it
                  | inr behind_it ↦ walked.none p (omega arith) (omega arith)
                ])
          ];
    }

-- ---- what is looked for

pub same-number : (blocker other : Blocker) → is_same blocker other ≡ true → blocker_number other ≡ blocker_number blocker
same-number (Break n) (Break m) same = sym (eqb-true n m same)
same-number (Lock n) (Lock m) same = sym (eqb-true n m same)
same-number (Break n) (Lock m) same = absurd (false≢true same)
same-number (Lock n) (Break m) same = absurd (false≢true same)

-- those of one blocker
abbrev pub of_blocker : Blocker → Sought
of_blocker blocker = record {
  key = by_blocker;
  link = link_of;
  key_keeps = λ wait. refl;
  link_keeps = λ wait. refl;
  number = blocker_number blocker;
  out = is_blocker blocker;
  finds = λ wait own. same-number blocker wait.blocker own;
}

-- those of one turn
abbrev pub of_turn : ℕ → Sought
of_turn turn = record {
  key = by_turn;
  link = turn_link_of;
  key_keeps = λ wait. refl;
  link_keeps = λ wait. refl;
  number = turn;
  out = is_turn turn;
  finds = λ wait own. eqb-true wait.turn turn own;
}

-- ---- the counts of calls

-- two calls, each with one blocker less, in either order
changes-swap : (calls : List (ℕ × ℕ)) (turn other : ℕ)
    → with_row_changed (λ count. count - 1) (with_row_changed (λ count. count - 1) calls turn) other ≡ with_row_changed (λ count. count - 1) (with_row_changed (λ count. count - 1) calls other) turn
changes-swap [] turn other = refl
changes-swap (c ∷ cs) turn other =
    elim (cases_Bool (c.0 == turn)) [
      | inl one ↦ elim (cases_Bool (c.0 == other)) [
        | inl two ↦ simp (one, two) (ap (λ rest. (c.0, c.1 - 1 - 1) ∷ rest) (changes-swap cs turn other))
        | inr not_two ↦ simp (one, not_two) (ap (λ rest. (c.0, c.1 - 1) ∷ rest) (changes-swap cs turn other))
      ]
      | inr not_one ↦ elim (cases_Bool (c.0 == other)) [
        | inl two ↦ simp (not_one, two) (ap (λ rest. (c.0, c.1 - 1) ∷ rest) (changes-swap cs turn other))
        | inr not_two ↦ simp (not_one, not_two) (ap (λ rest. c ∷ rest) (changes-swap cs turn other))
      ]
    ]

discount-swap : (blocker : Blocker) (wait : Wait) (calls : List (ℕ × ℕ)) (turn : ℕ)
    → with_row_changed (λ count. count - 1) (discounted blocker (living_entries (wait ∷ [])) calls) turn ≡ discounted blocker (living_entries (wait ∷ [])) (with_row_changed (λ count. count - 1) calls turn)
discount-swap blocker wait calls turn =
    elim (cases_Bool wait.lives) [
      | inl there ↦ elim (cases_Bool (is_same blocker wait.blocker)) [
        | inl own ↦ rw (there, own) (changes-swap calls wait.turn turn)
        | inr other ↦ rw (there, other) refl
      ]
      | inr gone ↦ rw gone refl
    ]

-- to lower the count for the blocker at a place first
own-step : (blocker : Blocker) (entry : ℕ × Blocker) (entries : List (ℕ × Blocker)) (calls : List (ℕ × ℕ)) → is_same blocker entry.1 ≡ true
    → discounted blocker (entry ∷ entries) calls ≡ discounted blocker entries (with_row_changed (λ count. count - 1) calls entry.0)
own-step blocker entry entries calls own = ap (λ (its : Bool). discounted blocker entries (if its then with_row_changed (λ count. count - 1) calls entry.0 else calls)) own

other-step : (blocker : Blocker) (entry : ℕ × Blocker) (entries : List (ℕ × Blocker)) (calls : List (ℕ × ℕ)) → is_same blocker entry.1 ≡ false
    → discounted blocker (entry ∷ entries) calls ≡ discounted blocker entries calls
other-step blocker entry entries calls other = ap (λ (its : Bool). discounted blocker entries (if its then with_row_changed (λ count. count - 1) calls entry.0 else calls)) other

pub discount-over : (blocker : Blocker) (waits : List Wait) (place : ℕ) (calls : List (ℕ × ℕ)) → place < length waits
    → discounted blocker (living_entries (over_at (is_blocker blocker) waits place)) (discounted blocker (living_entries (get_or waits place nothing ∷ [])) calls) ≡ discounted blocker (living_entries waits) calls
discount-over blocker [] place calls within = absurd (omega arith)
discount-over blocker (w ∷ ws) zero calls within =
    elim (cases_Bool w.lives) [
      | inl there ↦ elim (cases_Bool (is_same blocker w.blocker)) [
        | inl own ↦ rw (there, own) (sym (own-step blocker (w.turn, w.blocker) (living_entries ws) calls own))
        | inr other ↦ rw (there, other) refl
      ]
      | inr gone ↦ rw gone refl
    ]
discount-over blocker (w ∷ ws) (suc place) calls within =
    let rest = discount-over blocker ws place in
    let first : List (ℕ × ℕ) = discounted blocker (living_entries (get_or ws place nothing ∷ [])) calls in
    elim (cases_Bool w.lives) [
      | inl there ↦ elim (cases_Bool (is_same blocker w.blocker)) [
        | inl own ↦ rw there (
            own-step blocker (w.turn, w.blocker) (living_entries (over_at (is_blocker blocker) ws place)) first own
            ∙ ap (discounted blocker (living_entries (over_at (is_blocker blocker) ws place))) (discount-swap blocker (get_or ws place nothing) calls w.turn)
            ∙ rest (with_row_changed (λ count. count - 1) calls w.turn) (omega arith)
            ∙ sym (own-step blocker (w.turn, w.blocker) (living_entries ws) calls own))
        | inr other ↦ rw there (
            other-step blocker (w.turn, w.blocker) (living_entries (over_at (is_blocker blocker) ws place)) first other
            ∙ rest calls (omega arith) ∙ sym (other-step blocker (w.turn, w.blocker) (living_entries ws) calls other))
      ]
      | inr gone ↦ rw gone (rest calls (omega arith))
    ]

pub none-discounted : (blocker : Blocker) (waits : List Wait) (calls : List (ℕ × ℕ)) → ((p : ℕ) → p < length waits → is_out (is_blocker blocker) (get_or waits p nothing) ≡ false)
    → discounted blocker (living_entries waits) calls ≡ calls
none-discounted blocker [] calls none = refl
none-discounted blocker (w ∷ ws) calls none =
    let rest = none-discounted blocker ws calls (λ p within. none (suc p) (omega arith)) in
    let here : is_out (is_blocker blocker) w ≡ false = none 0 (omega arith) in
    elim (cases_Bool w.lives) [
      | inl there ↦ (let other : is_same blocker w.blocker ≡ false = rw there at here in rw there (other-step blocker (w.turn, w.blocker) (living_entries ws) calls other ∙ rest))
      | inr gone ↦ rw gone rest
    ]

pub discount-turns : (blocker : Blocker) (wait : Wait) (calls : List (ℕ × ℕ)) → turns_of (discounted blocker (living_entries (wait ∷ [])) calls) ≡ turns_of calls
discount-turns blocker wait calls =
    elim (cases_Bool wait.lives) [
      | inl there ↦ elim (cases_Bool (is_same blocker wait.blocker)) [
        | inl own ↦ rw (there, own) (turns-changed (λ count. count - 1) calls wait.turn)
        | inr other ↦ rw (there, other) refl
      ]
      | inr gone ↦ rw gone refl
    ]
