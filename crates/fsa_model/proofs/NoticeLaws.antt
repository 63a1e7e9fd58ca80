-- Over a history each watch reports exactly the matching changes since its last report.
use Rattle.std.proofs.Common.{◌≡◌, ℕ, Bool, true, false, not, List, [], ◌∷◌, ◌++◌, append-nil, append_assoc, length, refl, ap, sym, subst, ◌∙◌, inl, inr, Option, Some, None}
use Rattle.std.specs.List.{find}
use Rattle.std.specs.Prelude.{◌==◌, option_map, if◌then◌else◌}
use Rattle.std.proofs.lemmas.Bool.{cases_Bool, eq-eqb, eqb-true}
use Rattle.fsa_types.specs.declared.reply.Reply.{Reply}
use Rattle.fsa_model.specs.Edits.{with_watch}
use Rattle.fsa_model.specs.Volume.{Change, Volume, Watch}
use Rattle.fsa_model.specs.Watched.{AddAlong, Adds, EachReports, IsReport, Notice, fixes_watch_of, is_notice_of, last_such, matching, noted_between, report_of, watch_fixed}
use Rattle.fsa_model.specs.Watching.{begun_at, dir_of, due, is_something_due, report, watch_of, with_watch_seen}
use Rattle.fsa_model.proofs.QuietLaws.{Quiet, WatchesStood}
use Rattle.fsa_model.proofs.ReportLaws.{find-push, watch_of-seen}
use Rattle.fsa_model.proofs.RowLaws.{option_cases}
use Rattle.fsa_model.proofs.SettleLaws.{some_equal}

-- ---- what is known of watches

-- the watch is as the last Notify that fixed it left it, with the place of the last report
pub record IsKnown (known : List Notice) (id : ℕ) (watch : Watch) : Type 0 where
  pub fixed : Notice
  pub was_fixed : last_such (fixes_watch_of id) known None ≡ Some fixed
  pub last : Notice
  pub was_last : last_such (is_notice_of id) known None ≡ Some last
  pub is : watch ≡ watch_fixed id fixed last

abbrev pub Knows : List Notice → Volume → Type 0
Knows known v = (id : ℕ) (watch : Watch) → watch_of v id ≡ Some watch → IsKnown known id watch

last-push : (test : Notice → Bool) (known : List Notice) (notice : Notice) (last : Option Notice)
    → last_such test (known ++ notice ∷ []) last ≡ (if test notice then Some notice else last_such test known last)
last-push test [] notice last = refl
last-push test (first ∷ known) notice last = last-push test known notice (if test first then Some first else last)

-- ---- changes

Adds-same : (v : Volume) → Adds v v
Adds-same v = record { more = []; is = sym (append-nil v.changes) }

Adds-next : {u v w : Volume} → Adds u v → Adds v w → Adds u w
Adds-next {u} first second = record { more = first.more ++ second.more; is = second.is ∙ ap (λ (changes : List Change). changes ++ second.more) first.is ∙ append_assoc u.changes first.more second.more }

AddAlong-after : (notices : List Notice) (u v w : Volume) → Adds u v → AddAlong notices v w → AddAlong notices u w
AddAlong-after [] u v w first along = Adds-next first along
AddAlong-after (notice ∷ more) u v w first along = (Adds-next first along.0, along.1)

AddAlong-next : (first second : List Notice) (u v w : Volume) → AddAlong first u v → AddAlong second v w → AddAlong (first ++ second) u w
AddAlong-next [] second u v w one two = AddAlong-after second u v w one two
AddAlong-next (notice ∷ more) second u v w one two = (one.0, AddAlong-next more second notice.before v w one.1 two)

-- ---- reports

pub EachReports-next : (known first second : List Notice) → EachReports known first → EachReports (known ++ first) second → EachReports known (first ++ second)
EachReports-next known [] second one two = subst (λ (earlier : List Notice). EachReports earlier second) (append-nil known) two
EachReports-next known (notice ∷ more) second one two =
    (one.0, EachReports-next (known ++ notice ∷ []) more second one.1 (subst (λ (earlier : List Notice). EachReports earlier second) (sym (append_assoc known (notice ∷ []) more)) two))

-- ---- what leads from one volume to another

-- these notices do: what is known before and they tell what is known after, and each report of theirs is such
pub record Leads (notices : List Notice) (v w : Volume) : Type 0 where
  pub knows : (known : List Notice) → Knows known v → Knows (known ++ notices) w
  pub reports : (known : List Notice) → Knows known v → EachReports known notices
  pub adds : AddAlong notices v w

-- no watch is fixed, and none reports
pub record Still (v w : Volume) : Type 0 where
  pub stood : WatchesStood v w
  pub adds : Adds v w

pub still : {v w : Volume} → Quiet v w → Still v w
still quiet = record { stood = quiet.stood; adds = record { more = quiet.more; is = quiet.changes } }

pub still-same : {v w : Volume} → w.watches ≡ v.watches → w.changes ≡ v.changes → Still v w
still-same {v} {w} watches changes = record { stood = λ id watch is. rw watches at is; adds = record { more = []; is = changes ∙ sym (append-nil v.changes) } }

pub Leads-still : {v w : Volume} → Still v w → Leads [] v w
Leads-still {v} {w} same = record {
  knows = λ known knows. subst (λ (notices : List Notice). Knows notices w) (sym (append-nil known)) (λ id watch is. knows id watch (same.stood id watch is));
  reports = λ known knows. tt;
  adds = same.adds;
}

pub Leads-next : (first second : List Notice) (u v w : Volume) → Leads first u v → Leads second v w → Leads (first ++ second) u w
Leads-next first second u v w one two = record {
  knows = λ known knows. subst (λ (notices : List Notice). Knows notices w) (append_assoc known first second) (two.knows (known ++ first) (one.knows known knows));
  reports = λ known knows. EachReports-next known first second (one.reports known knows) (two.reports (known ++ first) (one.knows known knows));
  adds = AddAlong-next first second u v w one.adds two.adds;
}

pub Leads-then : (notices : List Notice) (u v w : Volume) → Leads notices u v → Still v w → Leads notices u w
Leads-then notices u v w one same = subst (λ (all : List Notice). Leads all u w) (append-nil notices) (Leads-next notices [] u v w one (Leads-still same))

-- ---- a watch reports

-- a number is another's equal both ways
apart : (a b : ℕ) → (a == b) ≡ false → (b == a) ≡ false
apart a b differs = elim (cases_Bool (b == a)) [
  | inr isnt ↦ isnt
  | inl is ↦ (let same : a ≡ b = sym (eqb-true b a is) in let impossible : (a == b) ≡ true = eq-eqb a b same in cc)
]

-- what is due is due to a watch, of a directory
record HasDue (v : Volume) (id : ℕ) : Type 0 where
  watch : Watch
  found : watch_of v id ≡ Some watch
  dir : ℕ
  of_dir : dir_of v id ≡ Some dir

has_due : (v : Volume) (id : ℕ) → is_something_due v id ≡ true → HasDue v id
has_due v id some = elim (option_cases (watch_of v id)) [
  | inl none ↦ (let impossible : false ≡ true = rw none at some in cc)
  | inr watch ↦ elim (option_cases (dir_of v id)) [
    | inl none ↦ (let impossible : false ≡ true = rw (watch.1, none) at some in cc)
    | inr dir ↦ record { watch = watch.0; found = watch.1; dir = dir.0; of_dir = dir.1 }
  ]
]

not_none : (b : Bool) → not b ≡ true → b ≡ false
not_none true is = sym is
not_none false is = refl

due-matches : (v : Volume) (id : ℕ) (watch : Watch) (dir : ℕ) (fixed last notice : Notice) → watch_of v id ≡ Some watch → dir_of v id ≡ Some dir → watch ≡ watch_fixed id fixed last → notice.before ≡ v
    → due v id ≡ matching (watch_fixed id fixed last) dir (noted_between last notice)
due-matches v id watch dir fixed last notice found of_dir is before = rw (found, of_dir, is, before) refl

reports-due : (v : Volume) (known : List Notice) (notice : Notice) → notice.before ≡ v → notice.reply ≡ Some (report v notice.handle notice.room) → is_something_due v notice.handle ≡ true
    → Knows known v → (reply : Reply) → notice.reply ≡ Some reply → IsReport known notice reply
reports-due v known notice before replies some knows reply is =
    let there : HasDue v notice.handle = has_due v notice.handle some in
    let its : IsKnown known notice.handle there.watch = knows notice.handle there.watch there.found in
    let due_is : due v notice.handle ≡ matching (watch_fixed notice.handle its.fixed its.last) there.dir (noted_between its.last notice)
    = due-matches v notice.handle there.watch there.dir its.fixed its.last notice there.found there.of_dir its.is before in
    record {
      fixed = its.fixed;
      was_fixed = its.was_fixed;
      last = its.last;
      was_last = its.was_last;
      dir = there.dir;
      of_dir = rw before there.of_dir;
      some = subst (λ (changes : List (ℕ × List ℕ)). (length changes == 0) ≡ false) due_is (not_none (length (due v notice.handle) == 0) some);
      says = some_equal reply (report v notice.handle notice.room) (sym is ∙ replies) ∙ ap (report_of notice.room) due_is;
    }

-- its place moves, where it is this handle's
moved-own : (id place : ℕ) (watch other : Watch) → watch ≡ other → (other.handle == id) ≡ true → begun_at id place watch ≡ record other { from = place }
moved-own id place watch other is own = rw (is, own) refl

moved-other : (id place : ℕ) (watch other : Watch) → watch ≡ other → (other.handle == id) ≡ false → begun_at id place watch ≡ other
moved-other id place watch other is differs = rw (is, differs) refl

knows-seen : (v : Volume) (known : List Notice) (notice : Notice) (reply : Reply) → notice.before ≡ v → notice.reply ≡ Some reply → Knows known v
    → Knows (known ++ notice ∷ []) (with_watch_seen v notice.handle)
knows-seen v known notice reply before replies knows id watch is = elim (option_cases (watch_of v id)) [
  | inl none ↦ (let impossible : None ≡ Some watch = sym (watch_of-seen v notice.handle id ∙ ap (λ (found : Option Watch). option_map (begun_at notice.handle (length v.changes)) found) none) ∙ is in cc)
  | inr found ↦ (let its : IsKnown known id found.0 = knows id found.0 found.1 in
      let moved : begun_at notice.handle (length v.changes) found.0 ≡ watch
      = some_equal _ watch (sym (watch_of-seen v notice.handle id ∙ ap (λ (found : Option Watch). option_map (begun_at notice.handle (length v.changes)) found) found.1) ∙ is) in
      elim (cases_Bool (notice.handle == id)) [
        | inl own ↦ (let same : notice.handle ≡ id = eqb-true notice.handle id own in
            let here : (id == notice.handle) ≡ true = eq-eqb id notice.handle (sym same) in
            record {
              fixed = its.fixed;
              was_fixed = last-push (fixes_watch_of id) known notice None ∙ rw (own, replies) its.was_fixed;
              last = notice;
              was_last = last-push (is_notice_of id) known notice None ∙ rw own refl;
              is = sym moved ∙ moved-own notice.handle (length v.changes) found.0 (watch_fixed id its.fixed its.last) its.is here ∙ rw before refl;
            })
        | inr other ↦ (let differs : (id == notice.handle) ≡ false = apart notice.handle id other in
            record {
              fixed = its.fixed;
              was_fixed = last-push (fixes_watch_of id) known notice None ∙ rw other its.was_fixed;
              last = its.last;
              was_last = last-push (is_notice_of id) known notice None ∙ rw other its.was_last;
              is = sym moved ∙ moved-other notice.handle (length v.changes) found.0 (watch_fixed id its.fixed its.last) its.is differs;
            })
      ])
]

pub Leads-report : (v : Volume) (notice : Notice) → notice.before ≡ v → notice.reply ≡ Some (report v notice.handle notice.room) → is_something_due v notice.handle ≡ true
    → Leads (notice ∷ []) v (with_watch_seen v notice.handle)
Leads-report v notice before replies some = record {
  knows = λ known knows. knows-seen v known notice (report v notice.handle notice.room) before replies knows;
  reports = λ known knows. (λ reply is. reports-due v known notice before replies some knows reply is, tt);
  adds = rw before (Adds-same v, record { more = []; is = sym (append-nil v.changes) });
}

-- ---- a watch is fixed

find-passed : (id : ℕ) (watches : List Watch) (last : Watch) → (last.handle == id) ≡ false → find (λ watch. watch.handle == id) (watches ++ last ∷ []) ≡ find (λ watch. watch.handle == id) watches
find-passed id [] last other = rw other refl
find-passed id (watch ∷ watches) last other = elim (cases_Bool (watch.handle == id)) [ inl own ↦ rw own refl | inr isnt ↦ rw isnt (find-passed id watches last other) ]

knows-fixed : (v : Volume) (known : List Notice) (notice : Notice) → notice.before ≡ v → notice.reply ≡ None → watch_of v notice.handle ≡ None → Knows known v
    → Knows (known ++ notice ∷ []) (with_watch v notice.handle notice.filter notice.tree (length v.changes))
knows-fixed v known notice before replies none knows id watch is = elim (cases_Bool (notice.handle == id)) [
  | inl own ↦ (let same : notice.handle ≡ id = eqb-true notice.handle id own in
      let none_there : find (λ (watch : Watch). watch.handle == id) v.watches ≡ None = rw same at none in
      let new : Watch = record { handle = notice.handle; filter = notice.filter; tree = notice.tree; from = length v.changes } in
      let its : new ≡ watch = some_equal new watch (sym (find-push id v.watches new none_there own) ∙ is) in
      record {
        fixed = notice;
        was_fixed = last-push (fixes_watch_of id) known notice None ∙ rw (own, replies) refl;
        last = notice;
        was_last = last-push (is_notice_of id) known notice None ∙ rw own refl;
        is = sym its ∙ rw (same, before) refl;
      })
  | inr other ↦ (let its : IsKnown known id watch = knows id watch (sym (find-passed id v.watches _ other) ∙ is) in
      record {
        fixed = its.fixed;
        was_fixed = last-push (fixes_watch_of id) known notice None ∙ rw other its.was_fixed;
        last = its.last;
        was_last = last-push (is_notice_of id) known notice None ∙ rw other its.was_last;
        is = its.is;
      })
]

pub Leads-fixed : (v : Volume) (notice : Notice) → notice.before ≡ v → notice.reply ≡ None → watch_of v notice.handle ≡ None
    → Leads (notice ∷ []) v (with_watch v notice.handle notice.filter notice.tree (length v.changes))
Leads-fixed v notice before replies none = record {
  knows = λ known knows. knows-fixed v known notice before replies none knows;
  reports = λ known knows. (λ reply is. (let impossible : None ≡ Some reply = sym replies ∙ is in cc), tt);
  adds = rw before (Adds-same v, record { more = []; is = sym (append-nil v.changes) });
}
