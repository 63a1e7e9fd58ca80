-- What reports say, when they come, and what is due after them.
use Rattle.std.proofs.Common.{◌≡◌, ℕ, zero, suc, ◌≤◌, Bool, true, false, not, List, [], ◌∷◌, ◌++◌, length, drop, map, append_assoc, refl, ap, sym, subst, ◌∙◌, arith, inl, inr, ◌⊎◌, Option, Some, None}
use Rattle.std.specs.List.{filter, find}
use Rattle.std.specs.Option.{option_map_or}
use Rattle.std.specs.Prelude.{◌==◌, ◌&&◌, nat_le, option_map, is_some}
use Rattle.std.proofs.Math.Seq.{drop-length, drop-append_seam}
use Rattle.std.proofs.lemmas.Bool.{cases_Bool, eq-eqb, eqb-true, leb-true, le-leb}
use Rattle.std.proofs.lemmas.List.{append-nil}
use Rattle.fsa_types.specs.Access.{has_any}
use Rattle.fsa_types.specs.Rows.{row_of}
use Rattle.fsa_types.specs.declared.reply.Reply.{Reply}
use Rattle.fsa_types.specs.declared.request.Request.TheVariants.{Notify}
use Rattle.fsa_types.specs.declared.request.What.{What}
use Rattle.fsa_types.specs.declared.request.What.TheVariants.{Ask}
use Rattle.fsa_types.specs.declared.request.Call.{Call}
use Rattle.fsa_types.specs.declared.request.CallId.{CallId}
use Rattle.fsa_types.specs.declared.status.Status.{Status}
use Rattle.fsa_types.specs.declared.status.Status.TheVariants.{InvalidParameter, AccessDenied, DeletePending}
use Rattle.fsa_model.specs.Engine.{CallsDiffer, is_entry_of}
use Rattle.fsa_model.specs.Changes.{seen_from, stream_suffix, with_change_noted}
use Rattle.fsa_model.specs.Edits.{with_end, with_watch}
use Rattle.fsa_model.specs.History.{HistoryEntry, Run, run}
use Rattle.fsa_model.specs.Lookups.{handle_of, is_link_marked}
use Rattle.fsa_model.specs.Once.{how_many, times}
use Rattle.fsa_model.specs.Outcome.{Outcome, Done, Stay, Hold}
use Rattle.fsa_model.specs.Reports.{Reports, TakesReport, settling_after, PassesChecks, TriesNotify}
use Rattle.fsa_model.specs.Settle.{Settling, with_starved, starves, reported, come_over, taken_up, settle_step, repeated}
use Rattle.fsa_model.specs.Setup.{Setup}
use Rattle.fsa_model.specs.Turn.{try, answered, turn_number}
use Rattle.fsa_model.specs.Volume.{Change, Handle, Watch, Pending, Volume, fresh}
use Rattle.fsa_model.specs.Waiting.{is_held, is_ready, has_come, has_due, next_ready}
use Rattle.fsa_model.specs.Watched.{is_report_status}
use Rattle.fsa_model.specs.Watching.{is_asked_by, told_from, due_to, watch_of, dir_of, due, is_something_due, due_size, report, begun_at, with_watch_seen, notify_due, with_watch_begun, is_notify_filter, notify_by, notify_at, try_notify}
use Rattle.fsa_model.proofs.CountLaws.{and_left, and_right}
use Rattle.fsa_model.proofs.EngineLaws.{run-before, new-before}
use Rattle.fsa_model.proofs.OnceHistory.{Runs, run-runs}
use Rattle.fsa_model.proofs.RowLaws.{option_cases, find-map, find-same}
use Rattle.fsa_model.proofs.SettleLaws.{MaySettle, Steps, Steps-settle_step, some_equal, IsNext, next_ready-is, next-may_be_held, may_be_held, is_unreported, none-unreported}
use Rattle.fsa_model.proofs.TurnLaws.{MayTurn, Adds-answered, try-keeps}
use Rattle.fsa_model.proofs.WaitLaws.{find-passes}

-- ---- after a report

begun-handle : (id place : ℕ) (watch : Watch) → (begun_at id place watch).handle ≡ watch.handle
begun-handle id place watch = elim (cases_Bool (watch.handle == id)) [ inl is ↦ rw is refl | inr isnt ↦ rw isnt refl ]

pub watch_of-seen : (v : Volume) (id other : ℕ) → watch_of (with_watch_seen v id) other ≡ option_map (begun_at id (length v.changes)) (watch_of v other)
watch_of-seen v id other =
    find-map (λ (watch : Watch). watch.handle == other) (begun_at id (length v.changes)) v.watches
    ∙ ap (λ (found : Option Watch). option_map (begun_at id (length v.changes)) found)
    (find-same (λ (watch : Watch). (begun_at id (length v.changes) watch).handle == other) (λ watch. watch.handle == other) v.watches (λ watch. ap (λ (handle : ℕ). handle == other) (begun-handle id (length v.changes) watch)))

-- nothing is due to the watch that has reported
pub due-seen : (v : Volume) (id : ℕ) → due (with_watch_seen v id) id ≡ []
due-seen v id = rw (watch_of-seen v id id) (elim (option_cases (watch_of v id)) [
  | inl none ↦ rw none refl
  | inr some ↦ (let own : (some.0.handle == id) ≡ true = find-passes (λ (watch : Watch). watch.handle == id) v.watches some.0 some.1 in
      rw (some.1, own) (elim (option_cases (dir_of v id)) [
        | inl none ↦ rw none refl
        | inr dir ↦ rw (dir.1, drop-length v.changes) refl
      ]))
])

-- and to another as much as before
pub due-other : (v : Volume) (id other : ℕ) → (other == id) ≡ false → due (with_watch_seen v id) other ≡ due v other
due-other v id other differs = rw (watch_of-seen v id other) (elim (option_cases (watch_of v other)) [
  | inl none ↦ rw none refl
  | inr some ↦ (let own : some.0.handle ≡ other = eqb-true some.0.handle other (find-passes (λ (watch : Watch). watch.handle == other) v.watches some.0 some.1) in
      let elsewhere : (some.0.handle == id) ≡ false = rw own differs in
      rw (some.1, elsewhere) refl)
])

-- ---- one report

pub seen-reports : (v : Volume) (id room : ℕ) → is_something_due v id ≡ true → Reports v id room (with_watch_seen v id) (report v id room)
seen-reports v id room some = record {
  some = not_none (length (due v id) == 0) some;
  fits = λ fits. (let enough : nat_le (due_size v id) room ≡ true = le-leb (due_size v id) room fits in rw enough refl);
  exceeds = λ exceeds. elim (cases_Bool (nat_le (due_size v id) room)) [
    | inl fits ↦ (let few = leb-true (due_size v id) room fits in absurd (omega arith))
    | inr isnt ↦ rw isnt refl
  ];
  none_due = due-seen v id;
  others = λ other differs. due-other v id other differs;
  rest = refl;
}
  where
    not_none : (b : Bool) → not b ≡ true → b ≡ false
    not_none true is = sym is
    not_none false is = refl

-- ---- a Notify that is pending

pub taken_up-reports : (s : Settling) (entry : ℕ × Pending) (handle filter : ℕ) (tree : Bool) (room : ℕ) → MaySettle s.volume → next_ready s.volume ≡ Some entry
    → entry.1.call.what ≡ Ask (Notify handle filter tree room) → TakesReport s entry.1 handle room (taken_up s entry)
taken_up-reports s entry handle filter tree room may is what = elim (cases_Bool (is_held entry.1)) [
  | inl held ↦ (let wrong : may_be_held entry.1.call.what ≡ true = next-may_be_held s.volume entry may next held in let impossible : false ≡ true = rw what at wrong in cc)
  | inr waits ↦ rw waits (subst (λ (asked : What). TakesReport s entry.1 handle room (come_over s entry.1 asked)) (sym what)
      (unheld (subst (λ (asked : What). has_come s.volume entry.1.call.client entry.1.call.number asked ≡ true) what (rw waits at ready))))
]
  where
    next : IsNext s.volume entry
    next = next_ready-is s.volume entry is

    ready : is_ready s.volume entry.1 ≡ true
    ready = IsNext.ready {v = s.volume} {entry = entry} (next_ready-is s.volume entry is)

    unheld : has_come s.volume entry.1.call.client entry.1.call.number (Ask (Notify handle filter tree room)) ≡ true
        → TakesReport s entry.1 handle room (option_map_or (λ id. reported s entry.1 id room) (handle_of s.volume entry.1.call.client handle) s)
    unheld come = elim (option_cases (handle_of s.volume entry.1.call.client handle)) [
      | inl none ↦ (let impossible : false ≡ true = rw none at come in cc)
      | inr some ↦ (let due_there : has_due s.volume entry.1.call.client handle ≡ true = and_left (has_due s.volume entry.1.call.client handle) _ come in
          let some_due : is_something_due s.volume some.0 ≡ true = rw some.1 at due_there in
          rw some.1 (of_id some.0 some.1 some_due (cases_Bool (starves s.starved entry.1 && nat_le (due_size s.volume some.0) room))))
    ]
      where
        of_id : (id : ℕ) → handle_of s.volume entry.1.call.client handle ≡ Some id → is_something_due s.volume id ≡ true
            → ((starves s.starved entry.1 && nat_le (due_size s.volume id) room) ≡ true) ⊎ ((starves s.starved entry.1 && nat_le (due_size s.volume id) room) ≡ false)
            → TakesReport s entry.1 handle room (reported s entry.1 id room)
        of_id id found due (inl starving) = record {
          id = id;
          found = found;
          ends = rw starving (inr (leb-true (due_size s.volume id) room (and_right (starves s.starved entry.1) _ starving), and_left (starves s.starved entry.1) _ starving, refl));
        }
        of_id id found due (inr isnt) = record {
          id = id;
          found = found;
          ends = rw isnt (inl (with_watch_seen s.volume id, report s.volume id room, seen-reports s.volume id room due, refl));
        }

-- ---- each report of a turn

pub repeated-keeps : (steps : ℕ) (s : Settling) → MaySettle s.volume → MaySettle (repeated settle_step steps s).volume
repeated-keeps zero s may = may
repeated-keeps (suc steps) s may = elim (option_cases (settle_step s)) [
  | inl none ↦ rw none may
  | inr some ↦ rw some.1 (repeated-keeps steps some.0 (Steps.may (Steps-settle_step s some.0 may some.1)))
]

repeated-more : (steps : ℕ) (s t : Settling) → settle_step (repeated settle_step steps s) ≡ Some t → repeated settle_step (suc steps) s ≡ t
repeated-more zero s t stepped = rw stepped refl
repeated-more (suc steps) s t stepped = elim (option_cases (settle_step s)) [
  | inl none ↦ (let impossible : None ≡ Some t = rw (none, none) at stepped in cc)
  | inr some ↦ rw some.1 (repeated-more steps some.0 t (rw some.1 at stepped))
]

-- each Notify that is taken up in a turn reports what is due to its watch at that step, or starves
pub turn-reports : (v : Volume) (call : Call) (starved : List CallId) (steps : ℕ) (entry : ℕ × Pending) (handle filter : ℕ) (tree : Bool) (room : ℕ) → MayTurn v → times call.client call.number v ≡ 0
    → next_ready (settling_after v call starved steps).volume ≡ Some entry → entry.1.call.what ≡ Ask (Notify handle filter tree room)
    → TakesReport (settling_after v call starved steps) entry.1 handle room (settling_after v call starved (suc steps))
turn-reports v call starved steps entry handle filter tree room may none is what =
    let adds = Adds-answered v call (try v call (turn_number v)) may none (try-keeps v call (turn_number v) may.take_up.may.oplocks) in
    let kept : MaySettle (settling_after v call starved steps).volume = repeated-keeps steps (record { volume = answered call (turn_number v) (try v call (turn_number v)); starved = starved; taken = [] }) adds.may.take_up.may in
    let stepped : settle_step (settling_after v call starved steps) ≡ Some (taken_up (settling_after v call starved steps) entry) = rw is refl in
    subst (λ (t : Settling). TakesReport (settling_after v call starved steps) entry.1 handle room t) (sym (repeated-more steps _ _ stepped))
    (taken_up-reports (settling_after v call starved steps) entry handle filter tree room kept is what)

-- where it starves, what is due stays so
pub starved-due : (s : Settling) (pending : Pending) (id : ℕ) → due (with_starved s pending).volume id ≡ due s.volume id
starved-due s pending id = refl

-- ---- a Notify's own try

notify_due-tries : (v : Volume) (id room : ℕ) → TriesNotify v id room (notify_due v id room)
notify_due-tries v id room = record {
  reports = λ some. (with_watch_seen v id, report v id room, seen-reports v id room some, rw some refl);
  waits = λ none. rw none refl;
}

pub try_notify-tries : (v : Volume) (client handle filter : ℕ) (tree : Bool) (room id : ℕ) (row : Handle) → handle_of v client handle ≡ Some id → row_of v.handles id ≡ Some row → PassesChecks v row filter
    → TriesNotify (with_watch_begun v id filter tree) id room (try_notify v client handle filter tree room)
unfolding try_notify notify_at
try_notify-tries v client handle filter tree room id row found opened passes =
    rw (found, opened, passes.directory, passes.access, passes.asked, passes.unmarked) (notify_due-tries (with_watch_begun v id filter tree) id room)

-- and it ends in a report only so
abbrev pub status_of : Outcome → Option Status
status_of (Done v reply) = Some reply.status
status_of (Stay v interim) = None
status_of (Hold v blockers interim) = None

pub record ReportsOnly (v : Volume) (id : ℕ) (handle : Handle) (filter : ℕ) (tree : Bool) : Type 0 where
  pub passes : PassesChecks v handle filter
  pub some : is_something_due (with_watch_begun v id filter tree) id ≡ true

pub notify_by-only : (v : Volume) (id : ℕ) (handle : Handle) (filter : ℕ) (tree : Bool) (room : ℕ) (status : Status) → status_of (notify_by v id handle filter tree room) ≡ Some status
    → is_report_status status ≡ true → ReportsOnly v id handle filter tree
notify_by-only v id handle filter tree room status is reports = elim (cases_Bool (is_some handle.stream)) [
  | inl file ↦ (let ended : Some InvalidParameter ≡ Some status = rw file at is in absurd (refusal InvalidParameter ended refl))
  | inr directory ↦ elim (cases_Bool (has_any handle.access 0x1)) [
    | inr lacks ↦ (let ended : Some AccessDenied ≡ Some status = rw (directory, lacks) at is in absurd (refusal AccessDenied ended refl))
    | inl access ↦ elim (cases_Bool (is_notify_filter filter)) [
      | inr bad ↦ (let ended : Some InvalidParameter ≡ Some status = rw (directory, access, bad) at is in absurd (refusal InvalidParameter ended refl))
      | inl asked ↦ elim (cases_Bool (is_link_marked v handle.link)) [
        | inl marked ↦ (let ended : Some DeletePending ≡ Some status = rw (directory, access, asked, marked) at is in absurd (refusal DeletePending ended refl))
        | inr unmarked ↦ elim (cases_Bool (is_something_due (with_watch_begun v id filter tree) id)) [
          | inl some ↦ record { passes = record { directory = directory; access = access; asked = asked; unmarked = unmarked }; some = some }
          | inr none ↦ (let stays : None ≡ Some status = rw (directory, access, asked, unmarked, none) at is in cc)
        ]
      ]
    ]
  ]
]
  where
    refusal : (refused_with : Status) → Some refused_with ≡ Some status → is_report_status refused_with ≡ false → ⊥
    refusal refused_with ended other = (let same : refused_with ≡ status = some_equal refused_with status ended in let no_report : is_report_status status ≡ false = subst (λ (s : Status). is_report_status s ≡ false) same other in cc)

-- ---- what is due since a report

-- the watch of this handle hasn't reported from one volume to a later one: it and its directory are the same, and
-- changes were only added
pub record Unreported (v w : Volume) (id : ℕ) : Type 0 where
  pub watch : watch_of w id ≡ watch_of v id
  pub dir : dir_of w id ≡ dir_of v id
  pub more : List Change
  pub changes : w.changes ≡ v.changes ++ more

pub Unreported-next : {u v w : Volume} {id : ℕ} → Unreported u v id → Unreported v w id → Unreported u w id
Unreported-next {u} {v} {w} first second = record {
  watch = second.watch ∙ first.watch;
  dir = second.dir ∙ first.dir;
  more = first.more ++ second.more;
  changes = second.changes ∙ ap (λ (changes : List Change). changes ++ second.more) first.changes ∙ append_assoc u.changes first.more second.more;
}

-- ends, changes that are noted, and the reports of other watches
pub Unreported-ends : (v : Volume) (id client number : ℕ) (reply : Reply) → Unreported v (with_end v client number reply) id
Unreported-ends v id client number reply = record { watch = refl; dir = refl; more = []; changes = sym (append-nil v.changes) }

pub Unreported-noted : (v : Volume) (id link action bits : ℕ) (stream : Option ℕ) → Unreported v (with_change_noted v link action bits stream) id
Unreported-noted v id link action bits stream = elim (option_cases (row_of v.links link)) [
  | inl none ↦ rw none (record { watch = refl; dir = refl; more = []; changes = sym (append-nil v.changes) })
  | inr some ↦ rw some.1 (record {
    watch = refl;
    dir = refl;
    more = record { action = action; bits = bits; seen_from = seen_from v.links some.0 (stream_suffix v.streams stream) } ∷ [];
    changes = refl;
  })
]

pub Unreported-other : (v : Volume) (id other : ℕ) → (other == id) ≡ false → Unreported v (with_watch_seen v id) other
Unreported-other v id other differs = record {
  watch = watch_of-seen v id other ∙ elim (option_cases (watch_of v other)) [
    | inl none ↦ rw none refl
    | inr some ↦ (let own : some.0.handle ≡ other = eqb-true some.0.handle other (find-passes (λ (watch : Watch). watch.handle == other) v.watches some.0 some.1) in
        let elsewhere : (some.0.handle == id) ≡ false = rw own differs in
        rw (some.1, elsewhere) refl)
  ];
  dir = refl;
  more = [];
  changes = sym (append-nil v.changes);
}

-- after a report what is due, and so the next report, is just those changes noted since that the watch asks for
pub due-since_report : (v w : Volume) (id dir : ℕ) (watch : Watch) → watch_of v id ≡ Some watch → dir_of v id ≡ Some dir → Unreported (with_watch_seen v id) w id
    → due w id ≡ map (told_from dir) (filter (is_asked_by watch dir) (drop (length v.changes) w.changes))
due-since_report v w id dir watch found of_dir between =
    let own : (watch.handle == id) ≡ true = find-passes (λ (watch : Watch). watch.handle == id) v.watches watch found in
    rw (between.watch, watch_of-seen v id id, found, own, between.dir, of_dir) refl

-- and those are all that were noted since
pub noted-since_report : (v w : Volume) (id : ℕ) (between : Unreported (with_watch_seen v id) w id) → drop (length v.changes) w.changes ≡ between.more
noted-since_report v w id between = ap (λ (changes : List Change). drop (length v.changes) changes) between.changes ∙ drop-append_seam v.changes between.more

-- before the first report, those noted since the Notify that began the watch
pub find-push : (id : ℕ) (watches : List Watch) (last : Watch) → find (λ watch. watch.handle == id) watches ≡ None → (last.handle == id) ≡ true → find (λ watch. watch.handle == id) (watches ++ last ∷ []) ≡ Some last
find-push id [] last none own = rw own refl
find-push id (watch ∷ watches) last none own = elim (cases_Bool (watch.handle == id)) [
  | inl is ↦ (let impossible : Some watch ≡ None = rw is at none in cc)
  | inr isnt ↦ rw isnt (find-push id watches last (rw isnt at none) own)
]

pub due-since_begun : (v w : Volume) (id dir filter : ℕ) (tree : Bool) → watch_of v id ≡ None → dir_of v id ≡ Some dir → Unreported (with_watch_begun v id filter tree) w id
    → due w id ≡ due_to w.changes dir (record { handle = id; filter = filter; tree = tree; from = length v.changes })
due-since_begun v w id dir filter tree none of_dir between =
    let begun : with_watch_begun v id filter tree ≡ with_watch v id filter tree (length v.changes) = rw none refl in
    let found : watch_of (with_watch_begun v id filter tree) id ≡ Some (record { handle = id; filter = filter; tree = tree; from = length v.changes })
    = rw begun (find-push id v.watches _ none (eq-eqb id id refl)) in
    let here : dir_of (with_watch_begun v id filter tree) id ≡ Some dir = rw begun of_dir in
    rw (between.watch, found, between.dir, here) refl

-- ---- over a history

-- after each turn nothing is due to the watch of a Notify that is pending
pub run-unreported : (setup : Setup) (history : List HistoryEntry) (r : Run) → ((client number : ℕ) → how_many (is_entry_of client number) history ≤ 1) → run setup history ≡ Some r
    → how_many (is_unreported r.volume) r.volume.pending ≡ 0
run-unreported setup history r differ is = (let runs : Runs (fresh setup) history r.volume = run-runs setup history r differ is in none-unreported r.volume runs.may.take_up.may runs.done)

-- each Notify that is taken up in a turn of a run reports, or starves
pub run-reports : (setup : Setup) (history : List HistoryEntry) (entry : HistoryEntry) (r : Run) (steps : ℕ) (pending : ℕ × Pending) (handle filter : ℕ) (tree : Bool) (room : ℕ)
    → CallsDiffer (history ++ entry ∷ []) → run setup history ≡ Some r
    → next_ready (settling_after r.volume entry.call entry.starved steps).volume ≡ Some pending → pending.1.call.what ≡ Ask (Notify handle filter tree room)
    → TakesReport (settling_after r.volume entry.call entry.starved steps) pending.1 handle room (settling_after r.volume entry.call entry.starved (suc steps))
run-reports setup history entry r steps pending handle filter tree room differ is next what =
    turn-reports r.volume entry.call entry.starved steps pending handle filter tree room (Runs.may (run-before setup history entry r differ is)) (new-before setup history entry r differ is) next what
