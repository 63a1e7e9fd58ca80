-- Which watches a turn fixes and has report, and that each report over a history says what it is to say.
use Rattle.std.proofs.Common.{◌≡◌, ℕ, zero, suc, Bool, true, false, List, [], ◌∷◌, ◌++◌, length, refl, sym, subst, inl, inr, ◌⊎◌, Option, Some, None}
use Rattle.std.specs.List.{find}
use Rattle.std.specs.Option.{option_map_or}
use Rattle.std.specs.Prelude.{◌==◌, ◌&&◌, nat_le, is_some}
use Rattle.std.proofs.Math.Seq.{drop-length}
use Rattle.std.proofs.lemmas.Bool.{cases_Bool, eq-eqb}
use Rattle.fsa_types.specs.Access.{has_any}
use Rattle.fsa_types.specs.Rows.{row_of}
use Rattle.fsa_types.specs.declared.request.Call.{Call}
use Rattle.fsa_types.specs.declared.request.CallId.{CallId}
use Rattle.fsa_types.specs.declared.request.Request.TheVariants.{Notify}
use Rattle.fsa_types.specs.declared.request.What.{What}
use Rattle.fsa_types.specs.declared.request.What.TheVariants.{Ask}
use Rattle.fsa_types.specs.declared.status.Status.TheVariants.{InvalidHandle, Stalled}
use Rattle.fsa_model.specs.Edits.{with_watch}
use Rattle.fsa_model.specs.Engine.{own_tried}
use Rattle.fsa_model.specs.History.{HistoryEntry, Run, begun, run, steps, turn_on}
use Rattle.fsa_model.specs.Lookups.{handle_of, has_left, is_link_marked}
use Rattle.fsa_model.specs.Outcome.{Outcome, Done, Stay, Hold, refused}
use Rattle.fsa_model.specs.Settle.{Settling, come_over, repeated, reported, settle_step, starves, taken_up, taken_up_all, wait_over, with_tried}
use Rattle.fsa_model.specs.Setup.{Setup}
use Rattle.fsa_model.specs.Try.{try, try_what}
use Rattle.fsa_model.specs.Turn.{answered, settlement, turn_number, volume_after}
use Rattle.fsa_model.specs.Volume.{Handle, Pending, Volume, Watch}
use Rattle.fsa_model.specs.Waiting.{all_wait, has_come, has_due, is_first_notify, is_held, is_ready, next_ready, waits_in_order, with_stalled}
use Rattle.fsa_model.specs.Watched.{AddAlong, EachReports, Notice, is_report_status, notices_asked, notices_by, notices_come, notices_from, notices_in, notices_of, notices_of_steps, notices_of_turn, notices_reported}
use Rattle.fsa_model.specs.Watching.{dir_of, due_size, is_notify_filter, is_something_due, notify_at, notify_by, notify_due, report, try_notify, watch_of, with_watch_begun, with_watch_seen}
use Rattle.fsa_model.proofs.CoherenceRuns.{turn_on-settled}
use Rattle.fsa_model.proofs.CountLaws.{and_left}
use Rattle.fsa_model.proofs.NoticeLaws.{EachReports-next, Knows, Leads, Leads-fixed, Leads-next, Leads-report, Leads-still, Leads-then, Still, still, still-same}
use Rattle.fsa_model.proofs.ReportLaws.{find-push}
use Rattle.fsa_model.proofs.RowLaws.{option_cases}
use Rattle.fsa_model.proofs.SettleLaws.{IsNext, next_ready-is, some_equal}
use Rattle.fsa_model.proofs.TryQuiet.{try-quiet}
use Rattle.fsa_model.proofs.WatchLaws.{watching-calls_ended}

-- ---- a Notify's own try

-- nothing is due to a watch that has just been fixed
pub fixed-none_due : (v : Volume) (id filter : ℕ) (whole : Bool) → watch_of v id ≡ None → is_something_due (with_watch v id filter whole (length v.changes)) id ≡ false
fixed-none_due v id filter whole none =
    let new : Watch = record { handle = id; filter = filter; tree = whole; from = length v.changes } in
    let found : find (λ (watch : Watch). watch.handle == id) (v.watches ++ new ∷ []) ≡ Some new = find-push id v.watches new none (eq-eqb id id refl) in
    rw found (elim (option_cases (dir_of v id)) [ inl missing ↦ rw missing refl | inr dir ↦ rw (dir.1, drop-length v.changes) refl ])

pub reports-status : (v : Volume) (id room : ℕ) → is_report_status (report v id room).status ≡ true
reports-status v id room = elim (cases_Bool (nat_le (due_size v id) room)) [ inl within ↦ rw within refl | inr more ↦ rw more refl ]

leads-by : (v : Volume) (call : Call) (id : ℕ) (handle : Handle) (filter : ℕ) (whole : Bool) (room : ℕ)
    → Leads (notices_by v call id filter whole room (notify_by v id handle filter whole room)) v (volume_after (notify_by v id handle filter whole room))
leads-by v call id handle filter whole room = elim (cases_Bool (is_some handle.stream)) [
  | inl file ↦ rw file (Leads-still (still-same refl refl))
  | inr directory ↦ elim (cases_Bool (has_any handle.access 0x1)) [
    | inr lacks ↦ rw (directory, lacks) (Leads-still (still-same refl refl))
    | inl access ↦ elim (cases_Bool (is_notify_filter filter)) [
      | inr bad ↦ rw (directory, access, bad) (Leads-still (still-same refl refl))
      | inl asked ↦ elim (cases_Bool (is_link_marked v handle.link)) [
        | inl marked ↦ rw (directory, access, asked, marked) (Leads-still (still-same refl refl))
        | inr unmarked ↦ rw (directory, access, asked, unmarked) (passed (option_cases (watch_of v id)))
      ]
    ]
  ]
]
  where
    passed : (watch_of v id ≡ None) ⊎ ((watch : Watch) × (watch_of v id ≡ Some watch))
        → Leads (notices_by v call id filter whole room (notify_due (with_watch_begun v id filter whole) id room)) v (volume_after (notify_due (with_watch_begun v id filter whole) id room))
    passed (inl none) =
        rw none (rw (fixed-none_due v id filter whole none) (rw none
        (Leads-fixed v (record { before = v; call = call; handle = id; filter = filter; tree = whole; room = room; reply = None }) refl refl none)))
    passed (inr watch) = elim (cases_Bool (is_something_due v id)) [
      | inl some ↦ rw (watch.1, some, reports-status v id room)
          (Leads-report v (record { before = v; call = call; handle = id; filter = filter; tree = whole; room = room; reply = Some (report v id room) }) refl refl some)
      | inr none ↦ rw (watch.1, none) (rw watch.1 (Leads-still (still-same refl refl)))
    ]

-- refused
leads-refused : (v : Volume) (call : Call) (id filter : ℕ) (whole : Bool) (room : ℕ) → Leads (notices_by v call id filter whole room (refused v InvalidHandle)) v v
leads-refused v call id filter whole room = Leads-still (still-same refl refl)

leads-notify : (v : Volume) (call : Call) (handle filter : ℕ) (whole : Bool) (room : ℕ)
    → Leads (notices_asked v call (Ask (Notify handle filter whole room)) (try_notify v call.client handle filter whole room)) v (volume_after (try_notify v call.client handle filter whole room))
unfolding try_notify notify_at
leads-notify v call handle filter whole room = elim (option_cases (handle_of v call.client handle)) [
  | inl none ↦ rw none (Leads-still (still-same refl refl))
  | inr id ↦ rw id.1 (elim (option_cases (row_of v.handles id.0)) [
    | inl none ↦ rw none (leads-refused v call id.0 filter whole room)
    | inr row ↦ rw row.1 (leads-by v call id.0 row.0 filter whole room)
  ])
]

leads-left : (v : Volume) (call : Call) (handle filter : ℕ) (whole : Bool) (room : ℕ) → Leads (notices_asked v call (Ask (Notify handle filter whole room)) (refused v InvalidHandle)) v v
leads-left v call handle filter whole room = elim (option_cases (handle_of v call.client handle)) [
  | inl none ↦ rw none (Leads-still (still-same refl refl))
  | inr id ↦ rw id.1 (leads-refused v call id.0 filter whole room)
]

-- ---- any try

leads-tries : (v : Volume) (call : Call) (turn : ℕ) (what : What) → call.what ≡ what → Leads (notices_asked v call what (try v call turn)) v (volume_after (try v call turn))
leads-tries v call turn (Ask (Notify handle filter whole room)) is = elim (cases_Bool (has_left v call.client)) [
  | inl left ↦ rw left (leads-left v call handle filter whole room)
  | inr here ↦ rw here (subst (λ (asked : What). Leads (notices_asked v call (Ask (Notify handle filter whole room)) (try_what v turn call.client call.number asked)) v (volume_after (try_what v turn call.client call.number asked))) (sym is)
      (leads-notify v call handle filter whole room))
]
leads-tries v call turn _ is = Leads-still (still (try-quiet v call turn (rw is refl)))

Leads-try : (v : Volume) (call : Call) (turn : ℕ) → Leads (notices_asked v call call.what (try v call turn)) v (volume_after (try v call turn))
Leads-try v call turn = leads-tries v call turn call.what refl

-- ---- what a turn does besides its tries

still-tried : (turn : ℕ) (pending : Pending) (outcome : Outcome) → Still (volume_after outcome) (with_tried turn pending outcome)
still-tried turn pending (Done v reply) = still-same refl refl
still-tried turn pending (Stay v interim) = still-same refl refl
still-tried turn pending (Hold v blockers interim) = still-same refl refl

still-answered : (call : Call) (turn : ℕ) (outcome : Outcome) → Still (volume_after outcome) (answered call turn outcome)
still-answered call turn (Done v reply) = still-same refl refl
still-answered call turn (Stay v interim) = still-same refl refl
still-answered call turn (Hold v blockers interim) = still-same refl refl

still-stalled : (v : Volume) → Still v (with_stalled v)
still-stalled v = elim (cases_Bool (all_wait v)) [
  | inl all ↦ (let same = watching-calls_ended (λ _. Stalled) (waits_in_order v) v in rw all (still-same same.watches same.changes))
  | inr some ↦ rw some (still-same refl refl)
]

-- ---- a step of a settlement

leads-reported : (s : Settling) (pending : Pending) (id filter : ℕ) (whole : Bool) (room : ℕ) → is_something_due s.volume id ≡ true
    → Leads (notices_reported s pending id filter whole room) s.volume (reported s pending id room).volume
leads-reported s pending id filter whole room some = elim (cases_Bool (starves s.starved pending && nat_le (due_size s.volume id) room)) [
  | inl starving ↦ rw starving (Leads-still (still-same refl refl))
  | inr reports ↦ rw reports (Leads-then (notice ∷ []) s.volume (with_watch_seen s.volume id) _ (Leads-report s.volume notice refl refl some) (still-same refl refl))
]
  where
    notice : Notice
    notice = record { before = s.volume; call = pending.call; handle = id; filter = filter; tree = whole; room = room; reply = Some (report s.volume id room) }

leads-come_notify : (s : Settling) (pending : Pending) (handle filter : ℕ) (whole : Bool) (room : ℕ) → has_due s.volume pending.call.client handle ≡ true
    → Leads (notices_come s pending (Ask (Notify handle filter whole room))) s.volume (come_over s pending (Ask (Notify handle filter whole room))).volume
leads-come_notify s pending handle filter whole room due_there = elim (option_cases (handle_of s.volume pending.call.client handle)) [
  | inl none ↦ (let impossible : false ≡ true = rw none at due_there in cc)
  | inr id ↦ (let some : is_something_due s.volume id.0 ≡ true = rw id.1 at due_there in rw id.1 (leads-reported s pending id.0 filter whole room some))
]

leads-over : (s : Settling) (pending : Pending) → Leads [] s.volume (wait_over s pending).volume
leads-over s pending = Leads-still (still-same refl refl)

leads-come : (s : Settling) (pending : Pending) (what : What) → has_come s.volume pending.call.client pending.call.number what ≡ true → Leads (notices_come s pending what) s.volume (come_over s pending what).volume
leads-come s pending (Ask (Notify handle filter whole room)) come =
    leads-come_notify s pending handle filter whole room (and_left (has_due s.volume pending.call.client handle) (is_first_notify s.volume pending.call.client pending.call.number handle) come)
leads-come s pending _ come = leads-over s pending

Leads-taken_up : (s : Settling) (entry : ℕ × Pending) → next_ready s.volume ≡ Some entry → Leads (notices_in s entry) s.volume (taken_up s entry).volume
Leads-taken_up s entry next = elim (cases_Bool (is_held entry.1)) [
  | inr waits ↦ rw waits (leads-come s entry.1 entry.1.call.what (rw waits at ready))
  | inl held ↦ rw held (elim (cases_Bool (starves s.starved entry.1)) [
    | inl starving ↦ rw starving (Leads-still (still-same refl refl))
    | inr plenty ↦ rw plenty (Leads-then (notices_asked s.volume entry.1.call entry.1.call.what (try s.volume entry.1.call entry.0)) s.volume (volume_after (try s.volume entry.1.call entry.0)) _
        (Leads-try s.volume entry.1.call entry.0) (still-tried entry.0 entry.1 (try s.volume entry.1.call entry.0)))
  ])
]
  where
    ready : is_ready s.volume entry.1 ≡ true
    ready = IsNext.ready {v = s.volume} {entry = entry} (next_ready-is s.volume entry next)

Leads-steps : (most : ℕ) (s : Settling) → Leads (notices_of_steps most s) s.volume (repeated settle_step most s).volume
Leads-steps zero s = Leads-still (still-same refl refl)
Leads-steps (suc more) s = elim (option_cases (next_ready s.volume)) [
  | inl none ↦ rw none (Leads-still (still-same refl refl))
  | inr some ↦ rw some.1 (Leads-next (notices_in s some.0) (notices_of_steps more (taken_up s some.0)) s.volume (taken_up s some.0).volume _ (Leads-taken_up s some.0 some.1) (Leads-steps more (taken_up s some.0)))
]

-- ---- a turn, and a run

Leads-turn : (v : Volume) (call : Call) (starved : List CallId) → Leads (notices_of_turn v call starved) v (settlement v call starved).volume
Leads-turn v call starved =
    let own : Volume = own_tried v call in
    let start : Settling = record { volume = own; starved = starved; taken = [] } in
    let taken : Volume = (taken_up_all own starved).volume in
    let tried : Outcome = try v call (turn_number v) in
    Leads-next (notices_asked v call call.what tried) (notices_of_steps (length own.pending) start) v own (settlement v call starved).volume
    (Leads-then (notices_asked v call call.what tried) v (volume_after tried) own (Leads-try v call (turn_number v)) (still-answered call (turn_number v) tried))
    (Leads-then (notices_of_steps (length own.pending) start) own taken (with_stalled taken) (Leads-steps (length own.pending) start) (still-stalled taken))

leads-first : (r : Run) (entry : HistoryEntry) (next : Run) → turn_on r entry ≡ Some next → Leads (notices_of_turn r.volume entry.call entry.starved) r.volume next.volume
leads-first r entry next is =
    subst (λ (w : Volume). Leads (notices_of_turn r.volume entry.call entry.starved) r.volume w) (sym (turn_on-settled r entry next is)) (Leads-turn r.volume entry.call entry.starved)

leads-more : (r : Run) (entry : HistoryEntry) (more : List HistoryEntry) (next after : Run) → turn_on r entry ≡ Some next → Leads (notices_from next more) next.volume after.volume
    → Leads (notices_of_turn r.volume entry.call entry.starved ++ option_map_or (λ next. notices_from next more) (turn_on r entry) []) r.volume after.volume
leads-more r entry more next after is rest =
    subst (λ (found : Option Run). Leads (notices_of_turn r.volume entry.call entry.starved ++ option_map_or (λ next. notices_from next more) found []) r.volume after.volume) (sym is)
    (Leads-next (notices_of_turn r.volume entry.call entry.starved) (notices_from next more) r.volume next.volume after.volume (leads-first r entry next is) rest)

leads-none : (r after : Run) → r ≡ after → Leads [] r.volume after.volume
leads-none r after same = rw same (Leads-still (still-same refl refl))

leads-step : (entry : HistoryEntry) (more : List HistoryEntry) (r after : Run) → ((next : Run) → steps turn_on next more ≡ Some after → Leads (notices_from next more) next.volume after.volume)
    → steps turn_on r (entry ∷ more) ≡ Some after → Leads (notices_from r (entry ∷ more)) r.volume after.volume
leads-step entry more r after rest is = elim (option_cases (turn_on r entry)) [
  | inl none ↦ (let impossible : None ≡ Some after = rw none at is in cc)
  | inr some ↦ leads-more r entry more some.0 after some.1 (rest some.0 (rw some.1 at is))
]

Leads-from : (history : List HistoryEntry) (r after : Run) → steps turn_on r history ≡ Some after → Leads (notices_from r history) r.volume after.volume
Leads-from [] r after is = leads-none r after (some_equal r after is)
Leads-from (entry ∷ more) r after is = leads-step entry more r after (λ next so. Leads-from more next after so) is

-- all reports of these turns are such, also where there is no such turn
reports-from : (history : List HistoryEntry) (r : Run) (known : List Notice) → Knows known r.volume → EachReports known (notices_from r history)
reports-from [] r known knows = tt
reports-from (entry ∷ more) r known knows =
    let here : Leads (notices_of_turn r.volume entry.call entry.starved) r.volume (settlement r.volume entry.call entry.starved).volume = Leads-turn r.volume entry.call entry.starved in
    EachReports-next known (notices_of_turn r.volume entry.call entry.starved) _ (here.reports known knows) (elim (option_cases (turn_on r entry)) [
      | inl none ↦ rw none tt
      | inr some ↦ rw some.1 (reports-from more some.0 (known ++ notices_of_turn r.volume entry.call entry.starved)
          (subst (λ (w : Volume). Knows (known ++ notices_of_turn r.volume entry.call entry.starved) w) (sym (turn_on-settled r entry some.0 some.1)) (here.knows known knows)))
    ])

pub run-reports_since : (setup : Setup) (history : List HistoryEntry) → EachReports [] (notices_of setup history)
run-reports_since setup history = reports-from history (begun setup) [] (λ id watch is. (let impossible : None ≡ Some watch = is in cc))

pub run-adds : (setup : Setup) (history : List HistoryEntry) (r : Run) → run setup history ≡ Some r → AddAlong (notices_of setup history) (begun setup).volume r.volume
run-adds setup history r is = Leads.adds (Leads-from history (begun setup) r is)
