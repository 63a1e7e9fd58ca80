-- A Notify ends SUCCESS or NOTIFY_ENUM_DIR just where a watch reports to it.
use Rattle.std.proofs.Common.{◌≡◌, ℕ, ◌≤◌, Bool, true, false, not, List, [], ◌∷◌, ◌++◌, append-nil, refl, ap, sym, subst, ◌∙◌, arith, inl, inr, ◌⊎◌, Some, None}
use Rattle.std.specs.List.{All, filter}
use Rattle.std.specs.Prelude.{◌&&◌, is_some, if◌then◌else◌}
use Rattle.std.proofs.lemmas.Bool.{cases_Bool}
use Rattle.std.proofs.lemmas.List.Elements.{All-head, All-tail, filter-append}
use Rattle.fsa_types.specs.Access.{has_any}
use Rattle.fsa_types.specs.Rows.{row_of}
use Rattle.fsa_types.specs.declared.reply.EndOf.{EndOf}
use Rattle.fsa_types.specs.declared.request.Call.{Call}
use Rattle.fsa_types.specs.declared.request.Request.TheVariants.{Notify}
use Rattle.fsa_types.specs.declared.request.What.{What}
use Rattle.fsa_types.specs.declared.request.What.TheVariants.{Ask}
use Rattle.fsa_types.specs.declared.status.Status.TheVariants.{InvalidHandle, InvalidParameter, AccessDenied, DeletePending}
use Rattle.fsa_model.specs.Edits.{is_call}
use Rattle.fsa_model.specs.Lookups.{handle_of, has_left, is_link_marked}
use Rattle.fsa_model.specs.Once.{how_many}
use Rattle.fsa_model.specs.Outcome.{Outcome, Done, Stay, Hold, refused}
use Rattle.fsa_model.specs.Settling.{asks_report, is_under}
use Rattle.fsa_model.specs.Try.{try, try_what}
use Rattle.fsa_model.specs.Turn.{volume_after}
use Rattle.fsa_model.specs.Volume.{Handle, Pending, Volume}
use Rattle.fsa_model.specs.Waiting.{is_granted_under}
use Rattle.fsa_model.specs.Watched.{Notice, ends_in, is_end_in_report, is_report_status, notices_asked, notices_by}
use Rattle.fsa_model.specs.Watching.{is_notify_filter, is_something_due, notify_at, notify_by, notify_due, try_notify, watch_of, with_watch_begun}
use Rattle.fsa_model.proofs.CountLaws.{and_left, and_right, how_many-either}
use Rattle.fsa_model.proofs.OnceLaws.{is_same-equal}
use Rattle.fsa_model.proofs.QuietLaws.{EndsQuietly, Quiet, QuietEnds}
use Rattle.fsa_model.proofs.RowLaws.{option_cases}
use Rattle.fsa_model.proofs.TryQuiet.{try-quiet}
use Rattle.fsa_model.proofs.TurnLaws.{own_end}

-- ---- what is known of pending calls

abbrev pub agrees : Bool → Bool → Bool
agrees a b = if a then b else not b

-- the pending call is a Notify, and isn't known as one, or the other way about
abbrev pub is_mistaken : (ℕ → ℕ → Bool) → ℕ × Pending → Bool
is_mistaken is_notify entry = not (agrees (is_notify entry.1.call.client entry.1.call.number) (asks_report entry.1.call.what))

-- each pending call is known as what it is, and no oplock is granted to a Notify
pub record Tells (is_notify : ℕ → ℕ → Bool) (v : Volume) : Type 0 where
  pub known : how_many (is_mistaken is_notify) v.pending ≡ 0
  pub none : (turn : ℕ) → 1 ≤ how_many (is_granted_under turn) v.oplocks → how_many (λ e. is_under turn e && asks_report e.1.call.what) v.pending ≡ 0

pub agrees-equal : (a b : Bool) → agrees a b ≡ true → a ≡ b
agrees-equal true true is = refl
agrees-equal true false is = sym is
agrees-equal false true is = is
agrees-equal false false is = refl

-- an end that is no report's, or of a call that an oplock was granted to, ends no Notify in a report
quiet-other : (is_notify : ℕ → ℕ → Bool) (v : Volume) → Tells is_notify v → (end : EndOf) → EndsQuietly v end → is_end_in_report is_notify end ≡ false
quiet-other is_notify v tells end (inl other) = rw other refl
quiet-other is_notify v tells end (inr was) = elim (cases_Bool (is_notify end.client end.number)) [
  | inr isnt ↦ rw isnt (never (is_report_status end.reply.status))
  | inl is ↦ (let some = was.pends in let right = tells.known in let no_notify = tells.none was.turn was.granted in
      let either = how_many-either (is_mistaken is_notify) (λ e. is_under was.turn e && asks_report e.1.call.what) (λ e. is_under was.turn e && is_call end.client end.number e.1) v.pending (λ e both. one e is both) in
      absurd (omega arith))
]
  where
    never : (b : Bool) → (b && false) ≡ false
    never true = refl
    never false = refl

    one : (e : ℕ × Pending) → is_notify end.client end.number ≡ true → (is_under was.turn e && is_call end.client end.number e.1) ≡ true
        → (is_mistaken is_notify e ≡ true) ⊎ ((is_under was.turn e && asks_report e.1.call.what) ≡ true)
    one e is both =
        let under : is_under was.turn e ≡ true = and_left (is_under was.turn e) _ both in
        let same = is_same-equal e.1.call.client e.1.call.number end.client end.number (and_right (is_under was.turn e) _ both) in
        let its : is_notify e.1.call.client e.1.call.number ≡ true = rw (same.0, same.1) is in
        elim (cases_Bool (asks_report e.1.call.what)) [
          | inl asks ↦ inr (rw (under, asks) refl)
          | inr other ↦ inl (rw (its, other) refl)
        ]

pub all-other : (is_notify : ℕ → ℕ → Bool) (v : Volume) → Tells is_notify v → (ends : List EndOf) → All (EndsQuietly v) ends → filter (is_end_in_report is_notify) ends ≡ []
all-other is_notify v tells [] all = refl
all-other is_notify v tells (end ∷ ends) all =
    rw (quiet-other is_notify v tells end (All-head (EndsQuietly v) end ends all)) (all-other is_notify v tells ends (All-tail (EndsQuietly v) end ends all))

-- ---- a try

-- the ends in reports that are new are those of these notices
abbrev pub Says : (ℕ → ℕ → Bool) → List Notice → List EndOf → List EndOf → Type 0
Says is_notify notices before after = filter (is_end_in_report is_notify) after ≡ filter (is_end_in_report is_notify) before ++ ends_in notices

-- one end more, of no Notify in a report
pub says-other : (is_notify : ℕ → ℕ → Bool) (ended : List EndOf) (end : EndOf) → is_end_in_report is_notify end ≡ false → Says is_notify [] ended (ended ++ end ∷ [])
says-other is_notify ended end other = filter-append (is_end_in_report is_notify) ended (end ∷ []) ∙ rw other refl

pub says-report : (is_notify : ℕ → ℕ → Bool) (ended : List EndOf) (notice : Notice) (end : EndOf) → is_end_in_report is_notify end ≡ true → ends_in (notice ∷ []) ≡ end ∷ []
    → Says is_notify (notice ∷ []) ended (ended ++ end ∷ [])
says-report is_notify ended notice end is its = filter-append (is_end_in_report is_notify) ended (end ∷ []) ∙ rw (is, its) refl

-- a call that is no Notify
tries-other : (is_notify : ℕ → ℕ → Bool) (v : Volume) (call : Call) (outcome : Outcome) → Tells is_notify v → is_notify call.client call.number ≡ false → QuietEnds v v (volume_after outcome)
    → Says is_notify [] v.ended ((volume_after outcome).ended ++ own_end call outcome)
tries-other is_notify v call outcome tells other quiet =
    ap (λ (ended : List EndOf). filter (is_end_in_report is_notify) (ended ++ own_end call outcome)) quiet.is
    ∙ filter-append (is_end_in_report is_notify) (v.ended ++ quiet.ends) (own_end call outcome)
    ∙ ap (λ (more : List EndOf). filter (is_end_in_report is_notify) (v.ended ++ quiet.ends) ++ more) (own outcome)
    ∙ append-nil (filter (is_end_in_report is_notify) (v.ended ++ quiet.ends))
    ∙ filter-append (is_end_in_report is_notify) v.ended quiet.ends
    ∙ ap (λ (more : List EndOf). filter (is_end_in_report is_notify) v.ended ++ more) (all-other is_notify v tells quiet.ends quiet.all)
  where
    never : (b : Bool) → (b && false) ≡ false
    never true = refl
    never false = refl

    own : (outcome : Outcome) → filter (is_end_in_report is_notify) (own_end call outcome) ≡ []
    own (Done w reply) = rw (other, never (is_report_status reply.status)) refl
    own (Stay w interim) = refl
    own (Hold w blockers interim) = refl

-- a Notify whose handle is found
tries-by : (is_notify : ℕ → ℕ → Bool) (v : Volume) (call : Call) (id filter_asked : ℕ) (whole : Bool) (room : ℕ) (outcome : Outcome) → is_notify call.client call.number ≡ true → (volume_after outcome).ended ≡ v.ended
    → Says is_notify (notices_by v call id filter_asked whole room outcome) v.ended ((volume_after outcome).ended ++ own_end call outcome)
tries-by is_notify v call id filter_asked whole room (Done w reply) is same = elim (cases_Bool (is_report_status reply.status)) [
  | inl reports ↦ rw (same, reports) (says-report is_notify v.ended (record { before = v; call = call; handle = id; filter = filter_asked; tree = whole; room = room; reply = Some reply })
      (record { client = call.client; number = call.number; reply = reply }) (rw (reports, is) refl) refl)
  | inr other ↦ rw (same, other) (says-other is_notify v.ended (record { client = call.client; number = call.number; reply = reply }) (rw other refl))
]
tries-by is_notify v call id filter_asked whole room (Stay w interim) is same =
    ap (λ (ended : List EndOf). filter (is_end_in_report is_notify) ended) (append-nil w.ended ∙ same) ∙ sym (append-nil (filter (is_end_in_report is_notify) v.ended)) ∙ ap (λ (more : List EndOf). filter (is_end_in_report is_notify) v.ended ++ more) (sym (none (is_some (watch_of v id))))
  where
    none : (there : Bool) → ends_in (if there then [] else record { before = v; call = call; handle = id; filter = filter_asked; tree = whole; room = room; reply = None } ∷ []) ≡ []
    none true = refl
    none false = refl
tries-by is_notify v call id filter_asked whole room (Hold w blockers interim) is same =
    ap (λ (ended : List EndOf). filter (is_end_in_report is_notify) ended) (append-nil w.ended ∙ same) ∙ sym (append-nil (filter (is_end_in_report is_notify) v.ended))

-- it ends no other call
ended-if : (v : Volume) (test : Bool) (one other : Outcome) → (volume_after one).ended ≡ v.ended → (volume_after other).ended ≡ v.ended → (volume_after (if test then one else other)).ended ≡ v.ended
ended-if v true one other holds fails = holds
ended-if v false one other holds fails = fails

ended-begun : (v : Volume) (id filter_asked : ℕ) (whole : Bool) → (with_watch_begun v id filter_asked whole).ended ≡ v.ended
ended-begun v id filter_asked whole = elim (cases_Bool (is_some (watch_of v id))) [ inl there ↦ rw there refl | inr new ↦ rw new refl ]

ended-by : (v : Volume) (id : ℕ) (handle : Handle) (filter_asked : ℕ) (whole : Bool) (room : ℕ) → (volume_after (notify_by v id handle filter_asked whole room)).ended ≡ v.ended
ended-by v id handle filter_asked whole room =
    let begun : Volume = with_watch_begun v id filter_asked whole in
    ended-if v (is_some handle.stream) (refused v InvalidParameter) _ refl
    (ended-if v (not (has_any handle.access 0x1)) (refused v AccessDenied) _ refl
    (ended-if v (not (is_notify_filter filter_asked)) (refused v InvalidParameter) _ refl
    (ended-if v (is_link_marked v handle.link) (refused v DeletePending) (notify_due begun id room) refl
    (ended-if v (is_something_due begun id) _ _ (ended-begun v id filter_asked whole) (ended-begun v id filter_asked whole)))))

ended-at : (v : Volume) (id filter_asked : ℕ) (whole : Bool) (room : ℕ) → (volume_after (notify_at v id filter_asked whole room)).ended ≡ v.ended
unfolding notify_at
ended-at v id filter_asked whole room = elim (option_cases (row_of v.handles id)) [ inl none ↦ rw none refl | inr row ↦ rw row.1 (ended-by v id row.0 filter_asked whole room) ]

-- a Notify
tries-notify : (is_notify : ℕ → ℕ → Bool) (v : Volume) (call : Call) (handle filter_asked : ℕ) (whole : Bool) (room : ℕ) → is_notify call.client call.number ≡ true
    → Says is_notify (notices_asked v call (Ask (Notify handle filter_asked whole room)) (try_notify v call.client handle filter_asked whole room)) v.ended
    ((volume_after (try_notify v call.client handle filter_asked whole room)).ended ++ own_end call (try_notify v call.client handle filter_asked whole room))
unfolding try_notify
tries-notify is_notify v call handle filter_asked whole room is = elim (option_cases (handle_of v call.client handle)) [
  | inl none ↦ rw none (says-other is_notify v.ended _ refl)
  | inr id ↦ rw id.1 (tries-by is_notify v call id.0 filter_asked whole room (notify_at v id.0 filter_asked whole room) is (ended-at v id.0 filter_asked whole room))
]

tries-left : (is_notify : ℕ → ℕ → Bool) (v : Volume) (call : Call) (handle filter_asked : ℕ) (whole : Bool) (room : ℕ) → is_notify call.client call.number ≡ true
    → Says is_notify (notices_asked v call (Ask (Notify handle filter_asked whole room)) (refused v InvalidHandle)) v.ended (v.ended ++ own_end call (refused v InvalidHandle))
tries-left is_notify v call handle filter_asked whole room is = elim (option_cases (handle_of v call.client handle)) [
  | inl none ↦ rw none (says-other is_notify v.ended _ refl)
  | inr id ↦ rw id.1 (tries-by is_notify v call id.0 filter_asked whole room (refused v InvalidHandle) is refl)
]

tries-what : (is_notify : ℕ → ℕ → Bool) (v : Volume) (call : Call) (turn : ℕ) (what : What) → Tells is_notify v → call.what ≡ what → is_notify call.client call.number ≡ asks_report what
    → Says is_notify (notices_asked v call what (try v call turn)) v.ended ((volume_after (try v call turn)).ended ++ own_end call (try v call turn))
tries-what is_notify v call turn (Ask (Notify handle filter_asked whole room)) tells is known = elim (cases_Bool (has_left v call.client)) [
  | inl left ↦ rw left (tries-left is_notify v call handle filter_asked whole room known)
  | inr here ↦ rw here (subst (λ (asked : What). Says is_notify (notices_asked v call (Ask (Notify handle filter_asked whole room)) (try_what v turn call.client call.number asked)) v.ended
      ((volume_after (try_what v turn call.client call.number asked)).ended ++ own_end call (try_what v turn call.client call.number asked))) (sym is)
      (tries-notify is_notify v call handle filter_asked whole room known))
]
tries-what is_notify v call turn _ tells is known = tries-other is_notify v call (try v call turn) tells known (Quiet.ended (try-quiet v call turn (rw is refl)))

-- any call that is known as what it is
pub says-try : (is_notify : ℕ → ℕ → Bool) (v : Volume) (call : Call) (turn : ℕ) → Tells is_notify v → is_notify call.client call.number ≡ asks_report call.what
    → Says is_notify (notices_asked v call call.what (try v call turn)) v.ended ((volume_after (try v call turn)).ended ++ own_end call (try v call turn))
says-try is_notify v call turn tells known = tries-what is_notify v call turn call.what tells refl known
