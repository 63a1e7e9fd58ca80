-- Just those calls end with STALLED that are waits, pending where all clients wait, once all is taken up that is ready.
use Rattle.std.proofs.Common.{◌≡◌, ℕ, Bool, true, false, List, [], ◌∷◌, refl, ap, sym, ◌∙◌, inl, inr}
use Rattle.std.specs.List.{filter, list_any}
use Rattle.std.specs.Prelude.{◌&&◌, ◌||◌}
use Rattle.std.proofs.lemmas.Bool.{cases_Bool}
use Rattle.std.proofs.lemmas.List.Folds.{list_any-append}
use Rattle.fsa_types.specs.declared.reply.Body.TheVariants.{Nothing}
use Rattle.fsa_types.specs.declared.reply.EndOf.{EndOf}
use Rattle.fsa_types.specs.declared.status.Status.TheVariants.{Stalled}
use Rattle.fsa_model.specs.Close.{with_calls_ended}
use Rattle.fsa_model.specs.Edits.{is_call, with_end}
use Rattle.fsa_model.specs.Engine.{own_tried}
use Rattle.fsa_model.specs.History.{HistoryEntry}
use Rattle.fsa_model.specs.Once.{is_end}
use Rattle.fsa_model.specs.Setup.{Setup}
use Rattle.fsa_model.specs.Starving.{is_stalled}
use Rattle.fsa_model.specs.Turn.{settlement}
use Rattle.fsa_model.specs.Volume.{Pending, Volume}
use Rattle.fsa_model.specs.Waiting.{all_wait, is_wait, waits_in_order, with_stalled}
use Rattle.fsa_model.proofs.CoherenceLaws.{any-in_order}
use Rattle.fsa_model.proofs.CountLaws.{and_right}
use Rattle.fsa_model.proofs.RowLaws.{any-weaker, or-false}
use Rattle.history_laws.specs.WaitEnds.{StallsExactly, has_stalled, is_pending_wait, all_taken_up, stalls_in}
use Rattle.history_laws.proofs.AnyLaws.{any-filter_and}
use Rattle.history_laws.proofs.SettlePlain.{EndsUnstalled, is_stalled_end, own-unstalled, taken_up-unstalled}

module _ (who number : ℕ) where
  abbrev ends_stalled : EndOf → Bool
  ends_stalled end = is_end who number end && is_stalled end.reply.status

  -- where only other ends are added
  stalled-same : (v w : Volume) → EndsUnstalled v w → has_stalled w who number ≡ has_stalled v who number
  stalled-same v w ends = ap (list_any ends_stalled) ends.is ∙ list_any-append ends_stalled v.ended ends.more ∙ ap (λ b. has_stalled v who number || b) others ∙ or-false (has_stalled v who number)
    where
      others : list_any ends_stalled ends.more ≡ false
      others = elim (cases_Bool (list_any ends_stalled ends.more)) [
        | inr none ↦ none
        | inl some ↦ absurd (let any : list_any is_stalled_end ends.more ≡ true
            = any-weaker ends_stalled is_stalled_end ends.more (λ end both. and_right (is_end who number end) (is_stalled end.reply.status) both) some in
            let none = ends.none in cc)
      ]

  -- ---- the last of a settlement

  stalled-calls : (calls : List (ℕ × Pending)) (v : Volume) → has_stalled (with_calls_ended (λ _. Stalled) calls v) who number ≡ (has_stalled v who number || list_any (λ e. is_call who number e.1) calls)
  stalled-calls [] v = sym (or-false (has_stalled v who number))
  stalled-calls (entry ∷ calls) v =
      stalled-calls calls (with_end v entry.1.call.client entry.1.call.number (record { status = Stalled; body = Nothing }))
      ∙ rw (list_any-append ends_stalled v.ended (record { client = entry.1.call.client; number = entry.1.call.number; reply = record { status = Stalled; body = Nothing } } ∷ []))
      (grouped (has_stalled v who number) (is_call who number entry.1) (list_any (λ e. is_call who number e.1) calls))
    where
      grouped : (a b c : Bool) → ((a || ((b && true) || false)) || c) ≡ (a || (b || c))
      grouped true b c = refl
      grouped false true c = refl
      grouped false false c = refl

  stalled-last : (v : Volume) → has_stalled (with_stalled v) who number ≡ (has_stalled v who number || (all_wait v && is_pending_wait v who number))
  stalled-last v = elim (cases_Bool (all_wait v)) [
    | inr some ↦ rw some (sym (or-false (has_stalled v who number)))
    | inl all ↦ rw all (stalled-calls (waits_in_order v) v ∙ ap (λ b. has_stalled v who number || b)
        (any-in_order (λ (e : ℕ × Pending). is_call who number e.1) _ (filter (λ (e : ℕ × Pending). is_wait e.1.call.what) v.pending)
        ∙ any-filter_and (λ (e : ℕ × Pending). is_call who number e.1) (λ e. is_wait e.1.call.what) v.pending))
  ]

  -- ---- a turn

  stalled-turn : (v : Volume) (entry : HistoryEntry) → has_stalled (settlement v entry.call entry.starved).volume who number ≡ (has_stalled v who number || stalls_in v entry who number)
  stalled-turn v entry =
      stalled-last (all_taken_up v entry)
      ∙ ap (λ b. b || stalls_in v entry who number)
      (stalled-same (own_tried v entry.call) (all_taken_up v entry) (taken_up-unstalled (own_tried v entry.call) entry.starved) ∙ stalled-same v (own_tried v entry.call) (own-unstalled v entry.call))

pub waits-stall : (setup : Setup) (history : List HistoryEntry) → StallsExactly setup history
waits-stall setup history front later entry r client number is runs = stalled-turn client number r.volume entry
