-- What a turn does besides its tries touches no oplock and no lock.
use Rattle.std.proofs.Common.{◌≡◌, ℕ, refl, inl, inr}
use Rattle.std.specs.Prelude.{◌&&◌, nat_le}
use Rattle.std.proofs.lemmas.Bool.{cases_Bool}
use Rattle.fsa_types.specs.declared.request.Call.{Call}
use Rattle.fsa_types.specs.declared.request.Request.TheVariants.{Notify}
use Rattle.fsa_types.specs.declared.request.What.{What}
use Rattle.fsa_types.specs.declared.request.What.TheVariants.{Ask}
use Rattle.fsa_types.specs.declared.status.Status.TheVariants.{Stalled}
use Rattle.fsa_model.specs.Lookups.{handle_of}
use Rattle.fsa_model.specs.Outcome.{Outcome, Done, Stay, Hold}
use Rattle.fsa_model.specs.Settle.{Settling, come_over, starves, with_tried}
use Rattle.fsa_model.specs.Turn.{answered, volume_after}
use Rattle.fsa_model.specs.Volume.{Pending, Volume}
use Rattle.fsa_model.specs.Waiting.{all_wait, waits_in_order, with_stalled}
use Rattle.fsa_model.specs.Watching.{due_size}
use Rattle.fsa_model.proofs.OnceLaws.{SameBlockers, blockers-calls_ended}
use Rattle.fsa_model.proofs.RowLaws.{option_cases}

same : {v w : Volume} → w.oplocks ≡ v.oplocks → w.locks ≡ v.locks → w.last_break ≡ v.last_break → w.last_lock ≡ v.last_lock → SameBlockers v w
same oplocks locks last_break last_lock = record { oplocks = oplocks; locks = locks; last_break = last_break; last_lock = last_lock }

pub blockers-answered : (call : Call) (turn : ℕ) (outcome : Outcome) → SameBlockers (volume_after outcome) (answered call turn outcome)
blockers-answered call turn (Done w reply) = same refl refl refl refl
blockers-answered call turn (Stay w interim) = same refl refl refl refl
blockers-answered call turn (Hold w blockers interim) = same refl refl refl refl

pub blockers-tried : (turn : ℕ) (pending : Pending) (outcome : Outcome) → SameBlockers (volume_after outcome) (with_tried turn pending outcome)
blockers-tried turn pending (Done w reply) = same refl refl refl refl
blockers-tried turn pending (Stay w interim) = same refl refl refl refl
blockers-tried turn pending (Hold w blockers interim) = same refl refl refl refl

pub blockers-come : (s : Settling) (pending : Pending) (what : What) → SameBlockers s.volume (come_over s pending what).volume
blockers-come s pending (Ask (Notify handle filter tree room)) = elim (option_cases (handle_of s.volume pending.call.client handle)) [
  | inl none ↦ rw none (same refl refl refl refl)
  | inr some ↦ rw some.1 (elim (cases_Bool (starves s.starved pending && nat_le (due_size s.volume some.0) room)) [ inl starving ↦ rw starving (same refl refl refl refl) | inr reports ↦ rw reports (same refl refl refl refl) ])
]
blockers-come s pending _ = same refl refl refl refl

pub blockers-stalled : (v : Volume) → SameBlockers v (with_stalled v)
blockers-stalled v = elim (cases_Bool (all_wait v)) [
  | inl all ↦ rw all (blockers-calls_ended (λ _. Stalled) (waits_in_order v) v)
  | inr some ↦ rw some (same refl refl refl refl)
]
