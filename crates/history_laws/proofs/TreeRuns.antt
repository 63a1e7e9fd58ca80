-- What every try of a history keeps: links and streams are tied, the volume is tidy, and the tree is sound and well formed. Between two tries nothing changes of files,
-- links and streams, nor of what is noted.
use Rattle.std.proofs.Common.{◌≡◌, ℕ, zero, suc, ◌==◌, true, false, List, [], ◌∷◌, ◌++◌, get_or, length, refl, sym, subst, ◌∙◌, arith, Some, None, inl, inr}
use Rattle.std.proofs.lemmas.List.Elements.{All-append, All-cons, All-nil}
use Rattle.std.specs.Prelude.{All, ◌&&◌, nat_le}
use Rattle.std.proofs.lemmas.Bool.{cases_Bool}
use Rattle.fsa_types.specs.declared.request.Call.{Call}
use Rattle.fsa_types.specs.declared.request.CallId.{CallId}
use Rattle.fsa_types.specs.declared.request.Request.TheVariants.{Notify}
use Rattle.fsa_types.specs.declared.request.What.{What}
use Rattle.fsa_types.specs.declared.request.What.TheVariants.{Ask}
use Rattle.fsa_types.specs.declared.status.Status.TheVariants.{Stalled}
use Rattle.fsa_model.specs.Engine.{own_tried}
use Rattle.fsa_types.specs.Rows.{IsNumbered}
use Rattle.fsa_model.specs.Coherence.{IsTied}
use Rattle.fsa_types.specs.declared.reply.Body.TheVariants.{Nothing}
use Rattle.fsa_types.specs.declared.status.Status.{Status}
use Rattle.fsa_model.specs.Close.{with_calls_ended}
use Rattle.fsa_model.specs.Edits.{with_end}
use Rattle.fsa_model.specs.History.{HistoryEntry, Run, begun, steps, turn_on}
use Rattle.fsa_model.specs.Lookups.{handle_of, has_row}
use Rattle.fsa_model.specs.Outcome.{Outcome, Done, Stay, Hold}
use Rattle.fsa_model.specs.Settle.{Settling, come_over, repeated, reported, settle_step, starves, taken_up, taken_up_all, with_tried}
use Rattle.fsa_model.specs.Setup.{Setup}
use Rattle.fsa_model.specs.Tries.{Tried, left_by, tried_in, tries_from, tries_of, tries_of_steps, tries_of_turn}
use Rattle.fsa_model.specs.Try.{try}
use Rattle.fsa_model.specs.Turn.{answered, settlement, turn_number, volume_after}
use Rattle.fsa_model.specs.Volume.{File, Link, Pending, Volume, root}
use Rattle.fsa_model.specs.Waiting.{all_wait, is_held, next_ready, waits_in_order, with_stalled}
use Rattle.fsa_model.specs.Watching.{due_size}
use Rattle.fsa_model.proofs.CoherenceRuns.{turn_on-settled}
use Rattle.fsa_model.proofs.CoherenceData.{IsUntouched-next}
use Rattle.fsa_model.proofs.CoherenceTied.{IsTied-alike, IsUntouched}
use Rattle.fsa_model.proofs.CoherenceTries.{IsCoherent-try, IsTied-fresh}
use Rattle.fsa_model.proofs.RowLaws.{option_cases}
use Rattle.fsa_model.proofs.SettleLaws.{some_equal}
use Rattle.history_laws.specs.EachVolume.{HoldsAround, HoldsOfEachVolume}
use Rattle.history_laws.specs.LeftOver.{NothingIsLeftOver}
use Rattle.history_laws.specs.TreeChanges.{LeadTree, SameTree, TreeChangesAsAsked}
use Rattle.history_laws.specs.WellFormed.{IsWellFormed}
use Rattle.history_laws.proofs.FormedKinds.{Formed, formed-same}
use Rattle.history_laws.proofs.FormedTries.{formed-fresh, try-formed}
use Rattle.history_laws.proofs.OverCloses.{Tidy}
use Rattle.fsa_model.proofs.SoundLaws.{IsSoundTree-fresh}
use Rattle.fsa_model.specs.Sound.{IsSoundTree}
use Rattle.history_laws.proofs.SoundKinds.{IsSoundTree-same}
use Rattle.history_laws.proofs.SoundTries.{try-sound}
use Rattle.history_laws.proofs.TidyTries.{try-tidy}
use Rattle.history_laws.proofs.TreeParts.{SameTree-next, SameTree-same}
use Rattle.history_laws.proofs.TreeTries.{try-leaves}

-- ---- tries, one after another

LeadTree-after : (tries : List Tried) (u v w : Volume) → SameTree u v → LeadTree tries v w → LeadTree tries u w
LeadTree-after [] u v w same lead = SameTree-next u v w same lead
LeadTree-after (t ∷ more) u v w same lead = (SameTree-next u v t.before same lead.0, lead.1)

LeadTree-then : (tries : List Tried) (u v w : Volume) → LeadTree tries u v → SameTree v w → LeadTree tries u w
LeadTree-then [] u v w lead same = SameTree-next u v w lead same
LeadTree-then (t ∷ more) u v w lead same = (lead.0, LeadTree-then more (left_by t) v w lead.1 same)

LeadTree-next : (first second : List Tried) (u v w : Volume) → LeadTree first u v → LeadTree second v w → LeadTree (first ++ second) u w
LeadTree-next [] second u v w one two = LeadTree-after second u v w one two
LeadTree-next (t ∷ more) second u v w one two = (one.0, LeadTree-next more second (left_by t) v w one.1 two)

-- ---- what is kept

pub record Holds (v : Volume) : Type 0 where
  pub tied : IsTied v
  pub tidy : Tidy v
  pub sound : IsSoundTree v
  pub formed : Formed v

-- nothing that counts here changes
record Unmoved (v w : Volume) : Type 0 where
  untouched : IsUntouched v w
  tree : SameTree v w
  last_handle : w.last_handle ≡ v.last_handle

Unmoved-next : (u v w : Volume) → Unmoved u v → Unmoved v w → Unmoved u w
Unmoved-next u v w one two = record {
  untouched = IsUntouched-next u v w one.untouched two.untouched;
  tree = SameTree-next u v w one.tree two.tree;
  last_handle = two.last_handle ∙ one.last_handle;
}

-- but calls that are pending, ends and watches
abbrev rest_of : Volume → Volume → Volume
rest_of v w = record v { pending = w.pending; ended = w.ended; watches = w.watches }

Unmoved-rest : (v w : Volume) → w ≡ rest_of v w → Unmoved v w
Unmoved-rest v w is = subst (λ (u : Volume). Unmoved v u) (sym is) (record {
  untouched = record { oplocks = refl; handles = refl; links = refl; streams = refl; last_link = refl; last_stream = refl; root = λ root. root };
  tree = record { table = refl; files = refl; links = refl; streams = refl; last_file = refl; last_link = refl; last_stream = refl; changes = refl };
  last_handle = refl;
})

Holds-unmoved : (v w : Volume) → Unmoved v w → Holds v → Holds w
Holds-unmoved v w same holds = record {
  tied = IsTied-alike v w same.untouched holds.tied;
  tidy = record {
    over = record {
      marked_links = rw (same.tree.links, same.untouched.handles) holds.tidy.over.marked_links;
      marked_streams = rw (same.tree.streams, same.untouched.handles) holds.tidy.over.marked_streams;
      files = rw (same.tree.files, same.tree.links) holds.tidy.over.files;
      links = rw (same.tree.files, same.tree.links) holds.tidy.over.links;
      streams = rw (same.tree.files, same.tree.streams) holds.tidy.over.streams;
    };
    links = rw (same.tree.links, same.tree.last_link) holds.tidy.links;
    streams = rw (same.tree.streams, same.tree.last_stream) holds.tidy.streams;
    handles = rw (same.untouched.handles, same.last_handle) holds.tidy.handles;
  };
  sound = IsSoundTree-same v w same.tree.table same.tree.files same.tree.links same.tree.streams same.untouched.handles same.tree.last_file same.tree.last_link same.tree.last_stream same.last_handle holds.sound;
  formed = formed-same v w same.tree.files same.tree.links same.tree.streams same.tree.last_stream holds.formed;
}

Holds-try : (v : Volume) (call : Call) (turn : ℕ) → Holds v → Holds (volume_after (try v call turn))
Holds-try v call turn holds = record {
  tied = (IsCoherent-try v call turn holds.tied).tied;
  tidy = try-tidy v call turn holds.tied holds.tidy;
  sound = try-sound v call turn holds.tied holds.sound;
  formed = try-formed v call turn holds.tied holds.sound holds.formed;
}

-- ---- tries that lead from one volume to another

record LeadsTo (tries : List Tried) (v w : Volume) : Type 0 where
  keeps : Holds v → Holds w
  all : Holds v → All (HoldsAround Holds) tries
  lead : LeadTree tries v w

LeadsTo-none : (v w : Volume) → Unmoved v w → LeadsTo [] v w
LeadsTo-none v w same = record { keeps = Holds-unmoved v w same; all = λ holds. All-nil (HoldsAround Holds); lead = same.tree }

LeadsTo-same : (v : Volume) → LeadsTo [] v v
LeadsTo-same v = LeadsTo-none v v (Unmoved-rest v v refl)

LeadsTo-try : (v : Volume) (call : Call) (turn : ℕ) → LeadsTo (record { before = v; call = call; turn = turn } ∷ []) v (volume_after (try v call turn))
LeadsTo-try v call turn = record {
  keeps = Holds-try v call turn;
  all = λ holds. All-cons (HoldsAround Holds) (record { before = v; call = call; turn = turn }) []
      (record { before = holds; after = Holds-try v call turn holds }) (All-nil (HoldsAround Holds));
  lead = (SameTree-same v, SameTree-same (volume_after (try v call turn)));
}

LeadsTo-next : (first second : List Tried) (u v w : Volume) → LeadsTo first u v → LeadsTo second v w → LeadsTo (first ++ second) u w
LeadsTo-next first second u v w one two = record {
  keeps = λ holds. two.keeps (one.keeps holds);
  all = λ holds. All-append (HoldsAround Holds) first second (one.all holds) (two.all (one.keeps holds));
  lead = LeadTree-next first second u v w one.lead two.lead;
}

LeadsTo-then : (tries : List Tried) (u v w : Volume) → LeadsTo tries u v → Unmoved v w → LeadsTo tries u w
LeadsTo-then tries u v w one same = record {
  keeps = λ holds. Holds-unmoved v w same (one.keeps holds);
  all = one.all;
  lead = LeadTree-then tries u v w one.lead same.tree;
}

-- ---- what a turn does besides its tries

unmoved-tried : (turn : ℕ) (pending : Pending) (outcome : Outcome) → Unmoved (volume_after outcome) (with_tried turn pending outcome)
unmoved-tried turn pending (Done v reply) = Unmoved-rest v _ refl
unmoved-tried turn pending (Stay v interim) = Unmoved-rest v _ refl
unmoved-tried turn pending (Hold v blockers interim) = Unmoved-rest v _ refl

unmoved-answered : (call : Call) (turn : ℕ) (outcome : Outcome) → Unmoved (volume_after outcome) (answered call turn outcome)
unmoved-answered call turn (Done v reply) = Unmoved-rest v _ refl
unmoved-answered call turn (Stay v interim) = Unmoved-rest v _ refl
unmoved-answered call turn (Hold v blockers interim) = Unmoved-rest v _ refl

unmoved-reported : (s : Settling) (pending : Pending) (id room : ℕ) → Unmoved s.volume (reported s pending id room).volume
unmoved-reported s pending id room = elim (cases_Bool (starves s.starved pending && nat_le (due_size s.volume id) room)) [
  | inl starving ↦ rw starving (Unmoved-rest s.volume _ refl)
  | inr reports ↦ rw reports (Unmoved-rest s.volume _ refl)
]

unmoved-come : (s : Settling) (pending : Pending) (what : What) → Unmoved s.volume (come_over s pending what).volume
unmoved-come s pending (Ask (Notify handle filter tree room)) = elim (option_cases (handle_of s.volume pending.call.client handle)) [
  | inl none ↦ rw none (Unmoved-rest s.volume s.volume refl)
  | inr some ↦ rw some.1 (unmoved-reported s pending some.0 room)
]
unmoved-come s pending _ = Unmoved-rest s.volume _ refl

unmoved-calls_ended : (status_of : What → Status) (calls : List (ℕ × Pending)) (v : Volume) → Unmoved v (with_calls_ended status_of calls v)
unmoved-calls_ended status_of [] v = Unmoved-rest v v refl
unmoved-calls_ended status_of (entry ∷ calls) v =
    (let first : Volume = with_end v entry.1.call.client entry.1.call.number (record { status = status_of entry.1.call.what; body = Nothing }) in
    Unmoved-next v first (with_calls_ended status_of calls first) (Unmoved-rest v first refl) (unmoved-calls_ended status_of calls first))

unmoved-stalled : (v : Volume) → Unmoved v (with_stalled v)
unmoved-stalled v = elim (cases_Bool (all_wait v)) [
  | inl all ↦ rw all (unmoved-calls_ended (λ _. Stalled) (waits_in_order v) v)
  | inr some ↦ rw some (Unmoved-rest v v refl)
]

-- ---- the tries of a turn

LeadsTo-taken_up : (s : Settling) (entry : ℕ × Pending) → LeadsTo (tried_in s entry) s.volume (taken_up s entry).volume
LeadsTo-taken_up s entry = elim (cases_Bool (is_held entry.1)) [
  | inr waits ↦ rw waits (LeadsTo-none s.volume _ (unmoved-come s entry.1 entry.1.call.what))
  | inl held ↦ rw held (elim (cases_Bool (starves s.starved entry.1)) [
    | inl starving ↦ rw starving (LeadsTo-none s.volume _ (Unmoved-rest s.volume _ refl))
    | inr plenty ↦ rw plenty (LeadsTo-then (record { before = s.volume; call = entry.1.call; turn = entry.0 } ∷ []) s.volume (volume_after (try s.volume entry.1.call entry.0))
        (with_tried entry.0 entry.1 (try s.volume entry.1.call entry.0)) (LeadsTo-try s.volume entry.1.call entry.0) (unmoved-tried entry.0 entry.1 (try s.volume entry.1.call entry.0)))
  ])
]

LeadsTo-steps : (most : ℕ) (s : Settling) → LeadsTo (tries_of_steps most s) s.volume (repeated settle_step most s).volume
LeadsTo-steps zero s = LeadsTo-same s.volume
LeadsTo-steps (suc more) s = elim (option_cases (next_ready s.volume)) [
  | inl none ↦ rw none (LeadsTo-same s.volume)
  | inr some ↦ rw some.1 (LeadsTo-next (tried_in s some.0) (tries_of_steps more (taken_up s some.0)) s.volume (taken_up s some.0).volume _ (LeadsTo-taken_up s some.0) (LeadsTo-steps more (taken_up s some.0)))
]

LeadsTo-turn : (v : Volume) (call : Call) (starved : List CallId) → LeadsTo (tries_of_turn v call starved) v (settlement v call starved).volume
LeadsTo-turn v call starved =
    let own : Volume = own_tried v call in
    let start : Settling = record { volume = own; starved = starved; taken = [] } in
    let taken : Volume = (taken_up_all own starved).volume in
    LeadsTo-next (record { before = v; call = call; turn = turn_number v } ∷ []) (tries_of_steps (length own.pending) start) v own (settlement v call starved).volume
    (LeadsTo-then (record { before = v; call = call; turn = turn_number v } ∷ []) v (volume_after (try v call (turn_number v))) own (LeadsTo-try v call (turn_number v))
    (unmoved-answered call (turn_number v) (try v call (turn_number v))))
    (LeadsTo-then (tries_of_steps (length own.pending) start) own taken (with_stalled taken) (LeadsTo-steps (length own.pending) start) (unmoved-stalled taken))

-- ---- the tries of a run

LeadsTo-from : (history : List HistoryEntry) (r after : Run) → steps turn_on r history ≡ Some after → LeadsTo (tries_from r history) r.volume after.volume
LeadsTo-from [] r after is = subst (λ (x : Run). LeadsTo [] r.volume x.volume) (some_equal r after is) (LeadsTo-same r.volume)
LeadsTo-from (entry ∷ more) r after is = elim (option_cases (turn_on r entry)) [
  | inl none ↦ (let impossible : None ≡ Some after = rw none at is in cc)
  | inr some ↦ rw some.1 (LeadsTo-next (tries_of_turn r.volume entry.call entry.starved) (tries_from some.0 more) r.volume some.0.volume after.volume
      (subst (λ (w : Volume). LeadsTo (tries_of_turn r.volume entry.call entry.starved) r.volume w) (sym (turn_on-settled r entry some.0 some.1)) (LeadsTo-turn r.volume entry.call entry.starved))
      (LeadsTo-from more some.0 after (rw some.1 at is)))
]

-- also where there is no such turn
all-from : (history : List HistoryEntry) (r : Run) → Holds r.volume → All (HoldsAround Holds) (tries_from r history)
all-from [] r holds = All-nil (HoldsAround Holds)
all-from (entry ∷ more) r holds =
    let here : LeadsTo (tries_of_turn r.volume entry.call entry.starved) r.volume (settlement r.volume entry.call entry.starved).volume = LeadsTo-turn r.volume entry.call entry.starved in
    All-append (HoldsAround Holds) (tries_of_turn r.volume entry.call entry.starved) _ (here.all holds) (elim (option_cases (turn_on r entry)) [
      | inl none ↦ rw none (All-nil (HoldsAround Holds))
      | inr some ↦ rw some.1 (all-from more some.0 (subst (λ (w : Volume). Holds w) (sym (turn_on-settled r entry some.0 some.1)) (here.keeps holds)))
    ])

-- a fresh volume has the root alone
Holds-fresh : (setup : Setup) → Holds (begun setup).volume
Holds-fresh setup = record {
  tied = IsTied-fresh setup;
  tidy = record {
    over = record {
      marked_links = All-nil _;
      marked_streams = All-nil _;
      files = All-cons (λ (entry : ℕ × File). (entry.0 == 1) ≡ false → has_row (λ (link : Link). link.file == entry.0) [] ≡ true) (1, root) [] (λ other. cc) (All-nil _);
      links = All-nil _;
      streams = All-nil _;
    };
    links = numbered;
    streams = numbered;
    handles = numbered;
  };
  sound = IsSoundTree-fresh setup;
  formed = formed-fresh setup;
}
  where
    numbered : {R : Type 0} → IsNumbered {R = R} [] 0
    numbered = record { rising = λ j k d less within. absurd (omega arith); given = λ k d within. absurd (omega arith) }

-- ---- the laws

-- all of it holds of each volume
pub run-holds : (setup : Setup) (history : List HistoryEntry) → HoldsOfEachVolume Holds setup history
run-holds setup history = record {
  tries = all-from history (begun setup) (Holds-fresh setup);
  last = λ r is. LeadsTo.keeps (LeadsTo-from history (begun setup) r is) (Holds-fresh setup);
}

-- and so does what follows from it
part-holds : (part : Volume → Type 0) → ((v : Volume) → Holds v → part v) → (setup : Setup) (history : List HistoryEntry) → HoldsOfEachVolume part setup history
part-holds part of_all setup history =
    let holds : HoldsOfEachVolume Holds setup history = run-holds setup history in
    record {
      tries = λ k d within. (let t : Tried = get_or (tries_of setup history) k d in let around = holds.tries k d within in record { before = of_all t.before around.before; after = of_all (left_by t) around.after });
      last = λ r is. of_all r.volume (holds.last r is);
    }

pub run-leaves_nothing_over : (setup : Setup) (history : List HistoryEntry) → HoldsOfEachVolume NothingIsLeftOver setup history
run-leaves_nothing_over setup history = part-holds NothingIsLeftOver (λ v holds. holds.tidy.over) setup history

pub run-tree_stays_sound : (setup : Setup) (history : List HistoryEntry) → HoldsOfEachVolume IsSoundTree setup history
run-tree_stays_sound setup history = part-holds IsSoundTree (λ v holds. holds.sound) setup history

pub run-tree_stays_well_formed : (setup : Setup) (history : List HistoryEntry) → HoldsOfEachVolume IsWellFormed setup history
run-tree_stays_well_formed setup history = part-holds IsWellFormed (λ v holds. holds.formed.well) setup history

pub run-changes_as_asked : (setup : Setup) (history : List HistoryEntry) → TreeChangesAsAsked setup history
run-changes_as_asked setup history = record {
  tries = λ k d within. (let t : Tried = get_or (tries_of setup history) k d in try-leaves t.before t.call t.turn ((run-holds setup history).tries k d within).before.tied);
  between = λ r is. LeadsTo.lead (LeadsTo-from history (begun setup) r is);
}
