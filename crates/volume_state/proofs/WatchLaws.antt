-- Watches: a volume stays sound where one of them has reported; and what is answered for a report.
use Rattle.std.proofs.Common.{◌≡◌, ℕ, Bool, true, false, List, [], ◌∷◌, length, get_or, refl, inl, inr, Some, None}
use Rattle.std.specs.Prelude.{◌==◌, find, nat_le, All}
use Rattle.std.proofs.lemmas.Bool.{cases_Bool}
use Rattle.std.proofs.lemmas.List.Elements.{All-cons, All-map, All-nil}
use Rattle.fsa_types.specs.Rows.{lives}
use Rattle.fsa_model.specs.Sound.{IsSound}
use Rattle.fsa_model.specs.Volume.{Change, Volume, Watch}
use Rattle.fsa_model.specs.Watching.{begun_at, due, packed_changes, report, with_watch_seen}
use Rattle.fsa_model.proofs.RowLaws.{AllPairs-map}
use Rattle.notify_queue.specs.Due.{packed_within}
use Rattle.volume_state.specs.Reports.{reply_of}

pub none-passes : {X : Type 0} (p : X → Bool) (xs : List X) → find p xs ≡ None → All (λ x. p x ≡ false) xs
none-passes p [] none = All-nil (λ x. p x ≡ false)
none-passes p (x ∷ xs) none = elim (cases_Bool (p x)) [
  | inl passes ↦ (let found : Some x ≡ None = rw passes at none in cc)
  | inr fails ↦ All-cons (λ y. p y ≡ false) x xs fails (none-passes p xs (rw fails at none))
]

begun-handle : (handle place : ℕ) (watch : Watch) → (begun_at handle place watch).handle ≡ watch.handle
begun-handle handle place watch = elim (cases_Bool (watch.handle == handle)) [ inl is ↦ rw is refl | inr isnt ↦ rw isnt refl ]

pub IsSound-with_watch_seen : (v : Volume) (handle : ℕ) → IsSound v → IsSound (with_watch_seen v handle)
IsSound-with_watch_seen v handle sound =
    record {
      tree = sound.tree;
      opens = sound.opens;
      pending = sound.pending;
      clients = sound.clients;
      of_handles = record {
        locks_live = sound.of_handles.locks_live;
        oplocks_have_keys = sound.of_handles.oplocks_have_keys;
        watches_live = All-map (λ watch. lives v.handles watch.handle ≡ true) (begun_at handle (length v.changes)) v.watches
            (λ k d within. rw (begun-handle handle (length v.changes) (get_or v.watches k d)) (sound.of_handles.watches_live k d within));
        watches_differ = AllPairs-map (λ a b. (a.handle == b.handle) ≡ false) (begun_at handle (length v.changes)) v.watches
            (λ j k d below within. rw (begun-handle handle (length v.changes) (get_or v.watches j d), begun-handle handle (length v.changes) (get_or v.watches k d)) (sound.of_handles.watches_differ j k d below within));
      };
      files_numbered = sound.files_numbered;
      links_numbered = sound.links_numbered;
      streams_numbered = sound.streams_numbered;
      handles_numbered = sound.handles_numbered;
      locks_numbered = sound.locks_numbered;
      oplocks = sound.oplocks;
      blockers_given = sound.blockers_given;
      streams_fit = sound.streams_fit;
      points_fit = sound.points_fit;
      bounded = record { files = sound.bounded.files; links = sound.bounded.links; streams = sound.bounded.streams; handles = sound.bounded.handles; clock = sound.bounded.clock; locks = sound.bounded.locks; breaks = sound.bounded.breaks };
    }

pub IsSound-with_changes : (v : Volume) (changes : List Change) → IsSound v → IsSound (record v { changes = changes })
IsSound-with_changes v changes sound =
    record {
      tree = sound.tree;
      opens = sound.opens;
      pending = sound.pending;
      clients = sound.clients;
      of_handles = sound.of_handles;
      files_numbered = sound.files_numbered;
      links_numbered = sound.links_numbered;
      streams_numbered = sound.streams_numbered;
      handles_numbered = sound.handles_numbered;
      locks_numbered = sound.locks_numbered;
      oplocks = sound.oplocks;
      blockers_given = sound.blockers_given;
      streams_fit = sound.streams_fit;
      points_fit = sound.points_fit;
      bounded = record { files = sound.bounded.files; links = sound.bounded.links; streams = sound.bounded.streams; handles = sound.bounded.handles; clock = sound.bounded.clock; locks = sound.bounded.locks; breaks = sound.bounded.breaks };
    }

-- ---- what is answered

pub report-is : (v : Volume) (handle room : ℕ) → reply_of (packed_within (due v handle) room) ≡ report v handle room
report-is v handle room = elim (cases_Bool (nat_le (length (packed_changes (due v handle))) room)) [ inl fits ↦ rw fits refl | inr isnt ↦ rw isnt refl ]
