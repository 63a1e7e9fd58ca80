-- Each try keeps a volume tidy: nothing is left over, and links, streams and handles are numbered.
use Rattle.std.proofs.Common.{◌≡◌, ℕ, suc, ◌≤◌, Bool, true, false, ◌==◌, List, [], ◌∷◌, get_or, refl, sym, ap, subst, ◌∙◌, arith, inl, inr, Option, Some, None, eq-eqb}
use Rattle.std.specs.List.{list_any}
use Rattle.std.specs.Option.{option_map_or}
use Rattle.std.specs.Prelude.{All, AllPairs, find, is_some, nat_lt}
use Rattle.std.proofs.lemmas.Bool.{cases_Bool, eqb-true}
use Rattle.std.proofs.lemmas.List.Elements.{All-filter}
use Rattle.fsa_types.specs.Rows.{IsNumbered, lives, row_of}
use Rattle.fsa_types.proofs.OplockLemmas.{All-in_order}
use Rattle.fsa_types.specs.declared.request.Call.{Call}
use Rattle.fsa_types.specs.declared.request.Request.TheVariants as request
use Rattle.fsa_types.specs.declared.request.What.{What}
use Rattle.fsa_types.specs.declared.request.What.TheVariants.{Ask, Leave}
use Rattle.fsa_types.specs.declared.status.Status.TheVariants.{Cancelled, InvalidHandle, Success}
use Rattle.fsa_model.specs.Close.{close_at, handles_of_client, is_left_behind, pending_by_turn, try_close, try_leave, with_all_closed, with_calls_ended, with_client_gone, with_closed}
use Rattle.fsa_model.specs.Coherence.{IsTied, has_living_stream, is_under_link}
use Rattle.fsa_model.specs.Once.{how_many}
use Rattle.fsa_model.specs.Lookups.{handle_of, has_left, has_row, is_open_by, is_open_on, linked_file}
use Rattle.fsa_model.specs.Outcome.{Outcome, ends_with, refused}
use Rattle.fsa_model.specs.Settling.{is_of}
use Rattle.fsa_model.specs.Try.{try, try_what}
use Rattle.fsa_model.specs.Turn.{volume_after}
use Rattle.fsa_model.specs.Volume.{Handle, Oplock, Volume}
use Rattle.fsa_model.proofs.CoherenceTries.{IsCoherent-try}
use Rattle.fsa_model.proofs.CountLaws.{how_many-none}
use Rattle.fsa_model.proofs.RowLaws.{find-any, option_cases, row_of-all, row_of-here}
use Rattle.history_laws.specs.LeftOver.{NothingIsLeftOver}
use Rattle.history_laws.specs.TreeChanges.{LeavesChanges, changes_of, with_tree_changes}
use Rattle.history_laws.proofs.FitLists.{fit-of}
use Rattle.history_laws.proofs.OpenedStay.{KeepsOpen, what-keeps_open}
use Rattle.history_laws.proofs.OpensStay.{closes_handles, what-stays_open}
use Rattle.history_laws.proofs.OverChanges.{Over, Over-same}
use Rattle.history_laws.proofs.OverCloses.{AreOne, Tidy, TidyBut, TidyBut-calls_ended, all_closed-tidy, closed-tidy}
use Rattle.history_laws.proofs.OverTries.{FitAll, fit-asked, fit-link, is_link_request, nothing-fits, over-changes}
use Rattle.history_laws.proofs.TreeParts.{calls_ended-handles}
use Rattle.history_laws.proofs.TreeTries.{what-leaves}

-- ---- oplocks

none-any : {X : Type 0} (p : X → Bool) (xs : List X) → All (λ x. p x ≡ false) xs → list_any p xs ≡ false
none-any p [] none = refl
none-any p (x ∷ xs) none = rw (none 0 x (omega arith)) (none-any p xs (λ k d within. none (suc k) d (omega arith)))

pub one-each : (oplocks : List Oplock) → AllPairs (λ a b. (a.handle == b.handle) ≡ false) oplocks → (handle : ℕ) → how_many (is_of handle) oplocks ≤ 1
one-each [] differ handle = omega arith
one-each (oplock ∷ more) differ handle = elim (cases_Bool (oplock.handle == handle)) [
  | inl here ↦ (let none : list_any (is_of handle) more ≡ false = none-any (is_of handle) more (λ k d within. of-other (get_or more k d) here (differ 0 (suc k) d (omega arith) (omega arith))) in
      let few : how_many (is_of handle) more ≡ 0 = how_many-none (is_of handle) more none in rw here (omega arith))
  | inr other ↦ (let rest : how_many (is_of handle) more ≤ 1 = one-each more (λ j k d less within. differ (suc j) (suc k) d (omega arith) (omega arith)) handle in rw other (omega arith))
]
  where
    of-other : (later : Oplock) → (oplock.handle == handle) ≡ true → (oplock.handle == later.handle) ≡ false → (later.handle == handle) ≡ false
    of-other later here differs = elim (cases_Bool (later.handle == handle)) [
      | inr apart ↦ apart
      | inl same ↦ (let first : oplock.handle ≡ handle = eqb-true oplock.handle handle here in let second : later.handle ≡ handle = eqb-true later.handle handle same in
          let equal : (oplock.handle == later.handle) ≡ true = eq-eqb oplock.handle later.handle (first ∙ sym second) in
          let impossible : true ≡ false = sym equal ∙ differs in cc)
    ]

-- ---- closes

-- handles that are numbered are one of each number
one-found : (v : Volume) (id : ℕ) (handle : Handle) → IsNumbered v.handles v.last_handle → row_of v.handles id ≡ Some handle → AreOne id handle v.handles
one-found v id handle numbered is k d within same =
    let here : row_of v.handles (get_or v.handles k d).0 ≡ Some (get_or v.handles k d).1 = row_of-here v.handles v.last_handle k d numbered within in
    let there : row_of v.handles id ≡ Some (get_or v.handles k d).1 = rw (eqb-true (get_or v.handles k d).0 id same) at here in
    (let equal : Some handle ≡ Some (get_or v.handles k d).1 = sym is ∙ there in cc)

Tidy-calls_ended : (v : Volume) (client : ℕ) → Tidy v → Tidy (with_calls_ended (λ _. Cancelled) (pending_by_turn (is_left_behind client) v) v)
Tidy-calls_ended v client tidy =
    let calls = pending_by_turn (is_left_behind client) v in
    let after : TidyBut (λ l. has_row (is_open_by l) v.handles) (λ s. has_row (is_open_on s) v.handles) (with_calls_ended (λ _. Cancelled) calls v)
    = TidyBut-calls_ended (λ l. has_row (is_open_by l) v.handles) (λ s. has_row (is_open_on s) v.handles) (λ _. Cancelled) calls v
    (record {
      over = record { marked_links = tidy.over.marked_links; marked_streams = tidy.over.marked_streams; files = tidy.over.files; links = tidy.over.links; streams = tidy.over.streams };
      links = tidy.links;
      streams = tidy.streams;
      handles = tidy.handles;
    }) in
    let same = calls_ended-handles (λ _. Cancelled) calls v in
    record {
      over = record {
        marked_links = λ k d within marked. rw same (after.over.marked_links k d within marked);
        marked_streams = λ k d within marked. rw same (after.over.marked_streams k d within marked);
        files = after.over.files;
        links = after.over.links;
        streams = after.over.streams;
      };
      links = after.links;
      streams = after.streams;
      handles = after.handles;
    }

close-tidy : (v : Volume) (client handle : ℕ) → Tidy v → Tidy (volume_after (try_close v client handle))
unfolding try_close close_at
close-tidy v client handle tidy = of_id (handle_of v client handle)
  where
    of_row : (id : ℕ) (row : Option Handle) → row_of v.handles id ≡ row → Tidy (volume_after (option_map_or (λ held. ends_with (with_closed v id held) Success) row (refused v InvalidHandle)))
    of_row id None none = tidy
    of_row id (Some row) is = closed-tidy v id row (one-found v id row tidy.handles is) tidy

    of_id : (id : Option ℕ) → Tidy (volume_after (option_map_or (λ held. close_at v held) id (refused v InvalidHandle)))
    of_id None = tidy
    of_id (Some id) = of_row id (row_of v.handles id) refl

leave-tidy : (v : Volume) (client : ℕ) → Tidy v → Tidy (volume_after (try_leave v client))
unfolding try_leave with_client_gone
leave-tidy v client tidy =
    (let gone : Tidy (with_all_closed (handles_of_client v client) ended) = all_closed-tidy (handles_of_client v client) ended each (Tidy-calls_ended v client tidy) in record {
      over = record {
        marked_links = gone.over.marked_links;
        marked_streams = gone.over.marked_streams;
        files = gone.over.files;
        links = gone.over.links;
        streams = gone.over.streams;
      };
      links = gone.links;
      streams = gone.streams;
      handles = gone.handles;
    })
  where
    ended : Volume
    ended = with_calls_ended (λ _. Cancelled) (pending_by_turn (is_left_behind client) v) v

    own : ℕ × Handle → Type 0
    own entry = AreOne entry.0 entry.1 v.handles

    all_own : All own v.handles
    all_own k d within = one-found v (get_or v.handles k d).0 (get_or v.handles k d).1 tidy.handles (row_of-here v.handles v.last_handle k d tidy.handles within)

    each : All (λ entry. AreOne entry.0 entry.1 ended.handles) (handles_of_client v client)
    each = subst (λ rows. All (λ (entry : ℕ × Handle). AreOne entry.0 entry.1 rows) (handles_of_client v client)) (sym (calls_ended-handles (λ _. Cancelled) (pending_by_turn (is_left_behind client) v) v))
        (All-in_order own (λ a b. nat_lt a.1.number b.1.number) _ (All-filter (λ (entry : ℕ × Handle). entry.1.client == client) own v.handles all_own))

-- ---- calls that close nothing

held-by : (v : Volume) (id : ℕ) (handle : Handle) → row_of v.handles id ≡ Some handle
    → (has_row (is_open_by handle.link) v.handles ≡ true) × ((s : ℕ) → handle.stream ≡ Some s → has_row (is_open_on s) v.handles ≡ true)
held-by v id handle is = (found (is_open_by handle.link) (eq-eqb handle.link handle.link refl), λ s there. found (is_open_on s) (rw there (eq-eqb s s refl)))
  where
    found : (test : Handle → Bool) → test handle ≡ true → has_row test v.handles ≡ true
    found test passes = elim (option_cases (find (λ (entry : ℕ × Handle). entry.0 == id) v.handles)) [
      | inl none ↦ (let impossible : None ≡ Some handle = rw none at is in cc)
      | inr some ↦ (let row : Some some.0.1 ≡ Some handle = rw some.1 at is in let same : some.0.1 ≡ handle = cc in
          find-any (λ (entry : ℕ × Handle). entry.0 == id) (λ entry. test entry.1) v.handles some.0 some.1 (ap test same ∙ passes))
    ]

-- a handle's stream has a link that is there, and its file too
linked-there : (v : Volume) → IsTied v → Tidy v → (id : ℕ) (row : Handle) → row_of v.handles id ≡ Some row → is_some row.stream ≡ true → lives v.files (linked_file v row.link) ≡ true
linked-there v tied tidy id row is some = elim (option_cases row.stream) [
  | inl none ↦ (let impossible : false ≡ true = rw none at some in cc)
  | inr stream ↦ (let living : has_living_stream v.links v.streams row ≡ true = row_of-all (λ row. has_living_stream v.links v.streams row ≡ true) v.handles id row is tied.streams_live in
      let here : option_map_or (is_under_link v.links row.link) (row_of v.streams stream.0) false ≡ true = rw stream.1 at living in
      elim (option_cases (row_of v.streams stream.0)) [
        | inl none ↦ (let impossible : false ≡ true = rw none at here in cc)
        | inr its ↦ (let under : is_under_link v.links row.link its.0 ≡ true = rw its.1 at here in
            elim (option_cases (row_of v.links row.link)) [
              | inl none ↦ (let impossible : false ≡ true = rw none at under in cc)
              | inr link ↦ rw link.1 (row_of-all (λ row. lives v.files row.file ≡ true) v.links row.link link.0 link.1 tidy.over.links)
            ])
      ])
]

what-over : (v : Volume) (turn client number : ℕ) (what : What) → closes_handles what ≡ false → IsTied v → Tidy v → NothingIsLeftOver (volume_after (try_what v turn client number what))
what-over v turn client number what closes tied tidy = after (try_what v turn client number what) (what-leaves v turn client number what tied) (fits what closes) (what-keeps_open v turn client number what closes)
  where
    by : ℕ → Bool
    by l = has_row (is_open_by l) v.handles

    on : ℕ → Bool
    on s = has_row (is_open_on s) v.handles

    start : Over by on v
    start = record { marked_links = tidy.over.marked_links; marked_streams = tidy.over.marked_streams; files = tidy.over.files; links = tidy.over.links; streams = tidy.over.streams }

    other : (what : What) → closes_handles what ≡ false → is_link_request what ≡ false → FitAll by on v (changes_of v client number what (try_what v turn client number what))
    other what closes links = fit-of (FitAll by on) (nothing-fits by on) v client number what (try_what v turn client number what) (λ body. fit-asked by on v client number what body closes links tidy.links tidy.over.links (held-by v))

    fits : (what : What) → closes_handles what ≡ false → FitAll by on v (changes_of v client number what (try_what v turn client number what))
    fits (Ask (request.Link handle path replace)) closes = fit-link by on v client number handle path replace tidy.links (linked-there v tied tidy)
    fits what closes = other what closes refl

    after : (outcome : Outcome) → LeavesChanges v client number what outcome → FitAll by on v (changes_of v client number what outcome) → KeepsOpen v (volume_after outcome) → NothingIsLeftOver (volume_after outcome)
    after outcome same fit keeps =
        let over : Over by on (volume_after outcome)
        = Over-same by on (with_tree_changes v (changes_of v client number what outcome)) (volume_after outcome) same.files same.links same.streams
        (over-changes by on (changes_of v client number what outcome) v fit start) in
        record {
          marked_links = λ k d within marked. keeps.by (get_or (volume_after outcome).links k d).0 (over.marked_links k d within marked);
          marked_streams = λ k d within marked. keeps.on (get_or (volume_after outcome).streams k d).0 (over.marked_streams k d within marked);
          files = over.files;
          links = over.links;
          streams = over.streams;
        }

-- ---- any try

pub try-tidy : (v : Volume) (call : Call) (turn : ℕ) → IsTied v → Tidy v → Tidy (volume_after (try v call turn))
try-tidy v call turn tied tidy = elim (cases_Bool (has_left v call.client)) [
  | inl left ↦ rw left tidy
  | inr here ↦ (let next : IsTied (volume_after (try v call turn)) = (IsCoherent-try v call turn tied).tied in
      rw here (by_what call.what (rw here at next)))
]
  where
    by_what : (what : What) → IsTied (volume_after (try_what v turn call.client call.number what)) → Tidy (volume_after (try_what v turn call.client call.number what))
    by_what (Ask (request.Close handle)) next = close-tidy v call.client handle tidy
    by_what Leave next = leave-tidy v call.client tidy
    by_what what next = record {
      over = what-over v turn call.client call.number what refl tied tidy;
      links = next.links_numbered;
      streams = next.streams_numbered;
      handles = (what-stays_open v turn call.client call.number what (one-each v.oplocks tied.oplocks_differ) refl).numbered tidy.handles;
    }
