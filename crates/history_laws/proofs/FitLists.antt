-- Lists of changes that fit a volume, whatever it is that makes a list fit: what no change asks of the volume fits it, and so do those
-- of a test, of what may be found, of a handle, and of a call, where each that there may be does. And what is true of an outcome, by a
-- test, and by what may be found.
use Rattle.std.proofs.Common.{◌≡◌, ℕ, Bool, true, false, List, [], refl, Option, Some, None}
use Rattle.std.specs.Option.{option_map_or}
use Rattle.std.specs.Prelude.{if◌then◌else◌}
use Rattle.fsa_types.specs.Rows.{row_of}
use Rattle.fsa_types.specs.declared.reply.Body.{Body}
use Rattle.fsa_types.specs.declared.request.What.{What}
use Rattle.fsa_types.specs.declared.status.Status.{Status}
use Rattle.fsa_types.specs.declared.status.Status.TheVariants.{Success}
use Rattle.fsa_model.specs.Lookups.{file_of_link, handle_of}
use Rattle.fsa_model.specs.Outcome.{Outcome, Done, Stay, Hold}
use Rattle.fsa_model.specs.Volume.{Handle, Volume}
use Rattle.history_laws.specs.TreeChanges.{TreeChange, by_handle, changes_asked, changes_of, of_file, where_success}

-- an outcome, by a test, and by what may be found
module _ (P : Outcome → Type 0) where
  pub by-if : (test : Bool) (one other : Outcome) → (test ≡ true → P one) → (test ≡ false → P other) → P (if test then one else other)
  by-if true one other holds fails = holds refl
  by-if false one other holds fails = fails refl

  pub by-option : {T : Type 0} (found : Option T) (some : T → Outcome) (none : Outcome) → ((item : T) → found ≡ Some item → P (some item)) → (found ≡ None → P none)
      → P (option_map_or some found none)
  by-option None some none there missing = missing refl
  by-option (Some item) some none there missing = there item refl

-- a list of changes
module _ (Fit : Volume → List TreeChange → Type 0) where
  pub fit-option : {T : Type 0} (v : Volume) (found : Option T) (some : T → List TreeChange) (none : List TreeChange) → ((item : T) → found ≡ Some item → Fit v (some item)) → Fit v none
      → Fit v (option_map_or some found none)
  fit-option v None some none there missing = missing
  fit-option v (Some item) some none there missing = there item refl

  pub fit-if : (v : Volume) (test : Bool) (one other : List TreeChange) → Fit v one → Fit v other → Fit v (if test then one else other)
  fit-if v true one other first second = first
  fit-if v false one other first second = second

  module _ (nothing : (v : Volume) → Fit v []) where
    pub fit-where : (v : Volume) (status : Status) (changes : List TreeChange) → Fit v changes → Fit v (where_success status changes)
    fit-where v Success changes fits = fits
    fit-where v _ changes fits = nothing v

    pub fit-by_handle : (v : Volume) (client number : ℕ) (changes : ℕ → Handle → List TreeChange) → ((id : ℕ) (handle : Handle) → row_of v.handles id ≡ Some handle → Fit v (changes id handle))
        → Fit v (by_handle v client number changes)
    fit-by_handle v client number changes each =
        fit-option v (handle_of v client number) _ [] (λ id found. fit-option v (row_of v.handles id) (changes id) [] (λ handle row. each id handle row) (nothing v)) (nothing v)

    pub fit-of_file : (v : Volume) (handle : Handle) (changes : ℕ → List TreeChange) → ((file : ℕ) → Fit v (changes file)) → Fit v (of_file v handle changes)
    fit-of_file v handle changes each = fit-option v (file_of_link v.links handle.link) changes [] (λ file found. each file) (nothing v)

    pub fit-of : (v : Volume) (client number : ℕ) (what : What) (outcome : Outcome) → ((body : Body) → Fit v (changes_asked v client number what body)) → Fit v (changes_of v client number what outcome)
    fit-of v client number what (Done w reply) each = fit-where v reply.status (changes_asked v client number what reply.body) (each reply.body)
    fit-of v client number what (Stay w interim) each = nothing v
    fit-of v client number what (Hold w blockers interim) each = nothing v
