-- Opens worked by computation: names by case, by another case table, and of 255 units.
use Rattle.std.specs.Prelude.{◌≡◌, ℕ, List, [], ◌∷◌, ◌++◌, Some, None, replicate, codes, refl}
use Rattle.fsa_types.specs.declared.request.Disposition.TheVariants.{CreateNew}
use Rattle.fsa_types.specs.declared.reply.Action.TheVariants as action
use Rattle.fsa_types.specs.declared.status.Status.TheVariants.{Success, ObjectNameCollision, ObjectNameInvalid}
use Rattle.fsa_model.specs.Open.{try_create, create_at, create_walked, create_named, create_by_link, create_found, create_there, create_in_file, create_stream, create_on_stream, open_stream, open_directory, open_granted, overwrite_existing, open_existing, clashed, create_missing, make_file, make_directory, stopped}
use Rattle.fsa_model.specs.Volume.{Volume, fresh}
use Rattle.fsa_model.proofs.OpenExamples.{answers, begun, open_by}

-- a volume whose case table is empty
abbrev pub caseless : Volume
caseless = fresh (record { table = []; clients = record { name = codes "a"; sids = 7 ∷ [] } ∷ [] })

-- a name of so many `n` and a surrogate pair
abbrev pub long_path : ℕ → List ℕ
long_path count = 92 ∷ replicate count 110 ++ 0xD83D ∷ 0xDE00 ∷ []

pub name_collision_by_case :
    answers begun (open_by 0 1 (codes "\\A.txt") 0x3 0x7 CreateNew 0x0 0x0 ∷ open_by 0 2 (codes "\\a.TXT") 0x3 0x7 CreateNew 0x0 0x0 ∷ [])
    ≡ (Success, Some action.Created) ∷ (ObjectNameCollision, None) ∷ []
unfolding try_create create_at create_walked create_named create_by_link create_found create_there create_in_file create_stream create_on_stream open_stream open_directory open_granted overwrite_existing open_existing clashed create_missing make_file make_directory stopped
name_collision_by_case = refl

pub case_matters_with_an_empty_table :
    answers caseless (open_by 0 1 (codes "\\A.txt") 0x3 0x7 CreateNew 0x0 0x0 ∷ open_by 0 2 (codes "\\a.TXT") 0x3 0x7 CreateNew 0x0 0x0 ∷ [])
    ≡ (Success, Some action.Created) ∷ (Success, Some action.Created) ∷ []
unfolding try_create create_at create_walked create_named create_by_link create_found create_there create_in_file create_stream create_on_stream open_stream open_directory open_granted overwrite_existing open_existing clashed create_missing make_file make_directory stopped
case_matters_with_an_empty_table = refl

pub component_of_255_units :
    answers begun (open_by 0 1 (long_path 253) 0x3 0x7 CreateNew 0x0 0x0 ∷ open_by 0 2 (long_path 254) 0x3 0x7 CreateNew 0x0 0x0 ∷ [])
    ≡ (Success, Some action.Created) ∷ (ObjectNameInvalid, None) ∷ []
unfolding try_create create_at create_walked create_named create_by_link create_found create_there create_in_file create_stream create_on_stream open_stream open_directory open_granted overwrite_existing open_existing clashed create_missing make_file make_directory stopped
component_of_255_units = refl
