-- A new length step by step.
use Rattle.std.proofs.Common.{◌≡◌, ℕ, true, refl}
use Rattle.fsa_model.specs.Edits.{with_length}
use Rattle.fsa_model.specs.Volume.{Volume}
use Rattle.fsa_model.specs.Lookups.{file_of_stream}
use Rattle.fsa_model.specs.Write.{with_write_noted}
use Rattle.fsa_model.specs.SetEnd.{with_file_resized, with_resized}

-- noted, cut or filled, and the file resized
pub with_resized-steps : (v noted cut new : Volume) (link stream end file : ℕ)
    → file ≡ file_of_stream v stream
    → noted ≡ with_write_noted v link stream true
    → cut ≡ with_length noted stream end
    → new ≡ with_file_resized cut file
    → new ≡ with_resized v link stream end
with_resized-steps v noted cut new link stream end file is_file is_noted is_cut is_new = rw (is_new, is_cut, is_noted, is_file) refl
