-- Just those bytes are read as a script that write it.
use Rattle.std.proofs.Common.{◌≡◌, ◌∙◌, sym, subst, ℕ, false, List, length, Ok, Err}
use Rattle.std.specs.Prelude.{◌==◌, Result}
use Rattle.fsa_model.specs.Fault.{Fault}
use Rattle.fsa_model.specs.Setup.{Script}
use Rattle.fsa_model.specs.Script.{nothing_read, lines_from, pieces, script_of}
use Rattle.fsa_model.specs.ScriptText.{SpellsScript}
use Rattle.fsa_model.proofs.ScriptSpelt.{script_of-spelled, script_of-again, from_lines}
use Rattle.script_read.proofs.LineLemmas.{line_of-spelled}
use Rattle.script_read.specs.declared.fault.ReadFault.{ReadFault}
use Rattle.script_read.specs.declared.fault.ReadFault.TheVariants as read
use Rattle.script_read.specs.declared.script.Script.{Script as ReadScript}
use Rattle.script_read.specs.ReadsAs.{script_fault_of}
use Rattle.script_read.specs.ScriptView.{contents, GivesScript, GivesSpelled}

pub script_of-bytes : (bytes : List ℕ) (script : Script) → SpellsScript bytes script → script_of bytes ≡ Ok script
script_of-bytes bytes script spells = script_of-again line_of-spelled bytes script spells

never : (script : Script) (fault : Fault) → Ok script ≡ Err fault → ⊥
never script fault e = cc

-- bytes that are no script write none
pub no_script : (bytes : List ℕ) (fault : Fault) (script : Script) → script_of bytes ≡ Err fault → SpellsScript bytes script → ⊥
no_script bytes fault script fails spells = never script fault (sym (script_of-bytes bytes script spells) ∙ fails)

-- what the reader answers is the script that is written
pub gives_spelled : (bytes : List ℕ) (result : Result ReadScript ReadFault) → GivesScript result (script_of bytes) → GivesSpelled result bytes
gives_spelled bytes (Ok script) gives = script_of-spelled bytes (contents script) gives
gives_spelled bytes (Err read.NoMemory) gives = tt
gives_spelled bytes (Err (read.Bad fault)) gives = λ script. no_script bytes (script_fault_of fault) script gives

-- the same, where the reader went over the lines
pub lines_spelled : (bytes : List ℕ) (result : Result ReadScript ReadFault) → (length bytes == 0) ≡ false → GivesScript result (lines_from 1 nothing_read (pieces bytes)) → GivesSpelled result bytes
lines_spelled bytes result some gives = gives_spelled bytes result (subst (GivesScript result) (sym (from_lines bytes some)) gives)
