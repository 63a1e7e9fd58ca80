-- What a script that was read says, in the words of the definition.
use Rattle.std.specs.Prelude.{◌≡◌, ℕ, List, Result, Ok, Err}
use Rattle.fsa_model.specs.Fault.{Kind, Fault}
use Rattle.fsa_model.specs.ScriptText.{SpellsScript}
use Rattle.fsa_model.specs.Setup.{Script, setup_of}
use Rattle.script_read.specs.declared.script.Script.{Script as ReadScript}
use Rattle.script_read.specs.declared.fault.ReadFault.{ReadFault}
use Rattle.script_read.specs.declared.fault.ReadFault.TheVariants as read
use Rattle.script_read.specs.ReadsAs.{FailsScript, kind_of}

-- the setup and the calls, without the room of their lists
abbrev pub contents : ReadScript → Script
contents script = record { setup = setup_of script.setup; lines = script.lines.items }

-- the answer is the script of the definition, or its fault, or want of memory
abbrev pub GivesScript : Result ReadScript ReadFault → Result Script Fault → Type 0
GivesScript (Ok script) defined = defined ≡ Ok (contents script)
GivesScript (Err fault) defined = FailsScript fault defined

-- a fault stands at this line, and is of the kind that the definition gives, or it is want of memory
abbrev pub FailsLine : {Y : Type 0} → ℕ → ReadFault → Result Y Kind → Type 0
FailsLine line read.NoMemory defined = Unit {0}
FailsLine line (read.Bad fault) defined = (fault.line ≡ line) × (defined ≡ Err (kind_of fault.kind))

-- the answer is the script that these bytes write; or they write none; or it is want of memory
abbrev pub GivesSpelled : Result ReadScript ReadFault → List ℕ → Type 0
GivesSpelled (Ok script) bytes = SpellsScript bytes (contents script)
GivesSpelled (Err read.NoMemory) bytes = Unit {0}
GivesSpelled (Err (read.Bad fault)) bytes = (script : Script) → ¬ SpellsScript bytes script
