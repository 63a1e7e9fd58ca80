-- How the answers of the reader stand to the definition of a script.
use Rattle.std.specs.Prelude.{◌≡◌, Result, Ok, Err, Option, Some, None}
use Rattle.fsa_types.specs.declared.request.What.{What}
use Rattle.script_read.specs.declared.fault.ScriptKind.{ScriptKind}
use Rattle.script_read.specs.declared.fault.ScriptKind.TheVariants.{Cut, Syntax, Client, Number}
use Rattle.script_read.specs.declared.fault.ScriptFault.{ScriptFault}
use Rattle.script_read.specs.declared.fault.LineFault.{LineFault}
use Rattle.script_read.specs.declared.fault.LineFault.TheVariants as line
use Rattle.script_read.specs.declared.fault.ReadFault.{ReadFault}
use Rattle.script_read.specs.declared.fault.ReadFault.TheVariants as read
use Rattle.fsa_model.specs.Fault.{Kind, BadCut, BadSyntax, BadClient, BadNumber, Fault}

abbrev pub kind_of : ScriptKind → Kind
kind_of Cut = BadCut
kind_of Syntax = BadSyntax
kind_of Client = BadClient
kind_of Number = BadNumber

abbrev pub script_fault_of : ScriptFault → Fault
script_fault_of fault = record { line = fault.line; kind = kind_of fault.kind }

-- an error that a line's reader answers is the fault of the definition, or want of memory
abbrev pub Fails : {Y : Type 0} → LineFault → Result Y Kind → Type 0
Fails line.NoMemory defined = Unit {0}
Fails (line.Bad kind) defined = defined ≡ Err (kind_of kind)

-- what a line's reader answers, seen so, is what the definition gives, or want of memory
abbrev pub ReadsAs : {X Y : Type 0} → (X → Y) → Result X LineFault → Result Y Kind → Type 0
ReadsAs view (Ok x) defined = defined ≡ Ok (view x)
ReadsAs view (Err fault) defined = Fails fault defined

-- what the reader of one group of verbs answers: what the fields say; `None` where the verb is none of
-- the group, so that the reading goes on with the other verbs; or its fault, or want of memory
abbrev pub ReadsOr : Result (Option What) LineFault → (Result What Kind → Result What Kind) → Type 0
ReadsOr (Ok (Some what)) defined = (other : Result What Kind) → defined other ≡ Ok what
ReadsOr (Ok None) defined = (other : Result What Kind) → defined other ≡ other
ReadsOr (Err fault) defined = (other : Result What Kind) → Fails fault (defined other)

-- the same of a whole script
abbrev pub FailsScript : {Y : Type 0} → ReadFault → Result Y Fault → Type 0
FailsScript read.NoMemory defined = Unit {0}
FailsScript (read.Bad fault) defined = defined ≡ Err (script_fault_of fault)
