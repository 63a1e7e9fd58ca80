-- Laws on the limits of a script.
use Rattle.std.proofs.Common.{◌≡◌, ◌≤◌, ℕ, List, length, Option, Some, None, Ok, ap, ◌∙◌, inl, inr, arith}
use Rattle.std.specs.Prelude.{nat_lt}
use Rattle.std.proofs.lemmas.Bool.{cases_Bool, ltb-false}
use Rattle.std.proofs.lemmas.Bool.Decides.{nat_tests}
use Rattle.fsa_model.specs.Script.{script_of}
use Rattle.fsa_model.specs.Setup.{Script}
use Rattle.fsa_model.proofs.ScriptLaws.{script_of-few, script_of-named}
use Rattle.history_laws.specs.Named.{IsReadScript}
use Rattle.history_laws.proofs.ReadNames.{script_of-read}
use Rattle.wire_io.specs.Source.{HasMoreThan, ReadsWhole}
use Rattle.fsa_top.specs.Limits.{PassesLimit, client_lines, limit_of, line_feeds, most_script_bytes, most_client_lines, most_line_feeds}
use Rattle.fsa_top.specs.Order.{IsWithinLimits}
use Rattle.fsa_top.specs.declared.limits.Limit.{Limit}
use Rattle.fsa_top.specs.declared.limits.Limit.TheVariants.{Bytes, Lines, Clients}

-- a source that was read whole passes the limit that its bytes pass
pub PassesLimit-read : (left left_now : Option (List ℕ)) (bytes : List ℕ) (limit : Limit) → ReadsWhole left left_now bytes → limit_of bytes ≡ Some limit → PassesLimit limit left
PassesLimit-read None left_now bytes limit read passes = tt
PassesLimit-read (Some all) left_now bytes limit read passes = ap limit_of read.0 ∙ passes

-- a source that has more bytes than a script may have passes the limit on bytes
pub PassesLimit-more : (left : Option (List ℕ)) → HasMoreThan most_script_bytes left → PassesLimit Bytes left
unfolding limit_of
PassesLimit-more None more = tt
PassesLimit-more (Some bytes) more = grind (arith, nat_tests)

-- bytes that pass no limit
pub limits_none : (bytes : List ℕ) → limit_of bytes ≡ None → (length bytes ≤ most_script_bytes) × (line_feeds bytes ≤ most_line_feeds) × (client_lines bytes ≤ most_client_lines)
unfolding limit_of
limits_none bytes none = elim (cases_Bool (nat_lt most_script_bytes (length bytes))) [
  | inl over ↦ absurd (let impossible : Some Bytes ≡ None = rw over at none in cc)
  | inr bytes_few ↦ elim (cases_Bool (nat_lt most_line_feeds (line_feeds bytes))) [
    | inl over ↦ absurd (let impossible : Some Lines ≡ None = rw (bytes_few, over) at none in cc)
    | inr lines_few ↦ elim (cases_Bool (nat_lt most_client_lines (client_lines bytes))) [
      | inl over ↦ absurd (let impossible : Some Clients ≡ None = rw (bytes_few, lines_few, over) at none in cc)
      | inr clients_few ↦ (ltb-false most_script_bytes (length bytes) bytes_few, ltb-false most_line_feeds (line_feeds bytes) lines_few, ltb-false most_client_lines (client_lines bytes) clients_few)
    ]
  ]
]

-- the script that they are
pub script-within : (bytes : List ℕ) (script : Script) → limit_of bytes ≡ None → script_of bytes ≡ Ok script → IsWithinLimits script
script-within bytes script none is =
    let few = limits_none bytes none in record {
      lines = (let lines = script_of-few bytes script is in omega (arith, lines, few.1));
      clients = (let clients = script_of-named bytes script is in omega (arith, clients, few.2));
    }

pub script-read : (bytes : List ℕ) (script : Script) → limit_of bytes ≡ None → script_of bytes ≡ Ok script → IsReadScript script
script-read bytes script none is = (let few = limits_none bytes none in script_of-read bytes script (omega (arith, few.0)) is)
