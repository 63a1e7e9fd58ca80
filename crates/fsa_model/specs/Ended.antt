-- How a call has ended.
use Rattle.std.specs.Prelude.{ℕ, Bool, true, false, ◌&&◌, List, Option, find, option_map}
use Rattle.std.specs.List.{list_any}
use Rattle.fsa_types.specs.declared.reply.Body.{Body}
use Rattle.fsa_types.specs.declared.reply.Body.TheVariants.{Got, Packed, Stopped}
use Rattle.fsa_types.specs.declared.reply.EndOf.{EndOf}
use Rattle.fsa_types.specs.declared.reply.Reply.{Reply}
use Rattle.fsa_model.specs.Once.{is_end}

-- how the client's call of this number ended, where it has
abbrev pub reply_in : List EndOf → ℕ → ℕ → Option Reply
reply_in ended client number = option_map (λ end. end.reply) (find (is_end client number) ended)

-- a copy of the body takes memory
abbrev pub holds_list : Body → Bool
holds_list (Got bytes) = true
holds_list (Packed kind bytes) = true
holds_list (Stopped tag bytes rest) = true
holds_list _ = false

-- the client's call of this number has ended with such a body
abbrev pub ended_with_list : List EndOf → ℕ → ℕ → Bool
ended_with_list ended client number = list_any (λ end. is_end client number end && holds_list end.reply.body) ended
