-- Laws of bytes whose digits are written part by part, and of the lines around them.
use Rattle.std.proofs.Common.{◌≡◌, ◌∙◌, ℕ, ◌+◌, ◌/◌, ◌%◌, List, [], ◌∷◌, ◌++◌, take, drop, refl, ap, sym, subst, append_assoc}
use Rattle.std.proofs.lemmas.List.{take-append-drop}
use Rattle.std.proofs.Math.Seq.{take-add}
use Rattle.std.specs.Prelude.{codes, Result, Ok, Err, OnErr}
use Rattle.fsa_types.specs.declared.status.Status.{Status}
use Rattle.fsa_types.specs.declared.request.Call.{Call}
use Rattle.fsa_types.specs.declared.reply.Answer.TheVariants.{Ended}
use Rattle.fsa_types.specs.declared.reply.Body.TheVariants.{Got}
use Rattle.fsa_model.specs.Setup.{Client}
use Rattle.fsa_model.specs.Outcome.{TurnOut}
use Rattle.fsa_types.specs.Status.{status_name}
use Rattle.fsa_model.specs.Numbers.{glyph}
use Rattle.fsa_model.specs.Text.{bytes_text, call_text, ended_lines, hex_digits, turn_text}
use Rattle.fsa_model.specs.Verbs.{verb}
use Rattle.text_out.specs.AroundBytes.{after_bytes, before_bytes}
use Rattle.wire_io.specs.Sink.{Written, Appends, AppendsPart}
use Rattle.wire_io.proofs.SinkLaws.{Appends-append, AppendsPart-append, AppendsPart-longer}

pub hex-append : (bytes more : List ℕ) → hex_digits (bytes ++ more) ≡ hex_digits bytes ++ hex_digits more
hex-append [] more = refl
hex-append (byte ∷ bytes) more = ap (λ (digits : List ℕ). glyph (byte / 16) ∷ glyph (byte % 16) ∷ digits) (hex-append bytes more)

-- the digits up to a place, and those of a part from there on
hex-part : (bytes : List ℕ) (at count : ℕ) → hex_digits (take (at + count) bytes) ≡ hex_digits (take at bytes) ++ hex_digits (take count (drop at bytes))
hex-part bytes at count = ap hex_digits (take-add at count bytes) ∙ hex-append (take at bytes) (take count (drop at bytes))

-- a part more was written
pub parts-more : (old mid new : Written) (bytes : List ℕ) (at count : ℕ) → Appends old mid (hex_digits (take at bytes)) → Appends mid new (hex_digits (take count (drop at bytes))) → Appends old new (hex_digits (take (at + count) bytes))
parts-more old mid new bytes at count first second =
    subst (Appends old new) (sym (hex-part bytes at count)) (Appends-append old mid new (hex_digits (take at bytes)) (hex_digits (take count (drop at bytes))) first second)

-- a part failed
pub parts-failed : (old mid new : Written) (bytes : List ℕ) (at count : ℕ) → Appends old mid (hex_digits (take at bytes)) → AppendsPart mid new (hex_digits (take count (drop at bytes))) → AppendsPart old new (hex_digits bytes)
parts-failed old mid new bytes at count first second =
    let all : hex_digits bytes ≡ hex_digits (take (at + count) bytes) ++ hex_digits (drop (at + count) bytes)
    = ap hex_digits (sym (take-append-drop (at + count) bytes)) ∙ hex-append (take (at + count) bytes) (drop (at + count) bytes) in
    subst (AppendsPart old new) (sym all) (AppendsPart-longer old new (hex_digits (take (at + count) bytes)) (hex_digits (drop (at + count) bytes))
    (subst (AppendsPart old new) (sym (hex-part bytes at count)) (AppendsPart-append old mid new (hex_digits (take at bytes)) (hex_digits (take count (drop at bytes))) first second)))

pub OnErr-weaker : {T E : Type 0} (P Q : Type 0) (r : Result T E) → (P → Q) → OnErr r P → OnErr r Q
OnErr-weaker P Q (Ok x) weaker holds = tt
OnErr-weaker P Q (Err e) weaker holds = weaker holds

regroup : (mark who what feed status space bytes ended : List ℕ)
    → (mark ++ who ++ what ++ feed ++ (who ++ status ++ space)) ++ bytes ++ (feed ++ ended)
    ≡ mark ++ who ++ what ++ feed ++ (who ++ status ++ (space ++ bytes) ++ feed) ++ ended
regroup mark who what feed status space bytes ended = simp append_assoc

-- the lines before the bytes, the bytes, and the lines behind them are those of the turn
pub around_bytes : (clients : List Client) (call : Call) (out : TurnOut) (status : Status) (bytes : List ℕ) → out.answer ≡ Ended (record { status = status; body = Got bytes })
    → before_bytes clients call status ++ bytes_text bytes ++ after_bytes clients out.ended ≡ turn_text clients call out
around_bytes clients call out status bytes is =
    rw is (regroup (codes "> ") (call_text clients call.client call.number) (32 ∷ verb call.what) (10 ∷ []) (32 ∷ status_name status) (32 ∷ []) (bytes_text bytes) (ended_lines clients out.ended))
