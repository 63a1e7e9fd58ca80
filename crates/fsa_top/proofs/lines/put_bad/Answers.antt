use Rattle.std.proofs.Common.{[], ◌∷◌, ◌++◌, ◌∙◌, ◌≡◌, subst}
use Rattle.std.specs.Prelude.{codes, decimal}
use Rattle.wire_io.specs.Sink.{Appends, AppendsPart}
use Rattle.wire_io.specs.declared.faults.Failed.{Failed}
use Rattle.wire_io.proofs.SinkLaws.{Appends-append, AppendsPart-append, AppendsPart-longer}
use Rattle.fsa_top.proofs.RunLaws.{OnErr-any}
use Rattle.fsa_top.proofs.lines.put_bad.Goals as goal

pub returns-in_err-put_all-clause-part : goal.returns-in_err-put_all-clause-part
returns-in_err-put_all-clause-part g c =
    OnErr-any {T = Unit {0}} {E = Failed} c.from_residual.result _
    (AppendsPart-longer (g.K.Sink.written c.args.sink.now) (g.K.Sink.written c.put_all.new.sink) (codes "bad line ") (decimal c.args.line ++ 10 ∷ []) c.in_err-put_all.ensures.part)

pub returns-in_err-put_all-2-clause-part : goal.returns-in_err-put_all-2-clause-part
returns-in_err-put_all-2-clause-part g c =
    let old = g.K.Sink.written c.args.sink.now in
    let mid = g.K.Sink.written c.put_all.new.sink in
    let now = g.K.Sink.written c.put_all-2.new.sink in
    let digits : c.as_bytes.result.now ≡ decimal c.args.line = c.as_bytes.ensures.value ∙ c.format.ensures.text in
    OnErr-any {T = Unit {0}} {E = Failed} c.from_residual-in_err-put_all-2.result _
    (AppendsPart-append old mid now (codes "bad line ") (decimal c.args.line ++ 10 ∷ []) c.in_ok-put_all.ensures.all
    (AppendsPart-longer mid now (decimal c.args.line) (10 ∷ []) (subst (AppendsPart mid now) digits c.in_err-put_all-2.ensures.part)))

pub returns-in_err-put_all-3-clause-part : goal.returns-in_err-put_all-3-clause-part
returns-in_err-put_all-3-clause-part g c =
    let old = g.K.Sink.written c.args.sink.now in
    let mid = g.K.Sink.written c.put_all.new.sink in
    let late = g.K.Sink.written c.put_all-2.new.sink in
    let now = g.K.Sink.written c.put_all-3.new.sink in
    let digits : c.as_bytes.result.now ≡ decimal c.args.line = c.as_bytes.ensures.value ∙ c.format.ensures.text in
    OnErr-any {T = Unit {0}} {E = Failed} c.from_residual-in_err-put_all-3.result _
    (AppendsPart-append old late now (codes "bad line " ++ decimal c.args.line) (10 ∷ [])
    (Appends-append old mid late (codes "bad line ") (decimal c.args.line) c.in_ok-put_all.ensures.all (subst (Appends mid late) digits c.in_ok-put_all-2.ensures.all))
    c.in_err-put_all-3.ensures.part)
