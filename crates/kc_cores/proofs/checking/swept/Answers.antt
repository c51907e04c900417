-- What holds of the graph of the file that is swept holds of that of the bytes of its name.
use Rattle.std.proofs.lemmas.Result.{IfOk-weaker}
use Rattle.kc_cores.proofs.Graphs.{IsSwept-beside}
use Rattle.kc_cores.proofs.checking.swept.Goals as goal

pub returns-in-Some-beside-clause-swept : goal.returns-in-Some-beside-clause-swept
returns-in-Some-beside-clause-swept g c = λ claims tabled.
    IfOk-weaker c.check_stream.result _ _
    (λ swept h.
    IsSwept-beside g.I.Source.left g.I.FileInput.behind c.args.input.now _ c.in-Some.name.now _ claims swept c.in-Some.ensures.named
    c.in-Some-beside.ensures h)
    (c.check_stream.ensures claims tabled)
