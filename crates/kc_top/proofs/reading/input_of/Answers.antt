-- Why the bytes give no input is why there is none.
use Rattle.std.proofs.lemmas.Result.{IfErr-weaker}
use Rattle.kc_top.specs.Given.{generated_or}
use Rattle.kc_top.proofs.Generating.{generated_only_memory}
use Rattle.kc_top.proofs.Stopping.{HasNoText-bytes}
use Rattle.kc_top.proofs.reading.input_of.Goals as goal

pub returns-clause-stopped : goal.returns-clause-stopped
returns-clause-stopped g c =
    IfErr-weaker c.parsed.result _ _
    (λ s h. HasNoText-bytes s c.in_ok-bytes.bytes.items
    (generated_or c.args.generator (g.S.Source.left c.args.source.now)) _ _ h c.in_ok-bytes.ensures.bytes c.in_ok-bytes.ensures.faultless)
    c.parsed.ensures.stopped

pub returns-clause-accepted : goal.returns-clause-accepted
returns-clause-accepted g c = λ some.
    IfErr-weaker c.parsed.result _ _
    (λ s h. generated_only_memory c.args.generator
    (g.S.Source.left c.args.source.now) c.in_ok-bytes.bytes.items s some c.in_ok-bytes.ensures.bytes h) c.parsed.ensures.stopped
