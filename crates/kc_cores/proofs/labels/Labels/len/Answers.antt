-- There is a label for each id.
use Rattle.std.proofs.Common.{◌≡◌, ap, arith, length}
use Rattle.kc_cores.specs.Answers.{labels_of}
use Rattle.kc_cores.proofs.Labelled.{length-labels_of}
use Rattle.kc_cores.proofs.labels.Labels.len.Goals as goal

pub returns : goal.returns
returns c =
    let ids = c.self.inside.ids.items in
    let same : length (labels_of c.self.inside.names ids) ≡ length c.args.self.now = ap length c.self.view_is in
    let each : length (labels_of c.self.inside.names ids) ≡ length ids = length-labels_of c.self.inside.names ids in
    omega (arith, same, each)
