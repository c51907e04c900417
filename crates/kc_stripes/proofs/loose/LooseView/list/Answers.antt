-- A vertex whose list was told is one of the table's.
use Rattle.std.proofs.Common.{◌∙◌, ap}
use Rattle.kc_view.specs.Answers.{has_list}
use Rattle.kc_stripes.specs.Reads.{Loosely}
use Rattle.kc_stripes.proofs.Loosening.{listed_below}
use Rattle.kc_stripes.proofs.loose.LooseView.list.Goals as goal

pub list-requires : goal.list-requires
list-requires g c =
    listed_below c.args.w c.self.invariant.2 (ap (λ (x : Loosely). has_list x.kept c.args.w) c.self.view_is ∙ c.requires.read)
