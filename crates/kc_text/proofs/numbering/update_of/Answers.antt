-- Different ids stand at different places, so the lesser of the two numbers is strictly less.
use Rattle.std.proofs.Common.{arith}
use Rattle.kc_text.proofs.Places.{places-differ}
use Rattle.kc_text.proofs.numbering.update_of.Goals as goal

pub invariant_of-result : goal.invariant_of-result
invariant_of-result c = record { ordered = omega (arith, places-differ c.args.ids.now c.args.change.a c.args.change.b c.requires.a c.requires.apart) }
