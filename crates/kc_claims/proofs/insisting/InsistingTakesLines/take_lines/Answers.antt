-- A line that is wrong stays the first, and else the lines are followed.
use Rattle.kc_claims.proofs.Insisted.{HasInsisted-stays}
use Rattle.kc_claims.proofs.insisting.InsistingTakesLines.take_lines.Goals as goal

pub returns-in-Some : goal.returns-in-Some
returns-in-Some c = λ start before ended h. HasInsisted-stays start c.args.self.now before c.args.lines.now c.in-Some.field-0 ended h c.in-Some.is
