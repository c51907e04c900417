-- A line that is refused stays the first, and else the lines are gathered.
use Rattle.std.proofs.Common.{subst, sym}
use Rattle.kc_text.specs.Lines.{lines}
use Rattle.kc_claims.specs.Gathering.{HasTakenLines}
use Rattle.kc_text.proofs.SaidAppend.{lines-append}
use Rattle.kc_claims.proofs.Gathered.{HasTakenLines-stays}
use Rattle.kc_claims.proofs.gathering.GatheringTakesLines.take_lines.Goals as goal

pub returns-in-Some : goal.returns-in-Some
returns-in-Some c = λ start before ended h.
    subst (HasTakenLines c.args.self.now) (sym (lines-append before c.args.lines.now ended))
    (HasTakenLines-stays c.args.self.now (lines before) (lines c.args.lines.now) c.in-Some.field-0 h c.in-Some.is)
