-- The line that is wrong names the id.
use Rattle.std.proofs.Common.{◌∙◌, Some, ap}
use Rattle.kc_claims.proofs.ascending.told_of.Goals as goal

pub returns-in-Unclaimed-clause-unclaimed : goal.returns-in-Unclaimed-clause-unclaimed
returns-in-Unclaimed-clause-unclaimed c = (
  c.in-Some.faulty.line,
  c.in-Some.is ∙ ap (λ f. Some (record { line = c.in-Some.faulty.line; fault = f })) c.in-Unclaimed.is,
)
