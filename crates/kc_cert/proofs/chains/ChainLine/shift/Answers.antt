-- The line stays distinct where the anchor is put at its end, since it is put there only if the line lacks it.
use Rattle.std.proofs.Common.{sym, subst}
use Rattle.kc_lists.specs.Lists.{Distinct}
use Rattle.kc_cert.proofs.Chaining.{Distinct-with_anchor}
use Rattle.kc_cert.proofs.chains.ChainLine.shift.Goals as goal

pub put_behind-requires-clause-once : goal.put_behind-requires-clause-once
put_behind-requires-clause-once c =
    subst Distinct (sym c.in_ok-anchor.ensures.vertices) (Distinct-with_anchor c.args.w c.args.self.now.vertices.items c.requires.once)
