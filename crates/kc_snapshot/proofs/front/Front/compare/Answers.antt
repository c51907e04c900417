-- Both begin what the two have seen together, so the shorter begins the longer.
use Rattle.std.proofs.Common.{ap, sym, subst, List}
use mathlib.Core.List.{IsPrefix}
use Rattle.kc_snapshot.specs.declared.member.Member.{Member}
use Rattle.kc_snapshot.proofs.Lists.{is_history-some, width-prefix}
use Rattle.kc_snapshot.proofs.Prefixes.{prefix_shorter}
use Rattle.kc_snapshot.proofs.front.Front.compare.Goals as goal

prefix : goal.returns-clause-prefix
prefix g c =
    let both = c.learn.new.self.log in
    let this : IsPrefix c.self.inside.seen.log both = subst (λ (l : List Member). IsPrefix l both) (ap (λ s. s.log) c.again-both.ensures) c.learn.ensures.2 in
    rw (← c.self.view_is, ← c.other.view_is)
    (prefix_shorter c.self.inside.seen.log c.other.inside.seen.log both this c.learn.ensures.3
    (rw (c.self.view_is, c.other.view_is) c.requires))

pub returns-clause-prefix : goal.returns-clause-prefix
returns-clause-prefix g c = prefix g c

pub returns-clause-width : goal.returns-clause-width
returns-clause-width g c =
    rw (← c.self.view_is, ← c.other.view_is)
    (sym
    (width-prefix c.self.inside.seen.log c.other.inside.seen.log (rw (c.self.view_is, c.other.view_is) (prefix g c))
    (is_history-some c.self.inside.seen.log c.self.invariant.2)))
