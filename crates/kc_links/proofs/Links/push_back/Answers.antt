-- The ring with `x` between its last number and the seam.
use Rattle.std.proofs.Common.{ap, arith}
use Rattle.kc_links.proofs.Ring.{Pushed, push_facts}
use Rattle.kc_links.proofs.Links.push_back.Goals.{After-index-last}
use Rattle.kc_links.proofs.Links.push_back.Goals as goal

-- what the writes leave
pushed : (c : After-index-last)
    → Pushed c.self.inside.next.items c.self.inside.prev.items c.self.inside.size c.args.x c.index-last.result.now c.self.inside.len c.args.self.now.list
pushed c =
    push_facts c.self.inside.next.items c.self.inside.prev.items c.self.inside.size c.args.x c.index-last.result.now c.self.inside.len
    c.args.self.now.list c.self.invariant (ap (λ v. v.list) c.self.view_is) c.requires.x_out
    (omega (arith, ap (λ v. v.size) c.self.view_is, c.requires.x_within)) c.index-last.ensures

pub index_mut-requires : goal.index_mut-requires
index_mut-requires c = omega (arith, (pushed (goal.at.index_mut-requires c).After-index-last).p_fits, c.self.invariant.next_length)

pub overflow_add-self : goal.overflow_add-self
overflow_add-self c = omega (arith, (pushed (goal.at.overflow_add-self c).After-index-last).short)

pub invariant_of-self : goal.invariant_of-self
invariant_of-self c = (pushed (goal.at.invariant_of-self c).After-index-last).ring

pub returns-clause-list : goal.returns-clause-list
returns-clause-list c = (pushed (goal.at.returns-clause-list c).After-index-last).list
