-- A group whose last item leaves becomes free: there is room in the stack for it.
use Rattle.std.proofs.Common.{arith}
use Rattle.kc_list.proofs.GroupSizes.{leave_facts}
use Rattle.kc_list.proofs.groups.Groups.leave.Goals as goal

pub index_mut-requires-then-size-eq1 : goal.index_mut-requires-then-size-eq1
index_mut-requires-then-size-eq1 c =
    omega (
      arith,
      (leave_facts c.self.inside.sizes.items c.self.inside.free.items c.args.self.now c.self.inside.free_count c.args.group
          c.index-size.result.now c.self.invariant.0 c.self.invariant.1 c.self.invariant.2 c.self.view_is c.requires.low c.requires.within c.index-size.ensures
          c.if-size-eq1.true).room,
    )

pub invariant_of-self : goal.invariant_of-self
invariant_of-self c = let f = leave_facts c.self.inside.sizes.items c.self.inside.free.items c.args.self.now c.self.inside.free_count c.args.group
    c.index-size.result.now c.self.invariant.0 c.self.invariant.1 c.self.invariant.2 c.self.view_is c.requires.low c.requires.within c.index-size.ensures
    c.if-size-eq1.true in (f.tally, f.more, f.lengths)
