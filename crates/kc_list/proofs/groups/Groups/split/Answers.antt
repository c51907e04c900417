-- The number on top of the stack was free, and is the new group.
use Rattle.std.proofs.Common.{arith}
use Rattle.kc_list.proofs.GroupSizes.{split_facts}
use Rattle.kc_list.proofs.groups.Groups.split.Goals as goal

pub index_mut-requires-2 : goal.index_mut-requires-2
index_mut-requires-2 c = omega (
  arith,
  (split_facts c.self.inside.sizes.items c.self.inside.free.items c.args.self.now c.self.inside.free_count c.args.group c.index-fresh.result.now
      c.self.invariant.0 c.self.invariant.1 c.self.invariant.2 c.self.view_is c.requires.within c.requires.full c.requires.spare c.index-fresh.ensures).within,
)

pub invariant_of-self : goal.invariant_of-self
invariant_of-self c = let f = split_facts c.self.inside.sizes.items c.self.inside.free.items c.args.self.now c.self.inside.free_count c.args.group
    c.index-fresh.result.now c.self.invariant.0 c.self.invariant.1 c.self.invariant.2 c.self.view_is c.requires.within c.requires.full c.requires.spare
    c.index-fresh.ensures in (f.tally, omega (arith, c.self.invariant.1), f.lengths)

pub returns-clause-low : goal.returns-clause-low
returns-clause-low c = (split_facts c.self.inside.sizes.items c.self.inside.free.items c.args.self.now c.self.inside.free_count c.args.group
    c.index-fresh.result.now c.self.invariant.0 c.self.invariant.1 c.self.invariant.2 c.self.view_is c.requires.within c.requires.full c.requires.spare
    c.index-fresh.ensures).low

pub returns-clause-within : goal.returns-clause-within
returns-clause-within c = (split_facts c.self.inside.sizes.items c.self.inside.free.items c.args.self.now c.self.inside.free_count c.args.group
    c.index-fresh.result.now c.self.invariant.0 c.self.invariant.1 c.self.invariant.2 c.self.view_is c.requires.within c.requires.full c.requires.spare
    c.index-fresh.ensures).within_old

pub returns-clause-was_free : goal.returns-clause-was_free
returns-clause-was_free c = (split_facts c.self.inside.sizes.items c.self.inside.free.items c.args.self.now c.self.inside.free_count c.args.group
    c.index-fresh.result.now c.self.invariant.0 c.self.invariant.1 c.self.invariant.2 c.self.view_is c.requires.within c.requires.full c.requires.spare
    c.index-fresh.ensures).was_free
