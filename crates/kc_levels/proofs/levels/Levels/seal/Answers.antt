-- The word that is stored has the number of the section and the level of the vertex.
use Rattle.kc_levels.proofs.Sealing.{may-seal, seal-leaves}
use Rattle.kc_levels.proofs.levels.Levels.seal.Goals as goal

pub store_vertex-requires-clause-section : goal.store_vertex-requires-clause-section
store_vertex-requires-clause-section c =
    may-seal c.args.self.now c.self.inside.writer c.args.words.now c.self.inside.core.items c.self.inside.stamps.items c.self.inside.is_open
    c.self.inside.number c.self.inside.size c.args.v c.index.result.now c.self.view_is c.self.invariant.0 c.requires.table c.requires.open_
    c.requires.moved c.index.ensures

pub invariant_of-self : goal.invariant_of-self
invariant_of-self c = (
  (seal-leaves c.args.self.now c.self.inside.writer c.store_vertex.new.self c.args.words.now c.self.inside.core.items c.self.inside.stamps.items
      c.self.inside.is_open c.self.inside.number c.self.inside.size c.args.v c.index.result.now c.self.view_is c.self.invariant.0 c.requires.table
      c.requires.open_ c.requires.moved c.index.ensures c.store_vertex.ensures.stored).0,
  c.self.invariant.1,
)

pub returns : goal.returns
returns c = (seal-leaves c.args.self.now c.self.inside.writer c.store_vertex.new.self c.args.words.now c.self.inside.core.items
    c.self.inside.stamps.items c.self.inside.is_open c.self.inside.number c.self.inside.size c.args.v c.index.result.now c.self.view_is
    c.self.invariant.0 c.requires.table c.requires.open_ c.requires.moved c.index.ensures c.store_vertex.ensures.stored).1
