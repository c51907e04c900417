-- The store of an entry moves nothing.
use Rattle.kc_levels.proofs.Entering.{enter-leaves}
use Rattle.kc_levels.proofs.levels.Levels.open_section.Goals as goal

pub invariant_of-self : goal.invariant_of-self
invariant_of-self c = (
  (enter-leaves c.args.self.now c.self.inside.writer c.note_enter.new.self c.self.inside.core.items c.self.inside.stamps.items
      c.self.inside.is_open c.self.inside.number c.self.inside.size c.args.index c.args.update c.self.view_is c.self.invariant.0 c.requires.closed
      c.requires.index c.requires.ends c.requires.numbers c.note_enter.ensures.stored).0,
  c.self.invariant.1,
)

pub returns : goal.returns
returns c = (enter-leaves c.args.self.now c.self.inside.writer c.note_enter.new.self c.self.inside.core.items c.self.inside.stamps.items
    c.self.inside.is_open c.self.inside.number c.self.inside.size c.args.index c.args.update c.self.view_is c.self.invariant.0 c.requires.closed
    c.requires.index c.requires.ends c.requires.numbers c.note_enter.ensures.stored).1
