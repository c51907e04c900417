-- The greatest version is that of some word of an item or a group.
use Rattle.std.proofs.Common.{arith}
use Rattle.kc_list.proofs.Highest.{version-highest}
use Rattle.kc_list.proofs.Whole.{version-reached}
use Rattle.kc_list.proofs.plain.PlainOrder.highest.Goals as goal

pub returns-clause-greatest : goal.returns-clause-greatest
returns-clause-greatest c w = rw (← c.self.view_is) (omega (arith, version-highest c.self.inside.list.sheet.words w, c.highest.ensures))

pub returns-clause-reached : goal.returns-clause-reached
returns-clause-reached c = rw (← c.self.view_is)
    (version-reached c.self.inside.list.links.size c.highest.result c.self.inside.list.sheet.words c.self.inside.list.sound.size c.self.invariant.note
    c.highest.ensures)
