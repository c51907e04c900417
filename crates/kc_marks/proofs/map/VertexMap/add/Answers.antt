-- The entry that comes last is the vertex's.
use Rattle.kc_marks.proofs.Entries.{value-push}
use Rattle.kc_marks.proofs.map.VertexMap.add.Goals as goal

pub returns-then-len-lt-FEW-clause-ok : goal.returns-then-len-lt-FEW-clause-ok
returns-then-len-lt-FEW-clause-ok g c =
    value-push c.self.inside.entries.items c.args.self.now c.push.new.self.items c.args.y c.args.value c.self.view_is c.in_ok-push.ensures.items c.requires
