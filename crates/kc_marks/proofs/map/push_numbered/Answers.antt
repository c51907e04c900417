-- The entry that comes last is the vertex's, and its number says so.
use Rattle.std.proofs.Common.{arith, refl}
use Rattle.kc_marks.specs.Sparse.{number_at}
use Rattle.kc_marks.proofs.Entries.{number-push, value-push}
use Rattle.kc_marks.proofs.map.push_numbered.Goals as goal

pub returns-clause-numbered : goal.returns-clause-numbered
returns-clause-numbered g c =
    let one = c.in_default.ensures.ok in
    number-push c.args.entries.now.items c.push.new.self.items c.args.y c.args.value (number_at c.args.numbers.now) (number_at c.set.new.self)
    c.in_ok-push.ensures.items c.requires.none c.requires.numbered (omega (arith, one.here, c.in_ok-number.ensures.next)) one.others

pub returns-clause-ok : goal.returns-clause-ok
returns-clause-ok g c =
    value-push c.args.entries.now.items c.args.entries.now.items c.push.new.self.items c.args.y c.args.value refl c.in_ok-push.ensures.items
    c.requires.none
