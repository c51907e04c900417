-- The group of `x` has it as an item, and one less after it is taken.
use Rattle.std.proofs.Common.{ap, arith, get_or}
use Rattle.kc_list.proofs.Taking.{used_size}
use Rattle.kc_list.proofs.Rewritings.{sizes_taken}
use Rattle.kc_list.proofs.labelled.LabelledList.take_item.Goals as goal

pub leave-requires-clause-used : goal.leave-requires-clause-used
leave-requires-clause-used c =
    rw c.take.ensures.groups (omega (
      arith,
      used_size c.args.self.now.links.size c.args.self.now.sheet.words c.args.self.now.links.list c.args.self.now.groups c.args.x
          c.args.self.now.sound c.requires.tallied c.requires.x_in,
      ap (λ w. get_or c.args.self.now.groups w.group 0) c.item-from.ensures,
    ))

pub returns-clause-tallied : goal.returns-clause-tallied
returns-clause-tallied c = rw c.leave.ensures
    (sizes_taken c.args.self.now c.take.new.self c.args.x c.item-from.result c.take.ensures.groups c.requires.x_in c.requires.tallied c.take.ensures.takes
    c.item-from.ensures)
