-- The group of `p` gets an item, and the old group of `x` loses one, if it has one.
use Rattle.std.proofs.Common.{sym}
use Rattle.kc_list.proofs.Rewritings.{groups_before, sizes_moved, sizes_put}
use Rattle.kc_list.proofs.labelled.LabelledList.move_item.Goals as goal

pub enter-requires-clause-used : goal.enter-requires-clause-used
enter-requires-clause-used c = (groups_before c.args.self.now c.put.new.self.groups c.args.x c.args.p c.item-from.result c.item-to.result
    (sym c.put.ensures.groups) c.requires.x_within c.requires.fits.p_in c.requires.way.tallied c.item-from.ensures c.item-to.ensures).to_used

pub leave-requires-clause-within : goal.leave-requires-clause-within
leave-requires-clause-within c = rw c.enter.ensures
    ((groups_before c.args.self.now c.put.new.self.groups c.args.x c.args.p c.item-from.result c.item-to.result (sym c.put.ensures.groups)
    c.requires.x_within c.requires.fits.p_in c.requires.way.tallied c.item-from.ensures c.item-to.ensures).from_within c.if-from-ne0.true)

pub leave-requires-clause-used : goal.leave-requires-clause-used
leave-requires-clause-used c = rw c.enter.ensures
    ((groups_before c.args.self.now c.put.new.self.groups c.args.x c.args.p c.item-from.result c.item-to.result (sym c.put.ensures.groups)
    c.requires.x_within c.requires.fits.p_in c.requires.way.tallied c.item-from.ensures c.item-to.ensures).from_used c.if-from-ne0.true)

pub returns-then-from-ne0-clause-tallied : goal.returns-then-from-ne0-clause-tallied
returns-then-from-ne0-clause-tallied c = rw (c.leave.ensures, c.enter.ensures)
    (sizes_moved c.args.self.now c.put.new.self c.args.x c.args.p c.item-from.result c.item-to.result c.put.ensures.groups c.requires.x_within
    c.requires.fits.p_in c.requires.differ c.requires.way.tallied c.requires.way.takes c.put.ensures.puts c.put.ensures.group c.item-from.ensures
    c.item-to.ensures c.if-from-ne0.true)

pub returns-else-from-ne0-clause-tallied : goal.returns-else-from-ne0-clause-tallied
returns-else-from-ne0-clause-tallied c = rw c.enter.ensures
    (sizes_put c.args.self.now c.put.new.self c.args.x c.args.p c.item-from.result c.item-to.result c.put.ensures.groups c.requires.x_within
    c.requires.fits.p_in c.requires.differ c.requires.way.tallied c.requires.way.takes c.put.ensures.puts c.put.ensures.group c.item-from.ensures
    c.item-to.ensures c.if-from-ne0.false)
