-- The loads of both items, and what follows where the second is out.
use Rattle.std.proofs.Common.{sym, ap, subst}
use mathlib.Core.List.{IsPrefix}
use Rattle.kc_table.specs.Log.{PassSeen}
use Rattle.kc_table.proofs.Prefixes.{prefix_trans}
use Rattle.kc_order.proofs.Reading.{absent_second}
use Rattle.kc_order.proofs.collect.first_collect.Goals as goal

pub returns-in-Err-clause-absent : goal.returns-in-Err-clause-absent
returns-in-Err-clause-absent c =
    let one = c.in_ok-item_x in
    absent_second c.args.pass.now c.load_item.new.pass c.load_item-2.new.pass c.args.x c.args.y one.item_x.value c.in-Err.absent
    one.ensures.loaded one.ensures.group.0 c.in-Err.ensures.absent

pub returns-clause-longer : goal.returns-clause-longer
returns-clause-longer c =
    let old = c.args.pass.now.log in
    let item-x = c.load_item.new.pass.log in
    let item-y = c.load_item-2.new.pass.log in
    let group-x = c.load_word-group_x.new.pass.log in
    let group-y = c.load_word-group_y.new.pass.log in
    let items = prefix_trans old item-x item-y c.in_ok-item_x.ensures.longer c.in-Ok.ensures.longer in
    let groups = prefix_trans item-y group-x group-y c.load_word-group_x.ensures.longer c.load_word-group_y.ensures.longer in
    subst (IsPrefix old) (ap (λ (s : PassSeen). s.log) (sym c.split.ensures.old)) (prefix_trans old item-y group-y items groups)
