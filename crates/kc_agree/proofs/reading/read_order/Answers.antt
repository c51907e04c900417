-- Where the comparison misses or there is no memory, nothing more was read. Else how the two stood is one answer more.
use Rattle.std.proofs.Common.{ap, refl}
use Rattle.kc_view.specs.Memory.{Memory}
use Rattle.kc_agree.proofs.OneMore.{same_read, order_read, stood_so}
use Rattle.kc_agree.proofs.reading.read_order.Goals as goal

pub returns-in-Err-clause-read : goal.returns-in-Err-clause-read
returns-in-Err-clause-read c = λ opened h.
    let before = c.args.pass.now in
    let after = c.compare.new.pass in
    same_read before.table after.table opened before.log after.log c.args.memo.now.kept _
    c.compare.ensures.table c.compare.ensures.longer refl h

pub returns-in-Err-keep_order-clause-read : goal.returns-in-Err-keep_order-clause-read
returns-in-Err-keep_order-clause-read c = λ opened h.
    let before = c.args.pass.now in
    let after = c.compare.new.pass in
    same_read before.table after.table opened before.log after.log c.args.memo.now.kept _
    c.compare.ensures.table c.compare.ensures.longer (ap (λ (m : Memory). m.kept) c.in-Err-keep_order.ensures.err) h

pub returns-in-Err-keep_order-clause-cause : goal.returns-in-Err-keep_order-clause-cause
returns-in-Err-keep_order-clause-cause c = (c.in-Ok.before, c.in-Ok.ensures.compared)

pub returns-in-Ok-keep_order-clause-read : goal.returns-in-Ok-keep_order-clause-read
returns-in-Ok-keep_order-clause-read c = λ opened h.
    let before = c.args.pass.now in
    let after = c.compare.new.pass in
    order_read before.table after.table opened before.log after.log c.args.memo.now.kept _ c.args.x c.args.y c.in-Ok.before
    c.compare.ensures.table (stood_so before after c.args.x c.args.y c.in-Ok.before c.in-Ok.ensures.compared)
    (ap (λ (m : Memory). m.kept) c.in-Ok-keep_order.ensures.ok) c.requires.differ
    c.requires.first_read c.requires.second_read h
