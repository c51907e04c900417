-- The numbers below a bound are distinct.
use Rattle.std.proofs.Common.{◌<◌, arith}
use Rattle.kc_list.proofs.GroupSizes.{Distinct-from}
use Rattle.kc_list.proofs.Groupings.{index_of}
use Rattle.kc_order_tests.proofs.plain_lists.ascending.Goals as goal

pub open-requires-clause-distinct : goal.open-requires-clause-distinct
open-requires-clause-distinct c =
    rw c.as_slice.ensures.value
    (Distinct-from c.in_ok-order.order.items (λ i j l k e.
    let a = c.in_ok-order.ensures.each i (omega (arith, c.in_ok-order.ensures.length)) in
    let b = c.in_ok-order.ensures.each j (omega (arith, c.in_ok-order.ensures.length)) in
    absurd (omega arith)))

pub open-requires-clause-within : goal.open-requires-clause-within
open-requires-clause-within c =
    rw c.as_slice.ensures.value (λ x m.
    let r = index_of x c.in_ok-order.order.items m in
    let l : r.0 < c.args.len = omega (arith, r.1, c.in_ok-order.ensures.length) in
    omega (arith, r.2, c.in_ok-order.ensures.each r.0 l))
