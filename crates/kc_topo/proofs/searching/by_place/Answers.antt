-- A vertex has a place within the list, and any other number the place behind it.
use Rattle.std.proofs.Common.{◌<◌, sym, ◌∙◌, arith, inl, inr, true≢false, Equal, Greater, Less}
use Rattle.std.specs.Cmp.{nat_cmp_is}
use Rattle.kc_lists.specs.Lists.{place_of}
use Rattle.kc_order.specs.Standing.{list_after}
use Rattle.kc_topo.proofs.Sorting.{place-high, place-low}
use Rattle.kc_topo.proofs.Walks.{one-first}
use Rattle.kc_topo.proofs.searching.by_place.Goals.{else-x-size-via-then-x-size+else-y-size, else-x-size-via-else-x-size}
use Rattle.kc_topo.proofs.searching.by_place.Goals as goal

pub returns-then-y-size : goal.returns-then-y-size
returns-then-y-size c =
    let t = c.args.writer.now.table in
    let log = c.args.writer.now.log in
    let hx = place-high t log c.requires.legal c.args.x (omega (arith, c.requires.size, c.if-x-size.true)) in
    let hy = place-high t log c.requires.legal c.args.y (omega (arith, c.requires.size, c.if-y-size.true)) in
    nat_cmp_is (place_of c.args.x (list_after t log)) (place_of c.args.y (list_after t log)) Equal (hx ∙ sym hy)

pub returns-then-x-size-2 : goal.returns-then-x-size-2
returns-then-x-size-2 c =
    let t = c.args.writer.now.table in
    let log = c.args.writer.now.log in
    let hx = place-high t log c.requires.legal c.args.x (omega (arith, c.requires.size, c.if-x-size-2.true)) in
    let low : c.args.y < c.args.size = elim c.else-x-size.branch [
      | else-x-size-via-then-x-size+else-y-size w ↦ omega (arith, w.if-y-size.false)
      | else-x-size-via-else-x-size w ↦ absurd (omega (arith, w.if-x-size.false, c.if-x-size-2.true))
    ] in
    let hy = place-low t log c.requires.dag c.args.y (omega (arith, c.requires.size, low)) in
    nat_cmp_is (place_of c.args.x (list_after t log)) (place_of c.args.y (list_after t log)) Greater (omega (arith, hx, hy))

pub returns-then-y-size-2 : goal.returns-then-y-size-2
returns-then-y-size-2 c =
    let t = c.args.writer.now.table in
    let log = c.args.writer.now.log in
    let hx = place-low t log c.requires.dag c.args.x (omega (arith, c.requires.size, c.if-x-size-2.false)) in
    let hy = place-high t log c.requires.legal c.args.y (omega (arith, c.requires.size, c.if-y-size-2.true)) in
    nat_cmp_is (place_of c.args.x (list_after t log)) (place_of c.args.y (list_after t log)) Less (omega (arith, hx, hy))

pub returns-else-precedes : goal.returns-else-precedes
returns-else-precedes c =
    let t = c.args.writer.now.table in
    let log = c.args.writer.now.log in
    let x-in = c.requires.dag.vertices c.args.x (omega (arith, c.requires.size, c.if-x-size-2.false)) in
    let y-in = c.requires.dag.vertices c.args.y (omega (arith, c.requires.size, c.if-y-size-2.false)) in
    elim (one-first c.args.x c.args.y (list_after t log) x-in y-in c.if-x-y.false) [
      | inl s ↦ absurd (true≢false (sym (c.precedes.ensures.1 s) ∙ c.if-precedes.false))
      | inr s ↦ nat_cmp_is (place_of c.args.x (list_after t log)) (place_of c.args.y (list_after t log)) Greater s.before
    ]
