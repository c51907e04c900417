-- The items before the next have their places, and other words are as they were.
use Rattle.std.proofs.Common.{◌+◌, ◌<◌, ◌∙◌, get_or, length, refl, arith}
use Rattle.kc_list.proofs.Openings.{item_there, placed_step}
use Rattle.kc_lists.proofs.Counting.{member-get_or}
use Rattle.kc_list.proofs.opening.place_items.Goals as goal

pub bounds-words-order : goal.bounds-words-order
bounds-words-order c = omega (
  arith,
  c.requires.within (get_or c.args.order.now c.loop-i.i 0) (member-get_or c.args.order.now c.loop-i.i 0 c.loop-i-test.true),
  c.loop-i.auto.words,
)

pub loop-i-preserved : goal.loop-i-preserved
loop-i-preserved c =
    let in-words : 1 + get_or c.args.order.now c.loop-i.i 0 < length c.loop-i.words =
    omega (
      arith,
      c.requires.within (get_or c.args.order.now c.loop-i.i 0) (member-get_or c.args.order.now c.loop-i.i 0 c.loop-i-test.true),
      c.loop-i.auto.words,
    ) in
    placed_step c.args.order.now c.args.words.now c.loop-i.words c.args.version c.loop-i.i c.pack.result c.requires.distinct c.loop-i-test.true in-words
    (c.pack.ensures.read_back ∙ item_there (length c.args.order.now) c.loop-i.i c.min-count.result c.args.version c.spread.result _ c.loop-i-test.true
    c.min-count.ensures c.spread.ensures refl) c.loop-i.invariant.0 c.loop-i.invariant.1
