-- The id divided by the width is the number of its range, and the id stands between that range's begin and the next one's.
use Rattle.std.proofs.Common.{◌/◌, arith}
use Rattle.kc_text.proofs.Ranges.{Bounds, bounds_of, part_between}
use Rattle.kc_text.proofs.buckets.Buckets.range.Goals as goal
use Rattle.kc_text.proofs.buckets.Buckets.range.Goals.{After-from}

-- what the table says of the range of the id
range-bounds : (c : After-from) → Bounds c.args.ids.now c.as_slice-begins.result.now c.args.id (c.from.result / c.args.self.now.width)
range-bounds c =
    bounds_of c.args.ids.now c.args.self.now.width c.args.self.now.begins.items c.as_slice-begins.result.now c.args.id c.from.result
    c.requires.buckets c.requires.there c.as_slice-begins.ensures.value c.from.ensures

pub bounds-begins-k : goal.bounds-begins-k
bounds-begins-k c = let b = range-bounds (goal.at.bounds-begins-k c).After-from in omega (arith, b.exists)

pub bounds-begins-k-2 : goal.bounds-begins-k-2
bounds-begins-k-2 c = (range-bounds (goal.at.bounds-begins-k-2 c).After-from).exists

pub split_at-requires : goal.split_at-requires
split_at-requires c = let b = range-bounds (goal.at.split_at-requires c).After-from in omega (arith, b.ordered, b.within)

pub overflow_sub-high : goal.overflow_sub-high
overflow_sub-high c = (range-bounds (goal.at.overflow_sub-high c).After-from).ordered

pub split_at-requires-2 : goal.split_at-requires-2
split_at-requires-2 c = let b = range-bounds (goal.at.split_at-requires-2 c).After-from in omega (arith, b.within, c.split_at.ensures.back_len)

pub returns : goal.returns
returns c =
    let b = range-bounds (goal.at.returns c).After-from in
    part_between c.args.ids.now c.split_at.result.1.now c.split_at-2.result.0.now c.args.id _ _ b.ordered b.within c.split_at.ensures.back
    c.split_at-2.ensures.front b.all
