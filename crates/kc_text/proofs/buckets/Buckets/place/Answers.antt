-- An id that is there stands in its range, so it is found, at its place in the range behind all ids before that.
use Rattle.kc_text.proofs.Ranges.{found_in_range, not_lost_in_range}
use Rattle.kc_text.proofs.buckets.Buckets.place.Goals as goal

pub unreachable-requires : goal.unreachable-requires
unreachable-requires c =
    not_lost_in_range c.args.ids.now c.args.id c.range-start.result.0 c.range-start.result.1.now c.in-Err.field-0 c.range-start.ensures
    c.requires.ascending c.requires.there c.in-Err.ensures.position

pub returns : goal.returns
returns c =
    found_in_range c.args.ids.now c.args.id c.range-start.result.0 c.range-start.result.1.now c.in-Ok.i c.range-start.ensures
    c.requires.ascending c.in-Ok.ensures.position
