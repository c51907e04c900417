-- What has no fault is a shard. The counts have a place more than the longest row has entries.
use Rattle.std.proofs.Common.{◌∙◌, length, sym, arith}
use Rattle.kc_shard.proofs.Shards.{faultless-shard, same-lists}
use Rattle.kc_shard.proofs.round.h_index_round.Goals as goal

pub longest_row-requires-clause-ascending : goal.longest_row-requires-clause-ascending
longest_row-requires-clause-ascending c =
    (faultless-shard (length c.args.next.now) (length c.args.numbers.now) c.args.offsets.now c.args.neighbours.now
    (sym c.first_fault.ensures ∙ c.in_default.is)).ascending

pub longest_row-requires-clause-short : goal.longest_row-requires-clause-short
longest_row-requires-clause-short c =
    (faultless-shard (length c.args.next.now) (length c.args.numbers.now) c.args.offsets.now c.args.neighbours.now
    (sym c.first_fault.ensures ∙ c.in_default.is)).short

pub fill-requires-clause-shard : goal.fill-requires-clause-shard
fill-requires-clause-shard c =
    faultless-shard (length c.args.next.now) (length c.args.numbers.now) c.args.offsets.now c.args.neighbours.now
    (sym c.first_fault.ensures ∙ c.in_default.is)

pub returns-in-Ok-clause-settled : goal.returns-in-Ok-clause-settled
returns-in-Ok-clause-settled c =
    let shard = faultless-shard (length c.args.next.now) (length c.args.numbers.now) c.args.offsets.now c.args.neighbours.now
    (sym c.first_fault.ensures ∙ c.in_default.is) in
    let same = same-lists c.args.next.now c.fill.new.next (omega (arith, shard.one_more, c.fill.ensures.round.one_each)) in
    (λ e. same.0 (sym c.fill.ensures.changed ∙ e), λ e. c.fill.ensures.changed ∙ same.1 e)
