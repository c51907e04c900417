-- The ranges reach beyond the last id, which is the greatest.
use Rattle.std.proofs.Common.{◌≤◌, ◌<◌, ◌*◌, ◌+◌, ◌-◌, ◌/◌, ℕ, length, get_or, arith}
use Rattle.std.proofs.Math.Nat.{lt-mul-div-succ}
use Rattle.kc_text.proofs.Ranges.{is_non_decreasing}
use Rattle.kc_text.proofs.buckets.range_width.Goals as goal

pub returns-in-Some-clause-reach : goal.returns-in-Some-clause-reach
returns-in-Some-clause-reach c = λ k d l.
    let some : 0 < length c.args.ids.now = omega arith in
    let last : ℕ = length c.args.ids.now - 1 in
    let most : get_or c.args.ids.now k d ≤ get_or c.args.ids.now last d = is_non_decreasing c.args.ids.now c.requires k last d (omega arith) (omega arith) in
    let reach : c.from.result < length c.args.ids.now * (c.from.result / length c.args.ids.now + 1) =
    lt-mul-div-succ c.from.result {b = length c.args.ids.now} some in
    omega (arith, c.in-Some.ensures.item.3.1 d)
