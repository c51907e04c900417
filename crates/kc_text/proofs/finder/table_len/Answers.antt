-- The last id is the greatest.
use Rattle.std.proofs.Common.{◌≤◌, ◌-◌, ℕ, length, get_or, arith}
use Rattle.kc_text.proofs.Ranges.{is_non_decreasing}
use Rattle.kc_text.proofs.finder.table_len.Goals as goal

pub returns-then-greatest-ids : goal.returns-then-greatest-ids
returns-then-greatest-ids c = λ k d l.
    let last : ℕ = length c.args.ids.now - 1 in
    let most : get_or c.args.ids.now k d ≤ get_or c.args.ids.now last d = is_non_decreasing c.args.ids.now c.requires k last d (omega arith) (omega arith) in
    omega (arith, c.in_ok-greatest.ensures.item.3.1 d)
