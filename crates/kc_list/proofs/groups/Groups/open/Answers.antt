-- At the opening the groups that no item has are on the stack.
use Rattle.std.proofs.Common.{◌≡◌, ◌+◌, ◌∙◌, length, arith}
use Rattle.kc_list.proofs.GroupSizes.{whole_back, opened_tally}
use Rattle.kc_list.proofs.groups.Groups.open.Goals as goal

pub invariant_of-result : goal.invariant_of-result
invariant_of-result c =
    let s-len : length c.fill_sizes.new.sizes ≡ c.args.items + 2 = omega (arith, c.fill_sizes.auto.sizes, c.deref_mut.ensures.len, c.in_ok-sizes.ensures.len) in
    let f-len : length c.fill_free.new.free ≡ c.args.items + 1 = omega (arith, c.fill_free.auto.free, c.deref_mut-2.ensures.len, c.in_ok-free.ensures.len) in
    let s = whole_back c.fill_sizes.new.sizes c.in_ok-sizes.sizes.items c.in_ok-sizes.sizes.len (omega arith) (omega arith) in
    let f = whole_back c.fill_free.new.free c.in_ok-free.free.items c.in_ok-free.free.len (omega arith) (omega arith) in
    rw (s, f) (
      opened_tally c.fill_sizes.new.sizes c.fill_free.new.free c.args.items c.args.len c.div_ceil-used.result s-len f-len c.requires.within
          (c.div_ceil-used.ensures ∙ omega arith) (λ g low high. c.fill_sizes.ensures.sizes g low (omega arith))
          (λ i l. c.fill_free.ensures i (omega arith) ∙ omega arith),
      omega arith,
      omega arith,
    )
