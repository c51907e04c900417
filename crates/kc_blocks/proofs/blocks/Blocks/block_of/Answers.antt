-- The first block begins where the list does, and at the end no block lies between.
use Rattle.std.proofs.Common.{◌≡◌, ◌<◌, ◌+◌, ℕ, List, length, get_or, ap, ◌∙◌, arith}
use Rattle.kc_blocks.proofs.Placed.{first-start, as-many}
use Rattle.kc_blocks.proofs.blocks.Blocks.block_of.Goals as goal

pub loop-end-init : goal.loop-end-init
loop-end-init c =
    let starts : List ℕ = c.args.self.now.starts.items in
    let n : length starts ≡ length c.args.self.now.blocks.items = as-many c.args.self.now c.requires.placed in
    let all : c.len-end.result ≡ length starts = omega (arith, c.len-end.ensures, c.args.self.now.starts.ok.0) in
    let first : get_or starts 0 0 ≡ 0 = ap (λ (t : List ℕ). get_or t 0 0) c.requires.placed ∙ first-start c.args.self.now.blocks.items in
    record {
      below = omega (arith, all, n, c.requires.some);
      within = omega (arith, all);
      begun = omega (arith, first);
      next = λ l. absurd (omega (arith, l, all));
    }

pub returns : goal.returns
returns c =
    let n = as-many c.args.self.now c.requires.placed in
    let i = c.loop-end.invariant in
    let one : c.loop-end.end ≡ c.loop-end.block + 1 = omega (arith, i.below, c.loop-end-test.false) in
    record {
      there = omega (arith, i.below, i.within, n);
      begun = i.begun;
      next = λ l.
          let m : c.args.place < get_or c.args.self.now.starts.items c.loop-end.end 0 = i.next (omega (arith, l, n, one)) in
          omega (arith, m, ap (λ k. get_or c.args.self.now.starts.items k 0) one);
    }
