-- Those that are the level are taken off.
use Rattle.std.proofs.Common.{◌≡◌, ◌++◌, ◌∙◌, ℕ, List, [], ◌∷◌, ap, arith, below_more, count_by, leb, rules, sym}
use Rattle.std.proofs.Math.ListN.{get_or-append}
use Rattle.std.proofs.Math.Seq.{get_or-append_seam}
use Rattle.kc_graph.specs.Peeling.{at}
use Rattle.kc_cores.proofs.Sizing.{count-step, count-zero}
use Rattle.kc_cores.proofs.sizes.at_least.Goals as goal

pub loop-count-init : goal.loop-count-init
loop-count-init c = record {
  rest = count-zero c.args.numbers.now;
  size = search rules;
  each = λ k l. absurd (omega arith);
}

pub overflow_sub-rest : goal.overflow_sub-rest
overflow_sub-rest c =
    let i : ℕ = c.loop-count.count-index in
    omega (arith, count-step i c.args.numbers.now, c.requires i (omega arith), c.loop-count.invariant.rest)

pub loop-count-preserved : goal.loop-count-preserved
loop-count-preserved c =
    let i : ℕ = c.loop-count.count-index in
    let before : List ℕ = c.loop-count.left.items in
    let rest : ℕ = c.loop-count.rest in
    let here : at c.push.new.self.items i ≡ rest = ap (λ xs. at xs i) c.in_ok-push.ensures.items
    ∙ ap (at (before ++ rest ∷ [])) (sym c.loop-count.invariant.size) ∙ get_or-append_seam before rest [] 0 in
    record {
      rest = omega (arith, count-step i c.args.numbers.now, c.requires i (omega arith), c.loop-count.invariant.rest);
      size = search rules;
      each = below_more (λ k. at c.push.new.self.items k ≡ count_by (leb k) c.args.numbers.now) i
          (λ k l. ap (λ xs. at xs k) c.in_ok-push.ensures.items
          ∙ get_or-append before (rest ∷ []) 0 k (omega (arith, c.loop-count.invariant.size)) ∙ c.loop-count.invariant.each k l)
          (here ∙ c.loop-count.invariant.rest);
    }
