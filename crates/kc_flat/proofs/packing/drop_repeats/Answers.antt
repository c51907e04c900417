-- The part behind the packed ones is packed behind them.
use Rattle.std.proofs.Common.{◌≡◌, ◌≤◌, ◌<◌, ℕ, List, length, get_or, ap, ap₂, sym, ◌∙◌, subst, arith}
use Rattle.std.specs.List.{between}
use Rattle.std.specs.List.Sorted.{IsNonDecreasing, IsStrictlyIncreasing}
use Rattle.kc_lists.specs.Lists.{member}
use Rattle.kc_flat.specs.Parts.{part, Fills}
use Rattle.kc_flat.proofs.Cutting.{between-back, ends-within}
use Rattle.kc_flat.proofs.Packed.{PackedTo, packed-to_more, part-front}
use Rattle.kc_flat.proofs.packing.drop_repeats.Goals as goal

-- What is known at the part behind the packed ones.
record Reached (old_ends old ends block : List ℕ) (i from kept : ℕ) : Type 0 where
  end : get_or ends i 0 ≡ get_or old_ends i 0
  ordered : from ≤ get_or ends i 0
  within : get_or ends i 0 ≤ length block
  sorted : IsNonDecreasing (between from (get_or ends i 0) block)

-- So much is known in each round of the loop.
part-reached : (old_ends old ends block : List ℕ) (i from kept : ℕ) → Fills old_ends old
    → ((v : ℕ) → v < length old_ends → IsNonDecreasing (part old_ends old v)) → i < length old_ends
    → PackedTo old_ends old ends block i from kept → Reached old_ends old ends block i from kept
part-reached old_ends old ends block i from kept fills sorted l h =
    let end : get_or ends i 0 ≡ get_or old_ends i 0 = h.later i (omega arith) in
    let same : between from (get_or ends i 0) block ≡ part old_ends old i =
    between-back from (get_or ends i 0) from block old (omega arith) h.rest ∙ ap₂ (λ (a b : ℕ). between a b old) h.begins end in
    record {
      end = end;
      ordered = omega (arith, end, h.begins, fills.ordered i l);
      within = omega (arith, end, ends-within old_ends old fills i l, h.size);
      sorted = subst IsNonDecreasing (sym same) (sorted i l);
    }

pub pack_part-kept-requires-clause-within : goal.pack_part-kept-requires-clause-within
pack_part-kept-requires-clause-within c =
    (part-reached _ _ _ _ _ _ _ c.requires.fills c.requires.sorted (omega (arith, c.loop-end-test.true, c.loop-end.invariant.count))
    c.loop-end.invariant).within

pub loop-end-preserved : goal.loop-end-preserved
loop-end-preserved c =
    let l : c.loop-end.end-index < length c.args.ends.now = omega (arith, c.loop-end-test.true, c.loop-end.invariant.count) in
    let r = part-reached _ _ _ _ _ _ _ c.requires.fills c.requires.sorted l c.loop-end.invariant in
    let e = c.pack_part-kept.ensures in
    packed-to_more _ _ _ _ _ _ _ _ _ _ l r.end (c.requires.fills.ordered c.loop-end.end-index l) c.loop-end.invariant e.start e.end e.len e.before e.after
    e.ascends e.same

-- all parts are packed
whole : (old_ends old ends block : List ℕ) (i from kept : ℕ) → PackedTo old_ends old ends block i from kept → i ≤ length ends → length ends ≤ i
    → PackedTo old_ends old ends block (length old_ends) from kept
whole old_ends old ends block i from kept h l ge =
    let all : i ≡ length old_ends = omega (arith, h.count) in subst (λ (k : ℕ). PackedTo old_ends old ends block k from kept) all h

pub returns-clause-ascend : goal.returns-clause-ascend
returns-clause-ascend c v l =
    let h = whole _ _ _ _ _ _ _ c.loop-end.invariant (omega arith) (omega (arith, c.loop-end-test.false)) in
    subst IsStrictlyIncreasing (sym (part-front _ _ _ _ _ _ h (omega (arith, h.earlier, h.begins, c.requires.fills.whole, h.size)) v l))
    (h.ascends v (omega (arith, l, h.count)))

pub returns-clause-same : goal.returns-clause-same
returns-clause-same c v w l =
    let h = whole _ _ _ _ _ _ _ c.loop-end.invariant (omega arith) (omega (arith, c.loop-end-test.false)) in
    ap (member w) (part-front _ _ _ _ _ _ h (omega (arith, h.earlier, h.begins, c.requires.fills.whole, h.size)) v l)
    ∙ h.same v w (omega (arith, l, h.count))
