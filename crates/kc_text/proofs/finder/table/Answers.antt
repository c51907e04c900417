-- The ids differ, so that a place that stands in the table is written over by none.
use Rattle.std.proofs.Common.{◌≡◌, ◌<◌, ◌+◌, ℕ, List, length, get_or, set, sym, ap, ◌∙◌, arith, inl, inr, length-set}
use Rattle.std.specs.Prelude.{All}
use Rattle.std.specs.List.Sorted.{IsStrictlyIncreasing}
use Rattle.std.proofs.lemmas.Bool.{cases_eq}
use Rattle.std.proofs.lemmas.List.{get_or-set_same, get_or-set_other, get_or_default}
use Rattle.std.proofs.lemmas.Map.Keys.{sorted_from_strictly_increasing, below_from_sorted}
use Rattle.kc_text.specs.Finding.{IsPlaceTable}
use Rattle.kc_text.proofs.Members.{Contains-from_member}
use Rattle.kc_text.proofs.Places.{place-found}
use Rattle.kc_text.proofs.finder.table.Goals as goal

-- one place more
place-more : (ids table : List ℕ) (i : ℕ) → IsStrictlyIncreasing ids → i < length ids → get_or ids i 0 < length table
    → ((k : ℕ) → k < i → get_or table (get_or ids k 0) 0 ≡ k)
    → (k : ℕ) → k < i + 1 → get_or (set table (get_or ids i 0) i) (get_or ids k 0) 0 ≡ k
place-more ids table i up l within before k lk = elim (cases_eq k i) [
  | inl same ↦ ap (λ (j : ℕ). get_or (set table (get_or ids i 0) i) (get_or ids j 0) 0) same ∙ get_or-set_same table (get_or ids i 0) i 0 within ∙ sym same
  | inr other ↦
      let lt : get_or ids k 0 < get_or ids i 0 = below_from_sorted ids k i 0 (sorted_from_strictly_increasing ids up) (omega arith) l in
      get_or-set_other table (get_or ids i 0) (get_or ids k 0) i 0 (λ e. absurd (omega arith)) ∙ before k (omega arith)
]

-- the table of all places
table-whole : (ids table : List ℕ) (len : ℕ) → IsStrictlyIncreasing ids → All (λ id. id < len) ids → length table ≡ len
    → ((k : ℕ) → k < length ids → get_or table (get_or ids k 0) 0 ≡ k) → IsPlaceTable ids table
table-whole ids table len up below as_many each = record {
  within = λ id h.
      let (k, l, e) = Contains-from_member ids id h in
      let b : get_or ids k id < len = below k id l in
      omega arith;
  each = λ id h.
      let (k, l, e) = Contains-from_member ids id h in
      let here : get_or ids k 0 ≡ id = get_or_default ids k 0 id l ∙ e in
      ap (λ (i : ℕ). get_or table i 0) (sym here) ∙ each k l ∙ sym (place-found ids id k up l here);
}

pub loop-i-preserved : goal.loop-i-preserved
loop-i-preserved c = record {
  as_many = length-set c.loop-i.table.items (get_or c.args.ids.now c.loop-i.i 0) c.loop-i.i ∙ c.loop-i.invariant.as_many;
  each = place-more c.args.ids.now c.loop-i.table.items c.loop-i.i c.requires.ascending c.loop-i-test.true
      (let b = c.requires.long c.loop-i.i 0 c.loop-i-test.true in omega (arith, c.loop-i.invariant.as_many)) c.loop-i.invariant.each;
}

pub returns : goal.returns
returns c = table-whole c.args.ids.now c.loop-i.table.items c.args.len c.requires.ascending c.requires.long c.loop-i.invariant.as_many
    (λ k l. c.loop-i.invariant.each k (omega arith))
