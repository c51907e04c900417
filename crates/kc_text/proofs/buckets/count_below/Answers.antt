-- Ascending ids are parted at a bound.
use Rattle.std.proofs.Common.{ℕ, nat_lt, rules, ltb-true, ltb-false}
use Rattle.std.proofs.lemmas.List.Sorted.{IsPartitionedBy-ltb, IsPartitionPoint-from_clause}
use Rattle.kc_text.proofs.Ranges.{is_non_decreasing}
use Rattle.kc_text.proofs.buckets.count_below.Goals as goal

pub returns : goal.returns
returns c =
    let h = IsPartitionPoint-from_clause (λ (id : ℕ). nat_lt id c.args.bound) c.args.ids.now c.partition_point.result c.partition_point.ensures.partitioned
    (IsPartitionedBy-ltb (λ (id : ℕ). id) c.args.ids.now c.args.bound (is_non_decreasing c.args.ids.now c.requires)) (λ a r f' called. search rules) in
    record {
      within = c.partition_point.ensures.bound;
      parted = (λ k d l m. ltb-true _ _ (h.0 k d l m), λ k d l m. ltb-false _ _ (h.1 k d l m));
    }
