-- The stretches that begin at the place or before it are the first ones, and the first of all is one of them.
use Rattle.std.proofs.Common.{◌-◌, leb, refl, rules}
use Rattle.std.proofs.lemmas.List.Sorted.{IsPartitionPoint-from_clause, IsPartitionedBy-leb}
use Rattle.kc_claims.specs.declared.stretch.Stretch.{Stretch}
use Rattle.kc_claims.proofs.Stretched.{IsStretchOf-point, places-rise, some-begun}
use Rattle.kc_claims.proofs.stretch.stretch_of.Goals as goal

pub overflow_sub-result : goal.overflow_sub-result
overflow_sub-result c =
    let (claims, h, l) = c.requires in
    some-begun claims c.args.stretches.now h c.args.place c.partition_point-begun.result l c.partition_point-begun.ensures.bound
    (IsPartitionPoint-from_clause (λ (s : Stretch). leb s.place c.args.place) c.args.stretches.now c.partition_point-begun.result
    c.partition_point-begun.ensures.partitioned
    (IsPartitionedBy-leb (λ (s : Stretch). s.place) c.args.stretches.now c.args.place (places-rise claims c.args.stretches.now h))
    (λ a r f' called. search rules))

pub returns : goal.returns
returns c =
    let (claims, h, l) = c.requires in (
      c.partition_point-begun.result - 1,
      IsStretchOf-point claims c.args.stretches.now h c.args.place c.partition_point-begun.result l c.partition_point-begun.ensures.bound
          (IsPartitionPoint-from_clause (λ (s : Stretch). leb s.place c.args.place) c.args.stretches.now c.partition_point-begun.result
          c.partition_point-begun.ensures.partitioned
          (IsPartitionedBy-leb (λ (s : Stretch). s.place) c.args.stretches.now c.args.place (places-rise claims c.args.stretches.now h))
          (λ a r f' called. search rules)),
      refl,
    )
