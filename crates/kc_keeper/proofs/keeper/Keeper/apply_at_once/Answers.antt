-- The copy has as many vertices after the updates as before, and a core number for each.
use Rattle.std.proofs.Common.{◌≡◌, ◌<◌, ℕ, ap, ◌∙◌, arith}
use Rattle.kc_graph.specs.SimpleGraph.{SimpleGraph}
use Rattle.kc_keeper.proofs.InTurn.{size-made}
use Rattle.kc_keeper.proofs.keeper.Keeper.apply_at_once.Goals as goal

pub tell_cores-requires-clause-long : goal.tell_cores-requires-clause-long
tell_cores-requires-clause-long c =
    let size : SimpleGraph → ℕ = λ g. g.size in
    omega (
      arith,
      c.core_numbers.ensures.seidman.one_each,
      c.core.ensures.seidman.one_each,
      ap size (c.in_ok-lawful.ensures.same ∙ c.in_ok-make_all_in.ensures.graph),
      size-made c.in_ok-graph.graph c.args.updates.now,
      ap size (c.in_ok-graph.ensures ∙ c.graph.ensures),
    )

pub tell_cores-requires-clause-few : goal.tell_cores-requires-clause-few
tell_cores-requires-clause-few c =
    let size : SimpleGraph → ℕ = λ g. g.size in
    omega (
      arith,
      c.core.ensures.seidman.one_each,
      ap size (c.in_ok-lawful.ensures.same ∙ c.in_ok-make_all_in.ensures.graph),
      size-made c.in_ok-graph.graph c.args.updates.now,
      ap size (c.in_ok-graph.ensures ∙ c.graph.ensures),
    )

pub go_on_with-requires : goal.go_on_with-requires
go_on_with-requires c =
    let size : SimpleGraph → ℕ = λ g. g.size in
    ap size (c.in_ok-lawful.ensures.same ∙ c.in_ok-make_all_in.ensures.graph)
    ∙ (size-made c.in_ok-graph.graph c.args.updates.now ∙ ap size (c.in_ok-graph.ensures ∙ c.graph.ensures))
