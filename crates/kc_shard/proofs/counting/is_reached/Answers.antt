-- The next block and what is left after it make up the rest.
use Rattle.std.proofs.Common.{◌≡◌, ◌<◌, ◌∙◌, ℕ, List, ap, arith, get_or, length, map, subst, sym, take}
use Rattle.std.specs.Prelude.{All}
use Rattle.std.proofs.lemmas.List.Elements.{All-drop}
use Rattle.kc_shard.specs.HIndex.{how_many_reach}
use Rattle.kc_shard.proofs.BoundedCounts.{reach-parts}
use Rattle.kc_shard.proofs.counting.is_reached.Goals as goal

pub loop-reached-preserved : goal.loop-reached-preserved
loop-reached-preserved c =
    let reach : List ℕ → ℕ = λ ws. how_many_reach c.args.limit (map (λ w. get_or c.args.numbers.now w 0) ws) in
    let rest : List ℕ = c.loop-reached.rest.now in
    let front : c.how_many-reached.result ≡ reach (take c.min.result rest) = c.how_many-reached.ensures ∙ ap reach c.split_at.ensures.front in (
      omega (
        arith,
        c.loop-reached.invariant.0,
        front,
        ap reach c.split_at.ensures.back,
        reach-parts (λ w. get_or c.args.numbers.now w 0) c.args.limit c.min.result rest,
      ),
      omega (arith, c.split_at.ensures.back_len, c.loop-reached.invariant.1),
      subst (λ (ws : List ℕ). All (λ w. w < length c.args.numbers.now) ws) (sym c.split_at.ensures.back)
          (All-drop (λ w. w < length c.args.numbers.now) c.min.result rest c.loop-reached.invariant.2),
    )
