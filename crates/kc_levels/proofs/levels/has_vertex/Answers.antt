-- A level is empty where its head stands right before the next one.
use Rattle.std.proofs.Common.{◌+◌, ℕ, not, length, eqb}
use Rattle.std.proofs.lemmas.Bool.{eqb-true, eqb-false, not-true, not-false}
use Rattle.kc_levels.proofs.Topping.{stand-at, next_head-in}
use Rattle.kc_levels.proofs.levels.has_vertex.Goals as goal

pub before-requires : goal.before-requires
before-requires c = next_head-in c.args.writer.now c.args.core.now c.args.level c.requires.list c.requires.level

pub returns : goal.returns
returns c =
    let r : ℕ = c.unwrap_or.result in
    let d : ℕ = length c.args.core.now + c.args.level in
    stand-at c.args.writer.now c.args.core.now c.args.level r c.before-2.result
    (not (eqb r d)) c.requires.list c.requires.level c.before-2.ensures c.unwrap_or.ensures
    (λ t. eqb-false r d (not-true (eqb r d) t)) (λ f. eqb-true r d (not-false (eqb r d) f))
