-- The product may wrap before the summand comes: the sum is the same modulo 2^64.
use Rattle.std.proofs.Common.{◌+◌, ◌∙◌, ◌*◌, ◌^◌, ap, ◌/◌, ◌%◌, ℕ}
use Rattle.std.proofs.Math.Nat.{mod-add-mod}
use Rattle.kc_report.specs.TextDraws.{drawn, next_state}
use Rattle.kc_report.proofs.draws.TextDraws.below.Goals as goal

pub returns-clause-state : goal.returns-clause-state
unfolding next_state
returns-clause-state c = mod-add-mod (c.args.self.now.state * 6364136223846793005) (2 ^ 64) 1442695040888963407

pub returns-clause-drawn : goal.returns-clause-drawn
unfolding next_state drawn
returns-clause-drawn c =
    ap (λ (bound : ℕ). (c.args.self.now.state * 6364136223846793005 % 2 ^ 64 + 1442695040888963407) % 2 ^ 64 / 2 ^ 33 % bound) c.from.ensures
    ∙ ap (λ (state : ℕ). state / 2 ^ 33 % c.args.bound) (mod-add-mod (c.args.self.now.state * 6364136223846793005) (2 ^ 64) 1442695040888963407)
