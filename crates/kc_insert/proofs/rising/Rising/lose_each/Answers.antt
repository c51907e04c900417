-- The row has the next neighbour once, so it loses for the first time, on top of what those before it lost.
use Rattle.std.proofs.Common.{◌≡◌, ◌+◌, ℕ, false, List, [], ◌∷◌, ◌++◌, get_or, take, sym, subst}
use Rattle.std.proofs.lemmas.List.{take_more, take_all}
use Rattle.kc_lists.specs.Lists.{member}
use Rattle.kc_lists.proofs.Counting.{take-not_here}
use Rattle.kc_insert.specs.Turns.{Loses}
use Rattle.kc_insert.proofs.Losses.{lose-orderly, loses-none, loses-one, loses-more}
use Rattle.kc_insert.proofs.rising.Rising.lose_each.Goals as goal

pub loop-y-init : goal.loop-y-init
loop-y-init c = record { orderly = c.requires.orderly; loses = loses-none c.args.level c.args.loss c.args.self.now }

pub loop-y-preserved : goal.loop-y-preserved
loop-y-preserved c =
    let row = c.args.row.now in
    let y : ℕ = get_or row c.loop-y.y-index 0 in
    let p = take c.loop-y.y-index row in
    let i = c.loop-y.invariant in
    let e = c.in_ok-lose.ensures in
    let new' : member y p ≡ false = take-not_here c.loop-y.y-index row c.loop-y-test.true c.requires.once in
    let seam : take (c.loop-y.y-index + 1) row ≡ p ++ y ∷ [] = take_more row c.loop-y.y-index 0 c.loop-y-test.true in
    record {
      orderly = lose-orderly c.args.level c.args.loss y c.loop-y.self c.lose.new.self i.orderly e;
      loses = subst (λ (xs : List ℕ). Loses c.args.level c.args.loss xs c.args.self.now c.lose.new.self) (sym seam)
          (loses-more c.args.level c.args.loss y p c.args.self.now c.loop-y.self c.lose.new.self i.loses
          (loses-one c.args.level c.args.loss y c.loop-y.self c.lose.new.self i.orderly e) new');
    }

pub returns-clause-orderly : goal.returns-clause-orderly
returns-clause-orderly c = c.loop-y.invariant.orderly

pub returns-clause-loses : goal.returns-clause-loses
returns-clause-loses c =
    subst (λ (xs : List ℕ). Loses c.args.level c.args.loss xs c.args.self.now c.loop-y.self)
    (take_all c.loop-y.y-index c.args.row.now c.loop-y-test.false) c.loop-y.invariant.loses
