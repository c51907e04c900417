-- One more has risen at each turn, before the others.
use Rattle.std.proofs.Common.{◌≡◌, ◌<◌, ◌≤◌, ◌+◌, ◌-◌, ℕ, List, true, length, get_or, sym, ap, subst, arith}
use Rattle.kc_lists.specs.Lists.{member}
use Rattle.kc_lists.proofs.Counting.{member-get_or}
use Rattle.kc_graph.specs.Plans.{put_between, renumbered}
use Rattle.kc_table.specs.Log.{TableName}
use Rattle.kc_levels.specs.Heads.{up_to}
use Rattle.kc_levels.specs.Levels.{Levelled, size_of}
use Rattle.kc_levels.specs.Makes.{PutsAll, backwards}
use Rattle.kc_levels.proofs.Steps.{rise-none, raise-may, raise-next, drop_whole}
use Rattle.kc_levels.proofs.making.raise_each.Goals as goal

-- where a vertex rises there is a level above
rise-room : (old : Levelled) (rise : List ℕ) (i level : ℕ) → ((v : ℕ) → member v rise ≡ true → level + 1 < size_of old) → 0 < i → i ≤ length rise
    → level + 1 < size_of old
rise-room old rise i level h some most = h (get_or rise (i - 1) 0) (member-get_or rise (i - 1) 0 (omega (arith, some, most)))

pub loop-i-init : goal.loop-i-init
loop-i-init c =
    let rise : List ℕ = c.args.rise.now in
    let old : Levelled = c.args.levels.now in
    record {
      within = omega arith;
      puts = subst (λ (z : List ℕ). PutsAll old old (backwards z) (put_between (up_to old.core c.args.level) z old.order)
          (renumbered z (c.args.level + 1) old.core)) (sym (drop_whole rise)) (rise-none old c.args.level c.requires.may.are);
    }

pub overflow_add-level : goal.overflow_add-level
overflow_add-level c =
    omega (
      arith,
      rise-room c.args.levels.now c.args.rise.now c.loop-i.i c.args.level c.requires.room c.loop-i-test.true c.loop-i.invariant.within,
      c.requires.may.are.few,
    )

pub to_front-requires-clause-may : goal.to_front-requires-clause-may
to_front-requires-clause-may c =
    (raise-may c.args.levels.now c.loop-i.levels c.args.rise.now c.loop-i.i c.args.level c.requires.may c.requires.once c.loop-i-test.true
    c.loop-i.invariant.within c.loop-i.invariant.puts).0

pub to_front-requires-clause-versions : goal.to_front-requires-clause-versions
to_front-requires-clause-versions c =
    (raise-may c.args.levels.now c.loop-i.levels c.args.rise.now c.loop-i.i c.args.level c.requires.may c.requires.once c.loop-i-test.true
    c.loop-i.invariant.within c.loop-i.invariant.puts).1

pub to_front-requires-clause-level : goal.to_front-requires-clause-level
to_front-requires-clause-level c = omega (
  arith,
  rise-room c.args.levels.now c.args.rise.now c.loop-i.i c.args.level c.requires.room c.loop-i-test.true c.loop-i.invariant.within,
  ap (λ (t : TableName). t.shape.fixed) c.loop-i.invariant.puts.table,
)

pub loop-i-preserved : goal.loop-i-preserved
loop-i-preserved c = record {
  within = omega (arith, c.loop-i.invariant.within);
  puts = raise-next c.args.levels.now c.loop-i.levels c.to_front.new.self c.args.rise.now c.loop-i.i c.args.level _ c.requires.may c.requires.once
      c.loop-i-test.true c.loop-i.invariant.within c.loop-i.invariant.puts c.to_front.ensures;
}
