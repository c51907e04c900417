-- An order is what the comparison found. One that found a word changed has missed.
use Rattle.std.proofs.Common.{◌∙◌, ap, arith, rules}
use Rattle.kc_graph.specs.declared.used.UsedOrder.{UsedOrder}
use Rattle.kc_view.specs.Answers.{has_core}
use Rattle.kc_stripes.specs.Reads.{IsMissed, Loosely, loosely}
use Rattle.kc_stripes.proofs.Giving.{missed_of}
use Rattle.kc_stripes.proofs.Loosening.{Goes, keeps_order, placed_below, sees_more}
use Rattle.kc_stripes.proofs.loose.LooseView.precedes.Given as given
use Rattle.kc_stripes.proofs.loose.LooseView.precedes.Goals.{In-Ok, After-saturating_add-self-inside}
use Rattle.kc_stripes.proofs.loose.LooseView.precedes.Goals as goal

-- what a call leaves that kept the order
keeps : (g : given.Over) (c : goal.In-Ok g) → Goes g.K.Name.opened g.S.Moment.log
    (loosely c.self.inside.memo c.self.inside.handed c.self.inside.misses c.self.inside.pass.log)
    (loosely c.read_order.new.memo c.self.inside.handed c.self.inside.misses c.read_order.new.pass.log)
keeps g c =
    let read = c.read_order.ensures in
    let order : UsedOrder = record { x = c.args.x; y = c.args.y; before = c.in-Ok.before } in
    keeps_order order c.self.invariant.1 read.table c.self.invariant.2 read.longer c.in-Ok.ensures.told read.read

-- what a call leaves that missed
misses : (g : given.Over) (c : goal.After-saturating_add-self-inside g)
    → Goes g.K.Name.opened g.S.Moment.log
    (loosely c.self.inside.memo c.self.inside.handed c.self.inside.misses c.self.inside.pass.log)
    (loosely c.read_order.new.memo c.self.inside.handed c.saturating_add-self-inside.result c.read_order.new.pass.log)
misses g c =
    sees_more c.saturating_add-self-inside.result c.self.invariant.2 c.read_order.ensures.longer (search rules) c.in-Err-Miss.ensures.same

pub read_order-requires-clause-first : goal.read_order-requires-clause-first
read_order-requires-clause-first g c =
    rw c.self.invariant.0 (placed_below c.args.x c.self.invariant.2 (ap (λ (z : Loosely). has_core z.kept c.args.x) c.self.view_is ∙ c.requires.first))

pub read_order-requires-clause-second : goal.read_order-requires-clause-second
read_order-requires-clause-second g c =
    rw c.self.invariant.0 (placed_below c.args.y c.self.invariant.2 (ap (λ (z : Loosely). has_core z.kept c.args.y) c.self.view_is ∙ c.requires.second))

pub invariant_of-self : goal.invariant_of-self
invariant_of-self g c = (
  c.self.invariant.0,
  c.read_order.ensures.table ∙ c.self.invariant.1,
  (keeps g (goal.at.invariant_of-self g c).In-Ok).is,
)

pub returns-in-Ok-clause-goes_on : goal.returns-in-Ok-clause-goes_on
returns-in-Ok-clause-goes_on g c = rw (← c.self.view_is) (keeps g (goal.at.returns-in-Ok-clause-goes_on g c).In-Ok).goes_on

pub invariant_of-self-in-Err-Miss : goal.invariant_of-self-in-Err-Miss
invariant_of-self-in-Err-Miss g c = (
  c.self.invariant.0,
  c.read_order.ensures.table ∙ c.self.invariant.1,
  (misses g (goal.at.invariant_of-self-in-Err-Miss g c).After-saturating_add-self-inside).is,
)

pub returns-in-Err-Miss-clause-goes_on : goal.returns-in-Err-Miss-clause-goes_on
returns-in-Err-Miss-clause-goes_on g c =
    rw (← c.self.view_is) (misses g (goal.at.returns-in-Err-Miss-clause-goes_on g c).After-saturating_add-self-inside).goes_on

pub returns-in-Err-Miss-clause-cause : goal.returns-in-Err-Miss-clause-cause
returns-in-Err-Miss-clause-cause g c =
    let inv = c.self.invariant in
    let read = c.read_order.ensures in
    let cause = rw c.in-Err-Miss.field-0-is at c.in-Err-Miss.ensures.cause in
    let missed : IsMissed g.K.Name.opened.table g.S.Moment.log c.read_order.new.pass.log c.in-Err-Miss.again =
    missed_of g.K.Name.opened.table g.S.Moment.log _ _ c.args.x c.args.y c.in-Err-Miss.again inv.1 (read.table ∙ inv.1) inv.2.begins
    cause.1 in
    record {
      rose = omega (arith, c.saturating_add-self-inside.ensures, ap (λ (x : Loosely). x.misses) c.self.view_is);
      missed = missed;
      differ = missed.differ;
    }

pub invariant_of-self-in-Err-NoMemory : goal.invariant_of-self-in-Err-NoMemory
invariant_of-self-in-Err-NoMemory g c = (
  c.self.invariant.0,
  c.read_order.ensures.table ∙ c.self.invariant.1,
  (sees_more c.self.inside.misses c.self.invariant.2 c.read_order.ensures.longer (omega arith) c.in-Err-NoMemory.ensures.same).is,
)

pub returns-in-Err-NoMemory-clause-goes_on : goal.returns-in-Err-NoMemory-clause-goes_on
returns-in-Err-NoMemory-clause-goes_on g c =
    rw (← c.self.view_is)
    (sees_more c.self.inside.misses c.self.invariant.2 c.read_order.ensures.longer (omega arith) c.in-Err-NoMemory.ensures.same).goes_on
