-- The core number that was told puts `x` above, below or on the level; on the level the order that was told says if it is behind `w`.
use Rattle.std.proofs.Common.{List, ◌≡◌, ◌<◌, ◌⊎◌, ◌&&◌, ◌||◌, ℕ, Bool, true, cond, get_or, eqb, ltb, sym, ◌∙◌, ap, subst, inl, inr, arith, eqb-true}
use Rattle.std.proofs.lemmas.Bool.{or_cases, and_parts}
use Rattle.kc_lists.specs.Lists.{member}
use Rattle.kc_graph.specs.Lawful.{Ranked}
use Rattle.kc_graph.specs.declared.update.Update.{Update}
use Rattle.kc_view.specs.Answers.{Answers, Agrees, has_list, list_of}
use Rattle.kc_view.specs.Sure.{is_listed}
use Rattle.kc_view.proofs.Asked.{is_listed-from}
use Rattle.kc_view.proofs.Keeping.{answers-agreed, core-true, order-true, still_has_core}
use Rattle.kc_insert.specs.declared.ahead.Side.{Side}
use Rattle.kc_insert.specs.declared.ahead.Side.TheVariants.{Higher, Next, Before}
use Rattle.kc_insert.specs.Rising.{AsksQueued}
use Rattle.kc_insert.specs.Turns.{side_in}
use Rattle.kc_insert.specs.Added.{search_with}
use Rattle.kc_graph.specs.Plans.{joins}
use Rattle.kc_insert.proofs.Tidy.{asks-core, asks-order}
use Rattle.kc_insert.proofs.ahead.side_of.Given.{Over}
use Rattle.kc_insert.proofs.ahead.side_of.Goals.{In_ok-core, In_ok-stands_before}
use Rattle.kc_insert.proofs.ahead.side_of.Goals as goal

-- a neighbour once the edge is there is an end of it or was told
neighbour-near : (update : Update) (a : Answers) (w x : ℕ) → has_list a w ≡ true → (member x (list_of a w) || joins update w x) ≡ true
    → (x ≡ update.u) ⊎ (x ≡ update.v) ⊎ (is_listed a x ≡ true)
neighbour-near update a w x read m = elim (or_cases (member x (list_of a w)) (joins update w x) m) [
  | inl k ↦ inr (inr (is_listed-from a w x read k))
  | inr k ↦ elim (or_cases (eqb w update.u && eqb x update.v) (eqb w update.v && eqb x update.u) k) [
    | inl e ↦ inr (inl (eqb-true x update.v (and_parts (eqb w update.u) (eqb x update.v) e).1))
    | inr e ↦ inl (eqb-true x update.u (and_parts (eqb w update.v) (eqb x update.u) e).1)
  ]
]

-- a core number above the level puts the neighbour above
side-higher : (core level number : ℕ) (b : Bool) → core ≡ number → level < core → Higher ≡ cond (ltb level number) Higher (cond b Next Before)
side-higher core level number b e l = grind arith

-- one below the level puts it below, whatever the order
side-lower : (core level number : ℕ) (b : Bool) → core ≡ number → core < level
    → Before ≡ cond (ltb level number) Higher (cond (eqb number level && b) Next Before)
side-lower core level number b e l = grind arith

-- on the level the order decides
side-level : (core level number : ℕ) (told b : Bool) (side : Side) → core ≡ number → core ≡ level → told ≡ b → side ≡ cond told Next Before
    → side ≡ cond (ltb level number) Higher (cond (eqb number level && b) Next Before)
side-level core level number told b side e l t is = grind arith

-- the core number of the neighbour may be asked
core-asked : (g : Over) (c : In_ok-core g) (queue : List ℕ) → AsksQueued c.args.search.update (g.V.View.shown c.args.view.now).kept queue
    → AsksQueued c.args.search.update (g.V.View.shown c.core_of.new.view).kept queue
core-asked g c queue asks =
    let old = (g.V.View.shown c.args.view.now).kept in
    asks-core c.args.search.update old _ queue c.args.x asks c.in_ok-core.ensures.told
    (neighbour-near c.args.search.update old c.args.w c.args.x c.requires.read c.requires.neighbour)

-- and is that of each state that agrees
core-is : (g : Over) (c : In_ok-core g) (s : Ranked) → Agrees (g.V.View.shown c.core_of.new.view).kept s → c.in_ok-core.core ≡ get_or s.core c.args.x 0
core-is g c s a = c.in_ok-core.ensures.core ∙ (core-true _ s c.args.x a c.in_ok-core.ensures.told.told).1

-- the order may be asked too
order-asked : (g : Over) (c : In_ok-stands_before g) (queue : List ℕ) → AsksQueued c.args.search.update (g.V.View.shown c.args.view.now).kept queue
    → AsksQueued c.args.search.update (g.V.View.shown c.stands_before.new.view).kept queue
order-asked g c queue asks =
    asks-order c.args.search.update _ _ queue _ (core-asked g (goal.at.In_ok-stands_before g c).In_ok-core queue asks) c.in_ok-stands_before.ensures.told

-- and says on which side the neighbour stands
order-tells : (g : Over) (c : In_ok-stands_before g) (s : Ranked) (side : Side) → Agrees (g.V.View.shown c.stands_before.new.view).kept s
    → side ≡ cond c.in_ok-stands_before.field-0 Next Before
    → side ≡ side_in (search_with c.args.search.update c.args.search.level s) c.args.w c.args.x
order-tells g c s side a is =
    side-level c.in_ok-core.core c.args.search.level (get_or s.core c.args.x 0) c.in_ok-stands_before.field-0 _ side
    (core-is g (goal.at.In_ok-stands_before g c).In_ok-core s (answers-agreed _ _ s c.stands_before.ensures.goes_on.further a))
    (omega (arith, c.if-core-search.false, c.if-core-search-2.false))
    (order-true (g.V.View.shown c.core_of.new.view).kept s _ (subst (λ (b : Answers). Agrees b s) c.in_ok-stands_before.ensures.told a)).2 is

pub returns-then-core-search-clause-asks : goal.returns-then-core-search-clause-asks
returns-then-core-search-clause-asks g c = core-asked g (goal.at.returns-then-core-search-clause-asks g c).In_ok-core

pub returns-then-core-search-clause-told : goal.returns-then-core-search-clause-told
returns-then-core-search-clause-told g c = λ s a.
    side-higher c.in_ok-core.core c.args.search.level (get_or s.core c.args.x 0) _
    (core-is g (goal.at.returns-then-core-search-clause-told g c).In_ok-core s a) c.if-core-search.true

pub returns-then-core-search-2-clause-asks : goal.returns-then-core-search-2-clause-asks
returns-then-core-search-2-clause-asks g c = core-asked g (goal.at.returns-then-core-search-2-clause-asks g c).In_ok-core

pub returns-then-core-search-2-clause-told : goal.returns-then-core-search-2-clause-told
returns-then-core-search-2-clause-told g c = λ s a.
    side-lower c.in_ok-core.core c.args.search.level (get_or s.core c.args.x 0) _
    (core-is g (goal.at.returns-then-core-search-2-clause-told g c).In_ok-core s a) c.if-core-search-2.true

pub stands_before-requires-clause-first : goal.stands_before-requires-clause-first
stands_before-requires-clause-first g c = still_has_core _ _ c.args.w c.core_of.ensures.goes_on.further c.requires.placed

pub returns-then-branch-clause-asks : goal.returns-then-branch-clause-asks
returns-then-branch-clause-asks g c = order-asked g (goal.at.returns-then-branch-clause-asks g c).In_ok-stands_before

pub returns-then-branch-clause-told : goal.returns-then-branch-clause-told
returns-then-branch-clause-told g c = λ s a.
    order-tells g (goal.at.returns-then-branch-clause-told g c).In_ok-stands_before s Next a (ap (λ b. cond b Next Before) (sym c.if-branch.true))

pub returns-else-branch-clause-asks : goal.returns-else-branch-clause-asks
returns-else-branch-clause-asks g c = order-asked g (goal.at.returns-else-branch-clause-asks g c).In_ok-stands_before

pub returns-else-branch-clause-told : goal.returns-else-branch-clause-told
returns-else-branch-clause-told g c = λ s a.
    order-tells g (goal.at.returns-else-branch-clause-told g c).In_ok-stands_before s Before a (ap (λ b. cond b Next Before) (sym c.if-branch.false))
