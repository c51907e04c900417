-- By cases: the end of the lesser core number is the root, and where both are equal the order that was told picks the first.
use Rattle.std.proofs.Common.{◌≡◌, ◌<◌, ℕ, Bool, true, false, cond, get_or, ltb, ◌∙◌, subst, arith}
use Rattle.kc_lists.specs.Lists.{place_of}
use Rattle.kc_graph.specs.Lawful.{Ranked}
use Rattle.kc_graph.specs.declared.update.Update.{Update}
use Rattle.kc_view.specs.Answers.{Answers, Agrees, has_core, core_of}
use Rattle.kc_view.specs.Sure.{root_of}
use Rattle.kc_view.proofs.Keeping.{answers-agreed, core-true, order-true}
use Rattle.kc_insert.proofs.insertion.first_end.Given.{Over}
use Rattle.kc_insert.proofs.insertion.first_end.Goals.{In_ok-stands_before}
use Rattle.kc_insert.proofs.insertion.first_end.Goals as goal

-- the first end is picked where its core number is the lesser
is-lesser : (a b p q u v : ℕ) → a < b → u ≡ cond (ltb a b) u (cond (ltb b a) v (cond (ltb p q) u v))
is-lesser a b p q u v l = grind arith

-- the second end, where its core number is the lesser
is-greater : (a b p q u v : ℕ) → b < a → v ≡ cond (ltb a b) u (cond (ltb b a) v (cond (ltb p q) u v))
is-greater a b p q u v l = grind arith

-- the first end, where the core numbers are equal and it stands first
is-first : (a b p q u v : ℕ) (t : Bool) → a ≡ b → t ≡ ltb p q → t ≡ true → u ≡ cond (ltb a b) u (cond (ltb b a) v (cond (ltb p q) u v))
is-first a b p q u v t e is told = grind arith

-- the second end, where the core numbers are equal and the first does not stand first
is-second : (a b p q u v : ℕ) (t : Bool) → a ≡ b → t ≡ ltb p q → t ≡ false → v ≡ cond (ltb a b) u (cond (ltb b a) v (cond (ltb p q) u v))
is-second a b p q u v t e is told = grind arith

-- these are the core numbers of the two ends
record AreCores (s : Ranked) (update : Update) (first second : ℕ) : Type 0 where
  first_is : first ≡ get_or s.core update.u 0
  second_is : second ≡ get_or s.core update.v 0

-- what was told of the two ends is so in each state that agrees
cores-are : (a : Answers) (s : Ranked) (update : Update) (first second : ℕ) → Agrees a s
    → (has_core a update.u ≡ true) × (first ≡ core_of a update.u) → (has_core a update.v ≡ true) × (second ≡ core_of a update.v)
    → AreCores s update first second
cores-are a s update first second agrees one two = record {
  first_is = one.1 ∙ (core-true a s update.u agrees one.0).1;
  second_is = two.1 ∙ (core-true a s update.v agrees two.0).1;
}

-- the first end is the root where its core number is the lesser
lesser-root : (s : Ranked) (update : Update) (first second : ℕ) → AreCores s update first second → first < second → update.u ≡ root_of s update
lesser-root s update first second k l =
    is-lesser (get_or s.core update.u 0) (get_or s.core update.v 0) (place_of update.u s.order) (place_of update.v s.order) update.u update.v
    (omega (arith, k.first_is, k.second_is, l))

-- the second end is the root where its core number is the lesser
greater-root : (s : Ranked) (update : Update) (first second : ℕ) → AreCores s update first second → second < first → update.v ≡ root_of s update
greater-root s update first second k l =
    is-greater (get_or s.core update.u 0) (get_or s.core update.v 0) (place_of update.u s.order) (place_of update.v s.order) update.u update.v
    (omega (arith, k.first_is, k.second_is, l))

-- both ends have one core number, and this tells whether the first stands before the second
record AreEven (s : Ranked) (update : Update) (before : Bool) : Type 0 where
  even : get_or s.core update.u 0 ≡ get_or s.core update.v 0
  told : before ≡ ltb (place_of update.u s.order) (place_of update.v s.order)

-- of two ends of one core number the first is the root where it stands first
first-root : (s : Ranked) (update : Update) (before : Bool) → AreEven s update before → before ≡ true → update.u ≡ root_of s update
first-root s update before k is =
    is-first (get_or s.core update.u 0) (get_or s.core update.v 0) (place_of update.u s.order) (place_of update.v s.order) update.u update.v
    before k.even k.told is

-- and the second where the first does not stand first
second-root : (s : Ranked) (update : Update) (before : Bool) → AreEven s update before → before ≡ false → update.v ≡ root_of s update
second-root s update before k is =
    is-second (get_or s.core update.u 0) (get_or s.core update.v 0) (place_of update.u s.order) (place_of update.v s.order) update.u update.v
    before k.even k.told is

-- where neither core number was less, both ends have one
are-even : (g : Over) (c : In_ok-stands_before g) (s : Ranked) → Agrees (g.V.View.shown c.stands_before.new.view).kept s
    → AreEven s c.args.update c.in_ok-stands_before.field-0
are-even g c s a =
    let kept : Answers = (g.V.View.shown c.args.view.now).kept in
    let k =
    cores-are kept s c.args.update c.args.first c.args.second (answers-agreed _ _ s c.stands_before.ensures.goes_on.further a) c.requires.first
    c.requires.second in
    record {
      even = omega (arith, k.first_is, k.second_is, c.if-first-second.false, c.if-second-first.false);
      told = (order-true kept s _ (subst (λ (x : Answers). Agrees x s) c.in_ok-stands_before.ensures.told a)).2;
    }

pub returns-then-first-second-clause-root : goal.returns-then-first-second-clause-root
returns-then-first-second-clause-root g c = λ s a.
    lesser-root s c.args.update _ _ (cores-are _ s c.args.update _ _ a c.requires.first c.requires.second) c.if-first-second.true

pub returns-then-second-first-clause-root : goal.returns-then-second-first-clause-root
returns-then-second-first-clause-root g c = λ s a.
    greater-root s c.args.update _ _ (cores-are _ s c.args.update _ _ a c.requires.first c.requires.second) c.if-second-first.true

pub returns-then-branch-clause-root : goal.returns-then-branch-clause-root
returns-then-branch-clause-root g c = λ s a.
    first-root s c.args.update _ (are-even g (goal.at.returns-then-branch-clause-root g c).In_ok-stands_before s a) c.if-branch.true

pub returns-else-branch-clause-root : goal.returns-else-branch-clause-root
returns-else-branch-clause-root g c = λ s a.
    second-root s c.args.update _ (are-even g (goal.at.returns-else-branch-clause-root g c).In_ok-stands_before s a) c.if-branch.false
