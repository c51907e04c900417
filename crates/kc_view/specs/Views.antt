-- What contracts see of a view, and what each call on one leaves.
use Rattle.std.specs.Prelude.{◌≡◌, ◌≢◌, ◌≤◌, ◌+◌, ◌-◌, ◌%◌, ◌^◌, ⊤, ◌++◌, ℕ, true, false, min, List}
use Rattle.kc_words.specs.declared.again.Again.{Again}
use Rattle.kc_graph.specs.declared.used.UsedEdges.{UsedEdges}
use Rattle.kc_graph.specs.declared.used.UsedPlace.{UsedPlace}
use Rattle.kc_graph.specs.declared.used.UsedOrder.{UsedOrder}
use Rattle.kc_view.specs.Answers.{Answers, nothing_answered, has_list, has_core, with_list, with_place}
use Rattle.kc_view.specs.Lists.{AreLists}
use Rattle.kc_view.specs.declared.fault.ViewFault.{ViewFault}
use Rattle.kc_view.specs.declared.fault.ViewFault.TheVariants.{Miss, NoMemory}
use Rattle.kc_view.specs.declared.fault.PlanFault.{PlanFault}
use Rattle.kc_view.specs.declared.fault.PlanFault.TheVariants as plan

-- What contracts see of a view. Each view says what it means that two loads differed, and that it has answered so of the graph behind it.
pub record Shown : Type 1 where
  pub size : ℕ
  -- what was answered since the answers were last handed out
  pub kept : Answers
  -- how often answers were handed out, as a `u64` counts that begins anew after its last value
  pub handed : ℕ
  -- how many calls have missed, up to the last value of a `u64`
  pub misses : ℕ
  pub is_missed : Again → Type 0
  pub is_given : Answers → Type 0

-- each list that is kept is one of its vertex
abbrev pub KeepsLists : Shown → Type 0
KeepsLists a = AreLists a.size a.kept.edges

-- the second answers are the first and what was asked since
pub record Further (old new : Answers) : Type 0 where
  pub edges : (more : List UsedEdges) × (new.edges ≡ old.edges ++ more)
  pub places : (more : List UsedPlace) × (new.places ≡ old.places ++ more)
  pub orders : (more : List UsedOrder) × (new.orders ≡ old.orders ++ more)

-- The number of vertices stays, misses don't fall, and what was true of the view stays true: which pairs of loads differed, and which
-- answers it has given.
pub record Lasts (old new : Shown) : Type 0 where
  pub same_size : new.size ≡ old.size
  pub misses : old.misses ≤ new.misses
  pub still_missed : (again : Again) → old.is_missed again → new.is_missed again
  pub still_given : (answers : Answers) → old.is_given answers → new.is_given answers

-- So, and nothing was handed out: what was kept is kept. Where each kept list was one of its vertex, each still is.
pub record GoesOn (old new : Shown) : Type 0 where
  pub lasts : Lasts old new
  pub handed : new.handed ≡ old.handed
  pub further : Further old.kept new.kept
  pub lists : KeepsLists old → KeepsLists new

-- What was kept was handed out, once, and nothing is kept any more.
pub record HandsOut (old new : Shown) : Type 0 where
  pub lasts : Lasts old new
  pub handed : new.handed ≡ (old.handed + 1) % 2 ^ 64
  pub emptied : new.kept ≡ nothing_answered

-- the list of `w` is told: it was before, or it is now
pub record TellsList (old new : Answers) (w : ℕ) : Type 0 where
  pub told : has_list new w ≡ true
  pub before : has_list old w ≡ true → new ≡ old
  pub now : has_list old w ≡ false → (e : UsedEdges) × (e.vertex ≡ w) × (new ≡ with_list old e)

-- the core number of `w` is told: it was before, or it is now
pub record TellsCore (old new : Answers) (w : ℕ) : Type 0 where
  pub told : has_core new w ≡ true
  pub before : has_core old w ≡ true → new ≡ old
  pub now : has_core old w ≡ false → (p : UsedPlace) × (p.vertex ≡ w) × (new ≡ with_place old p)

-- the count has risen, or stands at the last value of a `u64`
abbrev pub HasRisen : ℕ → ℕ → Type 0
HasRisen before after = min (before + 1) (2 ^ 64 - 1) ≤ after

-- A call missed: the count of misses has risen, and two loads of one word differed.
pub record HasMissed (old new : Shown) (again : Again) : Type 0 where
  pub rose : HasRisen old.misses new.misses
  pub missed : new.is_missed again
  pub differ : again.first ≢ again.second

-- the cause of a view's fault
abbrev pub HasViewCause : Shown → Shown → ViewFault → Type 0
HasViewCause old new (Miss again) = HasMissed old new again
HasViewCause old new NoMemory = ⊤

-- the cause of a planner's fault
abbrev pub HasPlanCause : Shown → Shown → PlanFault → Type 0
HasPlanCause old new (plan.Miss again) = HasMissed old new again
HasPlanCause old new plan.NoMemory = ⊤
