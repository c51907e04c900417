-- A run that opens on the state of a journal, with vertices more.
use Rattle.std.proofs.Common.{◌≡◌, ◌<◌, ◌≤◌, ◌+◌, ◌-◌, ℕ, zero, suc, List, [], ◌∷◌, ◌++◌, length, replicate, refl, sym, ap, ◌∙◌, subst, arith}
use Rattle.std.proofs.Common.{add-one, append_assoc}
use Rattle.kc_graph.specs.SimpleGraph.{SimpleGraph}
use Rattle.kc_graph.specs.Certificate.{Enumerates}
use Rattle.kc_graph.specs.Lawful.{IsCertified, Ranked}
use Rattle.kc_graph.specs.Growing.{HasItsEnds, grown, with_more, with_vertices}
use Rattle.kc_graph.proofs.Grown.{certified-more, graph-grown, graph-with_more}
use Rattle.kc_cert.specs.Conditions.{NeverFalls}
use Rattle.kc_table.specs.Log.{PassSeen, TableName}
use Rattle.kc_journal.specs.Journals.{Journalled, OpensRun, Stands, ranked}
use Rattle.kc_levels.specs.Levels.{OpensLevels}
use Rattle.kc_journal.specs.Restarting.{cores_with, order_with}
use Rattle.kc_journal.proofs.Beginning.{Began, open_calls-began}

-- So many vertices more are made: so many core numbers 0, and so many at the front.
pub record SoFar (old core order : List ℕ) (size more i : ℕ) : Type 0 where
  pub cores : core ≡ cores_with i old
  pub rest : (tail : List ℕ) → order_with more size tail ≡ order ++ order_with (more - i) size tail

-- none yet
pub none-so-far : {old core order : List ℕ} (size more : ℕ) → core ≡ old → order ≡ [] → SoFar old core order size more 0
none-so-far {old} {core} {order} size more core-is order-is = record {
  cores = core-is;
  rest = λ tail i. (sym order-is i) ++ order_with (let e : more ≡ more - 0 = omega arith in e i) size tail;
}

-- one more
pub one-further : {old core order core' order' : List ℕ} {size more i : ℕ} (v : ℕ) → SoFar old core order size more i → i < more → core' ≡ core ++ 0 ∷ []
    → order' ≡ order ++ v ∷ [] → v ≡ size + (more - (i + 1)) → SoFar old core' order' size more (i + 1)
one-further {old} {core} {order} {core'} {order'} {size} {more} {i} v h low core-is order-is v-is = record {
  cores = core-is ∙ (ap (λ (z : List ℕ). z ++ 0 ∷ []) h.cores ∙ ap (λ (k : ℕ). cores_with k old) (sym (add-one i)));
  rest = λ tail.
      let split : order_with (more - i) size tail ≡ v ∷ order_with (more - (i + 1)) size tail =
      subst (λ (k : ℕ). order_with k size tail ≡ v ∷ order_with (more - (i + 1)) size tail) (let e : suc (more - (i + 1)) ≡ more - i = omega arith in e)
      (ap (λ (x : ℕ). x ∷ order_with (more - (i + 1)) size tail) (sym v-is)) in
      let regroup : order ++ (v ∷ order_with (more - (i + 1)) size tail) ≡ (order ++ v ∷ []) ++ order_with (more - (i + 1)) size tail = simp append_assoc in
      h.rest tail
      ∙ (ap (λ (z : List ℕ). order ++ z) split
      ∙ (regroup
      ∙ ap (λ (z : List ℕ). z ++ order_with (more - (i + 1)) size tail) (sym order-is)));
}

-- core numbers and order of the state with vertices more
pub core-with : (count : ℕ) (s : Ranked) → (with_more count s).core ≡ cores_with count s.core
core-with zero s = refl
core-with (suc count) s = ap (λ (z : List ℕ). z ++ 0 ∷ []) (core-with count s)

pub order-with : (count : ℕ) (s : Ranked) → (with_more count s).order ≡ order_with count s.graph.size s.order
order-with zero s = refl
order-with (suc count) s = λ i. (graph-with_more count s i).size ∷ order-with count s i

-- Core numbers and order of the grown state, as they were made.
pub record IsGrown (s : Ranked) (vertices : ℕ) (core order : List ℕ) : Type 0 where
  pub certified : IsCertified (grown vertices s)
  pub graph : (grown vertices s).graph ≡ with_vertices vertices s.graph
  pub core_is : core ≡ (grown vertices s).core
  pub order_is : order ≡ (grown vertices s).order

-- those that are made of what a journal has are those of its grown state
pub is-grown : {j now : Journalled} (vertices : ℕ) {core order : List ℕ} → j ≡ now → Stands j → HasItsEnds j.graph → now.graph.size ≤ vertices
    → core ≡ cores_with (vertices - length j.levels.core) j.levels.core
    → order ≡ order_with (vertices - length j.levels.core) (length j.levels.core) j.levels.order → IsGrown (ranked j) vertices core order
is-grown {j} {now} vertices {core} {order} is h ends more core-is order-is =
    let long : length j.levels.core ≡ j.graph.size = h.certified.one_each in
    let fits : j.graph.size ≤ vertices = omega (arith, more, ap (λ (z : Journalled). z.graph.size) is) in
    record {
      certified = (certified-more (vertices - j.graph.size) (ranked j) ends h.certified).0;
      graph = graph-grown vertices (ranked j) fits;
      core_is = core-is ∙ (ap (λ (n : ℕ). cores_with (vertices - n) j.levels.core) long ∙ sym (core-with (vertices - j.graph.size) (ranked j)));
      order_is = order-is ∙ (ap (λ (n : ℕ). order_with (vertices - n) n j.levels.order) long ∙ sym (order-with (vertices - j.graph.size) (ranked j)));
    }

-- there are as many core numbers as vertices
pub grown-long : {s : Ranked} {vertices : ℕ} {core order : List ℕ} → IsGrown s vertices core order → length core ≡ vertices
grown-long w = ap length w.core_is ∙ (w.certified.one_each ∙ ap (λ (g : SimpleGraph). g.size) w.graph)

-- what a fresh table asks of them
pub grown-enumerates : {s : Ranked} {vertices : ℕ} {core order : List ℕ} → IsGrown s vertices core order → Enumerates (length core) order
grown-enumerates {s} {vertices} {core} {order} w =
    subst (Enumerates (length core)) (sym w.order_is)
    (subst (λ (n : ℕ). Enumerates n (grown vertices s).order) (sym (ap length w.core_is ∙ w.certified.one_each)) w.certified.enumerates)

-- the numbers never fall along the order
pub grown-rises : {s : Ranked} {vertices : ℕ} {core order : List ℕ} → IsGrown s vertices core order → NeverFalls core order
grown-rises {s} {vertices} {core} {order} w =
    subst (NeverFalls core) (sym w.order_is) (subst (λ (z : List ℕ). NeverFalls z (grown vertices s).order) (sym w.core_is) w.certified.rising)

-- what the calls of `restart` have answered, taken together
pub restart-began : {s : Ranked} {vertices version : ℕ} {words : TableName} {j : Journalled} {pass : PassSeen} {core order stamps : List ℕ}
    → IsGrown s vertices core order → j.graph ≡ with_vertices vertices s.graph → stamps ≡ j.edge_stamps → (count : ℕ) → count ≡ length core
    → j.edge_stamps ≡ replicate count 0 → OpensLevels order core stamps 0 version words j.levels pass → j.entries ≡ [] → j.started ≡ j.graph
    → j.opened ≡ j.graph → j.opening_stamps ≡ j.edge_stamps → Began (grown vertices s) version words j pass
restart-began w graph stamps-are count count-is nought opens entries started opened opening =
    open_calls-began w.certified (graph ∙ sym w.graph) w.core_is w.order_is stamps-are count count-is nought opens entries started opened opening

-- a journal that is told under another name
pub opens-as-told : {self now new : Journalled} {version : ℕ} {words : TableName} {pass : PassSeen} (vertices : ℕ) → self ≡ now
    → OpensRun (grown vertices (ranked self)) version words new pass → OpensRun (grown vertices (ranked now)) version words new pass
opens-as-told {self} {now} {new} {version} {words} {pass} vertices is h =
    subst (λ (j : Journalled). OpensRun (grown vertices (ranked j)) version words new pass) is h
