-- What a load and a comparison tell is one answer more, and what the first stale stamp tells of the state.
use Rattle.std.proofs.Common.{◌≡◌, ◌≢◌, ℕ, ◌<◌, ◌≤◌, Bool, true, false, List, get_or, refl, inl, inr, arith}
use Rattle.std.specs.Prelude.{All}
use Rattle.std.proofs.lemmas.Bool.{true≢false, false≢true}
use mathlib.Core.List.{IsPrefix}
use Rattle.kc_lists.proofs.Shared.{All-middle}
use Rattle.kc_graph.specs.SimpleGraph.{SimpleGraph}
use Rattle.kc_graph.specs.declared.used.UsedEdges.{UsedEdges}
use Rattle.kc_graph.specs.declared.used.UsedPlace.{UsedPlace}
use Rattle.kc_table.specs.declared.view.Event.{Event}
use Rattle.kc_table.specs.Log.{TableName}
use Rattle.kc_table.proofs.Prefixes.{prefix_self}
use Rattle.kc_view.specs.Answers.{Answers, has_core, with_place, with_order}
use Rattle.kc_order.specs.Standing.{list_after}
use Rattle.kc_agree.specs.Reads.{IsTrueOrder, StoodSo, WereRead, place_after}
use Rattle.kc_agree.specs.Stale.{AllCurrent, IsFirstStale}
use Rattle.kc_agree.specs.Stamps.{made_by, place_stamp, edge_stamp, IsChangeOf}
use Rattle.kc_agree.specs.States.{AreCurrent, ArePresent}
use Rattle.kc_agree.specs.declared.stale.Stale.{Stale}
use Rattle.kc_agree.proofs.Growing.{one_place, one_order, reads_stay}
use Rattle.kc_agree.proofs.Neighbouring.{last_changed}

-- the place of a vertex as a load finds it is a place that was read
pub loaded_place : (table : TableName) (opened : SimpleGraph) (old new : List Event) (a : Answers) (v : ℕ)
    → v < table.shape.fixed → IsPrefix old new → has_core a v ≡ false
    → WereRead table opened old a → WereRead table opened new (with_place a (place_after table new v))
loaded_place table opened old new a v low longer none h =
    one_place table opened new a (place_after table new v) none (reads_stay table opened old new a longer h) record {
      vertex = low;
      prefix = new;
      begins = prefix_self new;
      stamp = refl;
      core = refl;
    }

-- how a comparison found two vertices is an order that was read
pub comparison-read : (table : TableName) (opened : SimpleGraph) (old new : List Event) (a : Answers) (x y : ℕ) (before : Bool)
    → x ≢ y → has_core a x ≡ true → has_core a y ≡ true → StoodSo table old new x y before
    → WereRead table opened old a → WereRead table opened new (with_order a (record { x = x; y = y; before = before }))
comparison-read table opened old new a x y true differ rx ry stood h =
    let is : IsTrueOrder (list_after table stood.prefix) (record { x = x; y = y; before = true }) =
    record { before = λ _. stood.stood; after = λ f. absurd (true≢false f) } in
    one_order table opened old stood.prefix new a _ stood.between.extends stood.between.extended differ rx ry is h
comparison-read table opened old new a x y false differ rx ry stood h =
    let is : IsTrueOrder (list_after table stood.prefix) (record { x = x; y = y; before = false }) =
    record { before = λ f. absurd (false≢true f); after = λ _. stood.stood } in
    one_order table opened old stood.prefix new a _ stood.between.extends stood.between.extended differ rx ry is h

-- where no stamp is less than those of the lists, all are current
pub all_current : (table : TableName) (opened : SimpleGraph) (stamps : List ℕ) (log : List Event) (edge_stamps place_stamps : List ℕ)
    (a : Answers) → ArePresent table opened stamps log edge_stamps place_stamps → WereRead table opened log a
    → AllCurrent edge_stamps place_stamps a → AreCurrent table opened stamps log a
all_current table opened stamps log edge_stamps place_stamps a present read current = record {
  edges = λ i d l.
      let v = (get_or a.edges i d).vertex in
      omega (arith, current.0 i d l, present.edges v (read.edges i d l).vertex);
  places = λ i d l.
      let v = (get_or a.places i d).vertex in
      omega (arith, current.1 i d l, present.places v (read.places i d l).vertex);
}

-- where a stamp is stale, the answers are not those of now
pub not_current : (table : TableName) (opened : SimpleGraph) (stamps : List ℕ) (log : List Event) (edge_stamps place_stamps : List ℕ)
    (a : Answers) (s : Stale) → ArePresent table opened stamps log edge_stamps place_stamps → WereRead table opened log a
    → IsFirstStale edge_stamps place_stamps a s → AreCurrent table opened stamps log a → ⊥
not_current table opened stamps log edge_stamps place_stamps a s present read stale current = elim stale [
  | inl f ↦
      let Both : UsedEdges → Type 0 = λ e. (e.vertex < table.shape.fixed) × (edge_stamp table opened stamps log e.vertex ≤ e.at) in
      let both : All Both a.edges = λ i d l. ((read.edges i d l).vertex, current.edges i d l) in
      let e = All-middle Both f.front f.back f.list a.edges f.is both in
      omega (arith, e.1, present.edges f.list.vertex e.0, f.less)
  | inr (lists, f) ↦
      let Both : UsedPlace → Type 0 = λ p. (p.vertex < table.shape.fixed) × (place_stamp table log p.vertex ≤ p.stamp) in
      let both : All Both a.places = λ i d l. ((read.places i d l).vertex, current.places i d l) in
      let p = All-middle Both f.front f.back f.place a.places f.is both in
      omega (arith, p.1, present.places f.place.vertex p.0, f.less)
]

-- An edge stamp that is greater than the one at the opening is the number of an entry that changed the edges of the vertex.
pub of_an_entry : (table : TableName) (opened : SimpleGraph) (stamps : List ℕ) (log : List Event) (v : ℕ)
    → get_or stamps v 0 < edge_stamp table opened stamps log v
    → IsChangeOf opened (made_by table log).entries table.shape.base v (edge_stamp table opened stamps log v)
of_an_entry table opened stamps log v later = last_changed opened (made_by table log).entries table.shape.base v (get_or stamps v 0) later
