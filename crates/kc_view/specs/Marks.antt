-- Where the answers of a vertex are kept.
use Rattle.std.specs.Prelude.{◌≡◌, ◌≤◌, ◌<◌, ◌^◌, ℕ, zero, suc, List, [], Option, Some, None, length, map, slice_index, slice_index_or, is_some, All}
use Rattle.std.specs.Prelude.{if◌then◌else◌}
use Rattle.kc_lists.specs.Lists.{Distinct}
use Rattle.kc_graph.specs.declared.used.UsedEdges.{UsedEdges}
use Rattle.kc_graph.specs.declared.used.UsedPlace.{UsedPlace}
use Rattle.kc_view.specs.Answers.{list_in, core_in}
use Rattle.kc_view.specs.Lists.{AreLists}
use Rattle.kc_view.specs.Memory.{Memory}

-- the list and the place of no vertex
abbrev pub no_list : UsedEdges
no_list = record { vertex = 0; at = 0; neighbours = [] }

-- the core number of no vertex
abbrev pub no_place : UsedPlace
no_place = record { vertex = 0; stamp = 0; core = 0 }

-- what the item at a place counted from 1 tells; nothing at 0
abbrev pub told_at : {X A : Type 0} → (X → A) → X → List X → ℕ → Option A
told_at tells nothing xs zero = None
told_at tells nothing xs (suc i) = Some (tells (slice_index_or xs i nothing))

-- the list at a place counted from 1; none at 0
abbrev pub list_at : List UsedEdges → ℕ → Option (List ℕ)
list_at edges place = told_at (λ (e : UsedEdges). e.neighbours) no_list edges place

-- the core number at a place counted from 1; none at 0
abbrev pub core_at : List UsedPlace → ℕ → Option ℕ
core_at places place = told_at (λ (p : UsedPlace). p.core) no_place places place

-- Marks without an answer.
pub record AreClear (size : ℕ) (marks : List ℕ) : Type 0 where
  pub few : size < 2 ^ 32
  pub one_each : length marks ≡ size
  pub clear : (w : ℕ) → w < size → slice_index marks w ≡ 0

-- For each vertex the place of its list, and of its core number, or 0. None was kept twice, and each is of a vertex.
pub record Marks (m : Memory) (listed placed : List ℕ) : Type 0 where
  pub few : m.size < 2 ^ 32
  pub lists_long : length listed ≡ m.size
  pub places_long : length placed ≡ m.size
  pub lists_in : (w : ℕ) → w < m.size → slice_index listed w ≤ length m.kept.edges
  pub places_in : (w : ℕ) → w < m.size → slice_index placed w ≤ length m.kept.places
  pub lists : (w : ℕ) → w < m.size → list_at m.kept.edges (slice_index listed w) ≡ list_in w m.kept.edges
  pub places : (w : ℕ) → w < m.size → core_at m.kept.places (slice_index placed w) ≡ core_in w m.kept.places
  pub lists_once : Distinct (map (λ e. e.vertex) m.kept.edges)
  pub places_once : Distinct (map (λ p. p.vertex) m.kept.places)
  pub lists_below : All (λ e. e.vertex < m.size) m.kept.edges
  pub places_below : All (λ p. p.vertex < m.size) m.kept.places
  pub are_lists : AreLists m.size m.kept.edges

-- the marks without those of the vertices whose lists, or core numbers, were kept
abbrev pub without_lists : List UsedEdges → List ℕ → ℕ → ℕ
without_lists edges marks w = if is_some (list_in w edges) then 0 else slice_index marks w

-- the mark of `w`, and 0 where its core number was kept
abbrev pub without_places : List UsedPlace → List ℕ → ℕ → ℕ
without_places places marks w = if is_some (core_in w places) then 0 else slice_index marks w
