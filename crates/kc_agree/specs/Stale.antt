-- The first stamp of what was read that is less than that of now.
use Rattle.std.specs.Prelude.{◌≡◌, ◌≤◌, ◌<◌, ◌⊎◌, ◌++◌, ℕ, List, ◌∷◌, All, true, false, slice_index}
use Rattle.kc_graph.specs.declared.used.UsedEdges.{UsedEdges}
use Rattle.kc_graph.specs.declared.used.UsedPlace.{UsedPlace}
use Rattle.kc_view.specs.Answers.{Answers}
use Rattle.kc_agree.specs.declared.stale.Stale.{Stale}

-- The stamp of the list is no less than the present one of its vertex. It is above it where entries since have left the vertex's edges.
abbrev pub IsListCurrent : List ℕ → UsedEdges → Type 0
IsListCurrent edge_stamps e = slice_index edge_stamps e.vertex ≤ e.at

-- the stamp of the place is no less than the present one of its vertex
abbrev pub IsPlaceCurrent : List ℕ → UsedPlace → Type 0
IsPlaceCurrent place_stamps p = slice_index place_stamps p.vertex ≤ p.stamp

-- the first list whose stamp is less
pub record IsFirstList (edge_stamps : List ℕ) (edges : List UsedEdges) (s : Stale) : Type 0 where
  pub front : List UsedEdges
  pub list : UsedEdges
  pub back : List UsedEdges
  pub is : edges ≡ front ++ list ∷ back
  pub current : All (IsListCurrent edge_stamps) front
  pub less : list.at < slice_index edge_stamps list.vertex
  pub named : s ≡ record { vertex = list.vertex; edges = true; used = list.at; now = slice_index edge_stamps list.vertex }

-- the first place whose stamp is less
pub record IsFirstPlace (place_stamps : List ℕ) (places : List UsedPlace) (s : Stale) : Type 0 where
  pub front : List UsedPlace
  pub place : UsedPlace
  pub back : List UsedPlace
  pub is : places ≡ front ++ place ∷ back
  pub current : All (IsPlaceCurrent place_stamps) front
  pub less : place.stamp < slice_index place_stamps place.vertex
  pub named : s ≡ record { vertex = place.vertex; edges = false; used = place.stamp; now = slice_index place_stamps place.vertex }

-- no stamp is less
abbrev pub AllCurrent : List ℕ → List ℕ → Answers → Type 0
AllCurrent edge_stamps place_stamps a = All (IsListCurrent edge_stamps) a.edges × All (IsPlaceCurrent place_stamps) a.places

-- the first stamp that is less: the lists are looked at before the places, each from the front
abbrev pub IsFirstStale : List ℕ → List ℕ → Answers → Stale → Type 0
IsFirstStale edge_stamps place_stamps a s =
    IsFirstList edge_stamps a.edges s ⊎ (All (IsListCurrent edge_stamps) a.edges × IsFirstPlace place_stamps a.places s)
