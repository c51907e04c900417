-- What two states have in common of which one text tells.
use Rattle.std.specs.Prelude.{◌≡◌, ◌<◌, ◌^◌, All, length}
use Rattle.std.specs.FinSet as set
use Rattle.kc_lists.specs.Lists.{Distinct}
use Rattle.kc_graph.specs.Lawful.{IsCertified}
use Rattle.kc_flat.specs.Listing.{edge_list}
use Rattle.kc_state.specs.Texts.{KeptParts}

-- A state as it is kept: its numbers fit their types, there is one id for each vertex, no id stands twice, and the order certifies the core numbers.
pub record IsKeptState (s : KeptParts) : Type 0 where
  pub few_batches : s.batches < 2 ^ 64
  pub few_vertices : s.ranked.graph.size < 2 ^ 32
  pub few_edges : set.len s.ranked.graph.edges < 2 ^ 64
  pub small_ids : All (λ id. id < 2 ^ 32) s.ids
  pub small_core : All (λ number. number < 2 ^ 32) s.ranked.core
  pub one_id_each : length s.ids ≡ s.ranked.graph.size
  pub once : Distinct s.ids
  pub certified : IsCertified s.ranked

-- two states are the same in all that a text tells
pub record AreSame (s s' : KeptParts) : Type 0 where
  pub batches : s.batches ≡ s'.batches
  pub ids : s.ids ≡ s'.ids
  pub size : s.ranked.graph.size ≡ s'.ranked.graph.size
  pub edges : edge_list s.ranked.graph ≡ edge_list s'.ranked.graph
  pub core : s.ranked.core ≡ s'.ranked.core
  pub order : s.ranked.order ≡ s'.ranked.order
