-- What is kept while the edges of a stream are counted.
use Rattle.std.specs.Prelude.{◌≡◌, ◌≤◌, ◌<◌, ◌^◌, ℕ, List, [], None, length, map}
use Rattle.std.specs.List.{filter}
use Rattle.std.specs.List.Sorted.{IsStrictlyIncreasing}
use Rattle.kc_graph.specs.Peeling.{at}
use Rattle.kc_graph.specs.declared.bulk.Edge.{Edge}
use Rattle.kc_text.specs.Forms.{all_said}
use Rattle.kc_text.specs.TellingLines.{is_telling}
use Rattle.kc_text.specs.declared.limits.TheConstants.Limits.{GRAPH}
use Rattle.kc_text.specs.declared.line.TextLine.{TextLine}
use Rattle.kc_text.specs.declared.line.TextLine.TheVariants as said
use Rattle.kc_tally.specs.Lists.{first_fault, last_edge}
use Rattle.kc_tally.specs.Tallies.{AreTallied}
use Rattle.kc_claims.specs.Certificates.{TellEach, claim_at}
use Rattle.kc_claims.specs.Places.{ArePlaces}
use Rattle.kc_claims.specs.declared.claim.Claim.{Claim}
use Rattle.kc_claims.specs.declared.fault.ClaimFault.{ClaimFault}
use Rattle.kc_claims.specs.declared.fault.ClaimFault.TheVariants.{ManyLater, FewSupporters}
use Rattle.kc_claims.specs.declared.sweep.Sweep.{Sweep}

-- the ids of the ends of an edge
abbrev pub named : List ℕ → Edge → ℕ × ℕ
named ids e = (at ids e.u, at ids e.v)

-- the line that tells the edge between these two ids
abbrev pub edge_said : ℕ × ℕ → TextLine
edge_said pair = said.Edge pair.0 pair.1

-- but for those that tell nothing, the lines tell just these edges, in their order
abbrev pub AreToldBy : List ℕ → List TextLine → List Edge → Type 0
AreToldBy ids lines edges = filter is_telling lines ≡ map (λ e. edge_said (named ids e)) edges

-- just these edges were counted, and they ascend
pub record HasCounted (start now : Sweep) (edges : List Edge) : Type 0 where
  pub ids : now.ids ≡ start.ids
  pub core : now.core ≡ start.core
  pub rank : now.rank ≡ start.rank
  pub ascending : IsStrictlyIncreasing now.ids.items
  pub few : length now.ids.items < 2 ^ 32
  pub one_number : length now.core.items ≡ length now.ids.items
  pub one_rank : length now.rank.items ≡ length now.ids.items
  pub faultless : first_fault (length now.core.items) 0 None edges ≡ None
  pub last : now.last ≡ last_edge None edges
  pub counted : now.count ≡ length edges
  pub within : now.count ≤ GRAPH.edge_lines
  pub tally : AreTallied now.core.items now.rank.items edges now.later.items now.supporters.items
  pub placed : ArePlaces now.ids.items now.places

-- the edges of just these bytes were counted
pub record HasSwept (start now : Sweep) (text : List ℕ) : Type 0 where
  pub edges : List Edge
  pub told : AreToldBy now.ids.items (all_said text) edges
  pub counted : HasCounted start now edges

-- the vertices are told the same, and as many counts of each kind are kept
pub record KeepsTold (start now : Sweep) : Type 0 where
  pub ids : now.ids ≡ start.ids
  pub core : now.core ≡ start.core
  pub rank : now.rank ≡ start.rank
  pub later_each : length now.later.items ≡ length start.later.items
  pub supporters_each : length now.supporters.items ≡ length start.supporters.items

-- the number of the claim at a place lies between the counts of its vertex
abbrev pub Agrees : List Claim → List ℕ → List ℕ → List ℕ → ℕ → Type 0
Agrees claims order later supporters i =
    (at later (at order i) ≤ (claim_at claims i).number) × ((claim_at claims i).number ≤ at supporters (at order i))

-- a claim's number does not lie between these counts, and this is what is wrong
abbrev pub IsMiscountOf : Claim → ℕ → ℕ → ClaimFault → Type 0
IsMiscountOf claim later supporting (ManyLater told count) = (told ≡ claim) × (count ≡ later) × (claim.number < count)
IsMiscountOf claim later supporting (FewSupporters told count) =
    (told ≡ claim) × (count ≡ supporting) × (later ≤ claim.number) × (count < claim.number)
IsMiscountOf claim later supporting _ = ⊥

-- the first claim whose number does not lie between the counts of its vertex, and what is wrong with it
pub record IsFirstMiscount (claims : List Claim) (order later supporters : List ℕ) (fault : ClaimFault) : Type 0 where
  pub place : ℕ
  pub within : place < length claims
  pub here : IsMiscountOf (claim_at claims place) (at later (at order place)) (at supporters (at order place)) fault
  pub before : (i : ℕ) → i < place → Agrees claims order later supporters i

-- this sweep has begun for what claims tell, whose vertices stand in this order
pub record HasBegunFor (claims : List Claim) (order : List ℕ) (start : Sweep) : Type 0 where
  pub told : TellEach start.ids.items claims order start.core.items start.rank.items
  pub few : length start.ids.items ≤ GRAPH.ids
  pub swept : HasSwept start start []
