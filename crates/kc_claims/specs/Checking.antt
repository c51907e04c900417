-- What is found wrong with the number of one claim.
use Rattle.std.specs.Prelude.{◌≡◌, ◌≤◌, ◌<◌, ℕ, List}
use Rattle.kc_graph.specs.SimpleGraph.{SimpleGraph}
use Rattle.kc_claims.specs.Certificates.{later_neighbours, supporters}
use Rattle.kc_claims.specs.declared.claim.Claim.{Claim}
use Rattle.kc_claims.specs.declared.fault.ClaimFault.{ClaimFault}
use Rattle.kc_claims.specs.declared.fault.ClaimFault.TheVariants.{ManyLater, FewSupporters}

-- the vertex of a claim has too many later neighbours, or else too few supporters, and so many
abbrev pub IsMiscountAt : SimpleGraph → List ℕ → List ℕ → ℕ → Claim → ClaimFault → Type 0
IsMiscountAt g core rank v claim (ManyLater told count) = (told ≡ claim) × (count ≡ later_neighbours g core rank v) × (claim.number < count)
IsMiscountAt g core rank v claim (FewSupporters told count) =
    (told ≡ claim) × (count ≡ supporters g core v) × (later_neighbours g core rank v ≤ claim.number) × (count < claim.number)
IsMiscountAt g core rank v claim _ = ⊥
