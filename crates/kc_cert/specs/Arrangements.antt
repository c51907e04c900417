-- What the maps hold by which moves are asked.
use Rattle.std.specs.Prelude.{◌≡◌, ◌↔◌, ℕ, IsTrue, List, [], nat_eq}
use Rattle.std.specs.HashMap.{get}
use Rattle.kc_lists.specs.Lists.{Distinct}
use Rattle.kc_graph.specs.declared.plan.Moves.{Moves}
use Rattle.kc_cert.specs.declared.places.Places.{Places}
use Rattle.kc_cert.specs.declared.chains.Chains.{Chains}
use Rattle.kc_cert.specs.Stands.{leaving, shifts_of}
use Rattle.kc_cert.specs.Shifting.{place_in, line_after, home_after, no_home}

-- the places of the numbers of a list
pub record ArePlacesIn (list : List ℕ) (places : Places) : Type 0 where
  pub each : (x : ℕ) → get nat_eq places.of x ≡ place_in list x
  pub once : IsTrue places.once ↔ Distinct list

-- the anchors and places that shifts give
pub record AreChainsOf (shifts : List (ℕ × ℕ)) (chains : Chains) : Type 0 where
  pub anchors : (y : ℕ) → get nat_eq chains.anchors y ≡ home_after no_home shifts y
  pub places : (x : ℕ) → get nat_eq chains.places.of x ≡ place_in (line_after [] shifts) x

-- the places of the vertices that leave their level, and the chains of the shifts
pub record AreArranged (moves : Moves) (front : Places) (put : Chains) : Type 0 where
  pub leaving : (x : ℕ) → get nat_eq front.of x ≡ place_in (leaving moves) x
  pub shifted : AreChainsOf (shifts_of moves) put
