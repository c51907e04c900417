-- Where ids stand.
use Rattle.std.specs.Prelude.{◌≡◌, ◌<◌, ◌+◌, ℕ, List, length, ⊤}
use Rattle.kc_graph.specs.Peeling.{at}
use Rattle.kc_claims.specs.IdBits.{AreBitsOf}
use Rattle.kc_claims.specs.declared.places.Places.{Places}
use Rattle.kc_claims.specs.declared.places.Places.TheVariants.{Row, Bits, Ranges}

-- the ids are numbers in a row, from this one on
abbrev pub IsRow : List ℕ → ℕ → Type 0
IsRow ids first = (v : ℕ) → v < length ids → at ids v ≡ first + v

-- what is known of the places of ids: that these are a row, or what bits tell them, and of the ranges nothing
abbrev pub ArePlaces : List ℕ → Places → Type 0
ArePlaces ids (Row first) = IsRow ids first
ArePlaces ids (Bits bits) = AreBitsOf ids bits.words.items bits.ends.items
ArePlaces ids (Ranges bits firsts) = ⊤
