-- Pairs of vertices that a graph is made of.
use Rattle.std.specs.Prelude.{◌<◌, ℕ, List, All}

-- both ends of each pair are vertices
abbrev pub AreWithin : ℕ → List (ℕ × ℕ) → Type 0
AreWithin vertices pairs = All (λ p. (p.0 < vertices) × (p.1 < vertices)) pairs
