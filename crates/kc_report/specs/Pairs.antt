-- The pairs that a batch has written.
use Rattle.std.specs.Prelude.{◌≡◌, ◌||◌, ℕ, Bool, true, false, List}
use Rattle.std.specs.List.{list_any}
use Rattle.std.specs.HashSet.{HashSet, contains}
use Rattle.kc_text.specs.declared.change.ChangeLine.{ChangeLine}
use Rattle.kc_text.specs.Batches.{is_pair, pair_of}

-- the set has just the pairs of the changes
abbrev pub HasPairs : {S : Type 0} → HashSet (ℕ × ℕ) S → List ChangeLine → Type 0
HasPairs pairs changes = (p : ℕ × ℕ) → contains is_pair pairs p ≡ list_any (λ c. is_pair p (pair_of c)) changes

-- the set has the pair of the change as well, if that is a new one
abbrev pub GainsPair : {S : Type 0} → HashSet (ℕ × ℕ) S → HashSet (ℕ × ℕ) S → ChangeLine → Bool → Type 0
GainsPair old new c true = (p : ℕ × ℕ) → contains is_pair new p ≡ (is_pair p (pair_of c) || contains is_pair old p)
GainsPair old new c false = (p : ℕ × ℕ) → contains is_pair new p ≡ contains is_pair old p
