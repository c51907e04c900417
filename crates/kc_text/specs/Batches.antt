-- The pairs that the changes of a batch name.
use Rattle.std.specs.Prelude.{◌≡◌, ◌&&◌, ℕ, Bool, false, List, AllPairs, min, max, nat_eq}
use Rattle.kc_text.specs.declared.change.ChangeLine.{ChangeLine}
use Rattle.kc_text.specs.Meaning.{name_same}

-- the pair of a change, the lesser id first
abbrev pub pair_of : ChangeLine → ℕ × ℕ
pair_of c = (min c.a c.b, max c.a c.b)

-- whether two pairs are the same
abbrev pub is_pair : ℕ × ℕ → ℕ × ℕ → Bool
is_pair p q = nat_eq p.0 q.0 && nat_eq p.1 q.1

-- no two changes name the same pair
abbrev pub NamesOnce : List ChangeLine → Type 0
NamesOnce batch = AllPairs (λ c d. name_same d c ≡ false) batch
