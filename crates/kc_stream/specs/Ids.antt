-- Ids in the order of their first coming, and the numbers that stand for them.
use Rattle.std.specs.Prelude.{◌≡◌, ℕ, List, [], ◌∷◌, ◌++◌, Option, Some, None, fold, nat_eq, if◌then◌else◌}
use Rattle.std.specs.Set.{is_member}
use Rattle.kc_text.specs.Inputs.{place}
use Rattle.kc_text.specs.Meaning.{Told, names}

-- the ids with one name more, which stands behind them where it is new
abbrev pub with_name : List ℕ → ℕ → List ℕ
with_name ids name = if is_member nat_eq ids name then ids else ids ++ name ∷ []

-- the ids with more names, one after another
abbrev pub with_names : List ℕ → List ℕ → List ℕ
with_names ids named = fold with_name ids named

-- The ids that were named, each once, in the order of their first coming. The number that stands for an id is its place among them, so it
-- stays when others come behind.
abbrev pub ids_of : Told → List ℕ
ids_of told = with_names [] (names told)

-- the number that stands for an id, where it is one
abbrev pub number_of : List ℕ → ℕ → Option ℕ
number_of ids id = if is_member nat_eq ids id then Some (place ids id) else None

-- the numbers are those of these ids, and no other id has one
abbrev pub HasNumbers : List ℕ → (ℕ → Option ℕ) → Type 0
HasNumbers ids numbers = (id : ℕ) → numbers id ≡ number_of ids id
