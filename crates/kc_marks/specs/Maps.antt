-- Maps whose keys are vertices.
use Rattle.std.specs.Prelude.{◌≡◌, ◌≢◌, ◌+◌, ℕ, zero, suc, List, [], ◌∷◌, Option, None, Some, nat_eq, if◌then◌else◌}
use Rattle.kc_marks.specs.declared.map.VertexEntry.{VertexEntry}

-- a value for each vertex that has one, in the order in which the vertices came
abbrev pub VertexMap : Type 0 → Type 0
VertexMap V = List (VertexEntry V)

-- the value of `y`, if it has one
abbrev pub value_of : {V : Type 0} → VertexMap V → ℕ → Option V
value_of [] y = None
value_of (e ∷ entries) y = if nat_eq y e.vertex then Some e.value else value_of entries y

-- a place further on, where there is one
abbrev pub one_on : ℕ → ℕ
one_on zero = 0
one_on (suc n) = n + 2

-- the place of the entry of `y`, counted from 1, or 0 where it has none
abbrev pub number_in : {V : Type 0} → VertexMap V → ℕ → ℕ
number_in [] y = 0
number_in (e ∷ entries) y = if nat_eq y e.vertex then 1 else one_on (number_in entries y)

-- One vertex has this value, and each other the one that it had, or still none.
pub record ValuesOne {V : Type 0} (y : ℕ) (value : V) (old new : VertexMap V) : Type 0 where
  pub here : value_of new y ≡ Some value
  pub others : (z : ℕ) → z ≢ y → value_of new z ≡ value_of old z
