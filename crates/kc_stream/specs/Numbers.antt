-- The numbers that stand for ids, in a table and a map.
use Rattle.std.specs.Prelude.{◌≡◌, ◌<◌, ◌-◌, ℕ, List, Option, Some, None, nat_eq, nat_lt, if◌then◌else◌}
use Rattle.std.specs.HashMap.{HashMap, get}
use Rattle.kc_graph.specs.Peeling.{at}

-- The number that stands for an id, where one does: the table has one more than it under the id, or 0; then the map has it.
abbrev pub number_in : {S : Type 0} → List ℕ → HashMap ℕ ℕ S → ℕ → Option ℕ
number_in table others id = if nat_lt 0 (at table id) then Some (at table id - 1) else get nat_eq others id

-- no id has a number in both
abbrev pub AreApart : {S : Type 0} → List ℕ → HashMap ℕ ℕ S → Type 0
AreApart table others = (id : ℕ) → 0 < at table id → get nat_eq others id ≡ None
