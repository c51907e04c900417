-- What is kept of the vertices that were visited.
use Rattle.std.specs.Prelude.{◌≡◌, ℕ, Bool, true, false, Option, Some, None, List, take, is_some, nat_lt}
use Rattle.kc_lists.specs.Lists.{member}
use Rattle.kc_graph.specs.Lawful.{Ranked}
use Rattle.kc_graph.specs.declared.update.Update.{Update}
use Rattle.kc_remove.specs.Cascade.{found}
use Rattle.kc_remove.specs.Removed.{search_without}
use Rattle.kc_remove.specs.declared.falling.Count.{Count}
use Rattle.kc_remove.specs.declared.falling.Visit.{Visit}

-- the count before any neighbour was looked at
abbrev pub nothing_counted : Count
nothing_counted = record { support = 0; looked = 0; bound = 0 }

-- the count that a visit tells, or that before any neighbour was looked at
abbrev pub count_in : Option Visit → Count
count_in None = nothing_counted
count_in (Some visit) = visit.count

-- whether a visit tells that its vertex has fallen
abbrev pub fallen_in : Option Visit → Bool
fallen_in None = false
fallen_in (Some visit) = is_some visit.fallen

-- whether there is a place and it is below `turns`
abbrev pub is_place_below : ℕ → Option ℕ → Bool
is_place_below turns None = false
is_place_below turns (Some place) = nat_lt place turns

-- whether a visit tells that its vertex is one of the first `turns` of the fallen
abbrev pub gone_in : ℕ → Option Visit → Bool
gone_in turns None = false
gone_in turns (Some visit) = is_place_below turns visit.fallen

-- of the neighbours in `row` just the first `looked` are below the bound
abbrev pub IsBound : List ℕ → ℕ → ℕ → Type 0
IsBound row looked bound = (z : ℕ) → member z row ≡ true → nat_lt z bound ≡ member z (take looked row)

-- the count is that of the neighbours below the bound that support `y` where those of `gone` don't
abbrev pub IsSupport : Update → ℕ → Ranked → List ℕ → ℕ → Count → Type 0
IsSupport update level s gone y count = count.support ≡ found (search_without update level s) (λ z. nat_lt z count.bound) gone y
