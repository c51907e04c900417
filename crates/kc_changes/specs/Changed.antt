-- The ids whose core numbers change, and what the lines about them tell. `before` and `after` give the core number of each id, and none where
-- there is no such id.
use Rattle.std.specs.Prelude.{◌≡◌, ◌++◌, ℕ, Bool, true, false, List, [], ◌∷◌, Option, Some, None, All, filter, map, nat_eq, nat_le, not}
use Rattle.std.specs.Prelude.{if◌then◌else◌}
use Rattle.std.specs.FinMap as finmap
use Rattle.std.specs.List.{flat_map}
use Rattle.std.specs.Ordering.{nat_cmp}
use Rattle.kc_lists.specs.Lists.{Distinct, member}
use Rattle.kc_reply.specs.Facts.{Fact}
use Rattle.kc_reply.specs.Facts as fact
use Rattle.kc_changes.specs.declared.id_change.IdChange.{IdChange}
use Rattle.kc_changes.specs.declared.show.Show.{Show}
use Rattle.kc_changes.specs.declared.show.Show.TheVariants.{Changes, Summary}

-- a number as a key, with nothing at it
abbrev pub keyed : ℕ → ℕ × Unit {0}
keyed n = (n, tt)

-- Numbers in ascending order, each once: the keys of a map that has each of them.
abbrev pub ascending_ids : List ℕ → List ℕ
ascending_ids numbers = finmap.keys (finmap.from_entries {R = nat_cmp} (map keyed numbers))

-- whether both are one number, or there is none twice
abbrev pub is_same : Option ℕ → Option ℕ → Bool
is_same None None = true
is_same None (Some n) = false
is_same (Some m) None = false
is_same (Some m) (Some n) = nat_eq m n

-- whether an id has another core number than before, or is new
abbrev pub is_changed : (ℕ → Option ℕ) → (ℕ → Option ℕ) → ℕ → Bool
is_changed before after id = not (is_same (before id) (after id))

-- those of some ids that are changed, ascending
abbrev pub changed_ids : (ℕ → Option ℕ) → (ℕ → Option ℕ) → List ℕ → List ℕ
changed_ids before after ids = ascending_ids (filter (is_changed before after) ids)

-- what shows the numbers of the changed ids, where these are shown
abbrev pub change_facts : Show → (ℕ → Option ℕ) → (ℕ → Option ℕ) → List ℕ → List Fact
change_facts Summary before after ids = []
change_facts Changes before after ids = map (λ id. fact.Change id (before id) (after id)) (changed_ids before after ids)

-- whether an id with this core number is in the k-core: it is k or more
abbrev pub is_in : ℕ → Option ℕ → Bool
is_in k None = false
is_in k (Some n) = nat_le k n

-- that an id came into the k-core, if it was not in it, or left it, if it was, by its numbers
abbrev pub crossing_of : ℕ → ℕ → Option ℕ → Option ℕ → List Fact
crossing_of k id old new =
    if is_in k old then (if is_in k new then [] else fact.Leave id ∷ []) else (if is_in k new then fact.Enter id ∷ [] else [])

-- who came into the k-core or left it, ascending, where there is a k; each of them is changed
abbrev pub crossing_facts : Option ℕ → (ℕ → Option ℕ) → (ℕ → Option ℕ) → List ℕ → List Fact
crossing_facts None before after ids = []
crossing_facts (Some k) before after ids = flat_map (λ id. crossing_of k id (before id) (after id)) (changed_ids before after ids)

-- all that is told of the changed ones of some ids
abbrev pub facts_behind : Show → Option ℕ → (ℕ → Option ℕ) → (ℕ → Option ℕ) → List ℕ → List Fact
facts_behind show enter before after ids = change_facts show before after ids ++ crossing_facts enter before after ids

-- an id that is changed, with both its numbers
pub record IsIdChange (before after : ℕ → Option ℕ) (ids : List ℕ) (c : IdChange) : Type 0 where
  pub among : member c.id ids ≡ true
  pub old : c.before ≡ before c.id
  pub new : Some c.now ≡ after c.id
  pub changed : is_changed before after c.id ≡ true

-- the ids of changes
abbrev pub ids_in : List IdChange → List ℕ
ids_in changes = map (λ c. c.id) changes

-- Each changed one of the ids is there, once, in any order, and no other.
pub record AreIdChanges (before after : ℕ → Option ℕ) (ids : List ℕ) (changes : List IdChange) : Type 0 where
  pub once : Distinct (ids_in changes)
  pub each : All (IsIdChange before after ids) changes
  pub all : (id : ℕ) → member id ids ≡ true → is_changed before after id ≡ true → member id (ids_in changes) ≡ true
