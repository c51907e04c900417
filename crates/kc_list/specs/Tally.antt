-- The sizes of the groups, and the free numbers.
use Rattle.std.specs.Prelude.{◌≡◌, ℕ, ◌+◌, ◌-◌, ◌*◌, ◌<◌, ◌≤◌, ◌⊎◌, List, length, slice_index, min, true}
use Rattle.kc_lists.specs.Lists.{member, Distinct}
use Rattle.kc_words.specs.Order.{labels}
use Rattle.kc_list.specs.Places.{size_of, HasGap}
use Rattle.kc_list.specs.declared.limits.TheConstants.{GROUP_ITEMS, OPENING_ITEMS}

-- the free numbers are those whose size is 0
pub record IsTally (sizes free : List ℕ) : Type 0 where
  pub distinct : Distinct free
  pub within : (h : ℕ) → member h free ≡ true → (0 < h) × (h < length sizes) × (slice_index sizes h ≡ 0)
  pub all : (h : ℕ) → 0 < h → h < length sizes → slice_index sizes h ≡ 0 → member h free ≡ true

-- how many of `len` items are in group `g`, where so many as fit at the opening are put into each, from group 1 on
abbrev pub opening_count : ℕ → ℕ → ℕ
opening_count len g = min OPENING_ITEMS (len - OPENING_ITEMS * (g - 1))

-- the sizes are those of the groups of a list, and none is above GROUP_ITEMS
pub record AreGroupSizes (n : ℕ) (ws list sizes : List ℕ) : Type 0 where
  pub length_is : length sizes ≡ n + 2
  pub counts : (g : ℕ) → 0 < g → g ≤ n + 1 → slice_index sizes g ≡ size_of (labels n ws).group g list
  pub most : (g : ℕ) → slice_index sizes g ≤ GROUP_ITEMS

-- the group of p has less than GROUP_ITEMS items, or x is one of them
abbrev pub TakesItem : ℕ → List ℕ → List ℕ → ℕ → ℕ → Type 0
TakesItem n ws list x p = (size_of (labels n ws).group ((labels n ws).group p) list < GROUP_ITEMS) ⊎ ((labels n ws).group x ≡ (labels n ws).group p)

-- p has a label after it, or the words of all items of its group are as they were
abbrev pub KeepsGroup : ℕ → List ℕ → List ℕ → List ℕ → ℕ → Type 0
KeepsGroup n ws vs list p = HasGap n vs list p ⊎ ((y : ℕ) → member y list ≡ true → (labels n vs).group y ≡ (labels n vs).group p
    → slice_index vs (1 + y) ≡ slice_index ws (1 + y))
