-- The order that the words say the items of a list have.
use Rattle.std.specs.Prelude.{◌≡◌, ℕ, ◌+◌, ◌<◌, ◌≤◌, ◌⊎◌, List, slice_index, true, false}
use Rattle.kc_lists.specs.Lists.{member, InOrder}
use Rattle.kc_words.specs.ItemWord.{item_of}
use Rattle.kc_words.specs.GroupWord.{group_of}

-- what the words say: the group and the bottom label of each item, and the top label of each group
pub record Labels : Type 0 where
  pub group : ℕ → ℕ
  pub bottom : ℕ → ℕ
  pub top : ℕ → ℕ

-- of `n` items: item x has word 1 + x, and group g has word n + g
abbrev pub labels : ℕ → List ℕ → Labels
labels n ws = record {
  group = λ x. (item_of (slice_index ws (1 + x))).group;
  bottom = λ x. (item_of (slice_index ws (1 + x))).bottom;
  top = λ g. (group_of (slice_index ws (n + g))).top;
}

-- the pair of x, which is the top label of its group and its own bottom label, is less than that of y
abbrev pub PairBelow : Labels → ℕ → ℕ → Type 0
PairBelow a x y = (a.top (a.group x) < a.top (a.group y)) ⊎ ((a.top (a.group x) ≡ a.top (a.group y)) × (a.bottom x < a.bottom y))

-- the pairs order the list, and an item has a group exactly where it is in the list
pub record Ordered (n : ℕ) (ws : List ℕ) (list : List ℕ) : Type 0 where
  pub pairs : InOrder (PairBelow (labels n ws)) list
  pub inside : (x : ℕ) → member x list ≡ true → (0 < (labels n ws).group x) × ((labels n ws).group x ≤ n + 1)
  pub outside : (x : ℕ) → x < n → member x list ≡ false → (labels n ws).group x ≡ 0
