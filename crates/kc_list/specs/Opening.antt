-- The words with which a list opens: its items, so many as fit in each, are in groups 1, 2 and so on.
use Rattle.std.specs.Prelude.{◌≡◌, ℕ, ◌+◌, ◌-◌, ◌*◌, ◌/◌, ◌%◌, ◌<◌, ◌≤◌, List, length, slice_index, false}
use Rattle.kc_words.specs.declared.item.ItemWord.{ItemWord}
use Rattle.kc_words.specs.declared.group.GroupWord.{GroupWord}
use Rattle.kc_words.specs.ItemWord.{item_of}
use Rattle.kc_words.specs.GroupWord.{group_of}
use Rattle.kc_lists.specs.Lists.{member}
use Rattle.kc_list.specs.Sheets.{version}
use Rattle.kc_list.specs.Tally.{opening_count}
use Rattle.kc_words.specs.declared.layout.TheConstants.{BOTTOM_ROOM, TOP_ROOM}
use Rattle.kc_list.specs.declared.limits.TheConstants.{OPENING_ITEMS}

-- of `len` items, what the word of the one at place i packs
abbrev pub opening_item : ℕ → ℕ → ℕ → ItemWord
opening_item v len i = record {
  version = v;
  group = 1 + i / OPENING_ITEMS;
  bottom = (i % OPENING_ITEMS + 1) * (BOTTOM_ROOM / (opening_count len (1 + i / OPENING_ITEMS) + 1));
}

-- how many groups they make
abbrev pub opening_groups : ℕ → ℕ
opening_groups len = (len + (OPENING_ITEMS - 1)) / OPENING_ITEMS

-- what the word of group 1 + j packs
abbrev pub opening_group : ℕ → ℕ → ℕ → GroupWord
opening_group v len j = record { version = v; top = (j + 1) * (TOP_ROOM / (opening_groups len + 1)) }

-- the words of `n` items and of the groups, where `order` is the list
pub record IsOpening (n v : ℕ) (order ws : List ℕ) : Type 0 where
  pub size : length ws ≡ n + n + 2
  pub note : slice_index ws 0 ≡ 0
  pub placed : (i : ℕ) → i < length order → item_of (slice_index ws (1 + slice_index order i)) ≡ opening_item v (length order) i
  pub out : (x : ℕ) → x < n → member x order ≡ false → item_of (slice_index ws (1 + x)) ≡ record { version = v; group = 0; bottom = 0 }
  pub tops : (j : ℕ) → j < opening_groups (length order) → group_of (slice_index ws (n + (1 + j))) ≡ opening_group v (length order) j
  pub unused : (g : ℕ) → opening_groups (length order) < g → g ≤ n + 1 → version ws (n + g) ≡ v
