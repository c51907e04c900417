-- What contracts see of a collect: two items, the words that were loaded with their values, and the prefixes after which they were.
use Rattle.std.specs.Prelude.{◌≡◌, ◌≢◌, ◌<◌, ◌≤◌, ◌+◌, ◌⊎◌, ℕ, List, [], ◌∷◌}
use mathlib.Core.List.{IsPrefix}
use Rattle.kc_words.specs.ItemWord.{item_of}
use Rattle.kc_words.specs.GroupWord.{group_of}
use Rattle.kc_table.specs.declared.view.Event.{Event}
use Rattle.kc_table.specs.Log.{TableName, value_at}
use Rattle.kc_table.specs.Legal.{Legal}

-- a word, the value that was loaded, and the prefix of the log after which the word had it
pub record Loaded : Type 0 where
  pub word : ℕ
  pub value : ℕ
  pub prefix : List Event

-- `seen` is what the collect's own pass has seen
pub record Collected : Type 0 where
  pub table : TableName
  pub seen : List Event
  pub x : ℕ
  pub y : ℕ
  pub item_x : Loaded
  pub item_y : Loaded
  pub group_x : Loaded
  pub group_y : Loaded

-- the four words, in the order of their loads
abbrev pub words_of : Collected → List Loaded
words_of c = c.item_x ∷ c.item_y ∷ c.group_x ∷ c.group_y ∷ []

-- the word had the value after the prefix
abbrev pub Held : TableName → Loaded → Type 0
Held table l = l.value ≡ value_at table.opening l.prefix l.word

-- the group that an item's word names
abbrev pub group_in : Loaded → ℕ
group_in l = (item_of l.value).group

-- The words are those of the two items and of the groups that these name, which are groups of the table and not group 0. Each value was
-- its word's after its prefix, and each prefix extends the one before. The last one is legal, and the collect's own pass has seen it.
pub record IsCollect (c : Collected) : Type 0 where
  pub differ : c.x ≢ c.y
  pub x_in : c.x < c.table.shape.items
  pub y_in : c.y < c.table.shape.items
  pub item_x_is : c.item_x.word ≡ 1 + c.x
  pub item_y_is : c.item_y.word ≡ 1 + c.y
  pub group_x_is : c.group_x.word ≡ c.table.shape.items + group_in c.item_x
  pub group_y_is : c.group_y.word ≡ c.table.shape.items + group_in c.item_y
  pub x_listed : 0 < group_in c.item_x
  pub y_listed : 0 < group_in c.item_y
  pub x_group : group_in c.item_x ≤ c.table.shape.items + 1
  pub y_group : group_in c.item_y ≤ c.table.shape.items + 1
  pub item_x_held : Held c.table c.item_x
  pub item_y_held : Held c.table c.item_y
  pub group_x_held : Held c.table c.group_x
  pub group_y_held : Held c.table c.group_y
  pub first_second : IsPrefix c.item_x.prefix c.item_y.prefix
  pub second_third : IsPrefix c.item_y.prefix c.group_x.prefix
  pub third_last : IsPrefix c.group_x.prefix c.group_y.prefix
  pub legal : Legal c.table.shape c.table.opening c.group_y.prefix
  pub own : c.seen ≡ c.group_y.prefix

-- the value was the word's after the collect's last prefix
abbrev pub HeldLast : Collected → Loaded → Type 0
HeldLast c l = l.value ≡ value_at c.table.opening c.group_y.prefix l.word

-- the values of all four loads were their words' after the collect's last prefix
abbrev pub AllHeld : Collected → Type 0
AllHeld c = HeldLast c c.item_x × HeldLast c c.item_y × HeldLast c c.group_x × HeldLast c c.group_y

-- the pair of x is less than that of y, by the values
abbrev pub PairLess : Collected → Type 0
PairLess c =
    ((group_of c.group_x.value).top < (group_of c.group_y.value).top)
    ⊎ (((group_of c.group_x.value).top ≡ (group_of c.group_y.value).top) × ((item_of c.item_x.value).bottom < (item_of c.item_y.value).bottom))
