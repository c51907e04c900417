-- The words, and what was stored to them.
use Rattle.std.specs.Prelude.{◌≡◌, ℕ, ◌+◌, ◌<◌, List, [], ◌∷◌, ◌++◌, length, slice_index, slice_set, max, false}
use Rattle.kc_lists.specs.Lists.{member}
use Rattle.kc_words.specs.ItemWord.{item_of}
use Rattle.kc_list.specs.Writes.{Write}
use Rattle.kc_words.specs.Order.{Ordered}

-- the words, the writes that were made of them, and how many writes there is room for
pub record Paper : Type 0 where
  pub words : List ℕ
  pub writes : List Write
  pub room : ℕ

-- the version in word w
abbrev pub version : List ℕ → ℕ → ℕ
version ws w = (item_of (slice_index ws w)).version

-- the greatest version of any word
abbrev pub highest_of : List ℕ → ℕ
highest_of [] = 0
highest_of (w ∷ ws) = max (item_of w).version (highest_of ws)

-- a write to an item's or a group's word, which raises its version by one
pub record Raises (ws : List ℕ) (s : Write) : Type 0 where
  pub low : 0 < s.word
  pub high : s.word < length ws
  pub version_is : (item_of s.value).version ≡ version ws s.word + 1

-- the words after some writes
abbrev pub stored : List ℕ → List Write → List ℕ
stored ws [] = ws
stored ws (s ∷ ss) = stored (slice_set ws s.word s.value) ss

-- the list stays in order at each moment of the writes
abbrev pub OrderedAlong : ℕ → List ℕ → List ℕ → List Write → Type 0
OrderedAlong n list ws [] = Ordered n ws list
OrderedAlong n list ws (s ∷ ss) = Ordered n ws list × OrderedAlong n list (slice_set ws s.word s.value) ss

-- each write raises its word's version by one
abbrev pub RaisedAlong : List ℕ → List Write → Type 0
RaisedAlong ws [] = Unit {0}
RaisedAlong ws (s ∷ ss) = Raises ws s × RaisedAlong (slice_set ws s.word s.value) ss

-- no word changes but those with these numbers
pub record ChangesOnly (at ws vs : List ℕ) : Type 0 where
  pub same : (w : ℕ) → member w at ≡ false → slice_index vs w ≡ slice_index ws w

-- some writes are added, and the list stays as it is at each moment
pub record WritesKeepOrder (n : ℕ) (list : List ℕ) (old new : Paper) : Type 0 where
  pub added : List Write
  pub writes : new.writes ≡ old.writes ++ added
  pub words : new.words ≡ stored old.words added
  pub along : OrderedAlong n list old.words added
  pub raised : RaisedAlong old.words added
