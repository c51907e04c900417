-- What callers see of the list.
use Rattle.std.specs.Prelude.{◌≡◌, ℕ, ◌+◌, ◌<◌, ◌≤◌, List, [], ◌∷◌, ◌++◌, slice_index, true}
use Rattle.kc_lists.specs.Lists.{member}
use Rattle.kc_list.specs.Writes.{Write}
use Rattle.kc_words.specs.Order.{Ordered}
use Rattle.kc_list.specs.Sheets.{Paper, stored, OrderedAlong, RaisedAlong}
use Rattle.kc_list.specs.Tally.{AreGroupSizes}
use Rattle.kc_list.specs.declared.limits.TheConstants.{ITEM_WRITES}

-- the items are the numbers below `items`, those below `fixed` stay in the list; `words` are by word number
pub record Plain : Type 0 where
  pub items : ℕ
  pub fixed : ℕ
  pub words : List ℕ
  pub list : List ℕ
  pub writes : List Write

-- the writes make the new words of the old. Each raises its word's version by one. The pairs of labels order the list as it was
-- at each moment before the last write, which is to the word of x, and as it is now after it
pub record Written (n : ℕ) (before after : List ℕ) (x : ℕ) (old new : List ℕ) (writes : List Write) : Type 0 where
  pub front : List Write
  pub last : Write
  pub are : writes ≡ front ++ last ∷ []
  pub words : new ≡ stored old writes
  pub along : OrderedAlong n before old front
  pub now : Ordered n new after
  pub raised : RaisedAlong old writes
  pub last_is : last.word ≡ 1 + x

-- what is kept between two calls beside the labels: the sizes of the groups, and memory enough for a call
pub record IsBetweenCalls (n fixed : ℕ) (list : List ℕ) (sheet : Paper) (sizes : List ℕ) (scratch : ℕ) : Type 0 where
  pub fixed_in : (x : ℕ) → x < fixed → member x list ≡ true
  pub tallied : AreGroupSizes n sheet.words list sizes
  pub scratch_room : n ≤ scratch
  pub write_room : n + ITEM_WRITES ≤ sheet.room
  pub note : slice_index sheet.words 0 ≡ 0
