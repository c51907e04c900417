-- How two items stand in the list of a log, and what a comparison may answer.
use Rattle.std.specs.Prelude.{◌≡◌, ◌≢◌, ◌<◌, ◌≤◌, ◌+◌, ◌⊎◌, ℕ, List, [], ◌∷◌, ◌++◌, length, true, false}
use mathlib.Core.List.{IsPrefix}
use Rattle.kc_lists.specs.Lists.{member, place_of}
use Rattle.kc_words.specs.ItemWord.{item_of}
use Rattle.kc_words.specs.declared.again.Again.{Again}
use Rattle.kc_table.specs.declared.view.Event.{Event}
use Rattle.kc_table.specs.Log.{PassSeen, TableName, value_at}
use Rattle.kc_table.specs.TableState.{state_of}
use Rattle.kc_table.specs.Legal.{Legal}
use Rattle.kc_order.specs.Collected.{Collected, IsCollect, Loaded, words_of}
use Rattle.kc_order.specs.declared.answer.Answer.{Answer}
use Rattle.kc_order.specs.declared.answer.Answer.TheVariants as answer

-- the list after a prefix of a table's log
abbrev pub list_after : TableName → List Event → List ℕ
list_after table log = (state_of table.shape table.opening log).list

-- both are in the list, and x stands before y
pub record StandsBefore (x y : ℕ) (list : List ℕ) : Type 0 where
  pub first : member x list ≡ true
  pub second : member y list ≡ true
  pub before : place_of x list < place_of y list

-- a prefix of the log that extends `old` and that `new` extends
pub record Between (old new : List Event) (prefix : List Event) : Type 0 where
  pub extends : IsPrefix old prefix
  pub extended : IsPrefix prefix new

-- x stood before y after a prefix between the two
pub record StoodBefore (table : TableName) (old new : List Event) (x y : ℕ) : Type 0 where
  pub prefix : List Event
  pub between : Between old new prefix
  pub stood : StandsBefore x y (list_after table prefix)

-- Steps of a pass. ---------------------------------------------------------------------------------

-- the pass has made so many loads and splits more
pub record Steps (old new : PassSeen) (loads splits : ℕ) : Type 0 where
  pub loaded : new.loads ≡ old.loads + loads
  pub split : new.splits ≡ old.splits + splits

-- One load of a word: what the pass has seen goes on, and the value is the word's after that.
pub record LoadsWord (old new : PassSeen) (word value : ℕ) : Type 0 where
  pub table : new.table ≡ old.table
  pub longer : IsPrefix old.log new.log
  pub legal : Legal new.table.shape new.table.opening new.log
  pub held : value ≡ value_at new.table.opening new.log word
  pub steps : Steps old new 1 0

-- One load of a word that had `value` before: it has another one now, and both are named.
pub record LoadsOther (old new : PassSeen) (word value : ℕ) (again : Again) : Type 0 where
  pub loaded : LoadsWord old new word again.second
  pub named : again.word ≡ word
  pub before : again.first ≡ value
  pub differ : again.first ≢ again.second

-- An item that is out. --------------------------------------------------------------------------------

-- One load of the item's word: it names no group, so the item is out of the list. No vertex ever is.
pub record FoundOut (old new : PassSeen) (item : ℕ) : Type 0 where
  pub value : ℕ
  pub loaded : LoadsWord old new (1 + item) value
  pub out : (item_of value).group ≡ 0
  pub absent : member item (list_after new.table new.log) ≡ false
  pub no_vertex : new.table.shape.fixed ≤ item

-- one load of the item's word: it names a group
pub record FoundIn (old new : PassSeen) (item : ℕ) : Type 0 where
  pub value : ℕ
  pub loaded : LoadsWord old new (1 + item) value
  pub inside : 0 < (item_of value).group

-- x was found to be out by one load; or it was not, and y was by a second load
abbrev pub IsAbsent : PassSeen → PassSeen → ℕ → ℕ → ℕ → Type 0
IsAbsent old new x y item =
    ((item ≡ x) × FoundOut old new x)
    ⊎ ((item ≡ y) × ((middle : PassSeen) × FoundIn old middle x × FoundOut middle new y))

-- the first collect ends with this answer alone
abbrev pub EndsCollect : PassSeen → PassSeen → ℕ → ℕ → Answer → Type 0
EndsCollect old new x y answer.Before = ⊥
EndsCollect old new x y answer.After = ⊥
EndsCollect old new x y answer.Same = ⊥
EndsCollect old new x y (answer.Absent item) = IsAbsent old new x y item
EndsCollect old new x y (answer.Again again) = ⊥

-- The second loads. -------------------------------------------------------------------------------------

-- These words are loaded one after the other, and each has its value again. So what was seen at each load extends what was seen at the
-- one before.
abbrev pub FindsSame : PassSeen → List Loaded → PassSeen → Type 0
FindsSame old [] new = new ≡ old
FindsSame old (l ∷ ls) new = (next : PassSeen) × LoadsWord old next l.word l.value × FindsSame next ls new

-- These words are loaded one after the other up to the first that has another value. The loads are as many as the words up to it.
pub record FindsOther (old : PassSeen) (words : List Loaded) (new : PassSeen) (again : Again) : Type 0 where
  pub front : List Loaded
  pub other : Loaded
  pub back : List Loaded
  pub are : words ≡ front ++ other ∷ back
  pub middle : PassSeen
  pub same : FindsSame old front middle
  pub differs : LoadsOther middle new other.word other.value again
  pub steps : Steps old new (length front + 1) 0

-- What the second collect answers: how the items stood after the collect's last prefix where no word of four differs, else the first
-- that does.
abbrev pub EndsSecond : Collected → PassSeen → PassSeen → Answer → Type 0
EndsSecond c old new answer.Before =
    FindsSame old (words_of c) new × Steps old new 4 0 × StandsBefore c.x c.y (list_after c.table c.group_y.prefix)
EndsSecond c old new answer.After =
    FindsSame old (words_of c) new × Steps old new 4 0 × StandsBefore c.y c.x (list_after c.table c.group_y.prefix)
EndsSecond c old new answer.Same = ⊥
EndsSecond c old new (answer.Absent item) = ⊥
EndsSecond c old new (answer.Again again) = FindsOther old (words_of c) new again

-- A comparison. -----------------------------------------------------------------------------------------

-- A first collect of x and y, by four loads and the split of its own pass; and then a second one, which ends with this answer.
pub record TwoCollects (old new : PassSeen) (x y : ℕ) (answer : Answer) : Type 0 where
  pub collect : Collected
  pub is : IsCollect collect
  pub same_table : collect.table ≡ old.table
  pub same_x : collect.x ≡ x
  pub same_y : collect.y ≡ y
  pub middle : PassSeen
  pub begins : IsPrefix old.log collect.item_x.prefix
  pub ends : IsPrefix collect.group_y.prefix middle.log
  pub first : Steps old middle 4 1
  pub second : EndsSecond collect middle new answer

-- What a comparison answers: by its arguments alone, by the load of an item's word, or by two collects of the caller's pass. A sure
-- answer is how the two stood after one prefix, and takes eight loads of that pass; `Again` takes four and those up to the word that differs.
abbrev pub Compares : PassSeen → PassSeen → ℕ → ℕ → Answer → Type 0
Compares old new x y answer.Before =
    (x ≢ y) × StoodBefore old.table old.log new.log x y × TwoCollects old new x y answer.Before × Steps old new 8 1
Compares old new x y answer.After =
    (x ≢ y) × StoodBefore old.table old.log new.log y x × TwoCollects old new x y answer.After × Steps old new 8 1
Compares old new x y answer.Same = (x ≡ y) × (new ≡ old)
Compares old new x y (answer.Absent item) = (x ≢ y) × IsAbsent old new x y item
Compares old new x y (answer.Again again) = (x ≢ y) × TwoCollects old new x y (answer.Again again)
