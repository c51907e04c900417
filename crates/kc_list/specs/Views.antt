-- The words of the contracts, over a list and the sheet that has its words.
use Rattle.std.specs.Prelude.{◌≡◌, ℕ, ◌+◌, ◌/◌, ◌<◌, ◌≤◌, List, [], ◌∷◌, ◌++◌, length, slice_index, slice_set, true}
use Rattle.kc_links.specs.Ring.{Chain}
use Rattle.kc_lists.specs.Lists.{member, next_of}
use Rattle.kc_words.specs.Order.{PairBelow, labels}
use Rattle.kc_list.specs.Places.{Segment, First, Free, Splitting, NotOf, HasGap, size_of, runs, gap_end, top_end, evens}
use Rattle.kc_list.specs.Sheets.{Paper, WritesKeepOrder, version}
use Rattle.kc_list.specs.Tally.{AreGroupSizes}
use Rattle.kc_list.specs.Tally as tally
use Rattle.kc_words.specs.declared.layout.TheConstants.{LAST_VERSION, BOTTOM_ROOM, TOP_ROOM}
use Rattle.kc_list.specs.declared.limits.TheConstants.{GROUP_ITEMS}

-- labels

-- the group of item x
abbrev pub group_at : Chain → Paper → ℕ → ℕ
group_at c p x = (labels c.size p.words).group x

-- the label of item x in its group
abbrev pub bottom_at : Chain → Paper → ℕ → ℕ
bottom_at c p x = (labels c.size p.words).bottom x

-- the label of group g
abbrev pub top_at : Chain → Paper → ℕ → ℕ
top_at c p g = (labels c.size p.words).top g

-- the version in word w
abbrev pub version_at : Paper → ℕ → ℕ
version_at p w = version p.words w

-- `count` labels that share a room evenly
abbrev pub evenly : ℕ → ℕ → List ℕ
evenly count room = evens count (room / (count + 1)) 0

-- the pair of item x, its group's label and its own, is less than that of item y
abbrev pub IsPairBelow : Chain → Paper → ℕ → ℕ → Type 0
IsPairBelow c p x y = PairBelow (labels c.size p.words) x y

-- groups

-- how many items of the list are in group g
abbrev pub group_size : Chain → Paper → ℕ → ℕ
group_size c p g = size_of (labels c.size p.words).group g c.list

-- the groups that have items of the list, in its order
abbrev pub groups_in_use : Chain → Paper → List ℕ
groups_in_use c p = runs (labels c.size p.words).group c.list

-- no item of the list is in group h
abbrev pub IsFree : Chain → Paper → ℕ → Type 0
IsFree c p h = Free c.size (labels c.size p.words) c.list h

-- no item has group h, and its word can be written
pub record IsSpare (c : Chain) (p : Paper) (h : ℕ) : Type 0 where
  pub free : IsFree c p h
  pub version : version_at p (c.size + h) < LAST_VERSION

-- the group of p, which is in the list, has as many items as it may have
pub record IsFull (c : Chain) (s : Paper) (p : ℕ) : Type 0 where
  pub p_in : member p c.list ≡ true
  pub size : group_size c s (group_at c s p) ≡ GROUP_ITEMS

-- the items of group g, in order
abbrev pub AreMembers : Chain → Paper → ℕ → List ℕ → Type 0
AreMembers c p g m = Segment (labels c.size p.words) c.list g m

-- these are the members of the full group of p, in order
pub record AreGroupMembers (c : Chain) (s : Paper) (p : ℕ) (members : List ℕ) : Type 0 where
  pub count : length members ≡ GROUP_ITEMS
  pub full : IsFull c s p
  pub segment : AreMembers c s (group_at c s p) members

-- x is the first item of group g
abbrev pub IsFirst : Chain → Paper → ℕ → ℕ → Type 0
IsFirst c p g x = First (labels c.size p.words) c.list g x

-- the members of group g are `low` and `ups`, of which those from the i-th on have moved to group h and have the labels `ls`
abbrev pub IsSplitting : Chain → Paper → ℕ → ℕ → List ℕ → List ℕ → List ℕ → ℕ → Type 0
IsSplitting c p g h low ups ls i = Splitting c.size (labels c.size p.words) c.list g h low ups ls i

-- the members of group g are `low` and `ups`, of which those from the i-th on have moved to group h and share its room evenly
abbrev pub HaveMoved : Chain → Paper → ℕ → ℕ → List ℕ → List ℕ → ℕ → Type 0
HaveMoved c p g h low ups i = IsSplitting c p g h low ups (evenly (length ups) BOTTOM_ROOM) i

-- word w is that of no item of group g
abbrev pub IsNoWordOf : Chain → Paper → ℕ → ℕ → Type 0
IsNoWordOf c p g w = NotOf (labels c.size p.words) c.list g w

-- these are the sizes of the groups, and none is above GROUP_ITEMS
abbrev pub AreSizes : Chain → Paper → List ℕ → Type 0
AreSizes c p sizes = AreGroupSizes c.size p.words c.list sizes

-- the group of p can take x
abbrev pub TakesItem : Chain → Paper → ℕ → ℕ → Type 0
TakesItem c s x p = tally.TakesItem c.size s.words c.list x p

-- gaps

-- where the labels end that an item right after p may have
abbrev pub end_after : Chain → Paper → ℕ → ℕ
end_after c s p = gap_end c.size s.words c.list p

-- there is a label for an item right after p
abbrev pub HasLabelAfter : Chain → Paper → ℕ → Type 0
HasLabelAfter c s p = HasGap c.size s.words c.list p

-- the gap right after p goes from its label to this end
pub record IsGapAfter (c : Chain) (s : Paper) (p label end : ℕ) : Type 0 where
  pub low : label ≡ bottom_at c s p
  pub high : end ≡ end_after c s p

-- a label of the gap right after p, which is in the list
pub record FitsAfter (c : Chain) (s : Paper) (p label : ℕ) : Type 0 where
  pub p_in : member p c.list ≡ true
  pub low : bottom_at c s p < label
  pub high : label < end_after c s p

-- where the labels end that a group may have right after the group whose last item is x
abbrev pub end_above : Chain → Paper → ℕ → ℕ
end_above c p x = top_end c.size (labels c.size p.words) (next_of c.size x c.list)

-- label t is below those of the groups after g
abbrev pub FitsAbove : Chain → Paper → ℕ → ℕ → Type 0
FitsAbove c p g t = (z : ℕ) → member z c.list ≡ true → top_at c p g < top_at c p (group_at c p z) → t < top_at c p (group_at c p z)

-- label t is above that of group g, and below those of the groups after it
pub record IsTopAbove (c : Chain) (p : Paper) (g t : ℕ) : Type 0 where
  pub above : top_at c p g < t
  pub high : t < TOP_ROOM
  pub gap : FitsAbove c p g t

-- a label fits between that of group g and each greater one
abbrev pub HasLabelsAbove : Chain → Paper → ℕ → Type 0
HasLabelsAbove c p g = (z : ℕ) → member z c.list ≡ true → top_at c p g < top_at c p (group_at c p z) → top_at c p g + 2 ≤ top_at c p (group_at c p z)

-- a label fits between that of group g and each greater one, and one below the end of all labels
pub record HasRoomAbove (c : Chain) (p : Paper) (g : ℕ) : Type 0 where
  pub gap : HasLabelsAbove c p g
  pub high : top_at c p g + 2 ≤ TOP_ROOM

-- between the labels of any two groups in use there is a label for one more
abbrev pub TopsAreApart : Chain → Paper → Type 0
TopsAreApart c p = (g : ℕ) → member g (groups_in_use c p) ≡ true → (h : ℕ) → member h (groups_in_use c p) ≡ true → top_at c p g < top_at c p h
    → top_at c p g + 2 ≤ top_at c p h

-- from one sheet to another

-- the list is in order after each write
abbrev pub KeepsOrder : Chain → Paper → Paper → Type 0
KeepsOrder c p q = WritesKeepOrder c.size c.list p q

-- p has a label after it, or the words of its group's items are as they were
abbrev pub KeepsGroup : Chain → Paper → Paper → ℕ → Type 0
KeepsGroup c s t p = tally.KeepsGroup c.size s.words t.words c.list p

-- no word's version is more than one above what it was
abbrev pub RisesByOne : Paper → Paper → Type 0
RisesByOne p q = (w : ℕ) → version q.words w ≤ version p.words w + 1

-- the words of these items can be written: none has the last version
abbrev pub ItemsMayRise : Paper → List ℕ → Type 0
ItemsMayRise p list = (y : ℕ) → member y list ≡ true → version p.words (1 + y) < LAST_VERSION

-- the words of these items can be written, and there is memory for so many more writes
pub record ItemsHaveSpare (most : ℕ) (p : Paper) (list : List ℕ) : Type 0 where
  pub version : ItemsMayRise p list
  pub room : length p.writes + most ≤ p.room

-- no word changes but word w
abbrev pub SetsWord : ℕ → Paper → Paper → Type 0
SetsWord w p q = q.words ≡ slice_set p.words w (slice_index q.words w)

-- one write is added, of the new value of word w
abbrev pub AddsWrite : ℕ → Paper → Paper → Type 0
AddsWrite w p q = q.writes ≡ p.writes ++ record { word = w; value = slice_index q.words w } ∷ []

-- there is memory for so many more writes, and each word can be written two more times
pub record HasSpare (most : ℕ) (p : Paper) : Type 0 where
  pub versions : (w : ℕ) → version p.words w + 1 < LAST_VERSION
  pub room : length p.writes + most ≤ p.room
