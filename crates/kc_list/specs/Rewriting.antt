-- From one state of the labelled list to a later one.
use Rattle.std.specs.Prelude.{◌≡◌, ℕ, ◌+◌, ◌<◌, ◌≤◌, List, ◌∷◌, length, take, drop, map, slice_index, true}
use Rattle.kc_lists.specs.Lists.{member, without, right_after}
use Rattle.kc_words.specs.ItemWord.{item_of}
use Rattle.kc_list.specs.Places.{evens}
use Rattle.kc_list.specs.Sheets.{Paper, ChangesOnly}
use Rattle.kc_list.specs.Views.{KeepsOrder, RisesByOne, SetsWord, AddsWrite, IsNoWordOf, HasLabelAfter, AreSizes, AreMembers, TakesItem, KeepsGroup}
use Rattle.kc_list.specs.Views.{IsFree, TopsAreApart, group_at, group_size, groups_in_use, bottom_at, top_at, version_at, evenly}
use Rattle.kc_words.specs.declared.layout.TheConstants.{BOTTOM_ROOM, TOP_ROOM}
use Rattle.kc_list.specs.declared.limits.TheConstants.{GROUP_ITEMS, HALF_ITEMS, HALF_STEP}
use Rattle.kc_list.specs.declared.labelled.LabelledList.{LabelledList}

-- word w is written, once
pub record WritesWord (w : ℕ) (old new : Paper) : Type 0 where
  pub words : SetsWord w old new
  pub writes : AddsWrite w old new
  pub version : version_at new w ≡ version_at old w + 1
  pub room : new.room ≡ old.room

-- the list stays, also after each of at most so many writes, and no word is written twice
pub record Rewrites (most : ℕ) (old new : LabelledList) : Type 0 where
  pub links : new.links ≡ old.links
  pub steps : KeepsOrder old.links old.sheet new.sheet
  pub versions : RisesByOne old.sheet new.sheet
  pub count : length new.sheet.writes ≤ length old.sheet.writes + most
  pub room : new.sheet.room ≡ old.sheet.room

-- the list stays after each of at most so many writes, no word is written twice, and the groups keep their sizes
pub record Relabels (most : ℕ) (old new : LabelledList) : Type 0 where
  pub groups : new.groups ≡ old.groups
  pub rewrites : Rewrites most old new

-- word w is written, once, and the list and the sizes stay
pub record StoresWord (w : ℕ) (old new : LabelledList) : Type 0 where
  pub links : new.links ≡ old.links
  pub groups : new.groups ≡ old.groups
  pub stores : WritesWord w old.sheet new.sheet

-- the members of group g share its room evenly, and no other words change
pub record Spreads (g : ℕ) (members : List ℕ) (old new : LabelledList) : Type 0 where
  pub segment : AreMembers old.links new.sheet g members
  pub bottoms : map (bottom_at old.links new.sheet) members ≡ evenly (length members) BOTTOM_ROOM
  pub only : ChangesOnly (map (λ y. 1 + y) members) old.sheet.words new.sheet.words

-- all groups have labels with room between them and at the end, and no other words change
pub record SpreadsTops (old new : LabelledList) : Type 0 where
  pub gaps : TopsAreApart old.links new.sheet
  pub high : (g : ℕ) → member g (groups_in_use old.links new.sheet) ≡ true → top_at old.links new.sheet g + 2 ≤ TOP_ROOM
  pub only : ChangesOnly (map (λ g. old.links.size + g) (groups_in_use old.links old.sheet)) old.sheet.words new.sheet.words

-- no words change but those of groups that are in use
pub record KeepsItems (old new : LabelledList) : Type 0 where
  pub items : (w : ℕ) → w ≤ old.links.size → slice_index new.sheet.words w ≡ slice_index old.sheet.words w
  pub unused : (h : ℕ) → IsFree old.links old.sheet h
      → slice_index new.sheet.words (old.links.size + h) ≡ slice_index old.sheet.words (old.links.size + h)

-- the upper members of group g are now group h, whose room their labels share evenly
pub record Splits (g h : ℕ) (low ups : List ℕ) (old new : LabelledList) : Type 0 where
  pub lower : AreMembers old.links new.sheet g low
  pub upper : AreMembers old.links new.sheet h ups
  pub bottoms : map (bottom_at old.links new.sheet) ups ≡ evenly (length ups) BOTTOM_ROOM
  pub only : ChangesOnly ((old.links.size + h) ∷ map (λ y. 1 + y) ups) old.sheet.words new.sheet.words

-- the upper half of group g, which is full and has these members, is now group h
pub record Halves (g h : ℕ) (members : List ℕ) (old new : LabelledList) : Type 0 where
  pub lower : AreMembers old.links new.sheet g (take HALF_ITEMS members)
  pub upper : AreMembers old.links new.sheet h (drop HALF_ITEMS members)
  pub bottoms : map (bottom_at old.links new.sheet) (drop HALF_ITEMS members) ≡ evens HALF_ITEMS HALF_STEP 0
  pub only : ChangesOnly ((old.links.size + h) ∷ map (λ y. 1 + y) (drop HALF_ITEMS members)) old.sheet.words new.sheet.words

-- the group of p has less items than it may have, and p has a label after it or its group's words are as they were
pub record Divides (p : ℕ) (old new : LabelledList) : Type 0 where
  pub tallied : AreSizes new.links new.sheet new.groups
  pub size : group_size new.links new.sheet (group_at new.links new.sheet p) < GROUP_ITEMS
  pub kept : KeepsGroup new.links old.sheet new.sheet p

-- each item stays in its group, and no words change but those of the items of group g
pub record ChangesGroup (g : ℕ) (old new : LabelledList) : Type 0 where
  pub groups : (y : ℕ) → member y old.links.list ≡ true → group_at old.links new.sheet y ≡ group_at old.links old.sheet y
  pub only : (w : ℕ) → IsNoWordOf old.links old.sheet g w → slice_index new.sheet.words w ≡ slice_index old.sheet.words w

-- the group of p can take x
pub record MakesRoom (x p : ℕ) (old new : LabelledList) : Type 0 where
  pub tallied : AreSizes new.links new.sheet new.groups
  pub takes : TakesItem new.links new.sheet x p
  pub kept : KeepsGroup new.links old.sheet new.sheet p

-- x stands right after p, by one write to its word
pub record PutsItem (x p : ℕ) (old new : LabelledList) : Type 0 where
  pub size : new.links.size ≡ old.links.size
  pub list : new.links.list ≡ right_after x p (without x old.links.list)
  pub stores : WritesWord (1 + x) old.sheet new.sheet

-- x is out of the list, by one write to its word, which says no group and no label
pub record TakesOut (x : ℕ) (old new : LabelledList) : Type 0 where
  pub size : new.links.size ≡ old.links.size
  pub list : new.links.list ≡ without x old.links.list
  pub stores : WritesWord (1 + x) old.sheet new.sheet
  pub out : item_of (slice_index new.sheet.words (1 + x)) ≡ record { version = version_at old.sheet (1 + x) + 1; group = 0; bottom = 0 }

-- x can be put right after p
pub record HasWay (x p : ℕ) (now : LabelledList) : Type 0 where
  pub tallied : AreSizes now.links now.sheet now.groups
  pub takes : TakesItem now.links now.sheet x p
  pub gap : HasLabelAfter now.links now.sheet p
