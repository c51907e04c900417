-- The place of an item: the label of its group, and its own label in the group.
use Rattle.std.specs.Prelude.{if◌then◌else◌, ◌≡◌, ◌≢◌, ℕ, zero, suc, ◌+◌, ◌*◌, ◌<◌, ◌≤◌, ◌⊎◌, List, [], ◌∷◌, ◌++◌, length, take, drop, map}
use Rattle.std.specs.Prelude.{slice_index, true, false, ◌==◌}
use Rattle.kc_lists.specs.Lists.{member, Distinct, next_of, InOrder}
use Rattle.kc_words.specs.Order.{Labels, labels}
use Rattle.kc_words.specs.declared.layout.TheConstants.{BOTTOM_ROOM, TOP_ROOM}
use Rattle.kc_list.specs.declared.limits.TheConstants.{HALF_ITEMS}

-- the first of the list has the property, if there is a first
abbrev pub IfFirst : (ℕ → Type 0) → List ℕ → Type 0
IfFirst P [] = Unit {0}
IfFirst P (y ∷ ys) = P y

-- the pair of x is less, and groups that are in use have different top labels
abbrev pub Before : Labels → ℕ → ℕ → Type 0
Before a x y = ((a.group x ≡ a.group y) × (a.bottom x < a.bottom y)) ⊎ (a.top (a.group x) < a.top (a.group y))

-- what an item of the list has
pub record Placed (n : ℕ) (a : Labels) (x : ℕ) : Type 0 where
  pub below : x < n
  pub group_low : 0 < a.group x
  pub group_high : a.group x ≤ n + 1
  pub bottom_low : 0 < a.bottom x
  pub bottom_high : a.bottom x < BOTTOM_ROOM
  pub top_low : 0 < a.top (a.group x)
  pub top_high : a.top (a.group x) < TOP_ROOM

-- what the words keep of the list between any two stores
pub record WordsKeepList (n : ℕ) (ws : List ℕ) (list : List ℕ) : Type 0 where
  pub size : length ws ≡ n + n + 2
  pub distinct : Distinct list
  pub order : InOrder (Before (labels n ws)) list
  pub inside : (x : ℕ) → member x list ≡ true → Placed n (labels n ws) x
  pub outside : (x : ℕ) → x < n → member x list ≡ false → (labels n ws).group x ≡ 0

-- the word of y was stored
pub record ItemStored (a b : Labels) (n y g l : ℕ) : Type 0 where
  pub group : b.group y ≡ g
  pub bottom : b.bottom y ≡ l
  pub groups : (x : ℕ) → (x ≡ y → ⊥) → b.group x ≡ a.group x
  pub bottoms : (x : ℕ) → (x ≡ y → ⊥) → b.bottom x ≡ a.bottom x
  pub tops : (h : ℕ) → 0 < h → b.top h ≡ a.top h

-- the word of group g was stored
pub record GroupStored (a b : Labels) (n g t : ℕ) : Type 0 where
  pub top : b.top g ≡ t
  pub tops : (h : ℕ) → (h ≡ g → ⊥) → b.top h ≡ a.top h
  pub groups : (x : ℕ) → x < n → b.group x ≡ a.group x
  pub bottoms : (x : ℕ) → x < n → b.bottom x ≡ a.bottom x

-- where the room after p ends: at the next item's label in its group, or at the end of all labels
abbrev pub end_at : ℕ → Labels → ℕ → ℕ → ℕ
end_at n a p q = if q == n then BOTTOM_ROOM else if a.group q == a.group p then a.bottom q else BOTTOM_ROOM

-- where the room after p ends, by the words and by what follows p in the list
abbrev pub gap_end : ℕ → List ℕ → List ℕ → ℕ → ℕ
gap_end n ws list p = end_at n (labels n ws) p (next_of n p list)

-- there is a label for an item right after p
abbrev pub HasGap : ℕ → List ℕ → List ℕ → ℕ → Type 0
HasGap n ws list p = (labels n ws).bottom p + 2 ≤ gap_end n ws list p

-- word w is that of no item of group g
abbrev pub NotOf : Labels → List ℕ → ℕ → ℕ → Type 0
NotOf a list g w = (y : ℕ) → member y list ≡ true → a.group y ≡ g → w ≢ 1 + y

-- the members of group g stand together, as `m`
pub record Segment (a : Labels) (list : List ℕ) (g : ℕ) (m : List ℕ) : Type 0 where
  pub front : List ℕ
  pub back : List ℕ
  pub is : list ≡ front ++ (m ++ back)
  pub members : (y : ℕ) → member y m ≡ true → a.group y ≡ g
  pub others : (y : ℕ) → (member y front ≡ true) ⊎ (member y back ≡ true) → a.group y ≡ g → ⊥

-- labels at even distances: the multiples of `step` after the i-th
abbrev pub evens : ℕ → ℕ → ℕ → List ℕ
evens zero step i = []
evens (suc n) step i = (i + 1) * step ∷ evens n step (i + 1)

-- h is the number of a group that no item of the list is in
pub record Free (n : ℕ) (a : Labels) (list : List ℕ) (h : ℕ) : Type 0 where
  pub low : 0 < h
  pub high : h ≤ n + 1
  pub unused : (y : ℕ) → member y list ≡ true → a.group y ≡ h → ⊥

-- the upper members move to group h: those from the i-th on have moved, and have the labels `ls`
pub record Splitting (n : ℕ) (a : Labels) (list : List ℕ) (g h : ℕ) (low ups ls : List ℕ) (i : ℕ) : Type 0 where
  pub front : List ℕ
  pub back : List ℕ
  pub is : list ≡ front ++ ((low ++ ups) ++ back)
  pub lower : (y : ℕ) → member y (low ++ take i ups) ≡ true → a.group y ≡ g
  pub upper : (y : ℕ) → member y (drop i ups) ≡ true → a.group y ≡ h
  pub others : (y : ℕ) → (member y front ≡ true) ⊎ (member y back ≡ true) → (a.group y ≡ g → ⊥) × (a.group y ≡ h → ⊥)
  pub h_low : 0 < h
  pub h_high : h ≤ n + 1
  pub tops : a.top g < a.top h
  pub top_high : a.top h < TOP_ROOM
  pub after : IfFirst (λ z. a.top h < a.top (a.group z)) back
  pub bottoms : map a.bottom (drop i ups) ≡ drop i ls

-- the groups of a list, in order
abbrev pub runs : (ℕ → ℕ) → List ℕ → List ℕ
runs f [] = []
runs f (x ∷ []) = f x ∷ []
runs f (x ∷ y ∷ ys) = if f x == f y then runs f (y ∷ ys) else f x ∷ runs f (y ∷ ys)

-- how many items of a list are in group g
abbrev pub size_of : (ℕ → ℕ) → ℕ → List ℕ → ℕ
size_of f g [] = 0
size_of f g (x ∷ xs) = (if f x == g then 1 else 0) + size_of f g xs

-- the first item of group g
pub record First (a : Labels) (list : List ℕ) (g x : ℕ) : Type 0 where
  pub front : List ℕ
  pub back : List ℕ
  pub is : list ≡ front ++ x ∷ back
  pub group : a.group x ≡ g
  pub none : (y : ℕ) → member y front ≡ true → a.group y ≡ g → ⊥

-- where the gap above a group ends, whose last member is followed by q
abbrev pub top_end : ℕ → Labels → ℕ → ℕ
top_end n a q = if q == n then TOP_ROOM else a.top (a.group q)

-- a full group is cut in two: what the two have, and what others keep
pub record Halved (n : ℕ) (ws vs list : List ℕ) (g h p : ℕ) : Type 0 where
  pub left : size_of (labels n vs).group g list ≡ HALF_ITEMS
  pub fresh : size_of (labels n vs).group h list ≡ HALF_ITEMS
  pub others : (k : ℕ) → k ≢ g → k ≢ h → size_of (labels n vs).group k list ≡ size_of (labels n ws).group k list
  pub gap : (labels n vs).group p ≡ h → HasGap n vs list p
  pub only : (w : ℕ) → w ≢ n + h → NotOf (labels n vs) list h w → slice_index vs w ≡ slice_index ws w
  pub group : ((labels n vs).group p ≡ g) ⊎ ((labels n vs).group p ≡ h)
