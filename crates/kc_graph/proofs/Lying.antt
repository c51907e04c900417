-- Rows that lie one after the other in a block.
use Rattle.std.proofs.Common.{◌≡◌, ◌≤◌, ◌<◌, ◌+◌, ◌-◌, ℕ, suc, zero, List, [], ◌∷◌, ◌++◌, length, get_or, set, take, drop, refl, sym, ◌∙◌, ap, ap₂}
use Rattle.std.proofs.Common.{subst, inl, inr, arith, replicate, take-append-drop, drop-drop, length-append, Vec, Global}
use Rattle.std.specs.List.{between}
use borrow.Rule.Slice.PartMut.{put_mid}
use Rattle.std.specs.Prelude.{All}
use Rattle.std.proofs.lemmas.List.Elements.{All-nil, All-cons}
use Rattle.std.proofs.lemmas.List.{map-append, take-append-le, drop-append-le, length-drop, length-take-le, take-take}
use Rattle.std.proofs.Math.Seq.{drop-append_seam}
use Rattle.std.proofs.lemmas.Slice.{take-put_mid}
use Rattle.kc_graph.specs.declared.row.Row.{Row}
use Rattle.kc_graph.specs.declared.row.Row.TheVariants.{Part, Own}
use Rattle.kc_graph.specs.Rows.{row}
use Rattle.kc_graph.specs.Blocks.{entries_of, entries_of_each, first_of, LieFrom, LiesIn, DiffersWithin, IsOwnOrSame, IsShorter}

-- a part of a list that gets longer
pub between-append : (xs ys : List ℕ) (a b : ℕ) → a ≤ b → b ≤ length xs → between a b (xs ++ ys) ≡ between a b xs
between-append xs ys a b o l =
    ap (take (b - a)) (drop-append-le a xs ys (omega arith))
    ∙ take-append-le (b - a) (drop a xs) ys (omega (arith, length-drop a xs))

-- what comes behind a list
pub between-seam : (xs ys : List ℕ) (k : ℕ) → between (length xs) (length xs + k) (xs ++ ys) ≡ take k ys
between-seam xs ys k =
    let n : length xs + k - length xs ≡ k = omega arith in
    ap₂ (λ (m : ℕ) (t : List ℕ). take m t) n (drop-append_seam xs ys)

-- Rows that lie behind a place lie behind each earlier one.
pub lie-earlier : (a b : ℕ) (xs : List ℕ) (rows : List Row) → a ≤ b → LieFrom b xs rows → LieFrom a xs rows
lie-earlier a b xs [] l h = tt
lie-earlier a b xs (Part from to ∷ rows) l h = (omega (arith, h.0), h.1, h.2, h.3)
lie-earlier a b xs (Own list ∷ rows) l h = lie-earlier a b xs rows l h

-- Only the length of a block tells where rows may lie.
pub lie-resized : (first : ℕ) (xs ys : List ℕ) (rows : List Row) → length xs ≤ length ys → LieFrom first xs rows → LieFrom first ys rows
lie-resized first xs ys [] l h = tt
lie-resized first xs ys (Part from to ∷ rows) l h = (h.0, h.1, omega (arith, h.2), lie-resized to xs ys rows l h.3)
lie-resized first xs ys (Own list ∷ rows) l h = lie-resized first xs ys rows l h

-- A block that gets longer keeps its rows.
pub entries-longer : (first : ℕ) (xs ys : List ℕ) (rows : List Row) → LieFrom first xs rows → entries_of_each (xs ++ ys) rows ≡ entries_of_each xs rows
entries-longer first xs ys [] h = refl
entries-longer first xs ys (Part from to ∷ rows) h =
    ap₂ (λ (r : List ℕ) (t : List (List ℕ)). r ∷ t) (between-append xs ys from to h.1 h.2) (entries-longer to xs ys rows h.3)
entries-longer first xs ys (Own list ∷ rows) h = ap (λ (t : List (List ℕ)). list.items ∷ t) (entries-longer first xs ys rows h)

-- One row more lies where the block gets longer.
pub lie-push : (first : ℕ) (xs ys : List ℕ) (rows : List Row) (k : ℕ) → first ≤ length xs → k ≤ length ys → LieFrom first xs rows
    → LieFrom first (xs ++ ys) (rows ++ Part (length xs) (length xs + k) ∷ [])
lie-push first xs ys [] k l within h = (l, omega arith, omega (arith, length-append xs ys), tt)
lie-push first xs ys (Part from to ∷ rows) k l within h =
    (h.0, h.1, omega (arith, h.2, length-append xs ys), lie-push to xs ys rows k h.2 within h.3)
lie-push first xs ys (Own list ∷ rows) k l within h = lie-push first xs ys rows k l within h

-- a row more where the block gets longer has the first numbers that come
pub entries-push : (first : ℕ) (xs ys : List ℕ) (rows : List Row) (k : ℕ) → LieFrom first xs rows
    → entries_of_each (xs ++ ys) (rows ++ Part (length xs) (length xs + k) ∷ []) ≡ entries_of_each xs rows ++ take k ys ∷ []
entries-push first xs ys [] k h = ap (λ (r : List ℕ). r ∷ []) (between-seam xs ys k)
entries-push first xs ys (Part from to ∷ rows) k h =
    ap₂ (λ (r : List ℕ) (t : List (List ℕ)). r ∷ t) (between-append xs ys from to h.1 h.2) (entries-push to xs ys rows k h.3)
entries-push first xs ys (Own list ∷ rows) k h = ap (λ (t : List (List ℕ)). list.items ∷ t) (entries-push first xs ys rows k h)

-- A row in place of another one has its own numbers.
pub entries-set : (xs : List ℕ) (rows : List Row) (i : ℕ) (r : Row) → entries_of_each xs (set rows i r) ≡ set (entries_of_each xs rows) i (entries_of xs r)
entries-set xs [] i r = refl
entries-set xs (x ∷ rows) zero r = refl
entries-set xs (x ∷ rows) (suc i) r = ap (λ (t : List (List ℕ)). entries_of xs x ∷ t) (entries-set xs rows i r)

-- the numbers at a place are those of the row at that place
pub entries-at : (xs : List ℕ) (rows : List Row) (i : ℕ) (d : Row) → i < length rows → get_or (entries_of_each xs rows) i [] ≡ entries_of xs (get_or rows i d)
entries-at xs [] i d l = absurd (omega arith)
entries-at xs (x ∷ rows) zero d l = refl
entries-at xs (x ∷ rows) (suc i) d l = entries-at xs rows i d (omega arith)

-- there are as many lists of numbers as rows
pub length-entries : (xs : List ℕ) (rows : List Row) → length (entries_of_each xs rows) ≡ length rows
length-entries xs [] = refl
length-entries xs (x ∷ rows) = ap suc (length-entries xs rows)

-- A list of its own may stand in place of each row.
pub lie-own : (first : ℕ) (xs : List ℕ) (rows : List Row) (i : ℕ) (list : Vec ℕ Global) → LieFrom first xs rows → LieFrom first xs (set rows i (Own list))
lie-own first xs [] i list h = tt
lie-own first xs (Part from to ∷ rows) zero list h = lie-earlier first to xs rows (omega (arith, h.0, h.1)) h.3
lie-own first xs (Part from to ∷ rows) (suc i) list h = (h.0, h.1, h.2, lie-own to xs rows i list h.3)
lie-own first xs (Own other ∷ rows) zero list h = h
lie-own first xs (Own other ∷ rows) (suc i) list h = lie-own first xs rows i list h

-- where a row lies, if it lies in the block behind a place
abbrev pub LiesWithin : ℕ → List ℕ → Row → Type 0
LiesWithin first xs (Part from to) = (first ≤ from) × (from ≤ to) × (to ≤ length xs)
LiesWithin first xs (Own list) = Unit {0}

-- a row that lies behind a place lies behind each earlier one
row-lies_earlier : (a b : ℕ) (xs : List ℕ) (r : Row) → a ≤ b → LiesWithin b xs r → LiesWithin a xs r
row-lies_earlier a b xs (Part from to) l h = (omega (arith, h.0), h.1, h.2)
row-lies_earlier a b xs (Own list) l h = tt

-- each of the rows that lie behind a place lies in the block behind it, or in no block
pub lies-at : (first : ℕ) (xs : List ℕ) (rows : List Row) (i : ℕ) (d : Row) → i < length rows → LieFrom first xs rows → LiesWithin first xs (get_or rows i d)
lies-at first xs [] i d l h = absurd (omega arith)
lies-at first xs (Part from to ∷ rows) zero d l h = (h.0, h.1, h.2)
lies-at first xs (Part from to ∷ rows) (suc i) d l h =
    row-lies_earlier first to xs (get_or rows i d) (omega (arith, h.0, h.1)) (lies-at to xs rows i d (omega arith) h.3)
lies-at first xs (Own list ∷ rows) zero d l h = tt
lies-at first xs (Own list ∷ rows) (suc i) d l h = lies-at first xs rows i d (omega arith) h

-- The rows still lie one after the other where one of them gets shorter at its end.
pub lie-shorter : (first : ℕ) (xs ys : List ℕ) (rows : List Row) (i : ℕ) (d : Row) (from to less : ℕ) → i < length rows → get_or rows i d ≡ Part from to
    → from ≤ less → less ≤ to → length ys ≡ length xs → LieFrom first xs rows → LieFrom first ys (set rows i (Part from less))
lie-shorter first xs ys [] i d from to less l e o s n h = absurd (omega arith)
lie-shorter first xs ys (r ∷ rows) zero d from to less l e o s n h =
    let k : LieFrom first xs (Part from to ∷ rows) = subst (λ (t : Row). LieFrom first xs (t ∷ rows)) e h in
    (k.0, o, omega (arith, k.2), lie-earlier less to ys rows s (lie-resized to xs ys rows (omega arith) k.3))
lie-shorter first xs ys (Part from' to' ∷ rows) (suc i) d from to less l e o s n h =
    (h.0, h.1, omega (arith, h.2), lie-shorter to' xs ys rows i d from to less (omega arith) e o s n h.3)
lie-shorter first xs ys (Own list ∷ rows) (suc i) d from to less l e o s n h = lie-shorter first xs ys rows i d from to less (omega arith) e o s n h

-- rows behind all that differs in a block keep their numbers
entries-past : (first to : ℕ) (xs ys : List ℕ) (rows : List Row) → to ≤ first → ((a b : ℕ) → to ≤ a → between a b ys ≡ between a b xs) → LieFrom first xs rows
    → entries_of_each ys rows ≡ entries_of_each xs rows
entries-past first to xs ys [] l same h = refl
entries-past first to xs ys (Part from end ∷ rows) l same h =
    ap₂ (λ (r : List ℕ) (t : List (List ℕ)). r ∷ t) (same from end (omega (arith, h.0))) (entries-past end to xs ys rows (omega (arith, h.0, h.1)) same h.3)
entries-past first to xs ys (Own list ∷ rows) l same h = ap (λ (t : List (List ℕ)). list.items ∷ t) (entries-past first to xs ys rows l same h)

-- A block that differs only within one row differs in that row alone.
pub entries-shorter : (first : ℕ) (xs ys : List ℕ) (rows : List Row) (i : ℕ) (d : Row) (from to less : ℕ) → i < length rows → get_or rows i d ≡ Part from to
    → DiffersWithin xs ys from to → LieFrom first xs rows
    → entries_of_each ys (set rows i (Part from less)) ≡ set (entries_of_each xs rows) i (between from less ys)
entries-shorter first xs ys [] i d from to less l e s h = absurd (omega arith)
entries-shorter first xs ys (r ∷ rows) zero d from to less l e s h =
    let k : LieFrom first xs (Part from to ∷ rows) = subst (λ (t : Row). LieFrom first xs (t ∷ rows)) e h in
    ap (λ (t : List (List ℕ)). between from less ys ∷ t) (entries-past to to xs ys rows (omega arith) s.above k.3)
entries-shorter first xs ys (Part from' to' ∷ rows) (suc i) d from to less l e s h =
    let here : LiesWithin to' xs (Part from to) = subst (LiesWithin to' xs) e (lies-at to' xs rows i d (omega arith) h.3) in
    ap₂ (λ (r : List ℕ) (t : List (List ℕ)). r ∷ t) (s.below from' to' here.0) (entries-shorter to' xs ys rows i d from to less (omega arith) e s h.3)
entries-shorter first xs ys (Own list ∷ rows) (suc i) d from to less l e s h =
    ap (λ (t : List (List ℕ)). list.items ∷ t) (entries-shorter first xs ys rows i d from to less (omega arith) e s h)

-- a part of a part with the same beginning
pub between-shorter : (xs : List ℕ) (a b e : ℕ) → b ≤ e → between a b xs ≡ take (b - a) (between a e xs)
between-shorter xs a b e l = sym (take-take (b - a) (e - a) (drop a xs) (omega arith))

-- a list keeps its length where a part is written over
pub length-put_mid : (a k : ℕ) (xs ys : List ℕ) → a + k ≤ length xs → length ys ≡ k → length (put_mid a k xs ys) ≡ length xs
length-put_mid a k xs ys l n =
    let rest : List ℕ = drop k (drop a xs) in
    omega (
      arith,
      length-append (take a xs) (ys ++ rest),
      length-append ys rest,
      length-take-le a xs (omega arith),
      length-drop k (drop a xs),
      length-drop a xs,
    )

-- a row that lies behind the start of a block lies in the block
row-lies_within : (xs : List ℕ) (r : Row) → LiesWithin 0 xs r → LiesIn xs r
row-lies_within xs (Part from to) h = (h.1, h.2)
row-lies_within xs (Own list) h = tt

-- a row written over by itself changes nothing
set-here : (rows : List Row) (i : ℕ) (d : Row) → i < length rows → set rows i (get_or rows i d) ≡ rows
set-here [] i d l = absurd (omega arith)
set-here (x ∷ rows) zero d l = refl
set-here (x ∷ rows) (suc i) d l = ap (λ (t : List Row). x ∷ t) (set-here rows i d (omega arith))

-- The row at a place lies in the block.
pub lies-in : (xs : List ℕ) (rows : List Row) (i : ℕ) (r : Row) → LieFrom 0 xs rows → i < length rows → r ≡ get_or rows i r → LiesIn xs r
lies-in xs rows i r h l is = row-lies_within xs r (subst (LiesWithin 0 xs) (sym is) (lies-at 0 xs rows i r l h))

-- there are as many rows as lists of their numbers
pub count-view : (xs : List ℕ) (rows : List Row) (lists : List (List ℕ)) → entries_of_each xs rows ≡ lists → length rows ≡ length lists
count-view xs rows lists e = sym (length-entries xs rows) ∙ ap length e

-- so there is a row for each list
pub row-in : (xs : List ℕ) (rows : List Row) (lists : List (List ℕ)) (i : ℕ) → entries_of_each xs rows ≡ lists → i < length lists → i < length rows
row-in xs rows lists i e l = omega (arith, l, count-view xs rows lists e)

-- and it lies in the block, also where a slice of all of it is handed over
pub lies-view : (xs handed : List ℕ) (rows : List Row) (lists : List (List ℕ)) (i : ℕ) (r : Row) → handed ≡ xs → LieFrom 0 xs rows
    → entries_of_each xs rows ≡ lists → i < length lists → r ≡ get_or rows i r → LiesIn handed r
lies-view xs handed rows lists i r value lie e l is =
    subst (λ (t : List ℕ). LiesIn t r) (sym value) (lies-in xs rows i r lie (row-in xs rows lists i e l) is)

-- the row at a place has the numbers of the list at that place
pub row-view : (xs : List ℕ) (rows : List Row) (lists : List (List ℕ)) (i : ℕ) (r : Row) → entries_of_each xs rows ≡ lists → i < length rows
    → r ≡ get_or rows i r
    → row lists i ≡ entries_of xs r
row-view xs rows lists i r e l is = ap (λ (t : List (List ℕ)). row t i) (sym e) ∙ entries-at xs rows i r l ∙ ap (entries_of xs) (sym is)

-- A row that changes, and lies where it lay or in no block, keeps the others.
pub lie-kept : (xs : List ℕ) (rows : List Row) (i : ℕ) (r new : Row) → LieFrom 0 xs rows → i < length rows → r ≡ get_or rows i r → IsOwnOrSame r new
    → LieFrom 0 xs (set rows i new)
lie-kept xs rows i r new h l is (inl own) = subst (λ (t : Row). LieFrom 0 xs (set rows i t)) (sym own.1) (lie-own 0 xs rows i own.0 h)
lie-kept xs rows i r new h l is (inr same) =
    subst (LieFrom 0 xs) (sym (ap (set rows i) (same ∙ is) ∙ set-here rows i r l)) h

-- rows lie one after the other still, where one has a number less, in the block or in its list
pub lie-shortened : (xs ys : List ℕ) (rows : List Row) (i : ℕ) (r new : Row) → LieFrom 0 xs rows → i < length rows → r ≡ get_or rows i r → IsShorter xs ys r new
    → LieFrom 0 ys (set rows i new)
lie-shortened xs ys rows i (Part from to) new h l is s =
    subst (λ (t : Row). LieFrom 0 ys (set rows i t)) (sym s.0)
    (lie-shorter 0 xs ys rows i (Part from to) from to (to - 1) l (sym is) (omega (arith, s.1)) (omega arith) s.2.same_length h)
lie-shortened xs ys rows i (Own list) new h l is s =
    subst (λ (t : List ℕ). LieFrom 0 t (set rows i new)) (sym s.1)
    (subst (λ (t : Row). LieFrom 0 xs (set rows i t)) (sym s.0.1) (lie-own 0 xs rows i s.0.0 h))

-- the numbers of the others stay, where one has a number less, in the block or in its list
pub entries-shortened : (xs ys : List ℕ) (rows : List Row) (i : ℕ) (r new : Row) → LieFrom 0 xs rows → i < length rows → r ≡ get_or rows i r
    → IsShorter xs ys r new
    → entries_of_each ys (set rows i new) ≡ set (entries_of_each xs rows) i (entries_of ys new)
entries-shortened xs ys rows i (Part from to) new h l is s =
    ap (λ (t : Row). entries_of_each ys (set rows i t)) s.0
    ∙ entries-shorter 0 xs ys rows i (Part from to) from to (to - 1) l (sym is) s.2 h
    ∙ ap (λ (t : Row). set (entries_of_each xs rows) i (entries_of ys t)) (sym s.0)
entries-shortened xs ys rows i (Own list) new h l is s =
    entries-set ys rows i new ∙ ap (λ (t : List ℕ). set (entries_of_each t rows) i (entries_of ys new)) s.1

-- rows without a number, which lie at the beginning of each block
pub lie-none : (n : ℕ) → LieFrom 0 [] (replicate n (Part 0 0))
lie-none zero = tt
lie-none (suc n) = (omega arith, omega arith, omega arith, lie-none n)

-- rows without a number have no numbers
pub entries-none : (n : ℕ) → entries_of_each [] (replicate n (Part 0 0)) ≡ replicate n []
entries-none zero = refl
entries-none (suc n) = ap (λ (t : List (List ℕ)). [] ∷ t) (entries-none n)

-- one row more behind others is the last of them
pub row-push_at : (rows : List (List ℕ)) (r : List ℕ) (v : ℕ) → v ≡ length rows → row (rows ++ r ∷ []) v ≡ r
row-push_at [] r v e = ap (row (r ∷ [])) e
row-push_at (x ∷ rows) r zero e = absurd (omega arith)
row-push_at (x ∷ rows) r (suc v) e = row-push_at rows r v (omega arith)

-- the rows before it stay
pub row-push_below : (rows : List (List ℕ)) (r : List ℕ) (v : ℕ) → v < length rows → row (rows ++ r ∷ []) v ≡ row rows v
row-push_below [] r v l = absurd (omega arith)
row-push_below (x ∷ rows) r zero l = refl
row-push_below (x ∷ rows) r (suc v) l = row-push_below rows r v (omega arith)

-- A part behind the rows so far is put in order, and the first numbers of it are a row.
module _ (block part : List ℕ) (rows : List Row) (from to kept : ℕ) (o : from ≤ to) (l : to ≤ length block) (n : length part ≡ to - from)
    (few : kept ≤ length part) (h : LieFrom 0 (take from block) rows) where
  -- the block with the part that was put in order
  abbrev block' : List ℕ
  block' = put_mid from (to - from) block part

  -- the block up to the end of the part is what was before it, and the part
  front : take to block' ≡ take from block ++ part
  front = take-put_mid from (to - from) block part to (omega (arith, n)) (omega arith)

  -- what was before the part is as long as its place says
  start : length (take from block) ≡ from
  start = length-take-le from block (omega arith)

  -- the new row begins where the rows so far end
  last : rows ++ Part from (from + kept) ∷ [] ≡ rows ++ Part (length (take from block)) (length (take from block) + kept) ∷ []
  last = ap (λ (k : ℕ). rows ++ Part k (k + kept) ∷ []) (sym start)

  -- the rows lie one after the other, with the new one last
  pub tidied-lie : LieFrom 0 (take to block') (rows ++ Part from (from + kept) ∷ [])
  tidied-lie =
      subst (λ (t : List ℕ). LieFrom 0 t (rows ++ Part from (from + kept) ∷ [])) (sym front)
      (subst (LieFrom 0 (take from block ++ part)) (sym last) (lie-push 0 (take from block) part rows kept (omega arith) few h))

  -- the new row has the first numbers of the part, and the others have what they had
  pub tidied-entries : entries_of_each (take to block') (rows ++ Part from (from + kept) ∷ []) ≡ entries_of_each (take from block) rows ++ take kept part ∷ []
  tidied-entries = ap₂ entries_of_each front last ∙ entries-push 0 (take from block) part rows kept h

-- Rows that lie in the front of a block have the same numbers in the whole.
pub entries-front : (n : ℕ) (block : List ℕ) (rows : List Row) → LieFrom 0 (take n block) rows
    → entries_of_each block rows ≡ entries_of_each (take n block) rows
entries-front n block rows h =
    ap (λ (t : List ℕ). entries_of_each t rows) (sym (take-append-drop n block)) ∙ entries-longer 0 (take n block) (drop n block) rows h

-- rows that lie one after the other in the front of a block do so in the whole
pub lie-front : (n : ℕ) (block : List ℕ) (rows : List Row) → n ≤ length block → LieFrom 0 (take n block) rows → LieFrom 0 block rows
lie-front n block rows l h = lie-resized 0 (take n block) block rows (omega (arith, length-take-le n block l)) h

-- what lists have in common behind a place
pub drop-later : (xs ys : List ℕ) (a b : ℕ) → a ≤ b → drop a xs ≡ drop a ys → drop b xs ≡ drop b ys
drop-later xs ys a b l e =
    let sum : b ≡ a + (b - a) = omega arith in
    ap (λ (k : ℕ). drop k xs) sum ∙ sym (drop-drop (b - a) a xs) ∙ ap (drop (b - a)) e ∙ drop-drop (b - a) a ys ∙ ap (λ (k : ℕ). drop k ys) (sym sum)

-- Each part begins where the one before it ends.
pub first_is : (ends : List ℕ) (i : ℕ) → get_or ends i 0 ≡ first_of ends (i + 1)
first_is ends i = let next : suc i ≡ i + 1 = omega arith in ap (first_of ends) next

-- Each of the rows lies in the block.
pub all-lie : (first : ℕ) (xs : List ℕ) (rows : List Row) → LieFrom first xs rows → All (LiesIn xs) rows
all-lie first xs [] h = All-nil (LiesIn xs)
all-lie first xs (Part from to ∷ rows) h = All-cons (LiesIn xs) (Part from to) rows (h.1, h.2) (all-lie to xs rows h.3)
all-lie first xs (Own list ∷ rows) h = All-cons (LiesIn xs) (Own list) rows tt (all-lie first xs rows h)

-- the numbers of one row more come behind those of the others
pub entries-more : (xs : List ℕ) (rows : List Row) (r : Row) → entries_of_each xs (rows ++ r ∷ []) ≡ entries_of_each xs rows ++ entries_of xs r ∷ []
entries-more xs rows r = map-append (entries_of xs) rows (r ∷ [])
