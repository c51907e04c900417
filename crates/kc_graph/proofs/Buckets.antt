-- Rows as lists: one of them written, pushed to or popped from.
use Rattle.std.proofs.Common.{◌≡◌, ◌≢◌, ◌≤◌, ◌<◌, ◌+◌, ℕ, suc, zero, List, [], ◌∷◌, ◌++◌, length, get_or, set, refl, sym, ◌∙◌, ap, arith, set-set}
use Rattle.std.proofs.Common.{Vec, Global, Option, Some, None, append-nil, vec_len}
use Rattle.std.specs.Option.{option_to_list, MatchOption, IfSome, IfNone}
use Rattle.std.proofs.lemmas.List.{length-map, get_or-map, get_or-set_same, get_or-set_other}
use Rattle.kc_graph.specs.Rows.{lists, row}

-- one of the rows written, seen as lists
pub lists-set : (rows : List (Vec ℕ Global)) (i : ℕ) (r : Vec ℕ Global) → lists (set rows i r) ≡ set (lists rows) i r.items
lists-set [] i r = refl
lists-set (x ∷ rows) zero r = refl
lists-set (x ∷ rows) (suc i) r = ap (λ (t : List (List ℕ)). x.items ∷ t) (lists-set rows i r)

-- there are as many lists as rows
pub length-lists : (rows : List (Vec ℕ Global)) → length (lists rows) ≡ length rows
length-lists rows = length-map rows (λ (r : Vec ℕ Global). r.items)

-- the list at a place has the numbers of the row at that place
pub row-at : (rows : List (Vec ℕ Global)) (i : ℕ) (d : Vec ℕ Global) → i < length rows → row (lists rows) i ≡ (get_or rows i d).items
row-at rows i d l = get_or-map (λ (x : Vec ℕ Global). x.items) rows i d [] l

-- a push into one bucket
pub bucket-pushed : (rows : List (Vec ℕ Global)) (i w : ℕ) (d s : Vec ℕ Global) → i < length rows → s.items ≡ (get_or rows i d).items ++ w ∷ []
    → lists (set rows i s) ≡ set (lists rows) i (row (lists rows) i ++ w ∷ [])
bucket-pushed rows i w d s l e = lists-set rows i s ∙ ap (set (lists rows) i) (e ∙ ap (λ (t : List ℕ). t ++ w ∷ []) (sym (row-at rows i d l)))

-- the row that was written is what was written
pub row-set_same : (rows : List (List ℕ)) (i : ℕ) (r : List ℕ) → i < length rows → row (set rows i r) i ≡ r
row-set_same rows i r l = get_or-set_same rows i r [] l

-- a row that was not written is as before
pub row-set_other : (rows : List (List ℕ)) (i j : ℕ) (r : List ℕ) → j ≢ i → row (set rows i r) j ≡ row rows j
row-set_other rows i j r ne = get_or-set_other rows i j r [] ne

-- a row written over by itself changes nothing
pub set-row : (rows : List (List ℕ)) (i : ℕ) → set rows i (row rows i) ≡ rows
set-row [] i = refl
set-row (x ∷ rows) zero = refl
set-row (x ∷ rows) (suc i) = ap (λ (t : List (List ℕ)). x ∷ t) (set-row rows i)

-- a list of length 0 is empty
nil_of_length : (xs : List ℕ) → length xs ≡ 0 → xs ≡ []
nil_of_length [] h = refl
nil_of_length (x ∷ xs) h = absurd (omega arith)

-- a pop from one bucket
bucket-popped : (rows : List (Vec ℕ Global)) (i w : ℕ) (d s : Vec ℕ Global) → i < length rows → (get_or rows i d).items ≡ s.items ++ w ∷ []
    → lists rows ≡ set (lists (set rows i s)) i (row (lists (set rows i s)) i ++ w ∷ [])
bucket-popped rows i w d s l e =
    let now : lists (set rows i s) ≡ set (lists rows) i s.items = lists-set rows i s in
    sym (ap (λ (t : List (List ℕ)). set t i (row t i ++ w ∷ [])) now
    ∙ ap (λ (t : List ℕ). set (set (lists rows) i s.items) i (t ++ w ∷ [])) (row-set_same (lists rows) i s.items (omega (arith, length-lists rows)))
    ∙ set-set (lists rows) i s.items (s.items ++ w ∷ [])
    ∙ ap (set (lists rows) i) (sym e ∙ sym (row-at rows i d l))
    ∙ set-row (lists rows) i)

-- where a pop gives a vertex, the bucket before had it at its end
pub some_popped : (rows : List (Vec ℕ Global)) (i : ℕ) (d s : Vec ℕ Global) (o : Option ℕ) → i < length rows
    → (get_or rows i d).items ≡ s.items ++ option_to_list o
    → IfSome o (λ w. lists rows ≡ set (lists (set rows i s)) i (row (lists (set rows i s)) i ++ w ∷ []))
some_popped rows i d s None l e = tt
some_popped rows i d s (Some w) l e = bucket-popped rows i w d s l e

-- where a pop gives none, the bucket is empty and nothing changed
pub none_popped : (rows : List (Vec ℕ Global)) (i : ℕ) (d s : Vec ℕ Global) (o : Option ℕ) → i < length rows
    → (get_or rows i d).items ≡ s.items ++ option_to_list o
    → MatchOption o ((vec_len (get_or rows i d) ≡ 0) × (vec_len s ≡ 0)) (λ _. vec_len s + 1 ≡ vec_len (get_or rows i d))
    → IfNone o ((lists (set rows i s) ≡ lists rows) × (row (lists (set rows i s)) i ≡ []))
none_popped rows i d s (Some w) l e z = tt
none_popped rows i d s None l e z =
    let z' : vec_len s ≡ 0 = z.1 in
    let now : lists (set rows i s) ≡ set (lists rows) i s.items = lists-set rows i s in
    let same : row (lists rows) i ≡ s.items = row-at rows i d l ∙ e ∙ append-nil s.items in (
      now ∙ ap (set (lists rows) i) (sym same) ∙ set-row (lists rows) i,
      ap (λ (t : List (List ℕ)). row t i) now ∙ row-set_same (lists rows) i s.items (omega (arith, length-lists rows)) ∙ nil_of_length s.items (omega arith),
    )

-- past the last row there is no neighbour
pub row_past : (rows : List (List ℕ)) (i : ℕ) → length rows ≤ i → row rows i ≡ []
row_past [] i l = refl
row_past (x ∷ rows) zero l = absurd (omega arith)
row_past (x ∷ rows) (suc i) l = row_past rows i (omega arith)

-- one row more at the end, seen as lists
pub lists-push : (rows : List (Vec ℕ Global)) (r : Vec ℕ Global) → lists (rows ++ r ∷ []) ≡ lists rows ++ r.items ∷ []
lists-push [] r = refl
lists-push (x ∷ rows) r = ap (λ (t : List (List ℕ)). x.items ∷ t) (lists-push rows r)
