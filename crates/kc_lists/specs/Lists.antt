-- Lists of numbers in which none comes twice, and their edits.
use Rattle.std.specs.Prelude.{◌≡◌, ◌+◌, ℕ, zero, suc, List, [], ◌∷◌, Bool, false, if◌then◌else◌, ◌==◌, nat_eq, count_by}
use Rattle.std.specs.List.{list_any}

-- whether the list has `x`
abbrev pub member : ℕ → List ℕ → Bool
member x ys = list_any (nat_eq x) ys

-- how often `x` stands in the list
abbrev pub times : ℕ → List ℕ → ℕ
times x xs = count_by (nat_eq x) xs

-- no number comes twice
abbrev pub Distinct : List ℕ → Type 0
Distinct [] = Unit {0}
Distinct (x ∷ xs) = (member x xs ≡ false) × Distinct xs

-- the numbers below `n`, the greatest first
abbrev pub below : ℕ → List ℕ
below zero = []
below (suc n) = n ∷ below n

-- the sum of what `f` gives for the numbers below `n`
abbrev pub total : (ℕ → ℕ) → ℕ → ℕ
total f zero = 0
total f (suc n) = f n + total f n

-- the list without each `x`
abbrev pub without : ℕ → List ℕ → List ℕ
without x [] = []
without x (y ∷ ys) = if x == y then without x ys else y ∷ without x ys

-- the list with `x` right after the first `p`
abbrev pub right_after : ℕ → ℕ → List ℕ → List ℕ
right_after x p [] = []
right_after x p (y ∷ ys) = if p == y then y ∷ x ∷ ys else y ∷ right_after x p ys

-- the first number, and `e` where there is none
abbrev pub head_or : ℕ → List ℕ → ℕ
head_or e [] = e
head_or e (x ∷ xs) = x

-- the last number, and `e` where there is none
abbrev pub last_or : ℕ → List ℕ → ℕ
last_or e [] = e
last_or e (x ∷ xs) = last_or x xs

-- what stands right after `x`, and `e` at the end
abbrev pub next_of : ℕ → ℕ → List ℕ → ℕ
next_of e x [] = e
next_of e x (y ∷ ys) = if x == y then head_or e ys else next_of e x ys

-- what stands right before `x`, and `e` at the start
abbrev pub prev_of : ℕ → ℕ → List ℕ → ℕ
prev_of e x [] = e
prev_of e x (y ∷ ys) = if x == y then e else prev_of y x ys

-- how many stand before `x`
abbrev pub place_of : ℕ → List ℕ → ℕ
place_of x [] = 0
place_of x (y ∷ ys) = if x == y then 0 else suc (place_of x ys)

-- x, and each of the list, is related to the next
abbrev pub Follows : (ℕ → ℕ → Type 0) → ℕ → List ℕ → Type 0
Follows R x [] = Unit {0}
Follows R x (y ∷ ys) = R x y × Follows R y ys

-- each is related to the next
abbrev pub InOrder : (ℕ → ℕ → Type 0) → List ℕ → Type 0
InOrder R [] = Unit {0}
InOrder R (x ∷ xs) = Follows R x xs
