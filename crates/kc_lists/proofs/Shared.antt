-- What the proofs of several crates need of lists and tests.
use Rattle.std.proofs.Common.{◌≡◌, ◌≢◌, ◌≤◌, ◌<◌, ◌+◌, ℕ, suc, zero, Bool, true, false, cond, ◌||◌, ◌&&◌, List, [], ◌∷◌, ◌++◌, length, get_or, refl, eqb, ap₂}
use Rattle.std.proofs.Common.{sym, ◌∙◌, ap, subst, inl, inr, arith, ne_eqb, map, ltb, length-append, eqb-true}
use Rattle.std.specs.Prelude.{All}
use Rattle.std.specs.List.{list_any}
use Rattle.std.specs.List.Sorted.{IsStrictlyIncreasing}
use Rattle.std.proofs.lemmas.Bool.{cases_eq, cases_lt, lt-ltb, le-ltb, or_cases, false≢true}
use Rattle.std.proofs.lemmas.List.{get_or_append_left}
use Rattle.std.proofs.Math.Seq.{get_or-append_seam}
use Rattle.std.proofs.lemmas.List.Kept.{AllPairs-from_increasing}
use Rattle.std.proofs.Math.Bool.{or-false}
use Rattle.kc_lists.specs.Lists.{member, Distinct, total}
use Rattle.kc_lists.proofs.Members.{member-head, member-tail, not_member-append, append-not_member}
use Rattle.kc_lists.proofs.Counting.{member-push, member-push_left, Distinct-push}

-- Tests. -------------------------------------------------------------------------------------------

-- twice two numbers compare as they do
pub ltb-double : (a b : ℕ) → ltb (a + a) (b + b) ≡ ltb a b
ltb-double a b = elim (cases_lt a b) [
  | inl l ↦ lt-ltb (a + a) (b + b) (omega arith) ∙ sym (lt-ltb a b l)
  | inr l ↦ le-ltb (a + a) (b + b) (omega arith) ∙ sym (le-ltb a b l)
]

-- the next numbers of two compare as they do
pub ltb-next : (a b : ℕ) → ltb (suc a) (suc b) ≡ ltb a b
ltb-next a b = elim (cases_lt a b) [
  | inl l ↦ lt-ltb (suc a) (suc b) (omega arith) ∙ sym (lt-ltb a b l)
  | inr l ↦ le-ltb (suc a) (suc b) (omega arith) ∙ sym (le-ltb a b l)
]

-- either order of two alternatives is the same
pub or-turned : (a b : Bool) → (a || b) ≡ (b || a)
or-turned a b = grind arith

-- the last of three goes to the middle
pub or-swap : (a b c : Bool) → (a || (b || c)) ≡ ((a || c) || b)
or-swap a b c = grind arith

-- where the second of two tests fails, both together fail
pub and-fails : (a b : Bool) → b ≡ false → (a && b) ≡ false
and-fails a b h = grind arith

-- what follows from a test adds nothing to it
pub or-absorbs : (m e : Bool) → (e ≡ true → m ≡ true) → m ≡ (m || e)
or-absorbs m e h = grind arith

-- Distinct numbers. --------------------------------------------------------------------------------

-- a front of a distinct list is distinct
pub Distinct-front : (xs ys : List ℕ) → Distinct (xs ++ ys) → Distinct xs
Distinct-front [] ys d = tt
Distinct-front (x ∷ xs) ys d = ((not_member-append x xs ys d.0).0, Distinct-front xs ys d.1)

-- what stands behind a front of a distinct list is distinct
pub Distinct-back : (xs ys : List ℕ) → Distinct (xs ++ ys) → Distinct ys
Distinct-back [] ys d = d
Distinct-back (x ∷ xs) ys d = Distinct-back xs ys d.1

-- two distinct lists without a common member are distinct when joined
pub Distinct-append : (xs ys : List ℕ) → Distinct xs → Distinct ys → ((x : ℕ) → member x xs ≡ true → member x ys ≡ false) → Distinct (xs ++ ys)
Distinct-append [] ys a b apart = b
Distinct-append (x ∷ xs) ys a b apart =
    (append-not_member x xs ys a.0 (apart x (member-head x xs)), Distinct-append xs ys a.1 b (λ y m. apart y (member-tail y x xs m)))

-- a list with a member is not empty
pub some_length : (x : ℕ) (xs : List ℕ) → member x xs ≡ true → 0 < length xs
some_length x [] m = absurd (false≢true m)
some_length x (y ∷ ys) m = omega arith

-- two functions that agree on the members map alike
pub map-agree : (f g : ℕ → ℕ) (xs : List ℕ) → ((y : ℕ) → member y xs ≡ true → g y ≡ f y) → map g xs ≡ map f xs
map-agree f g [] h = refl
map-agree f g (x ∷ xs) h =
    ap (λ z. z ∷ map g xs) (h x (member-head x xs)) ∙ ap (λ zs. f x ∷ zs) (map-agree f g xs (λ y k. h y (member-tail y x xs k)))

-- where a test passes somewhere in a list, a member makes it pass
pub list_any-some : (p : ℕ → Bool) (xs : List ℕ) → list_any p xs ≡ true → (x : ℕ) × (member x xs ≡ true) × (p x ≡ true)
list_any-some p [] h = absurd (false≢true h)
list_any-some p (x ∷ xs) h = elim (or_cases (p x) (list_any p xs) h) [
  | inl t ↦ (x, member-head x xs, t)
  | inr k ↦ let (y, m, t) = list_any-some p xs k in (y, member-tail y x xs m, t)
]

-- A list that gets a number at its end where a test passes. ------------------------------------------

-- a member stays one when a number comes to the end or not
pub member-grown_left : (found : Bool) (y z : ℕ) (xs ys : List ℕ) → ys ≡ cond found (xs ++ y ∷ []) xs → member z xs ≡ true → member z ys ≡ true
member-grown_left true y z xs ys e m = ap (member z) e ∙ member-push_left z y xs m
member-grown_left false y z xs ys e m = ap (member z) e ∙ m

-- when a number comes to the end or not, each other number is a member as it was
pub member-grown_other : (found : Bool) (y z : ℕ) (xs ys : List ℕ) → ys ≡ cond found (xs ++ y ∷ []) xs → z ≢ y → member z ys ≡ member z xs
member-grown_other true y z xs ys e ne =
    ap (member z) e ∙ (member-push z y xs ∙ (ap (λ b. member z xs || b) (ne_eqb z y ne) ∙ or-false (member z xs)))
member-grown_other false y z xs ys e ne = ap (member z) e

-- a distinct list stays distinct when a number that it has not comes to the end or not
pub Distinct-grown : (found : Bool) (y : ℕ) (xs ys : List ℕ) → ys ≡ cond found (xs ++ y ∷ []) xs → Distinct xs → member y xs ≡ false → Distinct ys
Distinct-grown true y xs ys e d out = subst Distinct (sym e) (Distinct-push xs y d out)
Distinct-grown false y xs ys e d out = subst Distinct (sym e) d

-- Lists of anything. -------------------------------------------------------------------------------

-- within its length a list has a member whatever stands for none
pub get_or-any : (xs : List ℕ) (k d e : ℕ) → k < length xs → get_or xs k d ≡ get_or xs k e
get_or-any [] k d e l = absurd (omega arith)
get_or-any (x ∷ xs) zero d e l = refl
get_or-any (x ∷ xs) (suc k) d e l = get_or-any xs k d e (omega arith)

-- an ascending list never falls
pub never_falls : (xs : List ℕ) → IsStrictlyIncreasing xs → (i j : ℕ) → i ≤ j → j < length xs → get_or xs i 0 ≤ get_or xs j 0
never_falls xs up i j le l = elim (cases_eq i j) [
  | inl e ↦ omega (arith, ap (λ k. get_or xs k 0) e)
  | inr ne ↦ omega (arith, AllPairs-from_increasing xs up i j 0 (omega arith) l)
]

-- what holds of each of a list holds of each of its front
pub All-front : {A : Type 0} (P : A → Type 0) (xs ys : List A) → All P (xs ++ ys) → All P xs
All-front {A} P xs ys h k d l = subst P (get_or_append_left xs ys d k l) (h k d (omega (arith, l, length-append xs ys)))

-- what holds of each of a list holds of its last
pub All-end : {A : Type 0} (P : A → Type 0) (xs : List A) (y : A) → All P (xs ++ y ∷ []) → P y
All-end P xs y h = subst P (get_or-append_seam xs y [] y) (h (length xs) y (omega (arith, length-append xs (y ∷ []))))

-- what holds of all holds of one in the middle
pub All-middle : {A : Type 0} (P : A → Type 0) (front back : List A) (x : A) (xs : List A) → xs ≡ front ++ x ∷ back → All P xs → P x
All-middle P front back x xs is all =
    subst P (get_or-append_seam front x back x) (subst (All P) is all (length front) x (omega (arith, length-append front (x ∷ back))))

-- what the test of a list for emptiness tells
pub no_items : {A : Type 0} (xs : List A) (n : ℕ) (b : Bool) → length xs ≡ n → b ≡ eqb n 0 → b ≡ true → xs ≡ []
no_items [] n b l e t = refl
no_items (x ∷ xs) n b l e t = let k : n ≡ 0 = eqb-true n 0 (sym e ∙ t) in absurd (omega arith)

-- each of four equal numbers is that number
pub each-of_four : (w v : ℕ) → v < 4 → get_or (w ∷ w ∷ w ∷ w ∷ []) v 0 ≡ w
each-of_four w zero l = refl
each-of_four w (suc zero) l = refl
each-of_four w (suc (suc zero)) l = refl
each-of_four w (suc (suc (suc zero))) l = refl
each-of_four w (suc (suc (suc (suc v)))) l = absurd (omega arith)

-- Sums. --------------------------------------------------------------------------------------------

-- functions that agree below a number have the same sum there
pub total-agree : (f g : ℕ → ℕ) (n : ℕ) → ((v : ℕ) → v < n → f v ≡ g v) → total f n ≡ total g n
total-agree f g zero h = refl
total-agree f g (suc n) h = ap₂ (λ (a b : ℕ). a + b) (h n (omega arith)) (total-agree f g n (λ v l. h v (omega arith)))
