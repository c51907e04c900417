-- Counts of numbers are counts of vertices and of edges.
use Rattle.std.proofs.Common.{◌≡◌, ◌≤◌, ◌+◌, ◌++◌, ◌∙◌, ◌&&◌, ℕ, zero, suc, Bool, true, false, cond, List, [], ◌∷◌, length, take, map}
use Rattle.std.proofs.Common.{ap, ap₂, sym, refl, arith, get_or, leb, eqb, min, count_by}
use Rattle.std.specs.List.{filter}
use Rattle.std.proofs.lemmas.Bool.{le-leb}
use Rattle.std.proofs.lemmas.Bool.Decides.{nat_tests}
use Rattle.std.proofs.lemmas.List.Sums.{length-filter}
use Rattle.std.proofs.Math.Seq.{take-length, take-suc}
use Rattle.kc_flat.specs.Listing.{ascending_below, edge_list}
use Rattle.kc_flat.proofs.Listed.{ascending-suc}
use Rattle.kc_graph.specs.Peeling.{at}
use Rattle.kc_graph.specs.SimpleGraph.{SimpleGraph}
use Rattle.kc_lists.specs.Lists.{times}
use Rattle.kc_lists.proofs.Counting.{count-all, count-cons}
use Rattle.kc_cores.specs.Answers.{core_edges, is_in_core}
use Rattle.kc_cores.specs.Sizes.{lesser_number}

-- a number is k or more if it is k, or more than that
one-step : (k x : ℕ) → cond (leb k x) 1 0 ≡ cond (eqb k x) 1 0 + cond (leb (k + 1) x) 1 0
one-step k x = grind (arith, nat_tests)

-- those that are k or more are those that are k, and those that are more
pub count-step : (k : ℕ) (xs : List ℕ) → count_by (leb k) xs ≡ times k xs + count_by (leb (k + 1)) xs
count-step k [] = refl
count-step k (x ∷ xs) =
    omega (arith, count-cons (leb k) x xs, count-cons (eqb k) x xs, count-cons (leb (k + 1)) x xs, one-step k x, count-step k xs)

-- each number is 0 or more
pub count-zero : (xs : List ℕ) → length xs ≡ count_by (leb 0) xs
count-zero xs = sym (count-all (leb 0) xs (λ x m. le-leb 0 x (omega arith)))

-- how many of the first numbers pass is how many of their places have one that passes
count-front : (q : ℕ → Bool) (xs : List ℕ) (n : ℕ) → n ≤ length xs → count_by q (take n xs) ≡ count_by (λ v. q (at xs v)) (ascending_below n)
count-front q xs zero h = refl
count-front q xs (suc n) h =
    ap (count_by q) (take-suc xs n 0 (omega arith)) ∙ count-push q (take n xs) (get_or xs n 0)
    ∙ ap (λ m. m + cond (q (get_or xs n 0)) 1 0) (count-front q xs n (omega arith))
    ∙ sym (ap (count_by (λ v. q (at xs v))) (ascending-suc n) ∙ count-push (λ v. q (at xs v)) (ascending_below n) n)
  where
    count-push : (p : ℕ → Bool) (ys : List ℕ) (y : ℕ) → count_by p (ys ++ y ∷ []) ≡ count_by p ys + cond (p y) 1 0
    count-push p [] y = omega (arith, count-cons p y [])
    count-push p (z ∷ ys) y = omega (arith, count-cons p z (ys ++ y ∷ []), count-cons p z ys, count-push p ys y)

-- how many numbers pass is how many vertices have one that passes
pub count-vertices : (q : ℕ → Bool) (xs : List ℕ) (n : ℕ) → length xs ≡ n
    → count_by q xs ≡ length (filter (λ v. q (at xs v)) (ascending_below n))
count-vertices q xs n size =
    sym (ap (count_by q) (take-length xs)) ∙ count-front q xs (length xs) (omega arith)
    ∙ sym (length-filter (λ v. q (at xs v)) (ascending_below (length xs)))
    ∙ ap (λ m. length (filter (λ v. q (at xs v)) (ascending_below m))) size

-- the lesser of two numbers is k or more if both are
both-least : (k a b : ℕ) → (leb k a && leb k b) ≡ leb k (min a b)
both-least k a b = grind (arith, nat_tests)

-- how many of the lesser numbers are k or more is how many edges have both ends so
count-lesser : (core : List ℕ) (k : ℕ) (es : List (ℕ × ℕ))
    → count_by (leb k) (map (lesser_number core) es) ≡ length (filter (λ e. is_in_core core k e.0 && is_in_core core k e.1) es)
count-lesser core k [] = refl
count-lesser core k (e ∷ es) =
    count-cons (leb k) (lesser_number core e) (map (lesser_number core) es)
    ∙ ap₂ (λ b n. cond b 1 0 + n) (sym (both-least k (at core e.0) (at core e.1))) (count-lesser core k es)
    ∙ sym (length-step (is_in_core core k e.0 && is_in_core core k e.1))
  where
    rest : List (ℕ × ℕ)
    rest = filter (λ e. is_in_core core k e.0 && is_in_core core k e.1) es

    length-step : (b : Bool) → length (cond b (e ∷ rest) rest) ≡ cond b 1 0 + length rest
    length-step true = omega arith
    length-step false = omega arith

-- the same of all edges of a graph
pub count-edges : (g : SimpleGraph) (core : List ℕ) (k : ℕ) → count_by (leb k) (map (lesser_number core) (edge_list g)) ≡ length (core_edges g core k)
count-edges g core k = count-lesser core k (edge_list g)
