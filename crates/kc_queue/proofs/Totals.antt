-- Sums over all views, and what is true of each, after one view is set or one is added.
use Rattle.std.proofs.Common.{◌≡◌, ◌≢◌, ◌≤◌, ◌+◌, ℕ, suc, zero, List, [], ◌∷◌, ◌++◌, set, refl, sym, ap, subst, ⊎_elim, arith}
use mathlib.Core.Option.{some, some-ne-none, some-injective}
use lib.ListN.{get_elem?}
use Rattle.crossbeam_queue.proofs.Lists.{at_set, at_snoc}
use Rattle.kc_queue.specs.declared.dealing.Hand.{Hand}
use Rattle.kc_queue.specs.Dealt.{total}

-- a sum after one view is set
pub total_set : (f : Hand → ℕ) (views : List Hand) (port : ℕ) (v w : Hand) → get_elem? views port ≡ some v
    → total f (set views port w) + f v ≡ total f views + f w
total_set f [] port v w e = absurd (some-ne-none v (sym e))
total_set f (x ∷ xs) zero v w e = let same : f x ≡ f v = ap f (some-injective x v e) in omega arith
total_set f (x ∷ xs) (suc port) v w e = let rest = total_set f xs port v w e in omega arith

-- a sum with one view more at the end
pub total_snoc : (f : Hand → ℕ) (views : List Hand) (w : Hand) → total f (views ++ w ∷ []) ≡ total f views + f w
total_snoc f [] w = omega arith
total_snoc f (x ∷ xs) w = let rest = total_snoc f xs w in omega arith

-- one of them is no more than all
pub total_one : (f : Hand → ℕ) (views : List Hand) (port : ℕ) (v : Hand) → get_elem? views port ≡ some v → f v ≤ total f views
total_one f [] port v e = absurd (some-ne-none v (sym e))
total_one f (x ∷ xs) zero v e = let same : f x ≡ f v = ap f (some-injective x v e) in omega arith
total_one f (x ∷ xs) (suc port) v e = let rest = total_one f xs port v e in omega arith

-- where one has all, another has nothing
pub total_else : (f : Hand → ℕ) (views : List Hand) (port : ℕ) (v : Hand) → get_elem? views port ≡ some v → total f views ≡ f v
    → (j : ℕ) (u : Hand) → j ≢ port → get_elem? views j ≡ some u → f u ≡ 0
total_else f [] port v e all j u apart there = absurd (some-ne-none v (sym e))
total_else f (x ∷ xs) zero v e all zero u apart there = absurd (apart refl)
total_else f (x ∷ xs) zero v e all (suc j) u apart there =
    let same : f x ≡ f v = ap f (some-injective x v e) in
    let one = total_one f xs j u there in
    omega arith
total_else f (x ∷ xs) (suc port) v e all zero u apart there =
    let same : f x ≡ f u = ap f (some-injective x u there) in
    let one = total_one f xs port v e in
    omega arith
total_else f (x ∷ xs) (suc port) v e all (suc j) u apart there =
    let one = total_one f xs port v e in
    total_else f xs port v e (omega arith) j u (λ same. apart (ap suc same)) there

-- where all others have nothing, one has all
pub total_alone : (f : Hand → ℕ) (views : List Hand) (port : ℕ) (v : Hand) → get_elem? views port ≡ some v
    → ((j : ℕ) (u : Hand) → j ≢ port → get_elem? views j ≡ some u → f u ≡ 0) → total f views ≡ f v
total_alone f [] port v e none = absurd (some-ne-none v (sym e))
total_alone f (x ∷ xs) zero v e none =
    let same : f x ≡ f v = ap f (some-injective x v e) in
    let rest = nothing f xs (λ j u there. none (suc j) u (λ is. absurd (omega arith)) there) in
    omega arith
  where
    nothing : (g : Hand → ℕ) (us : List Hand) → ((j : ℕ) (u : Hand) → get_elem? us j ≡ some u → g u ≡ 0) → total g us ≡ 0
    nothing g [] each = refl
    nothing g (y ∷ ys) each = let here = each 0 y refl in let rest = nothing g ys (λ j u e. each (suc j) u e) in omega arith
total_alone f (x ∷ xs) (suc port) v e none =
    let here = none 0 x (λ is. absurd (omega arith)) refl in
    let rest = total_alone f xs port v e (λ j u apart there. none (suc j) u (λ is. apart (omega arith)) there) in
    omega arith

-- what is true of all other views and of the one that is set is true of each
pub each_set : (F : Hand → Type 0) (views : List Hand) (port : ℕ) (w : Hand) → F w → ((j : ℕ) (u : Hand) → j ≢ port → get_elem? views j ≡ some u → F u)
    → (j : ℕ) (u : Hand) → get_elem? (set views port w) j ≡ some u → F u
each_set F views port w mine others j u e =
    ⊎_elim (λ (t : (j ≡ port) × (w ≡ u)). subst F t.1 mine) (λ (t : (j ≢ port) × (get_elem? views j ≡ some u)). others j u t.0 t.1) (at_set views port j w u e)

-- what is true of each view and of one more at the end is true of each
pub each_snoc : (F : Hand → Type 0) (views : List Hand) (w : Hand) → F w → ((j : ℕ) (u : Hand) → get_elem? views j ≡ some u → F u)
    → (j : ℕ) (u : Hand) → get_elem? (views ++ w ∷ []) j ≡ some u → F u
each_snoc F views w mine others j u e = ⊎_elim (λ (t : get_elem? views j ≡ some u). others j u t) (λ (t : w ≡ u). subst F t mine) (at_snoc views w u j e)
