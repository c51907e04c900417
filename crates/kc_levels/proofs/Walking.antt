-- A walk over the vertices of a list, which passes the heads.
use Rattle.std.proofs.Common.{◌≡◌, ◌≢◌, ◌<◌, ◌≤◌, ◌+◌, ℕ, Bool, true, false, cond, List, [], ◌∷◌, ◌++◌, length, Option, Some, None, eqb, ltb, refl}
use Rattle.std.proofs.Common.{sym, ◌∙◌, ap, subst, inl, inr, arith, true≢false, eq-eqb, ne_eqb}
use Rattle.std.specs.Option.{MatchOption}
use Rattle.std.proofs.lemmas.Bool.{cases_Bool, cases_eq, lt-ltb, le-ltb}
use Rattle.kc_lists.specs.Lists.{member, Distinct, head_or, next_of}
use Rattle.kc_lists.proofs.Members.{member-head, member-tail}
use Rattle.kc_table.specs.Log.{Seen}
use Rattle.kc_table.specs.Legal.{Legal}
use Rattle.kc_table.proofs.Listed.{Listed, list-stands}
use Rattle.kc_order.specs.Standing.{list_after}
use Rattle.kc_levels.specs.Heads.{behind, vertices_of, with_heads, parts_from, level_part}
use Rattle.kc_levels.specs.Levels.{Levelled, levelled, Tallied, size_of}
use Rattle.kc_levels.proofs.Cuts.{filter-yes, filter-no}
use Rattle.kc_levels.proofs.Moving.{head-in}

-- behind the first
behind-here : (x y : ℕ) (ys : List ℕ) → x ≡ y → behind x (y ∷ ys) ≡ ys
behind-here x y ys e = ap (λ b. cond b ys (behind x ys)) (eq-eqb x y e)

-- behind another
behind-next : (x y : ℕ) (ys : List ℕ) → x ≢ y → behind x (y ∷ ys) ≡ behind x ys
behind-next x y ys ne = ap (λ b. cond b ys (behind x ys)) (ne_eqb x y ne)

-- the next is the first behind
next-behind : (e x : ℕ) (xs : List ℕ) → next_of e x xs ≡ head_or e (behind x xs)
next-behind e x [] = refl
next-behind e x (y ∷ ys) = elim (eqb x y) as (λ b. cond b (head_or e ys) (next_of e x ys) ≡ head_or e (cond b ys (behind x ys)))
    [ true ↦ refl | false ↦ next-behind e x ys ]

-- what is behind is in the list
member-behind : (y x : ℕ) (xs : List ℕ) → member y (behind x xs) ≡ true → member y xs ≡ true
member-behind y x [] m = m
member-behind y x (z ∷ zs) m = elim (cases_eq x z) [
  | inl e ↦ member-tail y z zs (sym (ap (member y) (behind-here x z zs e)) ∙ m)
  | inr ne ↦ member-tail y z zs (member-behind y x zs (sym (ap (member y) (behind-next x z zs ne)) ∙ m))
]

-- behind the next
behind-behind : (x y : ℕ) (xs ys : List ℕ) → Distinct xs → behind x xs ≡ y ∷ ys → behind y xs ≡ ys
behind-behind x y [] ys d is = absurd (omega (arith, ap length is))
behind-behind x y (z ∷ zs) ys d is = elim (cases_eq x z) [
  | inl e ↦
      let zs-is : zs ≡ y ∷ ys = sym (behind-here x z zs e) ∙ is in
      let ne : y ≢ z = λ q. true≢false (sym (ap (member z) zs-is ∙ (ap (λ (k : ℕ). member k (y ∷ ys)) (sym q) ∙ member-head y ys)) ∙ d.0) in
      behind-next y z zs ne ∙ (ap (behind y) zs-is ∙ behind-here y y ys refl)
  | inr ne ↦
      let rest : behind x zs ≡ y ∷ ys = sym (behind-next x z zs ne) ∙ is in
      let there : member y zs ≡ true = member-behind y x zs (ap (member y) rest ∙ member-head y ys) in
      let other : y ≢ z = λ q. true≢false (sym there ∙ (ap (λ (k : ℕ). member k zs) q ∙ d.0)) in
      behind-next y z zs other ∙ behind-behind x y zs ys d.1 rest
]

-- one step
record Step (x y : ℕ) (xs : List ℕ) : Type 0 where
  rest : List ℕ
  here : behind x xs ≡ y ∷ rest
  there : behind y xs ≡ rest

-- a step to the next
step-of : (e x y : ℕ) (xs rest : List ℕ) → Distinct xs → behind x xs ≡ rest → head_or e rest ≡ y → y < e → Step x y xs
step-of e x y xs [] d is h l = absurd (omega (arith, h, l))
step-of e x y xs (z ∷ zs) d is h l = let here : behind x xs ≡ y ∷ zs = is
    ∙ ap (λ (k : ℕ). k ∷ zs) h in record { rest = zs; here = here; there = behind-behind x y xs zs d here }

-- no step at the end
none-of : (e x : ℕ) (xs rest : List ℕ) → ((z : ℕ) → member z xs ≡ true → z < e) → behind x xs ≡ rest → head_or e rest ≡ e → rest ≡ []
none-of e x xs [] within is h = refl
none-of e x xs (z ∷ zs) within is h = let l : z < e = within z (member-behind z x xs (ap (member z) is ∙ member-head z zs)) in absurd (omega (arith, h, l))

-- the list as it stands
abbrev list_of : Seen → List ℕ
list_of s = list_after s.table s.log

-- the list of a legal log
stands-listed : (s : Seen) → Legal s.table.shape s.table.opening s.log → Listed s.table.shape (list_of s)
stands-listed s lawful = (list-stands s.table.shape s.table.opening s.log lawful).listed

-- a member that is read behind another is the next one
step-read : (s : Seen) (at y : ℕ) → Legal s.table.shape s.table.opening s.log → y ≡ next_of s.table.shape.items at (list_of s) → member y (list_of s) ≡ true
    → Step at y (list_of s)
step-read s at y lawful is m =
    let e : ℕ = s.table.shape.items in
    let listed = stands-listed s lawful in
    step-of e at y (list_of s) (behind at (list_of s)) listed.distinct refl (sym (next-behind e at (list_of s)) ∙ sym is) (listed.within y m)

-- where the walk finds a vertex, that is the first one left
pub step-found : (s : Seen) (n x at y : ℕ) → Legal s.table.shape s.table.opening s.log
    → vertices_of n (behind at (list_after s.table s.log)) ≡ vertices_of n (behind x (list_after s.table s.log))
    → y ≡ next_of s.table.shape.items at (list_after s.table s.log) → member y (list_after s.table s.log) ≡ true → y < n
    → y ≡ head_or n (vertices_of n (behind x (list_after s.table s.log)))
step-found s n x at y lawful same is m l =
    let step = step-read s at y lawful is m in
    sym (ap (head_or n) (sym same ∙ (ap (vertices_of n) step.here ∙ filter-yes (λ z. ltb z n) y step.rest (lt-ltb y n l))))

-- where the walk finds a head, it goes on behind it
pub step-passed : (s : Seen) (n x at y : ℕ) → Legal s.table.shape s.table.opening s.log
    → vertices_of n (behind at (list_after s.table s.log)) ≡ vertices_of n (behind x (list_after s.table s.log))
    → y ≡ next_of s.table.shape.items at (list_after s.table s.log) → member y (list_after s.table s.log) ≡ true → n ≤ y
    → (vertices_of n (behind y (list_after s.table s.log)) ≡ vertices_of n (behind x (list_after s.table s.log)))
    × (length (behind y (list_after s.table s.log)) < length (behind at (list_after s.table s.log)))
step-passed s n x at y lawful same is m l =
    let step = step-read s at y lawful is m in (
      ap (vertices_of n) step.there ∙ (sym (filter-no (λ z. ltb z n) y step.rest (le-ltb y n l)) ∙ (ap (vertices_of n) (sym step.here) ∙ same)),
      omega (arith, ap length step.there, ap length step.here),
    )

-- where the walk finds nothing, no vertex is left
pub step-none : (s : Seen) (n x at : ℕ) → Legal s.table.shape s.table.opening s.log
    → vertices_of n (behind at (list_after s.table s.log)) ≡ vertices_of n (behind x (list_after s.table s.log))
    → next_of s.table.shape.items at (list_after s.table s.log) ≡ s.table.shape.items → vertices_of n (behind x (list_after s.table s.log)) ≡ []
step-none s n x at lawful same is =
    let e : ℕ = s.table.shape.items in
    let within = (stands-listed s lawful).within in
    sym same ∙ ap (vertices_of n) (none-of e at (list_of s) (behind at (list_of s)) within refl (sym (next-behind e at (list_of s)) ∙ is))

-- the vertices behind a vertex
vertices-behind : (n v : ℕ) (xs : List ℕ) → v < n → vertices_of n (behind v xs) ≡ behind v (vertices_of n xs)
vertices-behind n v [] l = refl
vertices-behind n v (z ∷ zs) l =
    let vertex : ℕ → Bool = λ x. ltb x n in
    elim (cases_eq v z) [
      | inl e ↦ ap (vertices_of n) (behind-here v z zs e)
          ∙ sym (ap (behind v) (filter-yes vertex z zs (sym (ap vertex e) ∙ lt-ltb v n l)) ∙ behind-here v z (vertices_of n zs) e)
      | inr ne ↦ ap (vertices_of n) (behind-next v z zs ne) ∙ (vertices-behind n v zs l ∙ elim (cases_Bool (vertex z)) [
        | inl t ↦ sym (ap (behind v) (filter-yes vertex z zs t) ∙ behind-next v z (vertices_of n zs) ne)
        | inr f ↦ sym (ap (behind v) (filter-no vertex z zs f))
      ])
    ]

-- all vertices are behind head 0
behind-first : (n : ℕ) (order core : List ℕ) → vertices_of n (behind n (with_heads n order core)) ≡ vertices_of n (with_heads n order core)
unfolding with_heads
behind-first n order core =
    let rest : List ℕ = level_part core order 0 ++ parts_from n (level_part core order) 1 n in
    ap (vertices_of n) (behind-here n (n + 0) rest (omega arith)) ∙ sym (filter-no (λ z. ltb z n) (n + 0) rest (le-ltb (n + 0) n (omega arith)))

-- what a walk found is the first of the vertices that are left, or nothing where none is
abbrev Found : ℕ → List ℕ → Option ℕ → Type 0
Found n left o = MatchOption o (left ≡ []) (λ y. (y ≡ head_or n left) × (y < n))

-- what the loop found, as the next
as-next : (n v : ℕ) (order left : List ℕ) (o : Option ℕ) → left ≡ behind v order → Found n left o
    → MatchOption o (next_of n v order ≡ n) (λ w. (w ≡ next_of n v order) × (w < n))
as-next n v order left None is h = next-behind n v order ∙ ap (head_or n) (sym is ∙ h)
as-next n v order left (Some w) is h = (h.0 ∙ (ap (head_or n) is ∙ sym (next-behind n v order)), h.1)

-- what a walk from head 0 found is the first vertex of the order
pub first-found : (old : Levelled) (s : Seen) (core stamps : List ℕ) (open_ : Bool) (number size : ℕ) (o : Option ℕ) → levelled s core open_ ≡ old
    → Tallied (levelled s core open_) stamps number size
    → Found size (vertices_of size (behind size (list_after s.table s.log))) o
    → MatchOption o (old.order ≡ []) (λ v. (v ≡ head_or (size_of old) old.order) × (v < size_of old))
first-found old s core stamps open_ number size o is h found =
    let n : ℕ = s.table.shape.fixed in
    let at : vertices_of n (behind n (list_of s)) ≡ vertices_of n (list_of s) = ap (λ (l : List ℕ). vertices_of n (behind n l)) h.are.list
    ∙ (behind-first n (vertices_of n (list_of s)) core ∙ ap (vertices_of n) (sym h.are.list)) in
    subst (λ (z : Levelled). MatchOption o (z.order ≡ []) (λ v. (v ≡ head_or (size_of z) z.order) × (v < size_of z))) is
    (subst (λ (l : List ℕ). Found n l o) at (subst (λ (k : ℕ). Found k (vertices_of k (behind k (list_of s))) o) h.size_is found))

-- what a walk from a vertex found is the next one in the order
pub next-found : (old : Levelled) (s : Seen) (core stamps : List ℕ) (open_ : Bool) (number size v : ℕ) (o : Option ℕ) → levelled s core open_ ≡ old
    → Tallied (levelled s core open_) stamps number size → v < size_of old
    → Found size (vertices_of size (behind v (list_after s.table s.log))) o
    → MatchOption o (next_of (size_of old) v old.order ≡ size_of old) (λ w. (w ≡ next_of (size_of old) v old.order) × (w < size_of old))
next-found old s core stamps open_ number size v o is h l found =
    let n : ℕ = s.table.shape.fixed in
    subst (λ (z : Levelled). MatchOption o (next_of (size_of z) v z.order ≡ size_of z) (λ w. (w ≡ next_of (size_of z) v z.order) × (w < size_of z))) is
    (as-next n v (vertices_of n (list_of s)) (vertices_of n (behind v (list_of s))) o (vertices-behind n v (list_of s) (omega (arith, l, ap size_of is)))
    (subst (λ (k : ℕ). Found k (vertices_of k (behind v (list_of s))) o) h.size_is found))

-- head 0 is in the list
pub first_head-in : (s : Seen) (core stamps : List ℕ) (open_ : Bool) (number size : ℕ) → Tallied (levelled s core open_) stamps number size
    → member size (list_after s.table s.log) ≡ true
first_head-in s core stamps open_ number size h =
    let n : ℕ = s.table.shape.fixed in
    let at : size ≡ n + 0 = omega (arith, h.size_is) in
    ap (λ (k : ℕ). member k (list_after s.table s.log)) at
    ∙ (ap (member (n + 0)) h.are.list ∙ head-in n 0 (vertices_of n (list_after s.table s.log)) core (omega arith))
