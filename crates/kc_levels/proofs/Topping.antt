-- The greatest level.
use Rattle.std.proofs.Common.{◌≡◌, ◌≢◌, ◌<◌, ◌≤◌, ◌+◌, ◌⊎◌, ℕ, zero, suc, fold, Bool, true, false, List, [], ◌∷◌, length, get_or, set, ltb, Option}
use Rattle.std.proofs.Common.{Some, None, eqb}
use Rattle.std.proofs.Common.{refl, sym, ◌∙◌, ap, ap₂, subst, inl, inr, arith, eq-eqb, length-set}
use Rattle.std.specs.Prelude.{max, MatchBool}
use Rattle.std.specs.Option.{MatchOption, unwrap_or}
use Rattle.std.proofs.lemmas.Bool.{cases_eq, false≢true, eqb-true, ltb-true, lt-ltb}
use Rattle.std.proofs.lemmas.List.{get_or-set_other}
use Rattle.kc_lists.specs.Lists.{member, last_or, prev_of}
use Rattle.kc_lists.proofs.Members.{member-head, member-last_or}
use Rattle.kc_lists.proofs.Counting.{member-filter, filter-member}
use Rattle.kc_graph.specs.Core.{greatest}
use Rattle.kc_table.specs.Log.{Seen}
use Rattle.kc_table.proofs.Listed.{Listed, list-stands}
use Rattle.kc_order.specs.Standing.{list_after}
use Rattle.kc_levels.specs.Heads.{level_part, vertices_of, with_heads}
use Rattle.kc_levels.specs.Levels.{levelled, AreLevels, IsHeaded, IsTop}
use Rattle.kc_levels.proofs.Heading.{parts-prev, levels-have}
use Rattle.kc_levels.proofs.Moving.{head-in}

-- what the levels say of the list
pub list-headed : (s : Seen) (core : List ℕ) (open_ : Bool) → AreLevels (levelled s core open_) → IsHeaded s core
list-headed s core open_ are = record {
  legal = are.legal;
  items = omega (arith, are.items, are.long);
  few = omega (arith, are.few, are.long);
  fixed = sym are.long;
  list = are.list ∙ ap (λ (k : ℕ). with_heads k (vertices_of k (list_after s.table s.log)) core) (sym are.long);
}

-- what stands before the next head
prev-last : (n e level : ℕ) (order core : List ℕ) → ((y : ℕ) → member y order ≡ true → y < n) → level < n
    → prev_of e (n + suc level) (with_heads n order core) ≡ last_or (n + level) (level_part core order level)
unfolding with_heads
prev-last n e level order core within high =
    parts-prev n e level (level_part core order) 0 (suc n) (levels-have n core order within) (omega arith) (omega (arith, high))

-- the answer tells whether a vertex has the level as its core number
abbrev Stand : List ℕ → ℕ → Bool → Type 0
Stand core level b = MatchBool b ((v : ℕ) × (v < length core) × (get_or core v 0 ≡ level)) ((v : ℕ) → v < length core → get_or core v 0 ≢ level)

-- a level is empty where its head is last in it
stand-by : (core part : List ℕ) (n level r : ℕ) (b : Bool) → ((v : ℕ) → member v part ≡ true → (v < length core) × (get_or core v 0 ≡ level))
    → ((v : ℕ) → v < length core → get_or core v 0 ≡ level → member v part ≡ true) → length core ≡ n
    → r ≡ last_or (n + level) part → (b ≡ true → r ≢ n + level) → (b ≡ false → r ≡ n + level) → Stand core level b
stand-by core [] n level r true of all long is t f = absurd (t refl is)
stand-by core (x ∷ part) n level r true of all long is t f = let h = of x (member-head x part) in (x, h.0, h.1)
stand-by core [] n level r false of all long is t f = λ v l e. absurd (false≢true (all v l e))
stand-by core (x ∷ part) n level r false of all long is t f =
    let last : ℕ = last_or x part in
    let l : last < length core = (of last (member-last_or x part)).0 in
    absurd (omega (arith, l, is, f refl, long))

-- whether a vertex stands in a level, by what stands before the next head
pub stand-at : (s : Seen) (core : List ℕ) (level r : ℕ) (o : Option ℕ) (b : Bool) → IsHeaded s core → level < length core
    → MatchOption o (prev_of s.table.shape.items (length core + level + 1) (list_after s.table s.log) ≡ s.table.shape.items)
    (λ y. (y ≡ prev_of s.table.shape.items (length core + level + 1) (list_after s.table s.log)) × (member y (list_after s.table s.log) ≡ true))
    → r ≡ unwrap_or o (length core + level) → (b ≡ true → r ≢ length core + level) → (b ≡ false → r ≡ length core + level) → Stand core level b
stand-at s core level r o b h high answer is t f =
    let n : ℕ = length core in
    let e : ℕ = s.table.shape.items in
    let list : List ℕ = list_after s.table s.log in
    let order : List ℕ = vertices_of n list in
    let within : (y : ℕ) → member y order ≡ true → y < n = λ y m. ltb-true y n (member-filter (λ x. ltb x n) y list m).1 in
    let listed : Listed s.table.shape list = (list-stands s.table.shape s.table.opening s.log h.legal).listed in
    let last : prev_of e (n + level + 1) list ≡ last_or (n + level) (level_part core order level) =
    ap₂ (λ (k : ℕ) (l : List ℕ). prev_of e k l) (omega arith) h.list ∙ prev-last n e level order core within high in
    let of : (v : ℕ) → member v (level_part core order level) ≡ true → (v < n) × (get_or core v 0 ≡ level) = λ v m. let k =
    member-filter (λ y. eqb (get_or core y 0) level) v order m in (within v k.0, eqb-true (get_or core v 0) level k.1) in
    let all : (v : ℕ) → v < n → get_or core v 0 ≡ level → member v (level_part core order level) ≡ true = λ v l q.
    filter-member (λ y. eqb (get_or core y 0) level) v order
    (filter-member (λ x. ltb x n) v list (listed.vertices v (omega (arith, l, h.fixed))) (lt-ltb v n l)) (eq-eqb (get_or core v 0) level q) in
    stand-by core (level_part core order level) n level r b of all refl
    (by-answer o (prev_of e (n + level + 1) list) e r (n + level) (below last of) answer is ∙ last) t f
  where
    -- the answer is what stands before
    by-answer : (o : Option ℕ) (p e r d : ℕ) → p ≢ e → MatchOption o (p ≡ e) (λ y. (y ≡ p) × (member y (list_after s.table s.log) ≡ true))
        → r ≡ unwrap_or o d → r ≡ p
    by-answer None p e r d ne h is = absurd (ne h)
    by-answer (Some y) p e r d ne h is = is ∙ h.0

    -- something stands before the next head
    below : prev_of s.table.shape.items (length core + level + 1) (list_after s.table s.log)
        ≡ last_or (length core + level) (level_part core (vertices_of (length core) (list_after s.table s.log)) level)
        → ((v : ℕ) → member v (level_part core (vertices_of (length core) (list_after s.table s.log)) level) ≡ true
        → (v < length core) × (get_or core v 0 ≡ level))
        → prev_of s.table.shape.items (length core + level + 1) (list_after s.table s.log) ≢ s.table.shape.items
    below last of q = last-low (level_part core (vertices_of (length core) (list_after s.table s.log)) level) (λ v m. (of v m).0) (sym last ∙ q)
      where
        -- and it is an item of the table
        last-low : (part : List ℕ) → ((v : ℕ) → member v part ≡ true → v < length core) → last_or (length core + level) part ≢ s.table.shape.items
        last-low [] g k = omega (arith, k, h.items, high)
        last-low (x ∷ part) g k = let l : last_or x part < length core = g (last_or x part) (member-last_or x part) in omega (arith, k, h.items, l)

-- after a move no level stands above the greatest and the one to which the vertex came
pub most-after : (core : List ℕ) (top v level : ℕ) → v < length core → IsTop core top → (w : ℕ) → w < length (set core v level)
    → get_or (set core v level) w 0 ≤ max top (get_or (set core v level) v 0)
most-after core top v level l h w k = elim (cases_eq w v) [
  | inl e ↦ omega (arith, ap (λ (j : ℕ). get_or (set core v level) j 0) e)
  | inr ne ↦ omega (arith, get_or-set_other core v w level 0 ne, h.most w (omega (arith, k, length-set core v level)))
]

-- the greatest level is one
pub top-low : (core : List ℕ) (top v : ℕ) → v < length core → ((w : ℕ) → w < length core → get_or core w 0 < length core) → IsTop core top → top < length core
top-low core top v l low h = elim h.reached [ inl e ↦ omega (arith, e, l) | inr r ↦ omega (arith, r.2, low r.0 r.1) ]

-- the levels after a move, as the code reads them
pub headed-as : (now : Seen) (core xs : List ℕ) (open_ : Bool) → xs ≡ core → AreLevels (levelled now core open_) → IsHeaded now xs
headed-as now core xs open_ same are = subst (IsHeaded now) (sym same) (list-headed now core open_ are)

-- the next head is in the list
pub next_head-in : (s : Seen) (core : List ℕ) (level : ℕ) → IsHeaded s core → level < length core
    → member (length core + level + 1) (list_after s.table s.log) ≡ true
next_head-in s core level h high =
    ap₂ (λ (k : ℕ) (l : List ℕ). member k l) (omega arith) h.list
    ∙ head-in (length core) (suc level) (vertices_of (length core) (list_after s.table s.log)) core (omega (arith, high))

-- the greatest of a number and those of a list
abbrev over : ℕ → List ℕ → ℕ
over d xs = fold (λ n c. max n c) d xs

-- a number is no greater than the greatest of it and those of a list
start-at_most_over : (xs : List ℕ) (d : ℕ) → d ≤ over d xs
start-at_most_over [] d = omega arith
start-at_most_over (x ∷ xs) d = let h : max d x ≤ over d (x ∷ xs) = start-at_most_over xs (max d x) in omega (arith, h)

-- a number of a list is no greater than the greatest of them and another one
item-at_most_over : (xs : List ℕ) (d i : ℕ) → i < length xs → get_or xs i 0 ≤ over d xs
item-at_most_over [] d i l = absurd (omega (arith, l))
item-at_most_over (x ∷ xs) d zero l = let h : max d x ≤ over d (x ∷ xs) = start-at_most_over xs (max d x) in omega (arith, h)
item-at_most_over (x ∷ xs) d (suc i) l = item-at_most_over xs (max d x) i (omega (arith, l))

-- the greatest of a number and those of a list is that number or one of them
over-reached : (xs : List ℕ) (d : ℕ) → (over d xs ≡ d) ⊎ ((i : ℕ) × (i < length xs) × (get_or xs i 0 ≡ over d xs))
over-reached [] d = inl refl
over-reached (x ∷ xs) d = elim (over-reached xs (max d x)) [
  | inl e ↦ elim (cases_eq (max d x) d) [ inl s ↦ inl (e ∙ s) | inr ne ↦ inr (0, omega arith, omega (arith, e, ne)) ]
  | inr h ↦ inr (suc h.0, omega (arith, h.1), h.2)
]

-- the greatest of the levels is their top
pub greatest-is_top : (core : List ℕ) (top : ℕ) → top ≡ greatest core → IsTop core top
greatest-is_top core top is = subst (IsTop core) (sym is) (record { most = λ v l. item-at_most_over core 0 v l; reached = over-reached core 0 })

-- what is no less than a number and those of a list is no less than the greatest of them
over-least : (xs : List ℕ) (d m : ℕ) → d ≤ m → ((i : ℕ) → i < length xs → get_or xs i 0 ≤ m) → over d xs ≤ m
over-least [] d m low h = low
over-least (x ∷ xs) d m low h = over-least xs (max d x) m (omega (arith, low, h 0 (omega arith))) (λ i l. h (suc i) (omega (arith, l)))

-- the top of core numbers is the greatest of them
pub top-is : (core : List ℕ) (top : ℕ) → IsTop core top → top ≡ greatest core
top-is core top h =
    let low : greatest core ≤ top = over-least core 0 top (omega arith) h.most in
    let high : top ≤ greatest core = elim h.reached [
      | inl none ↦ omega (arith, none)
      | inr some ↦ omega (arith, some.2, item-at_most_over core 0 some.0 some.1)
    ] in
    omega (arith, low, high)
