-- The neighbours that are ahead of a vertex, counted one by one and all together.
use Rattle.std.proofs.Common.{◌≡◌, ◌≤◌, ◌<◌, ◌+◌, ℕ, Bool, true, false, cond, not, ◌&&◌, ◌||◌, List, [], ◌∷◌, ◌++◌, length, take, get_or, eqb, ltb}
use Rattle.std.proofs.Common.{refl, sym, ◌∙◌, ap, arith, eqb-true}
use Rattle.std.specs.Prelude.{count_by}
use Rattle.std.proofs.Math.Bool.{and-true}
use Rattle.std.proofs.lemmas.Bool.{and_parts}
use Rattle.std.proofs.lemmas.List.{take_more}
use Rattle.kc_lists.specs.Lists.{member, Distinct, below}
use Rattle.kc_lists.proofs.Counting.{member-push, member-below, below-member, Distinct-below, count-agree, count-le, one_if}
use Rattle.kc_cert.proofs.Tallying.{count-more}
use Rattle.kc_view.specs.Search.{Search, on_level, above, after}
use Rattle.kc_insert.specs.Turns.{side_in, is_ahead, is_next, IsAheadOf}
use Rattle.kc_insert.specs.declared.ahead.Ahead.{Ahead}
use Rattle.kc_insert.specs.declared.ahead.Side.{Side}
use Rattle.kc_insert.specs.declared.ahead.Side.TheVariants.{Higher, Next, Before}

-- a truth, or something and `false`, is that truth
or_no : (a b : Bool) → a ≡ (a || (b && false))
or_no a b = grind arith

-- who is on the list of those behind, after one neighbour more was put there or not
pub member-more : (b : Bool) (x y : ℕ) (next next' : List ℕ) → next' ≡ cond b (next ++ x ∷ []) next → member y next' ≡ (member y next || (eqb y x && b))
member-more true x y next next' e = ap (member y) e ∙ (member-push y x next ∙ ap (λ k. member y next || k) (sym (and-true (eqb y x))))
member-more false x y next next' e = ap (member y) e ∙ or_no (member y next) (eqb y x)

-- who is on the list of those behind, and was looked at, after one neighbour more
next_step : (m' m e b t t' n : Bool) → m' ≡ (m || (e && b)) → m ≡ (t && n) → t' ≡ (t || e) → (e ≡ true → b ≡ n) → m' ≡ (t' && n)
next_step m' m e b t t' n h k l same = grind arith

-- those behind, after one neighbour more
pub next-more : (s : Search) (w x y i : ℕ) (row next next' : List ℕ) (side : Side) → i < length row → get_or row i 0 ≡ x
    → side ≡ side_in s w x → next' ≡ cond (is_next side) (next ++ x ∷ []) next
    → member y next ≡ (member y (take i row) && is_next (side_in s w y)) → member y next' ≡ (member y (take (i + 1) row) && is_next (side_in s w y))
next-more s w x y i row next next' side l at is more before =
    let seam : member y (take (i + 1) row) ≡ (member y (take i row) || eqb y x) =
    ap (member y) (take_more row i 0 l ∙ ap (λ n. take i row ++ n ∷ []) at) ∙ member-push y x (take i row) in
    next_step (member y next') (member y next) (eqb y x) (is_next side) (member y (take i row)) (member y (take (i + 1) row))
    (is_next (side_in s w y)) (member-more (is_next side) x y next next' more) before seam
    (λ e. ap is_next (is ∙ ap (side_in s w) (sym (eqb-true y x e))))

-- the count, after one neighbour more
pub counted-more : (s : Search) (w x i n n' : ℕ) (row : List ℕ) (side : Side) → i < length row → get_or row i 0 ≡ x → side ≡ side_in s w x
    → n' ≡ n + cond (is_ahead side) 1 0
    → n ≡ count_by (λ y. is_ahead (side_in s w y)) (take i row) → n' ≡ count_by (λ y. is_ahead (side_in s w y)) (take (i + 1) row)
counted-more s w x i n n' row side l at is more before =
    let p : ℕ → Bool = λ y. is_ahead (side_in s w y) in
    let here : cond (is_ahead side) 1 0 ≡ one_if (p (get_or row i 0)) = ap (λ k. cond (is_ahead k) 1 0) is ∙ ap (λ y. one_if (p y)) (sym at) in
    omega (arith, more, before, here, count-more p row i l)

-- the side says ahead where the neighbour is higher or next
side_ahead : (a l : Bool) → is_ahead (cond a Higher (cond l Next Before)) ≡ (a || l)
side_ahead true l = refl
side_ahead false true = refl
side_ahead false false = refl

-- the side says next where the neighbour is next and not higher
side_next : (a l : Bool) → is_next (cond a Higher (cond l Next Before)) ≡ (not a && l)
side_next true l = refl
side_next false true = refl
side_next false false = refl

-- of a vertex of the level the side says next where it comes later
level_next : (a l f : Bool) (n k : ℕ) → a ≡ ltb k n → l ≡ eqb n k → n ≡ k → (not a && (l && f)) ≡ f
level_next a l f n k ha hl e = grind arith

-- whoever is on the row and next is on the level and later
next_parts : (m a l f : Bool) → (m && (not a && (l && f))) ≡ true → (m ≡ true) × (l ≡ true) × (f ≡ true)
next_parts m a l f h = (grind arith, grind arith, grind arith)

-- a truth that is another is that other, with what is true besides
and-true_first : (a b c : Bool) → a ≡ true → b ≡ c → b ≡ (a && c)
and-true_first a b c h e = grind arith

-- once all neighbours have been looked at, count and list are those of the ones ahead
pub ahead-is : (s : Search) (w : ℕ) (row : List ℕ) (a : Ahead) → Distinct row → ((y : ℕ) → member y row ≡ true → y < s.size)
    → ((y : ℕ) → y < s.size → member y row ≡ s.adj w y)
    → a.count ≡ count_by (λ y. is_ahead (side_in s w y)) row → ((y : ℕ) → member y a.next.items ≡ (member y row && is_next (side_in s w y))) → IsAheadOf s w a
ahead-is s w row a once within exact counted next =
    let p : ℕ → Bool = λ y. above s y || (on_level s y && after s w y) in
    let q : ℕ → Bool = λ y. s.adj w y && p y in
    let here : count_by (λ y. is_ahead (side_in s w y)) row ≡ count_by q row =
    count-agree (λ y. is_ahead (side_in s w y)) q row
    (λ y m.
    and-true_first (s.adj w y) (is_ahead (side_in s w y)) (p y) (sym (exact y (within y m)) ∙ m)
    (side_ahead (above s y) (on_level s y && after s w y))) in
    let up : count_by q row ≤ count_by q (below s.size) = count-le q row (below s.size) once (λ y m _. member-below y s.size (within y m)) in
    let down : count_by q (below s.size) ≤ count_by q row =
    count-le q (below s.size) row (Distinct-below s.size)
    (λ y m t. exact y (below-member y s.size m) ∙ (and_parts (s.adj w y) (p y) t).0) in
    record {
      count = omega (arith, counted, here, up, down);
      next = λ y oy. next y ∙ (ap (λ b. b && is_next (side_in s w y)) (exact y oy.here)
          ∙ ap (λ b. s.adj w y && b) (side_next (above s y) (on_level s y && after s w y)
          ∙ level_next (above s y) (on_level s y) (after s w y) (s.core y) s.level refl refl oy.level));
      only = λ y m.
          let k =
          next_parts (member y row) (above s y) (on_level s y) (after s w y)
          (ap (λ b. member y row && b) (sym (side_next (above s y) (on_level s y && after s w y))) ∙ (sym (next y) ∙ m)) in
          (record { here = within y k.0; level = eqb-true (s.core y) s.level k.1 }, sym (exact y (within y k.0)) ∙ k.0, k.2);
    }
