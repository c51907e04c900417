-- Counts that stay at the greatest number add up.
use Rattle.std.proofs.Common.{◌≡◌, ◌<◌, ◌+◌, ℕ, List, ◌++◌, length, get_or, sym, ◌∙◌, ap, arith, nat_le, Bool, cond, take, refl, [], ◌∷◌}
use Rattle.std.proofs.lemmas.List.{take_more}
use Rattle.std.specs.Prelude.{count_by}
use Rattle.std.specs.List.{sum_by}
use Rattle.std.proofs.lemmas.List.Sums.{sum_by-cons}
use Rattle.kc_tally.specs.Lists.{edges_of_pieces}
use Rattle.kc_graph.specs.declared.bulk.Edge.{Edge}
use Rattle.kc_tally.specs.Keys.{has_lesser_key}
use Rattle.kc_tally.specs.Tallies.{capped, leads_to, later_count, supporter_count, AreTallied}
use Rattle.kc_tally.proofs.EdgeCounts.{edges-append, edges-cons}

-- two counts that may be cut short add up as if they were not
pub capped-add : (a b : ℕ) → capped (capped a + capped b) ≡ capped (a + b)
capped-add a b = omega arith

-- one that may be cut short too
pub capped-more : (a b : ℕ) → capped (capped a + b) ≡ capped (a + b)
capped-more a b = omega arith

-- the tally of two lists
pub tally-append : (core rank : List ℕ) (first second : List Edge) (later supporters later' supporters' later'' supporters'' : List ℕ)
    → AreTallied core rank first later supporters → AreTallied core rank second later' supporters' → length later'' ≡ length core
    → length supporters'' ≡ length core
    → ((v : ℕ) → v < length core → get_or later'' v 0 ≡ capped (get_or later v 0 + get_or later' v 0))
    → ((v : ℕ) → v < length core → get_or supporters'' v 0 ≡ capped (get_or supporters v 0 + get_or supporters' v 0))
    → AreTallied core rank (first ++ second) later'' supporters''
tally-append core rank first second later supporters later' supporters' later'' supporters'' t t' n n' l s = record {
  later_each = n;
  supporters_each = n';
  later_counted = λ v lv.
      omega (arith, l v lv, t.later_counted v lv, t'.later_counted v lv, edges-append (leads_to (has_lesser_key core rank v) v) first second);
  supporters_counted = λ v lv.
      let both = edges-append (leads_to (λ w. nat_le (get_or core v 0) (get_or core w 0)) v) first second in
      omega (arith, s v lv, t.supporters_counted v lv, t'.supporters_counted v lv, both);
}

-- the tally of a list with a piece behind it
pub tally-more : (core rank : List ℕ) (first second : List Edge) (later supporters later' supporters' : List ℕ)
    → AreTallied core rank first later supporters → length later' ≡ length core → length supporters' ≡ length core
    → ((v : ℕ) → v < length core → get_or later' v 0 ≡ capped (get_or later v 0 + later_count core rank second v))
    → ((v : ℕ) → v < length core → get_or supporters' v 0 ≡ capped (get_or supporters v 0 + supporter_count core second v))
    → AreTallied core rank (first ++ second) later' supporters'
tally-more core rank first second later supporters later' supporters' t n n' l s = record {
  later_each = n;
  supporters_each = n';
  later_counted = λ v lv. omega (arith, l v lv, t.later_counted v lv, edges-append (leads_to (has_lesser_key core rank v) v) first second);
  supporters_counted = λ v lv.
      let both = edges-append (leads_to (λ w. nat_le (get_or core v 0) (get_or core w 0)) v) first second in
      omega (arith, s v lv, t.supporters_counted v lv, both);
}

-- one edge more is counted where it passes
pub count-more : (p : Edge → Bool) (xs : List Edge) (i : ℕ) (d : Edge) → i < length xs
    → count_by p (take (i + 1) xs) ≡ count_by p (take i xs) + cond (p (get_or xs i d)) 1 0
count-more p xs i d l =
    omega (
      arith,
      ap (count_by p) (take_more xs i d l),
      edges-append p (take i xs) (get_or xs i d ∷ []),
      edges-cons p (get_or xs i d) [],
    )

-- no edges give nothing
pub tally-none : (core rank zeros : List ℕ) → length zeros ≡ length core → ((v : ℕ) → v < length core → get_or zeros v 0 ≡ 0)
    → AreTallied core rank [] zeros zeros
tally-none core rank zeros n h = record {
  later_each = n;
  supporters_each = n;
  later_counted = λ v l. omega (arith, h v l);
  supporters_counted = λ v l. omega (arith, h v l);
}

-- what pieces count sums up to what they count together
count-pieces : (p : Edge → Bool) (pieces : List (List Edge)) → count_by p (edges_of_pieces pieces) ≡ sum_by (count_by p) pieces
count-pieces p [] = refl
count-pieces p (piece ∷ pieces) =
    omega (arith, edges-append p piece (edges_of_pieces pieces), count-pieces p pieces, sum_by-cons (count_by p) piece pieces)

-- counts that may be cut short sum up as if they were not
capped-sum : {X : Type 0} (f : X → ℕ) (xs : List X) → capped (sum_by (λ x. capped (f x)) xs) ≡ capped (sum_by f xs)
capped-sum f [] = refl
capped-sum f (x ∷ xs) = omega (arith, sum_by-cons (λ x. capped (f x)) x xs, sum_by-cons f x xs, capped-sum f xs)

-- the tally of pieces is the sum of their counts
pub tally-pieces : (core rank : List ℕ) (pieces : List (List Edge)) (later supporters : List ℕ) → length later ≡ length core
    → length supporters ≡ length core
    → ((v : ℕ) → v < length core → get_or later v 0 ≡ capped (sum_by (λ piece. capped (later_count core rank piece v)) pieces))
    → ((v : ℕ) → v < length core → get_or supporters v 0 ≡ capped (sum_by (λ piece. capped (supporter_count core piece v)) pieces))
    → AreTallied core rank (edges_of_pieces pieces) later supporters
tally-pieces core rank pieces later supporters n n' l s = record {
  later_each = n;
  supporters_each = n';
  later_counted = λ v lv.
      l v lv ∙ (capped-sum (λ piece. later_count core rank piece v) pieces
      ∙ ap capped (sym (count-pieces (leads_to (has_lesser_key core rank v) v) pieces)));
  supporters_counted = λ v lv.
      s v lv ∙ (capped-sum (λ piece. supporter_count core piece v) pieces
      ∙ ap capped (sym (count-pieces (leads_to (λ w. nat_le (get_or core v 0) (get_or core w 0)) v) pieces)));
}
