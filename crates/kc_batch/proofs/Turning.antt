-- Places that are taken in turns. Where each place has one turn, what is taken of the turns is taken so of the places.
use Rattle.std.proofs.Common.{◌≡◌, Bool, ℕ, ◌<◌, ◌≤◌, ◌∷◌, ◌++◌, zero, suc, true, cond, eqb, List, [], get_or, length, inl, inr, refl, sym, ap, ◌∙◌, subst}
use Rattle.std.proofs.Common.{arith}
use Rattle.std.specs.List.Sorted.{IsPermutation}
use Rattle.std.proofs.lemmas.Bool.{false_from_ne_true, false≢true}
use Rattle.std.proofs.lemmas.List.{map-append}
use Rattle.std.proofs.lemmas.List.Sorted.{sum_by-IsPermutation}
use Rattle.kc_lists.specs.Lists.{Distinct, below, member, times}
use Rattle.kc_lists.proofs.Counting.{Distinct-below, below-member, count-all, count-le, length-below, member-get_or, distinct_times, member_times}
use Rattle.kc_lists.proofs.Counting.{times_distinct, times_member}
use Rattle.kc_lists.proofs.Members.{below_bound, member-cases, member-head, member-tail}
use Rattle.kc_queue.specs.Shares.{IsShare, AreAllBelow}
use Rattle.kc_batch.specs.Desks.{at_turns}

-- turns that come behind others have their places behind those of the others
pub turned-append : (order xs ys : List ℕ) → at_turns order (xs ++ ys) ≡ at_turns order xs ++ at_turns order ys
turned-append order xs ys = map-append (λ (turn : ℕ). get_or order turn 0) xs ys

-- of distinct numbers that stand all in another list there are no more than there
pub distinct_within-fewer : (xs ys : List ℕ) → Distinct xs → ((x : ℕ) → member x xs ≡ true → member x ys ≡ true) → length xs ≤ length ys
distinct_within-fewer xs ys d h =
    let any : ℕ → Bool = λ x. true in
    omega (arith, count-le any xs ys d (λ x m t. h x m), count-all any xs (λ x m. refl), count-all any ys (λ x m. refl))

-- all numbers below a count are as many
pub whole-length : (n : ℕ) (taken : List ℕ) → AreAllBelow n taken → length taken ≡ n
whole-length n taken whole =
    omega (
      arith,
      below_bound n taken whole.share.once whole.share.below,
      distinct_within-fewer (below n) taken (Distinct-below n) (λ x m. whole.all x (below-member x n m)),
      length-below n,
    )

-- the place of a turn that was taken is one of those that were taken
turned-member : (order turns : List ℕ) (t : ℕ) → member t turns ≡ true → member (get_or order t 0) (at_turns order turns) ≡ true
turned-member order [] t m = absurd (false≢true m)
turned-member order (u ∷ us) t m = elim (member-cases t u us m) [
  | inl e ↦ subst (λ (z : ℕ). member (get_or order z 0) (at_turns order (u ∷ us)) ≡ true) (sym e) (member-head (get_or order u 0) (at_turns order us))
  | inr k ↦ member-tail (get_or order t 0) (get_or order u 0) (at_turns order us) (turned-member order us t k)
]

-- A place that was taken has a turn that was taken.
record HasTurn (order turns : List ℕ) (place : ℕ) : Type 0 where
  pub turn : ℕ
  pub taken : member turn turns ≡ true
  pub at : get_or order turn 0 ≡ place

-- and a place of those that were taken has a turn that was taken
member-turned : (order turns : List ℕ) (place : ℕ) → member place (at_turns order turns) ≡ true → HasTurn order turns place
member-turned order [] place m = absurd (false≢true m)
member-turned order (u ∷ us) place m = elim (member-cases place (get_or order u 0) (at_turns order us) m) [
  | inl e ↦ record { turn = u; taken = member-head u us; at = sym e }
  | inr k ↦ let h = member-turned order us place k in record { turn = h.turn; taken = member-tail h.turn u us h.taken; at = h.at }
]

-- distinct places have one turn each
one-turn : (order : List ℕ) (t u : ℕ) → Distinct order → t < length order → u < length order → get_or order t 0 ≡ get_or order u 0 → t ≡ u
one-turn [] t u d lt lu same = absurd (omega arith)
one-turn (x ∷ xs) zero zero d lt lu same = refl
one-turn (x ∷ xs) zero (suc u) d lt lu same =
    absurd (false≢true (sym d.0 ∙ (ap (λ (z : ℕ). member z xs) same ∙ member-get_or xs u 0 (omega arith))))
one-turn (x ∷ xs) (suc t) zero d lt lu same =
    absurd (false≢true (sym d.0 ∙ (ap (λ (z : ℕ). member z xs) (sym same) ∙ member-get_or xs t 0 (omega arith))))
one-turn (x ∷ xs) (suc t) (suc u) d lt lu same = ap suc (one-turn xs t u d.1 (omega arith) (omega arith) same)

-- a place that stands in the order has a turn
turn-of : (order : List ℕ) (place : ℕ) → member place order ≡ true → (turn : ℕ) × (turn < length order) × (get_or order turn 0 ≡ place)
turn-of [] place m = absurd (false≢true m)
turn-of (x ∷ xs) place m = elim (member-cases place x xs m) [
  | inl e ↦ (0, omega arith, sym e)
  | inr k ↦ let h = turn-of xs place k in (suc h.0, omega (arith, h.1), h.2)
]

module _ {n : ℕ} {order : List ℕ} (whole : AreAllBelow n order) where
  -- the order is as long as there are turns
  long : length order ≡ n
  long = whole-length n order whole

  -- the place of a turn below the count is one below it
  pub turn-below : (t : ℕ) → t < n → get_or order t 0 < n
  turn-below t l = whole.share.below (get_or order t 0) (member-get_or order t 0 (omega (arith, l, long)))

  -- different turns have different places
  turned-once : (turns : List ℕ) → Distinct turns → ((t : ℕ) → member t turns ≡ true → t < n) → Distinct (at_turns order turns)
  turned-once [] d below = tt
  turned-once (u ∷ us) d below = (
    false_from_ne_true (member (get_or order u 0) (at_turns order us)) (λ m.
        let h = member-turned order us (get_or order u 0) m in
        let lt = below h.turn (member-tail h.turn u us h.taken) in
        let lu = below u (member-head u us) in
        let same : h.turn ≡ u = one-turn order h.turn u whole.share.once (omega (arith, lt, long)) (omega (arith, lu, long)) h.at in
        false≢true (sym d.0 ∙ (ap (λ (z : ℕ). member z us) (sym same) ∙ h.taken))),
    turned-once us d.1 (λ t m. below t (member-tail t u us m)),
  )

  -- where each place has one turn, some turns have each a place of their own,
  pub share-turned : (turns : List ℕ) → IsShare n turns → IsShare n (at_turns order turns)
  share-turned turns share = record {
    once = turned-once turns share.once share.below;
    below = λ place m.
        let h = member-turned order turns place m in
        subst (λ (z : ℕ). z < n) h.at (turn-below h.turn (share.below h.turn h.taken));
  }

  -- and all turns have all places
  pub whole-turned : (turns : List ℕ) → AreAllBelow n turns → AreAllBelow n (at_turns order turns)
  whole-turned turns all = record {
    share = share-turned turns all.share;
    all = λ place l.
        let h = turn-of order place (whole.all place l) in
        subst (λ (z : ℕ). member z (at_turns order turns) ≡ true) h.2
        (turned-member order turns h.0 (all.all h.0 (omega (arith, h.1, long))));
  }

-- all numbers below a count are so in any order
pub whole-permuted : (n : ℕ) (xs ys : List ℕ) → IsPermutation xs ys → AreAllBelow n xs → AreAllBelow n ys
whole-permuted n xs ys p whole =
    let same : (x : ℕ) → times x ys ≡ times x xs = λ x. sum_by-IsPermutation (λ (y : ℕ). cond (eqb x y) 1 0) xs ys p in
    record {
      share = record {
        once = distinct_times ys (λ x. omega (arith, same x, times_distinct x xs whole.share.once));
        below = λ x m. whole.share.below x (member_times x xs (omega (arith, same x, times_member x ys m)));
      };
      all = λ x l. member_times x ys (omega (arith, same x, times_member x xs (whole.all x l)));
    }
