-- Vertices that are put in the place of their ids.
use Rattle.std.proofs.Common.{◌≡◌, ◌≢◌, ◌<◌, ◌+◌, ◌∙◌, ℕ, Bool, List, true, false, true≢false}
use Rattle.std.proofs.Common.{ap, arith, below_more, inl, inr, length, length-set, slice_set, sym}
use Rattle.std.specs.List.Sorted.{IsStrictlyIncreasing}
use Rattle.std.proofs.lemmas.Bool.{cases_eq}
use Rattle.std.proofs.lemmas.List.{get_or-set_other, get_or-set_same, get_or_default}
use Rattle.kc_graph.specs.Certificate.{Enumerates}
use Rattle.kc_graph.specs.Peeling.{at}
use Rattle.kc_graph.proofs.Places.{length-enumerates}
use Rattle.kc_claims.specs.Placing.{AreVertices, HasPlaced, IsSecond}
use Rattle.kc_claims.specs.Taking.{is_marked}
use Rattle.kc_claims.proofs.Rising.{ids-apart}

-- nothing is placed yet
pub HasPlaced-none : (ids column : List ℕ) (named : List Bool) → length named ≡ length ids → ((v : ℕ) → is_marked named v ≡ false)
    → HasPlaced ids column 0 column named
HasPlaced-none ids column named marks none = record {
  one_each = omega arith;
  one_mark = marks;
  vertices = λ i l. absurd (omega arith);
  named_so = λ i l. absurd (omega arith);
  others = λ i l. omega arith;
  marked = λ i l. absurd (omega arith);
  only = λ v l is. absurd (true≢false (sym is ∙ none v));
  apart = λ i j l k. absurd (omega arith);
}

module _ (ids column : List ℕ) (n : ℕ) (now : List ℕ) (named : List Bool) (h : HasPlaced ids column n now named) where
  module _ (v : ℕ) (l : v < length ids) (here : at ids v ≡ at column n) (within : n < length column) (new : is_marked named v ≡ false) where
    -- the earlier vertices stay, and are other ones
    stays : (i : ℕ) → i < n → at (slice_set now n v) i ≡ at now i
    stays i k = get_or-set_other now n i v 0 (let e : i ≢ n = omega arith in e)

    last : at (slice_set now n v) n ≡ v
    last = get_or-set_same now n v 0 (omega (arith, h.one_each))

    other : (i : ℕ) → i < n → at now i ≢ v
    other i k e = true≢false (sym (h.marked i k) ∙ ap (is_marked named) e ∙ new)

    -- the marks
    mark-old : (u : ℕ) → u ≢ v → is_marked (slice_set named v true) u ≡ is_marked named u
    mark-old u ne = get_or-set_other named v u true false ne

    mark-new : is_marked (slice_set named v true) v ≡ true
    mark-new = get_or-set_same named v true false (omega (arith, h.one_mark))

    only-more : (u : ℕ) → u < length ids → is_marked (slice_set named v true) u ≡ true → (i : ℕ) × (i < n + 1) × (at (slice_set now n v) i ≡ u)
    only-more u k m = elim (cases_eq u v) [
      | inl e ↦ (n, omega arith, last ∙ sym e)
      | inr ne ↦
          let (i, j, is) = h.only u k (sym (mark-old u ne) ∙ m) in
          (i, omega arith, stays i j ∙ is)
    ]

    apart-more : (i j : ℕ) → i < j → j < n + 1 → at (slice_set now n v) i ≢ at (slice_set now n v) j
    apart-more i j k m e = elim (cases_eq j n) [
      | inl is ↦ other i (omega (arith, is)) (sym (stays i (omega (arith, is))) ∙ e ∙ ap (at (slice_set now n v)) is ∙ last)
      | inr ne ↦ h.apart i j k (omega (arith, ne)) (sym (stays i (omega (arith, ne))) ∙ e ∙ stays j (omega (arith, ne)))
    ]

    -- one id more has its vertex
    pub HasPlaced-more : HasPlaced ids column (n + 1) (slice_set now n v) (slice_set named v true)
    HasPlaced-more = record {
      one_each = length-set now n v ∙ h.one_each;
      one_mark = length-set named v true ∙ h.one_mark;
      vertices = below_more (λ i. at (slice_set now n v) i < length ids) n (λ i k. omega (arith, stays i k, h.vertices i k)) (omega (arith, last, l));
      named_so = below_more (λ i. at ids (at (slice_set now n v) i) ≡ at column i) n (λ i k. ap (at ids) (stays i k) ∙ h.named_so i k)
          (ap (at ids) last ∙ here);
      others = λ i k. get_or-set_other now n i v 0 (let e : i ≢ n = omega arith in e) ∙ h.others i (omega arith);
      marked = below_more (λ i. is_marked (slice_set named v true) (at (slice_set now n v) i) ≡ true) n
          (λ i k. ap (is_marked (slice_set named v true)) (stays i k) ∙ mark-old (at now i) (other i k) ∙ h.marked i k)
          (ap (is_marked (slice_set named v true)) last ∙ mark-new);
      only = only-more;
      apart = apart-more;
    }

  -- ids of other vertices are others
  ids-differ : IsStrictlyIncreasing ids → (i j : ℕ) → i < j → j < n → at column i ≢ at column j
  ids-differ up i j l k same =
      h.apart i j l k
      (ids-apart ids up (at now i) (at now j) (h.vertices i (omega arith)) (h.vertices j k)
      (h.named_so i (omega arith) ∙ same ∙ sym (h.named_so j k)))

  -- the next id is of a vertex that is marked
  pub IsSecond-next : IsStrictlyIncreasing ids → (v : ℕ) → v < length ids → at ids v ≡ at column n → n < length column → is_marked named v ≡ true
      → IsSecond column n
  IsSecond-next up v l here within mark =
      let (i, k, is) = h.only v l mark in
      record {
        within = within;
        earlier = i;
        stands_before = k;
        same = sym (h.named_so i k) ∙ ap (at ids) is ∙ here;
        apart = ids-differ up;
      }

-- all ids have their vertices, and each vertex is marked
pub AreVertices-placed : (ids column now : List ℕ) (named : List Bool) → HasPlaced ids column (length column) now named
    → ((v : ℕ) → v < length ids → is_marked named v ≡ true) → AreVertices ids column now
AreVertices-placed ids column now named h all = record {
  one_each = h.one_each;
  one_id = omega (arith, length-enumerates (length ids) now order, h.one_each);
  vertices = h.vertices;
  named_so = h.named_so;
  apart = h.apart;
  enumerates = order;
}
  where
    order : Enumerates (length ids) now
    order = record {
      below = λ k d l.
          let k' : k < length column = omega (arith, h.one_each) in
          omega (arith, get_or_default now k d 0 l, h.vertices k k');
      distinct = λ i j d l k e.
          h.apart i j l (omega (arith, h.one_each))
          (get_or_default now i 0 d (omega arith) ∙ e ∙ get_or_default now j d 0 k);
      complete = λ v l.
          let (i, k, is) = h.only v l (all v l) in
          let k' : i < length now = omega (arith, h.one_each) in
          (i, k', get_or_default now i v 0 k' ∙ is);
    }
