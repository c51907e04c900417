-- What claims tell that are taken one after another.
use Rattle.std.proofs.Common.{◌≡◌, ◌≢◌, ◌<◌, ◌+◌, ◌++◌, ◌∙◌, ℕ, Bool, List, [], ◌∷◌}
use Rattle.std.proofs.Common.{true, false, true≢false, ap, arith, below_more, inl, inr, length, sym}
use Rattle.std.proofs.Common.{length-append, length-set, slice_set}
use Rattle.std.specs.List.Sorted.{IsStrictlyIncreasing}
use Rattle.std.proofs.Math.ListN.{get_or-append}
use Rattle.std.proofs.Math.Seq.{get_or-append_seam}
use Rattle.std.proofs.lemmas.Bool.{cases_eq, cases_order}
use Rattle.std.proofs.lemmas.List.{get_or-set_other, get_or-set_same, get_or_default}
use Rattle.kc_lists.specs.Lists.{member}
use Rattle.kc_lists.proofs.Counting.{member-get_or}
use Rattle.kc_graph.specs.Peeling.{at}
use Rattle.kc_claims.specs.Certificates.{NameOnce, IsMissing, IsRepeated, IsUnknown, TellEach, TellFirst, claim_at, rank_in}
use Rattle.kc_claims.specs.Taking.{HasTaken, IsTakenWith, IsUnmarkedFirst, is_marked}
use Rattle.kc_claims.specs.declared.claim.Claim.{Claim}
use Rattle.kc_claims.specs.declared.taking.Taken.{Taken}
use Rattle.kc_claims.proofs.Rising.{id-place, ids-apart, ids-rise}

module _ (ids : List ℕ) (claims : List Claim) (n : ℕ) (taken : Taken) (h : HasTaken ids claims n taken) where
  module _ (taken' : Taken) (v : ℕ) (l : v < length ids) (here : at ids v ≡ (claim_at claims n).id) (new' : is_marked taken.named.items v ≡ false)
      (more : IsTakenWith taken taken' v (claim_at claims n).number (rank_in n (claim_at claims n))) where
    -- the vertices of the earlier claims stay, and the new one stands behind them
    stays : (i : ℕ) → i < n → at taken'.order.items i ≡ at taken.order.items i
    stays i k = ap (λ xs. at xs i) more.order ∙ get_or-append taken.order.items (v ∷ []) 0 i (omega (arith, h.told.one_each))

    last : at taken'.order.items n ≡ v
    last = ap (λ xs. at xs n) more.order ∙ ap (at (taken.order.items ++ v ∷ [])) (sym h.told.one_each) ∙ get_or-append_seam taken.order.items v [] 0

    -- they are other vertices
    other : (i : ℕ) → i < n → at taken.order.items i ≢ v
    other i k e = true≢false (sym (h.marked i k) ∙ ap (is_marked taken.named.items) e ∙ new')

    -- what is told of a vertex, old or new
    at-old : (xs ys : List ℕ) (x i : ℕ) → ys ≡ slice_set xs v x → i < n → at ys (at taken'.order.items i) ≡ at xs (at taken.order.items i)
    at-old xs ys x i is k = ap (at ys) (stays i k) ∙ ap (λ zs. at zs (at taken.order.items i)) is
        ∙ get_or-set_other xs v (at taken.order.items i) x 0 (other i k)

    at-new : (xs ys : List ℕ) (x : ℕ) → ys ≡ slice_set xs v x → length xs ≡ length ids → at ys (at taken'.order.items n) ≡ x
    at-new xs ys x is size = ap (at ys) last ∙ ap (λ zs. at zs v) is ∙ get_or-set_same xs v x 0 (omega (arith, size))

    -- the marks
    mark-old : (u : ℕ) → u ≢ v → is_marked taken'.named.items u ≡ is_marked taken.named.items u
    mark-old u ne = ap (λ (zs : List Bool). is_marked zs u) more.named ∙ get_or-set_other taken.named.items v u true false ne

    mark-new : is_marked taken'.named.items v ≡ true
    mark-new = ap (λ (zs : List Bool). is_marked zs v) more.named ∙ get_or-set_same taken.named.items v true false (omega (arith, h.one_mark))

    told-more : TellFirst ids claims (n + 1) taken'.order.items taken'.core.items taken'.rank.items
    told-more = record {
      one_each = omega (arith, ap length more.order, length-append taken.order.items (v ∷ []), h.told.one_each);
      vertices = below_more (λ i. at taken'.order.items i < length ids) n (λ i k. omega (arith, stays i k, h.told.vertices i k)) (omega (arith, last));
      named = below_more (λ i. at ids (at taken'.order.items i) ≡ (claim_at claims i).id) n (λ i k. ap (at ids) (stays i k) ∙ h.told.named i k)
          (ap (at ids) last ∙ here);
      numbers = below_more (λ i. at taken'.core.items (at taken'.order.items i) ≡ (claim_at claims i).number) n
          (λ i k. at-old taken.core.items taken'.core.items (claim_at claims n).number i more.core k ∙ h.told.numbers i k)
          (at-new taken.core.items taken'.core.items (claim_at claims n).number more.core h.one_number);
      ranks = below_more (λ i. at taken'.rank.items (at taken'.order.items i) ≡ rank_in i (claim_at claims i)) n
          (λ i k. at-old taken.rank.items taken'.rank.items (rank_in n (claim_at claims n)) i more.rank k ∙ h.told.ranks i k)
          (at-new taken.rank.items taken'.rank.items (rank_in n (claim_at claims n)) more.rank h.one_rank);
    }

    only-more : (u : ℕ) → u < length ids → is_marked taken'.named.items u ≡ true → (i : ℕ) × (i < n + 1) × (at taken'.order.items i ≡ u)
    only-more u k m = elim (cases_eq u v) [
      | inl e ↦ (n, omega arith, last ∙ sym e)
      | inr ne ↦
          let (i, j, is) = h.only u k (sym (mark-old u ne) ∙ m) in
          (i, omega arith, stays i j ∙ is)
    ]

    apart-more : (i j : ℕ) → i < j → j < n + 1 → at taken'.order.items i ≢ at taken'.order.items j
    apart-more i j k m e = elim (cases_eq j n) [
      | inl is ↦ other i (omega (arith, is)) (sym (stays i (omega (arith, is))) ∙ e ∙ ap (at taken'.order.items) is ∙ last)
      | inr ne ↦ h.apart i j k (omega (arith, ne)) (sym (stays i (omega (arith, ne))) ∙ e ∙ stays j (omega (arith, ne)))
    ]

    -- one claim more is taken
    pub HasTaken-more : HasTaken ids claims (n + 1) taken'
    HasTaken-more = record {
      one_number = ap length more.core ∙ length-set taken.core.items v (claim_at claims n).number ∙ h.one_number;
      one_rank = ap length more.rank ∙ length-set taken.rank.items v (rank_in n (claim_at claims n)) ∙ h.one_rank;
      one_mark = ap length more.named ∙ length-set taken.named.items v true ∙ h.one_mark;
      told = told-more;
      marked = below_more (λ i. is_marked taken'.named.items (at taken'.order.items i) ≡ true) n
          (λ i k. ap (is_marked taken'.named.items) (stays i k) ∙ mark-old (at taken.order.items i) (other i k) ∙ h.marked i k)
          (ap (is_marked taken'.named.items) last ∙ mark-new);
      only = only-more;
      apart = apart-more;
    }

  module _ (up : IsStrictlyIncreasing ids) where
    -- claims of different vertices are of different ids
    pub NameOnce-taken : NameOnce ids claims n
    NameOnce-taken = record {
      known = λ i k. ap (λ x. member x ids) (sym (h.told.named i k)) ∙ member-get_or ids (at taken.order.items i) 0 (h.told.vertices i k);
      once = λ i j k m same.
          h.apart i j k m
          (ids-apart ids up (at taken.order.items i) (at taken.order.items j) (h.told.vertices i (omega arith)) (h.told.vertices j m)
          (h.told.named i (omega arith) ∙ same ∙ sym (h.told.named j m)));
    }

    module _ (claim : Claim) (within : n < length claims) (is : claim ≡ claim_at claims n) where
      -- the next claim is of no id
      pub IsUnknown-next : member claim.id ids ≡ false → IsUnknown ids claims claim
      IsUnknown-next none = record { place = n; within = within; is = is; unknown = none; before = NameOnce-taken }

      -- the next claim is of a vertex that is marked
      pub IsRepeated-next : (v : ℕ) → v < length ids → at ids v ≡ claim.id → is_marked taken.named.items v ≡ true → IsRepeated ids claims claim
      IsRepeated-next v l here mark =
          let (i, k, at_v) = h.only v l mark in
          record {
            place = n;
            within = within;
            is = is;
            earlier = i;
            stands_before = k;
            same = sym (h.told.named i k) ∙ ap (at ids) at_v ∙ here;
            before = NameOnce-taken;
          }

module _ (ids : List ℕ) (claims : List Claim) (taken : Taken) (h : HasTaken ids claims (length claims) taken) where
  -- all claims are taken, and each vertex is marked
  pub TellEach-taken : ((v : ℕ) → v < length ids → is_marked taken.named.items v ≡ true)
      → TellEach ids claims taken.order.items taken.core.items taken.rank.items
  TellEach-taken all = record {
    one_number = h.one_number;
    one_rank = h.one_rank;
    all = h.told;
    enumerates = record {
      below = λ k d l.
          let k' : k < length claims = omega (arith, h.told.one_each) in
          omega (arith, get_or_default taken.order.items k d 0 l, h.told.vertices k k');
      distinct = λ i j d l k e.
          h.apart i j l (omega (arith, h.told.one_each))
          (get_or_default taken.order.items i 0 d (omega arith) ∙ e ∙ get_or_default taken.order.items j d 0 k);
      complete = λ v l.
          let (i, k, is) = h.only v l (all v l) in
          let k' : i < length taken.order.items = omega (arith, h.told.one_each) in
          (i, k', get_or_default taken.order.items i v 0 k' ∙ is);
    };
  }

  -- all claims are taken, and this is the first vertex that is not marked
  pub IsMissing-taken : IsStrictlyIncreasing ids → (id : ℕ) → IsUnmarkedFirst ids taken.named.items id → IsMissing ids claims id
  IsMissing-taken up id first = record {
    known = ap (λ x. member x ids) first.named_so ∙ member-get_or ids first.vertex 0 first.within;
    missing = λ i l e.
        let same : at taken.order.items i ≡ first.vertex =
        ids-apart ids up (at taken.order.items i) first.vertex (h.told.vertices i l) first.within (h.told.named i l ∙ e ∙ first.named_so) in
        true≢false (sym (h.marked i l) ∙ ap (is_marked taken.named.items) same ∙ first.unmarked);
    least = λ other m l.
        let (w, k, at_w) = id-place ids other m in
        let before : w < first.vertex = lower w k (omega (arith, at_w, first.named_so)) in
        let (i, j, is) = h.only w k (first.before w before) in
        (i, j, sym (h.told.named i j) ∙ ap (at ids) is ∙ at_w);
    all = NameOnce-taken ids claims (length claims) taken h up;
  }
    where
      lower : (w : ℕ) → w < length ids → at ids w < at ids first.vertex → w < first.vertex
      lower w k l = elim (cases_order w first.vertex) [
        | inl e ↦ absurd (omega (arith, ap (at ids) e))
        | inr o ↦ elim o [ inl m ↦ m | inr m ↦ absurd (omega (arith, ids-rise ids up first.vertex w m k)) ]
      ]
