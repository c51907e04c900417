-- Vertices of a layer are taken one after the other.
use Rattle.std.proofs.Common.{◌≡◌, ◌≤◌, ◌<◌, ◌+◌, ℕ, suc, zero, Bool, true, false, cond, ◌&&◌, List, [], ◌∷◌, ◌++◌, length, get_or, take, eqb}
use Rattle.std.proofs.Common.{refl, sym, ◌∙◌, ap, subst, ◌⊎◌, inl, inr, arith, eqb-true, eq-eqb}
use Rattle.std.specs.Prelude.{count_by}
use Rattle.std.specs.List.{filter}
use Rattle.std.proofs.lemmas.List.Sums.{sum_by-append, count_by_more_yes}
use Rattle.std.proofs.lemmas.Bool.{cases_Bool, cases_eq, cases_lt, or_right, and_parts, and_from, false≢true, false_from_ne_true}
use Rattle.kc_lists.specs.Lists.{member, Distinct, below}
use Rattle.kc_lists.proofs.Members.{member-append, member-append_left, member-append_right}
use Rattle.kc_lists.proofs.Counting.{count-cons, count-le, count-agree, member-filter, filter-member, Distinct-filter, one_if, member-push, member-push_left}
use Rattle.kc_lists.proofs.Counting.{member-push_cases, Distinct-push, member-below, Distinct-below}
use Rattle.kc_lists.proofs.Shared.{Distinct-append}
use Rattle.kc_graph.specs.SimpleGraph.{SimpleGraph, adjacent}
use Rattle.kc_graph.specs.Neighbours.{AreNeighbours}
use Rattle.kc_graph.specs.Peeling.{at}
use Rattle.kc_graph.proofs.Law.{adjacent-sym}
use Rattle.kc_graph.proofs.PeelingLemmas.{neighbours-distinct}
use Rattle.kc_tally.specs.Taking.{IsFirstLayer, LetGo, TakesLayer, are_beside}
use Rattle.kc_tally.proofs.Releasing.{joins}

-- one more at the end of a list counts where it passes
pub count-push : (p : ℕ → Bool) (x : ℕ) (xs : List ℕ) → count_by p (xs ++ x ∷ []) ≡ count_by p xs + cond (p x) 1 0
count-push p x xs = omega (arith, sum_by-append (λ y. cond (p y) 1 0) xs (x ∷ []), count-cons p x [])

-- none is taken yet
pub takes_none : (g : SimpleGraph) (core left : List ℕ) → TakesLayer g core [] left left []
takes_none g core left = record {
  one_each = refl;
  lost = λ v l. omega arith;
  fewer = λ v. omega arith;
  dropped = λ v m. absurd (false≢true m);
  all = λ v more few. absurd (omega arith);
  once = tt;
}

module _ (g : SimpleGraph) (core taken left left' next : List ℕ) (h : TakesLayer g core taken left left' next) (v : ℕ) (ws left'' next'' : List ℕ)
    (near : AreNeighbours g v ws) (r : LetGo core (at core v) ws left' next left'' next'') where
  -- whether a vertex loses one
  abbrev loses : ℕ → Bool
  loses u = member u ws && eqb (at core u) (at core v)

  -- who loses one is beside `v`
  beside-loses : (u : ℕ) → are_beside g core u v ≡ loses u
  beside-loses u = ap (λ b. b && eqb (at core u) (at core v)) (adjacent-sym g u v ∙ sym (near.exact u))

  -- a vertex of the next layer joins now, or was in it
  joined_cases : (u : ℕ) → member u next'' ≡ true → (member u next ≡ true) ⊎ ((member u ws ≡ true) × (at core u ≡ at core v) × (at left' u ≡ at core v + 1))
  joined_cases u m = elim (member-append u next (filter (joins core (at core v) left') ws) (sym (ap (member u) r.joined) ∙ m)) [
    | inl k ↦ inl k
    | inr k ↦
        let f = member-filter (joins core (at core v) left') u ws k in
        let p = and_parts (eqb (at core u) (at core v)) (eqb (at left' u) (at core v + 1)) f.1 in
        inr (f.0, eqb-true (at core u) (at core v) p.0, eqb-true (at left' u) (at core v + 1) p.1)
  ]

  -- who was in the next layer stays
  stays_joined : (u : ℕ) → member u next ≡ true → member u next'' ≡ true
  stays_joined u m = ap (member u) r.joined ∙ member-append_left u next (filter (joins core (at core v) left') ws) m

  -- a vertex that had one more than its level, and loses it, joins
  joins_now : (u : ℕ) → member u ws ≡ true → at core u ≡ at core v → at left' u ≡ at core v + 1 → member u next'' ≡ true
  joins_now u m on one =
      ap (member u) r.joined
      ∙ member-append_right u next (filter (joins core (at core v) left') ws)
      (filter-member (joins core (at core v) left') u ws m (and_from _ _ (eq-eqb (at core u) (at core v) on) (eq-eqb (at left' u) (at core v + 1) one)))

  -- a vertex loses one, or keeps what it has
  loses_or_keeps : (u : ℕ) → ((member u ws ≡ true) × (at core u ≡ at core v) × (at left' u ≡ at left'' u + 1)) ⊎ (at left' u ≡ at left'' u)
  loses_or_keeps u = elim (cases_Bool (loses u)) [
    | inl t ↦
        let p = and_parts (member u ws) (eqb (at core u) (at core v)) t in
        inl (p.0, eqb-true (at core u) (at core v) p.1, omega (arith, r.lowered u, ap one_if t))
    | inr f ↦ inr (omega (arith, r.lowered u, ap one_if f))
  ]

  -- a vertex that just had too many is in the next layer once it has not
  all-more : (u : ℕ) → at core u < at left u → at left'' u ≤ at core u → member u next'' ≡ true
  all-more u more few = elim (cases_lt (at core u) (at left' u)) [
    | inr low ↦ stays_joined u (h.all u more low)
    | inl high ↦ elim (loses_or_keeps u) [
      | inl k ↦ joins_now u k.0 k.1 (omega (arith, k.1, k.2, high, few))
      | inr k ↦ absurd (omega (arith, k, high, few))
    ]
  ]

  -- the next layer has those that have no more now
  dropped-more : (u : ℕ) → member u next'' ≡ true → (at core u < at left u) × (at left'' u ≤ at core u)
  dropped-more u m = elim (joined_cases u m) [
    | inl k ↦ let d = h.dropped u k in (d.0, elim (loses_or_keeps u) [ inl l ↦ omega (arith, l.2, d.1) | inr l ↦ omega (arith, l, d.1) ])
    | inr k ↦ (
      omega (arith, k.1, k.2, h.fewer u),
      elim (loses_or_keeps u) [ inl l ↦ omega (arith, l.2, k.1, k.2) | inr l ↦ absurd (false≢true (sym (keeps-not u l) ∙ loses-true u k.0 k.1)) ],
    )
  ] where
    keeps-not : (u : ℕ) → at left' u ≡ at left'' u → loses u ≡ false
    keeps-not u l = false_from_ne_true (loses u) (λ t. absurd (omega (arith, r.lowered u, ap one_if t, l)))

    loses-true : (u : ℕ) → member u ws ≡ true → at core u ≡ at core v → loses u ≡ true
    loses-true u m on = and_from _ _ m (eq-eqb (at core u) (at core v) on)

  -- one more is taken
  pub takes_more : TakesLayer g core (taken ++ v ∷ []) left left'' next''
  takes_more = record {
    one_each = r.one_each ∙ h.one_each;
    lost = λ u l. omega (
      arith,
      count-push (are_beside g core u) v taken,
      ap one_if (beside-loses u),
      r.lowered u,
      h.lost u l,
    );
    fewer = λ u. elim (loses_or_keeps u) [ inl k ↦ omega (arith, k.2, h.fewer u) | inr k ↦ omega (arith, k, h.fewer u) ];
    dropped = dropped-more;
    all = all-more;
    once =
        subst Distinct (sym r.joined)
        (Distinct-append next (filter (joins core (at core v) left') ws) h.once
        (Distinct-filter (joins core (at core v) left') ws (neighbours-distinct g v ws near))
        (λ u m. false_from_ne_true _ (λ k.
        let f = member-filter (joins core (at core v) left') u ws k in
        let p = and_parts (eqb (at core u) (at core v)) (eqb (at left' u) (at core v + 1)) f.1 in
        absurd (omega (arith, (h.dropped u m).1, eqb-true (at core u) (at core v) p.0, eqb-true (at left' u) (at core v + 1) p.1)))));
  }

-- a front of a list counts no more than the list
count-front : (p : ℕ → Bool) (n : ℕ) (xs : List ℕ) → count_by p (take n xs) ≤ count_by p xs
count-front p zero xs = omega arith
count-front p (suc n) [] = omega arith
count-front p (suc n) (x ∷ xs) = omega (arith, count-cons p x (take n xs), count-cons p x xs, count-front p n xs)

-- who is beside the next vertex of the layer has it left
pub some-left : (g : SimpleGraph) (core layer left left' next : List ℕ) (i : ℕ) → i < length layer → TakesLayer g core (take i layer) left left' next
    → ((v : ℕ) → v < g.size → count_by (are_beside g core v) layer ≤ at left v) → (ws : List ℕ) → AreNeighbours g (get_or layer i 0) ws
    → (w : ℕ) → member w ws ≡ true → at core w ≡ at core (get_or layer i 0) → 0 < at left' w
some-left g core layer left left' next i l h enough ws near w m on =
    let v : ℕ = get_or layer i 0 in
    let lw : w < g.size = near.within w m in
    let beside : are_beside g core w v ≡ true = and_from _ _ (adjacent-sym g w v ∙ sym (near.exact w) ∙ m) (eq-eqb (at core w) (at core v) on) in
    omega (
      arith,
      h.lost w lw,
      enough w lw,
      count_by_more_yes (are_beside g core w) layer i 0 l beside,
      count-front (are_beside g core w) (i + 1) layer,
    )

-- the neighbours that pass are as many in their list as over all vertices
pub neighbours-counted : (g : SimpleGraph) (v : ℕ) (ws : List ℕ) (test : ℕ → Bool) → AreNeighbours g v ws
    → count_by test ws ≡ count_by (λ w. adjacent g v w && test w) (below g.size)
neighbours-counted g v ws test near =
    let both : ℕ → Bool = λ w. adjacent g v w && test w in
    let here : count_by test ws ≡ count_by both ws = count-agree test both ws (λ w m. sym (ap (λ b. b && test w) (sym (near.exact w) ∙ m))) in
    let up : count_by both ws ≤ count_by both (below g.size) =
    count-le both ws (below g.size) (neighbours-distinct g v ws near) (λ w m _. member-below w g.size (near.within w m)) in
    let down : count_by both (below g.size) ≤ count_by both ws =
    count-le both (below g.size) ws (Distinct-below g.size) (λ w _ t. near.exact w ∙ (and_parts (adjacent g v w) (test w) t).0) in
    omega (arith, here, up, down)

-- one vertex more, which has few neighbours left
pub first_more : (core left layer : List ℕ) (v : ℕ) → IsFirstLayer core left layer v → at left v ≤ at core v → IsFirstLayer core left (layer ++ v ∷ []) (v + 1)
first_more core left layer v h few = record {
  within = λ u m. elim (member-push_cases u v layer m) [
    | inl k ↦ (omega (arith, (h.within u k).0), (h.within u k).1)
    | inr e ↦ (omega (arith, e), omega (arith, few, ap (at left) e, ap (at core) e))
  ];
  all = λ u l low. elim (cases_eq u v) [
    | inl e ↦ member-push u v layer ∙ or_right (member u layer) (eqb u v) (eq-eqb u v e)
    | inr ne ↦ member-push_left u v layer (h.all u (omega (arith, l, ne)) low)
  ];
  once = Distinct-push layer v h.once (false_from_ne_true _ (λ m. absurd (omega (arith, (h.within v m).0))));
}

-- one vertex more, which has too many
pub first_skip : (core left layer : List ℕ) (v : ℕ) → IsFirstLayer core left layer v → at core v < at left v → IsFirstLayer core left layer (v + 1)
first_skip core left layer v h more = record {
  within = λ u m. (omega (arith, (h.within u m).0), (h.within u m).1);
  all = λ u l low. elim (cases_eq u v) [
    | inl e ↦ absurd (omega (arith, more, low, ap (at left) e, ap (at core) e))
    | inr ne ↦ h.all u (omega (arith, l, ne)) low
  ];
  once = h.once;
}
