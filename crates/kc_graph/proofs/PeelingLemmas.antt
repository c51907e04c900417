-- Taking vertices one by one: what stays true while each vertex that is taken has few neighbours left.
use Rattle.std.proofs.Common.{◌≡◌, ◌≢◌, ◌≤◌, ◌<◌, ◌+◌, ℕ, min, Bool, true, false, cond, not, ◌&&◌, ◌||◌, List, [], ◌∷◌, ◌++◌, length, get_or, take}
use Rattle.std.proofs.Common.{drop, eqb, leb, refl, sym, ◌∙◌, ap, subst, ◌⊎◌, inl, inr, arith, le_trans, leb-true, le-leb, eq-eqb, ne_eqb}
use Rattle.std.proofs.Common.{length-append}
use Rattle.std.specs.Prelude.{count_by}
use Rattle.std.proofs.lemmas.Bool.{cases_Bool, cases_eq, cases_lt, and_parts, and_from, and_left, and_right, or_right, false≢true, not-true}
use Rattle.std.proofs.lemmas.Bool.{not_from_true, not_from_false, eqb-false}
use Rattle.std.proofs.lemmas.List.{take-append-le, get_or_append_left}
use Rattle.std.proofs.lemmas.List.Quantifiers.{all_pairs_push}
use Rattle.std.proofs.Math.Bool.{or-false, and-true}
use Rattle.std.proofs.Math.Seq.{get_or-append_seam, take-length}
use Rattle.kc_lists.specs.Lists.{Distinct, below, member}
use Rattle.kc_lists.proofs.Counting.{member-get_or, Contains-from_member, pairs_from_Distinct, count-le, count-mono, count-miss, member-push, one_if}
use Rattle.kc_lists.proofs.Counting.{member-push_cases, member-push_none, Distinct-push, member-below, below-member, Distinct-below, length-below}
use Rattle.kc_lists.proofs.Counting.{drop-member, Distinct-drop, drop-not_take, count-agree, count-without, count-all}
use Rattle.kc_graph.specs.SimpleGraph.{SimpleGraph, adjacent, degree_among}
use Rattle.kc_graph.specs.Certificate.{Certifies, degree_as_high}
use Rattle.kc_graph.specs.Neighbours.{AreNeighbours}
use Rattle.kc_graph.specs.Peeling.{at, remaining, as_high, IsPeeledTo}
use Rattle.kc_graph.proofs.Law.{adjacent-self}
use Rattle.kc_graph.proofs.RowsLemmas.{Distinct-from_increasing}

-- nothing is taken yet
pub peeling-starts : (g : SimpleGraph) (core : List ℕ) → length core ≡ g.size → IsPeeledTo g 0 core []
peeling-starts g core n = record {
  one_each = n;
  within = λ v m. absurd (false≢true m);
  distinct = tt;
  done = λ v m. absurd (false≢true m);
  open_ = λ v l _. omega arith;
  rising = λ i j d lt l. absurd (omega arith);
  few = λ i l. absurd (omega arith);
  enough = λ v l. omega arith;
}

-- where each vertex that is left has more than `level` neighbours left
pub level-raised : (g : SimpleGraph) (level : ℕ) (core taken : List ℕ) → IsPeeledTo g level core taken
    → ((v : ℕ) → v < g.size → member v taken ≡ false → (level < at core v) × (level < remaining g taken v)) → IsPeeledTo g (level + 1) core taken
level-raised g level core taken p more = record {
  one_each = p.one_each;
  within = p.within;
  distinct = p.distinct;
  done = λ v m. let k : at core v ≤ level = p.done v m in omega arith;
  open_ = λ v l m. let k : level < at core v = (more v l m).0 in omega arith;
  rising = p.rising;
  few = p.few;
  enough = λ v l. elim (cases_Bool (member v taken)) [
    | inl m ↦
        let k : at core v ≤ level = p.done v m in
        let same : min (at core v) level ≡ min (at core v) (level + 1) = omega arith in
        subst (λ (n : ℕ). n ≤ as_high g core n v) same (p.enough v l)
    | inr m ↦
        let high : level < at core v = (more v l m).0 in
        let left : level < remaining g taken v = (more v l m).1 in
        let next : level + 1 ≡ min (at core v) (level + 1) = omega arith in
        let among : remaining g taken v ≤ as_high g core (level + 1) v =
        count-mono (λ w. adjacent g v w && not (member w taken)) (λ w. adjacent g v w && leb (level + 1) (at core w)) (below g.size)
        (λ w in' t. let a = and_parts (adjacent g v w) (not (member w taken)) t in
        let up : level < at core w = (more w (below-member w g.size in') (not-true _ a.1)).0 in
        and_from _ _ a.0 (le-leb (level + 1) (at core w) (omega arith))) in
        let last : level + 1 ≤ as_high g core (level + 1) v = omega arith in
        subst (λ (n : ℕ). n ≤ as_high g core n v) next last
  ];
}

-- with one more vertex taken, none has more neighbours left
remaining-push : (g : SimpleGraph) (taken : List ℕ) (v : ℕ) → remaining g (taken ++ v ∷ []) v ≤ remaining g taken v
remaining-push g taken v =
    count-mono (λ w. adjacent g v w && not (member w (taken ++ v ∷ []))) (λ w. adjacent g v w && not (member w taken)) (below g.size)
    (λ w _ t. let a = and_parts (adjacent g v w) (not (member w (taken ++ v ∷ []))) t in
    and_from _ _ a.0 (not_from_false (member w taken) (member-push_none w v taken (not-true _ a.1)).0))

-- How the numbers change where `v` is taken: those of the taken stay, that of `v` is `level`, and the others stay at least that.
pub record KeepsTaken (g : SimpleGraph) (level v : ℕ) (taken core core' : List ℕ) : Type 0 where
  pub one_each : length core' ≡ length core
  pub taken_same : (w : ℕ) → member w taken ≡ true → at core' w ≡ at core w
  pub here : at core' v ≡ level
  pub left : (w : ℕ) → w < g.size → member w taken ≡ false → w ≢ v → level ≤ at core' w

-- a vertex with at most `level` neighbours left is taken
pub take_one : (g : SimpleGraph) (level v : ℕ) (core taken core' : List ℕ) → IsPeeledTo g level core taken → v < g.size → member v taken ≡ false
    → remaining g taken v ≤ level → KeepsTaken g level v taken core core' → IsPeeledTo g level core' (taken ++ v ∷ [])
take_one g level v core taken core' p l new' few k =
    let after : List ℕ = taken ++ v ∷ [] in
    record {
      one_each = k.one_each ∙ p.one_each;
      within = λ w m. elim (member-push_cases w v taken m) [ inl in' ↦ p.within w in' | inr e ↦ omega arith ];
      distinct = Distinct-push taken v p.distinct new';
      done = λ w m. elim (member-push_cases w v taken m) [
        | inl in' ↦ let old : at core w ≤ level = p.done w in' in omega (arith, k.taken_same w in')
        | inr e ↦ omega (arith, k.here, ap (at core') e)
      ];
      open_ = λ w lw m. let parts = member-push_none w v taken m in k.left w lw parts.0 (eqb-false w v parts.1);
      rising = all_pairs_push (λ x y. at core' x ≤ at core' y) taken v
          (λ i j d lt lj.
          let a : at core' (get_or taken i d) ≡ at core (get_or taken i d) = k.taken_same (get_or taken i d) (member-get_or taken i d (omega arith)) in
          let b : at core' (get_or taken j d) ≡ at core (get_or taken j d) = k.taken_same (get_or taken j d) (member-get_or taken j d lj) in
          omega (arith, a, b, p.rising i j d lt lj))
          (λ i d li.
          let m : member (get_or taken i d) taken ≡ true = member-get_or taken i d li in
          omega (arith, k.taken_same (get_or taken i d) m, p.done (get_or taken i d) m, k.here));
      few = λ i li. elim (cases_lt i (length taken)) [
        | inl lt ↦
            let u : at after i ≡ at taken i = get_or_append_left taken (v ∷ []) 0 i lt in
            let t : take (i + 1) after ≡ take (i + 1) taken = take-append-le (i + 1) taken (v ∷ []) (omega arith) in
            let a : at core' (at taken i) ≡ at core (at taken i) = k.taken_same (at taken i) (member-get_or taken i 0 lt) in
            rw (u, t, a) (p.few i lt)
        | inr ge ↦
            let i-is : i ≡ length taken = omega (arith, length-append taken (v ∷ [])) in
            let u : at after i ≡ v = ap (at after) i-is ∙ get_or-append_seam taken v [] 0 in
            let t : take (i + 1) after ≡ after = ap (λ n. take n after) (omega (arith, length-append taken (v ∷ []))) ∙ take-length after in
            rw (u, t, k.here) (le_trans (remaining-push g taken v) few)
      ];
      enough = λ w lw.
          let m : ℕ = min (at core w) level in
          let level-at : (x : ℕ) → x < g.size → (at core' x ≡ at core x) ⊎ (level ≤ at core' x) = λ x lx. elim (cases_Bool (member x taken)) [
            | inl in' ↦ inl (k.taken_same x in')
            | inr out ↦ elim (cases_eq x v) [ inl e ↦ inr (omega (arith, k.here, ap (at core') e)) | inr ne ↦ inr (k.left x lx out ne) ]
          ] in
          let same : m ≡ min (at core' w) level = elim (cases_Bool (member w taken)) [
            | inl in' ↦ omega (arith, k.taken_same w in')
            | inr out ↦ elim (level-at w lw) [ inl e ↦ omega arith | inr up ↦ omega (arith, p.open_ w lw out) ]
          ] in
          let kept : as_high g core m w ≤ as_high g core' m w =
          count-mono (λ x. adjacent g w x && leb m (at core x)) (λ x. adjacent g w x && leb m (at core' x)) (below g.size)
          (λ x in' t. let a = and_parts (adjacent g w x) (leb m (at core x)) t in
          let low : m ≤ at core x = leb-true m (at core x) a.1 in
          and_from _ _ a.0 (le-leb m (at core' x) (elim (level-at x (below-member x g.size in')) [ inl e ↦ omega arith | inr up ↦ omega arith ]))) in
          subst (λ (n : ℕ). n ≤ as_high g core' n w) same (le_trans (p.enough w lw) kept);
    }

-- once all are taken
pub peeling-finishes : (g : SimpleGraph) (level : ℕ) (core taken : List ℕ) → IsPeeledTo g level core taken
    → ((v : ℕ) → v < g.size → member v taken ≡ true) → Certifies g core taken
peeling-finishes g level core taken p all = record {
  one_each = p.one_each;
  enumerates = record {
    below = λ k d l. p.within (get_or taken k d) (member-get_or taken k d l);
    distinct = pairs_from_Distinct taken p.distinct;
    complete = λ v l. Contains-from_member taken v (all v l);
  };
  rising = p.rising;
  few_later = λ i l.
      let v : ℕ = at taken i in
      let left : ℕ → Bool = λ w. adjacent g v w && not (member w (take (i + 1) taken)) in
      let later : degree_among g (drop (i + 1) taken) v ≤ count_by left (drop (i + 1) taken) =
      count-mono (adjacent g v) left (drop (i + 1) taken) (λ w m a. and_from _ _ a (not_from_false _ (drop-not_take (i + 1) w taken p.distinct m))) in
      let among : count_by left (drop (i + 1) taken) ≤ remaining g (take (i + 1) taken) v =
      count-le left (drop (i + 1) taken) (below g.size) (Distinct-drop (i + 1) taken p.distinct)
      (λ w m _. member-below w g.size (p.within w (drop-member (i + 1) w taken m))) in
      le_trans later (le_trans among (p.few i l));
  enough_as_high = λ v l.
      let low : at core v ≤ level = p.done v (all v l) in
      let same : min (at core v) level ≡ at core v = omega arith in
      let enough : at core v ≤ as_high g core (at core v) v = subst (λ (n : ℕ). n ≤ as_high g core n v) same (p.enough v l) in
      let among : as_high g core (at core v) v ≤ degree_as_high g core taken v =
      count-le (λ w. adjacent g v w && leb (at core v) (at core w)) (below g.size) taken (Distinct-below g.size) (λ w m _. all w (below-member w g.size m)) in
      le_trans enough among;
}

-- no vertex has all of them for neighbours
pub remaining-lt : (g : SimpleGraph) (taken : List ℕ) (v : ℕ) → v < g.size → remaining g taken v < g.size
remaining-lt g taken v l =
    omega (
      arith,
      count-miss (λ w. adjacent g v w && not (member w taken)) v (below g.size) (member-below v g.size l)
          (ap (λ b. b && not (member v taken)) (adjacent-self g v)),
      length-below g.size,
    )

-- a vertex that is taken is left to none of its neighbours
pub remaining-taken : (g : SimpleGraph) (taken : List ℕ) (u v : ℕ) → v < g.size → member v taken ≡ false
    → remaining g taken u ≡ remaining g (taken ++ v ∷ []) u + cond (adjacent g u v) 1 0
remaining-taken g taken u v l new' =
    let p : ℕ → Bool = λ w. adjacent g u w && not (member w taken) in
    let q : ℕ → Bool = λ w. adjacent g u w && not (member w (taken ++ v ∷ [])) in
    let here : member v (taken ++ v ∷ []) ≡ true = member-push v v taken ∙ or_right (member v taken) (eqb v v) (eq-eqb v v refl) in
    let qv : q v ≡ false = and_right (adjacent g u v) _ (not_from_true _ here) in
    let other : (x : ℕ) → (x ≡ v → ⊥) → p x ≡ q x =
    λ x ne.
    ap (λ b. adjacent g u x && not b)
    (sym (member-push x v taken ∙ ap (λ b. member x taken || b) (ne_eqb x v ne) ∙ or-false (member x taken))) in
    elim (cases_Bool (adjacent g u v)) [
      | inl a ↦
          count-without p q v (below g.size) (Distinct-below g.size) (member-below v g.size l) (and_from _ _ a (not_from_false _ new')) qv
          other
          ∙ ap (λ b. remaining g (taken ++ v ∷ []) u + cond b 1 0) (sym a)
      | inr a ↦
          let same : remaining g taken u ≡ remaining g (taken ++ v ∷ []) u = count-agree p q (below g.size)
          (λ x _.
          elim (cases_eq x v)
          [ inl e ↦ ap p e ∙ and_left (adjacent g u v) _ a ∙ sym (ap q e ∙ and_left (adjacent g u v) _ a) | inr ne ↦ other x ne ]) in
          omega (arith, same, ap one_if a)
    ]

-- a list of the neighbours of a vertex has each of them once
pub neighbours-distinct : (g : SimpleGraph) (v : ℕ) (ws : List ℕ) → AreNeighbours g v ws → Distinct ws
neighbours-distinct g v ws h = Distinct-from_increasing ws h.ascending

-- the degree of a vertex
pub degree_is : (g : SimpleGraph) (v : ℕ) (ws : List ℕ) → AreNeighbours g v ws → length ws ≡ remaining g [] v
degree_is g v ws h =
    let all : count_by (adjacent g v) ws ≡ length ws = count-all (adjacent g v) ws (λ w m. sym (h.exact w) ∙ m) in
    let up : count_by (adjacent g v) ws ≤ count_by (adjacent g v) (below g.size) =
    count-le (adjacent g v) ws (below g.size) (neighbours-distinct g v ws h) (λ w m _. member-below w g.size (h.within w m)) in
    let down : count_by (adjacent g v) (below g.size) ≤ count_by (adjacent g v) ws =
    count-le (adjacent g v) (below g.size) ws (Distinct-below g.size) (λ w _ a. h.exact w ∙ a) in
    let same : count_by (adjacent g v) (below g.size) ≡ remaining g [] v =
    count-agree (adjacent g v) (λ w. adjacent g v w && not (member w [])) (below g.size) (λ w _. sym (and-true (adjacent g v w))) in
    omega (arith, all, up, down, same)
