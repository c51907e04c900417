-- Levels of vertices, taken one after the other, with core numbers that are known.
use Rattle.std.proofs.Common.{◌≡◌, ◌≤◌, ◌<◌, ◌+◌, ℕ, max, Bool, true, false, cond, not, ◌&&◌, List, [], ◌∷◌, ◌++◌, length, get_or, set, eqb, leb, ltb}
use Rattle.std.proofs.Common.{refl, sym, ◌∙◌, ap, subst, inl, inr, arith, le_trans, leb-true, le-leb, lt-ltb, le-ltb, eq-eqb, eqb-true, append-nil}
use Rattle.std.proofs.Common.{length-set, true≢false}
use Rattle.std.specs.Prelude.{count_by}
use Rattle.std.specs.List.{filter}
use Rattle.std.proofs.lemmas.Bool.{cases_Bool, cases_eq, cases_lt, and_from, and_left, and_parts, and_right, eqb-false, false≢true}
use Rattle.std.proofs.lemmas.Bool.{false_from_ne_true, true_from_ne_false, not_from_false, not-true, or_right}
use Rattle.std.proofs.lemmas.List.Elements.{All-contains}
use Rattle.std.proofs.Math.Bool.{and-true}
use Rattle.kc_lists.specs.Lists.{Distinct, below, member}
use Rattle.kc_lists.proofs.Members.{member-append, member-append_left, member-append_right, Distinct-cut}
use Rattle.kc_lists.proofs.Counting.{Contains-from_member, count-agree, count-filter, count-le, count-mono, Distinct-below, Distinct-filter, one_if}
use Rattle.kc_lists.proofs.Counting.{Distinct-from_pairs, Distinct-push, filter-member, below-member, member-below, member-filter, member-get_or}
use Rattle.kc_lists.proofs.Counting.{member-push, member-push_cases, member-push_left, member-push_none, pairs_from_Distinct}
use Rattle.kc_lists.proofs.Shared.{Distinct-append}
use Rattle.kc_graph.specs.SimpleGraph.{SimpleGraph, adjacent, degree_among}
use Rattle.kc_graph.specs.Core.{AreCoreNumbers, HasMinDegree, IsInCore}
use Rattle.kc_graph.specs.Certificate.{Certifies}
use Rattle.kc_graph.specs.Neighbours.{AreNeighbours}
use Rattle.kc_graph.specs.Rows.{row}
use Rattle.kc_graph.specs.Peeling.{at, as_high, remaining}
use Rattle.kc_graph.proofs.Law.{adjacent-sym}
use Rattle.kc_graph.proofs.PeelingLemmas.{peeling-starts, level-raised, take_one, peeling-finishes, remaining-taken, neighbours-distinct}
use Rattle.kc_graph.proofs.Buckets.{row-set_same, row-set_other}
use Rattle.kc_hindex.specs.Rounds.{HasRound}
use Rattle.kc_hindex.specs.Ordering.{IsNext, Orders, Released, Sorted}
use Rattle.kc_hindex.proofs.Releasing.{joins}

-- a vertex has at least as many neighbours that are as high as its core number
pub vertex-supported : (g : SimpleGraph) (core : List ℕ) → AreCoreNumbers g core → (v : ℕ) → v < g.size → at core v ≤ as_high g core (at core v) v
vertex-supported g core numbers v l =
    let k : ℕ = at core v in
    let in' : IsInCore g k v = (numbers.each v l).reached in
    let members : List ℕ = in'.0 in
    let dense : HasMinDegree g k members = in'.1 in
    let vertex : (w : ℕ) → member w members ≡ true → w < g.size =
    λ w m. All-contains (λ x. x < g.size) members w dense.vertices (Contains-from_member members w m) in
    let up : (w : ℕ) → member w members ≡ true → k ≤ at core w =
    λ w m. (numbers.each w (vertex w m)).greatest k (members, dense, Contains-from_member members w m) in
    let some : k ≤ degree_among g members v = All-contains (λ w. k ≤ degree_among g members w) members v dense.degrees in'.2 in
    let high : ℕ → Bool = λ w. adjacent g v w && leb k (at core w) in
    let among : degree_among g members v ≤ count_by high members =
    count-mono (adjacent g v) high members (λ w m a. and_from _ _ a (le-leb k (at core w) (up w m))) in
    let all : count_by high members ≤ count_by high (below g.size) =
    count-le high members (below g.size) (Distinct-from_pairs members dense.distinct) (λ w m _. member-below w g.size (vertex w m)) in
    le_trans some (le_trans among all)

-- a vertex has at least as many neighbours as its core number
pub few_enough : (g : SimpleGraph) (core : List ℕ) → AreCoreNumbers g core → (v : ℕ) → v < g.size → at core v ≤ remaining g [] v
few_enough g core numbers v l =
    let high : at core v ≤ as_high g core (at core v) v = vertex-supported g core numbers v l in
    let all : as_high g core (at core v) v ≤ remaining g [] v =
    count-mono (λ w. adjacent g v w && leb (at core v) (at core w)) (λ w. adjacent g v w && not (member w [])) (below g.size)
    (λ w _ t. and_from _ _ (and_parts (adjacent g v w) (leb (at core v) (at core w)) t).0 refl) in
    le_trans high all

-- no vertex is taken yet, and those wait that have no more neighbours than their core number
pub taking-begins : (g : SimpleGraph) (core left : List ℕ) (waiting : List (List ℕ)) → AreCoreNumbers g core → HasRound g 0 left
    → Sorted core left g.size waiting → Orders g core 0 left [] waiting
taking-begins g core left waiting numbers degrees s = record {
  peeled = peeling-starts g core numbers.one_each;
  rest = record {
    one_each = degrees.one_each;
    counted = λ v l.
        let enough : at core v ≤ remaining g [] v = few_enough g core numbers v l in
        let all : degree_among g (below g.size) v ≡ remaining g [] v =
        count-agree (adjacent g v) (λ w. adjacent g v w && not (member w [])) (below g.size) (λ w _. sym (and-true (adjacent g v w))) in
        omega (arith, degrees.each v l, all, enough);
    gone = λ v m. absurd (false≢true m);
    waits = λ v l _ e. s.waits v l e;
    fits = λ b v m. let k = s.fits b v m in (k.0, k.1, k.2, refl);
    once = s.once;
  };
}

-- who comes last out of the row of a level is the next
pub popped_next : (g : SimpleGraph) (core : List ℕ) (level v : ℕ) (left taken : List ℕ) (old rows : List (List ℕ)) → Orders g core level left taken old
    → old ≡ set rows level (row rows level ++ v ∷ []) → level < length old → IsNext g core level v left taken rows
popped_next g core level v left taken old rows h e l =
    let longer : List ℕ = row rows level ++ v ∷ [] in
    let one_each : length old ≡ length rows = ap length e ∙ length-set rows level longer in
    let here : row old level ≡ longer = ap (λ t. row t level) e ∙ row-set_same rows level longer (omega (arith, one_each, l)) in
    let in' : member v (row old level) ≡ true =
    ap (member v) here ∙ (member-push v v (row rows level) ∙ or_right (member v (row rows level)) (eqb v v) (eq-eqb v v refl)) in
    let k = h.rest.fits level v in' in
    record {
      peeled = h.peeled;
      vertex = k.0;
      here = k.1;
      few = k.2;
      untaken = k.3;
      before = old;
      rest = h.rest;
      popped = here;
      others = λ b ne. ap (λ t. row t b) e ∙ row-set_other rows level b longer ne;
    }

module _ (g : SimpleGraph) (core : List ℕ) (level v : ℕ) (left taken : List ℕ) (rows : List (List ℕ)) (t : IsNext g core level v left taken rows) where
  -- `v` has left its row
  out-of_row : (b : ℕ) → member v (row rows b) ≡ false
  out-of_row b = elim (cases_eq b level) [
    | inl e ↦ ap (λ j. member v (row rows j)) e ∙ (Distinct-cut v (row rows level) [] (subst Distinct t.popped (t.rest.once level))).0
    | inr ne ↦ false_from_ne_true _ (λ m. let k = t.rest.fits b v (ap (member v) (t.others b ne) ∙ m) in absurd (ne (sym k.1 ∙ t.here)))
  ]

  -- who waits now waited before
  was-in_row : (b u : ℕ) → member u (row rows b) ≡ true → member u (row t.before b) ≡ true
  was-in_row b u m = elim (cases_eq b level) [
    | inl e ↦
        ap (λ j. member u (row t.before j)) e
        ∙ (ap (member u) t.popped ∙ member-push_left u v (row rows level) (ap (λ j. member u (row rows j)) (sym e) ∙ m))
    | inr ne ↦ ap (member u) (t.others b ne) ∙ m
  ]

  -- who waited before waits now, but for `v`
  still-in_row : (b u : ℕ) → (u ≡ v → ⊥) → member u (row t.before b) ≡ true → member u (row rows b) ≡ true
  still-in_row b u ne m = elim (cases_eq b level) [
    | inl e ↦
        ap (λ j. member u (row rows j)) e
        ∙ elim (member-push_cases u v (row rows level) (sym (ap (member u) t.popped) ∙ (ap (λ j. member u (row t.before j)) (sym e) ∙ m)))
        [ inl k ↦ k | inr d ↦ absurd (ne d) ]
    | inr other ↦ sym (ap (member u) (t.others b other)) ∙ m
  ]

  -- each row has a vertex once
  row-once : (b : ℕ) → Distinct (row rows b)
  row-once b = elim (cases_eq b level) [
    | inl e ↦ subst (λ (j : ℕ). Distinct (row rows j)) (sym e)
        (subst Distinct (append-nil (row rows level)) (Distinct-cut v (row rows level) [] (subst Distinct t.popped (t.rest.once level))).2)
    | inr ne ↦ subst Distinct (t.others b ne) (t.rest.once b)
  ]

  -- `v` is taken, and its neighbours lose one
  pub vertex-taken : (ws left' : List ℕ) (rows' : List (List ℕ)) → AreNeighbours g v ws → Released core ws left rows left' rows'
      → Orders g core level left' (taken ++ v ∷ []) rows'
  vertex-taken ws left' rows' near h =
      let kept : (u : ℕ) → at left u ≤ at core u → at left' u ≡ at left u = λ u low.
      let z : member u ws && ltb (at core u) (at left u) ≡ false = and_right (member u ws) _ (le-ltb (at core u) (at left u) low) in
      omega (arith, h.lowered u, ap one_if z) in
      record {
        peeled = take_one g level v core taken core t.peeled t.vertex t.untaken (omega (arith, t.rest.counted v t.vertex, t.few, t.here))
            (record { one_each = refl; taken_same = λ w _. refl; here = t.here; left = λ w lw out ne. t.peeled.open_ w lw out });
        rest = record {
          one_each = h.one_each ∙ t.rest.one_each;
          counted = λ u lu.
              let was : at left u ≡ max (remaining g taken u) (at core u) = t.rest.counted u lu in
              let fewer : remaining g taken u ≡ remaining g (taken ++ v ∷ []) u + cond (adjacent g u v) 1 0 = remaining-taken g taken u v t.vertex t.untaken in
              let same : member u ws ≡ adjacent g u v = near.exact u ∙ adjacent-sym g v u in
              let lost : at left u ≡ at left' u + cond (adjacent g u v && ltb (at core u) (at left u)) 1 0 =
              h.lowered u ∙ ap (λ b. at left' u + cond (b && ltb (at core u) (at left u)) 1 0) same in
              elim (cases_Bool (adjacent g u v)) [
                | inl a ↦ elim (cases_lt (at core u) (at left u)) [
                  | inl up ↦
                      omega (
                        arith,
                        was,
                        fewer,
                        lost,
                        ap one_if a,
                        ap one_if (and_from (adjacent g u v) (ltb (at core u) (at left u)) a (lt-ltb (at core u) (at left u) up)),
                      )
                  | inr low ↦ omega (arith, was, fewer, ap one_if a, kept u low)
                ]
                | inr a ↦ omega (arith, was, fewer, lost, ap one_if a, ap one_if (and_left (adjacent g u v) (ltb (at core u) (at left u)) a))
              ];
          gone = λ u m. elim (member-push_cases u v taken m) [
            | inl in' ↦ let e : at left u ≡ at core u = t.rest.gone u in' in omega (arith, e, kept u (omega (arith, e)))
            | inr e ↦
                let f : at left u ≡ at core u = ap (at left) e ∙ t.few ∙ sym (ap (at core) e) in
                omega (arith, f, kept u (omega (arith, f)))
          ];
          waits = λ u lu out e.
              let k = member-push_none u v taken out in
              elim (cases_lt (at core u) (at left u)) [
                | inl up ↦
                    let d : at left u ≡ at left' u + cond (member u ws && ltb (at core u) (at left u)) 1 0 = h.lowered u in
                    elim (cases_Bool (member u ws && ltb (at core u) (at left u))) [
                      | inl b ↦
                          let one : at left u ≡ at core u + 1 = omega (arith, d, ap one_if b, e) in
                          let joined : member u (filter (joins core left (at core u)) ws) ≡ true =
                          filter-member (joins core left (at core u)) u ws (and_parts (member u ws) _ b).0
                          (and_from _ _ (eq-eqb (at core u) (at core u) refl) (eq-eqb (at left u) (at core u + 1) one)) in
                          ap (member u) (h.filed (at core u)) ∙ member-append_right u (row rows (at core u)) (filter (joins core left (at core u)) ws) joined
                      | inr b ↦ absurd (omega (arith, d, ap one_if b, e, up))
                    ]
                | inr low ↦
                    let same : at left u ≡ at core u = omega (arith, kept u low, e) in
                    let in' : member u (row t.before (at core u)) ≡ true = t.rest.waits u lu k.0 same in
                    ap (member u) (h.filed (at core u))
                    ∙ member-append_left u (row rows (at core u)) (filter (joins core left (at core u)) ws)
                    (still-in_row (at core u) u (eqb-false u v k.1) in')
              ];
          fits = λ b u m. elim (member-append u (row rows b) (filter (joins core left b) ws) (sym (ap (member u) (h.filed b)) ∙ m)) [
            | inl k ↦
                let old = t.rest.fits b u (was-in_row b u k) in
                let other : u ≡ v → ⊥ = λ e. true≢false (sym k ∙ (ap (λ x. member x (row rows b)) e ∙ out-of_row b)) in (
                  old.0,
                  old.1,
                  omega (arith, old.2, kept u (omega (arith, old.2))),
                  false_from_ne_true _
                      (λ in'.
                      elim (member-push_cases u v taken in') [ inl w ↦ absurd (true≢false (sym w ∙ old.3)) | inr e ↦ absurd (other e) ]),
                )
            | inr k ↦
                let p = member-filter (joins core left b) u ws k in
                let q = and_parts (eqb (at core u) b) (eqb (at left u) (b + 1)) p.1 in
                let c : at core u ≡ b = eqb-true (at core u) b q.0 in
                let l : at left u ≡ b + 1 = eqb-true (at left u) (b + 1) q.1 in
                let t' : member u ws && ltb (at core u) (at left u) ≡ true = and_from _ _ p.0 (lt-ltb (at core u) (at left u) (omega (arith, c, l))) in (
                  near.within u p.0,
                  c,
                  omega (arith, h.lowered u, ap one_if t', c, l),
                  false_from_ne_true _ (λ in'. elim (member-push_cases u v taken in') [
                    | inl w ↦ absurd (omega (arith, t.rest.gone u w, c, l))
                    | inr e ↦ absurd (omega (arith, ap (at left) e, ap (at core) e, t.few, c, l))
                  ]),
                )
          ];
          once = λ b. subst Distinct (sym (h.filed b))
              (Distinct-append (row rows b) (filter (joins core left b) ws) (row-once b)
              (Distinct-filter (joins core left b) ws (neighbours-distinct g v ws near))
              (λ x m. false_from_ne_true _ (λ k.
              let q = and_parts (eqb (at core x) b) (eqb (at left x) (b + 1)) (member-filter (joins core left b) x ws k).1 in
              let old = t.rest.fits b x (was-in_row b x m) in
              absurd (omega (arith, old.1, old.2, eqb-true (at left x) (b + 1) q.1)))));
        };
      }

-- Where none of a level waits, none of it is left: those that are left would each have more neighbours among them than the level.
pub next_level : (g : SimpleGraph) (core : List ℕ) (level : ℕ) (left taken : List ℕ) (rows : List (List ℕ)) → AreCoreNumbers g core
    → Orders g core level left taken rows → row rows level ≡ []
    → Orders g core (level + 1) left taken rows
next_level g core level left taken rows numbers h none =
    let untaken : ℕ → Bool = λ w. not (member w taken) in
    let members : List ℕ = filter untaken (below g.size) in
    let many : (u : ℕ) → u < g.size → member u taken ≡ false → level < remaining g taken u = λ u lu out.
    let open' : level ≤ at core u = h.peeled.open_ u lu out in
    elim (cases_lt level (at core u)) [
      | inl up ↦
          let high : at core u ≤ as_high g core (at core u) u = vertex-supported g core numbers u lu in
          let left' : as_high g core (at core u) u ≤ remaining g taken u =
          count-mono (λ w. adjacent g u w && leb (at core u) (at core w)) (λ w. adjacent g u w && not (member w taken)) (below g.size)
          (λ w _ a. let p = and_parts (adjacent g u w) (leb (at core u) (at core w)) a in
          and_from _ _ p.0 (not_from_false _
          (false_from_ne_true (member w taken)
          (λ m. absurd (omega (arith, h.peeled.done w m, leb-true (at core u) (at core w) p.1, up)))))) in
          omega (arith, high, left', up)
      | inr low ↦
          let e : at core u ≡ level = omega (arith, open', low) in
          elim (cases_eq (at left u) (at core u)) [
            | inl few ↦ absurd (false≢true (ap (member u) (sym none) ∙ (ap (λ b. member u (row rows b)) (sym e) ∙ h.rest.waits u lu out few)))
            | inr ne ↦ omega (arith, h.rest.counted u lu, e, ne)
          ]
    ] in
    let dense : HasMinDegree g (level + 1) members = record {
      vertices = λ i d l. below-member (get_or members i d) g.size (member-filter untaken (get_or members i d) (below g.size) (member-get_or members i d l)).0;
      distinct = pairs_from_Distinct members (Distinct-filter untaken (below g.size) (Distinct-below g.size));
      degrees = λ i d l.
          let u : ℕ = get_or members i d in
          let m = member-filter untaken u (below g.size) (member-get_or members i d l) in
          let more : level < remaining g taken u = many u (below-member u g.size m.0) (not-true (member u taken) m.1) in
          let among : remaining g taken u ≤ degree_among g members u = count-filter untaken (adjacent g u) (λ w. adjacent g u w && not (member w taken))
          (λ w a. let p = and_parts (adjacent g u w) (not (member w taken)) a in (p.1, p.0)) (below g.size) in
          omega (arith, more, among);
    } in
    let above : (v : ℕ) → v < g.size → member v taken ≡ false → level < at core v = λ v l out.
    let in' : member v members ≡ true = filter-member untaken v (below g.size) (member-below v g.size l) (not_from_false (member v taken) out) in
    let up : level + 1 ≤ at core v = (numbers.each v l).greatest (level + 1) (members, dense, Contains-from_member members v in') in
    omega (arith, up) in
    record { peeled = level-raised g level core taken h.peeled (λ v l out. (above v l out, many v l out)); rest = h.rest }

-- all levels are done
pub all_taken : (g : SimpleGraph) (core : List ℕ) (levels : ℕ) (left taken : List ℕ) (rows : List (List ℕ))
    → Orders g core levels left taken rows → ((v : ℕ) → v < g.size → at core v < levels)
    → Certifies g core taken
all_taken g core levels left taken rows h within =
    peeling-finishes g levels core taken h.peeled
    (λ v l. true_from_ne_false (member v taken) (λ out. absurd (omega (arith, h.peeled.open_ v l out, within v l))))

-- none of the first 0 vertices waits
pub sorted_none : (core left : List ℕ) (rows : List (List ℕ)) → ((b : ℕ) → row rows b ≡ []) → Sorted core left 0 rows
sorted_none core left rows empty = record {
  waits = λ v l. absurd (omega arith);
  fits = λ b v m. absurd (false≢true (sym (ap (member v) (empty b)) ∙ m));
  once = λ b. subst Distinct (sym (empty b)) tt;
}

-- one vertex more, which has more neighbours than its core number
pub sorted_pass : (core left : List ℕ) (v : ℕ) (rows : List (List ℕ)) → Sorted core left v rows → (at left v ≡ at core v → ⊥) → Sorted core left (v + 1) rows
sorted_pass core left v rows s ne = record {
  waits = λ u l e. elim (cases_eq u v) [ inl d ↦ absurd (ne (sym (ap (at left) d) ∙ e ∙ ap (at core) d)) | inr other ↦ s.waits u (omega arith) e ];
  fits = λ b u m. let k = s.fits b u m in (omega (arith, k.0), k.1, k.2);
  once = s.once;
}

-- one vertex more, which waits
pub sorted_more : (core left : List ℕ) (v : ℕ) (rows : List (List ℕ)) → Sorted core left v rows → at left v ≡ at core v → at core v < length rows
    → Sorted core left (v + 1) (set rows (at core v) (row rows (at core v) ++ v ∷ []))
sorted_more core left v rows s few room =
    let b : ℕ = at core v in
    let more : List (List ℕ) = set rows b (row rows b ++ v ∷ []) in
    let here : row more b ≡ row rows b ++ v ∷ [] = row-set_same rows b (row rows b ++ v ∷ []) room in
    let there : (j : ℕ) → (j ≡ b → ⊥) → row more j ≡ row rows j = λ j ne. row-set_other rows b j (row rows b ++ v ∷ []) ne in
    record {
      waits = λ u lu e. elim (cases_eq u v) [
        | inl d ↦
            ap (λ k. member u (row more k)) (ap (at core) d)
            ∙ (ap (member u) here ∙ (member-push u v (row rows b) ∙ or_right (member u (row rows b)) (eqb u v) (eq-eqb u v d)))
        | inr ne ↦
            let old : member u (row rows (at core u)) ≡ true = s.waits u (omega arith) e in
            elim (cases_eq (at core u) b) [
              | inl d ↦
                  ap (λ k. member u (row more k)) d
                  ∙ (ap (member u) here ∙ member-push_left u v (row rows b) (ap (λ k. member u (row rows k)) (sym d) ∙ old))
              | inr nd ↦ ap (member u) (there (at core u) nd) ∙ old
            ]
      ];
      fits = λ j u m. elim (cases_eq j b) [
        | inl d ↦ elim (member-push_cases u v (row rows b) (sym (ap (member u) here) ∙ (ap (λ k. member u (row more k)) (sym d) ∙ m))) [
          | inl k ↦ let old = s.fits b u k in (omega (arith, old.0), old.1 ∙ sym d, old.2)
          | inr e ↦ (omega (arith, e), ap (at core) e ∙ sym d, ap (at left) e ∙ few ∙ sym (ap (at core) e))
        ]
        | inr nd ↦ let old = s.fits j u (sym (ap (member u) (there j nd)) ∙ m) in (omega (arith, old.0), old.1, old.2)
      ];
      once = λ j. elim (cases_eq j b) [
        | inl d ↦ subst (λ (k : ℕ). Distinct (row more k)) (sym d) (subst Distinct (sym here)
            (Distinct-push (row rows b) v (s.once b) (false_from_ne_true _ (λ m. let old = s.fits b v m in absurd (omega (arith, old.0))))))
        | inr nd ↦ subst Distinct (sym (there j nd)) (s.once j)
      ];
    }
