-- Buckets of vertices: who stands where while vertices are taken.
use Rattle.std.proofs.Common.{◌≡◌, ◌≢◌, ◌≤◌, ◌<◌, ◌+◌, ℕ, max, Bool, true, false, cond, ◌&&◌, List, [], ◌∷◌, ◌++◌, length, set, replicate, eqb, ltb}
use Rattle.std.proofs.Common.{refl, sym, ◌∙◌, ap, subst, ◌⊎◌, inl, inr, arith, eq-eqb, eqb-true, ltb-true, lt-ltb, le-ltb, true≢false}
use Rattle.std.specs.List.{filter}
use Rattle.std.proofs.lemmas.Bool.{cases_Bool, cases_eq, cases_lt, false≢true, or_right, and_parts, and_from, and_right, eqb-false, or_cases, or_left}
use Rattle.std.proofs.lemmas.Bool.{false_from_ne_true, true_from_ne_false}
use Rattle.std.proofs.Math.Bool.{and-true}
use Rattle.kc_lists.specs.Lists.{member, Distinct}
use Rattle.kc_lists.proofs.Members.{member-append, member-append_left, member-append_right, append-not_member}
use Rattle.kc_lists.proofs.Counting.{member-push, member-push_left, member-push_cases, member-push_none, member-filter, filter-member, one_if}
use Rattle.kc_lists.proofs.Counting.{Distinct-filter, Distinct-push}
use Rattle.kc_graph.specs.SimpleGraph.{SimpleGraph, adjacent}
use Rattle.kc_graph.specs.Certificate.{Certifies}
use Rattle.kc_graph.specs.Neighbours.{AreNeighbours}
use Rattle.kc_graph.specs.Rows.{row}
use Rattle.kc_graph.specs.Peeling.{at, remaining, Filed, Peels, IsAboutToTake, work, Lowered, Files}
use Rattle.kc_graph.proofs.RowsLemmas.{row-replicate}
use Rattle.kc_graph.proofs.Buckets.{row-set_same, row-set_other, row_past}
use Rattle.kc_graph.proofs.PeelingLemmas.{peeling-starts, level-raised, take_one, peeling-finishes, remaining-taken, neighbours-distinct}
use Rattle.kc_lists.proofs.Shared.{Distinct-append}
use Rattle.kc_graph.proofs.Law.{adjacent-sym}

-- the first vertex of a bucket leaves it
pub record Popped (level v : ℕ) (old rows : List (List ℕ)) : Type 0 where
  pub here : row old level ≡ v ∷ row rows level
  pub others : (b : ℕ) → b ≢ level → row old b ≡ row rows b

-- one turn less
pub popped_work : (level v : ℕ) (core : List ℕ) (old rows : List (List ℕ)) → Popped level v old rows → work level core rows + 1 ≡ work level core old
popped_work level v core old rows p = omega (arith, ap length p.here)

-- the vertex that leaves a bucket stood in it
popped_member : (level v : ℕ) (old rows : List (List ℕ)) → Popped level v old rows → member v (row old level) ≡ true
popped_member level v old rows p = ap (member v) p.here ∙ or_left (eqb v v) (member v (row rows level)) (eq-eqb v v refl)

-- who comes out of a bucket has no greater number
pub popped_fits : (level v : ℕ) (core taken : List ℕ) (old rows : List (List ℕ)) → Filed core taken old → Popped level v old rows
    → (v < length core) × (at core v ≤ level)
popped_fits level v core taken old rows f p = f.fits level v (popped_member level v old rows p)

-- who comes out of the bucket of its number is not taken yet
popped_left : (level v : ℕ) (core taken : List ℕ) (old rows : List (List ℕ)) → Filed core taken old → Popped level v old rows
    → at core v ≡ level → member v taken ≡ false
popped_left level v core taken old rows f p here =
    false_from_ne_true (member v taken) (λ m. true≢false (sym (ap (λ b. member v (row old b)) here ∙ popped_member level v old rows p) ∙ f.gone v m))

-- those that are left stand in their buckets still, once one left the bucket of its number to be taken, or another one
filed_popped : (level v : ℕ) (core taken taken' : List ℕ) (old rows : List (List ℕ)) → Filed core taken old → Popped level v old rows
    → ((u : ℕ) → member u taken' ≡ false → (member u taken ≡ false) × (u ≡ v → at core u ≢ level))
    → ((u : ℕ) → member u taken' ≡ true → (member u taken ≡ true) ⊎ ((u ≡ v) × (at core u ≡ level)))
    → Filed core taken' rows
filed_popped level v core taken taken' old rows f p out in' = record {
  waits = λ u l new'.
      let k = out u new' in
      let was : member u (row old (at core u)) ≡ true = f.waits u l k.0 in
      elim (cases_eq (at core u) level) [
        | inl e ↦
            ap (λ b. member u (row rows b)) e
            ∙ elim (or_cases (eqb u v) (member u (row rows level)) (sym (ap (member u) p.here) ∙ (ap (λ b. member u (row old b)) (sym e) ∙ was))) [
              | inl d ↦ absurd (k.1 (eqb-true u v d) e)
              | inr m ↦ m
            ]
        | inr ne ↦ sym (ap (member u) (p.others (at core u) ne)) ∙ was
      ];
  gone = λ u now. elim (in' u now) [
    | inl m ↦
        let was : member u (row old (at core u)) ≡ false = f.gone u m in
        elim (cases_eq (at core u) level) [
          | inl e ↦
              ap (λ b. member u (row rows b)) e
              ∙ false_from_ne_true (member u (row rows level)) (λ m. true≢false (sym (or_right (eqb u v) (member u (row rows level)) m)
              ∙ (sym (ap (member u) p.here) ∙ (ap (λ b. member u (row old b)) (sym e) ∙ was))))
          | inr ne ↦ sym (ap (member u) (p.others (at core u) ne)) ∙ was
        ]
    | inr k ↦
        let alone : member v (row rows level) ≡ false = (subst Distinct p.here (f.once level)).0 in
        ap (λ b. member u (row rows b)) k.1 ∙ (ap (λ x. member x (row rows level)) k.0 ∙ alone)
  ];
  fits = λ b u m.
      let was : member u (row old b) ≡ true = elim (cases_eq b level) [
        | inl e ↦
            ap (λ j. member u (row old j)) e
            ∙ (ap (member u) p.here ∙ or_right (eqb u v) (member u (row rows level)) (ap (λ j. member u (row rows j)) (sym e) ∙ m))
        | inr ne ↦ ap (member u) (p.others b ne) ∙ m
      ] in
      f.fits b u was;
  once = λ b. elim (cases_eq b level) [
    | inl e ↦ subst (λ (j : ℕ). Distinct (row rows j)) (sym e) (subst Distinct p.here (f.once level)).1
    | inr ne ↦ subst Distinct (p.others b ne) (f.once b)
  ];
}

-- a vertex comes out of the bucket of its number, to be taken
pub popped_takes : (g : SimpleGraph) (level v : ℕ) (core taken : List ℕ) (old rows : List (List ℕ)) → Peels g level core taken old
    → Popped level v old rows → at core v ≡ level → IsAboutToTake g level v core taken rows
popped_takes g level v core taken old rows h p here = record {
  peeled = h.peeled;
  exact = h.exact;
  filed = filed_popped level v core taken (taken ++ v ∷ []) old rows h.filed p
      (λ u m. let k = member-push_none u v taken m in (k.0, λ e. absurd (eqb-false u v k.1 e)))
      (λ u m. elim (member-push_cases u v taken m) [ inl k ↦ inl k | inr e ↦ inr (e, ap (at core) e ∙ here) ]);
  vertex = let k = popped_fits level v core taken old rows h.filed p in omega (arith, k.0, h.peeled.one_each);
  left = popped_left level v core taken old rows h.filed p here;
  here = here;
}

-- a vertex that was taken before comes out of a bucket
pub popped_past : (g : SimpleGraph) (level v : ℕ) (core taken : List ℕ) (old rows : List (List ℕ)) → Peels g level core taken old
    → Popped level v old rows → (at core v ≡ level → ⊥) → Peels g level core taken rows
popped_past g level v core taken old rows h p past = record {
  peeled = h.peeled;
  exact = h.exact;
  filed = filed_popped level v core taken taken old rows h.filed p (λ u m. (m, λ e here. past (ap (at core) (sym e) ∙ here))) (λ u m. inl m);
}

-- who has more than `level` neighbours left stands in a bucket that is there
pub has_room : (level w : ℕ) (core taken : List ℕ) (rows : List (List ℕ)) → Filed core taken rows
    → ((u : ℕ) → member u taken ≡ true → at core u ≤ level) → w < length core → level < at core w → at core w < length rows
has_room level w core taken rows f done l up =
    let left : member w taken ≡ false = false_from_ne_true (member w taken) (λ m. let k : at core w ≤ level = done w m in absurd (omega arith)) in
    elim (cases_lt (at core w) (length rows)) [
      | inl lt ↦ lt
      | inr ge ↦ absurd (false≢true (sym (ap (member w) (row_past rows (at core w) ge)) ∙ f.waits w l left))
    ]

-- a number that is no higher than the level stays
pub lowered_low : (level u : ℕ) (ws core : List ℕ) (rows : List (List ℕ)) (core' : List ℕ) (rows' : List (List ℕ))
    → Lowered level ws core rows core' rows' → at core u ≤ level → at core u ≡ at core' u
lowered_low level u ws core rows core' rows' h low =
    let z : member u ws && ltb level (at core u) ≡ false = and_right (member u ws) _ (le-ltb level (at core u) low) in
    omega (arith, h.lowered u, ap one_if z)

-- those that are left stand in their buckets still, once some of them lost a neighbour
filed_lowered : (level : ℕ) (ws core taken : List ℕ) (rows : List (List ℕ)) (core' : List ℕ) (rows' : List (List ℕ))
    → Lowered level ws core rows core' rows' → Filed core taken rows
    → ((u : ℕ) → member u taken ≡ true → at core u ≤ level) → Distinct ws → ((w : ℕ) → member w ws ≡ true → w < length core) → Filed core' taken rows'
filed_lowered level ws core taken rows core' rows' h f done d within =
    let moved : ℕ → ℕ → Bool = λ b w. ltb level (at core w) && eqb (at core w) (b + 1) in
    record {
      waits = λ u l out. elim (cases_Bool (member u ws && ltb level (at core u))) [
        | inl t ↦
            let k = and_parts (member u ws) (ltb level (at core u)) t in
            let b : ℕ = at core' u in
            let e : at core u ≡ b + 1 = omega (arith, h.lowered u, ap one_if t) in
            ap (member u) (h.filed b)
            ∙ member-append_right u (row rows b) (filter (moved b) ws)
            (filter-member (moved b) u ws k.0 (and_from _ _ k.1 (eq-eqb (at core u) (b + 1) e)))
        | inr z ↦
            let e : at core u ≡ at core' u = omega (arith, h.lowered u, ap one_if z) in
            let was : member u (row rows (at core' u)) ≡ true = ap (λ b. member u (row rows b)) (sym e) ∙ f.waits u (omega (arith, l, h.one_each)) out in
            ap (member u) (h.filed (at core' u)) ∙ member-append_left u (row rows (at core' u)) (filter (moved (at core' u)) ws) was
      ];
      gone = λ u m.
          let low : at core u ≤ level = done u m in
          let e : at core u ≡ at core' u = lowered_low level u ws core rows core' rows' h low in
          let none : member u (filter (moved (at core' u)) ws) ≡ false = false_from_ne_true _
          (λ k.
          let p = and_parts (ltb level (at core u)) _ (member-filter (moved (at core' u)) u ws k).1 in
          let up : level < at core u = ltb-true level (at core u) p.0 in absurd (omega arith)) in
          ap (member u) (h.filed (at core' u))
          ∙ append-not_member u (row rows (at core' u)) (filter (moved (at core' u)) ws) (ap (λ b. member u (row rows b)) (sym e) ∙ f.gone u m) none;
      fits = λ b u m. elim (member-append u (row rows b) (filter (moved b) ws) (sym (ap (member u) (h.filed b)) ∙ m)) [
        | inl k ↦ let old = f.fits b u k in (omega (arith, old.0, h.one_each), omega (arith, old.1, h.lowered u))
        | inr k ↦
            let p = member-filter (moved b) u ws k in
            let q = and_parts (ltb level (at core u)) (eqb (at core u) (b + 1)) p.1 in
            let e : at core u ≡ b + 1 = eqb-true (at core u) (b + 1) q.1 in
            (omega (arith, within u p.0, h.one_each), omega (arith, h.lowered u, ap one_if (and_from _ _ p.0 q.0)))
      ];
      once = λ b. subst Distinct (sym (h.filed b))
          (Distinct-append (row rows b) (filter (moved b) ws) (f.once b) (Distinct-filter (moved b) ws d)
          (λ x m. false_from_ne_true _ (λ k.
          let q = and_parts (ltb level (at core x)) (eqb (at core x) (b + 1)) (member-filter (moved b) x ws k).1 in
          let e : at core x ≡ b + 1 = eqb-true (at core x) (b + 1) q.1 in
          absurd (omega (arith, (f.fits b x m).1)))));
    }

-- who is taken has no greater number
pub taken_low : (g : SimpleGraph) (level v : ℕ) (core taken : List ℕ) (rows : List (List ℕ)) → IsAboutToTake g level v core taken rows → (u : ℕ)
    → member u (taken ++ v ∷ []) ≡ true → at core u ≤ level
taken_low g level v core taken rows t u m = elim (member-push_cases u v taken m) [ inl k ↦ t.peeled.done u k | inr e ↦ omega (arith, t.here, ap (at core) e) ]

-- a vertex is taken, and its neighbours lose one
pub vertex-taken : (g : SimpleGraph) (level v : ℕ) (core taken ws : List ℕ) (rows : List (List ℕ)) (core' : List ℕ) (rows' : List (List ℕ))
    → IsAboutToTake g level v core taken rows → AreNeighbours g v ws
    → Lowered level ws core rows core' rows' → Peels g level core' (taken ++ v ∷ []) rows'
vertex-taken g level v core taken ws rows core' rows' t near h =
    let low : (u : ℕ) → at core u ≤ level → at core u ≡ at core' u = λ u. lowered_low level u ws core rows core' rows' h in
    record {
      peeled = take_one g level v core taken core' t.peeled t.vertex t.left (omega (arith, t.exact v t.vertex t.left, t.here))
          (record {
            one_each = h.one_each;
            taken_same = λ w m. sym (low w (t.peeled.done w m));
            here = sym (low v (omega (arith, t.here))) ∙ t.here;
            left = λ w lw out ne. elim (cases_lt level (at core w)) [
              | inl up ↦ elim (cases_Bool (member w ws && ltb level (at core w))) [
                | inl k ↦ omega (arith, h.lowered w, ap one_if k)
                | inr k ↦ omega (arith, h.lowered w, ap one_if k)
              ]
              | inr le ↦ omega (arith, low w le, t.peeled.open_ w lw out)
            ];
          });
      exact = λ u lu out.
          let k = member-push_none u v taken out in
          let was : at core u ≡ max (remaining g taken u) level = t.exact u lu k.0 in
          let fewer : remaining g taken u ≡ remaining g (taken ++ v ∷ []) u + cond (adjacent g u v) 1 0 = remaining-taken g taken u v t.vertex t.left in
          let same : member u ws ≡ adjacent g u v = near.exact u ∙ adjacent-sym g v u in
          elim (cases_lt level (at core u)) [
            | inl up ↦
                let d : at core u ≡ at core' u + cond (adjacent g u v) 1 0 =
                h.lowered u ∙ ap (λ b. at core' u + cond b 1 0) (ap (λ b. member u ws && b) (lt-ltb level (at core u) up) ∙ (and-true (member u ws) ∙ same)) in
                elim (cases_Bool (adjacent g u v)) [ inl a ↦ omega (arith, ap one_if a) | inr a ↦ omega (arith, ap one_if a) ]
            | inr le ↦ omega (arith, low u le)
          ];
      filed =
          filed_lowered level ws core (taken ++ v ∷ []) rows core' rows' h t.filed (taken_low g level v core taken rows t)
          (neighbours-distinct g v ws near) (λ w m. omega (arith, near.within w m, t.peeled.one_each));
    }

-- a bucket is empty, and the next level begins
pub next_level : (g : SimpleGraph) (level : ℕ) (core taken : List ℕ) (rows : List (List ℕ)) → Peels g level core taken rows
    → row rows level ≡ [] → Peels g (level + 1) core taken rows
next_level g level core taken rows h none =
    let up : (v : ℕ) → v < g.size → member v taken ≡ false → level < at core v = λ v l out. elim (cases_eq (at core v) level) [
      | inl e ↦
          absurd
          (false≢true
          (ap (member v) (sym none)
          ∙ (ap (λ b. member v (row rows b)) (sym e) ∙ h.filed.waits v (omega (arith, h.peeled.one_each)) out)))
      | inr ne ↦ omega (arith, h.peeled.open_ v l out)
    ] in
    record {
      peeled = level-raised g level core taken h.peeled (λ v l out. (up v l out, omega (arith, up v l out, h.exact v l out)));
      exact = λ v l out. omega (arith, up v l out, h.exact v l out);
      filed = h.filed;
    }

-- all levels are done
pub all_taken : (g : SimpleGraph) (level : ℕ) (core taken : List ℕ) (rows : List (List ℕ)) → Peels g level core taken rows
    → length rows ≤ level → Certifies g core taken
all_taken g level core taken rows h past =
    peeling-finishes g level core taken h.peeled (λ v l. true_from_ne_false (member v taken) (λ out.
    let high : level ≤ at core v = h.peeled.open_ v l out in
    absurd (false≢true (sym (ap (member v) (row_past rows (at core v) (omega arith))) ∙ h.filed.waits v (omega (arith, h.peeled.one_each)) out))))

-- empty buckets file none of the vertices
pub files_none : (degrees : List ℕ) (levels : ℕ) → Files degrees 0 (replicate levels [])
files_none degrees levels = record {
  waits = λ v l. absurd (omega arith);
  fits = λ b v m. absurd (false≢true (sym (ap (member v) (row-replicate levels b)) ∙ m));
  once = λ b. subst Distinct (sym (row-replicate levels b)) tt;
}

-- the next vertex, put at the end of the bucket of its degree, is filed too
pub files_more : (degrees : List ℕ) (v : ℕ) (rows : List (List ℕ)) → Files degrees v rows → at degrees v < length rows
    → Files degrees (v + 1) (set rows (at degrees v) (row rows (at degrees v) ++ v ∷ []))
files_more degrees v rows f fits =
    let b : ℕ = at degrees v in
    let more : List (List ℕ) = set rows b (row rows b ++ v ∷ []) in
    let here : row more b ≡ row rows b ++ v ∷ [] = row-set_same rows b (row rows b ++ v ∷ []) fits in
    let there : (j : ℕ) → j ≢ b → row more j ≡ row rows j = λ j ne. row-set_other rows b j (row rows b ++ v ∷ []) ne in
    record {
      waits = λ u lu. elim (cases_eq u v) [
        | inl e ↦
            ap (λ k. member u (row more k)) (ap (at degrees) e)
            ∙ (ap (member u) here ∙ (member-push u v (row rows b) ∙ or_right (member u (row rows b)) (eqb u v) (eq-eqb u v e)))
        | inr ne ↦
            let old : member u (row rows (at degrees u)) ≡ true = f.waits u (omega arith) in
            elim (cases_eq (at degrees u) b) [
              | inl d ↦
                  ap (λ k. member u (row more k)) d
                  ∙ (ap (member u) here ∙ member-push_left u v (row rows b) (ap (λ k. member u (row rows k)) (sym d) ∙ old))
              | inr nd ↦ ap (member u) (there (at degrees u) nd) ∙ old
            ]
      ];
      fits = λ j u m. elim (cases_eq j b) [
        | inl d ↦ elim (member-push_cases u v (row rows b) (sym (ap (member u) here) ∙ (ap (λ k. member u (row more k)) (sym d) ∙ m))) [
          | inl k ↦ let old = f.fits b u k in (omega (arith, old.0), old.1 ∙ sym d)
          | inr e ↦ (omega arith, ap (at degrees) e ∙ sym d)
        ]
        | inr nd ↦ let old = f.fits j u (sym (ap (member u) (there j nd)) ∙ m) in (omega (arith, old.0), old.1)
      ];
      once = λ j. elim (cases_eq j b) [
        | inl d ↦ subst (λ (k : ℕ). Distinct (row more k)) (sym d) (subst Distinct (sym here)
            (Distinct-push (row rows b) v (f.once b) (false_from_ne_true _ (λ m. let old = f.fits b v m in absurd (omega (arith, old.0))))))
        | inr nd ↦ subst Distinct (sym (there j nd)) (f.once j)
      ];
    }

-- with the degrees as numbers and each vertex in the bucket of its degree, the taking can begin
pub taking-begins : (g : SimpleGraph) (core : List ℕ) (rows : List (List ℕ)) → length core ≡ g.size
    → ((v : ℕ) → v < g.size → at core v ≡ remaining g [] v) → Files core (length core) rows → Peels g 0 core [] rows
taking-begins g core rows n each f = record {
  peeled = peeling-starts g core n;
  exact = λ v l _. omega (arith, each v l);
  filed = record {
    waits = λ v l _. f.waits v l;
    gone = λ v m. absurd (false≢true m);
    fits = λ b v m. let k = f.fits b v m in (k.0, omega (arith, k.1));
    once = f.once;
  };
}
