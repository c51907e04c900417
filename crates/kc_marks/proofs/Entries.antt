-- The entries of a map: where the one of a vertex stands, and what becomes of all when one is changed or comes.
use Rattle.std.proofs.Common.{◌≡◌, ◌≢◌, ◌≤◌, ◌<◌, ◌+◌, ◌-◌, ℕ, zero, suc, Bool, true, false, cond, List, [], ◌∷◌, ◌++◌, length, drop, get_or, set}
use Rattle.std.proofs.Common.{refl, sym, ◌∙◌, ap, subst, arith, eqb, eqb-true, eq-eqb, ne_eqb, inl, inr}
use Rattle.std.specs.Prelude.{Some, None}
use Rattle.std.proofs.lemmas.Bool.{cases_Bool, cases_eq}
use Rattle.std.proofs.lemmas.List.{drop_more}
use Rattle.std.proofs.lemmas.Option.{none-some}
use Rattle.kc_marks.specs.Maps.{VertexMap, ValuesOne, number_in, one_on, value_of}
use Rattle.kc_marks.specs.declared.map.VertexEntry.{VertexEntry}

-- what has no place further on has none
one_on-zero : (n : ℕ) → one_on n ≡ 0 → n ≡ 0
one_on-zero zero h = refl
one_on-zero (suc n) h = absurd (omega (arith, h))

-- what has a place further on has the one before
one_on-suc : (n i : ℕ) → one_on n ≡ suc i → (k : ℕ) × (i ≡ suc k) × (n ≡ suc k)
one_on-suc zero i h = absurd (omega (arith, h))
one_on-suc (suc n) i h = (n, omega (arith, h), refl)

-- a place further on is at most one greater
one_on-most : (n k : ℕ) → n ≤ k → one_on n ≤ suc k
one_on-most zero k l = omega arith
one_on-most (suc n) k l = omega (arith, l)

-- a place so many further on, where there is one
abbrev pub on_by : ℕ → ℕ → ℕ
on_by i zero = 0
on_by i (suc n) = i + suc n

-- of a place one further on, it is that of one more
on_by-one_on : (i n : ℕ) → on_by i (one_on n) ≡ on_by (i + 1) n
on_by-one_on i zero = refl
on_by-one_on i (suc n) = ap (on_by i) {x = n + 2} {y = suc (n + 1)} (omega arith) ∙ omega arith

-- a number that is not 0 counts from 1
counted : (n r : ℕ) → r ≡ n → (r ≡ 0 → ⊥) → n ≡ suc (r - 1)
counted n zero e ne = absurd (ne refl)
counted n (suc r) e ne = omega (arith, e)

module _ {V : Type 0} where
  -- where the entry of a vertex stands that has a number, which was told of the entries as contracts see them
  pub placed : {m seen : VertexMap V} (y r : ℕ) → m ≡ seen → r ≡ number_in seen y → (r ≡ 0 → ⊥) → number_in m y ≡ suc (r - 1)
  placed {m} {seen} y r same is ne = counted (number_in m y) r (is ∙ ap (λ (l : VertexMap V). number_in l y) (sym same)) ne

  -- an entry that is not the first has the place before among those after the first
  further : (e : VertexEntry V) (m : VertexMap V) (y i : ℕ) → eqb y e.vertex ≡ false → number_in (e ∷ m) y ≡ suc i
      → (k : ℕ) × (i ≡ suc k) × (number_in m y ≡ suc k)
  further e m y i f h = one_on-suc (number_in m y) i (sym (ap (λ b. cond b 1 (one_on (number_in m y))) f) ∙ h)

  -- no place is behind the last entry
  pub number-most : (m : VertexMap V) (y : ℕ) → number_in m y ≤ length m
  number-most [] y = omega arith
  number-most (e ∷ m) y = elim (cases_Bool (eqb y e.vertex)) [
    | inl t ↦
        let first : number_in (e ∷ m) y ≡ 1 = ap (λ b. cond b 1 (one_on (number_in m y))) t in
        omega (arith, first)
    | inr f ↦
        let on : number_in (e ∷ m) y ≡ one_on (number_in m y) = ap (λ b. cond b 1 (one_on (number_in m y))) f in
        omega (arith, on, one_on-most (number_in m y) (length m) (number-most m y))
  ]

  -- the place of an entry, told by what comes from a place on: the one that stands there has the place, or it is one further on
  number-from : (m : VertexMap V) (y i : ℕ) (d : VertexEntry V) → i < length m
      → on_by i (number_in (drop i m) y) ≡ cond (eqb y (get_or m i d).vertex) (i + 1) (on_by (i + 1) (number_in (drop (i + 1) m) y))
  number-from m y i d within =
      let rest : ℕ = number_in (drop (i + 1) m) y in
      let from : number_in (drop i m) y ≡ cond (eqb y (get_or m i d).vertex) 1 (one_on rest) =
      ap (λ (l : VertexMap V). number_in l y) (drop_more m i d within) in
      ap (on_by i) from
      ∙ elim (eqb y (get_or m i d).vertex) as (λ b. on_by i (cond b 1 (one_on rest)) ≡ cond b (i + 1) (on_by (i + 1) rest)) [
        | true ↦ omega arith
        | false ↦ on_by-one_on i rest
      ]

  -- numbers that tell the entries behind one tell those from it on, once its vertex has its place
  pub numbers-from : (m : VertexMap V) (i next : ℕ) (d : VertexEntry V) (old new : ℕ → ℕ) → i < length m → next ≡ i + 1
      → ((z : ℕ) → old z ≡ on_by next (number_in (drop next m) z)) → new (get_or m i d).vertex ≡ i + 1
      → ((z : ℕ) → z ≢ (get_or m i d).vertex → new z ≡ old z) → (z : ℕ) → new z ≡ on_by i (number_in (drop i m) z)
  numbers-from m i next d old new within after was here others z =
      let first : Bool → ℕ = λ b. cond b (i + 1) (on_by (i + 1) (number_in (drop (i + 1) m) z)) in
      let at : ℕ = (get_or m i d).vertex in
      elim (cases_eq z at) [
        | inl e ↦ ap new e ∙ (here ∙ ap first (sym (eq-eqb z at e)))
        | inr ne ↦ others z ne ∙ (was z ∙ (ap (λ (j : ℕ). on_by j (number_in (drop j m) z)) after ∙ ap first (sym (ne_eqb z at ne))))
      ]
      ∙ sym (number-from m z i d within)

  -- a vertex without an entry has no value
  pub no-value : (m : VertexMap V) (y : ℕ) → number_in m y ≡ 0 → value_of m y ≡ None
  no-value [] y h = refl
  no-value (e ∷ m) y h = elim (eqb y e.vertex) as (λ b. cond b 1 (one_on (number_in m y)) ≡ 0 → cond b (Some e.value) (value_of m y) ≡ None) [
    | true ↦ λ k. absurd (omega (arith, k))
    | false ↦ λ k. no-value m y (one_on-zero (number_in m y) k)
  ] h

  -- a vertex without a value has no entry
  no-number : (m : VertexMap V) (y : ℕ) → value_of m y ≡ None → number_in m y ≡ 0
  no-number [] y h = refl
  no-number (e ∷ m) y h = elim (eqb y e.vertex) as (λ b. cond b (Some e.value) (value_of m y) ≡ None → cond b 1 (one_on (number_in m y)) ≡ 0) [
    | true ↦ λ k. absurd (none-some e.value (sym k))
    | false ↦ λ k. ap one_on (no-number m y k)
  ] h

  -- the entry of a vertex has its value
  pub value-at : (m : VertexMap V) (y i : ℕ) (d : VertexEntry V) → number_in m y ≡ suc i → value_of m y ≡ Some (get_or m i d).value
  value-at [] y i d h = absurd (omega (arith, h))
  value-at (e ∷ m) y i d h =
      elim (eqb y e.vertex) as (λ b. cond b 1 (one_on (number_in m y)) ≡ suc i → cond b (Some e.value) (value_of m y) ≡ Some (get_or (e ∷ m) i d).value) [
        | true ↦ λ k. ap (λ (j : ℕ). Some (get_or (e ∷ m) j d).value) {x = 0} {y = i} (omega (arith, k))
        | false ↦ λ k.
            let on = one_on-suc (number_in m y) i k in
            value-at m y on.0 d on.2 ∙ ap (λ (j : ℕ). Some (get_or (e ∷ m) j d).value) (sym on.1)
      ] h

  -- and is that vertex's
  vertex-at : (m : VertexMap V) (y i : ℕ) (d : VertexEntry V) → number_in m y ≡ suc i → (get_or m i d).vertex ≡ y
  vertex-at [] y i d h = absurd (omega (arith, h))
  vertex-at (e ∷ m) y i d h = elim (cases_Bool (eqb y e.vertex)) [
    | inl t ↦
        ap (λ (j : ℕ). (get_or (e ∷ m) j d).vertex) {x = i} {y = 0} (omega (arith, h, ap (λ b. cond b 1 (one_on (number_in m y))) t))
        ∙ sym (eqb-true y e.vertex t)
    | inr f ↦
        let on = further e m y i f h in
        ap (λ (j : ℕ). (get_or (e ∷ m) j d).vertex) on.1 ∙ vertex-at m y on.0 d on.2
  ]

  -- the entry of y with this value
  abbrev pub entry_of : ℕ → V → VertexEntry V
  entry_of y v = record { vertex = y; value = v }

  -- with another value in the entry of y, each entry keeps its place
  number-set : (m : VertexMap V) (y i : ℕ) (v : V) → number_in m y ≡ suc i → (z : ℕ) → number_in (set m i (entry_of y v)) z ≡ number_in m z
  number-set [] y i v h z = absurd (omega (arith, h))
  number-set (e ∷ m) y i v h z = elim (cases_Bool (eqb y e.vertex)) [
    | inl t ↦
        ap (λ (j : ℕ). number_in (set (e ∷ m) j (entry_of y v)) z) {x = i} {y = 0} (omega (arith, h, ap (λ b. cond b 1 (one_on (number_in m y))) t))
        ∙ ap (λ (x : ℕ). cond (eqb z x) 1 (one_on (number_in m z))) (eqb-true y e.vertex t)
    | inr f ↦
        let on = further e m y i f h in
        ap (λ (j : ℕ). number_in (set (e ∷ m) j (entry_of y v)) z) on.1
        ∙ ap (λ n. cond (eqb z e.vertex) 1 (one_on n)) (number-set m y on.0 v on.2 z)
  ]

  -- and y has that value
  value-set-here : (m : VertexMap V) (y i : ℕ) (v : V) → number_in m y ≡ suc i → value_of (set m i (entry_of y v)) y ≡ Some v
  value-set-here [] y i v h = absurd (omega (arith, h))
  value-set-here (e ∷ m) y i v h = elim (cases_Bool (eqb y e.vertex)) [
    | inl t ↦
        ap (λ (j : ℕ). value_of (set (e ∷ m) j (entry_of y v)) y) {x = i} {y = 0} (omega (arith, h, ap (λ b. cond b 1 (one_on (number_in m y))) t))
        ∙ ap (λ b. cond b (Some v) (value_of m y)) (eq-eqb y y refl)
    | inr f ↦
        let on = further e m y i f h in
        ap (λ (j : ℕ). value_of (set (e ∷ m) j (entry_of y v)) y) on.1
        ∙ (ap (λ b. cond b (Some e.value) (value_of (set m on.0 (entry_of y v)) y)) f ∙ value-set-here m y on.0 v on.2)
  ]

  -- and each other the value that it had
  value-set-other : (m : VertexMap V) (y i : ℕ) (v : V) → number_in m y ≡ suc i → (z : ℕ) → z ≢ y → value_of (set m i (entry_of y v)) z ≡ value_of m z
  value-set-other [] y i v h z ne = absurd (omega (arith, h))
  value-set-other (e ∷ m) y i v h z ne = elim (cases_Bool (eqb y e.vertex)) [
    | inl t ↦
        ap (λ (j : ℕ). value_of (set (e ∷ m) j (entry_of y v)) z) {x = i} {y = 0} (omega (arith, h, ap (λ b. cond b 1 (one_on (number_in m y))) t))
        ∙ (ap (λ b. cond b (Some v) (value_of m z)) (ne_eqb z y ne)
        ∙ sym (ap (λ b. cond b (Some e.value) (value_of m z)) (ne_eqb z e.vertex (λ k. ne (k ∙ sym (eqb-true y e.vertex t))))))
    | inr f ↦
        let on = further e m y i f h in
        ap (λ (j : ℕ). value_of (set (e ∷ m) j (entry_of y v)) z) on.1
        ∙ ap (cond (eqb z e.vertex) (Some e.value)) (value-set-other m y on.0 v on.2 z ne)
  ]

  -- so one vertex has another value
  value-set : (m : VertexMap V) (y i : ℕ) (v : V) → number_in m y ≡ suc i → ValuesOne y v m (set m i (entry_of y v))
  value-set m y i v h = record { here = value-set-here m y i v h; others = value-set-other m y i v h }

  -- so it is where the entry is told by what was read at its place
  pub number-changed : (m : VertexMap V) (y i : ℕ) (e : VertexEntry V) (v : V) → number_in m y ≡ suc i → e ≡ get_or m i e → (z : ℕ)
      → number_in m z ≡ number_in (set m i (entry_of e.vertex v)) z
  number-changed m y i e v h is z =
      sym (number-set m y i v h z)
      ∙ ap (λ (x : ℕ). number_in (set m i (entry_of x v)) z) (sym (ap (λ (x : VertexEntry V). x.vertex) is ∙ vertex-at m y i e h))

  -- and so for the values, which contracts see as `seen`
  pub value-changed : (m seen : VertexMap V) (y i : ℕ) (e : VertexEntry V) (v : V) → m ≡ seen → number_in m y ≡ suc i → e ≡ get_or m i e
      → ValuesOne y v seen (set m i (entry_of e.vertex v))
  value-changed m seen y i e v same h is =
      let now : List (VertexEntry V) = set m i (entry_of e.vertex v) in
      subst (λ (old : VertexMap V). ValuesOne y v old now) same
      (subst (λ (x : ℕ). ValuesOne y v m (set m i (entry_of x v))) (sym (ap (λ (x : VertexEntry V). x.vertex) is ∙ vertex-at m y i e h)) (value-set m y i v h))

  -- the entry of a vertex that had none comes last
  number-push-here : (m : VertexMap V) (y : ℕ) (v : V) → number_in m y ≡ 0 → number_in (m ++ entry_of y v ∷ []) y ≡ length m + 1
  number-push-here [] y v h = ap (λ b. cond b 1 0) (eq-eqb y y refl)
  number-push-here (e ∷ m) y v h = elim (cases_Bool (eqb y e.vertex)) [
    | inl t ↦ absurd (omega (arith, h, ap (λ b. cond b 1 (one_on (number_in m y))) t))
    | inr f ↦
        let none : number_in m y ≡ 0 = one_on-zero (number_in m y) (sym (ap (λ b. cond b 1 (one_on (number_in m y))) f) ∙ h) in
        ap (λ b. cond b 1 (one_on (number_in (m ++ entry_of y v ∷ []) y))) f
        ∙ (ap one_on {x = number_in (m ++ entry_of y v ∷ []) y} {y = suc (length m)} (omega (arith, number-push-here m y v none)) ∙ omega arith)
  ]

  -- and the others keep their places
  number-push-other : (m : VertexMap V) (y : ℕ) (v : V) (z : ℕ) → z ≢ y → number_in (m ++ entry_of y v ∷ []) z ≡ number_in m z
  number-push-other [] y v z ne = ap (λ b. cond b 1 0) (ne_eqb z y ne)
  number-push-other (e ∷ m) y v z ne = ap (λ n. cond (eqb z e.vertex) 1 (one_on n)) (number-push-other m y v z ne)

  -- it has the value of that entry
  value-push-here : (m : VertexMap V) (y : ℕ) (v : V) → value_of m y ≡ None → value_of (m ++ entry_of y v ∷ []) y ≡ Some v
  value-push-here [] y v h = ap (λ b. cond b (Some v) None) (eq-eqb y y refl)
  value-push-here (e ∷ m) y v h = elim (cases_Bool (eqb y e.vertex)) [
    | inl t ↦ absurd (none-some e.value (sym (sym (ap (λ b. cond b (Some e.value) (value_of m y)) t) ∙ h)))
    | inr f ↦
        ap (λ b. cond b (Some e.value) (value_of (m ++ entry_of y v ∷ []) y)) f
        ∙ value-push-here m y v (sym (ap (λ b. cond b (Some e.value) (value_of m y)) f) ∙ h)
  ]

  -- and the others the values that they had
  value-push-other : (m : VertexMap V) (y : ℕ) (v : V) (z : ℕ) → z ≢ y → value_of (m ++ entry_of y v ∷ []) z ≡ value_of m z
  value-push-other [] y v z ne = ap (λ b. cond b (Some v) None) (ne_eqb z y ne)
  value-push-other (e ∷ m) y v z ne = ap (cond (eqb z e.vertex) (Some e.value)) (value-push-other m y v z ne)

  -- so one vertex more has a value
  pub value-push : (m seen now : VertexMap V) (y : ℕ) (v : V) → m ≡ seen → now ≡ m ++ entry_of y v ∷ [] → value_of seen y ≡ None → ValuesOne y v seen now
  value-push m seen now y v same more none =
      subst (λ (new : VertexMap V). ValuesOne y v seen new) (sym (more ∙ ap (λ (old : VertexMap V). old ++ entry_of y v ∷ []) same))
      (record { here = value-push-here seen y v none; others = value-push-other seen y v })

  -- the numbers after it, where they are told one by one
  pub number-push : (m now : VertexMap V) (y : ℕ) (v : V) (old new : ℕ → ℕ) → now ≡ m ++ entry_of y v ∷ [] → value_of m y ≡ None
      → ((z : ℕ) → old z ≡ number_in m z) → new y ≡ length m + 1 → ((z : ℕ) → z ≢ y → new z ≡ old z) → (z : ℕ) → new z ≡ number_in now z
  number-push m now y v old new more none was here others z =
      elim (cases_eq z y) [
        | inl e ↦ ap new e ∙ (here ∙ (sym (number-push-here m y v (no-number m y none)) ∙ ap (number_in (m ++ entry_of y v ∷ [])) (sym e)))
        | inr ne ↦ others z ne ∙ (was z ∙ sym (number-push-other m y v z ne))
      ]
      ∙ ap (λ (new : VertexMap V). number_in new z) (sym more)
