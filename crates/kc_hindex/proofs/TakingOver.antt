-- The numbers that pieces keep are taken over one by one.
use Rattle.std.proofs.Common.{◌≡◌, ◌↔◌, ◌≤◌, ◌<◌, ◌+◌, ◌*◌, ◌/◌, ◌%◌, ◌∙◌, ◌⊎◌, ℕ, Bool, true, false, List, length, get_or, set, sym, ap, subst}
use Rattle.std.proofs.Common.{arith, le_refl, inl, inr, true≢false}
use Rattle.std.proofs.lemmas.Bool.{cases_eq, cases_lt}
use Rattle.std.proofs.lemmas.List.{ext_get_or, get_or-set_other, get_or-set_same, length-set}
use Rattle.kc_graph.specs.Rows.{row}
use Rattle.kc_hindex.specs.declared.piece.Piece.{Piece}
use Rattle.kc_hindex.specs.Crossing.{AllTaken, Crosses, KeepsMarks, Taken}
use Rattle.kc_hindex.specs.Pieces.{AreDealt, StandFrom, numbers_of}
use Rattle.std.proofs.Math.Nat.{mod-lt}
use Rattle.kc_hindex.proofs.Dealing.{steps-apart, turns-apart, vertex-has_turn}

-- what two parts of a round crossed is marked, where the second kept the marks of the first
pub crosses-both : (old middle new : List ℕ) (marks crossed : List Bool) → length middle ≡ length old → Crosses old middle marks → KeepsMarks marks crossed
    → Crosses middle new crossed → Crosses old new crossed
crosses-both old middle new marks crossed same a keep b v k l up down =
    elim (cases_lt (get_or middle v 0) k) [
      | inl low ↦ keep k (a v k l low down)
      | inr high ↦ b v k (omega (arith, l, same)) up high
    ]

-- one vertex changes
pub crosses-one : (numbers : List ℕ) (v new : ℕ) (crossed : List Bool) → v < length numbers
    → ((k : ℕ) → new < k → k ≤ get_or numbers v 0 → get_or crossed k false ≡ true) → Crosses numbers (set numbers v new) crossed
crosses-one numbers v new crossed within marks u k l up down =
    elim (cases_eq u v) [
      | inl e ↦
          marks k (omega (arith, up, ap (λ (x : ℕ). get_or (set numbers v new) x 0) e, get_or-set_same numbers v new 0 within))
          (omega (arith, down, ap (λ (x : ℕ). get_or numbers x 0) e))
      | inr ne ↦ absurd (omega (arith, up, down, get_or-set_other numbers v u new 0 ne))
    ]

-- one more of the numbers of a piece
pub taken-more : (first step : ℕ) (new : List ℕ) (n : ℕ) (old : List ℕ) (marks : List Bool) (numbers : List ℕ) (crossed : List Bool) (changed : Bool)
    (numbers' : List ℕ) (crossed' : List Bool) (here changed' : Bool) → 0 < step → first + n * step < length old
    → get_or new n 0 ≤ get_or old (first + n * step) 0 → Taken first step new n old marks numbers crossed changed
    → numbers' ≡ set numbers (first + n * step) (get_or new n 0) → length crossed' ≡ length crossed
    → ((k : ℕ) → get_or new n 0 < k → k ≤ get_or numbers (first + n * step) 0 → get_or crossed' k false ≡ true) → KeepsMarks crossed crossed'
    → here ≡ false ↔ (get_or numbers (first + n * step) 0 ≡ get_or new n 0)
    → ((here ≡ true) × (changed' ≡ true)) ⊎ ((here ≡ false) × (changed' ≡ changed)) → Taken first step new (n + 1) old marks numbers' crossed' changed'
taken-more first step new n old marks numbers crossed changed numbers' crossed' here changed' some within lower before e one_mark marked keep is branch =
    let v : ℕ = first + n * step in
    let number : ℕ = get_or new n 0 in
    let fresh : (i : ℕ) → i < n → v ≡ first + i * step → ⊥ = λ i l same. steps-apart first step n i some l same in
    let as-before : get_or numbers v 0 ≡ get_or old v 0 = before.others v fresh in
    let within' : v < length numbers = omega (arith, within, before.len) in
    let set-here : get_or numbers' v 0 ≡ number = ap (λ (xs : List ℕ). get_or xs v 0) e ∙ get_or-set_same numbers v number 0 within' in
    let elsewhere : (u : ℕ) → (u ≡ v → ⊥) → get_or numbers' u 0 ≡ get_or numbers u 0 =
    λ u ne. ap (λ (xs : List ℕ). get_or xs u 0) e ∙ get_or-set_other numbers v u number 0 ne in record {
      len = ap (λ (xs : List ℕ). length xs) e ∙ length-set numbers v number ∙ before.len;
      one_mark = one_mark ∙ before.one_mark;
      taken = λ i l. elim (cases_eq i n) [
        | inl i-n ↦ subst (λ (x : ℕ). get_or numbers' (first + x * step) 0 ≡ get_or new x 0) (sym i-n) set-here
        | inr ne ↦
            let less : i < n = omega (arith, l, ne) in
            elsewhere (first + i * step) (λ same. fresh i less (sym same)) ∙ before.taken i less
      ];
      others = λ u none. elsewhere u (λ same. none n (omega arith) same) ∙ before.others u (λ i l same. none i (omega (arith, l)) same);
      falls = λ u. elim (cases_eq u v) [
        | inl u-v ↦ subst (λ (x : ℕ). get_or numbers' x 0 ≤ get_or old x 0) (sym u-v) (omega (arith, set-here, lower))
        | inr ne ↦ omega (arith, elsewhere u ne, before.falls u)
      ];
      crosses = crosses-both old numbers numbers' crossed crossed' before.len before.crosses keep
          (subst (λ (xs : List ℕ). Crosses numbers xs crossed') (sym e) (crosses-one numbers v number crossed' within' marked));
      kept = λ k m. keep k (before.kept k m);
      same = (
        (λ none. elim branch [
          | inl changes ↦ absurd (true≢false (sym changes.1 ∙ none))
          | inr stays ↦ λ i l. elim (cases_eq i n) [
            | inl i-n ↦ subst (λ (x : ℕ). get_or old (first + x * step) 0 ≡ get_or new x 0) (sym i-n) (sym as-before ∙ is.0 stays.0)
            | inr ne ↦ before.same.0 (sym stays.1 ∙ none) i (omega (arith, l, ne))
          ]
        ]),
        (λ all. elim branch [
          | inl changes ↦ absurd (true≢false (sym changes.0 ∙ is.1 (as-before ∙ all n (omega arith))))
          | inr stays ↦ stays.1 ∙ before.same.1 (λ i l. all i (omega (arith, l)))
        ]),
      );
    }

-- one more of the pieces
pub all-taken-more : (pieces : List Piece) (p : ℕ) (old : List ℕ) (marks : List Bool) (numbers : List ℕ) (crossed : List Bool) (changed : Bool)
    (numbers' : List ℕ) (crossed' : List Bool) (here changed' : Bool) → p < length pieces → AllTaken pieces p old marks numbers crossed changed
    → Taken p (length pieces) (row (numbers_of pieces) p) (length (row (numbers_of pieces) p)) numbers crossed numbers' crossed' here
    → ((here ≡ true) × (changed' ≡ true)) ⊎ ((here ≡ false) × (changed' ≡ changed)) → AllTaken pieces (p + 1) old marks numbers' crossed' changed'
all-taken-more pieces p old marks numbers crossed changed numbers' crossed' here changed' in' before step branch =
    let k : ℕ = length pieces in
    let rows : List (List ℕ) = numbers_of pieces in
    let elsewhere : (q i : ℕ) → q < k → (q ≡ p → ⊥) → get_or numbers' (q + i * k) 0 ≡ get_or numbers (q + i * k) 0 =
    λ q i l ne. step.others (q + i * k) (λ j _ same. ne (turns-apart k q p i j l in' same)) in
    let as-before : (i : ℕ) → get_or numbers (p + i * k) 0 ≡ get_or old (p + i * k) 0 = λ i. before.others p i (le_refl p) in' in record {
      len = step.len ∙ before.len;
      one_mark = step.one_mark ∙ before.one_mark;
      taken = λ q l. elim (cases_eq q p) [
        | inl q-p ↦ subst (λ (x : ℕ). StandFrom x k numbers' (row rows x)) (sym q-p) (λ i m. step.taken i m)
        | inr ne ↦ λ i m. elsewhere q i (omega (arith, l, in')) ne ∙ before.taken q (omega (arith, l, ne)) i m
      ];
      others = λ q i l m. elsewhere q i m (omega (arith, l)) ∙ before.others q i (omega (arith, l)) m;
      falls = λ v. omega (arith, step.falls v, before.falls v);
      crosses = crosses-both old numbers numbers' crossed crossed' before.len before.crosses step.kept step.crosses;
      same = (
        (λ none. elim branch [
          | inl changes ↦ absurd (true≢false (sym changes.1 ∙ none))
          | inr stays ↦ λ q l. elim (cases_eq q p) [
            | inl q-p ↦ subst (λ (x : ℕ). StandFrom x k old (row rows x)) (sym q-p) (λ i m. sym (as-before i) ∙ step.same.0 stays.0 i m)
            | inr ne ↦ before.same.0 (sym stays.1 ∙ none) q (omega (arith, l, ne))
          ]
        ]),
        (λ all. elim branch [
          | inl changes ↦ absurd (true≢false (sym changes.0 ∙ step.same.1 (λ i m. as-before i ∙ all p (omega arith) i m)))
          | inr stays ↦ stays.1 ∙ before.same.1 (λ q l. all q (omega (arith, l)))
        ]),
      );
    }

-- after the last piece the numbers are as before just where none of them changed
pub all-same : (pieces : List Piece) (n counts : ℕ) (old : List ℕ) (marks : List Bool) (numbers : List ℕ) (crossed : List Bool)
    (changed : Bool)
    → n ≡ length pieces
    → AreDealt (length old) counts pieces → AllTaken pieces n old marks numbers crossed changed → changed ≡ false ↔ (numbers ≡ old)
all-same pieces n counts old marks numbers crossed changed end dealt after =
    let k : ℕ = length pieces in (
      (λ none. ext_get_or 0 numbers old after.len (λ v l.
          let p : ℕ = v % k in
          let i : ℕ = v / k in
          let at-v : v ≡ p + i * k = vertex-has_turn k v in
          let in' : p < n = omega (arith, mod-lt v dealt.some, end) in
          let here : i < length (row (numbers_of pieces) p) = dealt.whole p i (omega (arith, in', end)) (omega (arith, l, after.len, at-v)) in
          subst (λ (x : ℕ). get_or numbers x 0 ≡ get_or old x 0) (sym at-v) (after.taken p in' i here ∙ sym (after.same.0 none p in' i here)))),
      (λ e. after.same.1 (λ p l i m. ap (λ (xs : List ℕ). get_or xs (p + i * k) 0) (sym e) ∙ after.taken p l i m)),
    )
