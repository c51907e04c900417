-- Two lists of numbers are compared, place by place.
use Rattle.std.proofs.Common.{◌≡◌, ◌≢◌, ◌<◌, ◌≤◌, ◌+◌, ℕ, List, [], ◌∷◌, ◌++◌, length, get_or, true, refl, sym, ap, ◌∙◌, subst, inl, inr, arith}
use Rattle.std.specs.List.{All}
use Rattle.std.specs.List.Sorted.{IsStrictlyIncreasing}
use Rattle.std.proofs.lemmas.Bool.{cases_eq, cases_lt}
use Rattle.std.proofs.lemmas.List.{get_or_past}
use Rattle.std.proofs.lemmas.List.Elements.{All-nil, All-push}
use Rattle.kc_lists.specs.Lists.{member}
use Rattle.kc_lists.proofs.Counting.{Contains-from_member, member-push_cases}
use Rattle.kc_lists.proofs.Members.{member-append_left, member-append_right, member-head}
use Rattle.kc_keeper.specs.Cores.{AreCoreChanges, IsCoreChange, changed_vertices}
use Rattle.kc_keeper.specs.declared.changes.CoreChange.{CoreChange}
use Rattle.kc_keeper.proofs.KeptNumbers.{vertices-push}
use Rattle.kc_keeper.proofs.MembersOfCores.{ascends-push}

-- Of the vertices below `n` those are listed whose number is another one, as changes, in ascending order.
pub record AreToldBelow (n : ℕ) (old new : List ℕ) (changes : List CoreChange) : Type 0 where
  pub ascending : IsStrictlyIncreasing (changed_vertices changes)
  pub low : (v : ℕ) → member v (changed_vertices changes) ≡ true → v < n
  pub each : All (IsCoreChange old new) changes
  pub all : (v : ℕ) → v < n → get_or old v 0 ≢ get_or new v 0 → member v (changed_vertices changes) ≡ true

-- at first none is listed
pub told-none : (old new : List ℕ) (changes : List CoreChange) → changes ≡ [] → AreToldBelow 0 old new changes
told-none old new changes none = subst (AreToldBelow 0 old new) (sym none) (record {
  ascending = λ i l. absurd (omega arith);
  low = λ v m. absurd (cc);
  each = All-nil (IsCoreChange old new);
  all = λ v l. absurd (omega arith);
})

-- the next vertex has the number that it had
pub told-same : {n : ℕ} {old new : List ℕ} {changes : List CoreChange} → AreToldBelow n old new changes → get_or old n 0 ≡ get_or new n 0
    → AreToldBelow (n + 1) old new changes
told-same {n} {old} {new} {changes} t same = record {
  ascending = t.ascending;
  low = λ v m. let below : v < n = t.low v m in omega arith;
  each = t.each;
  all = λ v l ne. elim (cases_eq v n) [
    | inl e ↦ absurd (ne (subst (λ (x : ℕ). get_or old x 0 ≡ get_or new x 0) (sym e) same))
    | inr other ↦ t.all v (omega arith) ne
  ];
}

-- the next vertex has another number, and is listed
pub told-other : {n : ℕ} {old new : List ℕ} {changes : List CoreChange} (c : CoreChange) → AreToldBelow n old new changes → c.vertex ≡ n
    → IsCoreChange old new c → AreToldBelow (n + 1) old new (changes ++ c ∷ [])
told-other {n} {old} {new} {changes} c t is change =
    let vertices : List ℕ = changed_vertices changes in
    let more : changed_vertices (changes ++ c ∷ []) ≡ vertices ++ c.vertex ∷ [] = vertices-push changes c in
    record {
      ascending = subst IsStrictlyIncreasing (sym more)
          (ascends-push vertices c.vertex t.ascending (λ y m. let below : y < n = t.low y m in omega arith));
      low = λ v m. elim (member-push_cases v c.vertex vertices (subst (λ (vs : List ℕ). member v vs ≡ true) more m)) [
        | inl before ↦ let below : v < n = t.low v before in omega arith
        | inr e ↦ omega arith
      ];
      each = All-push (IsCoreChange old new) changes c t.each change;
      all = λ v l ne. subst (λ (vs : List ℕ). member v vs ≡ true) (sym more) (elim (cases_eq v c.vertex) [
        | inl e ↦ subst (λ (x : ℕ). member x (vertices ++ c.vertex ∷ []) ≡ true) (sym e)
            (member-append_right c.vertex vertices (c.vertex ∷ []) (member-head c.vertex []))
        | inr other ↦ member-append_left v vertices (c.vertex ∷ []) (t.all v (omega arith) ne)
      ]);
    }

-- all vertices were looked at
pub told-all : {old new : List ℕ} {changes : List CoreChange} (n : ℕ) → AreToldBelow n old new changes → length old ≡ length new → n ≡ length new
    → AreCoreChanges old new changes
told-all {old} {new} {changes} n t long whole = record {
  ascending = t.ascending;
  each = t.each;
  all = λ v ne. Contains-from_member (changed_vertices changes) v (elim (cases_lt v n) [
    | inl low ↦ t.all v low ne
    | inr high ↦ absurd (ne (get_or_past old v 0 (omega arith) ∙ sym (get_or_past new v 0 (omega arith))))
  ]);
}
