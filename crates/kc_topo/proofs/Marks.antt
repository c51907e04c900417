-- The marks of reached vertices.
use Rattle.std.proofs.Common.{◌≡◌, ◌≢◌, ◌<◌, ◌+◌, ℕ, Bool, true, false, List, [], ◌∷◌, ◌++◌, length, get_or, set, sym, ap, ◌∙◌, subst, arith, inl, inr}
use Rattle.std.proofs.Common.{get_or-set_other, get_or-set_same, length-append, length-set}
use Rattle.std.proofs.lemmas.Bool.{cases_eq}
use Rattle.kc_lists.specs.Lists.{Distinct, member}
use Rattle.kc_lists.proofs.Counting.{Distinct-push, member-push_cases, member-push_left}
use Rattle.kc_lists.proofs.Members.{Distinct-cut, member-append_right, member-head}
use Rattle.kc_order.proofs.Orders.{same_test}
use Rattle.kc_topo.specs.Searching.{IsMarked, Trail}

-- one vertex more behind the last changes of no other whether it is there
member-other_end : (w v : ℕ) (vs : List ℕ) → w ≢ v → member w (vs ++ v ∷ []) ≡ member w vs
member-other_end w v vs ne = same_test (member w (vs ++ v ∷ [])) (member w vs)
    (λ m. elim (member-push_cases w v vs m) [ inl k ↦ k | inr e ↦ absurd (ne e) ]) (member-push_left w v vs)

-- the vertex behind the last is a member
member-own_end : (w v : ℕ) (vs : List ℕ) → w ≡ v → member w (vs ++ v ∷ []) ≡ true
member-own_end w v vs e = subst (λ (z : ℕ). member z (vs ++ v ∷ []) ≡ true) (sym e) (member-append_right v vs (v ∷ []) (member-head v []))

-- where a vertex is reached, its mark is set
pub marked-push : (t : Trail) (marks : List Bool) (v : ℕ) (vs ps : List ℕ) → IsMarked t marks → v < t.size → member v t.vertices ≡ false
    → vs ≡ t.vertices ++ v ∷ [] → length ps ≡ length t.parents + 1 → IsMarked (record { vertices = vs; parents = ps; size = t.size }) (set marks v true)
marked-push t marks v vs ps h low fresh are one = record {
  distinct = subst Distinct (sym are) (Distinct-push t.vertices v h.distinct fresh);
  within = λ w m. elim (member-push_cases w v t.vertices (ap (member w) (sym are) ∙ m)) [ inl k ↦ h.within w k | inr e ↦ omega (arith, low, e) ];
  one_each = omega (arith, one, h.one_each, ap length are, length-append t.vertices (v ∷ []));
  long = length-set marks v true ∙ h.long;
  marks_are = λ w. elim (cases_eq w v) [
    | inl e ↦ ap (λ k. get_or (set marks v true) k false) e ∙ (get_or-set_same marks v true false (omega (arith, low, h.long))
        ∙ (sym (member-own_end w v t.vertices e) ∙ ap (member w) (sym are)))
    | inr ne ↦ get_or-set_other marks v w true false ne ∙ (h.marks_are w ∙ (sym (member-other_end w v t.vertices ne) ∙ ap (member w) (sym are)))
  ];
}

-- the last of distinct numbers does not come before
last-apart : (v : ℕ) (vs : List ℕ) → Distinct (vs ++ v ∷ []) → member v vs ≡ false
last-apart v vs d = (Distinct-cut v vs [] d).0

-- where the last vertex goes, its mark is cleared
pub marks-pop : (marks : List Bool) (v : ℕ) (old vs : List ℕ) → old ≡ vs ++ v ∷ [] → Distinct old → v < length marks
    → ((w : ℕ) → get_or marks w false ≡ member w old) → (w : ℕ) → get_or (set marks v false) w false ≡ member w vs
marks-pop marks v old vs is d low are w = elim (cases_eq w v) [
  | inl e ↦ ap (λ k. get_or (set marks v false) k false) e ∙ (get_or-set_same marks v false false low
      ∙ sym (ap (λ z. member z vs) e ∙ last-apart v vs (subst Distinct is d)))
  | inr ne ↦ get_or-set_other marks v w false false ne ∙ (are w ∙ (ap (member w) is ∙ member-other_end w v vs ne))
]
