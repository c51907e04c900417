-- Marks for the numbers that were seen.
use Rattle.std.proofs.Common.{◌≡◌, ◌≤◌, ◌<◌, ◌+◌, ℕ, suc, zero, Bool, true, false, ◌||◌, List, [], ◌∷◌, ◌++◌, length, get_or, set, take, replicate}
use Rattle.std.proofs.Common.{eqb, refl, sym, ◌∙◌, ap, subst, inl, inr, arith, length-set, true≢false, eq-eqb, ne_eqb}
use Rattle.std.proofs.lemmas.Bool.{cases_eq, false≢true, or_right, true_from_ne_false}
use Rattle.std.proofs.lemmas.List.{take_more, get_or-set_same, get_or-set_other, get_or-replicate, length-replicate}
use Rattle.std.proofs.Math.Bool.{or-false}
use Rattle.std.proofs.Math.Seq.{take-length}
use Rattle.kc_lists.specs.Lists.{member, Distinct}
use Rattle.kc_lists.proofs.Members.{member-cases, below_bound}
use Rattle.kc_lists.proofs.Counting.{member-get_or, member-push, member-push_cases, Distinct-push, Contains-from_member, Distinct-from_pairs}
use Rattle.kc_lists.proofs.Counting.{pairs_from_Distinct, take-not_here}
use Rattle.kc_graph.specs.Certificate.{Enumerates}

-- a number below `n` is marked just where it is one of the first `i` of the order
pub record MarkedTo (n i : ℕ) (order : List ℕ) (marks : List Bool) : Type 0 where
  pub one_each : length marks ≡ n
  pub exact : (v : ℕ) → v < n → get_or marks v false ≡ member v (take i order)

-- at the beginning none is marked
pub marked_none : (n : ℕ) (order : List ℕ) → MarkedTo n 0 order (replicate n false)
marked_none n order = record { one_each = length-replicate n false; exact = λ v l. get_or-replicate n v false false l }

-- with one more of the order marked, the first and it are
pub marked_more : (n i : ℕ) (order : List ℕ) (marks : List Bool) → MarkedTo n i order marks → i < length order → get_or order i 0 < n
    → MarkedTo n (i + 1) order (set marks (get_or order i 0) true)
marked_more n i order marks h l lv =
    let w : ℕ = get_or order i 0 in
    let next : (v : ℕ) → member v (take (i + 1) order) ≡ (member v (take i order) || eqb v w) =
    λ v. ap (member v) (take_more order i 0 l) ∙ member-push v w (take i order) in
    record {
      one_each = length-set marks w true ∙ h.one_each;
      exact = λ v lv'. elim (cases_eq v w) [
        | inl e ↦
            ap (λ k. get_or (set marks w true) k false) e ∙ get_or-set_same marks w true false (omega (arith, h.one_each))
            ∙ sym (next v ∙ or_right (member v (take i order)) (eqb v w) (eq-eqb v w e))
        | inr ne ↦
            get_or-set_other marks w v true false ne ∙ h.exact v lv'
            ∙ sym (next v ∙ ap (λ b. member v (take i order) || b) (ne_eqb v w ne) ∙ or-false (member v (take i order)))
      ];
    }

-- the first `i` of the order are distinct numbers below `n`, and marked
pub record SeenTo (n i : ℕ) (order : List ℕ) (seen : List Bool) : Type 0 where
  pub marked : MarkedTo n i order seen
  pub distinct : Distinct (take i order)
  pub within : (v : ℕ) → member v (take i order) ≡ true → v < n

-- at the beginning none was seen
pub seen_none : (n : ℕ) (order : List ℕ) → SeenTo n 0 order (replicate n false)
seen_none n order = record { marked = marked_none n order; distinct = tt; within = λ v m. absurd (false≢true m) }

-- one more of the order that was not seen before is seen
pub seen_more : (n i : ℕ) (order : List ℕ) (seen : List Bool) → SeenTo n i order seen → i < length order → get_or order i 0 < n
    → get_or seen (get_or order i 0) false ≡ false
    → SeenTo n (i + 1) order (set seen (get_or order i 0) true)
seen_more n i order seen h l lw new' =
    let w : ℕ = get_or order i 0 in
    let next : take (i + 1) order ≡ take i order ++ w ∷ [] = take_more order i 0 l in
    record {
      marked = marked_more n i order seen h.marked l lw;
      distinct = subst Distinct (sym next) (Distinct-push (take i order) w h.distinct (sym (h.marked.exact w lw) ∙ new'));
      within = λ v m. elim (member-push_cases v w (take i order) (ap (member v) (sym next) ∙ m)) [ inl k ↦ h.within v k | inr e ↦ omega arith ];
    }

-- where all of an order were seen, and they are as many as there are vertices, it has each once
pub seen_all : (n : ℕ) (order : List ℕ) (seen : List Bool) → SeenTo n (length order) order seen → length order ≡ n → Enumerates n order
seen_all n order seen h full =
    let whole : take (length order) order ≡ order = take-length order in
    let d : Distinct order = subst Distinct whole h.distinct in
    let within : (v : ℕ) → member v order ≡ true → v < n = λ v m. h.within v (ap (member v) whole ∙ m) in
    record {
      below = λ k d' l. within (get_or order k d') (member-get_or order k d' l);
      distinct = pairs_from_Distinct order d;
      complete = λ v l. Contains-from_member order v (true_from_ne_false (member v order) (λ out.
          let more : length (v ∷ order) ≤ n =
          below_bound n (v ∷ order) (out, d) (λ u m. elim (member-cases u v order m) [ inl e ↦ omega arith | inr k ↦ within u k ]) in
          absurd (omega arith)));
    }

-- where one was seen before, the order is not one that has each vertex once
pub seen_twice : (n i : ℕ) (order : List ℕ) (seen : List Bool) → SeenTo n i order seen → i < length order → get_or order i 0 < n
    → get_or seen (get_or order i 0) false ≡ true → Enumerates n order → ⊥
seen_twice n i order seen h l lw again e =
    true≢false (sym (sym (h.marked.exact (get_or order i 0) lw) ∙ again) ∙ take-not_here i order l (Distinct-from_pairs order e.distinct))

-- a mark that is there is read alike by any default
pub any_mark : (marks : List Bool) (k : ℕ) (d e : Bool) → k < length marks → get_or marks k d ≡ get_or marks k e
any_mark [] k d e l = absurd (omega arith)
any_mark (x ∷ xs) zero d e l = refl
any_mark (x ∷ xs) (suc k) d e l = any_mark xs k d e (omega arith)
