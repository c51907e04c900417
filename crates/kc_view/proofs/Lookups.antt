-- Looking up what was kept of a vertex: the first answer that is its own. So it is with lists, and with core numbers.
use Rattle.std.proofs.Common.{◌≡◌, ◌≢◌, ◌<◌, ◌+◌, ℕ, suc, Bool, true, false, cond, ◌||◌, List, [], ◌∷◌, ◌++◌, length, get_or, map, set, take}
use Rattle.std.proofs.Common.{refl, sym, ◌∙◌, ap, subst, inl, inr, arith, eqb, eqb-true, eq-eqb, ne_eqb}
use Rattle.std.specs.Prelude.{All, Option, Some, None, is_some}
use Rattle.std.specs.Option.{unwrap_or}
use Rattle.std.proofs.Math.Bool.{or-false}
use Rattle.std.proofs.lemmas.Bool.{cases_Bool, cases_eq, false≢true, or_right, true≢false}
use Rattle.std.proofs.lemmas.List.{get_or-set_same, get_or-set_other, take_more}
use Rattle.kc_lists.specs.Lists.{member}
use Rattle.kc_lists.proofs.Results.{none-from}
use Rattle.kc_graph.specs.declared.used.UsedEdges.{UsedEdges}
use Rattle.kc_graph.specs.declared.used.UsedPlace.{UsedPlace}
use Rattle.kc_view.specs.Answers.{list_in, core_in}
use Rattle.kc_view.specs.Marks.{no_list, no_place}

-- One kind of answers: the vertex of each, what it tells, what stands where there is none, and what is found of a vertex among several,
-- which is what the first answer of the vertex tells.
pub record AnswerKind (X A : Type 0) : Type 0 where
  pub vertex : X → ℕ
  pub tells : X → A
  pub nothing : X
  pub found : ℕ → List X → Option A
  pub found-none : (w : ℕ) → found w [] ≡ None
  pub found-next : (w : ℕ) (x : X) (xs : List X) → found w (x ∷ xs) ≡ cond (eqb w (vertex x)) (Some (tells x)) (found w xs)

-- the answers that tell lists
abbrev pub list_answers : AnswerKind UsedEdges (List ℕ)
list_answers = record {
  vertex = λ e. e.vertex;
  tells = λ e. e.neighbours;
  nothing = no_list;
  found = list_in;
  found-none = λ _. refl;
  found-next = λ _ _ _. refl;
}

-- the answers that tell core numbers
abbrev pub core_answers : AnswerKind UsedPlace ℕ
core_answers = record {
  vertex = λ p. p.vertex;
  tells = λ p. p.core;
  nothing = no_place;
  found = core_in;
  found-none = λ _. refl;
  found-next = λ _ _ _. refl;
}

-- something is there where the test for it passes
some-is : {A : Type 0} (b : Bool) (x : A) → is_some (cond b (Some x) None) ≡ b
some-is true x = refl
some-is false x = refl

module _ {X A : Type 0} (k : AnswerKind X A) where
  -- what was found stays with more behind
  pub found-front : (w : ℕ) (xs ys : List X) → is_some (k.found w xs) ≡ true → k.found w (xs ++ ys) ≡ k.found w xs
  found-front w [] ys h = absurd (false≢true (sym (ap is_some (k.found-none w)) ∙ h))
  found-front w (x ∷ xs) ys h =
      k.found-next w x (xs ++ ys)
      ∙ ((elim (eqb w (k.vertex x)) as (λ b. is_some (cond b (Some (k.tells x)) (k.found w xs)) ≡ true
      → cond b (Some (k.tells x)) (k.found w (xs ++ ys)) ≡ cond b (Some (k.tells x)) (k.found w xs)) [
        | true ↦ λ _. refl
        | false ↦ λ told. found-front w xs ys told
      ] (ap is_some (sym (k.found-next w x xs)) ∙ h)) ∙ sym (k.found-next w x xs))

  -- one more where none was found: it is found for its vertex, and none for another
  pub found-push : (w : ℕ) (xs : List X) (x : X) → is_some (k.found w xs) ≡ false
      → k.found w (xs ++ x ∷ []) ≡ cond (eqb w (k.vertex x)) (Some (k.tells x)) None
  found-push w [] x h = k.found-next w x [] ∙ ap (λ (o : Option A). cond (eqb w (k.vertex x)) (Some (k.tells x)) o) (k.found-none w)
  found-push w (y ∷ xs) x h =
      k.found-next w y (xs ++ x ∷ [])
      ∙ (elim (eqb w (k.vertex y)) as (λ b. is_some (cond b (Some (k.tells y)) (k.found w xs)) ≡ false
      → cond b (Some (k.tells y)) (k.found w (xs ++ x ∷ [])) ≡ cond (eqb w (k.vertex x)) (Some (k.tells x)) None) [
        | true ↦ λ told. absurd (true≢false told)
        | false ↦ λ told. found-push w xs x told
      ] (ap is_some (sym (k.found-next w y xs)) ∙ h))

  -- where none was found of its vertex, the new one is found
  pub found-new : (xs : List X) (x : X) → is_some (k.found (k.vertex x) xs) ≡ false → k.found (k.vertex x) (xs ++ x ∷ []) ≡ Some (k.tells x)
  found-new xs x none =
      found-push (k.vertex x) xs x none ∙ ap (λ b. cond b (Some (k.tells x)) None) (eq-eqb (k.vertex x) (k.vertex x) refl)

  -- with one more of another vertex, what is found stays
  pub found-other : (w : ℕ) (xs : List X) (x : X) → w ≢ k.vertex x → k.found w (xs ++ x ∷ []) ≡ k.found w xs
  found-other w xs x other = elim (cases_Bool (is_some (k.found w xs))) [
    | inl t ↦ found-front w xs (x ∷ []) t
    | inr f ↦
        found-push w xs x f ∙ (ap (λ b. cond b (Some (k.tells x)) None) (ne_eqb w (k.vertex x) other) ∙ sym (none-from (k.found w xs) f))
  ]

  -- whether something is found, with one more
  pub found-more : (w : ℕ) (xs : List X) (x : X) → is_some (k.found w (xs ++ x ∷ [])) ≡ (is_some (k.found w xs) || eqb w (k.vertex x))
  found-more w xs x = elim (cases_Bool (is_some (k.found w xs))) [
    | inl t ↦ ap is_some (found-front w xs (x ∷ []) t) ∙ (t ∙ sym (ap (λ b. b || eqb w (k.vertex x)) t))
    | inr f ↦ ap is_some (found-push w xs x f) ∙ (some-is (eqb w (k.vertex x)) (k.tells x) ∙ sym (ap (λ b. b || eqb w (k.vertex x)) f))
  ]

  -- what holds of each answer and its vertex holds of what is found
  pub found-holds : (P : ℕ → A → Type 0) (w : ℕ) (xs : List X) (none : A) → All (λ x. P (k.vertex x) (k.tells x)) xs → is_some (k.found w xs) ≡ true
      → P w (unwrap_or (k.found w xs) none)
  found-holds P w [] none all h = absurd (false≢true (sym (ap is_some (k.found-none w)) ∙ h))
  found-holds P w (x ∷ xs) none all h =
      subst (λ (o : Option A). P w (unwrap_or o none)) (sym (k.found-next w x xs))
      (elim (eqb w (k.vertex x)) as (λ b. eqb w (k.vertex x) ≡ b → is_some (cond b (Some (k.tells x)) (k.found w xs)) ≡ true
      → P w (unwrap_or (cond b (Some (k.tells x)) (k.found w xs)) none)) [
        | true ↦ λ e _. subst (λ (v : ℕ). P v (k.tells x)) (sym (eqb-true w (k.vertex x) e)) (all 0 x (omega arith))
        | false ↦ λ e told. found-holds P w xs none (λ i d l. all (suc i) d (omega arith)) told
      ] refl (ap is_some (sym (k.found-next w x xs)) ∙ h))

  -- a vertex is one of those of the answers exactly where something is found of it
  pub found-member : (w : ℕ) (xs : List X) → member w (map k.vertex xs) ≡ is_some (k.found w xs)
  found-member w [] = sym (ap is_some (k.found-none w))
  found-member w (x ∷ xs) =
      (elim (eqb w (k.vertex x)) as (λ b. (b || member w (map k.vertex xs)) ≡ is_some (cond b (Some (k.tells x)) (k.found w xs))) [
        | true ↦ refl
        | false ↦ found-member w xs
      ]) ∙ ap is_some (sym (k.found-next w x xs))

  -- with one more of those that were kept, something is found of its vertex too
  found-taken : (xs : List X) (i : ℕ) (x : X) → i < length xs → x ≡ get_or xs i x → (w : ℕ)
      → is_some (k.found w (take (i + 1) xs)) ≡ (is_some (k.found w (take i xs)) || eqb w (k.vertex x))
  found-taken xs i x l is w =
      ap (λ (ys : List X). is_some (k.found w ys)) (take_more xs i x l ∙ ap (λ (y : X). take i xs ++ y ∷ []) (sym is))
      ∙ found-more w (take i xs) x

  -- with the mark of one more of those that were kept cleared, the marks of the first are clear and the others as before
  pub cleared-next : {B : Type 0} (clear : B) (marks : List B) (old : ℕ → B) (xs : List X) (i : ℕ) (x : X) → i < length xs → x ≡ get_or xs i x
      → k.vertex x < length marks → ((w : ℕ) → get_or marks w clear ≡ cond (is_some (k.found w (take i xs))) clear (old w)) → (w : ℕ)
      → get_or (set marks (k.vertex x) clear) w clear ≡ cond (is_some (k.found w (take (i + 1) xs))) clear (old w)
  cleared-next clear marks old xs i x l is within was w =
      let before : Bool = is_some (k.found w (take i xs)) in
      elim (cases_eq w (k.vertex x)) [
        | inl same ↦
            ap (λ n. get_or (set marks (k.vertex x) clear) n clear) same
            ∙ (get_or-set_same marks (k.vertex x) clear clear within
            ∙ sym (ap (λ b. cond b clear (old w)) (found-taken xs i x l is w ∙ or_right before (eqb w (k.vertex x)) (eq-eqb w (k.vertex x) same))))
        | inr other ↦
            get_or-set_other marks (k.vertex x) w clear clear other
            ∙ (was w ∙ sym (ap (λ b. cond b clear (old w))
            (found-taken xs i x l is w ∙ (ap (λ b. before || b) (ne_eqb w (k.vertex x) other) ∙ or-false before))))
      ]
