-- Which core numbers were asked: those of the ends of an edge and of neighbours that a list told.
use Rattle.std.proofs.Common.{◌≡◌, ◌⊎◌, ◌||◌, ℕ, true, false, cond, List, [], ◌∷◌, eqb, refl, sym, ◌∙◌, subst, inl, inr, arith}
use Rattle.std.specs.Prelude.{All, Some, is_some}
use Rattle.std.specs.Option.{unwrap_or}
use Rattle.std.specs.List.{list_any}
use Rattle.std.proofs.lemmas.Bool.{cases_Bool, false≢true, or_left, or_right}
use Rattle.std.proofs.lemmas.List.Elements.{All-push, All-weaker}
use Rattle.std.proofs.lemmas.List.Folds.{list_any-append}
use Rattle.kc_lists.specs.Lists.{member}
use Rattle.kc_graph.specs.declared.update.Update.{Update}
use Rattle.kc_graph.specs.declared.used.UsedEdges.{UsedEdges}
use Rattle.kc_view.specs.Answers.{Answers, nothing_answered, list_in, has_list, list_of, has_core, with_list}
use Rattle.kc_view.specs.Sure.{AsksOneList, is_listed, AsksCores}
use Rattle.kc_view.specs.Views.{TellsList, TellsCore}

-- a vertex on the list that was told of another one is on a list that was told
listed_in : (x y : ℕ) (es : List UsedEdges) → is_some (list_in x es) ≡ true → member y (unwrap_or (list_in x es) []) ≡ true
    → list_any (λ e. member y e.neighbours) es ≡ true
listed_in x y [] h m = absurd (false≢true h)
listed_in x y (e ∷ es) h m =
    elim (eqb x e.vertex) as (λ b. is_some (cond b (Some e.neighbours) (list_in x es)) ≡ true
    → member y (unwrap_or (cond b (Some e.neighbours) (list_in x es)) []) ≡ true
    → (member y e.neighbours || list_any (λ e. member y e.neighbours) es) ≡ true) [
      | true ↦ λ _ k. or_left (member y e.neighbours) _ k
      | false ↦ λ k n. or_right (member y e.neighbours) _ (listed_in x y es k n)
    ] h m

-- a neighbour on a list that was told
pub is_listed-from : (a : Answers) (x y : ℕ) → has_list a x ≡ true → member y (list_of a x) ≡ true → is_listed a y ≡ true
is_listed-from a x y h m = listed_in x y a.edges h m

-- a core number more
pub cores-more : (update : Update) (a b : Answers) (y : ℕ) → AsksCores update a → TellsCore a b y
    → (y ≡ update.u) ⊎ (y ≡ update.v) ⊎ (is_listed a y ≡ true) → AsksCores update b
cores-more update a b y asks tells near = elim (cases_Bool (has_core a y)) [
  | inl h ↦ subst (AsksCores update) (sym (tells.before h)) asks
  | inr n ↦
      let (p, is, eq) = tells.now n in
      subst (AsksCores update) (sym eq) (All-push (λ q. (q.vertex ≡ update.u) ⊎ (q.vertex ≡ update.v) ⊎ (is_listed a q.vertex ≡ true)) a.places p asks
      (subst (λ (z : ℕ). (z ≡ update.u) ⊎ (z ≡ update.v) ⊎ (is_listed a z ≡ true)) (sym is) near))
]

-- a list more
pub cores-listed : (update : Update) (a b : Answers) (y : ℕ) → AsksCores update a → TellsList a b y → AsksCores update b
cores-listed update a b y asks tells = elim (cases_Bool (has_list a y)) [
  | inl h ↦ subst (AsksCores update) (sym (tells.before h)) asks
  | inr n ↦
      let (e, is, eq) = tells.now n in
      let c : Answers = with_list a e in
      subst (AsksCores update) (sym eq)
      (All-weaker (λ q. (q.vertex ≡ update.u) ⊎ (q.vertex ≡ update.v) ⊎ (is_listed a q.vertex ≡ true))
      (λ q. (q.vertex ≡ update.u) ⊎ (q.vertex ≡ update.v) ⊎ (is_listed c q.vertex ≡ true)) (λ q k. elim k [
        | inl h ↦ inl h
        | inr (inl h) ↦ inr (inl h)
        | inr (inr h) ↦ inr (inr (list_any-append (λ x. member q.vertex x.neighbours) a.edges (e ∷ []) ∙ or_left (is_listed a q.vertex) _ h))
      ]) a.places asks)
]

-- where nothing was answered and a list is told, this is all that was asked
pub one-list : (a : Answers) (w : ℕ) → TellsList nothing_answered a w → AsksOneList a w
one-list a w tells =
    let (e, is, eq) = tells.now refl in
    subst (λ (b : Answers). AsksOneList b w) (sym eq)
    (record { lists = All-push (λ d. d.vertex ≡ w) [] e (λ i d l. absurd (omega arith)) is; cores = refl; orders = refl })

-- where one list alone was asked, no core number was
pub cores-none : (update : Update) (a : Answers) (w : ℕ) → AsksOneList a w → AsksCores update a
cores-none update a w asks =
    subst (All (λ p. (p.vertex ≡ update.u) ⊎ (p.vertex ≡ update.v) ⊎ (is_listed a p.vertex ≡ true))) (sym asks.cores) (λ i d l. absurd (omega arith))
