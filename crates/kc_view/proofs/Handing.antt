-- Lists that are kept, and handed out.
use Rattle.std.proofs.Common.{◌≡◌, ℕ, true, List, [], ◌∷◌, ◌++◌, refl, sym, subst}
use Rattle.std.proofs.lemmas.List.Elements.{All-push}
use Rattle.kc_graph.specs.declared.plan.Moves.{Moves}
use Rattle.kc_graph.specs.declared.update.Update.{Update}
use Rattle.kc_graph.specs.declared.used.Used.{Used}
use Rattle.kc_graph.specs.declared.used.UsedEdges.{UsedEdges}
use Rattle.kc_view.specs.Answers.{Answers, Agrees, answers_in, has_list, nothing_answered}
use Rattle.kc_view.specs.Lists.{IsListOf, AreLists}
use Rattle.kc_view.specs.Sure.{AreSure, AsksCores, IsPlanFor, WereNamedRead}
use Rattle.kc_view.specs.Views.{Shown, GoesOn, HandsOut}
use Rattle.kc_view.proofs.Keeping.{no-lists}

-- where nothing was kept before, all lists that are handed out are those of their vertices
pub handed-lists : (old asked new : Shown) (a : Answers) → old.kept ≡ nothing_answered → GoesOn old asked → HandsOut asked new
    → a ≡ asked.kept → AreLists new.size a.edges
handed-lists old asked new a fresh goes out all =
    let kept : AreLists asked.size asked.kept.edges = goes.lists (subst (λ (x : Answers). AreLists old.size x.edges) (sym fresh) (no-lists old.size)) in
    subst (λ (n : ℕ). AreLists n a.edges) (sym out.lasts.same_size) (subst (λ (x : Answers). AreLists asked.size x.edges) (sym all) kept)

-- what was found over a view, with the answers that the view hands out, is a planner's answer
pub handed-plan : (update : Update) (a : Answers) (used : Used) (moves : Moves) → answers_in used ≡ a → AreSure update a moves → WereNamedRead a moves
    → AsksCores update a → IsPlanFor update (record { update = update; used = used; moves = moves })
handed-plan update a used moves all sure named cores = record {
  update = refl;
  sure = λ s h l agrees. sure s used h l (subst (λ (x : Answers). Agrees x s) all agrees);
  named = λ x m. subst (λ (b : Answers). has_list b x ≡ true) (sym all) (named x m);
  cores = subst (AsksCores update) (sym all) cores;
}

-- one list more, which is that of its vertex
pub lists-push : (size : ℕ) (xs : List UsedEdges) (e : UsedEdges) → AreLists size xs → IsListOf size e.vertex e.neighbours → AreLists size (xs ++ e ∷ [])
unfolding AreLists
lists-push size xs e all one = All-push (λ (x : UsedEdges). IsListOf size x.vertex x.neighbours) xs e all one
