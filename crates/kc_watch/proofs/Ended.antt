-- A batch that has ended: the account behind it, and its text.
use Rattle.std.proofs.Common.{◌≡◌, ◌∷◌, ℕ, List, length, sym, ap, ◌∙◌, subst}
use Rattle.kc_lists.specs.Lists.{Distinct}
use Rattle.kc_graph.specs.SimpleGraph.{SimpleGraph}
use Rattle.kc_text.specs.Inputs.{EdgeBatch}
use Rattle.kc_changes.specs.Changed.{facts_behind}
use Rattle.kc_reply.specs.Facts as fact
use Rattle.kc_reply.specs.Texts.{facts_text}
use Rattle.kc_report.specs.declared.Line.{Line}
use Rattle.kc_keeper.specs.declared.changes.CoreChange.{CoreChange}
use Rattle.kc_watch.specs.Accounts.{Account, core_number_in, core_numbers_of, entered, graph_with}
use Rattle.kc_watch.specs.Endings.{AreMoves, HasEndedBetween, IsAccountBefore}
use Rattle.kc_watch.specs.Text.{batch_text, line_about}
use Rattle.kc_watch.specs.declared.options.WatchOptions.{WatchOptions}
use Rattle.kc_watch.proofs.Accounts.{numbers-are}

module _ (before : Account) (number : ℕ) (g : SimpleGraph) (ids : List ℕ) (batch : EdgeBatch) (b : IsAccountBefore before number g ids) (new : SimpleGraph)
    (made : new ≡ graph_with g ids batch) where
  -- the account behind the batch
  abbrev pub after : Account
  after = entered before ids batch

  -- its graph
  after-graph : after.graph ≡ new
  after-graph = ap (λ (h : SimpleGraph). graph_with h ids batch) b.graph_is ∙ sym made

  -- the graph has a vertex for each id
  pub after-size : new.size ≡ length ids
  after-size = ap (λ (h : SimpleGraph). h.size) made

  -- it has ended between these accounts
  pub ended-between : (known : ℕ) (names : List ℕ) (cs : List CoreChange) → known ≡ g.size → names ≡ ids
      → AreMoves g.size (core_numbers_of g) (core_numbers_of new) cs → HasEndedBetween before after known names (core_numbers_of new) cs
  ended-between known names cs is named moves = record {
    known_is = is ∙ b.size;
    ids_are = named;
    more = b.more;
    grown = named ∙ b.grown;
    once = subst Distinct (sym named) b.once;
    long = (numbers-are new).one_each ∙ after-size ∙ ap length (sym named);
    core_is = ap core_numbers_of (sym after-graph);
    moves = subst (λ (h : SimpleGraph). AreMoves known (core_numbers_of h) (core_numbers_of new) cs) (sym b.graph_is)
        (subst (λ (n : ℕ). AreMoves n (core_numbers_of g) (core_numbers_of new) cs) (sym is) moves);
  }

  -- its line and what stands behind are its text
  pub text-is : (options : WatchOptions) (line : Line) → line ≡ line_about number g batch new
      → facts_text options.format
      (fact.Summary line ∷ facts_behind options.show options.enter (core_number_in before) (core_number_in after) after.ids)
      ≡ batch_text options before batch after
  text-is options line is =
      ap (λ (l : Line). facts_text options.format
      (fact.Summary l ∷ facts_behind options.show options.enter (core_number_in before) (core_number_in after) after.ids))
      (is ∙ (λ i. line_about (b.number_is i) (sym b.graph_is i) batch (sym after-graph i)))
