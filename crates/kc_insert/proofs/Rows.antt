-- The neighbours once the edge is there, in a state that agrees with the answers.
use Rattle.std.proofs.Common.{◌≡◌, ◌≢◌, ◌<◌, ℕ, true, ◌||◌, List, sym, ◌∙◌, ap, arith}
use Rattle.kc_lists.specs.Lists.{member}
use Rattle.kc_graph.specs.SimpleGraph.{adjacent}
use Rattle.kc_graph.specs.Edges.{with_edge}
use Rattle.kc_graph.specs.Lawful.{Ranked}
use Rattle.kc_graph.specs.declared.update.Update.{Update}
use Rattle.kc_graph.proofs.EdgeChanges.{adjacent-with}
use Rattle.kc_graph.proofs.NeighbourLists.{neighbours_has}
use Rattle.kc_view.specs.Answers.{Answers, Agrees, has_list, list_of}
use Rattle.kc_view.proofs.Keeping.{list-true}
use Rattle.kc_graph.specs.Plans.{joins}

-- the two ends of an update differ
ends-differ : (update : Update) → update.u ≢ update.v
ends-differ update e = let l : update.u < update.v = update.ordered in absurd (omega (arith, e))

-- a row has the neighbours of its vertex
pub row-is : (a : Answers) (s : Ranked) (update : Update) (w : ℕ) (row : List ℕ) → Agrees a s → has_list a w ≡ true
    → ((y : ℕ) → member y row ≡ (member y (list_of a w) || joins update w y))
    → (y : ℕ) → y < s.graph.size → member y row ≡ adjacent (with_edge s.graph update.u update.v) w y
row-is a s update w row g h is y l =
    is y
    ∙
    (ap (λ b. b || joins update w y) (ap (member y) (list-true a s w g h).1 ∙ neighbours_has s.graph w y l)
    ∙ sym (adjacent-with s.graph update.u update.v w y (ends-differ update)))
