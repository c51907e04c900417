-- What a step leaves of a view that answers what it likes.
use Rattle.std.proofs.Common.{refl, le_refl}
use Rattle.kc_graph.specs.declared.used.UsedEdges.{UsedEdges}
use Rattle.kc_view.specs.Answers.{with_list}
use Rattle.kc_view.specs.Lists.{IsListOf}
use Rattle.kc_view.specs.Views.{GoesOn}
use Rattle.kc_view.proofs.Handing.{lists-push}
use Rattle.kc_view.proofs.Marking.{Further-list}
use Rattle.kc_plans_tests.specs.Whim.{Whims, shown_by_whim}

-- it keeps a list more
pub goes-on-list : (w : Whims) (e : UsedEdges) → IsListOf w.size e.vertex e.neighbours
    → GoesOn (shown_by_whim w) (shown_by_whim (record w { kept = with_list w.kept e }))
goes-on-list w e one = record {
  lasts = record { same_size = refl; misses = le_refl w.misses; still_missed = λ x h. h; still_given = λ x h. h };
  handed = refl;
  further = Further-list w.kept e;
  lists = λ all. lists-push w.size w.kept.edges e all one;
}
