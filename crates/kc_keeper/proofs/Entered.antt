-- What an entry, and a run that opens anew, are to who sees graph, core numbers and order alone.
use Rattle.std.proofs.Common.{◌≡◌, ◌≤◌, ◌<◌, ◌+◌, ◌-◌, ℕ, true, length, get_or, refl, sym, ap, ◌∙◌, subst, arith}
use Rattle.std.specs.List.{All}
use Rattle.kc_lists.specs.Lists.{member}
use Rattle.kc_lists.proofs.Counting.{member-get_or}
use Rattle.kc_lists.proofs.Members.{member-append_left}
use Rattle.kc_graph.specs.SimpleGraph.{SimpleGraph}
use Rattle.kc_graph.specs.Growing.{grown, with_vertices}
use Rattle.kc_graph.specs.Lawful.{IsCertified, Ranked}
use Rattle.kc_graph.specs.Plans.{is_applied, moved_by, updated}
use Rattle.kc_graph.specs.declared.plan.Moves.{Moves}
use Rattle.kc_graph.specs.declared.plan.Moves.TheVariants.{Kept, Plain, Rise, Fall}
use Rattle.kc_graph.specs.declared.plan.Plan.{Plan}
use Rattle.kc_graph.specs.declared.update.Update.{Update}
use Rattle.kc_graph.proofs.Grown.{graph-grown, grown-same, new-with_more, old-with_more}
use Rattle.kc_cert.specs.Local.{firsts, moved_vertices}
use Rattle.kc_cert.specs.Stands.{leaving}
use Rattle.kc_cert.proofs.Holding.{length-renumbered, renumbered-other}
use Rattle.kc_table.specs.Log.{PassSeen, TableName}
use Rattle.kc_table.specs.Edges.{after_entry, after_entries}
use Rattle.kc_agree.proofs.Neighbouring.{after_entries-push}
use Rattle.kc_journal.specs.Answers.{IsEntered}
use Rattle.kc_journal.specs.Entering.{IsCurrent, MayEnter, entry_of}
use Rattle.kc_journal.specs.Journals.{Journalled, OpensRun, Stands, ranked}
use Rattle.kc_journal.specs.declared.answer.Entered.{Entered}
use Rattle.kc_journal.proofs.AfterEntry.{right-here}
use Rattle.kc_keeper.specs.Earlier.{Renumbers}
use Rattle.kc_keeper.specs.Keepers.{FitTogether, IsUpdated}

-- moves change the numbers of those alone that leave their level
renumbered-by : (moves : Moves) (s : Ranked) → Renumbers moves s.core (moved_by moves s).core
renumbered-by Kept s = record { long = refl; others = λ v none. refl }
renumbered-by Plain s = record { long = refl; others = λ v none. refl }
renumbered-by (Rise level rise shifts) s = record {
  long = length-renumbered rise.items (level + 1) s.core;
  others = λ v none. renumbered-other rise.items (level + 1) s.core v none;
}
renumbered-by (Fall level fall) s = record {
  long = length-renumbered fall.items (level - 1) s.core;
  others = λ v none. renumbered-other fall.items (level - 1) s.core v none;
}

-- and so does a plan that was entered
pub entered-renumbers : {old new : Journalled} {index : ℕ} {plan : Plan} {entered : Entered} → IsEntered old new index plan entered
    → Renumbers plan.moves old.levels.core new.levels.core
entered-renumbers {old} {new} {index} {plan} e =
    subst (Renumbers plan.moves old.levels.core) (sym (ap (λ (s : Ranked). s.core) e.state)) (renumbered-by plan.moves (ranked old))

-- what leaves its level moves
leaving-moves : (moves : Moves) (x : ℕ) → member x (leaving moves) ≡ true → member x (moved_vertices moves) ≡ true
leaving-moves Kept x m = m
leaving-moves Plain x m = m
leaving-moves (Rise level rise shifts) x m = member-append_left x rise.items (firsts shifts.items) m
leaving-moves (Fall level fall) x m = m

-- a plan that may be entered changes the numbers of vertices
pub leaving-within : (j : Journalled) (plan : Plan) → Stands j → MayEnter j plan → IsCurrent j plan
    → All (λ v. v < length j.levels.core) (leaving plan.moves)
leaving-within j plan h may current = λ k d low.
    let fit = (right-here j plan h may current).0.moves_fit in
    let v : ℕ = get_or (leaving plan.moves) k d in
    let m : member v (leaving plan.moves) ≡ true = member-get_or (leaving plan.moves) k d low in
    omega (arith, (fit.of_level v (leaving-moves plan.moves v m)).vertex, h.certified.one_each)

-- an update that was entered is made
pub entered-updates : {old new : Journalled} {index : ℕ} {plan : Plan} {entered : Entered} (update : Update) → plan.update ≡ update → Stands old
    → IsEntered old new index plan entered → IsUpdated update (ranked old) (ranked new) entered.receipt.applied
entered-updates {old} {new} {index} {plan} {entered} update is h e =
    let graph : new.graph ≡ updated plan.update old.graph =
    e.stands.from_start ∙ (ap (after_entries new.started) e.entries
    ∙ (after_entries-push new.started old.entries (entry_of index plan.update)
    ∙ ap (λ (g : SimpleGraph). after_entry g (entry_of index plan.update))
    (ap (λ (s : SimpleGraph). after_entries s old.entries) e.started ∙ sym h.from_start))) in
    record {
      graph = subst (λ (u : Update). new.graph ≡ updated u old.graph) is graph;
      applied_is = ap (λ r. r.applied) e.receipt ∙ ap (λ (u : Update). is_applied u old.graph) is;
      certified = e.stands.certified;
    }

-- all fits where a new run was opened, with marks for each vertex
pub fits-run : {words : TableName} {new : Journalled} {pass : PassSeen} {s : Ranked} {version : ℕ} (marks : ℕ) → OpensRun s version words new pass
    → marks ≡ s.graph.size → FitTogether words new pass marks
fits-run {words} {new} {pass} {s} marks o is = record {
  table = o.table;
  told = ap (λ (p : PassSeen). p.table) o.pass_is;
  marks_are = is ∙ (ap (λ (r : Ranked). r.graph.size) (sym o.state) ∙ (sym o.stands.certified.one_each ∙ o.stands.levels.long));
}

-- marks for so many vertices are marks for those of the grown state
pub marks-grown : {marks vertices : ℕ} (s : Ranked) → s.graph.size ≤ vertices → marks ≡ vertices → marks ≡ (grown vertices s).graph.size
marks-grown {marks} {vertices} s fits is = is ∙ ap (λ (g : SimpleGraph). g.size) (sym (graph-grown vertices s fits))

-- the marks of before are for each vertex where none is more
pub marks-stay : {words : TableName} {j : Journalled} {pass : PassSeen} {marks : ℕ} (vertices : ℕ) → Stands j → FitTogether words j pass marks
    → vertices ≡ j.graph.size → marks ≡ (grown vertices (ranked j)).graph.size
marks-stay {words} {j} {pass} {marks} vertices h f is =
    marks-grown (ranked j) (omega (arith, is)) (f.marks_are ∙ (sym h.levels.long ∙ (h.certified.one_each ∙ sym is)))

-- the state of before where no vertex more is asked for
pub same-run : {words : TableName} {new : Journalled} {pass : PassSeen} {version : ℕ} (j : Journalled) (vertices : ℕ) → vertices ≡ j.graph.size
    → OpensRun (grown vertices (ranked j)) version words new pass → ranked new ≡ ranked j
same-run {words} {new} {pass} {version} j vertices is o = o.state ∙ (ap (λ (k : ℕ). grown k (ranked j)) is ∙ grown-same (ranked j))

-- What growing leaves of the graph and the numbers.
pub record Grows (old new : Ranked) (vertices : ℕ) : Type 0 where
  pub graph : new.graph ≡ with_vertices vertices old.graph
  pub old_numbers : (v : ℕ) → v < old.graph.size → get_or new.core v 0 ≡ get_or old.core v 0
  pub new_numbers : (v : ℕ) → old.graph.size ≤ v → v < vertices → get_or new.core v 0 ≡ 0

-- the grown state is such
pub grows : (old new : Ranked) (vertices : ℕ) → IsCertified old → old.graph.size ≤ vertices → new ≡ grown vertices old → Grows old new vertices
grows old new vertices c fits is = record {
  graph = ap (λ (s : Ranked). s.graph) is ∙ graph-grown vertices old fits;
  old_numbers = λ v low. ap (λ (s : Ranked). get_or s.core v 0) is ∙ old-with_more (vertices - old.graph.size) old v (omega (arith, c.one_each, low));
  new_numbers = λ v high low. ap (λ (s : Ranked). get_or s.core v 0) is
      ∙ new-with_more (vertices - old.graph.size) old v (omega (arith, c.one_each, high)) (omega (arith, c.one_each, high, low, fits));
}
