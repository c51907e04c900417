-- The grown state in fresh levels, as at the start of a run.
use Rattle.std.proofs.Common.{◌∙◌, ℕ, length, ap, arith}
use Rattle.kc_journal.proofs.Beginning.{journal-begins, low-cores, stands-begun}
use Rattle.kc_journal.proofs.Restarting.{is-grown, opens-as-told, restart-began, grown-enumerates, grown-long, grown-rises}
use Rattle.kc_journal.proofs.journal.Journal.restart.Goals as goal

pub open-requires-clause-few : goal.open-requires-clause-few
open-requires-clause-few c = omega (
  arith,
  c.requires.few,
  grown-long
      (is-grown c.args.vertices c.self.view_is c.self.invariant c.recall_ends.ensures c.requires.more
      (c.deref-2.ensures.value ∙ c.in_ok-core.ensures.core) (c.deref.ensures.value ∙ c.in_ok-core.ensures.order)),
)

pub open-requires-clause-order : goal.open-requires-clause-order
open-requires-clause-order c = grown-enumerates
    (is-grown c.args.vertices c.self.view_is c.self.invariant c.recall_ends.ensures c.requires.more
    (c.deref-2.ensures.value ∙ c.in_ok-core.ensures.core) (c.deref.ensures.value ∙ c.in_ok-core.ensures.order))

pub open-requires-clause-rising : goal.open-requires-clause-rising
open-requires-clause-rising c = grown-rises
    (is-grown c.args.vertices c.self.view_is c.self.invariant c.recall_ends.ensures c.requires.more
    (c.deref-2.ensures.value ∙ c.in_ok-core.ensures.core) (c.deref.ensures.value ∙ c.in_ok-core.ensures.order))

pub open-requires-clause-low : goal.open-requires-clause-low
open-requires-clause-low c =
    let w =
    (is-grown c.args.vertices c.self.view_is c.self.invariant c.recall_ends.ensures c.requires.more
    (c.deref-2.ensures.value ∙ c.in_ok-core.ensures.core) (c.deref.ensures.value ∙ c.in_ok-core.ensures.order)) in
    low-cores w.certified w.core_is

pub invariant_of-self-2 : goal.invariant_of-self-2
invariant_of-self-2 c = stands-begun
    (restart-began
    (is-grown c.args.vertices c.self.view_is c.self.invariant c.recall_ends.ensures c.requires.more
    (c.deref-2.ensures.value ∙ c.in_ok-core.ensures.core) (c.deref.ensures.value ∙ c.in_ok-core.ensures.order))
    c.in_ok-grow.ensures.grown c.deref-3.ensures.value c.len.result
    (omega (arith, c.len.ensures, c.in_ok-core.core.ok, ap (length {A = ℕ}) c.deref-2.ensures.value))
    (c.in_ok-edge_stamps.ensures.items_if_clones_equal (λ y q. q)) c.in_ok-words.ensures c.new.ensures.items c.of.ensures c.of-2.ensures
    (ap (λ z. z.items) c.of-3.ensures))

pub returns-clause-restarted : goal.returns-clause-restarted
returns-clause-restarted c = opens-as-told c.args.vertices c.self.view_is
    (journal-begins
    (restart-began
    (is-grown c.args.vertices c.self.view_is c.self.invariant c.recall_ends.ensures c.requires.more
    (c.deref-2.ensures.value ∙ c.in_ok-core.ensures.core) (c.deref.ensures.value ∙ c.in_ok-core.ensures.order))
    c.in_ok-grow.ensures.grown c.deref-3.ensures.value c.len.result
    (omega (arith, c.len.ensures, c.in_ok-core.core.ok, ap (length {A = ℕ}) c.deref-2.ensures.value))
    (c.in_ok-edge_stamps.ensures.items_if_clones_equal (λ y q. q)) c.in_ok-words.ensures c.new.ensures.items c.of.ensures c.of-2.ensures
    (ap (λ z. z.items) c.of-3.ensures)))
