-- A run has no more members than there are vertices, so what it needs is a small number.
use Rattle.std.proofs.Common.{◌≤◌, length, sym, ap, ◌∙◌, subst, arith}
use Rattle.kc_words.specs.declared.layout.TheConstants.{VERTICES}
use Rattle.kc_table.specs.Log.{Seen}
use Rattle.kc_topo.specs.Dags.{IsDagAlong, KeepsRows}
use Rattle.kc_topo.proofs.Entering.{room-for, run-short}
use Rattle.kc_topo.proofs.arcs.Arcs.add.Goals.{After-len}
use Rattle.kc_topo.proofs.arcs.Arcs.add.Goals as goal

-- the run has no more members than there are vertices
run-few : (c : After-len) → c.len.result ≤ VERTICES
run-few c =
    let k = subst (λ (s : Seen). KeepsRows s c.self-2.inside.successors) (c.self-2.view_is ∙ c.in_ok-run.ensures.unchanged) c.self-2.invariant.0 in
    omega (arith, run-short _ _ _ _ _ k c.in_ok-run.ensures.run.0, c.len.ensures)

pub overflow_cast-needed : goal.overflow_cast-needed
overflow_cast-needed c = omega (arith, run-few (goal.at.overflow_cast-needed c).After-len)

pub overflow_mul-needed : goal.overflow_mul-needed
overflow_mul-needed c = omega (arith, run-few (goal.at.overflow_mul-needed c).After-len)

pub overflow_sub-needed : goal.overflow_sub-needed
overflow_sub-needed c = omega (arith, run-few (goal.at.overflow_sub-needed c).After-len)

pub enter-requires-clause-room : goal.enter-requires-clause-room
enter-requires-clause-room c =
    room-for c.self-2.inside.writer c.run_for.new.self c.highest-highest.result (length c.deref.result.now) c.self-2.view_is c.highest-highest.ensures
    (omega (
      arith,
      run-few (goal.at.enter-requires-clause-room c).After-len,
      c.len.ensures,
      c.if-highest-needed.false,
      ap length c.deref.ensures.value,
    ))

pub returns-clause-dag : goal.returns-clause-dag
returns-clause-dag c = subst (λ (s : Seen). IsDagAlong s.table s.log) (sym c.tell-2.ensures.writer) c.self-3.invariant.0.dag
