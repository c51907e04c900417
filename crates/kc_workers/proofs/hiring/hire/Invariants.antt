-- There is one worker for each step, each is of the table, and each has seen what the pass has.
use Rattle.std.proofs.Common.{◌≡◌, vec_len}
use Rattle.std.specs.Prelude.{All}
use Rattle.kc_workers.proofs.hiring.hire.Given as goal

abbrev pub invariant-loop : goal.invariant-loop
invariant-loop l = record {
  count : vec_len l.workers ≡ l.counter;
  pass : (l.pass.table ≡ l.words) × (l.pass.log ≡ l.fn.pass.log);
  table : All (λ w. w.table ≡ l.words) l.workers.items;
  seen : All (λ w. w.log ≡ l.fn.pass.log) l.workers.items;
}
