-- Those before have moved, and the others are as they were.
use Rattle.std.proofs.Common.{◌≡◌, drop, map, take}
use Rattle.std.specs.Prelude.{All}
use Rattle.kc_batch.proofs.state.move_all.Given as goal

abbrev pub invariant-loop-desk : goal.invariant-loop-desk
invariant-loop-desk l = record {
  works : map (λ d. d.work) l.desk-items ≡ map (λ d. d.work) l.initial.desk-items;
  seen : All (λ d. d.seen ≡ record { table = l.parts.words; log = l.initial.fresh.log }) (take l.desk-index l.desk-items);
  rest : drop l.desk-index l.desk-items ≡ drop l.desk-index l.initial.desk-items;
  size : All (λ d. l.parts.words.shape.fixed ≡ d.seen.table.shape.fixed) l.initial.desk-items;
  table : l.fresh.table ≡ l.parts.words;
  log : l.fresh.log ≡ l.initial.fresh.log;
}
