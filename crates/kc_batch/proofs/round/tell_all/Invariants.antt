-- Those before have been told, and the others are as they were.
use Rattle.std.proofs.Common.{◌≡◌, drop, map, take}
use Rattle.std.specs.Prelude.{All}
use mathlib.Core.List.{IsPrefix}
use Rattle.kc_batch.proofs.round.tell_all.Given as goal

abbrev pub invariant-loop-desk : goal.invariant-loop-desk
invariant-loop-desk l = record {
  same : l.parts ≡ l.initial.parts;
  table : All (λ d. d.seen.table ≡ l.initial.parts.words) l.initial.desk-items;
  works : map (λ d. d.work) l.desk-items ≡ map (λ d. d.work) l.initial.desk-items;
  told : All (λ d. d.seen ≡ record { table = l.initial.parts.words; log = l.initial.parts.journal.levels.log }) (take l.desk-index l.desk-items);
  longer : All (λ d. IsPrefix d.seen.log l.initial.parts.journal.levels.log) (take l.desk-index l.initial.desk-items);
  rest : drop l.desk-index l.desk-items ≡ drop l.desk-index l.initial.desk-items;
}
