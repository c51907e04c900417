-- Each board is the one of its blank.
use Rattle.bench_snapshot.proofs.measure.Given as goal

abbrev pub ghosts-measure_reads : goal.ghosts-measure_reads
ghosts-measure_reads g a = record { book = a.blank }

abbrev pub ghosts-measure_publishes : goal.ghosts-measure_publishes
ghosts-measure_publishes g a = record { book = a.blank }
