-- The edges after each entry compute, and an edge that was added and removed again leaves none.
use Rattle.kc_table.proofs.Samples as sample
use Rattle.kc_table.proofs.laws.the_edges_of_a_written_out_log.Goals as goal

pub returns-clause-before : goal.returns-clause-before
returns-clause-before c = sample.edges-before

pub returns-clause-first : goal.returns-clause-first
returns-clause-first c = sample.edges-first

pub returns-clause-second : goal.returns-clause-second
returns-clause-second c = sample.edges-second

pub returns-clause-later : goal.returns-clause-later
returns-clause-later c = sample.edges-later
