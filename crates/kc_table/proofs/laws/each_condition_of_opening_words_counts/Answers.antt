-- Each sample breaks one: a word too many, a note, a version ahead, a vertex out, two items of one pair, or a stamp yet to come.
use Rattle.kc_table.proofs.Samples.{longer_opening-refused, noted_opening-refused, ahead_opening-refused, missing_opening-refused}
use Rattle.kc_table.proofs.Samples.{tied_opening-refused, stamped_opening-refused}
use Rattle.kc_table.proofs.laws.each_condition_of_opening_words_counts.Goals as goal

pub returns-clause-one_each : goal.returns-clause-one_each
returns-clause-one_each c = longer_opening-refused

pub returns-clause-no_note : goal.returns-clause-no_note
returns-clause-no_note c = noted_opening-refused

pub returns-clause-versions : goal.returns-clause-versions
returns-clause-versions c = ahead_opening-refused

pub returns-clause-vertices : goal.returns-clause-vertices
returns-clause-vertices c = missing_opening-refused

pub returns-clause-ordered : goal.returns-clause-ordered
returns-clause-ordered c = tied_opening-refused

pub returns-clause-stamps : goal.returns-clause-stamps
returns-clause-stamps c = stamped_opening-refused
