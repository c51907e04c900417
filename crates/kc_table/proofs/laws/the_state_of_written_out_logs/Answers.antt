-- Each is a sample of which the definitions compute.
use Rattle.kc_table.proofs.Samples.{opening_list, pair_put-list, one_put-list, put_and_take-list, open_section-unsealed, two_entries-list}
use Rattle.kc_table.proofs.Samples.{two_entries-entries, two_entries-unsealed, puts-before, puts-first, puts-second}
use Rattle.kc_table.proofs.laws.the_state_of_written_out_logs.Goals as goal

pub returns-clause-opening : goal.returns-clause-opening
returns-clause-opening c = opening_list

pub returns-clause-one_put : goal.returns-clause-one_put
returns-clause-one_put c = one_put-list

pub returns-clause-put_and_take : goal.returns-clause-put_and_take
returns-clause-put_and_take c = put_and_take-list

pub returns-clause-open_section : goal.returns-clause-open_section
returns-clause-open_section c = open_section-unsealed

pub returns-clause-two_entries_list : goal.returns-clause-two_entries_list
returns-clause-two_entries_list c = two_entries-list

pub returns-clause-two_entries : goal.returns-clause-two_entries
returns-clause-two_entries c = two_entries-entries

pub returns-clause-two_entries_sealed : goal.returns-clause-two_entries_sealed
returns-clause-two_entries_sealed c = two_entries-unsealed

pub returns-clause-pair_put : goal.returns-clause-pair_put
returns-clause-pair_put c = pair_put-list

pub returns-clause-put_before : goal.returns-clause-put_before
returns-clause-put_before c = puts-before

pub returns-clause-put_first : goal.returns-clause-put_first
returns-clause-put_first c = puts-first

pub returns-clause-put_second : goal.returns-clause-put_second
returns-clause-put_second c = puts-second
