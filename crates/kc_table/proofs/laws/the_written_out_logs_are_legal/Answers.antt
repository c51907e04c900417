-- Each is a sample whose stores were followed one by one.
use Rattle.kc_table.proofs.LegalLogs.{legal-nil}
use Rattle.kc_table.proofs.LegalSamples.{opening-opens, one_put-legal, put_and_take-legal, open_section-legal, sealed_section-legal, two_entries-legal}
use Rattle.kc_table.specs.Samples as sample
use Rattle.kc_table.proofs.laws.the_written_out_logs_are_legal.Goals as goal

pub returns-clause-opening : goal.returns-clause-opening
returns-clause-opening c = opening-opens

pub returns-clause-none : goal.returns-clause-none
returns-clause-none c = legal-nil sample.shape sample.opening opening-opens

pub returns-clause-one_put : goal.returns-clause-one_put
returns-clause-one_put c = one_put-legal

pub returns-clause-put_and_take : goal.returns-clause-put_and_take
returns-clause-put_and_take c = put_and_take-legal

pub returns-clause-open_section : goal.returns-clause-open_section
returns-clause-open_section c = open_section-legal

pub returns-clause-sealed_section : goal.returns-clause-sealed_section
returns-clause-sealed_section c = sealed_section-legal

pub returns-clause-two_entries : goal.returns-clause-two_entries
returns-clause-two_entries c = two_entries-legal
