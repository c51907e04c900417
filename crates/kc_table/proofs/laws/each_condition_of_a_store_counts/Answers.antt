-- Each refused log is one of the samples.
use Rattle.kc_table.proofs.Samples as sample
use Rattle.kc_table.proofs.laws.each_condition_of_a_store_counts.Goals as goal

pub returns-clause-there : goal.returns-clause-there
returns-clause-there c = sample.word-there

pub returns-clause-fits : goal.returns-clause-fits
returns-clause-fits c = sample.value-fits

pub returns-clause-follows : goal.returns-clause-follows
returns-clause-follows c = sample.store-follows

pub returns-clause-put_of_an_item : goal.returns-clause-put_of_an_item
returns-clause-put_of_an_item c = sample.put_of_an_item

pub returns-clause-put_after_a_listed_item : goal.returns-clause-put_after_a_listed_item
returns-clause-put_after_a_listed_item c = sample.put_after_a_listed_item

pub returns-clause-put_after_another : goal.returns-clause-put_after_another
returns-clause-put_after_another c = sample.put_after_another

pub returns-clause-put_in_a_section : goal.returns-clause-put_in_a_section
returns-clause-put_in_a_section c = sample.put_in_a_section

pub returns-clause-put_once : goal.returns-clause-put_once
returns-clause-put_once c = sample.put_once

pub returns-clause-take_of_a_listed_item : goal.returns-clause-take_of_a_listed_item
returns-clause-take_of_a_listed_item c = sample.take_of_a_listed_item

pub returns-clause-take_of_no_vertex : goal.returns-clause-take_of_no_vertex
returns-clause-take_of_no_vertex c = sample.take_of_no_vertex

pub returns-clause-closed : goal.returns-clause-closed
returns-clause-closed c = sample.section-closed

pub returns-clause-version_stays : goal.returns-clause-version_stays
returns-clause-version_stays c = sample.version_stays

pub returns-clause-version_leaps : goal.returns-clause-version_leaps
returns-clause-version_leaps c = sample.version_leaps

pub returns-clause-sealed_in_a_section : goal.returns-clause-sealed_in_a_section
returns-clause-sealed_in_a_section c = sample.sealed_in_a_section

pub returns-clause-own_stamp : goal.returns-clause-own_stamp
returns-clause-own_stamp c = sample.own_stamp

pub returns-clause-sealed_once : goal.returns-clause-sealed_once
returns-clause-sealed_once c = sample.sealed_once

pub returns-clause-ordered : goal.returns-clause-ordered
returns-clause-ordered c = sample.list-ordered

pub returns-clause-inside : goal.returns-clause-inside
returns-clause-inside c = sample.item-inside

pub returns-clause-inside_the_groups : goal.returns-clause-inside_the_groups
returns-clause-inside_the_groups c = sample.item-inside_the_groups

pub returns-clause-outside : goal.returns-clause-outside
returns-clause-outside c = sample.item-outside

pub returns-clause-sealed_where_put : goal.returns-clause-sealed_where_put
returns-clause-sealed_where_put c = sample.sealed_where_put
