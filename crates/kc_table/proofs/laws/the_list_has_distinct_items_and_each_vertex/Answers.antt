-- The opening's list is so, and a store to an item puts it after or takes it as a note that might follow has announced.
use Rattle.kc_table.proofs.Listed.{list-stands}
use Rattle.kc_table.proofs.laws.the_list_has_distinct_items_and_each_vertex.Goals as goal

pub returns-clause-distinct : goal.returns-clause-distinct
returns-clause-distinct c = λ shape opening log h. (list-stands shape opening log h).listed.distinct

pub returns-clause-items : goal.returns-clause-items
returns-clause-items c = λ shape opening log x h m. (list-stands shape opening log h).listed.within x m

pub returns-clause-vertices : goal.returns-clause-vertices
returns-clause-vertices c = λ shape opening log v h l. (list-stands shape opening log h).listed.vertices v l
