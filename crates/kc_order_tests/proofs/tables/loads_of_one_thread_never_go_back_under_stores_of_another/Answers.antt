-- The table of one item opens with the words that the loops speak of.
use Rattle.std.proofs.Common.{◌≡◌, sym, ◌∙◌, subst, rules}
use Rattle.kc_words.specs.ItemWord.{item_word}
use Rattle.kc_words.specs.GroupWord.{group_word}
use Rattle.kc_table.specs.Legal.{IsTableOpening}
use Rattle.kc_order_tests.specs.Lone.{lone_words}
use Rattle.kc_order_tests.proofs.SmallTables.{lone_is, lone_opens}
use Rattle.kc_order_tests.proofs.tables.loads_of_one_thread_never_go_back_under_stores_of_another.Goals as goal

pub open-requires : goal.open-requires
unfolding item_word group_word
open-requires g c =
    let same : c.in_ok-to_vec.field-0.items ≡ lone_words 0 = search rules in
    rw same (subst (λ s. IsTableOpening s (lone_words 0)) (sym (lone_is _ _ _ _)) lone_opens)

pub one_stores_and_one_loads-never_fell-requires-clause-lone : goal.one_stores_and_one_loads-never_fell-requires-clause-lone
unfolding item_word group_word
one_stores_and_one_loads-never_fell-requires-clause-lone g c κs =
    let same : c.in_ok-to_vec.field-0.items ≡ lone_words 0 = search rules in
    (c.in_ok-words.ensures.words.0 ∙ lone_is _ _ _ _, c.in_ok-words.ensures.words.1 ∙ same)
