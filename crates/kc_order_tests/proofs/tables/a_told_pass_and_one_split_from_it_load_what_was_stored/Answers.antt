-- Each store makes a written-out log, which is legal.
use Rattle.std.proofs.Common.{◌≡◌, ◌++◌, [], ◌∷◌, sym, ap, ◌∙◌, subst, rules}
use Rattle.kc_words.specs.ItemWord.{item_word}
use Rattle.kc_words.specs.GroupWord.{group_word}
use Rattle.kc_words.specs.NoteWord.{note_word}
use Rattle.kc_words.specs.declared.note.NoteWord.TheVariants.{Put}
use Rattle.kc_table.specs.Log.{Seen, event}
use Rattle.kc_table.specs.Legal.{IsTableOpening}
use Rattle.kc_table.specs.Samples.{note, pair_shape, pair_opening}
use Rattle.kc_order_tests.proofs.SmallTables.{second_put, pair_is, pair_opens, pair_first, pair_second, legal_at}
use Rattle.kc_order_tests.proofs.tables.a_told_pass_and_one_split_from_it_load_what_was_stored.Goals as goal

pub open-requires : goal.open-requires
unfolding item_word group_word
open-requires g c =
    let same : c.in_ok-to_vec.field-0.items ≡ pair_opening = search rules in
    rw same (subst (λ s. IsTableOpening s pair_opening) (sym (pair_is _ _ _ _)) pair_opens)

pub store-requires-clause-legal : goal.store-requires-clause-legal
unfolding item_word group_word note_word
store-requires-clause-legal g c =
    let of = c.in_ok-words.ensures in
    let same : c.in_ok-to_vec.field-0.items ≡ pair_opening = search rules in
    legal_at c.in_ok-words.seat (note (Put 1 0)) pair_shape pair_opening []
    (ap (λ (s : Seen). s.table.shape) of.writer ∙ (of.words.0 ∙ pair_is _ _ _ _))
    (ap (λ (s : Seen). s.table.opening) of.writer ∙ (of.words.1 ∙ same)) (ap (λ (s : Seen). s.log) of.writer) pair_first

pub store-requires-2-clause-legal : goal.store-requires-2-clause-legal
unfolding item_word group_word note_word
store-requires-2-clause-legal g c =
    let of = c.in_ok-words.ensures in
    let same : c.in_ok-to_vec.field-0.items ≡ pair_opening = search rules in
    let first = c.store.ensures in
    legal_at c.store.new.writer (event 2 second_put) pair_shape pair_opening (note (Put 1 0) ∷ [])
    (ap (λ (s : Seen). s.table.shape) first ∙ (ap (λ (s : Seen). s.table.shape) of.writer ∙ (of.words.0 ∙ pair_is _ _ _ _)))
    (ap (λ (s : Seen). s.table.opening) first ∙ (ap (λ (s : Seen). s.table.opening) of.writer ∙ (of.words.1 ∙ same)))
    (ap (λ (s : Seen). s.log) first ∙ ap (λ (s : Seen). s.log ++ note (Put 1 0) ∷ []) of.writer)
    pair_second
