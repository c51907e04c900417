-- The opening words order the items as the plain list does, so the table opens with that list, and the empty log is legal and tied to it.
use Rattle.std.proofs.Common.{ℕ, List, [], sym, ap, ◌∙◌, subst}
use Rattle.kc_words.specs.declared.shape.Shape.{Shape}
use Rattle.kc_table.specs.Legal as legal
use Rattle.kc_words.specs.ItemWord.{item_of}
use Rattle.kc_words.specs.Order.{labels}
use Rattle.kc_words.proofs.Packing.{none_version}
use Rattle.kc_table.specs.TableState.{listed}
use Rattle.kc_table.proofs.LegalLogs.{legal-nil, state_of-nil}
use Rattle.kc_order.proofs.Opened.{Opening, opening-of, tied-open}
use Rattle.kc_order.proofs.writer.Writer.open.Goals.{In_ok-words}
use Rattle.kc_order.proofs.writer.Writer.open.Goals as goal

-- a table opens with the words that were made, and has the list that was given
opening-so : (c : In_ok-words) → Opening c.args.shape c.in_ok-words.words.items c.args.order.now
opening-so c =
    let e = c.in_ok-plain.ensures in
    opening-of c.args.shape c.in_ok-plain.plain c.in_ok-words.words.items c.args.order.now c.args.vertex.now c.in_ok-words.ensures
    e.versions e.ordered c.requires.within c.requires.vertices c.requires.words c.requires.stamps

pub open-requires-2 : goal.open-requires-2
open-requires-2 c = (opening-so (goal.at.open-requires-2 c).In_ok-words).opens

pub invariant_of-result : goal.invariant_of-result
invariant_of-result c =
    let e = c.in_ok-plain.ensures in
    let of = c.in_ok-words-2.ensures in
    tied-open c.args.shape c.in_ok-plain.plain c.in_ok-words.words.items c.args.order.now c.args.vertex.now c.in_ok-words-2.words
    c.in_ok-words-2.seat (opening-so (goal.at.invariant_of-result c).In_ok-words) c.in_ok-words.ensures e.items e.fixed e.list e.long
    (ap (λ z. (item_of z).version) e.note ∙ none_version) (of.words.0, of.words.1) of.writer

pub returns-clause-list : goal.returns-clause-list
returns-clause-list c =
    let of = c.in_ok-words-2.ensures in
    ap (λ z. z.list) (state_of-nil c.in_ok-words-2.words.shape c.in_ok-words-2.words.opening)
    ∙ (ap (λ (z : Shape × List ℕ). listed (labels z.0.items z.1) z.0.items) (λ i. (of.words.0 i, of.words.1 i))
    ∙ (opening-so (goal.at.returns-clause-list c).In_ok-words).list)

pub returns-clause-legal : goal.returns-clause-legal
returns-clause-legal c =
    let of = c.in_ok-words-2.ensures in
    subst (λ (z : Shape × List ℕ). legal.Legal z.0 z.1 []) (λ i. (sym of.words.0 i, sym of.words.1 i))
    (legal-nil c.args.shape c.in_ok-words.words.items (opening-so (goal.at.returns-clause-legal c).In_ok-words).opens)
