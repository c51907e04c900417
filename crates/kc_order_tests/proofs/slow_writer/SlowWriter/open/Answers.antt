-- The opening words order the items as the plain list does, so the table opens with that list, and the empty log is legal and tied to it.
use Rattle.std.proofs.Common.{[], sym, ap, ◌∙◌, arith}
use Rattle.kc_words.specs.ItemWord.{item_of}
use Rattle.kc_words.proofs.Packing.{none_version}
use Rattle.kc_order.proofs.Opened.{Opening, opening-of, tied-open}
use Rattle.kc_order_tests.proofs.slow_writer.SlowWriter.open.Goals as goal

pub open-requires-2 : goal.open-requires-2
open-requires-2 c =
    let e = c.in_ok-plain.ensures in
    let o : Opening c.args.shape c.in_ok-words.words.items c.args.order.now =
    opening-of c.args.shape c.in_ok-plain.plain c.in_ok-words.words.items c.args.order.now [] c.in_ok-words.ensures
    e.versions e.ordered c.requires.within (λ v l. absurd (omega (arith, l, c.requires.free)))
    (sym c.requires.free) (λ v l. absurd (omega (arith, l, c.requires.free))) in
    o.opens

pub invariant_of-result : goal.invariant_of-result
invariant_of-result c =
    let e = c.in_ok-plain.ensures in
    let o : Opening c.args.shape c.in_ok-words.words.items c.args.order.now =
    opening-of c.args.shape c.in_ok-plain.plain c.in_ok-words.words.items c.args.order.now [] c.in_ok-words.ensures
    e.versions e.ordered c.requires.within (λ v l. absurd (omega (arith, l, c.requires.free)))
    (sym c.requires.free) (λ v l. absurd (omega (arith, l, c.requires.free))) in
    let of = c.in_ok-words-2.ensures in
    tied-open c.args.shape c.in_ok-plain.plain c.in_ok-words.words.items c.args.order.now [] c.in_ok-words-2.words
    c.in_ok-words-2.seat o c.in_ok-words.ensures e.items e.fixed e.list e.long
    (ap (λ z. (item_of z).version) e.note ∙ none_version) (of.words.0, of.words.1) of.writer
