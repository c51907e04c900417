-- The list without `x` is in order by the words of the others, which stay.
use Rattle.std.proofs.Common.{◌+◌, ap, refl, arith}
use Rattle.kc_words.specs.declared.item.ItemWord.{ItemWord}
use Rattle.kc_list.proofs.Taking.{take_facts}
use Rattle.kc_list.proofs.labelled.LabelledList.take.Goals as goal

pub invariant_of-self-clause-sound : goal.invariant_of-self-clause-sound
invariant_of-self-clause-sound c =
    let w : ItemWord = record { version = c.item-old.result.version + 1; group = 0; bottom = 0 } in
    rw (c.remove.ensures.size, c.remove.ensures.list, c.store.ensures.words, c.pack.ensures.word)
    (take_facts c.args.self.now.links.size c.args.self.now.sheet.words c.args.self.now.links.list c.args.x w c.args.self.now.sound c.requires.x_in
    (omega (arith, ap (λ w. w.version) c.item-old.ensures, c.requires.version)) refl refl).sound
