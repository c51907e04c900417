-- There is a word for each item and each group.
use Rattle.std.proofs.Common.{ap, arith}
use Rattle.kc_list.specs.Plain.{Plain}
use Rattle.kc_list.proofs.plain.PlainOrder.word.Goals as goal

pub word-requires : goal.word-requires
word-requires c = omega (arith, c.requires.high, c.self.inside.list.sound.size, ap (λ (a : Plain). a.items) c.self.view_is)

pub returns : goal.returns
returns c = rw (← c.self.view_is) c.word.ensures
