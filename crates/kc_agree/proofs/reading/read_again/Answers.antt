-- The load has found the word of the place, or another value.
use Rattle.kc_agree.proofs.OneMore.{other_is, still_is}
use Rattle.kc_agree.proofs.reading.read_again.Goals as goal

pub returns-then-first-second-clause-again : goal.returns-then-first-second-clause-again
returns-then-first-second-clause-again c =
    other_is c.args.pass.now.table c.load-second.new.pass.table c.args.words.now c.shape.result c.load-second.new.pass.log c.args.place c.vertex-word.result
    c.pack-first.result c.load-second.result c.load-second.ensures.table c.requires.table c.shape.ensures c.vertex-word.ensures c.pack-first.ensures.word
    c.load-second.ensures.value c.if-first-second.true

pub returns-clause-same : goal.returns-clause-same
returns-clause-same c =
    still_is c.args.pass.now.table c.load-second.new.pass.table c.args.words.now c.shape.result c.load-second.new.pass.log c.args.place c.vertex-word.result
    c.pack-first.result c.load-second.result c.load-second.ensures.table c.requires.table c.shape.ensures c.vertex-word.ensures c.pack-first.ensures.word
    c.load-second.ensures.value c.if-first-second.false
