-- Version, group and bottom label that fit don't overlap, so their or is their sum, which is read back field by field.
use Rattle.std.proofs.Common.{◌∙◌, ap}
use Rattle.kc_words.specs.ItemWord.{item_word, item_of}
use Rattle.kc_words.proofs.Packing.{shifted_three, item_of-item_word}
use Rattle.kc_words.proofs.item.ItemWord.pack.Goals as goal

pub returns-clause-word : goal.returns-clause-word
unfolding item_word
returns-clause-word c = rw (c.from.ensures, c.from-2.ensures, c.from-3.ensures) (shifted_three _ _ _ c.requires.0 c.requires.1 c.requires.2)

pub returns-clause-read_back : goal.returns-clause-read_back
unfolding item_word
returns-clause-read_back c =
    rw (c.from.ensures, c.from-2.ensures, c.from-3.ensures)
    (ap item_of (shifted_three c.args.self.version c.args.self.group c.args.self.bottom c.requires.0 c.requires.1 c.requires.2)
    ∙ item_of-item_word c.args.self c.requires)
