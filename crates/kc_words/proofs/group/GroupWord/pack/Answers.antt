-- A top label that fits lies below the shifted version, so their or is their sum, which is read back by quotient and rest.
use Rattle.std.proofs.Common.{◌∙◌, ap, refl}
use Rattle.kc_words.specs.declared.layout.TheConstants.{VERSION_BITS, TOP_BITS}
use Rattle.kc_words.specs.GroupWord.{group_word, group_of}
use Rattle.kc_words.proofs.Packing.{shifted_pair, group_of-group_word}
use Rattle.kc_words.proofs.group.GroupWord.pack.Goals as goal

pub returns-clause-word : goal.returns-clause-word
unfolding group_word
returns-clause-word c = rw c.from.ensures (shifted_pair _ VERSION_BITS _ TOP_BITS c.requires.0 refl c.requires.1)

pub returns-clause-read_back : goal.returns-clause-read_back
unfolding group_word
returns-clause-read_back c =
    rw c.from.ensures
    (ap group_of (shifted_pair c.args.self.version VERSION_BITS c.args.self.top TOP_BITS c.requires.0 refl c.requires.1)
    ∙ group_of-group_word c.args.self c.requires)
