-- Shifts and masks cut the word into version, group and bottom label, which fit and make it up again.
use Rattle.std.proofs.Common.{◌∙◌, ap, sym, subst}
use Rattle.kc_words.specs.ItemWord.{item_word, IsFitting}
use Rattle.kc_words.proofs.Packing.{item_masked, item_of-fits, item_word-item_of}
use Rattle.kc_words.proofs.item.ItemWord.of.Goals as goal

pub returns-clause-fields : goal.returns-clause-fields
returns-clause-fields c = item_masked c.args.word

pub returns-clause-fitting : goal.returns-clause-fitting
returns-clause-fitting c = subst IsFitting (sym (item_masked c.args.word)) (item_of-fits c.args.word c.ranges.word.fits)

pub returns-clause-packed_back : goal.returns-clause-packed_back
returns-clause-packed_back c = ap item_word (item_masked c.args.word) ∙ item_word-item_of c.args.word
