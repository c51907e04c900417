-- The shift and the mask are quotient and rest by two to the width of a top label: version and top label, which fit and make up the word again.
use Rattle.std.proofs.Common.{◌∙◌, ap, sym, subst}
use Rattle.kc_words.specs.GroupWord.{group_word, IsFitting}
use Rattle.kc_words.proofs.Packing.{group_masked, group_of-fits, group_word-group_of}
use Rattle.kc_words.proofs.group.GroupWord.of.Goals as goal

pub returns-clause-fields : goal.returns-clause-fields
returns-clause-fields c = group_masked c.args.word

pub returns-clause-fitting : goal.returns-clause-fitting
returns-clause-fitting c = subst IsFitting (sym (group_masked c.args.word)) (group_of-fits c.args.word c.ranges.word.fits)

pub returns-clause-packed_back : goal.returns-clause-packed_back
returns-clause-packed_back c = ap group_word (group_masked c.args.word) ∙ group_word-group_of c.args.word
