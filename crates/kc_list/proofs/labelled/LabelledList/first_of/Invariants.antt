-- Each item on the way back is of the group, and the walk stops where the one before is not.
use Rattle.std.proofs.Common.{◌≡◌, true}
use Rattle.kc_lists.specs.Lists.{member, place_of, prev_of}
use Rattle.kc_words.specs.Order.{labels}
use Rattle.kc_list.proofs.labelled.LabelledList.first_of.Given as goal

abbrev pub invariant-loop-before : goal.invariant-loop-before
invariant-loop-before l = (member l.first l.self.links.list ≡ true) × ((labels l.self.links.size l.self.sheet.words).group l.first ≡ l.group) ×
    (l.before ≡ prev_of l.self.links.size l.first l.self.links.list)

abbrev pub decreases-loop-before : goal.decreases-loop-before
decreases-loop-before l = place_of l.first l.self.links.list
