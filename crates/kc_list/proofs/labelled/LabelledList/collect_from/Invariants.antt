-- What was collected is a front of the group, and the walk goes on right behind it.
use Rattle.std.proofs.Common.{◌≡◌, ◌≤◌, ◌-◌, length, take, true, ◌⊎◌}
use Rattle.kc_lists.specs.Lists.{member}
use Rattle.kc_words.specs.Order.{labels}
use Rattle.kc_list.proofs.Gathering.{Collected}
use Rattle.kc_list.proofs.labelled.LabelledList.collect_from.Given as goal

abbrev pub invariant-loop-x : goal.invariant-loop-x
invariant-loop-x l = Collected l.self.links.size (labels l.self.links.size l.self.sheet.words) l.self.links.list l.group l.x (take l.count l.into) ×
    (l.count ≤ length l.into) ×
    ((l.count ≡ 0 × l.x ≡ l.first) ⊎ (member l.first (take l.count l.into) ≡ true))

abbrev pub decreases-loop-x : goal.decreases-loop-x
decreases-loop-x l = length l.self.links.list - l.count
