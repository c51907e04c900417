-- The groups of the items so far are collected, and `last` is the group of the item before.
use Rattle.std.proofs.Common.{◌≤◌, ◌-◌, length, take}
use Rattle.kc_lists.specs.Lists.{place_of}
use Rattle.kc_words.specs.Order.{labels}
use Rattle.kc_list.proofs.Groupings.{Grouped}
use Rattle.kc_list.proofs.labelled.LabelledList.collect_groups.Given as goal

abbrev pub invariant-loop-x : goal.invariant-loop-x
invariant-loop-x l = Grouped l.self.links.size (labels l.self.links.size l.self.sheet.words) l.self.links.list l.x l.last (take l.count l.into) ×
    (l.count ≤ length l.into)

abbrev pub decreases-loop-x : goal.decreases-loop-x
decreases-loop-x l = length l.self.links.list - place_of l.x l.self.links.list
