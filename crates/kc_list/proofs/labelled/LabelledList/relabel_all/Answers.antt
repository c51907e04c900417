-- The steps before the next are done, and the words of the others wait.
use Rattle.std.proofs.Common.{sym, subst, map, set, get_or}
use Rattle.kc_links.specs.Ring.{Chain}
use Rattle.kc_relabel.specs.Labels.{Ascends}
use Rattle.kc_words.specs.declared.layout.TheConstants.{BOTTOM_ROOM}
use Rattle.kc_list.specs.Views.{AreMembers, bottom_at}
use Rattle.kc_list.proofs.Spreading.{midway-ascends, midway-version, place-in}
use Rattle.kc_list.proofs.Relabelling.{onway-none, onway-more, places_within}
use Rattle.kc_list.proofs.labelled.LabelledList.relabel_all.Goals as goal

pub loop-place-init : goal.loop-place-init
loop-place-init c = onway-none c.args.self.now c.args.group c.args.members.now c.args.steps.now c.requires.segment

pub relabel-requires-clause-segment : goal.relabel-requires-clause-segment
relabel-requires-clause-segment c = subst (λ (l : Chain). AreMembers l c.loop-place.self.sheet c.args.group c.args.members.now)
    (sym c.loop-place.invariant.links) c.loop-place.invariant.midway.segment

pub relabel-requires-clause-place_in : goal.relabel-requires-clause-place_in
relabel-requires-clause-place_in c = place-in c.args.members.now c.args.steps.now c.loop-place.place-index
    (places_within (bottom_at c.args.self.now.links c.args.self.now.sheet) c.args.members.now BOTTOM_ROOM c.args.steps.now c.requires.schedule)
    c.loop-place-test.true

pub relabel-requires-clause-ascends : goal.relabel-requires-clause-ascends
relabel-requires-clause-ascends c =
    subst (λ (l : Chain). Ascends 1 BOTTOM_ROOM (set (map (bottom_at l c.loop-place.self.sheet) c.args.members.now)
    (get_or c.args.steps.now c.loop-place.place-index (0, 0)).0 (get_or c.args.steps.now c.loop-place.place-index (0, 0)).1))
    (sym c.loop-place.invariant.links)
    (midway-ascends c.args.self.now.links.size c.args.self.now.links.list c.args.self.now.sheet c.loop-place.self.sheet c.args.group c.args.members.now
    c.args.steps.now c.loop-place.place-index c.loop-place.invariant.midway c.requires.schedule.ascends c.loop-place-test.true)

pub relabel-requires-clause-version : goal.relabel-requires-clause-version
relabel-requires-clause-version c =
    midway-version c.args.self.now.links.size c.args.self.now.links.list c.args.self.now.sheet c.loop-place.self.sheet c.args.group c.args.members.now
    c.args.steps.now c.loop-place.place-index c.loop-place.invariant.midway c.requires.version
    (place-in c.args.members.now c.args.steps.now c.loop-place.place-index
    (places_within (bottom_at c.args.self.now.links c.args.self.now.sheet) c.args.members.now BOTTOM_ROOM c.args.steps.now c.requires.schedule)
    c.loop-place-test.true) c.loop-place-test.true

pub loop-place-preserved : goal.loop-place-preserved
loop-place-preserved c =
    onway-more c.args.self.now c.loop-place.self c.relabel.new.self c.args.group c.args.members.now c.args.steps.now c.loop-place.place-index
    c.loop-place.invariant c.loop-place-test.true c.requires.schedule c.relabel.ensures.segment c.relabel.ensures.bottoms c.relabel.ensures.stores
