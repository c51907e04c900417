-- Labels at even distances leave room after each member of the group.
use Rattle.std.proofs.Common.{◌≤◌, ap, arith, sym, refl, length, take, subst}
use Rattle.std.proofs.lemmas.List.{length-take-le}
use Rattle.kc_words.specs.Order.{labels}
use Rattle.kc_list.specs.Places.{WordsKeepList, Segment}
use Rattle.kc_list.proofs.Spreading.{segment_in}
use Rattle.kc_list.proofs.Rooms.{in_segment, room_after_spread}
use Rattle.kc_links.specs.Ring.{Chain}
use Rattle.kc_list.proofs.Relabelling.{writes-fewer}
use Rattle.kc_list.proofs.Changes.{spread_groups, not_of}
use Rattle.kc_list.proofs.labelled.LabelledList.spread_at.Goals as goal
use Rattle.kc_list.specs.declared.limits.TheConstants.{GROUP_ITEMS}

pub spread_group-requires-clause-version : goal.spread_group-requires-clause-version
spread_group-requires-clause-version c y m =
    c.requires.version y (segment_in (labels c.args.self.now.links.size c.args.self.now.sheet.words) c.args.self.now.links.list _
    (take c.gather-count.result c.gather-count.new.into) c.gather-count.ensures.segment y m)

pub returns-clause-gap : goal.returns-clause-gap
returns-clause-gap c =
    let m = take c.gather-count.result c.gather-count.new.into in
    let p-m = in_segment (labels c.args.self.now.links.size c.args.self.now.sheet.words) c.args.self.now.links.list _
    (take c.gather-count.result c.gather-count.new.into)
    c.args.p c.gather-count.ensures.segment c.requires.p_in refl in
    let g-new = c.spread_group.ensures.spreads.segment.members c.args.p p-m in
    let there = subst (λ (l : Chain). WordsKeepList l.size c.spread_group.new.self.sheet.words l.list) c.spread_group.ensures.relabels.rewrites.links
    c.spread_group.new.self.sound in
    let few : length (take c.gather-count.result c.gather-count.new.into) ≤ GROUP_ITEMS =
    omega (arith, length-take-le c.gather-count.result c.gather-count.new.into (omega arith)) in
    room_after_spread c.args.self.now.links.size c.spread_group.new.self.sheet.words c.args.self.now.links.list
    (take c.gather-count.result c.gather-count.new.into)
    c.args.p there
    (subst (λ z. Segment (labels c.args.self.now.links.size c.spread_group.new.self.sheet.words) c.args.self.now.links.list z
    (take c.gather-count.result c.gather-count.new.into)) (sym g-new) c.spread_group.ensures.spreads.segment)
    few c.requires.p_in c.spread_group.ensures.spreads.bottoms

pub returns-clause-change : goal.returns-clause-change
returns-clause-change c = record {
  groups = λ y k. spread_groups c.args.self.now.links.size c.args.self.now.sheet.words c.spread_group.new.self.sheet.words c.args.self.now.links.list _
      (take c.gather-count.result c.gather-count.new.into) y c.gather-count.ensures.segment
      (subst (λ z. Segment (labels c.args.self.now.links.size c.spread_group.new.self.sheet.words) c.args.self.now.links.list z
      (take c.gather-count.result c.gather-count.new.into)) (ap (λ w. w.group) c.item-group.ensures) c.spread_group.ensures.spreads.segment)
      c.spread_group.ensures.spreads.only;
  only = λ w f. c.spread_group.ensures.spreads.only.same w
      (not_of (labels c.args.self.now.links.size c.args.self.now.sheet.words) c.args.self.now.links.list _
      (take c.gather-count.result c.gather-count.new.into) w c.gather-count.ensures.segment f);
}

pub returns-clause-relabels : goal.returns-clause-relabels
returns-clause-relabels c = writes-fewer c.args.self.now c.spread_group.new.self _ GROUP_ITEMS c.spread_group.ensures.relabels
    (omega (arith, length-take-le c.gather-count.result c.gather-count.new.into (omega arith), c.gather-count.ensures.within, c.requires.length))
