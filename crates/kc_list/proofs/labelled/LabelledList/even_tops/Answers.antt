-- All steps of the schedule are done once the labels were raised and lowered.
use Rattle.std.proofs.Common.{◌≤◌, ◌∙◌, ℕ, List, ap, arith, length}
use Rattle.std.proofs.lemmas.List.{length-append, take_all}
use Rattle.kc_relabel.specs.Labels.{downs, ups, written}
use Rattle.kc_relabel.proofs.Rising.{schedule-along, schedule-length}
use Rattle.kc_words.specs.declared.layout.TheConstants.{TOP_ROOM}
use Rattle.kc_list.specs.Views.{evenly}
use Rattle.kc_list.specs.Retops.{even_schedule, tops_of}
use Rattle.kc_list.proofs.Retopping.{evening}
use Rattle.kc_list.proofs.labelled.LabelledList.even_tops.Goals as goal

pub returns-clause-tops : goal.returns-clause-tops
returns-clause-tops c =
    let way = c.lower_tops.ensures.evened c.args.self.now c.raise_tops.ensures.raised in
    let h = evening c.args.self.now c.args.groups.now c.requires.may.groups in
    let ss : List (ℕ × ℕ) = even_schedule c.args.self.now c.args.groups.now in
    way.topway.tops ∙ (ap (written (tops_of c.args.self.now c.args.groups.now)) (take_all (length ss) ss (omega arith))
    ∙ (schedule-along 1 TOP_ROOM (tops_of c.args.self.now c.args.groups.now) (evenly (length c.args.groups.now) TOP_ROOM) h.same h.olds h.evens).1)

pub returns-clause-relabels : goal.returns-clause-relabels
returns-clause-relabels c =
    let way = c.lower_tops.ensures.evened c.args.self.now c.raise_tops.ensures.raised in
    let h = evening c.args.self.now c.args.groups.now c.requires.may.groups in
    let os : List ℕ = tops_of c.args.self.now c.args.groups.now in
    let ns : List ℕ = evenly (length c.args.groups.now) TOP_ROOM in
    let few : length (even_schedule c.args.self.now c.args.groups.now) ≤ length c.args.groups.now = omega (
      arith,
      h.long,
      schedule-length 0 0 os ns h.same,
      length-append (ups 0 os ns) (downs 0 os ns),
    ) in
    record {
      groups = way.groups;
      rewrites = record {
        links = way.links;
        steps = way.topway.steps;
        versions = way.topway.versions;
        count = omega (arith, way.topway.length_is, few);
        room = way.topway.room;
      };
    }
