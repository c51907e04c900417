-- The groups in use are no more than the items, so that the room suffices.
use Rattle.std.proofs.Common.{◌≤◌, ◌+◌, length, subst, take, map, arith, List, ℕ}
use Rattle.kc_lists.proofs.Members.{below_bound}
use Rattle.kc_words.specs.Order.{labels}
use Rattle.kc_list.specs.Places.{runs}
use Rattle.kc_list.specs.Sheets.{ChangesOnly}
use Rattle.kc_words.specs.declared.layout.TheConstants.{ITEMS}
use Rattle.kc_list.proofs.Relabelling.{writes-fewer}
use Rattle.kc_list.proofs.Groupings.{groups_few, group_in, tops_gaps}
use Rattle.kc_list.proofs.labelled.LabelledList.spread_tops_in.Goals as goal

pub collect_groups-count-requires : goal.collect_groups-count-requires
collect_groups-count-requires c =
    omega (
      arith,
      below_bound c.args.self.now.links.size c.args.self.now.links.list c.args.self.now.sound.distinct (λ x m. (c.args.self.now.sound.inside x m).below),
      c.requires.groups_room,
    )

pub even_tops-requires : goal.even_tops-requires
even_tops-requires c = record {
  may = record {
    groups = c.collect_groups-count.ensures.groups;
    version = λ g m.
        let r = group_in c.args.self.now.links.size c.args.self.now.sheet.words c.args.self.now.links.list
        (take c.collect_groups-count.result c.collect_groups-count.new.into) g c.args.self.now.sound c.collect_groups-count.ensures.groups m in
        c.requires.version g r.0 r.1;
    room = omega (
      arith,
      groups_few c.args.self.now.links.size c.args.self.now.sheet.words c.args.self.now.links.list
          (take c.collect_groups-count.result c.collect_groups-count.new.into) c.args.self.now.sound c.collect_groups-count.ensures.groups,
      c.requires.room,
    );
  };
}

pub returns-clause-spread : goal.returns-clause-spread
returns-clause-spread c =
    let few : length (take c.collect_groups-count.result c.collect_groups-count.new.into) ≤ ITEMS = omega (
      arith,
      groups_few c.args.self.now.links.size c.args.self.now.sheet.words c.args.self.now.links.list
          (take c.collect_groups-count.result c.collect_groups-count.new.into) c.args.self.now.sound c.collect_groups-count.ensures.groups,
      c.args.self.now.small,
    ) in
    let P : List ℕ → Type 0 = λ gs. ChangesOnly (map (λ g. c.args.self.now.links.size + g) gs) c.args.self.now.sheet.words
    c.even_tops.new.self.sheet.words in
    record {
      gaps = λ g m h m' lt. (tops_gaps (labels c.args.self.now.links.size c.even_tops.new.self.sheet.words).top
          (take c.collect_groups-count.result c.collect_groups-count.new.into)
          (runs (labels c.args.self.now.links.size c.even_tops.new.self.sheet.words).group c.args.self.now.links.list) g h
          c.even_tops.ensures.groups few c.even_tops.ensures.tops m).1 m' lt;
      high = λ g m. (tops_gaps (labels c.args.self.now.links.size c.even_tops.new.self.sheet.words).top
          (take c.collect_groups-count.result c.collect_groups-count.new.into)
          (runs (labels c.args.self.now.links.size c.even_tops.new.self.sheet.words).group c.args.self.now.links.list) g g
          c.even_tops.ensures.groups few c.even_tops.ensures.tops m).0;
      only = subst P c.collect_groups-count.ensures.groups c.even_tops.ensures.only;
    }

pub returns-clause-relabels : goal.returns-clause-relabels
returns-clause-relabels c = writes-fewer c.args.self.now c.even_tops.new.self _ c.args.self.now.links.size c.even_tops.ensures.relabels
    (groups_few c.args.self.now.links.size c.args.self.now.sheet.words c.args.self.now.links.list
    (take c.collect_groups-count.result c.collect_groups-count.new.into) c.args.self.now.sound c.collect_groups-count.ensures.groups)
