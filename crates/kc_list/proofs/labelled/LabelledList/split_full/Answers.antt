-- The array has both halves of the full group, each of half its length.
use Rattle.std.proofs.Common.{◌+◌, ◌-◌, ◌∷◌, ◌/◌, ℕ, List, arith, ap, sym, subst, ◌∙◌, get_or, take, map}
use Rattle.std.proofs.lemmas.List.{take_rest}
use Rattle.kc_words.specs.Order.{labels}
use Rattle.kc_list.specs.Places.{Segment, evens}
use Rattle.kc_list.specs.Sheets.{ChangesOnly}
use Rattle.kc_list.proofs.Spreading.{segment_in}
use Rattle.kc_list.proofs.Counts.{top_room, top_gap, top_end_high}
use Rattle.kc_list.proofs.Dividing.{halves_of}
use Rattle.kc_list.proofs.Relabelling.{writes-fewer}
use Rattle.kc_list.proofs.labelled.LabelledList.split_full.Goals as goal
use Rattle.kc_words.specs.declared.layout.TheConstants.{BOTTOM_ROOM}
use Rattle.kc_list.specs.declared.limits.TheConstants.{GROUP_ITEMS, HALF_ITEMS}
use Rattle.kc_lists.proofs.Counting.{member-get_or}

pub top_between-top-requires-clause-last_in : goal.top_between-top-requires-clause-last_in
top_between-top-requires-clause-last_in c =
    segment_in (labels c.args.self.now.links.size c.args.self.now.sheet.words) c.args.self.now.links.list c.args.group c.args.members.now c.requires.segment
    (get_or c.args.members.now (GROUP_ITEMS - 1) 0) (member-get_or c.args.members.now (GROUP_ITEMS - 1) 0 (omega arith))

pub top_between-top-requires-clause-group : goal.top_between-top-requires-clause-group
top_between-top-requires-clause-group c =
    c.requires.segment.members (get_or c.args.members.now (GROUP_ITEMS - 1) 0) (member-get_or c.args.members.now (GROUP_ITEMS - 1) 0 (omega arith))

pub top_between-top-requires-clause-gap : goal.top_between-top-requires-clause-gap
top_between-top-requires-clause-gap c =
    top_room c.args.self.now.links.size c.args.self.now.sheet.words c.args.self.now.links.list c.args.group (get_or c.args.members.now (GROUP_ITEMS - 1) 0)
    (take (GROUP_ITEMS - 1) c.args.members.now) c.args.self.now.sound
    (halves_of c.args.self.now c.args.group c.args.members.now c.requires.segment c.requires.length).last c.requires.gap.gap c.requires.gap.high

pub split-requires-clause-versions : goal.split-requires-clause-versions
split-requires-clause-versions c y m =
    c.requires.version y (segment_in (labels c.args.self.now.links.size c.args.self.now.sheet.words) c.args.self.now.links.list c.args.group c.args.members.now
    c.requires.segment y ((halves_of c.args.self.now c.args.group c.args.members.now c.requires.segment c.requires.length).upper y m))

pub split-requires-clause-room : goal.split-requires-clause-room
split-requires-clause-room c =
    omega (
      arith,
      (halves_of c.args.self.now c.args.group c.args.members.now c.requires.segment c.requires.length).up_length,
      c.requires.room,
    )

pub slice_bounds-low-end : goal.slice_bounds-low-end
slice_bounds-low-end c = sym (halves_of c.args.self.now c.args.group c.args.members.now c.requires.segment c.requires.length).low_length

pub returns-clause-halves : goal.returns-clause-halves
returns-clause-halves c =
    let up = take_rest c.args.members.now HALF_ITEMS in
    let P : List ℕ → Type 0 = λ zs. ChangesOnly ((c.args.self.now.links.size + c.args.fresh) ∷ map (λ y. 1 + y) zs) c.args.self.now.sheet.words
    c.split.new.self.sheet.words in
    record {
      lower = c.split.ensures.splits.lower;
      upper = subst (Segment (labels c.args.self.now.links.size c.split.new.self.sheet.words) c.args.self.now.links.list c.args.fresh) up
          c.split.ensures.splits.upper;
      bottoms = ap (map (labels c.args.self.now.links.size c.split.new.self.sheet.words).bottom) (sym up)
          ∙ (c.split.ensures.splits.bottoms ∙ ap (λ z. evens z (BOTTOM_ROOM / (z + 1)) 0)
          (halves_of c.args.self.now c.args.group c.args.members.now c.requires.segment c.requires.length).up_length);
      only = subst P up c.split.ensures.splits.only;
    }

pub invariant_of-cut-clause-some_low : goal.invariant_of-cut-clause-some_low
invariant_of-cut-clause-some_low c = omega (arith, (halves_of c.args.self.now c.args.group c.args.members.now c.requires.segment c.requires.length).low_length)

pub invariant_of-cut-clause-few : goal.invariant_of-cut-clause-few
invariant_of-cut-clause-few c = omega (arith, (halves_of c.args.self.now c.args.group c.args.members.now c.requires.segment c.requires.length).up_length)

pub split-requires-clause-segment : goal.split-requires-clause-segment
split-requires-clause-segment c = (halves_of c.args.self.now c.args.group c.args.members.now c.requires.segment c.requires.length).halves

pub split-requires-clause-top : goal.split-requires-clause-top
split-requires-clause-top c =
    record {
      above = c.top_between-top.ensures.low;
      high = omega (
        arith,
        c.top_between-top.ensures.high,
        top_end_high c.args.self.now.links.size c.args.self.now.sheet.words c.args.self.now.links.list (get_or c.args.members.now (GROUP_ITEMS - 1) 0)
            c.args.self.now.sound,
      );
      gap = top_gap c.args.self.now.links.size c.args.self.now.sheet.words c.args.self.now.links.list c.args.group
          (get_or c.args.members.now (GROUP_ITEMS - 1) 0) c.top_between-top.result (take (GROUP_ITEMS - 1) c.args.members.now)
          c.args.self.now.sound (halves_of c.args.self.now c.args.group c.args.members.now c.requires.segment c.requires.length).last
          c.top_between-top.ensures.high;
    }

pub returns-clause-relabels : goal.returns-clause-relabels
returns-clause-relabels c = writes-fewer c.args.self.now c.split.new.self _ (HALF_ITEMS + 1) c.split.ensures.relabels
    (omega (arith, (halves_of c.args.self.now c.args.group c.args.members.now c.requires.segment c.requires.length).up_length))
