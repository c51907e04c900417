-- The label of the group at the next place is the greater one of both, and the write to it is the next of the schedule.
use Rattle.std.proofs.Common.{◌≡◌, ◌<◌, ◌≤◌, ◌+◌, ◌*◌, ◌/◌, ◌∙◌, ℕ, List, ap, arith, get_or, length, subst, sym}
use Rattle.kc_links.specs.Ring.{Chain}
use Rattle.kc_relabel.proofs.Stepping.{shrink-done, shrunk_before}
use Rattle.kc_words.specs.GroupWord.{group_of}
use Rattle.kc_words.specs.declared.group.GroupWord.{GroupWord}
use Rattle.kc_words.specs.declared.layout.TheConstants.{ITEMS, TOP_ROOM}
use Rattle.kc_list.specs.Views.{evenly}
use Rattle.kc_list.specs.Retops.{IsRaised, Retopway, even_schedule, tops_of}
use Rattle.kc_list.specs.declared.labelled.LabelledList.{LabelledList}
use Rattle.kc_list.proofs.Toplabels.{group_range}
use Rattle.kc_list.proofs.Retopping.{AtLower, evening, lower-none, lower-turn, may-write, turn-done}
use Rattle.kc_list.proofs.labelled.LabelledList.lower_tops.Goals as goal
use Rattle.kc_list.proofs.labelled.LabelledList.lower_tops.Goals.{then-even-group, else-even-group}

-- what is known at the next place, from a state from which the labels were raised
next : (start old b : LabelledList) (gs : List ℕ) (i label : ℕ) (w : GroupWord) → IsRaised gs start old
    → ((start : LabelledList) → IsRaised gs start old
    → Retopway start b gs (even_schedule start gs) (shrunk_before i (tops_of start gs) (evenly (length gs) TOP_ROOM))) → i < length gs
    → w ≡ group_of (get_or b.sheet.words (b.links.size + get_or gs i 0) 0) → label ≡ (i + 1) * (TOP_ROOM / (length gs + 1))
    → AtLower start b gs i w.top label
next start old b gs i label w raised way i-in word even = record {
  may = raised.may;
  i_in = i-in;
  way = way start raised;
  top_is = ap (λ (w : GroupWord). w.top) word;
  label_is = even;
}

-- the groups are few
few : (old : LabelledList) (gs : List ℕ) → (start : LabelledList) × IsRaised gs start old → length gs ≤ ITEMS
few old gs from = (evening from.0 gs from.1.may.groups).few

pub overflow_cast-count : goal.overflow_cast-count
overflow_cast-count c = omega (arith, few c.args.self.now c.args.groups.now c.requires.raised)

pub overflow_cast-place : goal.overflow_cast-place
overflow_cast-place c = omega (arith, few c.args.self.now c.args.groups.now c.requires.raised, c.loop-place-test.true)

pub spread-even-requires-clause-room : goal.spread-even-requires-clause-room
spread-even-requires-clause-room c = omega (arith, few c.args.self.now c.args.groups.now c.requires.raised)

pub group-requires : goal.group-requires
group-requires c =
    let way = c.loop-place.invariant c.requires.raised.0 c.requires.raised.1 in
    omega (
      arith,
      (group_range c.requires.raised.0.links.size c.loop-place.self.sheet.words c.requires.raised.0.links.list c.args.groups.now c.loop-place.place
          way.topway.sound way.topway.groups c.loop-place-test.true).1,
      ap (λ (l : Chain). l.size) way.links,
    )

pub overflow_cast-place-then-even-group : goal.overflow_cast-place-then-even-group
overflow_cast-place-then-even-group c = omega (arith, few c.args.self.now c.args.groups.now c.requires.raised, c.loop-place-test.true)

pub retop-requires-clause-ascends : goal.retop-requires-clause-ascends
retop-requires-clause-ascends c = (may-write c.requires.raised.0 c.loop-place.self c.args.groups.now _ c.loop-place.place c.spread-even.result
    (lower-turn c.requires.raised.0 c.loop-place.self c.args.groups.now c.loop-place.place c.group.result.top c.spread-even.result
    (next c.requires.raised.0 c.args.self.now c.loop-place.self c.args.groups.now c.loop-place.place c.spread-even.result c.group.result
    c.requires.raised.1 c.loop-place.invariant c.loop-place-test.true c.group.ensures c.spread-even.ensures) c.if-even-group.true).0).ascends

pub retop-requires-clause-version : goal.retop-requires-clause-version
retop-requires-clause-version c = (may-write c.requires.raised.0 c.loop-place.self c.args.groups.now _ c.loop-place.place c.spread-even.result
    (lower-turn c.requires.raised.0 c.loop-place.self c.args.groups.now c.loop-place.place c.group.result.top c.spread-even.result
    (next c.requires.raised.0 c.args.self.now c.loop-place.self c.args.groups.now c.loop-place.place c.spread-even.result c.group.result
    c.requires.raised.1 c.loop-place.invariant c.loop-place-test.true c.group.ensures c.spread-even.ensures) c.if-even-group.true).0).version

pub retop-requires-clause-room : goal.retop-requires-clause-room
retop-requires-clause-room c = (may-write c.requires.raised.0 c.loop-place.self c.args.groups.now _ c.loop-place.place c.spread-even.result
    (lower-turn c.requires.raised.0 c.loop-place.self c.args.groups.now c.loop-place.place c.group.result.top c.spread-even.result
    (next c.requires.raised.0 c.args.self.now c.loop-place.self c.args.groups.now c.loop-place.place c.spread-even.result c.group.result
    c.requires.raised.1 c.loop-place.invariant c.loop-place-test.true c.group.ensures c.spread-even.ensures) c.if-even-group.true).0).room

pub loop-place-preserved : goal.loop-place-preserved
loop-place-preserved c start raised =
    let at = next start c.args.self.now c.loop-place.self c.args.groups.now c.loop-place.place c.spread-even.result c.group.result
    raised c.loop-place.invariant c.loop-place-test.true c.group.ensures c.spread-even.ensures in
    elim c.if-even-group.branch [
      | then-even-group w ↦
          let turn = lower-turn start c.loop-place.self c.args.groups.now c.loop-place.place c.group.result.top c.spread-even.result at
          w.if-even-group.true in
          rw w.self-is (subst (Retopway start w.retop.new.self c.args.groups.now (even_schedule start c.args.groups.now)) (sym turn.1)
          (turn-done start c.loop-place.self w.retop.new.self c.args.groups.now _ c.loop-place.place c.spread-even.result turn.0
          w.retop.ensures.groups w.retop.ensures.tops w.retop.ensures.stores))
      | else-even-group w ↦
          rw w.self-is (lower-none start c.loop-place.self c.args.groups.now c.loop-place.place c.group.result.top c.spread-even.result at
          (omega (arith, w.if-even-group.false)))
    ]

pub returns : goal.returns
returns c = record {
  evened = λ start raised.
      let h = evening start c.args.groups.now raised.may.groups in
      let end : c.loop-place.place ≡ length (tops_of start c.args.groups.now) = omega (arith, h.long, c.loop-place-test.false, c.loop-place.auto.place-end) in
      let done = ap (λ m. shrunk_before m (tops_of start c.args.groups.now) (evenly (length c.args.groups.now) TOP_ROOM)) end
      ∙ shrink-done (tops_of start c.args.groups.now) (evenly (length c.args.groups.now) TOP_ROOM) h.same in
      subst (Retopway start c.loop-place.self c.args.groups.now (even_schedule start c.args.groups.now)) done (c.loop-place.invariant start raised);
}
