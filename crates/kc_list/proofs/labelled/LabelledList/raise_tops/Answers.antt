-- The label of the group at the next place is the old one, and the write to it is the next of the schedule.
use Rattle.std.proofs.Common.{◌≡◌, ◌<◌, ◌≤◌, ◌+◌, ◌-◌, ◌*◌, ◌/◌, ℕ, List, ap, arith, drop, get_or, length, subst, sym}
use Rattle.std.proofs.lemmas.List.{drop_all}
use Rattle.kc_links.specs.Ring.{Chain}
use Rattle.kc_relabel.specs.Labels.{ups}
use Rattle.kc_relabel.proofs.Stepping.{grown_from}
use Rattle.kc_words.specs.GroupWord.{group_of}
use Rattle.kc_words.specs.declared.group.GroupWord.{GroupWord}
use Rattle.kc_words.specs.declared.layout.TheConstants.{TOP_ROOM}
use Rattle.kc_list.specs.Views.{evenly}
use Rattle.kc_list.specs.Retops.{MayRetop, Retopway, even_schedule, tops_of}
use Rattle.kc_list.specs.declared.labelled.LabelledList.{LabelledList}
use Rattle.kc_list.proofs.Toplabels.{group_range}
use Rattle.kc_list.proofs.Retopping.{AtRaise, evening, may-write, raise-none, raise-turn, retopway-none, turn-done}
use Rattle.kc_list.proofs.labelled.LabelledList.raise_tops.Goals as goal

-- what is known at the next place
next : (a b : LabelledList) (gs : List ℕ) (left label : ℕ) (w : GroupWord) → MayRetop a gs
    → (left ≤ length gs) × Retopway a b gs (even_schedule a gs) (grown_from left (tops_of a gs) (evenly (length gs) TOP_ROOM)) → 0 < left
    → w ≡ group_of (get_or b.sheet.words (b.links.size + get_or gs (left - 1) 0) 0) → label ≡ (left - 1 + 1) * (TOP_ROOM / (length gs + 1))
    → AtRaise a b gs left w.top label
next a b gs left label w may h some word even = record {
  may = may;
  left_in = h.0;
  some = some;
  way = h.1;
  top_is = ap (λ (w : GroupWord). w.top) word;
  label_is = even;
}

pub overflow_cast-count : goal.overflow_cast-count
overflow_cast-count c = omega (arith, (evening c.args.self.now c.args.groups.now c.requires.may.groups).few)

pub loop-left-init : goal.loop-left-init
loop-left-init c =
    let none : grown_from (length c.args.groups.now) (tops_of c.args.self.now c.args.groups.now) (evenly (length c.args.groups.now) TOP_ROOM) ≡ 0 =
    ap (λ (xs : List ℕ). length (ups (length c.args.groups.now) xs (drop (length c.args.groups.now) (evenly (length c.args.groups.now) TOP_ROOM))))
    (drop_all (length c.args.groups.now) (tops_of c.args.self.now c.args.groups.now)
    (omega (arith, (evening c.args.self.now c.args.groups.now c.requires.may.groups).long))) in (
      omega arith,
      subst (Retopway c.args.self.now c.args.self.now c.args.groups.now (even_schedule c.args.self.now c.args.groups.now)) (sym none)
          (retopway-none c.args.self.now c.args.groups.now (even_schedule c.args.self.now c.args.groups.now) c.requires.may.groups),
    )

pub overflow_cast-left : goal.overflow_cast-left
overflow_cast-left c = omega (arith, (evening c.args.self.now c.args.groups.now c.requires.may.groups).few, c.loop-left.invariant.0)

pub spread-even-requires-clause-room : goal.spread-even-requires-clause-room
spread-even-requires-clause-room c = omega (arith, (evening c.args.self.now c.args.groups.now c.requires.may.groups).few)

pub group-requires : goal.group-requires
group-requires c =
    let way = c.loop-left.invariant.1 in
    omega (
      arith,
      (group_range c.args.self.now.links.size c.loop-left.self.sheet.words c.args.self.now.links.list c.args.groups.now (c.loop-left.left - 1)
          way.topway.sound way.topway.groups (omega (arith, c.loop-left.invariant.0, c.loop-left-test.true))).1,
      ap (λ (l : Chain). l.size) way.links,
    )

pub overflow_cast-left-then-group-even : goal.overflow_cast-left-then-group-even
overflow_cast-left-then-group-even c =
    omega (arith, (evening c.args.self.now c.args.groups.now c.requires.may.groups).few, c.loop-left.invariant.0)

pub retop-requires-clause-ascends : goal.retop-requires-clause-ascends
retop-requires-clause-ascends c = (may-write c.args.self.now c.loop-left.self c.args.groups.now _ (c.loop-left.left - 1) c.spread-even.result
    (raise-turn c.args.self.now c.loop-left.self c.args.groups.now c.loop-left.left c.group.result.top c.spread-even.result
    (next c.args.self.now c.loop-left.self c.args.groups.now c.loop-left.left c.spread-even.result c.group.result c.requires.may c.loop-left.invariant
    c.loop-left-test.true c.group.ensures c.spread-even.ensures) c.if-group-even.true).0).ascends

pub retop-requires-clause-version : goal.retop-requires-clause-version
retop-requires-clause-version c = (may-write c.args.self.now c.loop-left.self c.args.groups.now _ (c.loop-left.left - 1) c.spread-even.result
    (raise-turn c.args.self.now c.loop-left.self c.args.groups.now c.loop-left.left c.group.result.top c.spread-even.result
    (next c.args.self.now c.loop-left.self c.args.groups.now c.loop-left.left c.spread-even.result c.group.result c.requires.may c.loop-left.invariant
    c.loop-left-test.true c.group.ensures c.spread-even.ensures) c.if-group-even.true).0).version

pub retop-requires-clause-room : goal.retop-requires-clause-room
retop-requires-clause-room c = (may-write c.args.self.now c.loop-left.self c.args.groups.now _ (c.loop-left.left - 1) c.spread-even.result
    (raise-turn c.args.self.now c.loop-left.self c.args.groups.now c.loop-left.left c.group.result.top c.spread-even.result
    (next c.args.self.now c.loop-left.self c.args.groups.now c.loop-left.left c.spread-even.result c.group.result c.requires.may c.loop-left.invariant
    c.loop-left-test.true c.group.ensures c.spread-even.ensures) c.if-group-even.true).0).room

pub loop-left-preserved-then-group-even : goal.loop-left-preserved-then-group-even
loop-left-preserved-then-group-even c =
    let turn = raise-turn c.args.self.now c.loop-left.self c.args.groups.now c.loop-left.left c.group.result.top c.spread-even.result
    (next c.args.self.now c.loop-left.self c.args.groups.now c.loop-left.left c.spread-even.result c.group.result c.requires.may c.loop-left.invariant
    c.loop-left-test.true c.group.ensures c.spread-even.ensures) c.if-group-even.true in (
      omega (arith, c.loop-left.invariant.0),
      subst (Retopway c.args.self.now c.retop.new.self c.args.groups.now (even_schedule c.args.self.now c.args.groups.now)) (sym turn.1)
          (turn-done c.args.self.now c.loop-left.self c.retop.new.self c.args.groups.now _ (c.loop-left.left - 1) c.spread-even.result turn.0
          c.retop.ensures.groups c.retop.ensures.tops c.retop.ensures.stores),
    )

pub loop-left-preserved : goal.loop-left-preserved
loop-left-preserved c = (
  omega (arith, c.loop-left.invariant.0),
  raise-none c.args.self.now c.loop-left.self c.args.groups.now c.loop-left.left c.group.result.top c.spread-even.result
      (next c.args.self.now c.loop-left.self c.args.groups.now c.loop-left.left c.spread-even.result c.group.result c.requires.may c.loop-left.invariant
      c.loop-left-test.true c.group.ensures c.spread-even.ensures) (omega (arith, c.if-group-even.false)),
)

pub returns : goal.returns
returns c =
    let end : c.loop-left.left ≡ 0 = omega (arith, c.loop-left-test.false) in
    let way = subst (λ m. Retopway c.args.self.now c.loop-left.self c.args.groups.now (even_schedule c.args.self.now c.args.groups.now)
    (grown_from m (tops_of c.args.self.now c.args.groups.now) (evenly (length c.args.groups.now) TOP_ROOM))) end c.loop-left.invariant.1 in
    record { raised = record { may = c.requires.may; way = way } }
