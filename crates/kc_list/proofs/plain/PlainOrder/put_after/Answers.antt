-- Way is made for the item, then one write moves it: no word rises twice but that of `x`.
use Rattle.std.proofs.Common.{◌≡◌, ◌+◌, ℕ, List, ap, subst, ◌∙◌, get_or, length, arith}
use Rattle.std.proofs.lemmas.List.{get_or-set_other}
use Rattle.kc_words.specs.ItemWord.{item_of}
use Rattle.kc_lists.specs.Lists.{member, right_after, without}
use Rattle.kc_list.specs.Plain.{Written}
use Rattle.kc_list.proofs.Whole.{note_kept, put_keeps, spare_versions, highest_once}
use Rattle.kc_list.proofs.Highest.{version-highest}
use Rattle.kc_list.proofs.Rewritings.{call_written, put_list}
use Rattle.kc_list.proofs.plain.PlainOrder.put_after.Goals.{After-move_item}
use Rattle.kc_list.proofs.plain.PlainOrder.put_after.Goals as goal

-- the links have the item right after `p`, and their size
links_put : (c : After-move_item) → (c.move_item.new.self.links.size ≡ c.self.inside.list.links.size)
    × (c.move_item.new.self.links.list ≡ right_after c.args.x c.args.p (without c.args.x c.self.inside.list.links.list))
links_put c = put_list _ c.make_way-low.new.self c.move_item.new.self c.args.x c.args.p _ c.make_way-low.ensures.rewrites c.move_item.ensures.puts

-- what the call has written
written_by : (c : After-move_item) → Written c.self.inside.list.links.size c.self.inside.list.links.list c.move_item.new.self.links.list c.args.x
    c.clear.new.self.words c.move_item.new.self.sheet.words c.move_item.new.self.sheet.writes
written_by c = call_written _ c.make_way-low.new.self c.move_item.new.self c.args.x _ c.clear.ensures.writes c.make_way-low.ensures.rewrites
    c.move_item.ensures.puts.size c.move_item.ensures.puts.stores (omega (arith, c.requires.x_within, ap (λ v. v.items) c.self.view_is))

pub make_way-low-requires-clause-items : goal.make_way-low-requires-clause-items
make_way-low-requires-clause-items c = (
  omega (arith, c.requires.x_within, ap (λ v. v.items) c.self.view_is),
  ap (member c.args.p) (ap (λ v. v.list) c.self.view_is) ∙ c.requires.p_in,
)

pub make_way-low-requires-clause-spare : goal.make_way-low-requires-clause-spare
make_way-low-requires-clause-spare c = record {
  versions = λ w. omega (
    arith,
    spare_versions c.self.inside.list.sheet.words c.clear.new.self.words c.args.self.now.words w c.clear.ensures.words
        (ap (λ v. v.words) c.self.view_is) c.requires.versions,
  );
  room = rw c.clear.ensures.writes (omega (arith, c.clear.ensures.room, c.self.invariant.write_room));
}

pub label_between-label-requires : goal.label_between-label-requires
label_between-label-requires c = omega (arith, c.make_way-low.ensures.told.low, c.make_way-low.ensures.told.high, c.make_way-low.ensures.way.gap)

pub move_item-requires-clause-fits : goal.move_item-requires-clause-fits
move_item-requires-clause-fits c = record {
  p_in = rw c.make_way-low.ensures.rewrites.links (ap (member c.args.p) (ap (λ v. v.list) c.self.view_is) ∙ c.requires.p_in);
  low = omega (arith, c.make_way-low.ensures.told.low, c.label_between-label.ensures.low);
  high = omega (arith, c.make_way-low.ensures.told.high, c.label_between-label.ensures.high);
}

pub move_item-requires-clause-x_within : goal.move_item-requires-clause-x_within
move_item-requires-clause-x_within c = rw c.make_way-low.ensures.rewrites.links (omega (arith, c.requires.x_within, ap (λ v. v.items) c.self.view_is))

pub move_item-requires-clause-version : goal.move_item-requires-clause-version
move_item-requires-clause-version c =
    omega (
      arith,
      spare_versions c.self.inside.list.sheet.words c.clear.new.self.words c.args.self.now.words (1 + c.args.x) c.clear.ensures.words
          (ap (λ v. v.words) c.self.view_is) c.requires.versions,
      c.make_way-low.ensures.rewrites.versions (1 + c.args.x),
    )

pub move_item-requires-clause-room : goal.move_item-requires-clause-room
move_item-requires-clause-room c =
    let none = ap length c.clear.ensures.writes in
    omega (
      arith,
      none,
      c.make_way-low.ensures.rewrites.count,
      c.make_way-low.ensures.rewrites.room,
      c.clear.ensures.room,
      c.self.invariant.write_room,
    )

pub invariant_of-self : goal.invariant_of-self
invariant_of-self c =
    let at = (goal.at.invariant_of-self c).After-move_item in
    let list = links_put at in
    record {
      fixed_in = λ y l. rw list.1
          (put_keeps c.args.x c.args.p y c.self.inside.list.links.list (ap (member c.args.p) (ap (λ v. v.list) c.self.view_is) ∙ c.requires.p_in)
          c.requires.differ (c.self.invariant.fixed_in y l));
      tallied = c.move_item.ensures.tallied;
      scratch_room = omega (arith, list.0, c.make_way-low.ensures.scratch, c.self.invariant.scratch_room);
      write_room = omega (
        arith,
        list.0,
        c.move_item.ensures.puts.stores.room,
        c.make_way-low.ensures.rewrites.room,
        c.clear.ensures.room,
        c.self.invariant.write_room,
      );
      note = note_kept c.self.inside.list.links.size c.self.inside.list.links.list c.move_item.new.self.links.list c.args.x c.clear.new.self.words
          c.move_item.new.self.sheet.words c.move_item.new.self.sheet.writes (written_by at)
          (ap (λ us. get_or us 0 0) c.clear.ensures.words ∙ c.self.invariant.note);
    }

pub returns-clause-items : goal.returns-clause-items
returns-clause-items c = rw (← c.self.view_is) (links_put (goal.at.returns-clause-items c).After-move_item).0

pub returns-clause-list : goal.returns-clause-list
returns-clause-list c = rw (← c.self.view_is) (links_put (goal.at.returns-clause-list c).After-move_item).1

pub returns-clause-written : goal.returns-clause-written
returns-clause-written c =
    let P : List ℕ → Type 0 = λ us. Written c.self.inside.list.links.size c.self.inside.list.links.list c.move_item.new.self.links.list c.args.x us
    c.move_item.new.self.sheet.words c.move_item.new.self.sheet.writes in
    rw (← c.self.view_is) (subst P c.clear.ensures.words (written_by (goal.at.returns-clause-written c).After-move_item))

pub returns-clause-once : goal.returns-clause-once
returns-clause-once c w ne =
    let start = ap (λ us. (item_of (get_or us w 0)).version) (c.clear.ensures.words ∙ (ap (λ v. v.words) c.self.view_is)) in
    let end = ap (λ z. (item_of z).version)
    (ap (λ us. get_or us w 0) c.move_item.ensures.puts.stores.words ∙ get_or-set_other c.make_way-low.new.self.sheet.words (1 + c.args.x) w _ 0 ne) in
    omega (arith, c.make_way-low.ensures.rewrites.versions w, start, end)

pub returns-clause-twice : goal.returns-clause-twice
returns-clause-twice c =
    let start = ap (λ us. (item_of (get_or us (1 + c.args.x) 0)).version) (c.clear.ensures.words ∙ (ap (λ v. v.words) c.self.view_is)) in
    omega (arith, c.make_way-low.ensures.rewrites.versions (1 + c.args.x), start, c.move_item.ensures.puts.stores.version)

pub returns-clause-highest : goal.returns-clause-highest
returns-clause-highest c =
    let start = λ (u : ℕ). version-highest c.args.self.now.words u in
    let kept = λ (u : ℕ). ap (λ us. (item_of (get_or us u 0)).version) (c.clear.ensures.words ∙ (ap (λ v. v.words) c.self.view_is)) in
    highest_once c.make_way-low.new.self.sheet.words c.move_item.new.self.sheet.words (1 + c.args.x) _ _ c.move_item.ensures.puts.stores.words
    c.move_item.ensures.puts.stores.version
    (λ u ne. omega (arith, c.make_way-low.ensures.rewrites.versions u, start u, kept u))
    (omega (arith, c.make_way-low.ensures.rewrites.versions (1 + c.args.x), start (1 + c.args.x), kept (1 + c.args.x)))
