-- One write takes the item out; the list is in order before it and after it.
use Rattle.std.proofs.Common.{◌≢◌, ◌+◌, ℕ, List, ap, subst, ◌∙◌, get_or, arith}
use Rattle.kc_lists.specs.Lists.{member}
use Rattle.kc_lists.proofs.Members.{without-member}
use Rattle.kc_list.specs.Plain.{Written}
use Rattle.kc_list.proofs.Whole.{note_kept, spare_versions, highest_once}
use Rattle.kc_words.specs.ItemWord.{item_of}
use Rattle.kc_list.proofs.Highest.{version-highest}
use Rattle.kc_list.proofs.Rewritings.{take_written}
use Rattle.kc_list.proofs.plain.PlainOrder.take.Goals as goal
use Rattle.kc_list.proofs.plain.PlainOrder.take.Goals.{After-take_item}

pub take_item-requires-clause-version : goal.take_item-requires-clause-version
take_item-requires-clause-version c =
    omega (
      arith,
      spare_versions c.self.inside.list.sheet.words c.clear.new.self.words c.args.self.now.words (1 + c.args.x) c.clear.ensures.words
          (ap (λ v. v.words) c.self.view_is) c.requires.versions,
    )

-- the one write, from the words as they were before the call
one_write : (c : After-take_item) → Written c.self.inside.list.links.size c.self.inside.list.links.list c.take_item.new.self.links.list c.args.x
    c.clear.new.self.words c.take_item.new.self.sheet.words c.take_item.new.self.sheet.writes
one_write c =
    let below = (c.self.inside.list.sound.inside c.args.x (ap (member c.args.x) (ap (λ v. v.list) c.self.view_is) ∙ c.requires.x_in)).below in
    take_written _ c.take_item.new.self c.args.x c.clear.ensures.writes c.take_item.ensures.takes below

pub invariant_of-self : goal.invariant_of-self
invariant_of-self c = record {
  fixed_in = λ y l. let apart : y ≢ c.args.x = (let q = c.requires.free in let f = ap (λ v. v.fixed) c.self.view_is in omega arith) in
      rw c.take_item.ensures.takes.list (without-member y c.args.x c.self.inside.list.links.list (c.self.invariant.fixed_in y l) apart);
  tallied = c.take_item.ensures.tallied;
  scratch_room = omega (arith, c.take_item.ensures.takes.size, c.self.invariant.scratch_room);
  write_room =
      omega (arith, c.take_item.ensures.takes.size, c.take_item.ensures.takes.stores.room, c.clear.ensures.room, c.self.invariant.write_room);
  note = note_kept c.self.inside.list.links.size c.self.inside.list.links.list c.take_item.new.self.links.list c.args.x c.clear.new.self.words
      c.take_item.new.self.sheet.words c.take_item.new.self.sheet.writes (one_write c)
      (ap (λ us. get_or us 0 0) c.clear.ensures.words ∙ c.self.invariant.note);
}

pub returns-clause-written : goal.returns-clause-written
returns-clause-written c =
    let P : List ℕ → Type 0 = λ us. Written c.self.inside.list.links.size c.self.inside.list.links.list c.take_item.new.self.links.list c.args.x us
    c.take_item.new.self.sheet.words c.take_item.new.self.sheet.writes in
    rw (← c.self.view_is) (subst P c.clear.ensures.words (one_write c))

pub returns-clause-highest : goal.returns-clause-highest
returns-clause-highest c =
    let start = λ (u : ℕ). version-highest c.args.self.now.words u in
    let kept = λ (u : ℕ). ap (λ us. (item_of (get_or us u 0)).version) (c.clear.ensures.words ∙ (ap (λ v. v.words) c.self.view_is)) in
    highest_once c.clear.new.self.words c.take_item.new.self.sheet.words (1 + c.args.x) _ _ c.take_item.ensures.takes.stores.words
    c.take_item.ensures.takes.stores.version
    (λ u ne. omega (arith, start u, kept u))
    (omega (arith, start (1 + c.args.x), kept (1 + c.args.x)))
