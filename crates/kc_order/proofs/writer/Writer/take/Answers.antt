-- The plain list's one write, stored with the note before it.
use Rattle.std.proofs.Common.{subst, ap, length, ◌∙◌}
use Rattle.kc_words.specs.NoteWord.{note_word}
use Rattle.kc_words.specs.declared.note.NoteWord.TheVariants.{Take}
use Rattle.kc_table.specs.Legal.{Legal}
use Rattle.kc_table.specs.Log.{Seen}
use Rattle.kc_order.proofs.Writing.{Wrote, highest-at, item-fits, taken-at, taken-now, once-take}
use Rattle.kc_order.proofs.writer.Writer.take.Goals.{After-writes}
use Rattle.kc_order.proofs.writer.Writer.take.Goals as goal

-- what the plain list wrote takes the item
take_written : (c : After-writes) → Wrote c.self.inside.seat c.take.new.self (note_word (Take c.args.x)) c.args.x c.writes.result.now
take_written c =
    let e = c.take.ensures in
    taken-at c.self.inside.seat c.args.self.now c.args.words.now c.self.inside.plain c.take.new.self c.args.x c.writes.result.now
    c.self.view_is c.requires.table c.self.invariant c.requires.versions c.requires.x_in c.requires.free c.writes.ensures e.items
    e.fixed e.list e.written e.highest

pub take-requires-clause-versions : goal.take-requires-clause-versions
take-requires-clause-versions c = highest-at c.self.inside.seat c.args.self.now c.self.inside.plain c.self.view_is c.self.invariant c.requires.versions

pub store_writes-requires-clause-fitting : goal.store_writes-requires-clause-fitting
store_writes-requires-clause-fitting c =
    item-fits c.args.self.now c.args.x
    (subst (λ (s : Seen). Legal s.table.shape s.table.opening s.log) c.self.view_is c.self.invariant.legal) c.requires.x_in

pub store_writes-requires-clause-legal : goal.store_writes-requires-clause-legal
store_writes-requires-clause-legal c = (take_written (goal.at.store_writes-requires-clause-legal c).After-writes).legal_

pub invariant_of-self : goal.invariant_of-self
invariant_of-self c = (take_written (goal.at.invariant_of-self c).After-writes).tied c.store_writes.new.seat c.store_writes.ensures

pub returns : goal.returns
returns c =
    let e = c.take.ensures in
    taken-now c.self.inside.seat c.args.self.now c.store_writes.new.seat c.self.inside.plain c.take.new.self c.args.x c.writes.result.now
    c.self.view_is c.self.invariant (take_written (goal.at.returns c).After-writes) c.requires.x_in e.list c.store_writes.ensures
    (ap length c.writes.ensures ∙ e.single) (once-take c.self.inside.plain c.take.new.self c.args.x e.written e.single)
