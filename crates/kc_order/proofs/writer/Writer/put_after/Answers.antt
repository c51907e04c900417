-- The plain list's writes, stored with the note before the last.
use Rattle.std.proofs.Common.{subst}
use Rattle.kc_words.specs.NoteWord.{note_word}
use Rattle.kc_words.specs.declared.note.NoteWord.TheVariants.{Put}
use Rattle.kc_table.specs.Legal.{Legal}
use Rattle.kc_table.specs.Log.{Seen}
use Rattle.kc_order.proofs.Writing.{Wrote, highest-at, put-fits, put-at, put-now, twice-put}
use Rattle.kc_order.proofs.writer.Writer.put_after.Goals.{After-writes}
use Rattle.kc_order.proofs.writer.Writer.put_after.Goals as goal

-- what the plain list wrote puts the item
put_written : (c : After-writes) → Wrote c.self.inside.seat c.put_after.new.self (note_word (Put c.args.x c.args.p)) c.args.x c.writes.result.now
put_written c =
    let e = c.put_after.ensures in
    put-at c.self.inside.seat c.args.self.now c.args.words.now c.self.inside.plain c.put_after.new.self c.args.x c.args.p c.writes.result.now
    c.self.view_is c.requires.table c.self.invariant c.requires.versions c.requires.x_in c.requires.p_in c.requires.differ c.requires.section
    c.writes.ensures e.items e.fixed e.list e.written e.highest

pub put_after-requires-clause-versions : goal.put_after-requires-clause-versions
put_after-requires-clause-versions c = highest-at c.self.inside.seat c.args.self.now c.self.inside.plain c.self.view_is c.self.invariant c.requires.versions

pub store_writes-requires-clause-fitting : goal.store_writes-requires-clause-fitting
store_writes-requires-clause-fitting c =
    put-fits c.args.self.now c.args.words.now c.args.x c.args.p
    (subst (λ (s : Seen). Legal s.table.shape s.table.opening s.log) c.self.view_is c.self.invariant.legal) c.requires.table
    c.requires.x_in c.requires.p_in

pub store_writes-requires-clause-some : goal.store_writes-requires-clause-some
store_writes-requires-clause-some c = (put_written (goal.at.store_writes-requires-clause-some c).After-writes).some

pub store_writes-requires-clause-legal : goal.store_writes-requires-clause-legal
store_writes-requires-clause-legal c = (put_written (goal.at.store_writes-requires-clause-legal c).After-writes).legal_

pub invariant_of-self : goal.invariant_of-self
invariant_of-self c = (put_written (goal.at.invariant_of-self c).After-writes).tied c.store_writes.new.seat c.store_writes.ensures

pub returns : goal.returns
returns c =
    let e = c.put_after.ensures in
    put-now c.self.inside.seat c.args.self.now c.store_writes.new.seat c.args.words.now c.self.inside.plain c.put_after.new.self c.args.x c.args.p
    c.writes.result.now c.self.view_is c.requires.table c.self.invariant (put_written (goal.at.returns c).After-writes) c.requires.x_in c.requires.p_in
    e.list c.store_writes.ensures (twice-put c.self.inside.plain c.put_after.new.self c.args.x e.once e.twice)
