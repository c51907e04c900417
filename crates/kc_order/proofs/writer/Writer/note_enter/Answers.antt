-- The index may follow where nothing is announced, and then the note where the section before is closed.
use Rattle.std.proofs.Common.{◌≡◌, ◌++◌, [], ◌∷◌, ℕ, sym, ap, ◌∙◌, subst, arith}
use Rattle.kc_words.specs.NoteWord.{note_word}
use Rattle.kc_words.specs.declared.note.NoteWord.TheVariants.{Enter}
use Rattle.kc_table.specs.Legal as legal
use Rattle.kc_table.specs.declared.entry.Entry.{Entry}
use Rattle.kc_table.specs.Log.{Seen, event}
use Rattle.kc_table.specs.TableState.{state_of}
use Rattle.kc_order.specs.Writers.{with_store}
use Rattle.kc_order.proofs.Sections.{EntryStored, both-stored, entry-stored, stores-entry, with_both}
use Rattle.kc_order.proofs.writer.Writer.note_enter.Goals.{After-self}
use Rattle.kc_order.proofs.writer.Writer.note_enter.Goals as goal

-- the entry
abbrev entry : After-self → Entry
entry c = record { index = c.args.index; add = c.args.update.add; u = c.args.update.u; v = c.args.update.v }

-- the word of its note
abbrev note : After-self → ℕ
note c = note_word (Enter c.args.update.add c.args.update.u c.args.update.v)

-- what was seen before
abbrev before : After-self → Seen
before c = c.self.inside.seat

-- both may be stored
stored : (c : After-self) → EntryStored (before c) c.self.inside.plain c.args.index (note c) (entry c)
stored c =
    entry-stored (before c) c.self.inside.plain c.args.index c.args.update.add c.args.update.u c.args.update.v c.self.invariant
    (omega (arith, c.requires.index)) (omega (arith, c.requires.fits.0), omega (arith, c.requires.fits.1))
    (subst (λ (s : Seen). (state_of s.table.shape s.table.opening s.log).unsealed ≡ []) (sym c.self.view_is) c.requires.closed)

-- the index was stored, and then the note
both-are : (c : After-self) (between new : Seen) → between ≡ with_store (before c) 0 c.from-index.result → new ≡ with_store between 0 c.pack-note.result
    → new ≡ with_both (before c) c.args.index (note c)
both-are c between new between-is new-is =
    both-stored (before c) between new c.from-index.result c.args.index c.pack-note.result (note c) between-is c.from-index.ensures
    new-is c.pack-note.ensures.word

pub store-requires-clause-legal : goal.store-requires-clause-legal
store-requires-clause-legal c =
    let at = (goal.at.store-requires-clause-legal c).After-self in
    subst (λ (value : ℕ). legal.Legal (before at).table.shape (before at).table.opening ((before at).log ++ event 0 value ∷ []))
    (sym at.from-index.ensures) (stored at).indexed

pub store-requires-2-clause-legal : goal.store-requires-2-clause-legal
store-requires-2-clause-legal c =
    let at = (goal.at.store-requires-2-clause-legal c).After-self in
    let between : c.store.new.writer ≡ with_store (before at) 0 c.args.index =
    c.store.ensures ∙ ap (λ (value : ℕ). with_store (before at) 0 value) at.from-index.ensures in
    subst (λ (z : Seen × ℕ). legal.Legal z.0.table.shape z.0.table.opening (z.0.log ++ event 0 z.1 ∷ []))
    (λ i. (sym between i, sym at.pack-note.ensures.word i)) (stored at).noted

pub invariant_of-self : goal.invariant_of-self
invariant_of-self c =
    let at = (goal.at.invariant_of-self c).After-self in
    (stored at).tied c.store-2.new.writer (both-are at c.store.new.writer c.store-2.new.writer c.store.ensures c.store-2.ensures)

pub returns-clause-stored : goal.returns-clause-stored
returns-clause-stored c =
    let at = (goal.at.returns-clause-stored c).After-self in
    (stores-entry (before at) c.args.self.now c.store-2.new.writer c.self.inside.plain c.args.index (note at) (entry at) c.self.view_is (stored at)
    (both-are at c.store.new.writer c.store-2.new.writer c.store.ensures c.store-2.ensures)).0

pub returns-clause-leaves : goal.returns-clause-leaves
returns-clause-leaves c =
    let at = (goal.at.returns-clause-leaves c).After-self in
    (stores-entry (before at) c.args.self.now c.store-2.new.writer c.self.inside.plain c.args.index (note at) (entry at) c.self.view_is (stored at)
    (both-are at c.store.new.writer c.store-2.new.writer c.store.ensures c.store-2.ensures)).1
