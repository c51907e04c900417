-- Laws of legal logs and of what they have made, for the crates above.
use Rattle.std.proofs.Common.{◌≡◌, ℕ, List, [], ◌∷◌, ◌++◌, set, eqb, inl, inr, refl, sym, ap, ◌∙◌, subst}
use Rattle.std.proofs.lemmas.Bool.{cases_Bool}
use mathlib.Core.List.{IsPrefix}
use Rattle.kc_words.specs.declared.shape.Shape.{Shape}
use Rattle.kc_graph.specs.SimpleGraph.{SimpleGraph}
use Rattle.kc_table.specs.declared.view.Event.{Event}
use Rattle.kc_table.specs.Log.{words_after}
use Rattle.kc_words.specs.NoteWord.{note_of}
use Rattle.kc_words.specs.declared.note.NoteWord.{NoteWord}
use Rattle.kc_words.specs.declared.note.NoteWord.TheVariants.{Nothing, Enter, Put, Take}
use Rattle.kc_table.specs.declared.entry.Entry.{Entry}
use Rattle.kc_table.proofs.Prefixes.{prefix_self, prefix_trans}
use Rattle.kc_table.specs.TableState.{entered, index_in, TableState, opened, after_store, after_stores, state_of}
use Rattle.kc_table.specs.Legal.{IsTableOpening, MayStore, StateHolds, Legal, LegalFrom}
use Rattle.kc_table.specs.Edges.{after_entry, after_entries}

-- what two logs make, one behind the other, is what the second makes of what the first has made
pub after_stores-append : (shape : Shape) (s : TableState) (es fs : List Event)
    → after_stores shape s (es ++ fs) ≡ after_stores shape (after_stores shape s es) fs
after_stores-append shape s [] fs = refl
after_stores-append shape s (e ∷ es) fs = after_stores-append shape (after_store shape s e) es fs

-- the graph after two lists of entries is that of the second after that of the first
pub after_entries-append : (g : SimpleGraph) (es fs : List Entry) → after_entries g (es ++ fs) ≡ after_entries (after_entries g es) fs
after_entries-append g [] fs = refl
after_entries-append g (e ∷ es) fs = after_entries-append (after_entry g e) es fs

-- stores that are legal from a state stay so with one behind them that may follow and keeps the rules
from-push : (shape : Shape) (s : TableState) (es : List Event) (e : Event) → LegalFrom shape s es → MayStore shape (after_stores shape s es) e
    → StateHolds shape (after_store shape (after_stores shape s es) e) → LegalFrom shape s (es ++ e ∷ [])
from-push shape s [] e h may holds = (may, holds, tt)
from-push shape s (x ∷ es) e h may holds = (h.0, h.1, from-push shape (after_store shape s x) es e h.2 may holds)

-- of stores that are legal from a state, the first ones are so too
from-front : (shape : Shape) (s : TableState) (es fs : List Event) → LegalFrom shape s (es ++ fs) → LegalFrom shape s es
from-front shape s [] fs h = tt
from-front shape s (x ∷ es) fs h = (h.0, h.1, from-front shape (after_store shape s x) es fs h.2)

-- of stores that are legal from a state, the last ones are so from what the first have made
pub legal_from-back : (shape : Shape) (s : TableState) (es fs : List Event) → LegalFrom shape s (es ++ fs) → LegalFrom shape (after_stores shape s es) fs
legal_from-back shape s [] fs h = h
legal_from-back shape s (x ∷ es) fs h = legal_from-back shape (after_store shape s x) es fs h.2

-- the rules hold after stores that are legal from a state where they held
from-last : (shape : Shape) (s : TableState) (es : List Event) → StateHolds shape s → LegalFrom shape s es → StateHolds shape (after_stores shape s es)
from-last shape s [] h a = h
from-last shape s (x ∷ es) h a = from-last shape (after_store shape s x) es a.1 a.2

-- the words after one store
pub after_store-words : (shape : Shape) (s : TableState) (e : Event) → (after_store shape s e).words ≡ set s.words e.word e.value
after_store-words shape s e = elim (cases_Bool (eqb e.word 0)) [ inl t ↦ rw t refl | inr f ↦ rw f refl ]

-- the words after stores are what the log alone makes of the words
after_stores-words : (shape : Shape) (s : TableState) (es : List Event) → (after_stores shape s es).words ≡ words_after s.words es
after_stores-words shape s [] = refl
after_stores-words shape s (e ∷ es) = after_stores-words shape (after_store shape s e) es ∙ ap (λ ws. words_after ws es) (after_store-words shape s e)

module _ (shape : Shape) (opening : List ℕ) where
  -- the words are those of the log's last stores
  pub state_of-words : (log : List Event) → (state_of shape opening log).words ≡ words_after opening log
  unfolding state_of
  state_of-words log = after_stores-words shape (opened shape opening) log

  -- what the empty log has made
  pub state_of-nil : state_of shape opening [] ≡ opened shape opening
  unfolding state_of
  state_of-nil = refl

  -- what a log with one more store has made
  pub state_of-push : (log : List Event) (e : Event) → state_of shape opening (log ++ e ∷ []) ≡ after_store shape (state_of shape opening log) e
  unfolding state_of
  state_of-push log e = after_stores-append shape (opened shape opening) log (e ∷ [])

  -- a table that was opened so may have an empty log
  pub legal-nil : IsTableOpening shape opening → Legal shape opening []
  unfolding Legal
  legal-nil h = (h, tt)

  -- a store that may follow, after which the rules hold, keeps the log legal
  pub legal-push : (log : List Event) (e : Event) → Legal shape opening log → MayStore shape (state_of shape opening log) e
      → StateHolds shape (after_store shape (state_of shape opening log) e) → Legal shape opening (log ++ e ∷ [])
  unfolding Legal state_of
  legal-push log e h may holds = (h.0, from-push shape (opened shape opening) log e h.1 may holds)

  -- each prefix of a legal log is legal
  pub legal-prefix : (p log : List Event) → IsPrefix p log → Legal shape opening log → Legal shape opening p
  unfolding Legal
  legal-prefix p log pre h = (h.0, from-front shape (opened shape opening) p pre.0 (subst (LegalFrom shape (opened shape opening)) (sym pre.1) h.1))

  -- the table was opened with such words
  pub legal-opens : (log : List Event) → Legal shape opening log → IsTableOpening shape opening
  unfolding Legal
  legal-opens log h = h.0

  -- the rules hold after a legal log
  pub legal-holds : (log : List Event) → Legal shape opening log → StateHolds shape (state_of shape opening log)
  unfolding Legal state_of
  legal-holds log h = from-last shape (opened shape opening) log h.0.holds h.1

  -- the last store of a legal log was one that might follow
  pub legal-last : (log : List Event) (e : Event) → Legal shape opening (log ++ e ∷ []) → MayStore shape (state_of shape opening log) e
  unfolding Legal state_of
  legal-last log e h = (legal_from-back shape (opened shape opening) log (e ∷ []) h.1).0

-- one store keeps the entries, or adds one behind them
entered-prefix : (index : ℕ) (note : NoteWord) (entries : List Entry) → IsPrefix entries (entered index note entries)
entered-prefix index Nothing entries = prefix_self entries
entered-prefix index (Enter add u v) entries = (record { index = index; add = add; u = u; v = v } ∷ [], refl)
entered-prefix index (Put x p) entries = prefix_self entries
entered-prefix index (Take x) entries = prefix_self entries

-- one store of any kind keeps the entries, or adds one behind them
after_store-entries : (shape : Shape) (s : TableState) (e : Event) → IsPrefix s.entries (after_store shape s e).entries
after_store-entries shape s e =
    elim (cases_Bool (eqb e.word 0)) [ inl t ↦ rw t (entered-prefix (index_in s) (note_of e.value) s.entries) | inr f ↦ rw f (prefix_self s.entries) ]

-- stores keep the entries, and add some behind them
after_stores-entries : (shape : Shape) (s : TableState) (es : List Event) → IsPrefix s.entries (after_stores shape s es).entries
after_stores-entries shape s [] = prefix_self s.entries
after_stores-entries shape s (e ∷ es) =
    prefix_trans s.entries (after_store shape s e).entries (after_stores shape (after_store shape s e) es).entries
    (after_store-entries shape s e) (after_stores-entries shape (after_store shape s e) es)

-- a longer log has the entries of a prefix, and some more behind them
pub entries-prefix : (shape : Shape) (opening : List ℕ) (p log : List Event) → IsPrefix p log
    → IsPrefix (state_of shape opening p).entries (state_of shape opening log).entries
unfolding state_of
entries-prefix shape opening p log pre =
    subst (λ l. IsPrefix (after_stores shape (opened shape opening) p).entries (after_stores shape (opened shape opening) l).entries) pre.1
    (subst (λ s. IsPrefix (after_stores shape (opened shape opening) p).entries s.entries)
    (sym (after_stores-append shape (opened shape opening) p pre.0))
    (after_stores-entries shape (after_stores shape (opened shape opening) p) pre.0))
