-- What a put of a vertex makes of a table's state.
use Rattle.std.proofs.Common.{◌≡◌, ℕ, ◌+◌, ◌<◌, cond, List, ◌∷◌, get_or, sym, ap, ◌∙◌}
use Rattle.std.proofs.lemmas.Bool.{lt-ltb}
use Rattle.kc_words.specs.declared.shape.Shape.{Shape}
use Rattle.kc_table.specs.declared.view.Event.{Event}
use Rattle.kc_table.specs.Log.{Seen}
use Rattle.kc_table.specs.TableState.{TableState, state_of, first_vertex}
use Rattle.kc_table.specs.Legal.{FollowsNote}
use Rattle.kc_order.specs.Writers.{Puts, unsealed_after}
use Rattle.kc_order.proofs.Leaving.{state-word}

-- what a put of a vertex leaves
pub record PutState (shape : Shape) (s t : TableState) (x : ℕ) : Type 0 where
  pub entries : t.entries ≡ s.entries
  pub unsealed : t.unsealed ≡ x ∷ s.unsealed
  pub words : (v : ℕ) → get_or t.words (first_vertex shape + v) 0 ≡ get_or s.words (first_vertex shape + v) 0
  pub quiet : (w : ℕ) → FollowsNote t.note w

-- a put in the log of one table
pub puts-state : (s : Seen) (log : List Event) (x p : ℕ) → Puts s (record { table = s.table; log = log }) x p → x < s.table.shape.fixed
    → PutState s.table.shape (state_of s.table.shape s.table.opening s.log) (state_of s.table.shape s.table.opening log) x
puts-state s log x p h vertex =
    let now : Seen = record { table = s.table; log = log } in
    record {
      entries = h.leaves.entries_are;
      unsealed = h.leaves.unsealed_are ∙ ap (λ b. cond b (x ∷ unsealed_after s) (unsealed_after s)) (lt-ltb x s.table.shape.fixed vertex);
      words = λ v. state-word now v ∙ (h.leaves.words_are v ∙ sym (state-word s v));
      quiet = h.leaves.quiet;
    }
