-- One batch more among the entries of a run.
use Rattle.std.proofs.Common.{◌≡◌, ℕ, ◌+◌, List, [], ◌∷◌, ◌++◌, length, refl, sym, ap, ap₂, ◌∙◌, subst, arith, append_assoc, append-nil, length-append}
use Rattle.std.proofs.lemmas.List.Sums.{sum_by-cons}
use Rattle.kc_graph.specs.declared.update.Update.{Update}
use Rattle.kc_table.specs.declared.entry.Entry.{Entry}
use Rattle.kc_batch_effects.specs.Entered.{IsOrderOf}
use Rattle.kc_run.specs.Entered.{AreEnteredInTurn, update_count}

-- There are as many entries as the batches have updates.
pub as-many-entered : (first : ℕ) (batches : List (List Update)) (entries : List Entry) → AreEnteredInTurn first batches entries
    → length entries ≡ update_count batches
as-many-entered first [] entries h = ap length h
as-many-entered first (batch ∷ batches) entries h =
    ap length h.2 ∙ (length-append h.0 h.1 ∙ (ap₂ (λ (m n : ℕ). m + n) h.3.as_many (as-many-entered (first + length batch) batches h.1 h.4)
    ∙ sym (sum_by-cons (λ (b : List Update). length b) batch batches)))

-- One batch more is entered behind them.
pub one-more : (first : ℕ) (batches : List (List Update)) (entries : List Entry) (batch : List Update) (made : List Entry)
    → AreEnteredInTurn first batches entries → IsOrderOf (first + length entries) batch made
    → AreEnteredInTurn first (batches ++ batch ∷ []) (entries ++ made)
one-more first [] entries batch made h order =
    let none : length entries ≡ 0 = ap length h in (
      made,
      [],
      ap (λ (es : List Entry). es ++ made) h ∙ sym (append-nil made),
      subst (λ (n : ℕ). IsOrderOf n batch made) (omega (arith, none)) order,
      refl,
    )
one-more first (b ∷ batches) entries batch made h order =
    let long : length entries ≡ length b + length h.1 = ap length h.2 ∙ (length-append h.0 h.1 ∙ ap (λ (n : ℕ). n + length h.1) h.3.as_many) in (
      h.0,
      h.1 ++ made,
      ap (λ (es : List Entry). es ++ made) h.2 ∙ append_assoc h.0 h.1 made,
      h.3,
      one-more (first + length b) batches h.1 batch made h.4
          (subst (λ (n : ℕ). IsOrderOf n batch made) (omega (arith, long)) order),
    )
