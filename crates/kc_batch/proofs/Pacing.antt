-- Tables are ended no faster than entries are made: a fresh one is not nearly spent before something is stored in it, and that is for an entry.
use Rattle.std.proofs.Common.{◌≡◌, ◌⊎◌, inl, inr, ℕ, ◌+◌, ◌<◌, ◌≤◌, List, [], ◌∷◌, ◌++◌, get_or, length, ap, ◌∙◌, arith, length-append}
use Rattle.std.proofs.lemmas.Bool.{cases_lt}
use Rattle.kc_graph.specs.declared.update.Update.{Update}
use Rattle.kc_table.specs.declared.view.Event.{Event}
use Rattle.kc_table.specs.Legal.{version_of}
use Rattle.kc_table.specs.Log.{PassSeen, TableName, value_at}
use Rattle.kc_table.proofs.LegalLogs.{legal-opens}
use Rattle.kc_journal.specs.Journals.{Journalled, Stands}
use Rattle.kc_journal.proofs.AfterEntry.{number-is}
use Rattle.kc_batch.specs.Batches.{KeepsPace}
use Rattle.kc_batch.specs.Runs.{IsNearlySpent, IsRenewal, StaysIn}

-- a table that opened at version 0 is not nearly spent while nothing is stored in it
fresh-lasts : (j : Journalled) → Stands j → j.levels.log ≡ [] → j.levels.table.shape.version ≡ 0 → IsNearlySpent j.levels.table j.levels.log → ⊥
fresh-lasts j stands none zero spent =
    let t = j.levels.table in
    let opens = legal-opens t.shape t.opening j.levels.log stands.levels.legal in
    let now : version_of (value_at t.opening j.levels.log spent.word) ≡ version_of (get_or t.opening spent.word 0) =
    ap (λ (log : List Event). version_of (value_at t.opening log spent.word)) none in
    omega (arith, now, opens.versions spent.word spent.versioned, zero, spent.exceeds, t.shape.fixed_in, t.shape.few_items)

-- a round more, which stores nothing where it makes no entry
pub pace-round : (old now next : Journalled) (batch : List Update) (ended : List PassSeen) (made : ℕ) → Stands now → StaysIn now next
    → length next.entries ≡ length now.entries + made → (length next.entries ≡ length now.entries → next.levels.log ≡ now.levels.log)
    → (ended ≡ []) ⊎ KeepsPace old now batch ended → (ended ≡ []) ⊎ KeepsPace old next batch ended
pace-round old now next batch ended made stands stays total quiet (inl none) = inl none
pace-round old now next batch ended made stands stays total quiet (inr p) =
    let base = ap (λ (t : TableName). t.shape.base) stays.table in
    let here = number-is now stands in
    inr (record {
      version = ap (λ (t : TableName). t.shape.version) stays.table ∙ p.version;
      slow = omega (arith, p.slow, base);
      some_left = omega (arith, p.some_left, base);
      quiet = λ e. quiet (omega (arith, e, total, base, here)) ∙ p.quiet (omega (arith, e, total, base, here));
    })

-- a table more, while an update of the batch is left
pub pace-renewed : (old now next : Journalled) (batch : List Update) (ended : List PassSeen) (last : PassSeen) → IsRenewal now last now next
    → length old.entries ≤ length now.entries → length now.entries < length old.entries + length batch
    → (ended ≡ []) ⊎ KeepsPace old now batch ended → KeepsPace old next batch (ended ++ last ∷ [])
pace-renewed old now next batch ended last r grown left pace = record {
  version = r.renews.version_is;
  slow = omega (arith, r.renews.base, length-append ended (last ∷ []), before pace);
  some_left = omega (arith, r.renews.base, left);
  quiet = λ e. r.renews.log;
}
  where
    before : (ended ≡ []) ⊎ KeepsPace old now batch ended → length old.entries + length ended ≤ length now.entries
    before (inl none) = omega (arith, grown, ap (λ (ps : List PassSeen). length ps) none)
    before (inr p) = elim (cases_lt now.levels.table.shape.base (length now.entries)) [
      | inl more ↦ omega (arith, p.slow, more)
      | inr same ↦ absurd (fresh-lasts now r.stands (p.quiet (omega (arith, same, number-is now r.stands))) p.version r.spent)
    ]

-- no more tables were ended than the batch has updates
pub pace-few : (old now : Journalled) (batch : List Update) (ended : List PassSeen) → (ended ≡ []) ⊎ KeepsPace old now batch ended
    → length ended ≤ length batch
pace-few old now batch ended (inl none) = omega (arith, ap (λ (ps : List PassSeen). length ps) none)
pace-few old now batch ended (inr p) = omega (arith, p.slow, p.some_left)
