-- The batches of a run among its entries.
use Rattle.std.specs.Prelude.{◌≡◌, ◌+◌, ℕ, List, [], ◌∷◌, ◌++◌, length, sum_by}
use Rattle.kc_graph.specs.declared.update.Update.{Update}
use Rattle.kc_table.specs.declared.entry.Entry.{Entry}
use Rattle.kc_batch_effects.specs.Entered.{IsOrderOf}

-- how many updates they have
abbrev pub update_count : List (List Update) → ℕ
update_count batches = sum_by (λ batch. length batch) batches

-- These are the updates of the batches and nothing else, each under its index: those of an earlier batch before those of a later one, and
-- those of one batch in some order. The first update has the index `first`.
abbrev pub AreEnteredInTurn : ℕ → List (List Update) → List Entry → Type 0
AreEnteredInTurn first [] entries = entries ≡ []
AreEnteredInTurn first (batch ∷ batches) entries = (made : List Entry) × (later : List Entry) × (entries ≡ made ++ later)
    × IsOrderOf first batch made × AreEnteredInTurn (first + length batch) batches later
