-- Each stripe so far stands at its number, is of this opening, has seen what the pass has, and its records have the opening stamps.
use Rattle.std.proofs.Common.{◌≡◌, ◌<◌, ℕ, true, vec_len, get_or}
use Rattle.std.specs.Prelude.{All, slice_index}
use Rattle.kc_stripes.specs.Records.{Striped, belongs, record_of}
use Rattle.kc_table.specs.Log.{opened_with}
use Rattle.kc_stripes.proofs.stripe.open_stripes.Given as goal

abbrev pub invariant-loop-number : goal.invariant-loop-number
invariant-loop-number l =
    (vec_len l.stripes ≡ l.number) × (l.pass.table ≡ l.fn.pass.table) × (l.pass.log ≡ l.fn.pass.log)
    × ((i : ℕ) (s : Striped) → i < l.number → (get_or l.stripes.items i s).number ≡ i)
    × All (λ s. s.opened ≡ opened_with l.words l.graph l.at.items) l.stripes.items
    × All (λ s. s.seen ≡ l.fn.pass.log) l.stripes.items
    × All (λ s. (v : ℕ) → belongs s v ≡ true → (record_of s v).at ≡ slice_index l.at.items v) l.stripes.items
