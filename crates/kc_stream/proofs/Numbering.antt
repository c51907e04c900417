-- A table of numbers that grows keeps what it says.
use Rattle.std.proofs.Common.{◌≡◌, ◌<◌, ◌≤◌, ◌-◌, ◌∙◌, ℕ, List, ◌++◌, Option, Some, ap, arith, cond, get_or, length, nat_eq, nat_lt, replicate, sym, inl, inr, refl, take, Bool, true, false, [], ◌∷◌}
use Rattle.std.specs.HashMap.{HashMap, get}
use Rattle.std.proofs.Math.ListN.{get_or-append}
use Rattle.std.proofs.Math.Seq.{get_or-append_right}
use Rattle.std.proofs.lemmas.Bool.{cases_lt}
use Rattle.std.proofs.lemmas.List.{get_or-replicate, get_or_past, length-replicate, take_all}
use Rattle.kc_graph.specs.Peeling.{at}
use Rattle.kc_stream.specs.Numbers.{number_in}

-- among zeros stands 0, and behind them, too
at-zeros : (n q : ℕ) → at (replicate n 0) q ≡ 0
at-zeros n q = elim (cases_lt q n) [
  | inl low ↦ get_or-replicate {A = ℕ} n q 0 0 low
  | inr high ↦ get_or_past (replicate n 0) q 0 (omega (arith, high, length-replicate {A = ℕ} n 0))
]

-- with zeros behind it a table says the same of each id
pub at-roomy : (table : List ℕ) (n q : ℕ) → at (table ++ replicate n 0) q ≡ at table q
at-roomy table n q = elim (cases_lt q (length table)) [
  | inl low ↦ get_or-append table (replicate n 0) 0 q low
  | inr high ↦
      let past : length table ≤ q = omega (arith, high) in
      get_or-append_right table (replicate n 0) q 0 past ∙ at-zeros n (q - length table) ∙ sym (get_or_past table q 0 past)
]

-- a table that is made as long as a place behind it, and then perhaps by one zero longer, says the same
pub at-longer : (table longer last : List ℕ) (place n : ℕ) (pushed : Bool) → length table ≤ place → longer ≡ take place table ++ replicate n 0
    → last ≡ cond pushed (longer ++ 0 ∷ []) longer → (q : ℕ) → at last q ≡ at table q
at-longer table longer last place n pushed past long is = λ q.
    ap (λ (l : List ℕ). at l q) is ∙ (elim pushed as (λ b. at (cond b (longer ++ 0 ∷ []) longer) q ≡ at longer q) [
      | true ↦ at-roomy longer 1 q
      | false ↦ refl
    ]) ∙ ap (λ (l : List ℕ). at l q) long ∙ ap (λ (l : List ℕ). at (l ++ replicate n 0) q) (take_all place table past) ∙ at-roomy table n q

-- tables that say the same of an id give it the same number
pub numbers-same : {S : Type 0} (table more : List ℕ) (others : HashMap ℕ ℕ S) (q : ℕ) → at more q ≡ at table q
    → number_in more others q ≡ number_in table others q
numbers-same table more others q same = ap (λ (n : ℕ). cond (nat_lt 0 n) (Some (n - 1)) (get nat_eq others q)) same
