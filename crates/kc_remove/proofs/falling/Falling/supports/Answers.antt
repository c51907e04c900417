-- The edge to `z` stays, and `z` is above the level, or of it and not gone: who is gone is of the level.
use Rattle.std.proofs.Common.{◌≡◌, ◌≢◌, ℕ, Bool, true, false, not, ◌&&◌, leb, ltb, sym, ◌∙◌, arith, inl, inr}
use Rattle.std.proofs.lemmas.Bool.{cases_Bool}
use Rattle.kc_view.proofs.Fronts.{take-member}
use Rattle.kc_remove.proofs.Coming.{told-core}
use Rattle.kc_remove.proofs.Tidy.{tidy-neighbour}
use Rattle.kc_remove.proofs.falling.Falling.supports.Goals as goal

-- a neighbour of another core number than the level counts just where it is above it
other_level-counted : (core level number : ℕ) (j m : Bool) → core ≢ level → core ≡ number → j ≡ false → (m ≡ true → number ≡ level)
    → ltb level core ≡ (not j && (leb level number && not m))
other_level-counted core level number j m ne e out low = elim (cases_Bool m) [
  | inl t ↦ let k : number ≡ level = low t in absurd (ne (e ∙ k))
  | inr f ↦ grind (arith, ne, e, out, f)
]

-- and one of the level just where it is not gone
of_it : (core level number : ℕ) (j m gone : Bool) → core ≡ level → core ≡ number → j ≡ false → gone ≡ m
    → not gone ≡ (not j && (leb level number && not m))
of_it core level number j m gone is e out k = grind (arith, is, e, out, k)

pub returns-then-core-search-clause-tidy : goal.returns-then-core-search-clause-tidy
returns-then-core-search-clause-tidy g c =
    let r = c.requires in
    tidy-neighbour _ _ _ _ c.args.y.vertex _ r.tidy c.core_of.ensures.goes_on c.in_ok-core.ensures.told r.read r.neighbour

pub returns-then-core-search-clause-told : goal.returns-then-core-search-clause-told
returns-then-core-search-clause-told g c = λ s a of_level.
    let o = c.in_ok-core.ensures in
    other_level-counted _ _ _ _ _ c.if-core-search.true (told-core _ _ s _ _ a o.told o.core) (sym c.joins.ensures ∙ c.if-joins.false)
    (λ m. of_level c.args.z (take-member c.args.y.turns c.args.self.now.seen.weak.items c.args.z m))

pub returns-clause-tidy : goal.returns-clause-tidy
returns-clause-tidy g c =
    let r = c.requires in
    tidy-neighbour _ _ _ _ c.args.y.vertex _ r.tidy c.core_of.ensures.goes_on c.in_ok-core.ensures.told r.read r.neighbour

pub returns-clause-told : goal.returns-clause-told
returns-clause-told g c = λ s a of_level.
    let o = c.in_ok-core.ensures in
    of_it _ _ _ _ _ _ c.if-core-search.false (told-core _ _ s _ _ a o.told o.core) (sym c.joins.ensures ∙ c.if-joins.false)
    (c.is_gone-gone.ensures ∙ c.requires.tidy.marked c.args.z c.args.y.turns)
