-- The next number is told what is right, and behind the last word no bit is set.
use Rattle.std.proofs.Common.{◌≡◌, ◌≤◌, ◌*◌, ◌-◌, ◌/◌, ◌%◌, ◌^◌, ◌∙◌, ℕ, List, None, Some, ap, arith, cond, eqb, get_or, inl, inr, length, sym}
use Rattle.std.specs.Prelude.{count_ones}
use Rattle.std.proofs.lemmas.Bool.{cases_eq, cases_lt}
use Rattle.std.proofs.lemmas.List.{get_or_past}
use Rattle.std.proofs.lemmas.Nat.{le-div, shr_le}
use Rattle.kc_claims.specs.IdBits.{place_by}
use Rattle.kc_claims.proofs.id_bits.IdBits.tells_no_other.Goals as goal

-- a number behind the last word is told no place
none_behind : (words ends : List ℕ) (id : ℕ) → length words * 64 ≤ id → place_by words ends id ≡ None
none_behind words ends id behind =
    let word : get_or words (id / 64) 0 ≡ 0 = get_or_past words (id / 64) 0 (le-div (length words) id 64 (omega arith) behind) in
    let low : 0 / 2 ^ (id % 64) ≤ 0 = shr_le 0 (id % 64) in
    let none : get_or words (id / 64) 0 / 2 ^ (id % 64) ≡ 0 = ap (λ (w : ℕ). w / 2 ^ (id % 64)) word ∙ omega (arith, low) in
    ap (λ (bits : ℕ). cond (eqb (bits % 2) 0) None (Some (get_or ends (id / 64) 0 - count_ones bits))) none

pub loop-number-preserved : goal.loop-number-preserved
loop-number-preserved c = λ id v l told. elim (cases_eq id c.loop-number.number) [
  | inl is ↦
      let (within, at_v) = c.tells_right.ensures c.if-not-tells_right.false v
      (ap (place_by c.args.self.now.words.items c.args.self.now.ends.items) (sym is) ∙ told) in
      (within, at_v ∙ sym is)
  | inr differs ↦ c.loop-number.invariant id v (omega arith) told
]

pub returns : goal.returns
returns c = λ _ id v told. elim (cases_lt id c.loop-number.number) [
  | inl l ↦ c.loop-number.invariant id v l told
  | inr g ↦ absurd (cc (told, none_behind c.args.self.now.words.items c.args.self.now.ends.items id (omega arith)))
]
