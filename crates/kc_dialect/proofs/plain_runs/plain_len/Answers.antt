-- The two numbers, the separator and the newline stand one after the other.
use Rattle.std.proofs.Common.{List, ℕ, ◌∙◌, ◌++◌, ◌∷◌, ap, arith, sym}
use Rattle.kc_dialect.proofs.plain_runs.plain_len.Goals as goal

pub returns : goal.returns
returns c =
    let first = c.in_ok-first.ensures in
    let second = c.in_ok-second.ensures in
    record {
      first = first.digits;
      part = c.in_ok-part.part.now;
      second = second.digits;
      rest = c.in_ok-end._rest.now;
      whole = first.whole ∙ ap (λ (t : List ℕ). first.digits ++ t) (c.in_ok-part.ensures.cases.0 ∙ ap (λ (t : List ℕ). c.in_ok-part.part.now ∷ t)
          (second.whole ∙ ap (λ (t : List ℕ). second.digits ++ t)
          (c.in_ok-end.ensures.cases.0 ∙ ap (λ (n : ℕ). n ∷ c.in_ok-end._rest.now) c.if-end-ne10.false)));
      parted = sym c.is_separator.ensures ∙ c.if-not-is_separator.false;
      are_first = first.are;
      are_second = second.are;
      len = omega (arith, first.len, second.len);
    }
