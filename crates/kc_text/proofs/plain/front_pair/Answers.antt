-- The two numbers, the blank and the newline stand one after the other.
use Rattle.std.proofs.Common.{List, ℕ, ◌∙◌, ◌++◌, ◌∷◌, ap, sym}
use Rattle.kc_text.proofs.plain.front_pair.Goals as goal

pub returns : goal.returns
returns c =
    let first = c.in_ok-a.ensures in
    let second = c.in_ok-b.ensures in
    record {
      first = first.digits;
      blank = c.in_ok-blank.blank.now;
      second = second.digits;
      whole = first.whole ∙ ap (λ (t : List ℕ). first.digits ++ t) (c.in_ok-blank.ensures.cases.0 ∙ ap (λ (t : List ℕ). c.in_ok-blank.blank.now ∷ t)
          (second.whole ∙ ap (λ (t : List ℕ). second.digits ++ t)
          (c.in_ok-end.ensures.cases.0 ∙ ap (λ (n : ℕ). n ∷ c.in_ok-end.rest.now) c.if-end-ne10.false)));
      parted = sym c.is_blank.ensures ∙ c.if-not-is_blank.false;
      spells_a = first.spells;
      spells_b = second.spells;
    }
