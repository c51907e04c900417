-- Bytes that go through a page one text after another.
use Rattle.std.proofs.Common.{◌≡◌, ◌≤◌, ◌+◌, ◌++◌, ◌∙◌, ℕ, suc, List, [], ◌∷◌, Option, length, take, sym, ap, subst, arith}
use Rattle.std.proofs.Common.{append_assoc, append-nil, length-append, zero-add}
use Rattle.std.proofs.KnownBytes.{Appends-trans}
use Rattle.std.proofs.lemmas.List.{take-append-le}
use Rattle.std.specs.Io.KnownBytes.{Appends}
use Rattle.kc_lines.specs.Pages.{PassesOn, PassesPart}

-- the front of two texts that goes on into the second
take-past : (xs ys : List ℕ) (n : ℕ) → take (length xs + n) (xs ++ ys) ≡ xs ++ take n ys
take-past [] ys n = ap (λ m. take m ys) (zero-add n)
take-past (x ∷ xs) ys n =
    let more : suc (length xs) + n ≡ suc (length xs + n) = omega arith in
    ap (λ m. take m (x ∷ (xs ++ ys))) more ∙ ap (λ t. x ∷ t) (take-past xs ys n)

-- one text after another
pub PassesOn-trans : (t t' t'' : Option (List ℕ)) (p p' p'' first second : List ℕ) → PassesOn t t' p p' first → PassesOn t' t'' p' p'' second
    → PassesOn t t'' p p'' (first ++ second)
PassesOn-trans t t' t'' p p' p'' first second one two = record {
  passed = one.passed ++ two.passed;
  took = Appends-trans t t' t'' one.passed two.passed one.took two.took;
  rest = append_assoc one.passed two.passed p'' ∙ ap (λ b. one.passed ++ b) two.rest ∙ sym (append_assoc one.passed p' second)
      ∙ ap (λ b. b ++ second) one.rest ∙ append_assoc p first second;
}

-- a part of one text after another
pub PassesPart-later : (t t' t'' : Option (List ℕ)) (p p' first second : List ℕ) → PassesOn t t' p p' first → PassesPart t' t'' p' second
    → PassesPart t t'' p (first ++ second)
PassesPart-later t t' t'' p p' first second one two =
    let whole : one.passed ++ (p' ++ second) ≡ p ++ (first ++ second) =
    sym (append_assoc one.passed p' second) ∙ ap (λ b. b ++ second) one.rest ∙ append_assoc p first second in
    record {
      amount = length one.passed + two.amount;
      within = omega (arith, two.within, ap length whole, length-append one.passed (p' ++ second));
      took = subst (λ (b : List ℕ). Appends t t'' b)
          (sym (take-past one.passed (p' ++ second) two.amount) ∙ ap (λ b. take (length one.passed + two.amount) b) whole)
          (Appends-trans t t' t'' one.passed (take two.amount (p' ++ second)) one.took two.took);
    }

-- a part of a text is a part of it with more behind it
pub PassesPart-wider : (t t' : Option (List ℕ)) (p first second : List ℕ) → PassesPart t t' p first → PassesPart t t' p (first ++ second)
PassesPart-wider t t' p first second part =
    let whole : (p ++ first) ++ second ≡ p ++ (first ++ second) = append_assoc p first second in
    record {
      amount = part.amount;
      within = omega (arith, part.within, ap length whole, length-append (p ++ first) second);
      took = subst (λ (b : List ℕ). Appends t t' b)
          (sym (take-append-le part.amount (p ++ first) second part.within) ∙ ap (λ b. take part.amount b) whole) part.took;
    }

-- a text that was written past an empty page
pub PassesOn-past : (t t' : Option (List ℕ)) (page page' text : List ℕ) → page ≡ [] → page' ≡ page → Appends t t' text → PassesOn t t' page page' text
PassesOn-past t t' page page' text empty same took = record {
  passed = text;
  took = took;
  rest = ap (λ p. text ++ p) (same ∙ empty) ∙ append-nil text ∙ sym (ap (λ p. p ++ text) empty);
}

-- a part of a text that was written past an empty page
pub PassesPart-past : (t t' : Option (List ℕ)) (page text : List ℕ) → page ≡ [] → ((n : ℕ) × (n ≤ length text) × Appends t t' (take n text))
    → PassesPart t t' page text
PassesPart-past t t' page text empty (n, within, took) =
    let whole : page ++ text ≡ text = ap (λ p. p ++ text) empty in
    record {
      amount = n;
      within = omega (arith, within, ap length whole);
      took = subst (λ (p : List ℕ). Appends t t' (take n p)) (sym whole) took;
    }

-- a part of a text has gone on, where the page is empty before, and a part of the page behind it
pub part-passed : (t t' t'' : Option (List ℕ)) (p p' text : List ℕ) → PassesOn t t' p p' text → PassesPart t' t'' p' [] → p ≡ []
    → (n : ℕ) × (n ≤ length text) × Appends t t'' (take n text)
part-passed t t' t'' p p' text one two begun =
    let part : PassesPart t t'' p (text ++ []) = PassesPart-later t t' t'' p p' text [] one two in
    let whole : p ++ (text ++ []) ≡ text = ap (λ b. b ++ (text ++ [])) begun ∙ append-nil text in
    (part.amount, omega (arith, part.within, ap length whole), subst (λ (b : List ℕ). Appends t t'' (take part.amount b)) whole part.took)
