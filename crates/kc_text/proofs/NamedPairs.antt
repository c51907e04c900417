-- Pairs that are named in either direction.
use Rattle.std.proofs.Common.{◌≡◌, ℕ, Bool, true, false, ◌&&◌, ◌||◌, refl, sym, ◌∙◌, arith, nat_eq, eqb-true, eq-eqb, inl, inr, ap₂, min, max}
use Rattle.std.specs.Cmp.{both_ways}
use Rattle.std.proofs.lemmas.Bool.{cases_eq, or_cases, or_left, or_right, and_parts, and_from}
use Rattle.kc_text.specs.declared.change.ChangeLine.{ChangeLine}
use Rattle.kc_text.specs.Batches.{is_pair, pair_of}
use Rattle.kc_text.specs.Meaning.{name_same}

-- a change in place of one that is missing
pub no_change : ChangeLine
no_change = record { add = false; a = 0; b = 0 }

-- whether two pairs have the same ends, in either direction
abbrev pub Same : ℕ → ℕ → ℕ → ℕ → Bool
Same a b x y = (nat_eq a x && nat_eq b y) || (nat_eq a y && nat_eq b x)

-- pairs with the same ends have the same lesser one and the same greater one
same-parts : (a b x y : ℕ) → Same a b x y ≡ true → (min a b ≡ min x y) × (max a b ≡ max x y)
same-parts a b x y h = elim (or_cases _ _ h) [
  | inl k ↦ let p = and_parts _ _ k in let e : a ≡ x = eqb-true a x p.0 in let f : b ≡ y = eqb-true b y p.1 in (omega arith, omega arith)
  | inr k ↦ let p = and_parts _ _ k in let e : a ≡ y = eqb-true a y p.0 in let f : b ≡ x = eqb-true b x p.1 in (omega arith, omega arith)
]

-- the other way round: by lesser and greater ends that are equal, two pairs have the same ends
pub parts-same : (a b x y : ℕ) → min a b ≡ min x y → max a b ≡ max x y → Same a b x y ≡ true
parts-same a b x y l m = elim (cases_eq a x) [
  | inl e ↦ or_left _ _ (and_from _ _ (eq-eqb a x e) (eq-eqb b y (omega arith)))
  | inr ne ↦ or_right _ _ (and_from _ _ (eq-eqb a y (omega arith)) (eq-eqb b x (omega arith)))
]

-- two changes name the same pair just where their ordered pairs are equal
pub name_same-is : (c d : ChangeLine) → name_same c d ≡ is_pair (pair_of c) (pair_of d)
name_same-is c d = both_ways _ _
    (λ h. let p = same-parts c.a c.b d.a d.b h in and_from _ _ (eq-eqb (min c.a c.b) (min d.a d.b) p.0) (eq-eqb (max c.a c.b) (max d.a d.b) p.1))
    (λ h. let p = and_parts _ _ h in parts-same c.a c.b d.a d.b (eqb-true (min c.a c.b) (min d.a d.b) p.0) (eqb-true (max c.a c.b) (max d.a d.b) p.1))

-- equal pairs are told by what they are equal to
is_pair-congr : (p q r : ℕ × ℕ) → is_pair p q ≡ true → is_pair p r ≡ is_pair q r
is_pair-congr p q r same =
    let (least, most) = and_parts _ _ same in
    ap₂ (λ (x y : ℕ). nat_eq x r.0 && nat_eq y r.1) (eqb-true p.0 q.0 least) (eqb-true p.1 q.1 most)

-- changes that name one pair name the same pair as any other change, or neither does
pub name_same-congr : (c d e : ChangeLine) → name_same c d ≡ true → name_same c e ≡ name_same d e
name_same-congr c d e same = name_same-is c e ∙ (is_pair-congr (pair_of c) (pair_of d) (pair_of e) (sym (name_same-is c d) ∙ same) ∙ sym (name_same-is d e))

-- a change names the pair that it names itself
pub name_same-refl : (c : ChangeLine) → name_same c c ≡ true
name_same-refl c = or_left _ _ (and_from _ _ (eq-eqb c.a c.a refl) (eq-eqb c.b c.b refl))

-- that two changes name the same pair doesn't depend on which is first
pub name_same-flip : (c d : ChangeLine) → name_same c d ≡ name_same d c
name_same-flip c d = both_ways _ _
    (λ h. sym (name_same-congr c d c h) ∙ name_same-refl c)
    (λ h. sym (name_same-congr d c d h) ∙ name_same-refl d)
