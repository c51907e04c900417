-- What a batch writes of a turn, by the set of the pairs that it has written.
use Rattle.std.proofs.Common.{◌≡◌, ℕ, Bool, true, false, cond, not, ◌||◌, List, [], ◌∷◌, ◌++◌, refl, sym, ap, ap₂, ◌∙◌, nat_eq}
use Rattle.std.specs.List.{list_any}
use Rattle.std.specs.HashSet.{HashSet, contains}
use Rattle.std.proofs.lemmas.List.Folds.{list_any-append}
use Rattle.kc_text.specs.declared.change.ChangeLine.{ChangeLine}
use Rattle.kc_text.specs.Batches.{is_pair, pair_of}
use Rattle.kc_text.specs.Meaning.{name_same}
use Rattle.kc_text.proofs.NamedPairs.{name_same-is}
use Rattle.kc_report.specs.Generator.{with_turn}
use Rattle.kc_report.specs.Pairs.{GainsPair, HasPairs}

-- a pair is named where it is among the pairs
pair-named : (c : ChangeLine) (written : List ChangeLine) → list_any (name_same c) written ≡ list_any (λ d. is_pair (pair_of c) (pair_of d)) written
pair-named c [] = refl
pair-named c (d ∷ written) = ap₂ (λ (x y : Bool). x || y) (name_same-is c d) (pair-named c written)

-- a change is no new one where the batch has no place for it
passed_over : {S : Type 0} (pairs : HashSet (ℕ × ℕ) S) (written : List ChangeLine) (c : ChangeLine) (new : Bool) → HasPairs pairs written
    → not new ≡ (nat_eq c.a c.b || contains is_pair pairs (pair_of c)) → (nat_eq c.a c.b || list_any (name_same c) written) ≡ not new
passed_over pairs written c new has is = ap (λ b. nat_eq c.a c.b || b) (pair-named c written ∙ sym (has (pair_of c))) ∙ sym is

-- a change that is new is what the turn writes behind the others
pub with_turn-new : {S : Type 0} (pairs : HashSet (ℕ × ℕ) S) (written more : List ChangeLine) (c : ChangeLine) (new : Bool) → HasPairs pairs written
    → not new ≡ (nat_eq c.a c.b || contains is_pair pairs (pair_of c)) → new ≡ true → more ≡ written ++ c ∷ [] → more ≡ with_turn written c
with_turn-new pairs written more c new has is first pushed =
    pushed ∙ sym (ap (λ b. cond b written (written ++ c ∷ [])) (passed_over pairs written c new has is ∙ ap not first))

-- of a change that is no new one the turn writes nothing
pub with_turn-old : {S : Type 0} (pairs : HashSet (ℕ × ℕ) S) (written more : List ChangeLine) (c : ChangeLine) (new : Bool) → HasPairs pairs written
    → not new ≡ (nat_eq c.a c.b || contains is_pair pairs (pair_of c)) → new ≡ false → more ≡ written → more ≡ with_turn written c
with_turn-old pairs written more c new has is again same =
    same ∙ sym (ap (λ b. cond b written (written ++ c ∷ [])) (passed_over pairs written c new has is ∙ ap not again))

-- the set has the pairs of one change more
pub has-new : {S : Type 0} (old pairs : HashSet (ℕ × ℕ) S) (written more : List ChangeLine) (c : ChangeLine) (new : Bool) → HasPairs old written
    → GainsPair old pairs c new → new ≡ true
    → more ≡ written ++ c ∷ [] → HasPairs pairs more
has-new old pairs written more c false has gains first pushed = absurd (cc)
has-new old pairs written more c true has gains first pushed = λ p.
    gains p ∙ ap (λ b. is_pair p (pair_of c) || b) (has p) ∙ flip (is_pair p (pair_of c)) (list_any (λ d. is_pair p (pair_of d)) written)
    ∙ sym (ap (list_any (λ d. is_pair p (pair_of d))) pushed ∙ list_any-append (λ d. is_pair p (pair_of d)) written (c ∷ []))
  where
    flip : (a b : Bool) → (a || b) ≡ (b || (a || false))
    flip true true = refl
    flip true false = refl
    flip false true = refl
    flip false false = refl

-- the set has the pairs of the same changes
pub has-old : {S : Type 0} (old pairs : HashSet (ℕ × ℕ) S) (written more : List ChangeLine) (c : ChangeLine) (new : Bool) → HasPairs old written
    → GainsPair old pairs c new → new ≡ false
    → more ≡ written → HasPairs pairs more
has-old old pairs written more c true has gains again same = absurd (cc)
has-old old pairs written more c false has gains again same = λ p. gains p ∙ has p ∙ sym (ap (list_any (λ d. is_pair p (pair_of d))) same)
