-- The parts of two pieces, one piece after the other.
use Rattle.std.proofs.Common.{◌≡◌, ℕ, List, ◌++◌, sym, ap, subst, ◌∙◌}
use Rattle.std.proofs.lemmas.Grind.{flat_map-append}
use Rattle.std.proofs.lemmas.List.Elements.{All-append}
use Rattle.kc_text.specs.declared.part.Part.{Part}
use Rattle.kc_text.specs.Parts.{ArePartsOf, IsPart, bytes_of}

-- they are the parts of both
pub both-parts : (front back bytes : List ℕ) (xs ys zs : List Part) → front ++ back ≡ bytes → ArePartsOf front xs → ArePartsOf back ys → zs ≡ xs ++ ys
    → ArePartsOf bytes zs
both-parts front back bytes xs ys zs cut f b is = subst (ArePartsOf bytes) (sym is) (record {
  bytes_are = flat_map-append (λ (part : Part). part.bytes.now) xs ys
      ∙ (ap (λ (t : List ℕ). t ++ bytes_of ys) f.bytes_are ∙ (ap (λ (t : List ℕ). front ++ t) b.bytes_are ∙ cut));
  each = All-append IsPart xs ys f.each b.each;
})
