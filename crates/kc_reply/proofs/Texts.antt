-- The lines of facts that are put together.
use Rattle.std.proofs.Common.{◌≡◌, List, [], ◌∷◌, ◌++◌, ℕ, map, refl, ap, ◌∙◌}
use Rattle.std.specs.List.{flat_map}
use Rattle.std.proofs.lemmas.Grind.{flat_map-append}
use Rattle.std.proofs.lemmas.List.Folds.{flat_map-map}
use Rattle.kc_reply.specs.Facts.{Fact}
use Rattle.kc_reply.specs.Texts.{fact_text, facts_text}
use Rattle.kc_reply.specs.declared.reply_format.ReplyFormat.{ReplyFormat}

-- the lines of facts, and then of others
pub texts-append : (format : ReplyFormat) (xs ys : List Fact) → facts_text format (xs ++ ys) ≡ facts_text format xs ++ facts_text format ys
texts-append format xs ys = flat_map-append (fact_text format) xs ys

-- the lines of one fact for each of some things
pub texts-of_map : {X : Type 0} (format : ReplyFormat) (told : X → Fact) (xs : List X)
    → facts_text format (map told xs) ≡ flat_map (λ x. fact_text format (told x)) xs
texts-of_map format told xs = flat_map-map (fact_text format) told xs

-- the lines of all facts for each of some things
pub texts-of_each : {X : Type 0} (format : ReplyFormat) (told : X → List Fact) (xs : List X)
    → facts_text format (flat_map told xs) ≡ flat_map (λ x. facts_text format (told x)) xs
texts-of_each format told [] = refl
texts-of_each format told (x ∷ xs) =
    texts-append format (told x) (flat_map told xs) ∙ ap (λ (t : List ℕ). facts_text format (told x) ++ t) (texts-of_each format told xs)
