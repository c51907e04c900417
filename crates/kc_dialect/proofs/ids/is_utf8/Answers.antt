-- The test for UTF-8 is the one of the standard library.
use Rattle.std.proofs.Common.{◌≡◌, ◌∙◌, ℕ, List, Result, Ok, Err, sym}
use Rattle.std.specs.Prelude.{IsUtf8, MatchResult, is_ok}
use Rattle.std.specs.Str.{is_utf8}
use Rattle.std.proofs.lemmas.Bool.{false_from_ne_true}
use Rattle.std.proofs.lemmas.Str.{IsUtf8-from_is_utf8, is_utf8-from_IsUtf8}
use Rattle.kc_dialect.proofs.ids.is_utf8.Goals as goal

-- bytes are UTF-8 just where they are read as a text
read-told : {S E : Type 0} (P : S → Type 0) (Q : E → Type 0) (bytes : List ℕ) (r : Result S E) → MatchResult r P Q → ((s : S) → P s → IsUtf8 bytes)
    → ((e : E) → Q e → IsUtf8 bytes → ⊥) → is_ok r ≡ is_utf8 bytes
read-told P Q bytes (Ok s) h right wrong = sym (is_utf8-from_IsUtf8 bytes (right s h))
read-told P Q bytes (Err e) h right wrong = sym (false_from_ne_true (is_utf8 bytes) (λ t. wrong e h (IsUtf8-from_is_utf8 bytes t)))

pub returns : goal.returns
returns c = c.is_ok.ensures.value ∙ read-told _ _ c.args.bytes.now c.from_utf8.result c.from_utf8.ensures.cases (λ s h. h.1) (λ e h. h.0)
