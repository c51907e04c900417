-- Why a change is refused.
use Rattle.std.proofs.Common.{◌≡◌, ap, sym, ◌∙◌, Option, Some, None}
use Rattle.kc_text.specs.declared.change.ChangeLine.{ChangeLine}
use Rattle.kc_text.specs.declared.kind.Kind.{Kind}
use Rattle.kc_text.specs.declared.limits.Limits.{Limits}
use Rattle.kc_text.specs.declared.line.TextLine.TheVariants as said
use Rattle.kc_text.specs.Meaning.{Told, or_else, passed_limit, refusal, unfit, with_line}

-- a change that doesn't fit is refused for that
pub refused-unfit : (limits : Limits) (told : Told) (c : ChangeLine) (cause : Option Kind) (kind : Kind) → cause ≡ unfit told.last c → cause ≡ Some kind
    → Some kind ≡ refusal limits told (said.Change c)
refused-unfit limits told c cause kind is some = sym (ap (λ u. or_else u (passed_limit limits (with_line told (said.Change c)))) (sym is ∙ some))

-- a change that fits is refused for the limit that is passed with it, if one is
pub refused-limit : (limits : Limits) (told : Told) (c : ChangeLine) (cause limit : Option Kind) → cause ≡ unfit told.last c → cause ≡ None
    → limit ≡ passed_limit limits (with_line told (said.Change c)) → limit ≡ refusal limits told (said.Change c)
refused-limit limits told c cause limit is none at = at ∙ sym (ap (λ u. or_else u (passed_limit limits (with_line told (said.Change c)))) (sym is ∙ none))
