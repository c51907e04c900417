-- The text that was read is all that the file has, and it is that of the state whose start text was fed.
use Rattle.std.proofs.Common.{◌≡◌, ℕ, List, Option, refl, subst}
use Rattle.std.specs.Prelude.{IfSome}
use Rattle.std.proofs.lemmas.Result.{IfOk-weaker}
use Rattle.kc_state.specs.Starts.{start_text}
use Rattle.kc_cores.proofs.loading.open_state.Goals as goal

pub returns-clause-opened : goal.returns-clause-opened
returns-clause-opened g c =
    let text : List ℕ = c.in_ok-text.text.items in
    let whole : IfSome (g.I.FileInput.behind c.args.input.now c.args.name.now) (λ (all : List ℕ). text ≡ all) =
    subst (λ (left : Option (List ℕ)). IfSome left (λ (all : List ℕ). text ≡ all)) c.in_default.ensures.bytes c.in_ok-text.ensures.whole in
    IfOk-weaker c.open_text.result _ _ (λ opening h. let (state, is, opened) = h in (start_text state, (text, whole, (state, is, refl)), opened))
    c.open_text.ensures.opened
