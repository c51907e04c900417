-- What is taken is what the text has behind the bytes that were taken before.
use Rattle.std.proofs.Common.{◌≡◌, ◌-◌, ◌++◌, ◌∙◌, ℕ, List, ap, arith, drop, length, length-drop, sym, take, take_all}
use Rattle.std.proofs.Math.Seq.{take-add}
use Rattle.kc_state.proofs.comparing.ComparingSink.write.Goals as goal

pub returns-clause-bytes : goal.returns-clause-bytes
returns-clause-bytes c =
    let text : List ℕ = c.args.self.now.text.now in
    let done : ℕ = c.args.self.now.done in
    let amount : ℕ = c.common_len-amount.result in
    let behind : take (length text - done) (drop done text) ≡ drop done text =
    take_all (length text - done) (drop done text) (omega (arith, length-drop done text)) in
    take-add done amount text ∙ ap (λ (t : List ℕ). take done text ++ take amount t) (sym behind)
    ∙ ap (λ (t : List ℕ). take done text ++ t) c.common_len-amount.ensures.same
