-- What is left of the line has as many bytes as it has, or more than are shown.
use Rattle.std.proofs.Common.{◌≡◌, ◌-◌, ◌∙◌, ℕ, List, ap, arith, drop, length, length-drop, take, take_all}
use Rattle.std.proofs.lemmas.List.{take_min}
use Rattle.std.specs.Prelude.{min}
use Rattle.kc_head.specs.declared.shown.TheConstants.{MOST_SHOWN}
use Rattle.kc_head.proofs.shown.part_of.Goals as goal

pub returns : goal.returns
returns c =
    let line : List ℕ = c.args.line.now in
    let cut : ℕ = c.args.cut in
    let rest : List ℕ = drop cut line in
    let whole : take (length line - cut) rest ≡ rest = take_all (length line - cut) rest (omega (arith, length-drop cut line)) in
    let least : c.min.result ≡ min MOST_SHOWN (length rest) = omega (arith, c.min.ensures, ap length whole) in
    ap (λ (t : List ℕ). take c.min.result t) whole ∙ ap (λ (n : ℕ). take n rest) least ∙ take_min MOST_SHOWN rest
