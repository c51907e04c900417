-- In a distinct line `w` has one place, so an insert at the next place puts `x` right behind it.
use Rattle.std.proofs.Common.{ℕ, List, length, get_or, sym, ◌∙◌, ap, arith}
use Rattle.kc_cert.proofs.Chaining.{inserted-behind}
use Rattle.kc_cert.proofs.chains.put_behind.Goals as goal

pub returns : goal.returns
returns c =
    let line : List ℕ = c.args.line.now.items in
    let place : ℕ = c.place_from_end-place.result in
    c.in_ok-insert.ensures.items
    ∙ inserted-behind c.args.x c.args.w place line c.requires.once
    (omega (arith, c.place_from_end-place.ensures.within, ap (length {A = ℕ}) c.deref.ensures.value))
    (ap (λ (t : List ℕ). get_or t place 0) (sym c.deref.ensures.value) ∙ c.place_from_end-place.ensures.there)
