-- The bytes that are left are those behind the ones that were copied out.
use Rattle.std.proofs.Common.{◌≡◌, ◌-◌, ℕ, List, length, take, drop, sym, ap, ◌∙◌, arith, length-drop, take_all}
use Rattle.std.proofs.lemmas.List.{length-take}
use Rattle.kc_io.proofs.Texts.{left-taken}
use Rattle.kc_cores.proofs.front.Front.read.Goals as goal

pub returns-clause-bytes : goal.returns-clause-bytes
returns-clause-bytes c =
    let xs : List ℕ = c.self.inside.bytes.items in
    let done : ℕ = c.self.inside.done in
    let n : ℕ = c.min-n.result in
    let left : drop done xs ≡ c.args.self.now = c.self.view_is in
    let rest : take (length c.deref.result.now - done) (drop done c.deref.result.now) ≡ drop done xs =
    take_all (length c.deref.result.now - done) (drop done c.deref.result.now) (omega (arith, length-drop done c.deref.result.now))
    ∙ ap (λ (t : List ℕ). drop done t) c.deref.ensures.value in
    let copied : c.copy_from_slice.new.self ≡ take n (drop done xs) = c.copy_from_slice.ensures.after ∙ ap (λ (t : List ℕ). take n t) rest in
    let full : length c.copy_from_slice.new.self ≡ n = omega (arith, ap length copied, length-take n (drop done xs), ap length rest, c.min-n.ensures) in
    sym left ∙ left-taken xs c.copy_from_slice.new.self (drop n c.args.into.now) done n copied full
