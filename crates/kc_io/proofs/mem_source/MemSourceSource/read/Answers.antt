-- The bytes that are left are those behind the ones that were copied out, and a fault of a call that was counted is counted once.
use Rattle.std.proofs.Common.{◌≡◌, ◌-◌, ℕ, List, length, take, drop, sym, ap, ◌∙◌, arith, length-drop, take_all, drop_of_length-le}
use Rattle.std.proofs.lemmas.List.{length-take}
use Rattle.kc_io.specs.Calls.{one_called}
use Rattle.kc_io.specs.Memory.{SourceState}
use Rattle.kc_io.proofs.Failing.{HasCause-failed}
use Rattle.kc_io.proofs.Texts.{left-taken}
use Rattle.kc_io.proofs.mem_source.MemSourceSource.read.Goals as goal

pub returns-then-begin-clause-cause : goal.returns-then-begin-clause-cause
returns-then-begin-clause-cause c =
    HasCause-failed c.args.self.now.calls c.begin.new.self c.fail.new.self c.fail.result
    (c.begin.ensures.counted ∙ ap (λ (s : SourceState). one_called s.calls) c.self.view_is) c.fail.ensures.counted c.fail.ensures.later

pub returns-clause-bytes : goal.returns-clause-bytes
returns-clause-bytes c =
    let xs : List ℕ = c.self.inside.bytes.items in
    let done : ℕ = c.self.inside.done in
    let n : ℕ = c.min-n.result in
    let left : drop done xs ≡ c.args.self.now.left = ap (λ (s : SourceState). s.left) c.self.view_is in
    let rest : take (length c.deref.result.now - done) (drop done c.deref.result.now) ≡ drop done xs =
    take_all (length c.deref.result.now - done) (drop done c.deref.result.now) (omega (arith, length-drop done c.deref.result.now))
    ∙ ap (λ (t : List ℕ). drop done t) c.deref.ensures.value in
    let copied : c.copy_from_slice.new.self ≡ take n (drop done xs) = c.copy_from_slice.ensures.after ∙ ap (λ (t : List ℕ). take n t) rest in
    let full : length c.copy_from_slice.new.self ≡ n = omega (arith, ap length copied, length-take n (drop done xs), ap length rest, c.min-n.ensures) in (
      sym left ∙ left-taken xs c.copy_from_slice.new.self (drop n c.args.into.now) done n copied full,
      λ h k.
          drop_of_length-le xs
          (omega (arith, ap length rest, length-drop done xs, c.min-n.ensures, c.min.ensures, c.self.invariant.1, c.requires)),
    )
