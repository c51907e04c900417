-- What goes in behind the first block goes into those behind it.
use Rattle.std.proofs.Common.{◌≡◌, ◌++◌, ◌-◌, ℕ, List, length, ap, sym, ◌∙◌, arith}
use Rattle.std.specs.List.{insert}
use Rattle.std.proofs.lemmas.List.Edits.{insert-append_right}
use Rattle.std.proofs.lemmas.Result.{on_ok_weaker}
use Rattle.kc_blocks.specs.Placing.{all_entries}
use Rattle.kc_blocks.proofs.list.put.Goals as goal

pub returns-then-place-end-2-clause-ok : goal.returns-then-place-end-2-clause-ok
returns-then-place-end-2-clause-ok c =
    let front : List ℕ = c.args.front.now.items in
    let rest : List ℕ = all_entries c.args.rest.now.blocks.items in
    let end : length front ≡ c.len-end.result = omega (arith, c.len-end.ensures, c.args.front.now.ok.0) in
    let new : List ℕ = all_entries c.insert-then-place-end-2.new.self.blocks.items in
    let at : ℕ = c.args.place - c.len-end.result in
    on_ok_weaker {P = new ≡ insert rest at c.args.x} {Q = front ++ new ≡ insert (front ++ rest) c.args.place c.args.x} c.insert-then-place-end-2.result
    (λ e. ap (λ (t : List ℕ). front ++ t) e
    ∙ sym (insert-append_right front rest c.len-end.result c.args.place c.args.x end c.if-place-end-2.true)) c.insert-then-place-end-2.ensures.ok
