-- The run is on the words of the arguments, which were borrowed, and ends by the status of which the exit code is given.
use Rattle.std.proofs.Common.{◌≡◌, ◌∙◌, ℕ, List, ap, inl, map, string_bytes, subst, sym}
use Rattle.std.specs.Borrow.{Bor}
use Rattle.kc_args.specs.Words.{AreWords}
use Rattle.kc_program.proofs.program.run_on.Goals as goal

pub returns-clause-ended : goal.returns-clause-ended
returns-clause-ended g c =
    let words : List (List ℕ) = map (λ (t : Bor (List ℕ)). t.now) c.deref-2.result.now in
    let same : words ≡ map string_bytes c.in-Ok.words.items =
    ap (λ (ts : List (Bor (List ℕ))). map (λ (t : Bor (List ℕ)). t.now) ts) c.deref-2.ensures.value ∙ c.in-Ok-borrowed.ensures
    ∙ ap (map string_bytes) c.deref.ensures.value in
    let are : AreWords c.args.args words = subst (λ (t : List (List ℕ)). AreWords c.args.args t) (sym same) c.in-Ok.ensures.words in (
      c.run-status.result,
      c.exit_with-2.ensures,
      inl (words, are, c.run-status.ensures.ended, c.run-status.ensures.line),
    )
