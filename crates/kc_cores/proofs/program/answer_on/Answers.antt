-- The run ends as it should for the words; where there was no memory for them, all is as it was.
use Rattle.std.proofs.Common.{List, String, inl, inr, map, refl, string_bytes, subst, sym}
use Rattle.std.specs.declared.alloc.Global.{Global}
use Rattle.kc_args.specs.Words.{AreWords}
use Rattle.kc_cores.specs.declared.CoresStatus.TheVariants.{NoMemory}
use Rattle.kc_cores.proofs.program.answer_on.Goals as goal

pub returns-in-Ok-clause-ended : goal.returns-in-Ok-clause-ended
returns-in-Ok-clause-ended g c =
    let (line, ended, told) = c.answer.ensures in
    let words = subst (λ (ws : List (String Global)). AreWords c.args.args (map string_bytes ws)) (sym c.as_slice.ensures.value) c.in-Ok.ensures.words in
    (c.answer.result, c.exit_with-in-Ok.ensures, inl (map string_bytes c.as_slice.result.now, words, line, ended, told))

pub returns-in-Err-clause-ended : goal.returns-in-Err-clause-ended
returns-in-Err-clause-ended g c = (NoMemory, c.exit_with.ensures, inr (refl, refl, refl))
