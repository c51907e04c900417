-- All counts are those of the core numbers that come.
use Rattle.std.proofs.Common.{◌≡◌, ℕ, List, length, ap, sym, ◌∙◌}
use Rattle.std.proofs.lemmas.Result.{IfOk-weaker}
use Rattle.kc_answers.specs.Answers.{sizes_of}
use Rattle.kc_answers.specs.Counted.{counted_below}
use Rattle.kc_answers.proofs.Levels.{counted-of_all}
use Rattle.kc_answers.proofs.sizes.sizes_of.Goals as goal

pub returns : goal.returns
returns c =
    let counts : List ℕ = c.in_ok-counts.counts.items in
    let all : counted_below c.deref.result.now (length c.deref.result.now) ≡ sizes_of c.args.core.now =
    ap (λ (l : List ℕ). counted_below l (length l)) c.deref.ensures.value
    ∙ sym (counted-of_all c.args.core.now counts c.in_ok-counts.ensures.len c.in_ok-counts.ensures.each) in
    IfOk-weaker c.list_counts.result (λ listed. listed.items ≡ counted_below c.deref.result.now (length c.deref.result.now))
    (λ listed. listed.items ≡ sizes_of c.args.core.now) (λ listed is. is ∙ all) c.list_counts.ensures
