-- What a question is answered was put, and it tells nothing.
use Rattle.std.proofs.Common.{◌≡◌, ℕ, List, sym, subst, ◌∙◌, None}
use Rattle.std.proofs.lemmas.Result.{on_ok_weaker}
use Rattle.kc_dialogue.specs.Replies.{IsPrefixOf}
use Rattle.kc_stream.specs.Gathering.{Gathers}
use Rattle.kc_stream.specs.declared.gathered.Gathered.{Gathered}
use Rattle.kc_stream.specs.declared.stream_line.StreamLine.TheVariants.{Asks}
use Rattle.kc_watch.specs.Text.{answer_behind}
use Rattle.kc_watch.proofs.Lines.{asked-stands, on-both, on-err, prefix-none, prefix-same, question-behind}
use Rattle.kc_watch.proofs.course.Course.take_question.Goals as goal

pub returns-in_err-answer-clause-put : goal.returns-in_err-answer-clause-put
returns-in_err-answer-clause-put c =
    let (put, out, adds) = c.in_err-answer.ensures.put in (
      put,
      out,
      λ heard s.
          let none : heard.refusal ≡ None = sym s.gathers.refusal ∙ c.requires.going in
          on-err c.from_residual.result _ _ c.from_residual.ensures.0
          (subst (λ (t : List ℕ). IsPrefixOf (answer_behind c.args.options heard (Asks c.args.question)) t)
          (sym (adds heard.told (s.gathers.holds none) (s.keeps none)).1) (prefix-none (answer_behind c.args.options heard (Asks c.args.question)))),
    )

pub returns-clause-stands : goal.returns-clause-stands
returns-clause-stands c =
    on_ok_weaker c.take.result
    (λ g. asked-stands c.args.self.now _ c.args.options.bad_lines c.args.question c.requires.going c.in_ok-answer.ensures.keeps
    (λ heard was. g heard (subst (λ (x : Gathered). Gathers x heard) (sym c.in_ok-answer.ensures.gathered) was))) c.take.ensures

pub returns-clause-put : goal.returns-clause-put
returns-clause-put c =
    let (put, out, adds) = c.in_ok-answer.ensures.put in (
      put,
      out,
      λ heard s.
          let none : heard.refusal ≡ None = sym s.gathers.refusal ∙ c.requires.going in
          let is : put ≡ answer_behind c.args.options heard (Asks c.args.question) =
          (adds heard.told (s.gathers.holds none) (s.keeps none)).0 ∙ sym (question-behind c.args.options heard c.args.question none) in
          on-both c.take.result _ _ is (prefix-same _ _ (sym is)),
    )
