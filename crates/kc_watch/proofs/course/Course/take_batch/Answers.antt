-- What a batch line is answered is the text of the part that ends.
use Rattle.std.proofs.Common.{◌≡◌, ℕ, List, sym, subst, ◌∙◌, None}
use Rattle.std.proofs.lemmas.Result.{on_ok_weaker}
use Rattle.kc_dialogue.specs.Replies.{IsPrefixOf}
use Rattle.kc_text.specs.declared.line.TextLine.TheVariants as said
use Rattle.kc_stream.specs.declared.stream_line.StreamLine.TheVariants as says
use Rattle.kc_stream.specs.declared.gathered.Gathered.{Gathered}
use Rattle.kc_stream.specs.Gathering.{Gathers}
use Rattle.kc_stream.specs.Hearing.{Heard}
use Rattle.kc_stream.proofs.Reading.{hear-batch}
use Rattle.kc_watch.specs.Text.{answer_behind}
use Rattle.kc_watch.specs.Watching.{KeepsAccount}
use Rattle.kc_watch.proofs.Lines.{batch-answer, on-both, on-err, prefix-same}
use Rattle.kc_watch.proofs.course.Course.take_batch.Goals as goal

pub returns-in_err-end_open-clause-put : goal.returns-in_err-end_open-clause-put
returns-in_err-end_open-clause-put g c =
    let (put, out, adds) = c.in_err-end_open.ensures.put in (
      put,
      out,
      λ heard s.
          let none : heard.refusal ≡ None = sym s.gathers.refusal ∙ c.requires.going in
          on-err c.from_residual.result _ _ c.from_residual.ensures.0
          (subst (λ (t : List ℕ). IsPrefixOf t put) (sym (batch-answer c.args.options heard none))
          (adds heard s).1),
    )

pub returns-clause-stands : goal.returns-clause-stands
returns-clause-stands g c =
    on_ok_weaker c.take.result (λ g heard s. record {
      gathers = g heard (subst (λ (x : Gathered). Gathers x heard) (sym c.in_ok-end_open.ensures.gathered) s.gathers);
      keeps = λ _. subst (λ (h : Heard). KeepsAccount c.end_open.new.self.kept c.end_open.new.self.ended h.told)
          (sym (hear-batch c.args.options.bad_lines heard (sym s.gathers.refusal ∙ c.requires.going))) (c.in_ok-end_open.ensures.keeps heard s);
    }) c.take.ensures

pub returns-clause-put : goal.returns-clause-put
returns-clause-put g c =
    let (put, out, adds) = c.in_ok-end_open.ensures.put in (
      put,
      out,
      λ heard s.
          let none : heard.refusal ≡ None = sym s.gathers.refusal ∙ c.requires.going in
          let is : put ≡ answer_behind c.args.options heard (says.Tells said.Batch) =
          (adds heard s).0 ∙ sym (batch-answer c.args.options heard none) in
          on-both c.take.result _ _ is (prefix-same _ _ (sym is)),
    )
