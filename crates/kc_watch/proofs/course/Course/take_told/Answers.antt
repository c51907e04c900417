-- Of the lines that tell, only a batch line is answered something.
use Rattle.std.proofs.Common.{◌≡◌, ◌++◌, [], ℕ, List, sym, subst, append-nil}
use Rattle.std.specs.Prelude.{OnErr, OnOk}
use Rattle.std.proofs.lemmas.Result.{on_ok_weaker}
use Rattle.kc_dialogue.specs.Replies.{IsPrefixOf}
use Rattle.kc_text.specs.declared.line.TextLine.{TextLine}
use Rattle.kc_stream.specs.Hearing.{Heard, hear}
use Rattle.kc_stream.specs.declared.stream_line.StreamLine.TheVariants.{Tells}
use Rattle.kc_watch.specs.Text.{answer_behind}
use Rattle.kc_watch.specs.Watching.{StandsAt}
use Rattle.kc_watch.proofs.Lines.{on-both, other-behind, other-stands, prefix-none}
use Rattle.kc_watch.proofs.course.Course.take_told.Goals as goal

pub returns-in-Batch-clause-stands : goal.returns-in-Batch-clause-stands
returns-in-Batch-clause-stands g c =
    subst (λ (l : TextLine). OnOk c.take_batch.result ((heard : Heard) → StandsAt c.args.self.now heard
    → StandsAt c.take_batch.new.self (hear c.args.options.bad_lines heard (Tells l)))) (sym c.in-Batch.is) c.take_batch.ensures.stands

pub returns-in-Batch-clause-put : goal.returns-in-Batch-clause-put
returns-in-Batch-clause-put g c =
    subst (λ (l : TextLine). (put : List ℕ) × (c.take_batch.new.out.items ≡ c.args.out.now.items ++ put) × ((heard : Heard) → StandsAt c.args.self.now heard
    → OnOk c.take_batch.result (put ≡ answer_behind c.args.options heard (Tells l))
    × OnErr c.take_batch.result (IsPrefixOf (answer_behind c.args.options heard (Tells l)) put)))
    (sym c.in-Batch.is) c.take_batch.ensures.put

pub returns-in_default : goal.returns-in_default
returns-in_default g c = record {
  stands = on_ok_weaker c.take.result
      (λ g heard s. other-stands c.args.self.now _ c.args.options.bad_lines c.args.told c.in_default.not-Batch c.requires.going (λ told k. k) heard s
      (g heard s.gathers)) c.take.ensures;
  put = (
    [],
    sym (append-nil c.args.out.now.items),
    λ heard s. on-both c.take.result _ _ (sym (other-behind c.args.options heard c.args.told c.in_default.not-Batch))
        (prefix-none (answer_behind c.args.options heard (Tells c.args.told))),
  );
}
