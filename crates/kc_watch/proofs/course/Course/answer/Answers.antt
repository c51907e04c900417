-- What is put is answered of the ids that were known when the last batch ended, and of the graph that is kept.
use Rattle.std.proofs.Common.{◌++◌, ℕ, List, length, take, ap, subst, ◌∙◌, arith, Option}
use Rattle.kc_answers.specs.Answers.{answer_to}
use Rattle.kc_reply.specs.Texts.{fact_text}
use Rattle.kc_watch.specs.Accounts.{core_numbers_of, layers_of}
use Rattle.kc_watch.specs.Watching.{KeepsAccount}
use Rattle.kc_watch.specs.declared.kept.Kept.{Kept}
use Rattle.kc_watch.proofs.Parts.{question-kept, same-keeps, vertices-within}
use Rattle.kc_watch.proofs.course.Course.answer.Goals as goal

pub answer-requires : goal.answer-requires
answer-requires c =
    let (told, h, k) = c.requires in
    omega (
      arith,
      ap length c.ids.ensures,
      vertices-within c.args.self.now.gathered told h c.in-Some.kept c.args.self.now.ended
          (subst (λ (o : Option Kept). KeepsAccount o c.args.self.now.ended told) c.in-Some.is k),
    )

pub returns-in_ok-answer-clause-keeps : goal.returns-in_ok-answer-clause-keeps
returns-in_ok-answer-clause-keeps c = λ told k.
    same-keeps c.in-Some.kept c.answer.new.self c.args.self.now.ended c.in_ok-answer.ensures.same told
    (subst (λ (o : Option Kept). KeepsAccount o c.args.self.now.ended told) c.in-Some.is k)

pub returns-in_ok-answer-clause-put : goal.returns-in_ok-answer-clause-put
returns-in_ok-answer-clause-put c =
    let size : ℕ = c.in-Some.kept.keeper.graph.size in
    let core : List ℕ = core_numbers_of c.in-Some.kept.keeper.graph in
    let layer : List ℕ = layers_of c.in-Some.kept.keeper.graph in (
      fact_text c.args.options.format (answer_to c.args.question (take size c.args.self.now.gathered.ids) core layer),
      c.in_ok-answer.ensures.ok
          ∙ ap (λ (l : List ℕ). c.args.out.now.items ++ fact_text c.args.options.format (answer_to c.args.question (take size l) core layer)) c.ids.ensures,
      λ told h k. (
        question-kept c.args.self.now.gathered told h c.args.options c.in-Some.kept c.args.self.now.ended c.args.question
            (subst (λ (o : Option Kept). KeepsAccount o c.args.self.now.ended told) c.in-Some.is k),
        tt,
      ),
    )
