-- The start ends with its graph and its line, and a batch with its own text.
use Rattle.std.proofs.Common.{◌≡◌, [], ℕ, List, sym, subst, ap, ◌∙◌, append-nil, arith, Option}
use Rattle.std.proofs.lemmas.List.{append_cancel_left}
use Rattle.kc_text.specs.Deciding.{last_batch}
use Rattle.kc_text.specs.Inputs.{EdgeBatch}
use Rattle.kc_text.specs.Meaning.{Told}
use Rattle.kc_watch.specs.Accounts.{Account, account_of, entered, one_ended}
use Rattle.kc_reply.specs.Facts as fact
use Rattle.kc_reply.specs.Texts.{fact_text}
use Rattle.kc_watch.specs.Layered.{LayeredGraph}
use Rattle.kc_watch.specs.Text.{batch_text, open_text, start_line}
use Rattle.kc_watch.specs.Watching.{KeepsAccount, graph_gathered}
use Rattle.kc_watch.specs.declared.kept.Kept.{Kept}
use Rattle.kc_watch.proofs.Lines.{on-err, prefix-none}
use Rattle.kc_watch.proofs.Parts.{batch-before, batch-keeps, batch-open, start-keeps, start-text, vertices-within}
use Rattle.kc_watch.proofs.course.Course.end_part.Goals as goal

pub returns-in_err-keeper-clause-put : goal.returns-in_err-keeper-clause-put
returns-in_err-keeper-clause-put g c = (
  [],
  c.in_err-keeper.ensures.err ∙ sym (append-nil c.args.out.now.items),
  λ told h k. on-err c.from_residual.result _ _ c.from_residual.ensures.0 (prefix-none (open_text c.args.options told)),
)

pub returns-in_default-clause-keeps : goal.returns-in_default-clause-keeps
returns-in_default-clause-keeps g c = λ told h k.
    start-keeps c.args.self.now.gathered told h c.new.result c.args.self.now.ended
    (subst (λ (o : Option Kept). KeepsAccount o c.args.self.now.ended told) c.in_default.is k)
    (ap (λ (k : LayeredGraph). k.graph) c.new.ensures ∙ c.in_ok-keeper.ensures.kept)

pub returns-in_default-clause-put : goal.returns-in_default-clause-put
returns-in_default-clause-put g c = (
  fact_text c.args.options.format (fact.Summary (start_line (graph_gathered c.args.self.now.gathered))),
  c.in_ok-keeper.ensures.put,
  λ told h k. (
    sym (start-text c.args.self.now.gathered told h c.args.options c.args.self.now.ended
        (subst (λ (o : Option Kept). KeepsAccount o c.args.self.now.ended told) c.in_default.is k)),
    tt,
  ),
)

pub end_batch-requires-clause-more : goal.end_batch-requires-clause-more
end_batch-requires-clause-more g c =
    let (told, h, k) = c.requires in
    vertices-within c.args.self.now.gathered told h c.in-Some.kept c.args.self.now.ended
    (subst (λ (o : Option Kept). KeepsAccount o c.args.self.now.ended told) c.in-Some.is k)

pub returns-in_err-end_batch-clause-put : goal.returns-in_err-end_batch-clause-put
returns-in_err-end_batch-clause-put g c = (
  [],
  c.in_err-end_batch.ensures.err ∙ sym (append-nil c.args.out.now.items),
  λ told h k. on-err c.from_residual-in_err-end_batch.result _ _ c.from_residual-in_err-end_batch.ensures.0 (prefix-none (open_text c.args.options told)),
)

pub returns-clause-keeps : goal.returns-clause-keeps
returns-clause-keeps g c = λ told h k.
    batch-keeps c.args.self.now.gathered told h c.in-Some.kept c.end_batch.new.self c.args.self.now.ended c.saturating_add-number.result
    (let counted : c.saturating_add-number.result ≡ one_ended c.args.self.now.ended = omega (arith, c.saturating_add-number.ensures) in counted)
    (subst (λ (o : Option Kept). KeepsAccount o c.args.self.now.ended told) c.in-Some.is k) c.in_ok-end_batch.ensures.graph

pub returns-clause-put : goal.returns-clause-put
returns-clause-put g c =
    let counted : c.saturating_add-number.result ≡ one_ended c.args.self.now.ended = omega (arith, c.saturating_add-number.ensures) in
    let batch : EdgeBatch = last_batch c.args.self.now.gathered.updates.items in
    let text : Told → List ℕ = (λ told.
    let before : Account = account_of told.edges told.earlier in
    batch_text c.args.options before batch (entered before c.args.self.now.gathered.ids batch)) in
    let (first, h₀, k₀) = c.requires in
    let out = c.in_ok-end_batch.ensures.put (account_of first.edges first.earlier)
    (batch-before c.args.self.now.gathered first h₀ c.in-Some.kept c.args.self.now.ended c.saturating_add-number.result counted
    (subst (λ (o : Option Kept). KeepsAccount o c.args.self.now.ended first) c.in-Some.is k₀)) in (
      text first,
      out,
      λ told h k.
          let kept = subst (λ (o : Option Kept). KeepsAccount o c.args.self.now.ended told) c.in-Some.is k in
          let again = c.in_ok-end_batch.ensures.put (account_of told.edges told.earlier)
          (batch-before c.args.self.now.gathered told h c.in-Some.kept c.args.self.now.ended c.saturating_add-number.result counted kept) in (
            append_cancel_left c.args.out.now.items (text first) (text told) (sym out ∙ again)
                ∙ sym (batch-open c.args.self.now.gathered told h c.args.options c.in-Some.kept c.args.self.now.ended kept),
            tt,
          ),
    )
