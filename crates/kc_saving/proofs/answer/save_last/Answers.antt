-- Where a line has ended the reading the file stays, and else it has the last state.
use Rattle.std.proofs.Common.{◌≡◌, None, Some, inr, refl, sym, ap, ◌∙◌, true}
use Rattle.std.specs.Prelude.{is_some}
use Rattle.std.proofs.lemmas.Bool.{true≢false}
use Rattle.std.proofs.lemmas.Result.{on_ok_weaker}
use Rattle.kc_lists.proofs.Results.{none-from}
use Rattle.kc_watch.specs.States.{account_at_end}
use Rattle.kc_saving.proofs.answer.save_last.Goals as goal

pub returns-then-is_some-clause-kept : goal.returns-then-is_some-clause-kept
returns-then-is_some-clause-kept g c = λ before fed saved ended h.
    let some : is_some c.refusal.result ≡ true = sym c.is_some.ensures ∙ c.if-is_some.true in
    record {
      whole = λ none. absurd (true≢false (sym some ∙ ap is_some (c.refusal.ensures.at_end fed ended ∙ none)));
      refused = λ _. (saved, h);
    }

pub save-requires : goal.save-requires
save-requires g c =
    let (fed, ended) = c.requires in
    let none : c.refusal.result ≡ None = none-from c.refusal.result (sym c.is_some.ensures ∙ c.if-is_some.false) in
    (Some (account_at_end c.args.watcher.now.options.bad_lines fed), (fed, inr (ended, sym (c.refusal.ensures.at_end fed ended) ∙ none, refl)))

pub returns-clause-kept : goal.returns-clause-kept
returns-clause-kept g c =
    on_ok_weaker c.save.result (λ saves before fed saved ended h.
    let none = sym (c.refusal.ensures.at_end fed ended) ∙ none-from c.refusal.result (sym c.is_some.ensures ∙ c.if-is_some.false) in
    let s = saves (Some (account_at_end c.args.watcher.now.options.bad_lines fed)) (fed, inr (ended, none, refl)) in
    record {
      whole = λ _. (λ name other. s.0 name other ∙ h.others name other, s.1);
      refused = λ some. absurd (some none);
    }) c.save.ensures.saved
