-- Where a line has ended the reading nothing is known of what is kept, and else it is what the lines that were read mean.
use Rattle.std.proofs.Common.{◌≡◌, ◌∙◌, Option, ap, inl, refl, sym, true}
use Rattle.std.specs.Prelude.{is_some}
use Rattle.std.proofs.lemmas.Bool.{true≢false}
use Rattle.kc_lists.proofs.Results.{none-from}
use Rattle.kc_watch.specs.Accounts.{Account}
use Rattle.kc_watch.specs.States.{account_so_far}
use Rattle.kc_saving.proofs.Keeping.{HoldsSave-saved}
use Rattle.kc_saving.proofs.save.save_if_due.Goals as goal

pub returns-then-is_some-clause-recent : goal.returns-then-is_some-clause-recent
returns-then-is_some-clause-recent g c = λ fed f n every none.
    let some : is_some c.refusal.result ≡ true = sym c.is_some.ensures ∙ c.if-is_some.true in
    absurd (true≢false (sym some ∙ ap is_some (c.refusal.ensures.so_far fed f ∙ none)))

pub save-requires : goal.save-requires
save-requires g c =
    let (fed, f) = c.requires in
    let none = sym (c.refusal.ensures.so_far fed f) ∙ none-from c.refusal.result (sym c.is_some.ensures ∙ c.if-is_some.false) in
    (account_so_far c.args.watcher.now.options.bad_lines fed, (fed, inl (f, none, refl)))

pub returns-in-Ok-clause-holds : goal.returns-in-Ok-clause-holds
returns-in-Ok-clause-holds g c = λ before fed f h.
    let account : Option Account = account_so_far c.args.watcher.now.options.bad_lines fed in
    let none = sym (c.refusal.ensures.so_far fed f) ∙ none-from c.refusal.result (sym c.is_some.ensures ∙ c.if-is_some.false) in
    HoldsSave-saved c.args.saves.file.now c.args.watcher.now.options.bad_lines before (g.P.Folder.holds c.args.folder.now)
    (g.P.Folder.holds c.save.new.folder) fed c.args.saved c.ended_batches-ended.result account refl (c.ended_batches-ended.ensures fed f none)
    (c.is_due.ensures.yes c.if-not-is_due.false) (c.in-Ok.ensures.saved account (fed, inl (f, none, refl))) h
