-- What the watcher keeps is what is saved.
use Rattle.std.proofs.Common.{Option, refl, subst, sym}
use Rattle.std.proofs.lemmas.Result.{on_ok_weaker}
use Rattle.kc_watch.specs.States.{IsStateFor}
use Rattle.kc_watch.specs.Accounts.{Account}
use Rattle.kc_saving.specs.Steps.{IsSaved}
use Rattle.kc_saving.proofs.Stated.{keeps-state, none-account, some-account}
use Rattle.kc_saving.proofs.save.save.Goals as goal

pub save_state-requires : goal.save_state-requires
save_state-requires g c =
    let (account, k) = c.requires in
    let found = keeps-state c.args.watcher.now c.in-Ok-Some.field-0 c.in-Ok-Some.ensures.so_far c.in-Ok-Some.ensures.at_end account k in
    let (a, is, h) = some-account account c.in-Ok-Some.state (subst (IsStateFor account) c.in-Ok-Some.field-0-is found) in
    h.one_id_each

pub returns-in-Ok-None-clause-saved : goal.returns-in-Ok-None-clause-saved
returns-in-Ok-None-clause-saved g c = λ account k.
    subst (λ (a : Option Account). IsSaved c.args.file.now (g.P.Folder.holds c.args.folder.now) (g.P.Folder.holds c.args.folder.now) a)
    (sym (none-account account (subst (IsStateFor account) c.in-Ok-None.field-0-is
    (keeps-state c.args.watcher.now c.in-Ok-None.field-0 c.in-Ok-None.ensures.so_far c.in-Ok-None.ensures.at_end account k)))) (λ name. refl)

pub returns-in-Ok-Some-clause-saved : goal.returns-in-Ok-Some-clause-saved
returns-in-Ok-Some-clause-saved g c =
    on_ok_weaker c.save_state.result (λ saved account k.
    let found = keeps-state c.args.watcher.now c.in-Ok-Some.field-0 c.in-Ok-Some.ensures.so_far c.in-Ok-Some.ensures.at_end account k in
    let (a, is, h) = some-account account c.in-Ok-Some.state (subst (IsStateFor account) c.in-Ok-Some.field-0-is found) in
    subst (λ (x : Option Account). IsSaved c.args.file.now (g.P.Folder.holds c.args.folder.now) (g.P.Folder.holds c.save_state.new.folder) x) (sym is)
    (saved a h)) c.save_state.ensures.saved
