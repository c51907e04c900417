-- Where nothing is asked for, nothing stands behind the line; and else the changes of the ids are listed.
use Rattle.std.proofs.Common.{◌≡◌, ◌++◌, ℕ, List, Option, ap₂, sym, subst, ◌∙◌, append-nil}
use Rattle.std.proofs.lemmas.Result.{on_ok_weaker}
use Rattle.kc_changes.specs.Changed.{AreIdChanges, facts_behind}
use Rattle.kc_changes.specs.declared.id_change.IdChange.{IdChange}
use Rattle.kc_changes.specs.declared.show.Show.{Show}
use Rattle.kc_keeper.specs.declared.changes.CoreChange.{CoreChange}
use Rattle.kc_reply.specs.Texts.{facts_text}
use Rattle.kc_watch.specs.Accounts.{core_number_in, core_numbers_of}
use Rattle.kc_watch.specs.Endings.{changes_of}
use Rattle.kc_watch.proofs.Accounts.{numbers-alone}
use Rattle.kc_watch.proofs.Changing.{changes-listed}
use Rattle.kc_watch.proofs.kept.Kept.put_behind.Goals as goal

pub returns-then-is_brief-clause-ok : goal.returns-then-is_brief-clause-ok
returns-then-is_brief-clause-ok c = λ before after h.
    sym (ap₂ (λ (s : Show) (k : Option ℕ). c.args.out.now.items
    ++ facts_text c.args.options.format (facts_behind s k (core_number_in before) (core_number_in after) after.ids))
    (c.is_brief.ensures.show c.if-is_brief.true) (c.is_brief.ensures.enter c.if-is_brief.true) ∙ append-nil c.args.out.now.items)

pub changes_of-requires-clause-long : goal.changes_of-requires-clause-long
changes_of-requires-clause-long c = sym (c.core_numbers-core.ensures.seidman.one_each ∙ c.requires.size)

pub returns-clause-ok : goal.returns-clause-ok
returns-clause-ok c =
    let ids : List ℕ = c.args.ids.now in
    let known : ℕ = c.args.known in
    let core : c.core_numbers-core.result.now ≡ core_numbers_of c.args.self.now.keeper.graph = numbers-alone _ _ c.core_numbers-core.ensures.seidman in
    let listed : c.deref_mut.result.now ≡ changes_of ids known (core_numbers_of c.args.self.now.keeper.graph) c.args.self.now.changes.cores.items =
    c.deref_mut.ensures.value ∙ c.in_ok-listed.ensures
    ∙ ap₂ (λ (l : List ℕ) (cs : List CoreChange). changes_of ids known l cs) core c.deref.ensures.value in
    on_ok_weaker c.put_changes.result
    (λ e before after h. e (core_number_in before) (core_number_in after) after.ids
    (subst (λ (cs : List IdChange). AreIdChanges (core_number_in before) (core_number_in after) after.ids cs) (sym listed)
    (changes-listed before after known ids (core_numbers_of c.args.self.now.keeper.graph) c.args.self.now.changes.cores.items h)))
    c.put_changes.ensures.ok
