-- The ids are those that the lines have named, and what is kept is that of their account.
use Rattle.std.proofs.Common.{ap, sym, subst, ◌∙◌}
use Rattle.std.proofs.lemmas.Result.{IfOk-weaker}
use Rattle.kc_text.specs.declared.line.TextLine.TheVariants as said
use Rattle.kc_text.specs.Meaning.{Told, with_line}
use Rattle.kc_stream.specs.Hearing.{Heard, heard_at_end}
use Rattle.kc_stream.proofs.Naming.{ids-batch}
use Rattle.kc_watch.specs.States.{IsStateFor, account_told}
use Rattle.kc_watch.proofs.Fed.{fed-heard, heard_by}
use Rattle.kc_watch.proofs.watcher.Watcher.state.Goals as goal

pub returns-clause-so_far : goal.returns-clause-so_far
returns-clause-so_far c =
    IfOk-weaker c.state.result _ _
    (λ state is fed f none.
    let same = fed-heard c.args.self.now fed f in
    let going = ap (λ (h : Heard). h.refusal) (sym same) ∙ none in
    subst (λ (h : Heard). IsStateFor (account_told h.told) state) (sym same)
    (is (heard_by c.args.self.now fed f).told (f.stands.gathers.holds going).ids (f.stands.keeps going))) c.state.ensures

pub returns-clause-at_end : goal.returns-clause-at_end
returns-clause-at_end c =
    IfOk-weaker c.state.result _ _
    (λ state is fed ended none.
    let told : Told = (heard_at_end c.args.self.now.options.bad_lines fed).told in
    let all = ended.2 (ended.0 ∙ none) in
    is (with_line told said.Batch) (all.ids ∙ sym (ids-batch told)) all.keeps) c.state.ensures
