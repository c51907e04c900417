-- The reply to nothing is empty, so what is put is the reply to the start text.
use Rattle.std.proofs.Common.{◌≡◌, ◌++◌, ◌∙◌, ℕ, List, [], ap, subst, sym}
use Rattle.kc_dialogue.specs.Openings.{HasOpened}
use Rattle.kc_watch.specs.Text.{reply, reply_at_end}
use Rattle.kc_watch.specs.Watching.{WasFed}
use Rattle.kc_watch.specs.declared.options.WatchOptions.{WatchOptions}
use Rattle.kc_loading.proofs.open.feed_start.Goals as goal

pub returns-clause-opened : goal.returns-clause-opened
returns-clause-opened c =
    let options : WatchOptions = c.args.watcher.now.options in
    let start : List ℕ = c.args.start.now in
    let same : c.feed.new.self.options ≡ options = c.in_ok-flow.ensures.settings in
    let (put, grown, adds) = c.in_ok-flow.ensures.put in
    let said : c.feed.new.out.items ≡ reply options start =
    grown ∙ ap (λ (t : List ℕ). t ++ put) c.new-text.ensures.items ∙ sym ((adds [] c.requires).0) in
    subst (λ (o : WatchOptions). HasOpened (reply o) (reply_at_end o) (WasFed c.feed.new.self) start c.in_ok-flow.flow c.feed.new.out.items) (sym same)
    (record {
      fed = c.in_ok-flow.ensures.fed [] c.requires;
      said = said;
      ended = λ e. c.in_ok-flow.ensures.ended e [] c.requires;
    })
