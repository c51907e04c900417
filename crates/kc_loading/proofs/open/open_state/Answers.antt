-- What was fed is the start text of the state.
use Rattle.std.proofs.Common.{◌∙◌, ℕ, List, subst}
use Rattle.kc_dialogue.specs.Openings.{HasOpened}
use Rattle.kc_watch.specs.Text.{reply, reply_at_end}
use Rattle.kc_watch.specs.Watching.{WasFed}
use Rattle.kc_loading.proofs.open.open_state.Goals as goal

pub returns-clause-opened : goal.returns-clause-opened
returns-clause-opened c =
    let (state, is, same) = c.in_ok-start.ensures in
    let options = c.feed_start.new.watcher.options in (
      state,
      is,
      subst (λ (t : List ℕ). HasOpened (reply options) (reply_at_end options) (WasFed c.feed_start.new.watcher) t c.in_ok-feed_start.field-0.flow
          c.in_ok-feed_start.field-0.text.items) (c.deref.ensures.value ∙ same) c.in_ok-feed_start.ensures.opened,
    )
