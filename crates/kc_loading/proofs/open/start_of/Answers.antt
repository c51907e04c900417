-- The state that was read has the text, and is as it is kept.
use Rattle.std.proofs.Common.{◌∙◌, sym}
use Rattle.kc_state.specs.Reading.{parts_of_state}
use Rattle.kc_loading.proofs.open.start_of.Goals as goal

pub returns : goal.returns
returns c = (
  parts_of_state c.in_ok-state.state,
  record {
    is = sym c.deref.ensures.value ∙ c.in_ok-state.ensures.told;
    kept = c.in_ok-state.ensures.kept;
    few = c.in_ok-state.ensures.few;
  },
  c.in_ok-start_text.ensures,
)
