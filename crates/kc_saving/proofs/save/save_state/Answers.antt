-- The text is that of the state, whose order certifies its core numbers.
use Rattle.kc_state.specs.Texts.{state_text}
use Rattle.kc_saving.proofs.save.save_state.Goals as goal

pub returns-in-Ok-put_state-clause-saved : goal.returns-in-Ok-put_state-clause-saved
returns-in-Ok-put_state-clause-saved g c = λ account is. (
  c.in-Ok-put_state.ensures.others,
  (
    state_text (record { batches = c.args.state.now.batches; ids = c.args.state.now.ids.items; ranked = c.args.state.now.lawful }),
    record {
      ranked = c.args.state.now.lawful;
      certified = c.graph-certified.ensures.certified;
      graph_is = is.graph_is;
      text_is = λ i. state_text (record { batches = is.batches_are i; ids = is.ids_are i; ranked = c.args.state.now.lawful });
    },
    c.in-Ok-put_state.ensures.saved,
  ),
)
