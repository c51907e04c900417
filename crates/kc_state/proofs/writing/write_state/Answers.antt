-- What was taken before a write failed is a prefix of the text.
use Rattle.std.proofs.Common.{◌∙◌}
use Rattle.std.proofs.lemmas.Result.{on_err_weaker}
use Rattle.kc_lines.proofs.Paging.{part-passed}
use Rattle.kc_state.specs.Texts.{state_text}
use Rattle.kc_state.proofs.writing.write_state.Goals as goal

pub returns-clause-prefix : goal.returns-clause-prefix
returns-clause-prefix g c =
    on_err_weaker c.write.result (λ part. part-passed _ _ _ _ _
    (state_text (record { batches = c.args.batches; ids = c.args.ids.now; ranked = c.args.lawful.now })) c.in_ok-put_state.ensures.passes part
    (c.new-summed.ensures.page ∙ c.requires.empty))
    c.write.ensures.part
