-- The head was put back, without the mark where the text is in no dialect.
use Rattle.std.proofs.Common.{◌∙◌, ℕ, List, ap}
use Rattle.kc_cores.specs.Inputs.{text_bytes}
use Rattle.kc_cores.proofs.Looked.{IsLookedAt-put_back}
use Rattle.kc_cores.proofs.reading.look.Goals as goal

pub returns-in_ok-put_back-in-Ok-clause-looked : goal.returns-in_ok-put_back-in-Ok-clause-looked
returns-in_ok-put_back-in-Ok-clause-looked g c =
    IsLookedAt-put_back c.args.dialect (g.I.Source.left c.args.input.now) (g.I.Source.left c.read_head.new.source)
    (g.I.Source.left c.put_back.new.self) c.in-Ok.head.items c.text_bytes-text.result.now c.in-Ok.ensures.head
    (c.text_bytes-text.ensures ∙ ap (λ (t : List ℕ). text_bytes c.args.dialect t) c.deref.ensures.value) c.in_ok-put_back-in-Ok.ensures.bytes
