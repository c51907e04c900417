-- A replier that was fed nothing says nothing first.
use Rattle.std.proofs.Common.{◌∙◌, [], sym}
use Rattle.kc_dialogue.proofs.answer.answer_wire.Goals as goal

pub answer_opened-requires : goal.answer_opened-requires
answer_opened-requires g c =
    ([], record { fed = c.requires.fed; said = c.new.ensures.items ∙ sym c.requires.silent; ended = λ e. absurd (cc) })

pub returns-clause-answered : goal.returns-clause-answered
returns-clause-answered g c =
    c.answer_opened.ensures.answered []
    (record { fed = c.requires.fed; said = c.new.ensures.items ∙ sym c.requires.silent; ended = λ e. absurd (cc) })
