-- The last byte tells it, if there is one.
use Rattle.kc_dialogue.proofs.Behind.{is_cut_off-last, is_cut_off-none}
use Rattle.kc_dialogue.proofs.open.is_cut_off.Goals as goal

pub returns-in-None : goal.returns-in-None
returns-in-None c = is_cut_off-none c.args.bytes.now c.in-None.ensures.value

pub returns-in-Some : goal.returns-in-Some
returns-in-Some c = is_cut_off-last c.args.bytes.now c.in-Some.byte.now c.in-Some.ensures.value
