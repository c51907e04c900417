-- Each clause by a lemma.
use Rattle.kc_text.proofs.Overruled.{deciding-count, deciding-names, deciding-once}
use Rattle.kc_text.proofs.a_batch_decides_each_pair_once.Goals as goal

pub returns : goal.returns
returns c = record { once = deciding-once; each = deciding-names; others = deciding-count }
