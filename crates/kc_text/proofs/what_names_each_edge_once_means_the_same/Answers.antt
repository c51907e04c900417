-- Each clause by a lemma.
use Rattle.kc_text.proofs.Strict.{all-decide, same-refused, same-strict}
use Rattle.kc_text.proofs.what_names_each_edge_once_means_the_same.Goals as goal

pub returns : goal.returns
returns c = record { same = same-strict; all_decide = all-decide; refused = same-refused }
