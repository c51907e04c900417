-- A vertex with at most as many neighbours left as the level is taken, or else the level rises, until all are taken.
use Rattle.kc_graph.proofs.Existence.{certificate_exists}
use Rattle.kc_graph.proofs.certified_numbers_exist.Goals as goal

pub returns : goal.returns
returns c = certificate_exists
