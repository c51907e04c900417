-- A vertex that was put stays open until its word is stored, which raises its stamp.
use Rattle.kc_table.proofs.Stamps.{put-since}
use Rattle.kc_table.proofs.laws.a_vertex_that_was_put_is_open_or_has_a_greater_stamp.Goals as goal

pub returns : goal.returns
returns c = λ shape opening first before log e v low a b legal put. put-since shape opening v low first before e log a b legal put
