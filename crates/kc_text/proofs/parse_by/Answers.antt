-- The reader was fed just these bytes.
use Rattle.std.proofs.Common.{[]}
use Rattle.kc_text.proofs.parse_by.Goals as goal

pub feed_pieces-requires : goal.feed_pieces-requires
feed_pieces-requires g c = ([], c.new-text.ensures.fed)

pub finish-requires : goal.finish-requires
finish-requires g c = (c.args.bytes.now, c.in_ok-feed_pieces.ensures.fed [] c.new-text.ensures.fed)
