-- The reader was fed just these bytes.
use Rattle.std.proofs.Common.{[]}
use Rattle.kc_text.proofs.parse.Goals as goal

pub feed-requires : goal.feed-requires
feed-requires c = ([], c.new-reader.ensures.fed)

pub finish-requires : goal.finish-requires
finish-requires c = (c.args.bytes.now, c.in_ok-feed.ensures.fed [] c.new-reader.ensures.fed)
