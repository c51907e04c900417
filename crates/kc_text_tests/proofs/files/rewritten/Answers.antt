-- Each piece is fed behind those before.
use Rattle.std.proofs.Common.{◌++◌, []}
use Rattle.kc_text_tests.proofs.files.rewritten.Goals as goal

pub feed-requires-2 : goal.feed-requires-2
feed-requires-2 c = let f = c.in_ok-feed.ensures.fed in ([] ++ c.args.first.now, [] ++ f.0, f.2 [] [] c.new-rewriter.ensures.fed)

pub finish-requires : goal.finish-requires
finish-requires c =
    let f = c.in_ok-feed.ensures.fed in
    let g = c.in_ok-feed-2.ensures.fed in (
      ([] ++ c.args.first.now) ++ c.args.second.now,
      ([] ++ f.0) ++ g.0,
      g.2 ([] ++ c.args.first.now) ([] ++ f.0) (f.2 [] [] c.new-rewriter.ensures.fed),
    )
