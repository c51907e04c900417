-- The parts of the front, and behind them those of the back.
use Rattle.kc_text_tests.proofs.PartsTogether.{both-parts}
use Rattle.kc_text_tests.proofs.parts.two_parts.Goals as goal

pub returns : goal.returns
returns c = both-parts c.cut_lines.result.0.now c.cut_lines.result.1.now c.args.bytes.now c.in_ok-parts.parts.items c.in_ok-more.more.items _
    c.cut_lines.ensures.parts c.in_ok-parts.ensures c.in_ok-more.ensures c.in_ok-append.ensures.items
