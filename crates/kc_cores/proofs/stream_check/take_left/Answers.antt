-- A line that is wrong is told, and no call of the source has failed then.
use Rattle.std.proofs.Common.{option_map, refl}
use Rattle.kc_cores.specs.Endings.{line_of}
use Rattle.kc_cores.proofs.StreamChecking.{NoPieceFor-wrong}
use Rattle.kc_cores.proofs.stream_check.take_left.Goals as goal

pub returns-in-Err-Line-clause-stopped : goal.returns-in-Err-Line-clause-stopped
returns-in-Err-Line-clause-stopped g c = λ claims before h.
    let line = rw c.in-Err-Line.field-0-is at c.in-Err-Line.ensures.line in
    let faultless = rw c.in-Err-Line.field-0-is at c.in-Err-Line.ensures.faultless in
    NoPieceFor-wrong c.wrong_line.result.status (line_of c.wrong_line.result) c.args.several (option_map (λ t. t.now) c.args.file) claims before
    (g.S.Source.left c.args.source.now) c.in-Err-Line.faulty _ _ c.wrong_line.ensures (line claims before c.in-Err-Line.faulty h refl)
    (faultless (λ e. absurd (cc)))
