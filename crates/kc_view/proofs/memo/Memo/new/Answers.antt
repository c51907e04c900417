-- Clear marks are those of no answers, which is what the memory that was kept holds.
use Rattle.kc_view.specs.Answers.{answers_in}
use Rattle.kc_view.proofs.Marked.{fresh-marks}
use Rattle.kc_view.proofs.memo.Memo.new.Goals as goal

pub invariant_of-result : goal.invariant_of-result
invariant_of-result c =
    let lent = c.into_marks-listed.ensures in
    fresh-marks c.args.scratch c.into_marks-listed.result.0.items c.into_marks-listed.result.1.items (answers_in c.into_marks-listed.result.2)
    lent.spare lent.marks.0 lent.marks.1
