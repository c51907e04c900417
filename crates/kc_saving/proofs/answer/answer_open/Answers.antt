-- Nothing has happened where there is no memory to begin.
use Rattle.kc_saving.proofs.Turned.{kept-nothing}
use Rattle.kc_saving.proofs.answer.answer_open.Goals as goal

pub returns-in_default-clause-kept : goal.returns-in_default-clause-kept
returns-in_default-clause-kept g c = λ start first going none.
    kept-nothing c.args.made.now.watcher.options c.args.saves.file.now c.args.saves.every (g.P.Folder.holds c.args.folder.now) start first
    c.args.made.now.watcher
    (g.W.Wire.history c.args.wire.now) going
