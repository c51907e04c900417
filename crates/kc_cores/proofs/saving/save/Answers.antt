-- There is no graph, or the file has the lines, or it was not written.
use Rattle.kc_wishes.specs.Requests.{query_of}
use Rattle.kc_cores.specs.Endings.{line_of}
use Rattle.kc_cores.proofs.Replaced.{SaveEnded-no_graph}
use Rattle.kc_cores.proofs.saving.save.Goals as goal

pub returns-in-Err : goal.returns-in-Err
returns-in-Err g c =
    SaveEnded-no_graph g.I.Source g.I.FileInput.behind g.P.Folder.holds g.P.Folder.failed c.args.request.file.now (query_of c.args.request.lines)
    c.in-Err.ending.status (line_of c.in-Err.ending) c.args.input.now c.prepare.new.input c.args.folder.now c.in-Err.ensures.stopped
