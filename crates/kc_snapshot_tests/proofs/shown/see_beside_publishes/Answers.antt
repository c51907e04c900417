-- The run may go to another thread. What has a `Snapshot` within is shown part by part, and of the parts it is known.
use denote.RattleType.{RattleType}
use denote.Struct.Declared.{Declared, shape}
use denote.Struct.Struct.{Struct}
use denote.Param.Send.{IsSend, recorded_send, sendable, struct_send, view_send}
use Rattle.std.proofs.Crossing.{crosses}
use Rattle.kc_graph.proofs.shared.SharedGraph.TheSendSync as graph
use Rattle.kc_table.proofs.pass.Pass.TheSendSync as pass
use Rattle.kc_table.proofs.words.Words.TheSendSync as words
use Rattle.kc_levels.proofs.levels.Levels.TheSendSync as levels
use Rattle.kc_journal.specs.contracts.journal.Journal as journal
use Rattle.kc_snapshot.specs.declared.name.BoardName as name
use Rattle.kc_snapshot.proofs.publisher.Publisher.TheSendSync as publisher
use Rattle.kc_published.proofs.moved.Moved.TheSendSync as moved
use Rattle.kc_published.specs.contracts.shown.Published as shown
use Rattle.kc_published.specs.contracts.shown.Published.TheInside as inside
use Rattle.kc_snapshot_tests.specs.contracts.shown.Run as run
use Rattle.kc_snapshot_tests.proofs.shown.see_beside_publishes.Goals as goal

-- a journal may go to another thread
journal_send : IsSend journal.the_row
journal_send = search (sendable, crosses, graph.the_send, levels.the_send) depth 20

-- a journal that is shown may go where what its publisher waits by may go
shown_send : (J R : RattleType) (n : name.Ghosts J.Denot) → IsSend R → IsSend (shown.the_row J R n)
shown_send J R n r =
    let T : Declared = inside.the_type J R n in
    view_send _ _ _ _ _ (recorded_send (Struct (shape T)) T.D T.to T.to_one
    (struct_send (shape T) (journal_send, (publisher.the_send J R _ n r, (moved.the_send, tt)))))

-- so may a run
run_send : (J R : RattleType) (n : name.Ghosts J.Denot) → IsSend R → IsSend (run.the_row J R n)
run_send J R n r =
    let T : Declared = run.the_type J R n in
    recorded_send (Struct (shape T)) T.D T.to T.to_one
    (struct_send (shape T) (words.the_send, (pass.the_send, (shown_send J R n r, (search sendable, tt)))))

pub join-published-requires-send-F : goal.join-published-requires-send-F
join-published-requires-send-F g c κs within = let shared = c.type_bounds.sync-R in search (sendable, run_send) depth 20
