-- A scratch may go to another thread, with the memory of answers that it keeps. Each part is shown by itself: one search over all runs
-- out of steps.
use denote.Struct.Declared.{Declared, shape}
use denote.Struct.Struct.{Struct}
use denote.Param.Send.{IsSend, recorded_send, sendable, struct_send, view_send}
use Rattle.std.proofs.Crossing.{crosses}
use Rattle.std.specs.contracts.vec.Vec as vec
use Rattle.std.specs.contracts.alloc.Global as heap
use Rattle.std.specs.contracts.impls.GlobalAllocator.TheImpl as allocator
use Rattle.kc_graph.specs.contracts.used.Used as used
use Rattle.kc_graph.specs.contracts.used.UsedEdges as used_edges
use Rattle.kc_view.specs.contracts.scratch.Scratch as scratch
use Rattle.kc_view.specs.contracts.scratch.Scratch.TheInside as inside

-- a list that was read may go to another thread
list_send : IsSend used_edges.the_row
list_send = search (sendable, crosses) depth 20

-- lists that were read may go to another thread
lists_send : IsSend (vec.the_field used_edges.the_row heap.the_row allocator.ghosts).row
lists_send = search (sendable, crosses, list_send) depth 20

-- answers may go to another thread
answers_send : IsSend used.the_field.row
answers_send = search (sendable, crosses, lists_send) depth 20

-- a scratch may go to another thread
pub scratch_send : IsSend scratch.the_row
scratch_send =
    let T : Declared = inside.the_type in
    view_send _ _ _ _ _ (recorded_send (Struct (shape T)) T.D T.to T.to_one
    (struct_send (shape T) (search (sendable, crosses) depth 20, (search (sendable, crosses) depth 20, (answers_send, tt)))))
