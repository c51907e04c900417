-- An order list may go to another thread. Each part is shown by itself, so that a search over what has one stays short.
use denote.Param.Send.{IsSend, sendable}
use Rattle.std.proofs.Crossing.{crosses}
use Rattle.kc_links.specs.contracts.Links as links
use Rattle.kc_list.specs.contracts.groups.Groups as groups
use Rattle.kc_list.specs.contracts.labelled.LabelledList as labelled
use Rattle.kc_list.specs.contracts.plain.PlainOrder as plain
use Rattle.kc_list.specs.contracts.scratch.GroupRoom as room
use Rattle.kc_list.specs.contracts.sheet.Sheet as sheet

-- the ring of the list may go to another thread
links_send : IsSend links.the_row
links_send = search (sendable, crosses) depth 20

-- the sizes of the groups may go to another thread
groups_send : IsSend groups.the_row
groups_send = search (sendable, crosses) depth 20

-- the sheet with its words and writes may go to another thread
sheet_send : IsSend sheet.the_row
sheet_send = search (sendable, crosses) depth 20

-- the memory that a call uses may go to another thread
room_send : IsSend room.the_row
room_send = search (sendable, crosses) depth 20

-- the labelled list may go to another thread
labelled_send : IsSend labelled.the_row
labelled_send = search (sendable, crosses, links_send, groups_send, sheet_send) depth 20

-- the whole order list may go to another thread
pub plain_send : IsSend plain.the_row
plain_send = search (sendable, crosses, labelled_send, room_send) depth 20
