-- The row is a list of its own afterwards, or what it was.
use Rattle.std.proofs.Common.{refl, inl}
use Rattle.kc_graph.proofs.row.Row.take_with_room.Goals as goal

pub returns-in_err-reserve-in-Own-clause-place : goal.returns-in_err-reserve-in-Own-clause-place
returns-in_err-reserve-in-Own-clause-place c = inl (c.reserve.new.self, refl)

pub returns-in_ok-reserve-in-Own-clause-place : goal.returns-in_ok-reserve-in-Own-clause-place
returns-in_ok-reserve-in-Own-clause-place c = inl (c.replace.new.dest, refl)

pub returns-in_ok-list-in-Part-clause-place : goal.returns-in_ok-list-in-Part-clause-place
returns-in_ok-list-in-Part-clause-place c = inl (c.new-in-Part.result, refl)
