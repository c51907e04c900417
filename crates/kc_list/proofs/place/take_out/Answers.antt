-- An item that is out leaves the list as it is.
use Rattle.std.proofs.Common.{sym, ◌∙◌}
use Rattle.kc_lists.proofs.Members.{without-none}
use Rattle.kc_list.proofs.place.take_out.Goals as goal

pub returns-else-is_in-clause-list : goal.returns-else-is_in-clause-list
returns-else-is_in-clause-list c = sym (without-none c.args.x c.args.links.now.list (sym c.requires ∙ c.if-is_in.false))
