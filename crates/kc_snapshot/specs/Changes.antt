-- What a change does to the history that a board shows.
use Rattle.std.specs.Prelude.{◌==◌, if◌then◌else◌, List, length}
use Rattle.kc_snapshot.specs.declared.member.Member.{Member}

-- the history before and after a list is added
pub record Going : Type 0 where
  pub before : List Member
  pub after : List Member

-- the history goes on where the change begins
abbrev pub gone_on : List Member → Going → List Member
gone_on history c = if length history == length c.before then c.after else history
