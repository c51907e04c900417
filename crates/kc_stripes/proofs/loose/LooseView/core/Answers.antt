-- A core number that was not kept is read by one load, and kept.
use Rattle.std.proofs.Common.{◌∙◌, arith, rules}
use Rattle.kc_view.proofs.Marking.{TellsNewCore, tells_new_core}
use Rattle.kc_agree.specs.Reads.{place_after}
use Rattle.kc_stripes.specs.Reads.{loosely}
use Rattle.kc_stripes.proofs.Loosening.{Goes, keeps_place, sees_more}
use Rattle.kc_stripes.proofs.loose.LooseView.core.Given as given
use Rattle.kc_stripes.proofs.loose.LooseView.core.Goals.{In_ok-read_core}
use Rattle.kc_stripes.proofs.loose.LooseView.core.Goals as goal

-- what a call leaves that kept the core number
keeps : (g : given.Over) (c : goal.In_ok-read_core g) → Goes g.K.Name.opened g.S.Moment.log
    (loosely c.self.inside.memo c.self.inside.handed c.self.inside.misses c.self.inside.pass.log)
    (loosely c.read_core.new.memo c.self.inside.handed c.self.inside.misses c.read_core.new.pass.log)
keeps g c =
    let read = c.read_core.ensures in
    keeps_place c.args.w c.self.invariant.1 read.table c.self.invariant.2 read.longer c.in_ok-read_core.ensures.told read.read

-- the core number is told for the first time
tells : (g : given.Over) (c : goal.In_ok-read_core g) → TellsNewCore c.self.inside.memo.kept
    (place_after c.read_core.new.pass.table c.read_core.new.pass.log c.args.w)
tells g c = tells_new_core c.self.inside.memo.kept _ (search rules)

pub invariant_of-self : goal.invariant_of-self
invariant_of-self g c = (
  c.self.invariant.0,
  c.read_core.ensures.table ∙ c.self.invariant.1,
  (sees_more c.self.inside.misses c.self.invariant.2 c.read_core.ensures.longer (omega arith) c.in_err-read_core.ensures.same).is,
)

pub returns-in_err-read_core-clause-goes_on : goal.returns-in_err-read_core-clause-goes_on
returns-in_err-read_core-clause-goes_on g c =
    rw (← c.self.view_is)
    (sees_more c.self.inside.misses c.self.invariant.2 c.read_core.ensures.longer (omega arith) c.in_err-read_core.ensures.same).goes_on

pub invariant_of-self-2 : goal.invariant_of-self-2
invariant_of-self-2 g c = (
  c.self.invariant.0,
  c.read_core.ensures.table ∙ c.self.invariant.1,
  (keeps g (goal.at.invariant_of-self-2 g c).In_ok-read_core).is,
)

pub returns-clause-goes_on : goal.returns-clause-goes_on
returns-clause-goes_on g c = rw (← c.self.view_is) (keeps g (goal.at.returns-clause-goes_on g c).In_ok-read_core).goes_on

pub returns-clause-told : goal.returns-clause-told
returns-clause-told g c = rw (c.in_ok-read_core.ensures.told, ← c.self.view_is) (tells g (goal.at.returns-clause-told g c).In_ok-read_core).told

pub returns-clause-core : goal.returns-clause-core
returns-clause-core g c =
    rw c.in_ok-read_core.ensures.told (c.in_ok-read_core.ensures.core ∙ (tells g (goal.at.returns-clause-core g c).In_ok-read_core).core)
