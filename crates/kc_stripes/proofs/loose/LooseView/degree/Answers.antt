-- A list that was not kept is read of its stripe, and kept.
use Rattle.std.proofs.Common.{ℕ, length, refl, ◌∙◌, ap, arith, rules}
use Rattle.kc_view.proofs.Marking.{TellsNewList, tells_new_list}
use Rattle.kc_stripes.specs.Reads.{loosely}
use Rattle.kc_stripes.proofs.Loosening.{Goes, keeps_list, sees_more, short_list, short_told}
use Rattle.kc_stripes.proofs.loose.LooseView.degree.Given as given
use Rattle.kc_stripes.proofs.loose.LooseView.degree.Goals.{In_ok-keep_list}
use Rattle.kc_stripes.proofs.loose.LooseView.degree.Goals as goal

-- what a call leaves that kept the list
keeps : (g : given.Over) (c : goal.In_ok-keep_list g) → Goes g.K.Name.opened g.S.Moment.log
    (loosely c.self.inside.memo c.self.inside.handed c.self.inside.misses c.self.inside.pass.log)
    (loosely c.keep_list.new.self c.self.inside.handed c.self.inside.misses c.read.new.pass.log)
keeps g c =
    let list = c.in_ok-neighbours.ensures in
    keeps_list c.self.invariant.2 list.longer c.in_ok-keep_list.ensures.ok list.was list.newer list.others

-- the list is told for the first time
tells : (g : given.Over) (c : goal.In_ok-keep_list g) → TellsNewList c.self.inside.memo.kept
    (record { vertex = c.args.w; at = c.in_ok-neighbours.at; neighbours = c.in_ok-neighbours.neighbours })
tells g c = tells_new_list c.self.inside.memo.kept _ (search rules)

pub overflow_cast-length : goal.overflow_cast-length
overflow_cast-length g c =
    omega (arith, short_told c.args.w c.in-Some.list.now c.self.invariant.2 c.in-Some.ensures, ap (length {A = ℕ}) c.as_slice.ensures)

pub invariant_of-self : goal.invariant_of-self
invariant_of-self g c = (
  c.self.invariant.0,
  c.read.ensures.table,
  (sees_more c.self.inside.misses c.self.invariant.2 c.read.ensures.longer (omega arith) refl).is,
)

pub returns-in_err-neighbours-clause-goes_on : goal.returns-in_err-neighbours-clause-goes_on
returns-in_err-neighbours-clause-goes_on g c =
    rw (← c.self.view_is) (sees_more c.self.inside.misses c.self.invariant.2 c.read.ensures.longer (omega arith) refl).goes_on

pub overflow_cast-degree : goal.overflow_cast-degree
overflow_cast-degree g c =
    let list = short_list g.K.Name.opened.table c.args.w c.in_ok-neighbours.neighbours c.in_ok-neighbours.ensures.others in
    omega (arith, list, ap (length {A = ℕ}) c.as_slice-2.ensures)

pub invariant_of-self-in_err-keep_list : goal.invariant_of-self-in_err-keep_list
invariant_of-self-in_err-keep_list g c = (
  c.self.invariant.0,
  c.read.ensures.table,
  (sees_more c.self.inside.misses c.self.invariant.2 c.read.ensures.longer (omega arith) c.in_err-keep_list.ensures.err).is,
)

pub returns-in_err-keep_list-clause-goes_on : goal.returns-in_err-keep_list-clause-goes_on
returns-in_err-keep_list-clause-goes_on g c =
    rw (← c.self.view_is)
    (sees_more c.self.inside.misses c.self.invariant.2 c.read.ensures.longer (omega arith) c.in_err-keep_list.ensures.err).goes_on

pub invariant_of-self-2 : goal.invariant_of-self-2
invariant_of-self-2 g c = (c.self.invariant.0, c.read.ensures.table, (keeps g (goal.at.invariant_of-self-2 g c).In_ok-keep_list).is)

pub returns-clause-goes_on : goal.returns-clause-goes_on
returns-clause-goes_on g c = rw (← c.self.view_is) (keeps g (goal.at.returns-clause-goes_on g c).In_ok-keep_list).goes_on

pub returns-clause-lists : goal.returns-clause-lists
returns-clause-lists g c = (keeps g (goal.at.returns-clause-lists g c).In_ok-keep_list).lists

pub returns-clause-told : goal.returns-clause-told
returns-clause-told g c = rw (c.in_ok-keep_list.ensures.ok, ← c.self.view_is) (tells g (goal.at.returns-clause-told g c).In_ok-keep_list).told

pub returns-clause-length : goal.returns-clause-length
returns-clause-length g c =
    rw c.in_ok-keep_list.ensures.ok
    (ap (length {A = ℕ}) (c.as_slice-2.ensures ∙ (tells g (goal.at.returns-clause-length g c).In_ok-keep_list).list))
