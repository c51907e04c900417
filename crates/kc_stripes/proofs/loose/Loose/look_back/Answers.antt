-- More was seen, and where the word of a place has another value, the view has missed.
use Rattle.std.proofs.Common.{◌∙◌, ap, arith, refl, rules}
use Rattle.kc_table.proofs.Prefixes.{prefix_trans}
use Rattle.kc_stripes.specs.Reads.{IsMissed, Loosely, loosely}
use Rattle.kc_stripes.proofs.Giving.{missed_place}
use Rattle.kc_stripes.proofs.Loosening.{Goes, sees_more}
use Rattle.kc_stripes.proofs.loose.Loose.look_back.Given as given
use Rattle.kc_stripes.proofs.loose.Loose.look_back.Goals.{After-saturating_add-self-inside-2}
use Rattle.kc_stripes.proofs.loose.Loose.look_back.Goals as goal

-- what a call leaves that missed
misses : (g : given.Over) (c : goal.After-saturating_add-self-inside-2 g)
    → Goes g.K.Name.opened g.S.Moment.log
    (loosely c.self.inside.memo c.self.inside.handed c.self.inside.misses c.self.inside.pass.log)
    (loosely c.self.inside.memo c.self.inside.handed c.saturating_add-self-inside-2.result c.read_again.new.pass.log)
misses g c = sees_more c.saturating_add-self-inside-2.result c.self.invariant.2 c.read_again.ensures.longer (search rules) refl

pub invariant_of-self-in_default-read_again : goal.invariant_of-self-in_default-read_again
invariant_of-self-in_default-read_again g c = (
  c.self.invariant.0,
  c.read_again.ensures.table ∙ c.self.invariant.1,
  (sees_more c.self.inside.misses c.self.invariant.2 c.read_again.ensures.longer (omega arith) refl).is,
)

pub returns-in_default-read_again-clause-goes_on : goal.returns-in_default-read_again-clause-goes_on
returns-in_default-read_again-clause-goes_on g c =
    rw (← c.self.view_is) (sees_more c.self.inside.misses c.self.invariant.2 c.read_again.ensures.longer (omega arith) refl).goes_on

pub invariant_of-self-2 : goal.invariant_of-self-2
invariant_of-self-2 g c = (
  c.self.invariant.0,
  c.read_again.ensures.table ∙ c.self.invariant.1,
  (misses g (goal.at.invariant_of-self-2 g c).After-saturating_add-self-inside-2).is,
)

pub returns-clause-goes_on : goal.returns-clause-goes_on
returns-clause-goes_on g c =
    rw (← c.self.view_is) (misses g (goal.at.returns-clause-goes_on g c).After-saturating_add-self-inside-2).goes_on

pub returns-clause-cause : goal.returns-clause-cause
returns-clause-cause g c =
    let inv = c.self.invariant in
    let read = c.read_again.ensures in
    let begins = prefix_trans g.S.Moment.log c.self.inside.pass.log c.read_again.new.pass.log inv.2.begins read.longer in
    let missed : IsMissed g.K.Name.opened.table g.S.Moment.log c.read_again.new.pass.log c.in-Err.again =
    missed_place g.K.Name.opened g.S.Moment.log c.self.inside.pass.log
    c.read_again.new.pass.log c.self.inside.memo.kept c.self.inside.back c.in-Some.place c.read_again.new.pass.table c.in-Err.again inv.2.read begins
    read.longer c.in-Some.ensures.0 c.in-Some.ensures.1 (read.table ∙ inv.1) c.in-Err.ensures.again in
    record {
      rose = omega (arith, c.saturating_add-self-inside-2.ensures, ap (λ (x : Loosely). x.misses) c.self.view_is);
      missed = missed;
      differ = missed.differ;
    }
