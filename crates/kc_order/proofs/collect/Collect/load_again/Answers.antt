-- The four second loads are one chain: each word that is the same leads to the next, and the first that differs ends it.
use Rattle.std.proofs.Common.{refl, subst}
use Rattle.kc_words.specs.declared.again.Again.{Again}
use Rattle.kc_order.specs.Collected.{words_of}
use Rattle.kc_order.specs.Standing.{FindsOther, FindsSame}
use Rattle.kc_order.proofs.Again.{finds_other-here, finds_other-later, if_none, if_some}
use Rattle.kc_order.proofs.collect.Collect.load_again.Goals as goal

pub returns-in-Some-clause-other : goal.returns-in-Some-clause-other
returns-in-Some-clause-other c = subst (λ s. FindsOther c.args.pass.now (words_of s) c.load_again.new.pass c.in-Some.again) c.self.view_is
    (finds_other-here _ _ _ _ _ c.in-Some.ensures.other)

pub returns-in-Some-load_again-clause-other : goal.returns-in-Some-load_again-clause-other
returns-in-Some-load_again-clause-other c = subst (λ s. FindsOther c.args.pass.now (words_of s) c.load_again-2.new.pass c.in-Some-load_again.again)
    c.self.view_is
    (finds_other-later _ c.load_again.new.pass _ _ _ _ c.in_default.ensures.same (finds_other-here _ _ _ _ _ c.in-Some-load_again.ensures.other))

pub returns-in-Some-load_again-2-clause-other : goal.returns-in-Some-load_again-2-clause-other
returns-in-Some-load_again-2-clause-other c = subst (λ s. FindsOther c.args.pass.now (words_of s) c.load_again-3.new.pass c.in-Some-load_again-2.again)
    c.self.view_is
    (finds_other-later _ c.load_again.new.pass _ _ _ _ c.in_default.ensures.same
    (finds_other-later _ c.load_again-2.new.pass _ _ _ _ c.in_default-load_again.ensures.same
    (finds_other-here _ _ _ _ _ c.in-Some-load_again-2.ensures.other)))

pub returns-clause-same : goal.returns-clause-same
returns-clause-same c = if_none c.load_again-4.result c.load_again-4.ensures.same
    (λ last. subst (λ s. FindsSame c.args.pass.now (words_of s) c.load_again-4.new.pass) c.self.view_is (
      c.load_again.new.pass,
      c.in_default.ensures.same,
      (
        c.load_again-2.new.pass,
        c.in_default-load_again.ensures.same,
        (c.load_again-3.new.pass, c.in_default-load_again-2.ensures.same, (c.load_again-4.new.pass, last, refl)),
      ),
    ))

pub returns-clause-other : goal.returns-clause-other
returns-clause-other c = if_some c.load_again-4.result c.load_again-4.ensures.other (λ (again : Again) last.
    subst (λ s. FindsOther c.args.pass.now (words_of s) c.load_again-4.new.pass again) c.self.view_is
    (finds_other-later _ c.load_again.new.pass _ _ _ _ c.in_default.ensures.same
    (finds_other-later _ c.load_again-2.new.pass _ _ _ _ c.in_default-load_again.ensures.same
    (finds_other-later _ c.load_again-3.new.pass _ _ _ _ c.in_default-load_again-2.ensures.same
    (finds_other-here _ _ _ _ _ last)))))
