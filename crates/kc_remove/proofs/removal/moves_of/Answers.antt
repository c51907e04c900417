-- By cases: the edge is not there; level 0, which no end of an edge has; nobody falls; or just those on the list lose one.
use Rattle.std.proofs.Common.{◌<◌, sym, ◌∙◌, ap, subst, arith}
use Rattle.std.proofs.lemmas.List.{append-nil}
use Rattle.kc_lists.specs.Lists.{member}
use Rattle.kc_lists.proofs.Shared.{no_items}
use Rattle.kc_view.proofs.Keeping.{GoesOn-trans, answers-agreed, tells-edge}
use Rattle.kc_remove.specs.Falling.{AsksNear}
use Rattle.kc_remove.proofs.Sureness.{kept-sure, plain-sure, fall-sure, removes-told, some-level}
use Rattle.kc_remove.proofs.Tidy.{asks-first, fallen-read}
use Rattle.kc_remove.proofs.removal.moves_of.Goals as goal

pub returns-then-not-branch-clause-asks : goal.returns-then-not-branch-clause-asks
returns-then-not-branch-clause-asks g c = asks-first c.args.update _ c.in_ok-has_edge.ensures.asks

pub returns-then-not-branch-clause-sure : goal.returns-then-not-branch-clause-sure
returns-then-not-branch-clause-sure g c = λ s used h l a.
    let e = c.in_ok-has_edge.ensures in
    kept-sure c.args.update used s c.requires.removes h l (tells-edge _ s _ _ _ a e.read l e.told ∙ c.if-not-branch.true)

pub level_of-requires-clause-asks : goal.level_of-requires-clause-asks
level_of-requires-clause-asks g c = asks-first c.args.update _ c.in_ok-has_edge.ensures.asks

pub returns-then-level-eq0-clause-sure : goal.returns-then-level-eq0-clause-sure
returns-then-level-eq0-clause-sure g c = λ s used h l a.
    let e = c.in_ok-has_edge.ensures in
    let r = removes-told _ _ c.args.update s _ _ c.level_of.ensures.goes_on a l e.read e.told c.if-not-branch.false c.in_ok-level.ensures.told in
    let some : 0 < c.in_ok-level.level = some-level c.args.update s c.in_ok-level.level h l r in
    absurd (omega (arith, some, c.if-level-eq0.true))

pub returns-then-is_empty-clause-goes_on : goal.returns-then-is_empty-clause-goes_on
returns-then-is_empty-clause-goes_on g c =
    GoesOn-trans _ _ _ c.has_edge.ensures.goes_on (GoesOn-trans _ _ _ c.level_of.ensures.goes_on c.find_fallen.ensures.goes_on)

pub returns-then-is_empty-clause-asks : goal.returns-then-is_empty-clause-asks
returns-then-is_empty-clause-asks g c =
    let list = c.in_ok-weak.field-0.seen.weak in
    subst (AsksNear c.args.update (g.V.View.shown c.find_fallen.new.view).kept)
    (no_items list.items list.len c.is_empty.result (sym list.ok.0) c.is_empty.ensures c.if-is_empty.true) c.in_ok-weak.ensures.tidy.asks

pub returns-then-is_empty-clause-sure : goal.returns-then-is_empty-clause-sure
returns-then-is_empty-clause-sure g c = λ s used h l a.
    let e = c.in_ok-has_edge.ensures in
    let f = c.in_ok-weak.field-0 in
    let r =
    removes-told _ _ c.args.update s _ _ c.level_of.ensures.goes_on (answers-agreed _ _ s c.find_fallen.ensures.goes_on.further a) l e.read e.told
    c.if-not-branch.false c.in_ok-level.ensures.told in
    plain-sure c.args.update used s c.in_ok-level.level f c.requires.removes h l r (c.in_ok-weak.ensures.ended s a)
    (no_items f.seen.weak.items f.seen.weak.len c.is_empty.result (sym f.seen.weak.ok.0) c.is_empty.ensures c.if-is_empty.true)

pub returns-clause-goes_on : goal.returns-clause-goes_on
returns-clause-goes_on g c =
    GoesOn-trans _ _ _ c.has_edge.ensures.goes_on (GoesOn-trans _ _ _ c.level_of.ensures.goes_on c.find_fallen.ensures.goes_on)

pub returns-clause-named : goal.returns-clause-named
returns-clause-named g c = λ x m.
    let f = c.in_ok-weak.field-0 in
    fallen-read c.args.update _ f c.in_ok-weak.ensures.tidy x (sym (ap (member x) (append-nil f.seen.weak.items)) ∙ m)

pub returns-clause-sure : goal.returns-clause-sure
returns-clause-sure g c = λ s used h l a.
    let e = c.in_ok-has_edge.ensures in
    let r =
    removes-told _ _ c.args.update s _ _ c.level_of.ensures.goes_on (answers-agreed _ _ s c.find_fallen.ensures.goes_on.further a) l e.read e.told
    c.if-not-branch.false c.in_ok-level.ensures.told in
    fall-sure c.args.update used s c.in_ok-level.level c.in_ok-weak.field-0 c.requires.removes h l r (c.in_ok-weak.ensures.ended s a)
