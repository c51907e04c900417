-- The vertex stands in the list, or its number is put behind the others.
use Rattle.std.proofs.Common.{◌≡◌, ℕ, false, List, sym, ap, ◌∙◌, set, subst}
use Rattle.kc_lists.specs.Lists.{member}
use Rattle.kc_keeper.specs.Cores.{changed_vertices}
use Rattle.kc_keeper.specs.Earlier.{AreIndexed}
use Rattle.kc_keeper.specs.declared.changes.CoreChange.{CoreChange}
use Rattle.kc_keeper.proofs.KeptNumbers.{kept-push}
use Rattle.kc_keeper.proofs.earlier.EarlierNumbers.keep.Goals as goal

pub returns-then-stands_in-clause-here : goal.returns-then-stands_in-clause-here
returns-then-stands_in-clause-here c =
    ap (λ (cs : List CoreChange). member c.args.vertex (changed_vertices cs)) (sym c.deref.ensures.value) ∙ c.stands_in.ensures.there c.if-stands_in.true

pub returns-clause-kept : goal.returns-clause-kept
returns-clause-kept c core within number start h =
    let cs : List CoreChange = c.args.self.now.cores.items in
    let places : List ℕ = c.args.self.now.places.items in
    let indexed : AreIndexed c.deref-2.result.now (changed_vertices c.deref.result.now) =
    subst (λ (zs : List CoreChange). AreIndexed c.deref-2.result.now (changed_vertices zs)) (sym c.deref.ensures.value)
    (subst (λ (ps : List ℕ). AreIndexed ps (changed_vertices cs)) (sym c.deref-2.ensures.value) h.indexed) in
    let none : member c.args.vertex (changed_vertices cs) ≡ false =
    ap (λ (zs : List CoreChange). member c.args.vertex (changed_vertices zs)) (sym c.deref.ensures.value)
    ∙ (sym (c.stands_in.ensures.same indexed) ∙ c.if-stands_in.false) in
    kept-push {old = c.args.self.now} (record { vertex = c.args.vertex; before = c.args.number; now = c.args.number }) h none within c.requires number
    c.in_ok-push.ensures.items (ap (set places c.args.vertex) (c.len-place.ensures ∙ c.args.self.now.cores.ok.0))
