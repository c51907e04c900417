-- A history with a list of as many vertices more is one.
use Rattle.std.proofs.Common.{◌≡◌, ◌∙◌, List, ℕ, true, sym, ap, subst, length, arith}
use Rattle.std.proofs.lemmas.List.{length_push}
use Rattle.kc_snapshot.specs.declared.member.Member.{Member}
use Rattle.kc_snapshot.specs.Histories.{changed, is_history, member}
use Rattle.kc_snapshot.proofs.Lists.{is_history_push}
use Rattle.kc_snapshot.proofs.front.Front.extend.Goals as goal

pub invariant_of-self : goal.invariant_of-self
invariant_of-self g c =
    let e = c.if-added.ensures in
    let here = c.self.invariant in
    let log = c.self.inside.seen.log in
    let list : List ℕ = changed c.args.draft.now.core.value.items c.args.draft.now.places.value.items in (
      omega (arith, here.0, ap length e.log, length_push log (member list)),
      e.book ∙ here.1,
      subst (λ (l : List Member). is_history l ≡ true) (sym {A = List Member} e.log) (is_history_push log list here.2 (rw c.self.view_is c.requires.wide)),
    )
