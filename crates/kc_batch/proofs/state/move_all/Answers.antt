-- The one whose turn it is stands where it stood before.
use Rattle.std.proofs.Common.{◌≡◌, ◌∙◌, ◌+◌, ◌<◌, All, List, length, take, drop, ap, subst, sym, arith}
use Rattle.std.proofs.lemmas.List.{drop-drop, drop-set-lt, take_more_set}
use Rattle.std.proofs.lemmas.List.Elements.{All-push}
use Rattle.kc_table.specs.declared.view.Event.{Event}
use Rattle.kc_table.specs.Log.{PassSeen, Seen}
use Rattle.kc_batch.specs.Desks.{Desked}
use Rattle.kc_shared.specs.States.{Parted}
use Rattle.kc_batch.proofs.Rounding.{item-unchanged, same-images}
use Rattle.kc_batch.proofs.state.move_all.Goals as goal

pub move_to-requires-clause-size : goal.move_to-requires-clause-size
move_to-requires-clause-size c =
    let at = c.loop-desk.invariant in
    let i = c.loop-desk.desk-index in
    let d = c.desk-item.result in
    ap (λ (p : Parted). p.words.shape.fixed) c.parts.view_is
    ∙ (at.size i d (omega arith)
    ∙ ap (λ (e : Desked). e.seen.table.shape.fixed) (sym (item-unchanged i c.loop-desk.desk-items c.deref_mut-desk-items.result.now d at.rest)))

pub loop-desk-preserved : goal.loop-desk-preserved
loop-desk-preserved c =
    let at = c.loop-desk.invariant in
    let i = c.loop-desk.desk-index in
    let desks = c.loop-desk.desk-items in
    let before = c.deref_mut-desk-items.result.now in
    let d = c.desk-item.result in
    let new : Desked = c.move_to.new.self in
    let parts : Parted = c.args.parts.now in
    let fresh : PassSeen = c.args.fresh.now in
    let Moved : Desked → Type 0 = λ e. e.seen ≡ record { table = parts.words; log = fresh.log } in
    let here : i < length desks = omega arith in
    let seen_by : List Event → Seen = λ log. record { table = parts.words; log = log } in
    let moved : Moved new =
    c.move_to.ensures.seen ∙ (ap (λ (p : Parted). record { table = p.words; log = c.loop-desk.fresh.log }) c.parts.view_is ∙ ap seen_by at.log) in
    record {
      works = same-images (λ (e : Desked). e.work) desks before i new d here (c.move_to.ensures.work) at.works;
      seen = subst (All Moved) (sym (take_more_set desks i new here)) (All-push Moved (take i desks) new at.seen moved);
      rest = drop-set-lt (i + 1) desks i new (omega arith)
          ∙ (sym (drop-drop 1 i desks) ∙ (ap (λ (z : List Desked). drop 1 z) at.rest ∙ drop-drop 1 i before));
      size = at.size;
      table = c.move_to.ensures.fresh.0 ∙ ap (λ (p : Parted). p.words) c.parts.view_is;
      log = c.move_to.ensures.fresh.1 ∙ at.log;
    }
