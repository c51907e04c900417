-- The one whose turn it is has its seat as before.
use Rattle.std.proofs.Common.{◌≡◌, ◌∙◌, ◌+◌, ◌<◌, All, List, length, take, drop, get_or, ap, subst, sym, arith}
use mathlib.Core.List.{IsPrefix}
use Rattle.std.proofs.lemmas.List.{drop-drop, drop-set-lt, take_all, take_more, take_more_set}
use Rattle.std.proofs.lemmas.List.Elements.{All-push}
use Rattle.kc_table.specs.Log.{Seen}
use Rattle.kc_batch.specs.Desks.{Desked}
use Rattle.kc_shared.specs.States.{Parted}
use Rattle.kc_batch.proofs.Rounding.{item-unchanged, same-images}
use Rattle.kc_batch.proofs.round.tell_all.Goals as goal

pub tell-requires : goal.tell-requires
tell-requires c = record {
  table = ap (λ (d : Desked). d.seen.table)
      (item-unchanged c.loop-desk.desk-index c.loop-desk.desk-items c.deref_mut-desk-items.result.now c.desk-item.result c.loop-desk.invariant.rest)
      ∙ (c.loop-desk.invariant.table c.loop-desk.desk-index c.desk-item.result c.loop-desk-test.true
      ∙ ap (λ (p : Parted). p.words) (sym c.loop-desk.invariant.same));
}

pub loop-desk-preserved : goal.loop-desk-preserved
loop-desk-preserved c =
    let at = c.loop-desk.invariant in
    let i = c.loop-desk.desk-index in
    let ds = c.loop-desk.desk-items in
    let before = c.deref_mut-desk-items.result.now in
    let d = c.desk-item.result in
    let new : Desked = c.tell.new.self in
    let parts : Parted = c.args.parts.now in
    let Told : Desked → Type 0 = λ d. d.seen ≡ record { table = parts.words; log = parts.journal.levels.log } in
    let Longer : Desked → Type 0 = λ d. IsPrefix d.seen.log parts.journal.levels.log in
    let here : i < length ds = omega arith in
    let all_of : Parted → Seen = λ p. record { table = p.words; log = p.journal.levels.log } in
    let told : Told new = c.tell.ensures.told ∙ ap all_of at.same in
    let longer : Longer (get_or before i d) =
    subst (λ (p : Parted). IsPrefix (get_or before i d).seen.log p.journal.levels.log) at.same
    (subst (λ (x : Desked). IsPrefix x.seen.log c.loop-desk.parts.journal.levels.log) (item-unchanged i ds before d at.rest) c.tell.ensures.longer) in
    record {
      same = c.tell.ensures.same ∙ at.same;
      table = at.table;
      works = same-images (λ (d : Desked). d.work) ds before i new d here c.tell.ensures.work at.works;
      told = subst (All Told) (sym (take_more_set ds i new here)) (All-push Told (take i ds) new at.told told);
      longer = subst (All Longer) (sym (take_more before i d c.loop-desk-test.true)) (All-push Longer (take i before) (get_or before i d) at.longer longer);
      rest = drop-set-lt (i + 1) ds i new (omega arith)
          ∙ (sym (drop-drop 1 i ds) ∙ (ap (λ (z : List Desked). drop 1 z) at.rest ∙ drop-drop 1 i before));
    }

pub returns-clause-longer : goal.returns-clause-longer
returns-clause-longer c =
    subst (All (λ (d : Desked). IsPrefix d.seen.log c.args.parts.now.journal.levels.log))
    (take_all c.loop-desk.desk-index c.deref_mut-desk-items.result.now c.loop-desk-test.false ∙ c.deref_mut-desk-items.ensures.value)
    c.loop-desk.invariant.longer
