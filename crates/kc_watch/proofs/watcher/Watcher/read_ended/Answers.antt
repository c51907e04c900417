-- The lines are read behind the bytes that are kept.
use Rattle.std.proofs.Common.{◌≡◌, ◌<◌, ◌++◌, [], ℕ, List, length, ap, sym, refl, ◌∙◌, append-nil, arith}
use Rattle.std.proofs.lemmas.Bool.{eqb-false, eqb-true}
use Rattle.std.proofs.lemmas.Result.{on_ok_weaker}
use Rattle.kc_watch.proofs.Fed.{nil-from, none-reply, read-all, read-answers, read-broken, read-fed}
use Rattle.kc_watch.proofs.Lines.{on-err, prefix-none}
use Rattle.kc_watch.proofs.watcher.Watcher.read_ended.Goals as goal

pub returns-then-is_empty-clause-put : goal.returns-then-is_empty-clause-put
returns-then-is_empty-clause-put g c = (
  [],
  sym (append-nil c.args.out.now.items),
  λ fed f. (none-reply c.args.self.now.options fed c.args.whole.now (eqb-true (length c.args.whole.now) 0 (sym c.if-is_empty.ensures)), tt),
)

pub returns-then-is_empty-2-clause-fed : goal.returns-then-is_empty-2-clause-fed
returns-then-is_empty-2-clause-fed g c =
    let n = eqb-false (length c.args.whole.now) 0 (sym c.if-is_empty.ensures) in
    let some : 0 < length c.args.whole.now = omega (arith, n) in
    let z = eqb-true _ 0 (sym c.if-is_empty-2.ensures) in
    let empty : c.args.self.now.begun.items ≡ [] = nil-from c.args.self.now.begun.items (omega (arith, z)) in
    on_ok_weaker c.read.result
    (λ st. read-fed c.args.self.now c.requires.going c.args.whole.now c.args.whole.now c.requires.ended some
    (sym (ap (λ (t : List ℕ). t ++ c.args.whole.now) empty)) _ st refl empty) c.read.ensures.stands

pub returns-then-is_empty-2-clause-put : goal.returns-then-is_empty-2-clause-put
returns-then-is_empty-2-clause-put g c =
    let n = eqb-false (length c.args.whole.now) 0 (sym c.if-is_empty.ensures) in
    let some : 0 < length c.args.whole.now = omega (arith, n) in
    let z = eqb-true _ 0 (sym c.if-is_empty-2.ensures) in
    let empty : c.args.self.now.begun.items ≡ [] = nil-from c.args.self.now.begun.items (omega (arith, z)) in
    let (put, out, adds) = c.read.ensures.put in (
      put,
      out,
      read-answers c.args.self.now c.requires.going c.args.whole.now c.args.whole.now c.requires.ended some
          (sym (ap (λ (t : List ℕ). t ++ c.args.whole.now) empty)) c.read.result put adds,
    )

pub returns-in_err-extend_from_slice-clause-put : goal.returns-in_err-extend_from_slice-clause-put
returns-in_err-extend_from_slice-clause-put g c =
    let n = eqb-false (length c.args.whole.now) 0 (sym c.if-is_empty.ensures) in
    let some : 0 < length c.args.whole.now = omega (arith, n) in (
      [],
      sym (append-nil c.args.out.now.items),
      λ fed f. on-err c.from_residual.result _ _ c.from_residual.ensures.0
          (read-broken c.args.self.now c.requires.going c.args.whole.now (c.args.self.now.begun.items ++ c.args.whole.now) c.requires.ended some refl
          [] (λ heard s. prefix-none _) fed f),
    )

pub returns-in_err-read-clause-put : goal.returns-in_err-read-clause-put
returns-in_err-read-clause-put g c =
    let n = eqb-false (length c.args.whole.now) 0 (sym c.if-is_empty.ensures) in
    let some : 0 < length c.args.whole.now = omega (arith, n) in
    let is : c.deref.result.now ≡ c.args.self.now.begun.items ++ c.args.whole.now = c.deref.ensures.value ∙ c.in_ok-extend_from_slice.ensures.items in
    let (put, out, adds) = c.in_err-read.ensures.put in (
      put,
      out,
      λ fed f. on-err c.from_residual-in_err-read.result _ _ c.from_residual-in_err-read.ensures.0
          (read-broken c.args.self.now c.requires.going c.args.whole.now c.deref.result.now c.requires.ended some is put
          (λ heard s. (adds heard s).1) fed f),
    )

pub returns-clause-fed : goal.returns-clause-fed
returns-clause-fed g c =
    let n = eqb-false (length c.args.whole.now) 0 (sym c.if-is_empty.ensures) in
    let some : 0 < length c.args.whole.now = omega (arith, n) in
    let is : c.deref.result.now ≡ c.args.self.now.begun.items ++ c.args.whole.now = c.deref.ensures.value ∙ c.in_ok-extend_from_slice.ensures.items in
    read-fed c.args.self.now c.requires.going c.args.whole.now c.deref.result.now c.requires.ended some is _ c.in_ok-read.ensures.stands refl
    c.clear.ensures.items

pub returns-clause-put : goal.returns-clause-put
returns-clause-put g c =
    let n = eqb-false (length c.args.whole.now) 0 (sym c.if-is_empty.ensures) in
    let some : 0 < length c.args.whole.now = omega (arith, n) in
    let is : c.deref.result.now ≡ c.args.self.now.begun.items ++ c.args.whole.now = c.deref.ensures.value ∙ c.in_ok-extend_from_slice.ensures.items in
    let (put, out, adds) = c.in_ok-read.ensures.put in (
      put,
      out,
      λ fed f. (
        read-all c.args.self.now c.requires.going c.args.whole.now c.deref.result.now c.requires.ended some is put
            (λ heard s. (adds heard s).0) fed f,
        tt,
      ),
    )
