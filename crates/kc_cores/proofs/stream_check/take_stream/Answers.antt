-- The input is the stream where there are no files, and else they are.
use Rattle.std.proofs.Common.{◌≡◌, ◌+◌, [], List, None, Option, Some, ap, arith, false, length, map, refl, slice_get, subst, sym, take, ℕ}
use Rattle.std.specs.Borrow.{Bor}
use Rattle.std.proofs.lemmas.Bool.{eqb-false, eqb-true}
use Rattle.std.proofs.lemmas.List.{length-map, length-take}
use Rattle.std.proofs.lemmas.Result.{IfErr-weaker, IfOk-weaker}
use Rattle.kc_claims.specs.Pieces.{HasTakenText, with_piece}
use Rattle.kc_claims.specs.Streams.{IsFaultOfStream}
use Rattle.kc_claims.specs.declared.fault.ClaimFault.TheVariants as claim_fault
use Rattle.kc_claims.proofs.Pieced.{one-piece}
use Rattle.kc_claims.proofs.Streamed.{some-weaker}
use Rattle.kc_cores.specs.Endings.{line_of}
use Rattle.kc_cores.specs.Inputs.{known_bytes}
use Rattle.kc_cores.specs.StreamChecked.{IsStreamText, is_several}
use Rattle.kc_cores.proofs.StreamChecking.{NoPieceFor-same, no-files, text-files}
use Rattle.kc_cores.proofs.stream_check.take_stream.Goals as goal

pub returns-then-is_empty-clause-taken : goal.returns-then-is_empty-clause-taken
returns-then-is_empty-clause-taken g c = λ claims h.
    let left = g.I.Source.left c.args.input.now in
    let nil = no-files c.args.files.now (eqb-true (length c.args.files.now) 0 (sym c.if-is_empty.ensures)) in
    IfOk-weaker c.take_left.result _ _
    (λ found taken none. (
      left,
      subst (λ (fs : List (Bor (List ℕ))). IsStreamText g.I.Source.left g.I.FileInput.behind c.args.input.now (map (λ t. t.now) fs) left) nil refl,
      subst (λ (k : Option (List ℕ)). HasTakenText claims k c.take_left.new.check) (one-piece left) (taken none),
    ))
    (c.take_left.ensures.taken claims (Some []) h)

pub returns-then-is_empty-clause-unclaimed : goal.returns-then-is_empty-clause-unclaimed
returns-then-is_empty-clause-unclaimed g c = λ claims h.
    let left = g.I.Source.left c.args.input.now in
    let nil = no-files c.args.files.now (eqb-true (length c.args.files.now) 0 (sym c.if-is_empty.ensures)) in
    IfOk-weaker c.take_left.result _ _
    (λ found.
    some-weaker (λ id. IsFaultOfStream claims (claim_fault.Missing id) (with_piece (Some []) left)) _ found
    (λ id wrong. (
      0,
      left,
      subst (λ (fs : List (Bor (List ℕ))). IsStreamText g.I.Source.left g.I.FileInput.behind c.args.input.now (take (0 + 1) (map (λ t. t.now) fs)) left)
          nil refl,
      subst (λ (k : Option (List ℕ)). IsFaultOfStream claims (claim_fault.Missing id) k) (one-piece left) wrong,
    )))
    (c.take_left.ensures.unclaimed claims (Some []) h)

pub returns-then-is_empty-clause-stopped : goal.returns-then-is_empty-clause-stopped
returns-then-is_empty-clause-stopped g c = λ claims h.
    let left = g.I.Source.left c.args.input.now in
    let nil = no-files c.args.files.now (eqb-true (length c.args.files.now) 0 (sym c.if-is_empty.ensures)) in
    let several = subst (λ (fs : List (Bor (List ℕ))). false ≡ is_several (map (λ t. t.now) fs)) nil refl in
    let name = subst (λ (fs : List (Bor (List ℕ))). None ≡ slice_get (map (λ t. t.now) fs) 0) nil refl in
    IfErr-weaker c.take_left.result _ _
    (λ ending none. (
      0,
      Some [],
      left,
      record {
        within = omega arith;
        came = refl;
        turned = c.args.input.now;
        first = λ _. refl;
        is = ap (λ (o : Option (List ℕ)). known_bytes g.I.Source.left g.I.FileInput.behind o c.args.input.now) name;
      },
      NoPieceFor-same ending.status (line_of ending) _ _ _ _ claims (Some []) _ _ _ _ _ several name refl refl none,
    ))
    (c.take_left.ensures.stopped claims (Some []) h)

pub returns-clause-taken : goal.returns-clause-taken
returns-clause-taken g c = λ claims h.
    let files : List (List ℕ) = map (λ t. t.now) c.args.files.now in
    let some = eqb-false (length c.args.files.now) 0 (sym c.if-is_empty.ensures) in
    IfOk-weaker c.take_files.result _ _
    (λ found taken none.
    let (known, is, took) = taken none in (
      known,
      text-files g.I.Source.left g.I.FileInput.behind c.args.input.now files known
          (omega (arith, some, length-map c.args.files.now (λ (t : Bor (List ℕ)). t.now))) is,
      took,
    ))
    (c.take_files.ensures.taken claims h)

pub returns-clause-unclaimed : goal.returns-clause-unclaimed
returns-clause-unclaimed g c = λ claims h.
    let files : List (List ℕ) = map (λ t. t.now) c.args.files.now in
    IfOk-weaker c.take_files.result _ _
    (λ found.
    some-weaker _ _ found
    (λ id (n, known, l, is, wrong). (
      n,
      known,
      text-files g.I.Source.left g.I.FileInput.behind c.args.input.now (take (n + 1) files) known
          (omega (arith, l, length-take (n + 1) files, length-map c.args.files.now (λ (t : Bor (List ℕ)). t.now))) is,
      wrong,
    )))
    (c.take_files.ensures.unclaimed claims h)
