-- One more file is taken behind those so far, or the taking ends with it.
use Rattle.std.proofs.Common.{◌∙◌, [], List, Some, ap, arith, map, refl, subst, sym, take_all, ℕ}
use Rattle.std.specs.Borrow.{Bor}
use Rattle.std.specs.Prelude.{nat_lt}
use Rattle.std.proofs.lemmas.List.{length-map}
use Rattle.kc_cores.specs.Endings.{line_of}
use Rattle.kc_cores.specs.StreamChecked.{IsTextOfFiles}
use Rattle.kc_cores.proofs.StreamChecking.{NoPieceFor-same, name-next, piece-next, text-next}
use Rattle.kc_cores.proofs.stream_check.take_files.Goals as goal

pub loop-name-init : goal.loop-name-init
loop-name-init g c = record { came = λ claims h. (Some [], refl, h); faultless = refl; first = λ _. refl }

pub take_file-requires : goal.take_file-requires
take_file-requires g c =
    let (claims, h) = c.requires in
    let (known, is, taken) = c.loop-name.invariant.came claims h in
    (claims, known, taken)

pub loop-name-preserved : goal.loop-name-preserved
loop-name-preserved g c = record {
  came = λ claims h.
      let (known, is, taken) = c.loop-name.invariant.came claims h in (
        _,
        text-next g.I.Source.left g.I.FileInput.behind c.args.input.now c.args.files.now c.loop-name.name-index _ known c.loop-name.input
            c.loop-name-test.true c.loop-name.invariant.first is,
        c.in-Ok-None.ensures.taken claims known taken c.in-Ok-None.field-0-is,
      );
  faultless = c.in-Ok-None.ensures.faultless ∙ c.loop-name.invariant.faultless;
  first = λ e. absurd (omega arith);
}

pub returns-in-Ok-Some-clause-unclaimed : goal.returns-in-Ok-Some-clause-unclaimed
returns-in-Ok-Some-clause-unclaimed g c = λ claims h.
    let (known, is, taken) = c.loop-name.invariant.came claims h in
    let unclaimed = rw c.in-Ok-Some.field-0-is at c.in-Ok-Some.ensures.unclaimed in (
      c.loop-name.name-index,
      _,
      c.loop-name-test.true,
      text-next g.I.Source.left g.I.FileInput.behind c.args.input.now c.args.files.now c.loop-name.name-index _ known c.loop-name.input
          c.loop-name-test.true c.loop-name.invariant.first is,
      unclaimed claims known taken,
    )

pub returns-in-Err-clause-stopped : goal.returns-in-Err-clause-stopped
returns-in-Err-clause-stopped g c = λ claims h.
    let (known, is, taken) = c.loop-name.invariant.came claims h in
    let several = ap (λ n. nat_lt 1 n) (sym (length-map c.args.files.now (λ (t : Bor (List ℕ)). t.now))) in (
      c.loop-name.name-index,
      known,
      _,
      piece-next g.I.Source.left g.I.FileInput.behind c.args.input.now c.args.files.now c.loop-name.name-index _ known c.loop-name.input
          c.loop-name-test.true c.loop-name.invariant.first is,
      NoPieceFor-same c.in-Err.ending.status (line_of c.in-Err.ending) _ _ _ _ claims known _ _ _ _ _ several
          (name-next c.args.files.now c.loop-name.name-index _ c.loop-name-test.true) refl c.loop-name.invariant.faultless
          (c.in-Err.ensures.stopped claims known taken),
    )

pub returns-clause-taken : goal.returns-clause-taken
returns-clause-taken g c = λ claims h none.
    let (known, is, taken) = c.loop-name.invariant.came claims h in
    let files : List (List ℕ) = map (λ t. t.now) c.args.files.now in (
      known,
      subst (λ (fs : List (List ℕ)). IsTextOfFiles g.I.FileInput.behind c.args.input.now fs known)
          (take_all c.loop-name.name-index files (omega (arith, c.loop-name-test.false, length-map c.args.files.now (λ (t : Bor (List ℕ)). t.now)))) is,
      taken,
    )
