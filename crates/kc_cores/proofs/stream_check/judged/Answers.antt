-- A line names an id of which there is no claim, or the counts tell what is wrong.
use Rattle.std.proofs.Common.{List, length, map, ℕ, subst, sym}
use Rattle.kc_claims.specs.Streams.{IsFaultOfStream}
use Rattle.kc_claims.specs.declared.fault.ClaimFault.{ClaimFault}
use Rattle.kc_claims.proofs.Streamed.{some-weaker}
use Rattle.kc_cores.specs.Endings.{IsFaultOfFiles}
use Rattle.kc_cores.specs.StreamChecked.{IsStreamText}
use Rattle.kc_cores.proofs.StreamChecking.{files-all}
use Rattle.kc_cores.proofs.stream_check.judged.Goals as goal

pub verdict-requires : goal.verdict-requires
verdict-requires g c =
    let (claims, h) = c.requires in
    let (known, is, taken) = c.in-Ok-None.ensures.taken claims h c.in-Ok-None.field-0-is in
    (claims, known, taken)

pub returns-in-Ok-None-clause-right : goal.returns-in-Ok-None-clause-right
returns-in-Ok-None-clause-right g c = λ claims h none.
    let (known, is, taken) = c.in-Ok-None.ensures.taken claims h c.in-Ok-None.field-0-is in
    (known, is, c.verdict.ensures.certified claims known taken none)

pub returns-in-Ok-None-clause-wrong : goal.returns-in-Ok-None-clause-wrong
returns-in-Ok-None-clause-wrong g c = λ claims h.
    let (known, is, taken) = c.in-Ok-None.ensures.taken claims h c.in-Ok-None.field-0-is in
    let files : List (List ℕ) = map (λ t. t.now) c.args.files.now in
    some-weaker (λ (fault : ClaimFault). IsFaultOfStream claims fault known)
    (IsFaultOfFiles g.I.Source.left g.I.FileInput.behind c.args.input.now files claims) c.verdict.result
    (λ fault wrong. (
      length files,
      known,
      subst (λ (fs : List (List ℕ)). IsStreamText g.I.Source.left g.I.FileInput.behind c.args.input.now fs known) (sym (files-all fault files)) is,
      wrong,
    ))
    (c.verdict.ensures.faulty claims known taken)

pub returns-in-Ok-Some-clause-wrong : goal.returns-in-Ok-Some-clause-wrong
returns-in-Ok-Some-clause-wrong g c = λ claims h.
    let unclaimed = rw c.in-Ok-Some.field-0-is at c.in-Ok-Some.ensures.unclaimed in
    unclaimed claims h
