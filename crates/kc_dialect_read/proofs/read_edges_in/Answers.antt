-- What the reader was fed tells what all bytes of the source tell.
use Rattle.std.proofs.Common.{◌≡◌, ◌≢◌, ℕ, List, Result, Ok, Err, IfOk, OnOk, IsErrOf, subst}
use Rattle.std.proofs.lemmas.Result.{IfOk-weaker, err_from_is_err_and}
use Rattle.kc_dialect.specs.Dialects.{bad_lines}
use Rattle.kc_dialect.specs.Skipped.{AreSkipped}
use Rattle.kc_dialect.specs.declared.dialect.Dialect.{Dialect}
use Rattle.kc_text.specs.Inputs.{IsNamedEdges}
use Rattle.kc_text.specs.Meaning.{Means, Told}
use Rattle.kc_dialect_read.specs.Meanings.{IsRefusedAt, dialect_meaning, names_told}
use Rattle.kc_dialect_read.specs.declared.plain_reader.DialectEdges.{DialectEdges}
use Rattle.kc_dialect_read.proofs.Stops.{AreEdgesIn-given, refused-given}
use Rattle.kc_dialect_read.proofs.read_edges_in.Goals as goal

-- what follows from each answer holds at Ok
at_ok : {T E Q : Type 0} (P : T → Type 0) (r : Result T E) → ((v : T) → P v → Q) → IfOk r P → OnOk r Q
at_ok P (Ok v) h p = h v p
at_ok P (Err e) h p = tt

-- an answer that is not this error has it not
not_err : {T E : Type 0} (r : Result T E) (x : E) → r ≢ Err x → IsErrOf r x → ⊥
not_err r x n e = n e

-- what is told in a dialect is told in the same one
told_in : (d e : Dialect) (given : List ℕ) (found : DialectEdges) → d ≡ e
    → (told : Told) × (dialect_meaning d given ≡ Means told) × IsNamedEdges told found.named × AreSkipped found.skipped (bad_lines d given)
    × (found.names ≡ names_told d given)
    → (told : Told) × (dialect_meaning e given ≡ Means told) × IsNamedEdges told found.named × AreSkipped found.skipped (bad_lines e given)
    × (found.names ≡ names_told e given)
told_in d e given found same = subst (λ (x : Dialect). (told : Told) × (dialect_meaning x given ≡ Means told) × IsNamedEdges told found.named
    × AreSkipped found.skipped (bad_lines x given) × (found.names ≡ names_told x given)) same

pub returns-in_err-reader : goal.returns-in_err-reader
returns-in_err-reader g c =
    let p = err_from_is_err_and c.from_residual.result c.from_residual.ensures.1 in
    rw (p.1, p.2) (record {
      edges = tt;
      ended = tt;
      few = tt;
      within = tt;
      refused = λ r e. absurd (c.in_err-reader.ensures.unjudged r (cc));
      faultless = λ other. c.in_err-reader.ensures.faultless (λ e. other (cc));
      read_fault = λ e. c.in_err-reader.ensures.read_fault (cc);
    })

pub finish-requires : goal.finish-requires
finish-requires g c = let (given, took, fed, end) = c.in_ok-reader.ensures.given in (given, fed)

pub returns : goal.returns
returns g c =
    let (given, took, fed, end) = c.in_ok-reader.ensures.given in
    let d : c.in_ok-reader.reader.inner.dialect ≡ c.args.dialect = c.in_ok-reader.ensures.dialect in
    let known = g.S.Source.left c.args.source.now in
    let after = g.S.Source.left c.fed_reader.new.source in
    record {
      edges = IfOk-weaker c.finish.result _ _ (λ found h.
          let (told, means, are, skipped, names) = told_in _ _ given found d (h given fed) in
          (AreEdgesIn-given c.args.dialect known after given told found took end means are skipped names).0) c.finish.ensures.edges;
      ended = at_ok _ c.finish.result (λ found h.
          let (told, means, are, skipped, names) = told_in _ _ given found d (h given fed) in
          (AreEdgesIn-given c.args.dialect known after given told found took end means are skipped names).1) c.finish.ensures.edges;
      few = c.finish.ensures.few;
      within = c.finish.ensures.within;
      refused = λ r e. refused-given c.args.dialect known after given r took end
          (subst (λ (x : Dialect). IsRefusedAt x given r) d (c.finish.ensures.refused r given e fed));
      faultless = λ _. c.in_ok-reader.ensures.faultless (λ e. absurd (cc));
      read_fault = λ e. absurd (not_err c.finish.result _ c.finish.ensures.unread e);
    }
