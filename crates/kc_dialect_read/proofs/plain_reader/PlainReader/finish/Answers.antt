-- What was read is the plain text of what was fed, so it tells what the text of numbers means; or the last line is bad.
use Rattle.std.proofs.Common.{◌≡◌, ◌∙◌, ◌++◌, ℕ, List, [], Result, Ok, Err, IfOk, ap, refl, subst, sym}
use Rattle.std.proofs.lemmas.Result.{IfOk-weaker}
use Rattle.kc_dialect.specs.Dialects.{bad_lines, plain_text}
use Rattle.kc_dialect.specs.Rewritten.{HasFirstBad}
use Rattle.kc_dialect.specs.Skipped.{AreSkipped}
use Rattle.kc_dialect.specs.declared.dialect.BadLines.TheVariants.{Stop}
use Rattle.kc_dialect.specs.declared.dialect.Dialect.{Dialect}
use Rattle.kc_dialect.specs.declared.skipped.SkippedLines.{SkippedLines}
use Rattle.kc_dialect.proofs.Ends.{written-ends}
use Rattle.kc_names.specs.Reading.{WasFedIds}
use Rattle.kc_text.specs.Meaning.{Means, Refuses, meaning}
use Rattle.kc_text.specs.declared.limits.Limits.{Limits}
use Rattle.kc_names.specs.declared.id_reader.IdReader.{IdReader}
use Rattle.kc_dialect_read.specs.Meanings.{IsRefusedAt, numbers_in}
use Rattle.kc_dialect_read.specs.Reading.{Rewrites}
use Rattle.kc_dialect_read.specs.declared.fault.PlacedRefusal.{PlacedRefusal}
use Rattle.kc_dialect_read.specs.declared.plain_reader.PlainReader.{PlainReader}
use Rattle.kc_dialect_read.proofs.Stops.{meaning-unstopped, refused-as, refused-plain}
use Rattle.kc_dialect_read.proofs.plain_reader.PlainReader.finish.Goals as goal

-- what holds at Ok in two ways holds in both
both : {T E : Type 0} (P Q : T → Type 0) (r : Result T E) → IfOk r P → IfOk r Q → IfOk r (λ v. P v × Q v)
both P Q (Ok v) p q = (p, q)
both P Q (Err e) p q = tt

-- the reader was fed the plain text of what was fed
read-whole : (reader : PlainReader) (then : IdReader) (fed piece added : List ℕ) (r : Rewrites reader fed) → piece ≡ added
    → r.written ++ added ≡ plain_text reader.rewriter.lines.dialect fed → WasFedIds reader.dialect.ids then (r.written ++ piece)
    → WasFedIds reader.dialect.ids then (plain_text reader.dialect fed)
read-whole reader then fed piece added r same whole h =
    subst (λ (t : List ℕ). WasFedIds reader.dialect.ids then t)
    (ap (λ (p : List ℕ). r.written ++ p) same ∙ whole ∙ ap (λ (d : Dialect). plain_text d fed) r.dialect) h

-- no bad line ends the reading in the dialect of the reader
unbroken-in : (reader : PlainReader) (fed : List ℕ) (r : Rewrites reader fed)
    → (reader.rewriter.lines.dialect.bad_lines ≡ Stop → bad_lines reader.rewriter.lines.dialect fed ≡ [])
    → reader.dialect.bad_lines ≡ Stop → bad_lines reader.dialect fed ≡ []
unbroken-in reader fed r h = subst (λ (d : Dialect). d.bad_lines ≡ Stop → bad_lines d fed ≡ []) r.dialect h

pub feed-requires : goal.feed-requires
feed-requires c =
    let (fed, fits, r) = c.requires in
    (c.args.self.dialect.ids, r.written, written-ends c.args.self.rewriter fed r.written r.rewritten, r.read)

pub told_edges-requires : goal.told_edges-requires
told_edges-requires c =
    let self : PlainReader = c.args.self in
    let (fed, fits, r) = c.requires in
    record {
      fed = (
        self.dialect.ids,
        r.written ++ c.deref.result.now,
        c.in_ok-feed-in-Ok.ensures.fed self.dialect.ids r.written (written-ends self.rewriter fed r.written r.rewritten) r.read,
      );
    }

pub returns-in-Ok-clause-edges : goal.returns-in-Ok-clause-edges
returns-in-Ok-clause-edges c =
    let self : PlainReader = c.args.self in
    let (added, is, total) = c.in-Ok.ensures.text in
    let same : c.deref.result.now ≡ added = c.deref.ensures.value ∙ is ∙ ap (λ (t : List ℕ). t ++ added) c.clear.ensures.items in
    IfOk-weaker c.told_edges.result _ _ (λ found h. λ fed fits r.
    let was = read-whole self c.feed.new.self fed c.deref.result.now added r same (total fed r.written r.rewritten)
    (c.in_ok-feed-in-Ok.ensures.fed self.dialect.ids r.written (written-ends self.rewriter fed r.written r.rewritten) r.read) in
    let (told, means, are, names) = h.0 self.dialect.ids (plain_text self.dialect fed) was in (
      told,
      meaning-unstopped self.dialect fed (Means told) fits (unbroken-in self fed r (c.in-Ok.ensures.unbroken fed r.written r.rewritten))
          (subst (λ (l : Limits). meaning l (numbers_in self.dialect fed) ≡ Means told) (c.in_ok-feed-in-Ok.ensures.limits ∙ r.limits) means),
      are,
      subst (λ (s : SkippedLines). AreSkipped s (bad_lines self.dialect fed)) (sym h.1)
          (subst (λ (d : Dialect). AreSkipped c.in-Ok.skipped (bad_lines d fed)) r.dialect (c.in-Ok.ensures.skipped fed r.written r.rewritten)),
      names,
    ))
    (both _ _ c.told_edges.result c.told_edges.ensures.edges c.told_edges.ensures.skipped)

pub returns-in-Ok-clause-refused : goal.returns-in-Ok-clause-refused
returns-in-Ok-clause-refused c = λ placed fed e fits r.
    let self : PlainReader = c.args.self in
    let (added, is, total) = c.in-Ok.ensures.text in
    let same : c.deref.result.now ≡ added = c.deref.ensures.value ∙ is ∙ ap (λ (t : List ℕ). t ++ added) c.clear.ensures.items in
    let was = read-whole self c.feed.new.self fed c.deref.result.now added r same (total fed r.written r.rewritten)
    (c.in_ok-feed-in-Ok.ensures.fed self.dialect.ids r.written (written-ends self.rewriter fed r.written r.rewritten) r.read) in
    let (refuses, column) = c.told_edges.ensures.refused placed self.dialect.ids (plain_text self.dialect fed) e was in
    let here = refused-plain self.dialect fed placed.refusal fits (unbroken-in self fed r (c.in-Ok.ensures.unbroken fed r.written r.rewritten))
    (subst (λ (l : Limits). meaning l (numbers_in self.dialect fed) ≡ Refuses placed.refusal.line placed.refusal.kind)
    (c.in_ok-feed-in-Ok.ensures.limits ∙ r.limits) refuses) in
    (here.0, column ∙ here.1)

pub returns-in-Err-Bad-clause-refused : goal.returns-in-Err-Bad-clause-refused
returns-in-Err-Bad-clause-refused c = λ placed fed e fits r.
    let same : c.refused_bad.result ≡ placed = cc in
    let bad = rw c.in-Err-Bad.field-0-is at c.in-Err-Bad.ensures.bad in
    let line = rw c.in-Err-Bad.field-0-is at c.refused_bad.ensures.line in
    let kind = rw c.in-Err-Bad.field-0-is at c.refused_bad.ensures.kind in
    let column = rw c.in-Err-Bad.field-0-is at c.refused_bad.ensures.column in
    let first : HasFirstBad c.args.self.dialect fed c.in-Err-Bad.bad =
    subst (λ (d : Dialect). HasFirstBad d fed c.in-Err-Bad.bad) r.dialect (bad c.in-Err-Bad.bad fed r.written refl r.rewritten) in
    subst (λ (x : PlacedRefusal). IsRefusedAt c.args.self.dialect fed x) same
    (refused-as c.args.self.dialect fed c.in-Err-Bad.bad c.refused_bad.result line kind
    column fits first)
