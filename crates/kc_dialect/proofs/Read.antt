-- What was read of lines, one after another.
use Rattle.std.proofs.Common.{◌≡◌, ◌≤◌, ◌+◌, ℕ, List, [], ◌∷◌, ◌++◌, length, refl, sym, ap, subst, ◌∙◌, arith, append_assoc, append-nil}
use Rattle.std.proofs.Common.{length-append, map, take}
use Rattle.kc_dialect.specs.declared.bad_line.BadLine.{BadLine}
use Rattle.kc_dialect.specs.declared.dialect.Dialect.{Dialect}
use Rattle.kc_dialect.specs.declared.dialect.BadLines.TheVariants.{Stop}
use Rattle.kc_dialect.specs.declared.dialect.Ids.TheVariants.{Numbers}
use Rattle.kc_dialect.specs.declared.line_rewriter.LineRewriter.{LineRewriter}
use Rattle.kc_dialect.specs.declared.skipped.SkippedLines.{SkippedLines}
use Rattle.kc_dialect.specs.Dialects.{bad_lines_after, plain_lines}
use Rattle.kc_dialect.specs.PlainRuns.{BeginsWithRun, spaced}
use Rattle.kc_dialect.specs.Skipped.{AreSkipped}
use Rattle.kc_dialect.specs.Steps.{TookLines, StopsAt}
use Rattle.kc_dialect.proofs.LineAppend.{bad-append, plain-append}

-- no line was read
pub read-none : (r : LineRewriter) (text : List ℕ) → TookLines r r text text []
read-none r text = record {
  text = sym (append-nil text);
  lines = omega arith;
  dialect = refl;
  skipped = λ bad h. subst (AreSkipped r.skipped) (sym (append-nil bad)) h;
  unbroken = λ _. refl;
  fewer = λ h. h;
}

-- lines were read, and others behind them
pub read-then : (a b c : LineRewriter) (x y z : List ℕ) (ls ms : List (List ℕ)) → TookLines a b x y ls → TookLines b c y z ms → TookLines a c x z (ls ++ ms)
read-then a b c x y z ls ms f g =
    let at : (d : Dialect) (n : ℕ) → d ≡ a.dialect → n ≡ a.lines + length ls → plain_lines d n ms ≡ plain_lines a.dialect (a.lines + length ls) ms =
    λ d n e h. ap (λ (t : Dialect). plain_lines t n ms) e ∙ ap (λ k. plain_lines a.dialect k ms) h in
    let bad : bad_lines_after b.dialect b.lines ms ≡ bad_lines_after a.dialect (a.lines + length ls) ms =
    ap (λ (t : Dialect). bad_lines_after t b.lines ms) f.dialect ∙ ap (λ k. bad_lines_after a.dialect k ms) f.lines in
    record {
      text = g.text ∙ ap (λ (t : List ℕ). t ++ plain_lines b.dialect b.lines ms) f.text
          ∙ append_assoc x (plain_lines a.dialect a.lines ls) (plain_lines b.dialect b.lines ms)
          ∙ ap (λ (t : List ℕ). x ++ (plain_lines a.dialect a.lines ls ++ t)) (at b.dialect b.lines f.dialect f.lines)
          ∙ ap (λ (t : List ℕ). x ++ t) (sym (plain-append a.dialect a.lines ls ms));
      lines = omega (arith, f.lines, g.lines, length-append ls ms);
      dialect = g.dialect ∙ f.dialect;
      skipped = λ before h.
          subst (AreSkipped c.skipped)
          (append_assoc before (bad_lines_after a.dialect a.lines ls) (bad_lines_after b.dialect b.lines ms)
          ∙ ap (λ (t : List BadLine). before ++ (bad_lines_after a.dialect a.lines ls ++ t)) bad
          ∙ ap (λ (t : List BadLine). before ++ t) (sym (bad-append a.dialect a.lines ls ms)))
          (g.skipped (before ++ bad_lines_after a.dialect a.lines ls) (f.skipped before h));
      unbroken = λ stop.
          bad-append a.dialect a.lines ls ms
          ∙ ap (λ (t : List BadLine). t ++ bad_lines_after a.dialect (a.lines + length ls) ms) (f.unbroken stop)
          ∙ sym bad ∙ g.unbroken (ap (λ (t : Dialect). t.bad_lines) f.dialect ∙ stop);
      fewer = λ h. g.fewer (f.fewer h);
    }

-- the first bad line stands in lines behind others that have none, whatever follows
pub stops-behind : (dialect : Dialect) (n k : ℕ) (ls ms more : List (List ℕ)) (bad : BadLine)
    → (dialect.bad_lines ≡ Stop → bad_lines_after dialect n ls ≡ []) → k ≡ n + length ls → StopsAt dialect k ms bad
    → StopsAt dialect n (ls ++ (ms ++ more)) bad
stops-behind dialect n k ls ms more bad unbroken at (stop, (behind, is)) =
    let here : bad_lines_after dialect (n + length ls) ms ≡ bad ∷ behind = ap (λ i. bad_lines_after dialect i ms) (sym at) ∙ is in (
      stop,
      (
        behind ++ bad_lines_after dialect ((n + length ls) + length ms) more,
        bad-append dialect n ls (ms ++ more)
            ∙ ap (λ (t : List BadLine). t ++ bad_lines_after dialect (n + length ls) (ms ++ more)) (unbroken stop)
            ∙ bad-append dialect (n + length ls) ms more
            ∙ ap (λ (t : List BadLine). t ++ bad_lines_after dialect ((n + length ls) + length ms) more) here,
      ),
    )

-- the first bad line stands in lines behind those that were read
pub stops-then : (a b : LineRewriter) (x y : List ℕ) (ls ms more : List (List ℕ)) (bad : BadLine) → TookLines a b x y ls → StopsAt b.dialect b.lines ms bad
    → StopsAt a.dialect a.lines (ls ++ (ms ++ more)) bad
stops-then a b x y ls ms more bad f h =
    stops-behind a.dialect a.lines b.lines ls ms more bad f.unbroken f.lines (subst (λ (d : Dialect). StopsAt d b.lines ms bad) f.dialect h)

-- plain lines were copied
pub took-run : (old new : LineRewriter) (x y bytes : List ℕ) (n count : ℕ) (run : BeginsWithRun old.dialect.separator bytes n count)
    → old.dialect.columns ≡ (1, 2) → old.dialect.ids ≡ Numbers → old.dialect.skip ≤ old.lines → y ≡ x ++ map (spaced old.dialect.separator) (take n bytes)
    → new.lines ≡ old.lines + count → new.dialect ≡ old.dialect → new.skipped ≡ old.skipped → TookLines old new x y run.read
took-run old new x y bytes n count run columns ids skip text lines dialect skipped =
    let (plain, good) = run.says old.dialect old.lines refl columns ids skip in
    record {
      text = text ∙ ap (λ (t : List ℕ). x ++ t) (sym plain);
      lines = omega (arith, lines, run.counted);
      dialect = dialect;
      skipped = λ bad h.
          subst (λ (s : SkippedLines). AreSkipped s (bad ++ bad_lines_after old.dialect old.lines run.read)) (sym skipped)
          (subst (AreSkipped old.skipped) (sym (ap (λ (t : List BadLine). bad ++ t) good ∙ append-nil bad)) h);
      unbroken = λ _. good;
      fewer = λ h. omega (arith, lines, ap (λ (s : SkippedLines). s.count) skipped, h);
    }
