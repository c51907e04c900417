-- The run was copied, and the rest follows.
use Rattle.std.proofs.Common.{◌++◌, ℕ, List, ap, map, refl, sym, ◌∙◌, arith, length, length-drop}
use Rattle.kc_text.specs.Lines.{lines}
use Rattle.kc_dialect.specs.PlainRuns.{spaced}
use Rattle.kc_dialect.proofs.Read.{took-run}
use Rattle.kc_dialect.proofs.line_rewriter.LineRewriter.copy_run.Goals as goal

pub returns : goal.returns
returns c =
    let run = c.plain_run-len.ensures in
    let old = c.args.self.now in
    let before : List ℕ = c.args.out.now.items in
    let bytes : List ℕ = c.args.bytes.now in
    record {
      read = (
        run.read,
        took-run old _ before c.write_spaced.new.out.items bytes c.plain_run-len.result.0 c.plain_run-len.result.1 run
            c.requires.columns c.requires.ids c.requires.skip
            (c.in_ok-write_spaced.ensures ∙ ap (λ (t : List ℕ). before ++ map (spaced old.dialect.separator) t) c.split_at.ensures.front) refl refl refl,
        ap (λ (t : List ℕ). run.read ++ lines t) c.split_at.ensures.back ∙ sym run.cut,
      );
      few = omega (arith, ap length c.split_at.ensures.back, length-drop c.plain_run-len.result.0 bytes, run.within, run.fewer);
    }
