-- One line more was read behind those before, and the plain lines behind it; or it ends the reading.
use Rattle.std.proofs.Common.{◌≡◌, ◌++◌, [], ◌∷◌, ℕ, List, Err, ap, sym, subst, ◌∙◌, arith, append_assoc}
use Rattle.std.proofs.lemmas.Result.{err_from_is_err_and}
use Rattle.kc_text.specs.Lines.{lines}
use Rattle.kc_dialect.specs.declared.fault.RewriteFault.{RewriteFault}
use Rattle.kc_dialect.specs.declared.fault.RewriteFault.TheVariants.{Bad}
use Rattle.kc_dialect.specs.Steps.{StopsAt}
use Rattle.kc_dialect.proofs.Read.{read-then, stops-then}
use Rattle.kc_dialect.proofs.line_rewriter.LineRewriter.read.Goals as goal

pub returns-in_err-take-clause-stopped : goal.returns-in_err-take-clause-stopped
returns-in_err-take-clause-stopped c = λ at e.
    let p = err_from_is_err_and c.from_residual-in_err-take.result c.from_residual-in_err-take.ensures.1 in
    let same : c.in_err-take.field-0.0 ≡ Bad at = cc (p.1, p.2, e) in
    let done = c.loop-line.invariant.done in
    let line : List ℕ = c.in-Some.line.now in
    let all : done.0 ++ (line ∷ lines c.in-Some.more.now) ≡ lines c.args.bytes.now =
    ap (λ (t : List (List ℕ)). done.0 ++ t) (sym c.in-Some.ensures.lines) ∙ done.2 in
    subst (λ (t : List (List ℕ)). StopsAt c.args.self.now.dialect c.args.self.now.lines t at) all
    (stops-then c.args.self.now c.loop-line.self c.args.out.now.items c.loop-line.out.items done.0 (line ∷ []) (lines c.in-Some.more.now) at done.1
    (c.in_err-take.ensures.stopped at (ap (λ (f : RewriteFault). Err f) same)))

pub loop-line-preserved : goal.loop-line-preserved
loop-line-preserved c =
    let done = c.loop-line.invariant.done in
    let line : List ℕ = c.in-Some.line.now in
    let rest : List ℕ = c.in_ok-rest-2.rest.now in
    let took = c.in_ok-take.ensures.read in
    let run = c.in_ok-rest-2.ensures.read in
    let front : List (List ℕ) = done.0 ++ line ∷ [] in
    record {
      done = (
        front ++ run.0,
        read-then c.args.self.now c.take.new.self c.take_run-in-Some.new.self c.args.out.now.items c.take.new.out.items c.take_run-in-Some.new.out.items
            front run.0 (read-then c.args.self.now c.loop-line.self c.take.new.self c.args.out.now.items c.loop-line.out.items c.take.new.out.items
            done.0 (line ∷ []) done.1 took) run.1,
        append_assoc front run.0 (lines rest) ∙ ap (λ (t : List (List ℕ)). front ++ t) run.2
            ∙ append_assoc done.0 (line ∷ []) (lines c.in-Some.more.now) ∙ ap (λ (t : List (List ℕ)). done.0 ++ t) (sym c.in-Some.ensures.lines) ∙ done.2,
      );
      few = omega (arith, took.lines, c.in-Some.ensures.shorter, c.loop-line.invariant.few, c.in_ok-rest-2.ensures.few);
      fewer = run.1.fewer (took.fewer c.loop-line.invariant.fewer);
    }
