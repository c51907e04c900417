-- What is written ends with a line.
use Rattle.std.proofs.Common.{◌+◌, ◌++◌, ℕ, List, [], ◌∷◌, append_assoc, inl, inr, refl, subst, sym}
use Rattle.std.proofs.Common.{Option, None, Some, Result, Ok, Err}
use Rattle.kc_text.specs.Lines.{EndsLine, lines}
use Rattle.kc_text.proofs.SaidAppend.{ends-append}
use Rattle.kc_dialect.specs.declared.bad_line.BadField.{BadField}
use Rattle.kc_dialect.specs.declared.dialect.Dialect.{Dialect}
use Rattle.kc_dialect.specs.declared.rewriter.Rewriter.{Rewriter}
use Rattle.kc_dialect.specs.Dialects.{plain_line, plain_lines, said_after}
use Rattle.kc_dialect.specs.Rewritten.{HasRewritten}

-- a plain line ends
line-ends : (said : Result (Option (List ℕ × List ℕ)) BadField) → EndsLine (plain_line said)
line-ends (Ok None) = inr ([], refl)
line-ends (Err bad) = inr ([], refl)
line-ends (Ok (Some pair)) = inr (pair.0 ++ 32 ∷ pair.1, sym (append_assoc pair.0 (32 ∷ pair.1) (10 ∷ [])))

-- so do plain lines
pub plain-ends : (d : Dialect) (n : ℕ) (ls : List (List ℕ)) → EndsLine (plain_lines d n ls)
plain-ends d n [] = inl refl
plain-ends d n (line ∷ rest) =
    ends-append (plain_line (said_after d n line)) (plain_lines d (n + 1) rest) (line-ends (said_after d n line)) (plain-ends d (n + 1) rest)

-- what a rewriter has written ends with a line
pub written-ends : (r : Rewriter) (fed written : List ℕ) → HasRewritten r fed written → EndsLine written
written-ends r fed written f = subst EndsLine (sym f.text) (plain-ends r.lines.dialect 0 (lines f.done))
