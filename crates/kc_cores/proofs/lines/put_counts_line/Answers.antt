-- The fields are the four counts with their names.
use Rattle.std.proofs.Common.{◌≡◌, ◌∷◌, [], List, ℕ, subst}
use Rattle.std.specs.Prelude.{OnErr, OnOk}
use Rattle.kc_lines.specs.Fields.{KeyedLabel}
use Rattle.kc_lines.specs.Lines.{line_text}
use Rattle.kc_lines.specs.Pages.{PassesOn, PassesPart}
use Rattle.kc_lines.specs.declared.format.Format.{Format}
use Rattle.kc_cores.proofs.lines.put_counts_line.Goals as goal

-- the same four fields make the same line
same_line : (format : Format) (a a' b b' d d' e e' : KeyedLabel) → a ≡ a' → b ≡ b' → d ≡ d' → e ≡ e'
    → line_text format (a ∷ b ∷ d ∷ e ∷ []) ≡ line_text format (a' ∷ b' ∷ d' ∷ e' ∷ [])
same_line format a a' b b' d d' e e' one two three four = λ i. line_text format (one i ∷ two i ∷ three i ∷ four i ∷ [])

pub returns-clause-passes : goal.returns-clause-passes
returns-clause-passes g c =
    subst (λ (t : List ℕ). OnOk c.put_line.result (PassesOn (g.O.Sink.taken c.args.out.now) (g.O.Sink.taken c.put_line.new.out) c.args.page.now
    c.put_line.new.page t))
    (same_line c.args.format _ _ _ _ _ _ _ _ c.new.ensures c.new-2.ensures c.new-3.ensures c.new-4.ensures) c.put_line.ensures.passes

pub returns-clause-part : goal.returns-clause-part
returns-clause-part g c =
    subst (λ (t : List ℕ). OnErr c.put_line.result (PassesPart (g.O.Sink.taken c.args.out.now) (g.O.Sink.taken c.put_line.new.out) c.args.page.now t))
    (same_line c.args.format _ _ _ _ _ _ _ _ c.new.ensures c.new-2.ensures c.new-3.ensures c.new-4.ensures) c.put_line.ensures.part
