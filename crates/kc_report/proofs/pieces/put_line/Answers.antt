-- A line is its pieces, put one after another.
use Rattle.std.proofs.Common.{◌≡◌, ◌++◌, [], ◌∷◌, List, ℕ, ap, ◌∙◌, sym, append_assoc, codes}
use Rattle.std.proofs.lemmas.Result.{on_ok_weaker}
use Rattle.kc_report.specs.Lines.{field, line_text, overruled_field}
use Rattle.kc_report.proofs.pieces.put_line.Goals as goal

-- one piece before the rest of a line, which has three
two_put : (old a d e end p q : List ℕ) → p ≡ old ++ a → q ≡ p ++ (d ++ e ++ end) → q ≡ old ++ (a ++ d ++ e ++ end)
two_put old a d e end p q first last = last ∙ ap (λ (t : List ℕ). t ++ (d ++ e ++ end)) first ∙ simp append_assoc

-- five pieces before the rest of a line
six_put : (old a b c f g d e end p q r s t u : List ℕ)
    → p ≡ old ++ a → q ≡ p ++ b → r ≡ q ++ c → s ≡ r ++ f → t ≡ s ++ g → u ≡ t ++ (d ++ e ++ end)
    → u ≡ old ++ (a ++ b ++ c ++ f ++ g ++ d ++ e ++ end)
six_put old a b c f g d e end p q r s t u first second third fourth fifth last =
    two_put s g d e end t u fifth last
    ∙ ap (λ (x : List ℕ). x ++ (g ++ d ++ e ++ end)) (fourth ∙ ap (λ (x : List ℕ). x ++ f)
    (third ∙ ap (λ (x : List ℕ). x ++ c) (second ∙ ap (λ (x : List ℕ). x ++ b) first)))
    ∙ simp append_assoc

pub returns-in_ok-put_field-in-Graph-clause-ok : goal.returns-in_ok-put_field-in-Graph-clause-ok
returns-in_ok-put_field-in-Graph-clause-ok c =
    on_ok_weaker c.put_rest.result
    (λ e. two_put c.args.out.now.items (field (codes "graph vertices ") c.in-Graph.vertices) (field (codes " edges ") c.in-Graph.edges)
    (field (codes " top ") c.in-Graph.top) (10 ∷ []) _ _ c.in_ok-put_field-in-Graph.ensures.ok e
    ∙ sym (ap (λ t. c.args.out.now.items ++ line_text t) c.in-Graph.is))
    c.put_rest.ensures.ok

pub returns-in_ok-put_overruled-in-Batch-clause-ok : goal.returns-in_ok-put_overruled-in-Batch-clause-ok
returns-in_ok-put_overruled-in-Batch-clause-ok c =
    on_ok_weaker c.put_rest-in-Batch.result
    (λ e. six_put c.args.out.now.items (field (codes "batch ") c.in-Batch.number) (field (codes " added ") c.in-Batch.added)
    (field (codes " removed ") c.in-Batch.removed) (field (codes " kept ") c.in-Batch.kept) (overruled_field c.in-Batch.overruled)
    (field (codes " edges ") c.in-Batch.edges) (field (codes " top ") c.in-Batch.top) (10 ∷ []) _ _ _ _ _ _
    c.in_ok-put_field-in-Batch.ensures.ok c.in_ok-put_field-in-Batch-2.ensures.ok c.in_ok-put_field-in-Batch-3.ensures.ok
    c.in_ok-put_field-in-Batch-4.ensures.ok c.in_ok-put_overruled-in-Batch.ensures.ok e
    ∙ sym (ap (λ t. c.args.out.now.items ++ line_text t) c.in-Batch.is))
    c.put_rest-in-Batch.ensures.ok
