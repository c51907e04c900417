-- Pieces that are put one behind another.
use Rattle.std.proofs.Common.{◌≡◌, ◌++◌, ℕ, List, ap, ◌∙◌, append_assoc}

-- one piece behind others
pub then-put : (old front piece before after : List ℕ) → before ≡ old ++ front → after ≡ before ++ piece → after ≡ old ++ (front ++ piece)
then-put old front piece before after first last = last ∙ ap (λ (t : List ℕ). t ++ piece) first ∙ append_assoc old front piece
