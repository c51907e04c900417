-- The first wrong line of lines that come behind others.
use Rattle.std.proofs.Common.{◌≡◌, ◌+◌, ◌++◌, ◌∙◌, ℕ, List, [], ◌∷◌, Option, None, Some, ap, arith, length, refl, sym}
use Rattle.kc_text.specs.declared.line.TextLine.{TextLine}
use Rattle.kc_claims.specs.LineFaults.{fault_or, first_line_fault, last_pair, line_fault, pair_after}
use Rattle.kc_claims.specs.declared.fault.FaultyLine.{FaultyLine}
use Rattle.kc_claims.specs.declared.fault.LineFault.{LineFault}

-- the last pair of lines that come behind others
pub last_pair-append : (before : Option (ℕ × ℕ)) (xs ys : List TextLine) → last_pair before (xs ++ ys) ≡ last_pair (last_pair before xs) ys
last_pair-append before [] ys = refl
last_pair-append before (x ∷ xs) ys = last_pair-append (pair_after before x) xs ys

module _ (ids : List ℕ) where
  -- what is wrong in lines stays the first that is wrong, whatever comes behind them
  pub faulty-append : (done : ℕ) (before : Option (ℕ × ℕ)) (xs ys : List TextLine) (f : FaultyLine) → first_line_fault ids done before xs ≡ Some f
      → first_line_fault ids done before (xs ++ ys) ≡ Some f
  faulty-append done before [] ys f is = absurd (let h : None ≡ Some f = is in cc)
  faulty-append done before (x ∷ xs) ys f is =
      go (line_fault ids before x) (λ h. faulty-append (done + 1) (pair_after before x) xs ys f h) is
    where
      go : (wrong : Option LineFault) → (first_line_fault ids (done + 1) (pair_after before x) xs ≡ Some f
          → first_line_fault ids (done + 1) (pair_after before x) (xs ++ ys) ≡ Some f)
          → fault_or (done + 1) wrong (first_line_fault ids (done + 1) (pair_after before x) xs) ≡ Some f
          → fault_or (done + 1) wrong (first_line_fault ids (done + 1) (pair_after before x) (xs ++ ys)) ≡ Some f
      go None rest is = rest is
      go (Some wrong) rest is = is

  -- where nothing is wrong in lines, what comes behind them has the first that is wrong
  pub clean-append : (done : ℕ) (before : Option (ℕ × ℕ)) (xs ys : List TextLine) → first_line_fault ids done before xs ≡ None
      → first_line_fault ids done before (xs ++ ys) ≡ first_line_fault ids (done + length xs) (last_pair before xs) ys
  clean-append done before [] ys is = ap (λ n. first_line_fault ids n before ys) (let e : done ≡ done + 0 = omega arith in e)
  clean-append done before (x ∷ xs) ys is =
      go (line_fault ids before x) (λ h. clean-append (done + 1) (pair_after before x) xs ys h) is
    where
      go : (wrong : Option LineFault) → (first_line_fault ids (done + 1) (pair_after before x) xs ≡ None
          → first_line_fault ids (done + 1) (pair_after before x) (xs ++ ys)
          ≡ first_line_fault ids ((done + 1) + length xs) (last_pair (pair_after before x) xs) ys)
          → fault_or (done + 1) wrong (first_line_fault ids (done + 1) (pair_after before x) xs) ≡ None
          → fault_or (done + 1) wrong (first_line_fault ids (done + 1) (pair_after before x) (xs ++ ys))
          ≡ first_line_fault ids (done + length (x ∷ xs)) (last_pair (pair_after before x) xs) ys
      go None rest is =
          rest is
          ∙ ap (λ n. first_line_fault ids n (last_pair (pair_after before x) xs) ys)
          (let e : (done + 1) + length xs ≡ done + length (x ∷ xs) = omega arith in e)
      go (Some wrong) rest is = absurd (let h : Some (record { line = done + 1; fault = wrong }) ≡ None = is in cc)

  -- where the next line is wrong, it is the first
  pub wrong-next : (n m : ℕ) (last : Option (ℕ × ℕ)) (line : TextLine) (said rest : List TextLine) (f : LineFault) → said ≡ line ∷ rest
      → Some f ≡ line_fault ids last line → n + 1 ≡ m → first_line_fault ids n last said ≡ fault_or m (Some f) None
  wrong-next n m last line said rest f is wrong e =
      ap (first_line_fault ids n last) is
      ∙ ap (λ w. fault_or (n + 1) w (first_line_fault ids (n + 1) (pair_after last line) rest)) (sym wrong)
      ∙ ap (λ k. fault_or k (Some f) None) e

  -- and else the first is behind it
  pub clean-next : (n m : ℕ) (last : Option (ℕ × ℕ)) (line : TextLine) (said rest : List TextLine) → said ≡ line ∷ rest
      → None ≡ line_fault ids last line → n + 1 ≡ m → first_line_fault ids n last said ≡ first_line_fault ids m (pair_after last line) rest
  clean-next n m last line said rest is clean e =
      ap (first_line_fault ids n last) is
      ∙ ap (λ w. fault_or (n + 1) w (first_line_fault ids (n + 1) (pair_after last line) rest)) (sym clean)
      ∙ ap (λ k. first_line_fault ids k (pair_after last line) rest) e
