-- The numbers of the lines that tell something, one line after another.
use Rattle.std.proofs.Common.{◌≡◌, ◌≤◌, ◌<◌, ◌+◌, ℕ, suc, zero, true, false, cond, List, [], ◌∷◌, ◌++◌, length, get_or, fold, refl, sym, ap, ◌∙◌}
use Rattle.std.proofs.Common.{append_assoc, ap₂, append-nil, arith, nat_le, length-append, inl, inr, subst}
use Rattle.std.specs.Prelude.{All}
use Rattle.std.proofs.lemmas.Bool.{cases_lt}
use Rattle.std.proofs.lemmas.List.{get_or_append_left}
use Rattle.std.proofs.lemmas.List.Elements.{All-head, All-push, All-tail}
use Rattle.std.proofs.Math.Seq.{get_or-append_seam}
use Rattle.kc_text.specs.declared.line.TextLine.{TextLine}
use Rattle.kc_text.specs.declared.line.TextLine.TheVariants as said
use Rattle.kc_text.specs.declared.line_numbers.LineNumbers.{LineNumbers}
use Rattle.kc_text.specs.Numbering.{HasNumbers, IsNoted}
use Rattle.kc_text.specs.TellingLines.{edge_lines, is_telling, numbers, skipped_at}

-- the numbers of lines with one more behind them
pub numbers-push : (done : ℕ) (lines : List TextLine) (line : TextLine)
    → numbers done (lines ++ line ∷ []) ≡ numbers done lines ++ cond (is_telling line) ((done + length lines + 1) ∷ []) []
numbers-push done [] line = elim (is_telling line) as (λ b. cond b ((done + 1) ∷ []) [] ≡ cond b ((done + 0 + 1) ∷ []) []) [
  | true ↦ ap (λ n. n ∷ []) (let e : done + 1 ≡ done + 0 + 1 = omega arith in e)
  | false ↦ refl
]
numbers-push done (first ∷ rest) line =
    let e : done + 1 + length rest + 1 ≡ done + suc (length rest) + 1 = omega arith in
    let more : numbers (done + 1) (rest ++ line ∷ []) ≡ numbers (done + 1) rest ++ cond (is_telling line) ((done + suc (length rest) + 1) ∷ []) [] =
    numbers-push (done + 1) rest line ∙ ap (λ n. numbers (done + 1) rest ++ cond (is_telling line) (n ∷ []) []) e in
    elim (is_telling first) as (λ b. cond b ((done + 1) ∷ numbers (done + 1) (rest ++ line ∷ [])) (numbers (done + 1) (rest ++ line ∷ []))
    ≡ cond b ((done + 1) ∷ numbers (done + 1) rest) (numbers (done + 1) rest) ++ cond (is_telling line) ((done + suc (length rest) + 1) ∷ []) []) [
      | true ↦ ap (λ t. (done + 1) ∷ t) more
      | false ↦ more
    ]

-- each number is above those of the lines before and not above that of the last line
pub numbers-within : (done : ℕ) (lines : List TextLine) (place : ℕ) → place < length (numbers done lines)
    → get_or (numbers done lines) place 0 ≤ done + length lines
numbers-within done [] place l = absurd (omega arith)
numbers-within done (first ∷ rest) place l =
    elim (is_telling first) as (λ b. place < length (cond b ((done + 1) ∷ numbers (done + 1) rest) (numbers (done + 1) rest))
    → get_or (cond b ((done + 1) ∷ numbers (done + 1) rest) (numbers (done + 1) rest)) place 0 ≤ done + suc (length rest)) [
      | true ↦ λ l'. within-first (numbers-within (done + 1) rest) place l'
      | false ↦ λ l'. let h = numbers-within (done + 1) rest place l' in omega arith
    ] l
  where
    within-first : ((at : ℕ) → at < length (numbers (done + 1) rest) → get_or (numbers (done + 1) rest) at 0 ≤ done + 1 + length rest) → (place : ℕ)
        → place < suc (length (numbers (done + 1) rest)) → get_or ((done + 1) ∷ numbers (done + 1) rest) place 0 ≤ done + suc (length rest)
    within-first h zero l' = omega arith
    within-first h (suc place) l' = let is = h place (omega arith) in omega arith

-- a step behind the others counts from it on
skipped-push : (steps : List (ℕ × ℕ)) (skipped0 : ℕ) (step : ℕ × ℕ) (place : ℕ)
    → fold (λ (skipped : ℕ) (step : ℕ × ℕ). cond (nat_le step.0 place) step.1 skipped) skipped0 (steps ++ step ∷ [])
    ≡ cond (nat_le step.0 place) step.1 (fold (λ (skipped : ℕ) (step : ℕ × ℕ). cond (nat_le step.0 place) step.1 skipped) skipped0 steps)
skipped-push [] skipped0 step place = refl
skipped-push (first ∷ rest) skipped0 step place = skipped-push rest (cond (nat_le first.0 place) first.1 skipped0) step place

-- a step behind a place changes nothing there
pub skipped-before : (steps : List (ℕ × ℕ)) (step : ℕ × ℕ) (place : ℕ) → place < step.0 → skipped_at (steps ++ step ∷ []) place ≡ skipped_at steps place
skipped-before steps step place l =
    skipped-push steps 0 step place ∙ ap (λ b. cond b step.1 (skipped_at steps place)) (lt-not_le place step.0 l)
  where
    lt-not_le : (a b : ℕ) → a < b → nat_le b a ≡ false
    lt-not_le a b l' = grind arith

-- at its place a step counts
pub skipped-here : (steps : List (ℕ × ℕ)) (first skipped : ℕ) → skipped_at (steps ++ (first, skipped) ∷ []) first ≡ skipped
skipped-here steps first skipped =
    skipped-push steps 0 (first, skipped) first ∙ ap (λ b. cond b skipped (skipped_at steps first)) (le-self first)
  where
    le-self : (a : ℕ) → nat_le a a ≡ true
    le-self a = grind arith

-- behind all steps nothing more is skipped
skipped-on_from : (steps : List (ℕ × ℕ)) (skipped0 place : ℕ) → All (λ step. step.0 ≤ place) steps
    → fold (λ (skipped : ℕ) (step : ℕ × ℕ). cond (nat_le step.0 (place + 1)) step.1 skipped) skipped0 steps
    ≡ fold (λ (skipped : ℕ) (step : ℕ × ℕ). cond (nat_le step.0 place) step.1 skipped) skipped0 steps
skipped-on_from [] skipped0 place below = refl
skipped-on_from (first ∷ rest) skipped0 place below =
    let here : nat_le first.0 place ≡ true = le-true first.0 place (All-head (λ (step : ℕ × ℕ). step.0 ≤ place) first rest below) in
    let next : nat_le first.0 (place + 1) ≡ true = le-true first.0 (place + 1)
    (let h = All-head (λ (step : ℕ × ℕ). step.0 ≤ place) first rest below in omega arith) in
    ap (λ b. fold (λ (skipped : ℕ) (step : ℕ × ℕ). cond (nat_le step.0 (place + 1)) step.1 skipped) (cond b first.1 skipped0) rest) next
    ∙ skipped-on_from rest first.1 place (All-tail (λ (step : ℕ × ℕ). step.0 ≤ place) first rest below)
    ∙ sym (ap (λ b. fold (λ (skipped : ℕ) (step : ℕ × ℕ). cond (nat_le step.0 place) step.1 skipped) (cond b first.1 skipped0) rest) here)
  where
    le-true : (a b : ℕ) → a ≤ b → nat_le a b ≡ true
    le-true a b l' = grind arith

-- so it is from the first on
pub skipped-on : (steps : List (ℕ × ℕ)) (place : ℕ) → All (λ step. step.0 ≤ place) steps → skipped_at steps (place + 1) ≡ skipped_at steps place
skipped-on steps place below = skipped-on_from steps 0 place below

-- the numbers of lines and of a telling line behind them
numbers-telling : (lines : List TextLine) (line : TextLine) → is_telling line ≡ true
    → numbers 0 (lines ++ line ∷ []) ≡ numbers 0 lines ++ (length lines + 1) ∷ []
numbers-telling lines line is = numbers-push 0 lines line ∙ ap (λ b. numbers 0 lines ++ cond b ((0 + length lines + 1) ∷ []) []) is
    ∙ ap (λ n. numbers 0 lines ++ n ∷ []) (let e : 0 + length lines + 1 ≡ length lines + 1 = omega arith in e)

-- a silent line has no number
numbers-silent : (lines : List TextLine) (line : TextLine) → is_telling line ≡ false → numbers 0 (lines ++ line ∷ []) ≡ numbers 0 lines
numbers-silent lines line is =
    numbers-push 0 lines line ∙ ap (λ b. numbers 0 lines ++ cond b ((0 + length lines + 1) ∷ []) []) is ∙ append-nil (numbers 0 lines)

-- with a silent line more all numbers stay
pub silent-counted : (old new : LineNumbers) (lines : List TextLine) (line : TextLine) → is_telling line ≡ false → HasNumbers old lines
    → new.lines ≡ old.lines + 1 → new.telling ≡ old.telling → new.skipped ≡ old.skipped → new.steps.items ≡ old.steps.items
    → HasNumbers new (lines ++ line ∷ [])
silent-counted old new lines line is has l t s steps =
    let same : numbers 0 (lines ++ line ∷ []) ≡ numbers 0 lines = numbers-silent lines line is in
    record {
      lines = omega (arith, l, has.lines, length-append lines (line ∷ []));
      telling = t ∙ has.telling ∙ sym (ap length same);
      each = λ place less.
          ap (λ ns. get_or ns place 0) same ∙ has.each place (omega (arith, t)) ∙ ap (λ items. place + 1 + skipped_at items place) (sym steps);
      next = ap₂ skipped_at steps t ∙ has.next ∙ sym s;
      below = subst (λ items. All (λ (step : ℕ × ℕ). step.0 ≤ new.telling) items) (sym steps)
          (subst (λ n. All (λ (step : ℕ × ℕ). step.0 ≤ n) old.steps.items) (sym t) has.below);
    }

-- with a step more for what is skipped before the next telling line, it is noted
pub step-noted : (old new : LineNumbers) → new.lines ≡ old.lines → new.telling ≡ old.telling → new.skipped + old.telling ≡ old.lines
    → new.steps.items ≡ old.steps.items ++ (old.telling, new.skipped) ∷ [] → IsNoted old new
step-noted old new l t s steps = record {
  lines = l;
  telling = t;
  skipped = s;
  here = λ _. ap (λ (items : List (ℕ × ℕ)). skipped_at items old.telling) steps ∙ skipped-here old.steps.items old.telling new.skipped;
  before = λ place less. ap (λ (items : List (ℕ × ℕ)). skipped_at items place) steps ∙ skipped-before old.steps.items (old.telling, new.skipped) place less;
  below = λ below. subst (λ (items : List (ℕ × ℕ)). All (λ (step : ℕ × ℕ). step.0 ≤ old.telling) items) (sym steps)
      (All-push (λ (step : ℕ × ℕ). step.0 ≤ old.telling) old.steps.items (old.telling, new.skipped) below (omega arith));
}

-- with a telling line more there is one number more
pub telling-counted : (old noted new : LineNumbers) (lines : List TextLine) (line : TextLine) → is_telling line ≡ true → HasNumbers old lines
    → IsNoted old noted → new.lines ≡ noted.lines + 1 → new.telling ≡ noted.telling + 1 → new.skipped ≡ noted.skipped
    → new.steps.items ≡ noted.steps.items → HasNumbers new (lines ++ line ∷ [])
telling-counted old noted new lines line is has n l t s steps =
    let more : numbers 0 (lines ++ line ∷ []) ≡ numbers 0 lines ++ (length lines + 1) ∷ [] = numbers-telling lines line is in
    let here : skipped_at new.steps.items old.telling ≡ new.skipped = ap (λ (items : List (ℕ × ℕ)). skipped_at items old.telling) steps
    ∙ n.here has.next ∙ sym s in
    let below : All (λ (step : ℕ × ℕ). step.0 ≤ old.telling) new.steps.items =
    subst (λ (items : List (ℕ × ℕ)). All (λ (step : ℕ × ℕ). step.0 ≤ old.telling) items) (sym steps) (n.below has.below) in
    let count : new.telling ≡ old.telling + 1 = omega (arith, t, n.telling) in
    record {
      lines = omega (arith, l, n.lines, has.lines, length-append lines (line ∷ []));
      telling = omega (arith, count, has.telling, ap length more, length-append (numbers 0 lines) ((length lines + 1) ∷ []));
      each = λ place less. ap (λ ns. get_or ns place 0) more ∙ elim (cases_lt place old.telling) [
        | inl earlier ↦
            get_or_append_left (numbers 0 lines) ((length lines + 1) ∷ []) 0 place (omega (arith, has.telling)) ∙ has.each place earlier
            ∙ ap (λ n. place + 1 + n) (sym (ap (λ (items : List (ℕ × ℕ)). skipped_at items place) steps ∙ n.before place earlier))
        | inr not ↦
            let last : place ≡ length (numbers 0 lines) = omega (arith, count, has.telling) in
            let at : place ≡ old.telling = omega (arith, count) in
            let value : length lines + 1 ≡ place + 1 + new.skipped = omega (arith, has.lines, n.skipped, s) in
            ap (λ n. get_or (numbers 0 lines ++ (length lines + 1) ∷ []) n 0) last ∙ get_or-append_seam (numbers 0 lines) (length lines + 1) [] 0
            ∙ value ∙ ap (λ n. place + 1 + n) (sym (ap (skipped_at new.steps.items) at ∙ here))
      ];
      next = ap (skipped_at new.steps.items) count ∙ skipped-on new.steps.items old.telling below ∙ here;
      below = λ k d lk. let h = below k d lk in omega (arith, count);
    }

-- with what is skipped noted, the numbers of the lines are as before
noted-numbers : (old noted : LineNumbers) (lines : List TextLine) → HasNumbers old lines → IsNoted old noted → HasNumbers noted lines
noted-numbers old noted lines has n = record {
  lines = n.lines ∙ has.lines;
  telling = n.telling ∙ has.telling;
  each = λ place less.
      let earlier : place < old.telling = omega (arith, n.telling) in
      has.each place earlier ∙ ap (λ (k : ℕ). place + 1 + k) (sym (n.before place earlier));
  next = ap (skipped_at noted.steps.items) n.telling ∙ n.here has.next;
  below = subst (λ (k : ℕ). All (λ (step : ℕ × ℕ). step.0 ≤ k) noted.steps.items) (sym n.telling) (n.below has.below);
}

-- With edge lines more there are as many numbers more, where nothing is skipped that is not noted.
edges-counted_on : (old new : LineNumbers) (lines : List TextLine) (edges : List (ℕ × ℕ)) → HasNumbers old lines → old.skipped + old.telling ≡ old.lines
    → new.lines ≡ old.lines + length edges → new.telling ≡ old.telling + length edges → new.skipped ≡ old.skipped → new.steps.items ≡ old.steps.items
    → HasNumbers new (lines ++ edge_lines edges)
edges-counted_on old new lines [] has noted l t s steps =
    let same : new.telling ≡ old.telling = omega (arith, t) in
    subst (HasNumbers new) (sym (append-nil lines)) (record {
      lines = omega (arith, l, has.lines);
      telling = same ∙ has.telling;
      each = λ place less. has.each place (omega (arith, same)) ∙ ap (λ (items : List (ℕ × ℕ)). place + 1 + skipped_at items place) (sym steps);
      next = ap₂ skipped_at steps same ∙ has.next ∙ sym s;
      below = subst (λ (items : List (ℕ × ℕ)). All (λ (step : ℕ × ℕ). step.0 ≤ new.telling) items) (sym steps)
          (subst (λ (k : ℕ). All (λ (step : ℕ × ℕ). step.0 ≤ k) old.steps.items) (sym same) has.below);
    })
edges-counted_on old new lines ((a, b) ∷ edges) has noted l t s steps =
    let next : LineNumbers = record { lines = old.lines + 1; telling = old.telling + 1; skipped = old.skipped; steps = old.steps } in
    let more : HasNumbers next (lines ++ said.Edge a b ∷ []) = telling-counted old old next lines (said.Edge a b) refl has
    (record { lines = refl; telling = refl; skipped = noted; here = λ h. h; before = λ _ _. refl; below = λ h. h }) refl refl refl refl in
    subst (HasNumbers new) (append_assoc lines (said.Edge a b ∷ []) (edge_lines edges))
    (edges-counted_on next new (lines ++ said.Edge a b ∷ []) edges more (omega (arith, noted)) (omega (arith, l)) (omega (arith, t)) s steps)

-- with edge lines more there are as many numbers more
pub edges-counted : (old noted new : LineNumbers) (lines : List TextLine) (edges : List (ℕ × ℕ)) → HasNumbers old lines → IsNoted old noted
    → new.lines ≡ noted.lines + length edges → new.telling ≡ noted.telling + length edges → new.skipped ≡ noted.skipped
    → new.steps.items ≡ noted.steps.items → HasNumbers new (lines ++ edge_lines edges)
edges-counted old noted new lines edges has n l t s steps =
    edges-counted_on noted new lines edges (noted-numbers old noted lines has n) (omega (arith, n.skipped, n.telling, n.lines)) l t s steps
