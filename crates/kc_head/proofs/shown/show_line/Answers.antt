-- The part that is written is the one round the column.
use Rattle.std.proofs.Common.{◌≡◌, ◌≤◌, ◌-◌, ◌++◌, ◌∙◌, ℕ, List, [], Bool, Result, Ok, Err, OnOk, ap, arith, cond, drop, length, sym, take}
use Rattle.std.proofs.lemmas.Bool.{le-ltb}
use Rattle.kc_head.specs.Shown.{cut_before, shown_line, with_caret}
use Rattle.kc_head.specs.declared.shown.TheConstants.{MOST_BEFORE, MOST_SHOWN}
use Rattle.kc_head.proofs.shown.show_line.Goals as goal

-- the part round a column is what is shown of a line that has the column
shown-is : (line part : List ℕ) (column at cut : ℕ) → at ≡ column - 1 → cut ≡ at - MOST_BEFORE → at ≤ length line → part ≡ take MOST_SHOWN (drop cut line)
    → with_caret (at - cut) part ≡ shown_line line column
shown-is line part column at cut at-is cut-is fits is =
    let left : cut ≡ cut_before column = cut-is ∙ ap (λ (a : ℕ). a - MOST_BEFORE) at-is in
    let within : column - 1 ≤ length line = omega (arith, fits, at-is) in
    ap (λ (p : List ℕ). with_caret (at - cut) p) is
    ∙ ap (λ (a : ℕ). with_caret (a - cut) (take MOST_SHOWN (drop cut line))) at-is
    ∙ ap (λ (k : ℕ). with_caret (column - 1 - k) (take MOST_SHOWN (drop k line))) left
    ∙ sym (ap (λ (b : Bool). cond b [] (with_caret (column - 1 - cut_before column) (take MOST_SHOWN (drop (cut_before column) line))))
    (le-ltb (length line) (column - 1) within))

-- what was written behind something is an equal text behind it
written-as : {E : Type 0} (r : Result Unit E) (new old a b : List ℕ) → OnOk r (new ≡ old ++ a) → a ≡ b → OnOk r (new ≡ old ++ b)
written-as (Ok u) new old a b h e = h ∙ ap (λ (t : List ℕ). old ++ t) e
written-as (Err x) new old a b h e = tt

pub returns : goal.returns
returns c =
    written-as c.put_with_caret.result c.put_with_caret.new.out.items c.args.out.now.items _ _ c.put_with_caret.ensures
    (shown-is c.args.line.now c.part_of.result.now c.args.column c.saturating_sub-at.result c.saturating_sub-cut.result
    c.saturating_sub-at.ensures c.saturating_sub-cut.ensures c.if-line-at.false c.part_of.ensures)
