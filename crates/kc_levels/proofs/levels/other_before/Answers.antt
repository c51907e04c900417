-- What stands before `x` once `v` is out stands before `v`, where that is what stands before `x`.
use Rattle.std.proofs.Common.{◌≡◌, ◌≢◌, ◌<◌, ℕ, List, Option, Some, None, true, cond, eqb, sym, ◌∙◌, ap, arith, ne_eqb, eq-eqb}
use Rattle.std.specs.Option.{MatchOption, unwrap_or}
use Rattle.kc_lists.specs.Lists.{member, Distinct, without, prev_of}
use Rattle.kc_table.proofs.Listed.{Listed, list-stands}
use Rattle.kc_order.specs.Standing.{list_after}
use Rattle.kc_levels.proofs.Cuts.{prev_of-without}
use Rattle.kc_levels.proofs.levels.other_before.Goals as goal

-- what stands before an item is answered, or that nothing does
abbrev Answers : ℕ → ℕ → List ℕ → Option ℕ → Type 0
Answers e x xs o = MatchOption o (prev_of e x xs ≡ e) (λ y. (y ≡ prev_of e x xs) × (member y xs ≡ true))

-- what was answered for `x` stands before it once `v` is out, and where that was `v`, what stands before `v` does
answer-without : (o : Option ℕ) (e x v r : ℕ) (xs : List ℕ) → Distinct xs → member x xs ≡ true → x ≢ v → e ≢ v → prev_of e x (without v xs) ≢ e
    → Answers e x xs o → r ≡ unwrap_or o v
    → (r ≢ v → r ≡ prev_of e x (without v xs)) × (r ≡ v → prev_of e x (without v xs) ≡ prev_of e v xs)
answer-without None e x v r xs d m xv ev later h is =
    let same : prev_of e x (without v xs) ≡ e = prev_of-without e x v xs d m xv ev
    ∙ (ap (λ (k : ℕ). cond (eqb k v) (prev_of e v xs) k) h ∙ ap (λ b. cond b (prev_of e v xs) e) (ne_eqb e v ev)) in
    absurd (later same)
answer-without (Some y) e x v r xs d m xv ev later h is =
    let at : prev_of e x (without v xs) ≡ cond (eqb r v) (prev_of e v xs) r = prev_of-without e x v xs d m xv ev
    ∙ ap (λ (k : ℕ). cond (eqb k v) (prev_of e v xs) k) (sym (is ∙ h.0)) in (
      λ ne. sym (at ∙ ap (λ b. cond b (prev_of e v xs) r) (ne_eqb r v ne)),
      λ q. at ∙ ap (λ b. cond b (prev_of e v xs) r) (eq-eqb r v q),
    )

-- what was answered for `v` stands before it
answer-before : (o : Option ℕ) (e v r : ℕ) (xs : List ℕ) → prev_of e v xs ≢ e → Answers e v xs o → r ≡ unwrap_or o 0 → r ≡ prev_of e v xs
answer-before None e v r xs ne h is = absurd (ne h)
answer-before (Some y) e v r xs ne h is = is ∙ h.0

pub returns-then-p-v : goal.returns-then-p-v
returns-then-p-v c =
    let s = c.args.writer.now in
    let e : ℕ = s.table.shape.items in
    let listed : Listed s.table.shape (list_after s.table s.log) = (list-stands s.table.shape s.table.opening s.log c.requires.legal).listed in
    let below : c.args.v < e = listed.within c.args.v c.requires.v_in in
    (answer-without c.before-2.result e c.args.x c.args.v c.unwrap_or-p.result (list_after s.table s.log) listed.distinct c.requires.x_in c.requires.differ
    (λ q. omega (arith, q, below)) c.requires.later c.before-2.ensures c.unwrap_or-p.ensures).0 c.if-p-v.true

pub returns : goal.returns
returns c =
    let s = c.args.writer.now in
    let e : ℕ = s.table.shape.items in
    let list : List ℕ = list_after s.table s.log in
    let listed : Listed s.table.shape list = (list-stands s.table.shape s.table.opening s.log c.requires.legal).listed in
    let below : c.args.v < e = listed.within c.args.v c.requires.v_in in
    let same : prev_of e c.args.x (without c.args.v list) ≡ prev_of e c.args.v list =
    (answer-without c.before-2.result e c.args.x c.args.v c.unwrap_or-p.result list listed.distinct c.requires.x_in c.requires.differ
    (λ q. omega (arith, q, below)) c.requires.later c.before-2.ensures c.unwrap_or-p.ensures).1 c.if-p-v.false in
    answer-before c.before-3.result e c.args.v c.unwrap_or.result list (λ q. c.requires.later (same ∙ q)) c.before-3.ensures c.unwrap_or.ensures ∙ sym same
