-- What is read fits: it is within the limits, and no change is a loop.
use Rattle.std.proofs.Common.{◌≡◌, ◌≢◌, ◌≤◌, ◌+◌, ℕ, Bool, true, false, cond, List, [], ◌∷◌, ◌++◌, length, ap, sym, subst, ◌∙◌, arith, nat_eq, nat_lt}
use Rattle.std.proofs.Common.{ltb-false, inl, inr, Option, Some, None, refl}
use Rattle.std.specs.Prelude.{All, IfSome, is_some, unwrap_or}
use Rattle.std.specs.Option.{option_to_list}
use Rattle.std.specs.Set.{distinct_count}
use Rattle.std.proofs.lemmas.Bool.{cases_Bool, eqb-false}
use Rattle.std.proofs.lemmas.List.Elements.{All-nil, All-cons, All-append, All-push}
use Rattle.kc_text.specs.declared.change.ChangeLine.{ChangeLine}
use Rattle.kc_text.specs.declared.kind.Kind.{Kind}
use Rattle.kc_text.specs.declared.kind.Kind.TheVariants.{LoopInBatch, EdgeLineInBatch, UpdateOutsideBatch, TooLong}
use Rattle.kc_text.specs.declared.line.TextLine.{TextLine}
use Rattle.kc_text.specs.declared.line.TextLine.TheVariants as said
use Rattle.kc_text.specs.Forms.{all_said}
use Rattle.kc_text.specs.Meaning.{Told, Means, Refuses, batches, changes, ends_or, first_limit, meaning, names, nothing_told, or_else, passed_limit, reading}
use Rattle.kc_text.specs.Meaning.{refusal, unfit, with_line}
use Rattle.kc_text.specs.declared.limits.Limits.{Limits}

-- no change is a loop
abbrev pub HasNoLoops : List ChangeLine → Type 0
HasNoLoops batch = All (λ c. c.a ≢ c.b) batch

-- no limit is passed
pub record IsWithin (limits : Limits) (told : Told) : Type 0 where
  pub ids : distinct_count nat_eq (names told) ≤ limits.ids
  pub changes : length (changes told) ≤ limits.updates
  pub batch_lines : length (batches told) ≤ limits.batches

-- what was told is within the limits, and no change of its batches is a loop
pub record AreFit (limits : Limits) (told : Told) : Type 0 where
  pub within : IsWithin limits told
  pub earlier : All HasNoLoops told.earlier
  pub last : IfSome told.last HasNoLoops

-- where no first limit is found, the ids, updates and batches are not over theirs
not-first_limit : (ids edge_lines updates batch_lines : Bool) → first_limit ids edge_lines updates batch_lines ≡ None
    → (ids ≡ false) × (updates ≡ false) × (batch_lines ≡ false)
not-first_limit true edge_lines updates batch_lines h = absurd (cc)
not-first_limit false true updates batch_lines h = absurd (cc)
not-first_limit false false true batch_lines h = absurd (cc)
not-first_limit false false false true h = absurd (cc)
not-first_limit false false false false h = (refl, refl, refl)

-- where no limit is passed, what was told is within the limits
not_over : (limits : Limits) (told : Told) → passed_limit limits told ≡ None → IsWithin limits told
not_over limits told h =
    let (ids, updates, batch_lines) = not-first_limit (nat_lt limits.ids (distinct_count nat_eq (names told))) (nat_lt limits.edge_lines (length told.edges))
    (nat_lt limits.updates (length (changes told))) (nat_lt limits.batches (length (batches told))) h in record {
      ids = omega (arith, ltb-false _ _ ids);
      changes = omega (arith, ltb-false _ _ updates);
      batch_lines = omega (arith, ltb-false _ _ batch_lines);
    }

-- both checks of two found nothing
pub both_none : (a b : Option Kind) → or_else a b ≡ None → (a ≡ None) × (b ≡ None)
both_none (Some kind) b h = absurd (cc)
both_none None b h = (refl, h)

-- a change that fits
change-fits : (batch : List ChangeLine) (c : ChangeLine) → unfit (Some batch) c ≡ None → c.a ≢ c.b
change-fits batch c h = elim (cases_Bool (nat_eq c.a c.b)) [
  | inl loop ↦ absurd (let e : Some LoopInBatch ≡ None = sym (ap (λ b. cond b (Some LoopInBatch) None) loop) ∙ h in cc)
  | inr differ ↦ eqb-false c.a c.b differ
]

-- the last batch with a change that fits has no loop
fit-change : (last : Option (List ChangeLine)) (c : ChangeLine) → IfSome last HasNoLoops → unfit last c ≡ None → HasNoLoops (unwrap_or last [] ++ c ∷ [])
fit-change None c h fit = absurd (let e : Some UpdateOutsideBatch ≡ None = fit in cc)
fit-change (Some batch) c h fit = All-push (λ c. c.a ≢ c.b) batch c h (change-fits batch c fit)

-- no batch has a loop where neither an earlier one nor the last one has
pub fit-batches : (earlier : List (List ChangeLine)) (last : Option (List ChangeLine)) → All HasNoLoops earlier → IfSome last HasNoLoops
    → All HasNoLoops (earlier ++ option_to_list last)
fit-batches earlier None h l = All-append HasNoLoops earlier [] h (All-nil HasNoLoops)
fit-batches earlier (Some batch) h l = All-append HasNoLoops earlier (batch ∷ []) h (All-cons HasNoLoops batch [] l (All-nil HasNoLoops))

-- an edge line that is taken passes no limit
pub edge_taken : (limits : Limits) (told : Told) (a b : ℕ) → refusal limits told (said.Edge a b) ≡ None
    → passed_limit limits (with_line told (said.Edge a b)) ≡ None
edge_taken limits told a b h = elim (is_some told.last) as (λ t. cond t (Some EdgeLineInBatch) (passed_limit limits (with_line told (said.Edge a b))) ≡ None
    → passed_limit limits (with_line told (said.Edge a b)) ≡ None) [
      | true ↦ λ e. absurd (cc)
      | false ↦ λ e. e
    ] h

-- what was told stays fit with a line that is not refused
after_line : (limits : Limits) (told : Told) (line : TextLine) → AreFit limits told → refusal limits told line ≡ None → AreFit limits (with_line told line)
after_line limits told said.Nothing fit h = fit
after_line limits told (said.Edge a b) fit h = record {
  within = not_over limits (with_line told (said.Edge a b)) (edge_taken limits told a b h);
  earlier = fit.earlier;
  last =
      fit.last;
}
after_line limits told said.Batch fit h = record {
  within = not_over limits (with_line told said.Batch) h;
  earlier =
      fit-batches told.earlier told.last fit.earlier fit.last;
  last = All-nil (λ (c : ChangeLine). c.a ≢ c.b);
}
after_line limits told (said.Change c) fit h =
    let (unfit', limit) = both_none (unfit told.last c) (passed_limit limits (with_line told (said.Change c))) h in
    record { within = not_over limits (with_line told (said.Change c)) limit; earlier = fit.earlier; last = fit-change told.last c fit.last unfit' }
after_line limits told (said.Wrong kind) fit h = fit

-- what lines tell with no refusal, after what is fit, is fit
pub reading-fit : (limits : Limits) (done : ℕ) (told : Told) (lines : List TextLine) (all : Told) → AreFit limits told
    → reading limits done told lines ≡ Means all → AreFit limits all
reading-fit limits done told [] all fit h = let same : told ≡ all = cc in subst (AreFit limits) same fit
reading-fit limits done told (line ∷ rest) all fit h =
    elim (refusal limits told line) as (λ r. refusal limits told line ≡ r
    → ends_or r (done + 1) (reading limits (done + 1) (with_line told line) rest) ≡ Means all → AreFit limits all) [
      | Some kind ↦ λ _ e. absurd (cc)
      | None ↦ λ none e. reading-fit limits (done + 1) (with_line told line) rest all (after_line limits told line fit none) e
    ] refl h

-- what a text means is fit
pub meaning-fit : (limits : Limits) (bytes : List ℕ) (all : Told) → meaning limits bytes ≡ Means all → AreFit limits all
meaning-fit limits bytes all h = elim (nat_lt limits.bytes (length bytes)) as
    (λ b. cond b (Refuses 0 TooLong) (reading limits 0 nothing_told (all_said bytes)) ≡ Means all → AreFit limits all) [
      | true ↦ λ e. absurd (cc)
      | false ↦ λ e. reading-fit limits 0 nothing_told (all_said bytes) all (record
          { within = record { ids = omega arith; changes = omega arith; batch_lines = omega arith }; earlier = All-nil HasNoLoops; last = tt }) e
    ] h
