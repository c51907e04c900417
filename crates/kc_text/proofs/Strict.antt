-- Where no batch names a pair twice, the stricter rule gives the same meaning.
use Rattle.std.proofs.Common.{◌≡◌, ℕ, ◌+◌, Bool, true, false, cond, List, [], ◌∷◌, ◌++◌, length, length-append, get_or, refl, sym, ap, subst, ◌∙◌, arith}
use Rattle.std.proofs.Common.{nat_lt, Option, Some, None}
use Rattle.std.specs.Prelude.{All, ◌↔◌, unwrap_or}
use Rattle.std.specs.List.{list_any}
use Rattle.std.specs.Option.{option_map, option_to_list}
use Rattle.std.proofs.Math.Seq.{get_or-append_seam}
use Rattle.std.proofs.lemmas.List.{get_or_append_left}
use Rattle.std.proofs.lemmas.List.Elements.{All-nil, All-cons, All-append}
use Rattle.std.proofs.lemmas.List.Folds.{list_any_none}
use Rattle.std.proofs.lemmas.List.Quantifiers.{all_pairs_push}
use Rattle.kc_lists.proofs.Shared.{All-front, All-end}
use Rattle.kc_text.specs.declared.change.ChangeLine.{ChangeLine}
use Rattle.kc_text.specs.declared.kind.Kind.{Kind}
use Rattle.kc_text.specs.declared.kind.Kind.TheVariants.{TooLong, UpdateOutsideBatch}
use Rattle.kc_text.specs.declared.line.TextLine.{TextLine}
use Rattle.kc_text.specs.declared.line.TextLine.TheVariants as said
use Rattle.kc_text.specs.Batches.{NamesOnce}
use Rattle.kc_text.specs.Forms.{all_said}
use Rattle.kc_text.specs.Meaning.{Told, Means, Refuses, batches, ends_or, meaning, name_same, nothing_told, or_else, passed_limit, reading, refusal, unfit}
use Rattle.kc_text.specs.Meaning.{with_line}
use Rattle.kc_text.specs.NamedOnce.{Cause, Ends, IsRefused, NamesAgain, Tells, cause_of, cause_or, ends_at, strict_meaning, strict_reading}
use Rattle.kc_text.specs.NamedOnce.{was_named}
use Rattle.kc_text.specs.Overruling.{deciding, overruled}
use Rattle.kc_text.specs.declared.limits.Limits.{Limits}
use Rattle.kc_text.proofs.Overruled.{none-at, once-deciding, once-overruled}
use Rattle.kc_text.proofs.WithinLimits.{both_none}

-- an empty batch names no pair twice
once-nil : NamesOnce []
once-nil = λ i j d l m. absurd (omega arith)

-- a batch that names no pair twice names none twice with one change more whose pair was not named
once-push : (batch : List ChangeLine) (c : ChangeLine) → NamesOnce batch → list_any (name_same c) batch ≡ false → NamesOnce (batch ++ c ∷ [])
once-push batch c once none = all_pairs_push (λ c d. name_same d c ≡ false) batch c once (λ k d l. none-at (name_same c) batch none k d l)

-- a batch that names no pair twice names none twice without its last change
once-front : (batch : List ChangeLine) (c : ChangeLine) → NamesOnce (batch ++ c ∷ []) → NamesOnce batch
once-front batch c h = λ i j d l m.
    let more = length-append batch (c ∷ []) in
    let at_i = get_or_append_left batch (c ∷ []) d i (omega arith) in
    let at_j = get_or_append_left batch (c ∷ []) d j m in
    subst (λ e. name_same (get_or batch j d) e ≡ false) at_i (subst (λ e. name_same e (get_or (batch ++ c ∷ []) i d) ≡ false) at_j (h i j d l (omega arith)))

-- in a batch that names no pair twice, the pair of the last change was not named before
once-end : (batch : List ChangeLine) (c : ChangeLine) → NamesOnce (batch ++ c ∷ []) → list_any (name_same c) batch ≡ false
once-end batch c h = list_any_none (name_same c) batch (λ i d l.
    let more = length-append batch (c ∷ []) in
    let at_i = get_or_append_left batch (c ∷ []) d i l in
    let at_end = get_or-append_seam batch c [] d in
    subst (λ e. name_same c e ≡ false) at_i (subst (λ e. name_same e (get_or (batch ++ c ∷ []) i d) ≡ false) at_end (h i (length batch) d l (omega arith))))

-- no batch names a pair twice
abbrev Once : Told → Type 0
Once told = All NamesOnce (batches told)

-- no batch names a pair twice after a change that fits and whose pair the last batch had not named
once-after_change : (earlier : List (List ChangeLine)) (last : Option (List ChangeLine)) (c : ChangeLine) → unfit last c ≡ None → was_named last c ≡ false
    → All NamesOnce (earlier ++ option_to_list last) → All NamesOnce (earlier ++ (unwrap_or last [] ++ c ∷ []) ∷ [])
once-after_change earlier None c fit new once = absurd (let e : Some UpdateOutsideBatch ≡ None = fit in cc)
once-after_change earlier (Some batch) c fit new once =
    All-append NamesOnce earlier ((batch ++ c ∷ []) ∷ []) (All-front NamesOnce earlier (batch ∷ []) once)
    (All-cons NamesOnce (batch ++ c ∷ []) [] (once-push batch c (All-end NamesOnce earlier batch once) new) (All-nil NamesOnce))

-- where no batch names a pair twice after a change, none did before it
once-before_change : (earlier : List (List ChangeLine)) (last : Option (List ChangeLine)) (c : ChangeLine)
    → All NamesOnce (earlier ++ (unwrap_or last [] ++ c ∷ []) ∷ [])
    → All NamesOnce (earlier ++ option_to_list last)
once-before_change earlier None c h = All-append NamesOnce earlier [] (All-front NamesOnce earlier ((c ∷ []) ∷ []) h) (All-nil NamesOnce)
once-before_change earlier (Some batch) c h =
    All-append NamesOnce earlier (batch ∷ []) (All-front NamesOnce earlier ((batch ++ c ∷ []) ∷ []) h)
    (All-cons NamesOnce batch [] (once-front batch c (All-end NamesOnce earlier (batch ++ c ∷ []) h)) (All-nil NamesOnce))

-- where no batch names a pair twice after a change, the last batch had not named its pair
new-before_change : (earlier : List (List ChangeLine)) (last : Option (List ChangeLine)) (c : ChangeLine)
    → All NamesOnce (earlier ++ (unwrap_or last [] ++ c ∷ []) ∷ [])
    → was_named last c ≡ false
new-before_change earlier None c h = refl
new-before_change earlier (Some batch) c h = once-end batch c (All-end NamesOnce earlier (batch ++ c ∷ []) h)

-- no batch names a pair twice before a line if none does after it
once-before : (told : Told) (line : TextLine) → Once (with_line told line) → Once told
once-before told said.Nothing h = h
once-before told (said.Edge a b) h = h
once-before told said.Batch h = All-front NamesOnce (batches told) ([] ∷ []) h
once-before told (said.Change c) h = once-before_change told.earlier told.last c h
once-before told (said.Wrong kind) h = h

-- there is no refusal where it gives no cause to end
none-of : (kind : Option Kind) → option_map IsRefused kind ≡ None → kind ≡ None
none-of (Some kind) h = absurd (cc)
none-of None h = refl

-- a change that doesn't end the reading fits, names a new pair and passes no limit
record Goes (limits : Limits) (told : Told) (c : ChangeLine) : Type 0 where
  fit : unfit told.last c ≡ None
  new : was_named told.last c ≡ false
  within : passed_limit limits (with_line told (said.Change c)) ≡ None

-- where no check gives a cause, the change fits, its pair is new and no limit is passed
goes-parts : (fit : Option Kind) (again : Bool) (limit : Option Kind) → cause_or (option_map IsRefused fit)
    (cond again (Some NamesAgain) (option_map IsRefused limit)) ≡ None → (fit ≡ None) × (again ≡ false) × (limit ≡ None)
goes-parts (Some kind) again limit h = absurd (cc)
goes-parts None true limit h = absurd (cc)
goes-parts None false limit h = (refl, refl, none-of limit h)

-- a change that gives no cause to end the reading goes on
change-goes_on : (limits : Limits) (told : Told) (c : ChangeLine) → cause_of limits told (said.Change c) ≡ None → Goes limits told c
change-goes_on limits told c h =
    let (fit, new, within) = goes-parts (unfit told.last c) (was_named told.last c) (passed_limit limits (with_line told (said.Change c))) h in
    record { fit = fit; new = new; within = within }

-- a line that doesn't end the reading is not refused, and names no pair again
not-refused : (limits : Limits) (told : Told) (line : TextLine) → cause_of limits told line ≡ None → refusal limits told line ≡ None
not-refused limits told said.Nothing h = refl
not-refused limits told (said.Edge a b) h = none-of (refusal limits told (said.Edge a b)) h
not-refused limits told said.Batch h = none-of (refusal limits told said.Batch) h
not-refused limits told (said.Change c) h = let g = change-goes_on limits told c h in
    ap (λ r. or_else r (passed_limit limits (with_line told (said.Change c)))) g.fit ∙ g.within
not-refused limits told (said.Wrong kind) h = absurd (cc)

-- after a line that doesn't end the reading, no batch names a pair twice if none did before
once-after : (limits : Limits) (told : Told) (line : TextLine) → cause_of limits told line ≡ None → Once told → Once (with_line told line)
once-after limits told said.Nothing h once = once
once-after limits told (said.Edge a b) h once = once
once-after limits told said.Batch h once = All-append NamesOnce (batches told) ([] ∷ []) once (All-cons NamesOnce [] [] once-nil (All-nil NamesOnce))
once-after limits told (said.Change c) h once = let g = change-goes_on limits told c h in once-after_change told.earlier told.last c g.fit g.new once
once-after limits told (said.Wrong kind) h once = once

-- a line that is not refused goes on if no batch names a pair twice with it
goes-on : (limits : Limits) (told : Told) (line : TextLine) → refusal limits told line ≡ None → Once (with_line told line) → cause_of limits told line ≡ None
goes-on limits told said.Nothing h once = refl
goes-on limits told (said.Edge a b) h once = ap (option_map IsRefused) h
goes-on limits told said.Batch h once = ap (option_map IsRefused) h
goes-on limits told (said.Change c) h once =
    let (fit, within) = both_none (unfit told.last c) (passed_limit limits (with_line told (said.Change c))) h in
    ap (λ r. cause_or (option_map IsRefused r) (cond (was_named told.last c) (Some NamesAgain)
    (option_map IsRefused (passed_limit limits (with_line told (said.Change c)))))) fit
    ∙ (ap (λ b. cond b (Some NamesAgain) (option_map IsRefused (passed_limit limits (with_line told (said.Change c)))))
    (new-before_change told.earlier told.last c once) ∙ ap (option_map IsRefused) within)
goes-on limits told (said.Wrong kind) h once = absurd (cc)

-- what the lines tell by the stricter rule they mean, and no batch names a pair twice
from-strict : (limits : Limits) (done : ℕ) (told : Told) (lines : List TextLine) (all : Told) → Once told → strict_reading limits done told lines ≡ Tells all
    → (reading limits done told lines ≡ Means all) × Once all
from-strict limits done told [] all once h = let same : told ≡ all = cc in (ap Means same, subst Once same once)
from-strict limits done told (line ∷ rest) all once h =
    elim (cause_of limits told line) as (λ r. cause_of limits told line ≡ r
    → ends_at r (done + 1) (strict_reading limits (done + 1) (with_line told line) rest) ≡ Tells all
    → (ends_or (refusal limits told line) (done + 1) (reading limits (done + 1) (with_line told line) rest) ≡ Means all) × Once all) [
      | Some cause ↦ λ _ e. absurd (cc)
      | None ↦ λ none e.
          let (means, once') = from-strict limits (done + 1) (with_line told line) rest all (once-after limits told line none once) e in
          (ap (λ r. ends_or r (done + 1) (reading limits (done + 1) (with_line told line) rest)) (not-refused limits told line none) ∙ means, once')
    ] refl h

-- the other way round: what they mean they tell by the stricter rule, if no batch names a pair twice
to-strict : (limits : Limits) (done : ℕ) (told : Told) (lines : List TextLine) (all : Told) → reading limits done told lines ≡ Means all → Once all
    → (strict_reading limits done told lines ≡ Tells all) × Once told
to-strict limits done told [] all h once = let same : told ≡ all = cc in (ap Tells same, subst Once (sym same) once)
to-strict limits done told (line ∷ rest) all h once =
    elim (refusal limits told line) as (λ r. refusal limits told line ≡ r
    → ends_or r (done + 1) (reading limits (done + 1) (with_line told line) rest) ≡ Means all
    → (ends_at (cause_of limits told line) (done + 1) (strict_reading limits (done + 1) (with_line told line) rest) ≡ Tells all) × Once told) [
      | Some kind ↦ λ _ e. absurd (cc)
      | None ↦ λ none e.
          let (tells, once') = to-strict limits (done + 1) (with_line told line) rest all e once in (
            ap (λ r. ends_at r (done + 1) (strict_reading limits (done + 1) (with_line told line) rest)) (goes-on limits told line none once')
                ∙ tells,
            once-before told line once',
          )
    ] refl h

-- a refusal among the causes by the stricter rule is the first refusal by the other rule
refused-parts : (fit : Option Kind) (again : Bool) (limit : Option Kind) (kind : Kind)
    → cause_or (option_map IsRefused fit) (cond again (Some NamesAgain) (option_map IsRefused limit)) ≡ Some (IsRefused kind)
    → or_else fit limit ≡ Some kind
refused-parts (Some k) again limit kind h = cc
refused-parts None true limit kind h = absurd (cc)
refused-parts None false (Some k) kind h = cc
refused-parts None false None kind h = absurd (cc)

-- a refusal that is the cause is the refusal that was found
refused-of : (found : Option Kind) (kind : Kind) → option_map IsRefused found ≡ Some (IsRefused kind) → found ≡ Some kind
refused-of (Some k) kind h = cc
refused-of None kind h = absurd (cc)

-- a line that is refused by the stricter rule is refused for the same
same-refusal : (limits : Limits) (told : Told) (line : TextLine) (kind : Kind) → cause_of limits told line ≡ Some (IsRefused kind)
    → refusal limits told line ≡ Some kind
same-refusal limits told said.Nothing kind h = absurd (cc)
same-refusal limits told (said.Edge a b) kind h = refused-of (refusal limits told (said.Edge a b)) kind h
same-refusal limits told said.Batch kind h = refused-of (refusal limits told said.Batch) kind h
same-refusal limits told (said.Change c) kind h =
    refused-parts (unfit told.last c) (was_named told.last c) (passed_limit limits (with_line told (said.Change c))) kind h
same-refusal limits told (said.Wrong k) kind h = cc

-- lines whose reading a refusal ends by the stricter rule are refused there for the same
refused-strict : (limits : Limits) (done : ℕ) (told : Told) (lines : List TextLine) (at : ℕ) (kind : Kind)
    → strict_reading limits done told lines ≡ Ends at (IsRefused kind)
    → reading limits done told lines ≡ Refuses at kind
refused-strict limits done told [] at kind h = absurd (cc)
refused-strict limits done told (line ∷ rest) at kind h =
    elim (cause_of limits told line) as (λ r. cause_of limits told line ≡ r
    → ends_at r (done + 1) (strict_reading limits (done + 1) (with_line told line) rest) ≡ Ends at
    (IsRefused kind)
    → ends_or (refusal limits told line) (done + 1) (reading limits (done + 1) (with_line told line) rest) ≡ Refuses at kind) [
      | Some cause ↦ λ some e.
          let here : done + 1 ≡ at = cc in
          let why : cause ≡ IsRefused kind = cc in
          ap (λ r. ends_or r (done + 1) (reading limits (done + 1) (with_line told line) rest))
          (same-refusal limits told line kind (some ∙ ap (λ (cause : Cause). Some cause) why)) ∙ ap (λ n. Refuses n kind) here
      | None ↦ λ none e.
          ap (λ r. ends_or r (done + 1) (reading limits (done + 1) (with_line told line) rest)) (not-refused limits told line none)
          ∙ refused-strict limits (done + 1) (with_line told line) rest at kind e
    ] refl h

-- a text tells by the stricter rule just what it means, where no batch names a pair twice
pub same-strict : (limits : Limits) (bytes : List ℕ) (told : Told)
    → (strict_meaning limits bytes ≡ Tells told) ↔ ((meaning limits bytes ≡ Means told) × All NamesOnce (batches told))
same-strict limits bytes told = elim (nat_lt limits.bytes (length bytes)) as
    (λ b. (cond b (Ends 0 (IsRefused TooLong)) (strict_reading limits 0 nothing_told (all_said bytes)) ≡ Tells told)
    ↔ ((cond b (Refuses 0 TooLong) (reading limits 0 nothing_told (all_said bytes)) ≡ Means told) × All NamesOnce (batches told))) [
      | true ↦ (λ e. absurd (cc), λ both. let e = both.0 in absurd (cc))
      | false ↦ (
        λ e. from-strict limits 0 nothing_told (all_said bytes) told (All-nil NamesOnce) e,
        λ both.
            (to-strict limits 0 nothing_told (all_said bytes) told both.0 both.1).0,
      )
    ]

-- a text that is refused by the stricter rule is refused at the same line for the same
pub same-refused : (limits : Limits) (bytes : List ℕ) (line : ℕ) (kind : Kind) → strict_meaning limits bytes ≡ Ends line (IsRefused kind)
    → meaning limits bytes ≡ Refuses line kind
same-refused limits bytes line kind = elim (nat_lt limits.bytes (length bytes)) as
    (λ b. cond b (Ends 0 (IsRefused TooLong)) (strict_reading limits 0 nothing_told (all_said bytes)) ≡ Ends line (IsRefused kind)
    → cond b (Refuses 0 TooLong) (reading limits 0 nothing_told (all_said bytes)) ≡ Refuses line kind) [
      | true ↦ λ e. let here : 0 ≡ line = cc in let why : TooLong ≡ kind = cc in cc
      | false ↦ λ e. refused-strict limits 0 nothing_told (all_said bytes) line kind e
    ]

-- where a text tells something by the stricter rule, all changes decide, and none is overruled
pub all-decide : (limits : Limits) (bytes : List ℕ) (told : Told) → strict_meaning limits bytes ≡ Tells told
    → All (λ batch. (deciding batch ≡ batch) × (overruled batch ≡ 0)) (batches told)
all-decide limits bytes told h = λ i d l.
    let once = ((same-strict limits bytes told).0 h).1 i d l in
    (once-deciding (get_or (batches told) i d) once, once-overruled (get_or (batches told) i d) once)
