-- A text that means a graph has no byte order mark in front.
use Rattle.std.proofs.Common.{◌≡◌, ◌∙◌, ◌-◌, ℕ, suc, Bool, List, [], ◌∷◌, length, map, take, drop, refl, sym, ap, subst, arith, inl, inr, cond}
use Rattle.std.proofs.Common.{◌&&◌, ◌==◌, eqb-true, lt-ltb, nat_lt}
use Rattle.std.specs.Prelude.{slice_index}
use Rattle.std.specs.List.{onto_first, slice_split}
use Rattle.std.specs.Str.Lines.{strip_carriage_return}
use Rattle.std.proofs.lemmas.Bool.{cases_Bool, and_parts}
use Rattle.kc_text.specs.declared.kind.Kind.TheVariants.{NotANumber, TooLong}
use Rattle.kc_text.specs.declared.limits.TheConstants.Limits.{GRAPH}
use Rattle.kc_text.specs.declared.line.TextLine.{TextLine}
use Rattle.kc_text.specs.declared.line.TextLine.TheVariants.{Wrong}
use Rattle.kc_text.specs.Forms.{all_said, said_by}
use Rattle.kc_text.specs.Lines.{is_newline, lines, without_last}
use Rattle.kc_text.specs.Meaning.{Means, Refuses, Told, meaning, nothing_told, reading}
use Rattle.kc_dialect.specs.Dialects.{without_mark}
use Rattle.kc_dialect.proofs.PlainDialect.{marked-wrong}

-- a carriage return that goes leaves the first byte
strip-front : (line : List ℕ) → (rest : List ℕ) × (strip_carriage_return (239 ∷ line) ≡ 239 ∷ rest)
strip-front [] = ([], refl)
strip-front (y ∷ ys) =
    let whole : List ℕ = 239 ∷ y ∷ ys in
    let n : length whole - 1 ≡ suc (length ys) = omega arith in
    elim (cases_Bool (slice_index whole (length whole - 1) == 13)) [
      | inl t ↦ (take (length ys) (y ∷ ys), ap (λ b. cond b (take (length whole - 1) whole) whole) t ∙ ap (λ k. take k whole) n)
      | inr f ↦ (y ∷ ys, ap (λ b. cond b (take (length whole - 1) whole) whole) f)
    ]

-- the first line of a text is that of its first part
first-line : (parts : List (List ℕ))
    → (line : List ℕ) × (more : List (List ℕ)) × (map strip_carriage_return (without_last (onto_first 239 parts)) ≡ (239 ∷ line) ∷ more)
first-line [] = ([], [], refl)
first-line (part ∷ []) =
    let (line, is) = strip-front part in
    (line, [], ap (λ b. map strip_carriage_return (cond b ((239 ∷ part) ∷ []) [])) (lt-ltb 0 (length (239 ∷ part)) (omega arith)) ∙ ap (λ l. l ∷ []) is)
first-line (part ∷ next ∷ more) =
    let (line, is) = strip-front part in
    (line, map strip_carriage_return (without_last (next ∷ more)), ap (λ l. l ∷ map strip_carriage_return (without_last (next ∷ more))) is)

-- a text whose first line is wrong means no graph
wrong-first : (lines : List TextLine) (told : Told) → reading GRAPH 0 nothing_told (Wrong NotANumber ∷ lines) ≡ Means told → ⊥
wrong-first lines told e = cc

-- a text that is too long means no graph
long-refused : (told : Told) → Refuses 0 TooLong ≡ Means told → ⊥
long-refused told e = cc

-- a text that begins with the first byte of a mark means no graph
refuses : (bytes : List ℕ) (told : Told) → meaning GRAPH (239 ∷ bytes) ≡ Means told → ⊥
refuses bytes told e =
    let (line, more, is) = first-line (slice_split is_newline bytes) in
    let said : all_said (239 ∷ bytes) ≡ Wrong NotANumber ∷ map said_by more =
    ap (λ ls. map said_by ls) is ∙ ap (λ t. t ∷ map said_by more) (marked-wrong line) in
    elim (cases_Bool (nat_lt GRAPH.bytes (length (239 ∷ bytes)))) [
      | inl long ↦ long-refused told (sym (ap (λ b. cond b (Refuses 0 TooLong) (reading GRAPH 0 nothing_told (all_said (239 ∷ bytes)))) long) ∙ e)
      | inr fits ↦
          wrong-first (map said_by more) told
          (sym (ap (λ b. cond b (Refuses 0 TooLong) (reading GRAPH 0 nothing_told (all_said (239 ∷ bytes)))) fits
          ∙ ap (λ ls. reading GRAPH 0 nothing_told ls) said) ∙ e)
    ]

-- so a text that means a graph has no mark
pub unmarked : (text : List ℕ) (told : Told) → meaning GRAPH text ≡ Means told → without_mark text ≡ text
unmarked [] told e = refl
unmarked (x ∷ xs) told e =
    let rest : Bool = slice_index (x ∷ xs) 1 == 187 && slice_index (x ∷ xs) 2 == 191 in
    elim (cases_Bool (x == 239 && rest)) [
      | inl m ↦
          absurd (refuses xs told (subst (λ b. meaning GRAPH (b ∷ xs) ≡ Means told) (eqb-true x 239 (and_parts (x == 239) rest m).0) e))
      | inr m ↦ ap (λ b. cond b (drop 3 (x ∷ xs)) (x ∷ xs)) m
    ]
