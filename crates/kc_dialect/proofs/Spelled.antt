-- What the plain text of a text in a dialect says.
use Rattle.std.proofs.Common.{◌≡◌, ◌+◌, ℕ, List, [], ◌∷◌, ◌++◌, length, refl, sym, ap, ◌∙◌, inl, inr, cond, append_assoc}
use Rattle.std.proofs.Common.{Option, Some, None, Result, Ok, Err, nat_le, nat_lt, ◌&&◌, ◌==◌}
use Rattle.std.proofs.lemmas.Bool.{cases_Bool}
use Rattle.std.specs.List.{list_all}
use Rattle.kc_text.specs.declared.kind.Kind.{Kind}
use Rattle.kc_text.specs.declared.kind.Kind.TheVariants.{NotANumber, NumberTooLarge}
use Rattle.kc_text.specs.declared.line.TextLine.{TextLine}
use Rattle.kc_text.specs.declared.line.TextLine.TheVariants.{Nothing}
use Rattle.kc_text.specs.Forms.{all_said, is_digit, number, value}
use Rattle.kc_text.specs.Lines.{is_not_empty, fields}
use Rattle.kc_text.specs.Plain.{BeginsWithPair}
use Rattle.kc_text.proofs.PlainLines.{said-edge}
use Rattle.kc_text.proofs.SaidAppend.{said-append}
use Rattle.kc_dialect.specs.declared.bad_line.BadField.{BadField}
use Rattle.kc_dialect.specs.declared.dialect.Dialect.{Dialect}
use Rattle.kc_dialect.specs.declared.dialect.Ids.{Ids}
use Rattle.kc_dialect.specs.declared.dialect.Ids.TheVariants.{Numbers}
use Rattle.kc_dialect.specs.Columns.{checked, checked_in, fields_in, id_in_column, in_column}
use Rattle.kc_dialect.specs.Dialects.{both, said_after, pair_in, plain_line, plain_lines, says_nothing, without_mark}
use Rattle.kc_dialect.specs.Sayings.{saying, sayings}

-- what spells a number spells its value
pub spells-value : (digits : List ℕ) (n : ℕ) → number digits ≡ Ok n → number digits ≡ Ok (value digits)
spells-value digits n e =
    let top : Result ℕ Kind = cond (nat_le (value digits) 4294967295) (Ok (value digits)) (Err NumberTooLarge) in
    elim (cases_Bool (list_all is_digit digits && is_not_empty digits)) [
      | inl h ↦ elim (cases_Bool (nat_le (value digits) 4294967295)) [
        | inl k ↦ ap (λ b. cond b top (Err NotANumber)) h ∙ ap (λ b. cond b (Ok (value digits)) (Err NumberTooLarge)) k
        | inr k ↦
            let wrong : number digits ≡ Err NumberTooLarge =
            ap (λ b. cond b top (Err NotANumber)) h ∙ ap (λ b. cond b (Ok (value digits)) (Err NumberTooLarge)) k in
            absurd (cc)
      ]
      | inr h ↦ let wrong : number digits ≡ Err NotANumber = ap (λ b. cond b top (Err NotANumber)) h in absurd (cc)
    ]

-- a field that is taken spells a number
checked-spells : (field : ℕ × List ℕ) (found : Result ℕ Kind) (digits : List ℕ) → found ≡ number field.1 → checked field found ≡ Ok digits
    → number digits ≡ Ok (value digits)
checked-spells field (Ok n) digits is e =
    let same : field.1 ≡ digits = cc in
    spells-value digits n (ap number (sym same) ∙ sym is)
checked-spells field (Err kind) digits is e = absurd (cc)

-- so does the number in a column
numbered-spells : (end : ℕ) (field : Option (ℕ × List ℕ)) (digits : List ℕ) → checked_in end field ≡ Ok digits → number digits ≡ Ok (value digits)
numbered-spells end None digits e = absurd (cc)
numbered-spells end (Some field) digits e = checked-spells field (number field.1) digits refl e

-- both numbers of a line are those of its columns
both-parts : (first second : Result (List ℕ) BadField) (pair : List ℕ × List ℕ) → both first second ≡ Ok (Some pair)
    → (first ≡ Ok pair.0) × (second ≡ Ok pair.1)
both-parts (Err bad) second pair e = absurd (cc)
both-parts (Ok a) (Err bad) pair e = absurd (cc)
both-parts (Ok a) (Ok b) pair e =
    let same : (a, b) ≡ pair = cc in
    (ap (λ (p : List ℕ × List ℕ). Ok p.0) same, ap (λ (p : List ℕ × List ℕ). Ok p.1) same)

-- both numbers of a line are spelled
abbrev Spelled : Result (Option (List ℕ × List ℕ)) BadField → Type 0
Spelled said = (pair : List ℕ × List ℕ) → said ≡ Ok (Some pair) → (number pair.0 ≡ Ok (value pair.0)) × (number pair.1 ≡ Ok (value pair.1))

-- so is the id in a column, where ids are numbers
id-spells : (d : Dialect) (column : ℕ) (line digits : List ℕ) → d.ids ≡ Numbers → id_in_column d.ids d.separator column line ≡ Ok digits
    → number digits ≡ Ok (value digits)
id-spells d column line digits numbers e =
    numbered-spells (length line) (in_column column (fields_in d.separator line)) digits
    (sym (ap (λ (t : Ids). id_in_column t d.separator column line) numbers) ∙ e)

-- so are those of a line
pair-spelled : (d : Dialect) (line : List ℕ) → d.ids ≡ Numbers → Spelled (pair_in d line)
pair-spelled d line numbers pair e =
    let first : Result (List ℕ) BadField = id_in_column d.ids d.separator d.columns.0 line in
    let second : Result (List ℕ) BadField = id_in_column d.ids d.separator d.columns.1 line in
    elim (cases_Bool (says_nothing (fields line))) [
      | inl h ↦ let none : pair_in d line ≡ Ok None = ap (λ b. cond b (Ok None) (both first second)) h in absurd (cc)
      | inr h ↦
          let is : pair_in d line ≡ both first second = ap (λ b. cond b (Ok None) (both first second)) h in
          let (p, q) = both-parts first second pair (sym is ∙ e) in (
            id-spells d d.columns.0 line pair.0 numbers p,
            id-spells d d.columns.1 line pair.1 numbers q,
          )
    ]

-- and those of a line behind others
after-spelled : (d : Dialect) (n : ℕ) (line : List ℕ) → d.ids ≡ Numbers → Spelled (said_after d n line)
after-spelled d n line numbers pair e =
    let bytes : List ℕ = cond (n == 0) (without_mark line) line in
    elim (cases_Bool (nat_lt n d.skip)) [
      | inl h ↦ let none : said_after d n line ≡ Ok None = ap (λ b. cond b (Ok None) (pair_in d bytes)) h in absurd (cc)
      | inr h ↦ pair-spelled d bytes numbers pair (sym (ap (λ b. cond b (Ok None) (pair_in d bytes)) h) ∙ e)
    ]

-- an empty line says nothing
said-empty : (rest : List ℕ) → all_said (10 ∷ rest) ≡ Nothing ∷ all_said rest
said-empty rest = said-append (10 ∷ []) rest (inr ([], refl))

-- the plain line of a line says what the line does, and the rest follows
said-plain : (said : Result (Option (List ℕ × List ℕ)) BadField) (rest : List ℕ) → Spelled said
    → all_said (plain_line said ++ rest) ≡ saying said ∷ all_said rest
said-plain (Ok None) rest h = said-empty rest
said-plain (Err bad) rest h = said-empty rest
said-plain (Ok (Some pair)) rest h =
    let (p, q) = h pair refl in
    let whole : List ℕ = pair.0 ++ 32 ∷ (pair.1 ++ 10 ∷ rest) in
    let begins : BeginsWithPair whole (value pair.0) (value pair.1) rest = record {
      first = pair.0;
      blank = 32;
      second = pair.1;
      whole = refl;
      parted = refl;
      spells_a = p;
      spells_b = q;
    } in
    ap all_said (append_assoc pair.0 (32 ∷ (pair.1 ++ 10 ∷ [])) rest ∙ ap (λ (t : List ℕ). pair.0 ++ 32 ∷ t) (append_assoc pair.1 (10 ∷ []) rest))
    ∙ said-edge whole (value pair.0) (value pair.1) rest begins

-- plain lines say what the lines do
pub said-lines : (d : Dialect) (n : ℕ) (ls : List (List ℕ)) → d.ids ≡ Numbers → all_said (plain_lines d n ls) ≡ sayings d n ls
said-lines d n [] numbers = refl
said-lines d n (line ∷ rest) numbers =
    said-plain (said_after d n line) (plain_lines d (n + 1) rest) (after-spelled d n line numbers)
    ∙ ap (λ (t : List TextLine). saying (said_after d n line) ∷ t) (said-lines d (n + 1) rest numbers)
