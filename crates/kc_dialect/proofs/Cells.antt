-- The fields of a line, one after another.
use Rattle.std.proofs.Common.{◌≡◌, ◌<◌, ◌+◌, ◌-◌, ℕ, zero, suc, true, false, cond, List, [], ◌∷◌, length, map, refl, ap, ◌∙◌, arith, Bor}
use Rattle.std.proofs.Common.{Option, Some, None}
use Rattle.std.specs.Prelude.{MatchOption}
use Rattle.std.specs.List.{filter}
use Rattle.kc_dialect.specs.declared.dialect.Separator.{Separator}
use Rattle.kc_dialect.specs.Columns.{field_of, fields_from, in_column, is_field, parts, placed_parts}

-- the parts of what is left of a line, if anything is
abbrev pub parts_left : Separator → Option (List ℕ) → List (List ℕ)
parts_left separator None = []
parts_left separator (Some bytes) = parts separator false bytes

-- its fields, behind so many bytes
abbrev pub fields_left : Separator → ℕ → Option (List ℕ) → List (ℕ × List ℕ)
fields_left separator before left = fields_from separator before (parts_left separator left)

-- how much is left of a line
abbrev pub left_len : Option (List ℕ) → ℕ
left_len None = 0
left_len (Some bytes) = length bytes + 1

-- the bytes behind a reference, if there is one
abbrev pub seen : Option (Bor (List ℕ)) → Option (List ℕ)
seen None = None
seen (Some bytes) = Some bytes.now

-- a line has the parts that are left behind its first one
pub parts-are : (s : Separator) (bytes part : List ℕ) (rest : Option (Bor (List ℕ)))
    → MatchOption rest (parts s false bytes ≡ part ∷ []) (λ more. parts s false bytes ≡ part ∷ parts s false more.now)
    → parts s false bytes ≡ part ∷ parts_left s (seen rest)
parts-are s bytes part None h = h
parts-are s bytes part (Some more) h = h

-- as much is left as the first part leaves
pub left-len-is : (bytes part : List ℕ) (rest : Option (Bor (List ℕ)))
    → MatchOption rest (length part ≡ length bytes) (λ more. length part + 1 + length more.now ≡ length bytes)
    → length part + 1 + left_len (seen rest) ≡ length bytes + 1
left-len-is bytes part None h = omega (arith, h)
left-len-is bytes part (Some more) h = omega (arith, h)

-- a part that is a field comes before the fields of the others
pub field-first : (s : Separator) (before : ℕ) (part : List ℕ) (rest : List (List ℕ)) → is_field s part ≡ true
    → fields_from s before (part ∷ rest) ≡ field_of s (before, part) ∷ fields_from s (before + length part + 1) rest
field-first s before part rest h =
    let more : List (ℕ × List ℕ) = filter (λ (cell : ℕ × List ℕ). is_field s cell.1) (placed_parts (before + length part + 1) rest) in
    ap (λ b. map (field_of s) (cond b ((before, part) ∷ more) more)) h

-- a part that is no field is passed over
field-none : (s : Separator) (before : ℕ) (part : List ℕ) (rest : List (List ℕ)) → is_field s part ≡ false
    → fields_from s before (part ∷ rest) ≡ fields_from s (before + length part + 1) rest
field-none s before part rest h =
    let more : List (ℕ × List ℕ) = filter (λ (cell : ℕ × List ℕ). is_field s cell.1) (placed_parts (before + length part + 1) rest) in
    ap (λ b. map (field_of s) (cond b ((before, part) ∷ more) more)) h

-- no field is in the column 0
pub in-zero : (fields : List (ℕ × List ℕ)) → in_column 0 fields ≡ None
in-zero [] = refl
in-zero (field ∷ fields) = refl

-- a later column is one less behind the first field
in-later : (n : ℕ) (field : ℕ × List ℕ) (fields : List (ℕ × List ℕ)) → 1 < n → in_column n (field ∷ fields) ≡ in_column (n - 1) fields
in-later zero field fields l = absurd (omega arith)
in-later (suc zero) field fields l = absurd (omega arith)
in-later (suc (suc n)) field fields l = ap (λ k. in_column k fields) (let e : suc n ≡ suc (suc n) - 1 = omega arith in e)

-- a field is passed on the way to a later column
pub pass-field : (s : Separator) (before column : ℕ) (bytes part : List ℕ) (left : Option (List ℕ)) → parts s false bytes ≡ part ∷ parts_left s left
    → is_field s part ≡ true → 1 < column
    → in_column column (fields_left s before (Some bytes)) ≡ in_column (column - 1) (fields_left s (before + (length part + 1)) left)
pass-field s before column bytes part left cut h l =
    ap (λ t. in_column column (fields_from s before t)) cut ∙ ap (in_column column) (field-first s before part (parts_left s left) h)
    ∙ in-later column (field_of s (before, part)) (fields_from s (before + length part + 1) (parts_left s left)) l
    ∙ ap (λ k. in_column (column - 1) (fields_from s k (parts_left s left))) (let e : before + length part + 1 ≡ before + (length part + 1) = omega arith in e)

-- a part is passed that is no field
pub pass-part : (s : Separator) (before column : ℕ) (bytes part : List ℕ) (left : Option (List ℕ)) → parts s false bytes ≡ part ∷ parts_left s left
    → is_field s part ≡ false
    → in_column column (fields_left s before (Some bytes)) ≡ in_column column (fields_left s (before + (length part + 1)) left)
pass-part s before column bytes part left cut h =
    ap (λ t. in_column column (fields_from s before t)) cut ∙ ap (in_column column) (field-none s before part (parts_left s left) h)
    ∙ ap (λ k. in_column column (fields_from s k (parts_left s left))) (let e : before + length part + 1 ≡ before + (length part + 1) = omega arith in e)

-- the first field is in the column 1
pub this-field : (s : Separator) (before : ℕ) (bytes part : List ℕ) (left : Option (List ℕ)) → parts s false bytes ≡ part ∷ parts_left s left
    → is_field s part ≡ true → in_column 1 (fields_left s before (Some bytes)) ≡ Some (field_of s (before, part))
this-field s before bytes part left cut h =
    ap (λ t. in_column 1 (fields_from s before t)) cut ∙ ap (in_column 1) (field-first s before part (parts_left s left) h)
