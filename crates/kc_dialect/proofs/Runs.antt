-- What plain lines are in a dialect of the first two columns.
use Rattle.std.proofs.Common.{◌≡◌, ◌≤◌, ◌<◌, ◌+◌, ◌-◌, ◌*◌, ◌^◌, ◌==◌, ◌&&◌, ◌||◌, ℕ, suc, Bool, true, false, not, cond, List, [], ◌∷◌, ◌++◌}
use Rattle.std.proofs.Common.{length, map, take, drop}
use Rattle.std.proofs.Common.{refl, sym, ap, subst, ◌∙◌, arith, inl, inr, append_assoc, append-nil, length-append, Result, Ok, Option, Some, None}
use Rattle.std.proofs.Common.{eqb-true, leb-true, le-ltb, lt-ltb, nat_le, nat_lt, length-drop, take-append-drop}
use Rattle.std.specs.Prelude.{All, slice_index}
use Rattle.std.specs.List.{fold, list_all, onto_first, position_or_len, prefix_len, suffix_len}
use Rattle.std.specs.Str.Lines.{strip_carriage_return}
use Rattle.std.proofs.Math.Nat.{mul-le-mul_right, pow-le-pow_right}
use Rattle.std.proofs.lemmas.Bool.{and_left, and_parts, and_right, cases_Bool, ne_eqb, or_cases}
use Rattle.std.proofs.lemmas.List.{drop-drop, drop-take, drop_at, map-append, take-take, take_all, take_at}
use Rattle.std.proofs.lemmas.List.Elements.{All-append, All-cons, All-nil}
use Rattle.std.proofs.lemmas.List.Splits.{slice_split_none}
use Rattle.std.proofs.lemmas.List.Sums.{suffix_len_is}
use Rattle.kc_text.specs.Forms.{is_comment, is_digit, number, value}
use Rattle.kc_text.specs.Lines.{fields, is_blank, is_newline, lines}
use Rattle.kc_text.proofs.FieldCuts.{fields-first}
use Rattle.kc_text.proofs.PlainLines.{line-kept, number-is}
use Rattle.kc_text.proofs.SaidAppend.{lines-newline}
use Rattle.kc_dialect.specs.declared.bad_line.BadField.{BadField}
use Rattle.kc_dialect.specs.declared.bad_line.BadLine.{BadLine}
use Rattle.kc_dialect.specs.declared.dialect.Dialect.{Dialect}
use Rattle.kc_dialect.specs.declared.dialect.Ids.{Ids}
use Rattle.kc_dialect.specs.declared.dialect.Ids.TheVariants.{Numbers}
use Rattle.kc_dialect.specs.declared.dialect.Separator.{Separator}
use Rattle.kc_dialect.specs.declared.dialect.Separator.TheVariants.{Blank, Comma, Semicolon, Tab}
use Rattle.kc_dialect.specs.Columns.{field_of, fields_from, fields_in, id_in_column, is_field, is_quote, is_separator, number_in_column, parts, quoted_behind}
use Rattle.kc_dialect.specs.Columns.{is_in_quotes, trimmed, unquoted, without_back_blanks}
use Rattle.kc_dialect.specs.Dialects.{bad_line, bad_lines_after, both, pair_in, plain_line, plain_lines, said_after, says_nothing, without_mark}
use Rattle.kc_dialect.specs.PlainRuns.{AreFewDigits, BeginsPlainly, BeginsWithRun, spaced}
use Rattle.kc_dialect.proofs.Cells.{field-first}
use Rattle.kc_dialect.proofs.LineAppend.{bad-append, plain-append}
use Rattle.kc_dialect.proofs.PlainDialect.{first-column, second-column}

-- a digit lies between the codes of 0 and 9
abbrev IsCode : ℕ → Type 0
IsCode b = (48 ≤ b) × (b ≤ 57)

-- so does each of digits
codes-of : (b : ℕ) → is_digit b ≡ true → IsCode b
codes-of b h = let parts = and_parts (nat_le 48 b) (nat_le b 57) h in (leb-true 48 b parts.0, leb-true b 57 parts.1)

-- a digit is no lower byte
not-low : (b k : ℕ) → IsCode b → k < 48 → (b == k) ≡ false
not-low b k c l = ne_eqb b k (λ e. let from = c.0 in absurd (omega arith))

-- nor a higher one
not-high : (b k : ℕ) → IsCode b → 57 < k → (b == k) ≡ false
not-high b k c l = ne_eqb b k (λ e. let to = c.1 in absurd (omega arith))

-- no digit is a blank
not-blank : (b : ℕ) → IsCode b → is_blank b ≡ false
not-blank b c = ap (λ t. t || (b == 9)) (not-low b 32 c (omega arith)) ∙ not-low b 9 c (omega arith)

-- nor a separator
not-separator : (s : Separator) (b : ℕ) → IsCode b → is_separator s b ≡ false
not-separator Blank b c = not-blank b c
not-separator Comma b c = not-low b 44 c (omega arith)
not-separator Semicolon b c = not-high b 59 c (omega arith)
not-separator Tab b c = not-low b 9 c (omega arith)

-- nor a quote
not-quote : (s : Separator) (b : ℕ) → IsCode b → is_quote s b ≡ false
not-quote Blank b c = refl
not-quote Comma b c = not-low b 34 c (omega arith)
not-quote Semicolon b c = not-low b 34 c (omega arith)
not-quote Tab b c = not-low b 34 c (omega arith)

-- the first of digits, and the others
first-code : (b : ℕ) (ds : List ℕ) → list_all is_digit (b ∷ ds) ≡ true → IsCode b × (list_all is_digit ds ≡ true)
first-code b ds h = let parts = and_parts (is_digit b) (list_all is_digit ds) h in (codes-of b parts.0, parts.1)

-- what holds of each code holds of each of digits
each-code : (P : ℕ → Type 0) → ((b : ℕ) → IsCode b → P b) → (ds : List ℕ) → list_all is_digit ds ≡ true → All P ds
each-code P f [] h = All-nil P
each-code P f (b ∷ ds) h = let (c, more) = first-code b ds h in All-cons P b ds (f b c) (each-code P f ds more)

-- digits behind a value make it at most so much greater
value-below : (ds : List ℕ) (n : ℕ) → list_all is_digit ds ≡ true → fold (λ (k : ℕ) (b : ℕ). 10 * k + (b - 48)) n ds < (n + 1) * 10 ^ length ds
value-below [] n h = omega arith
value-below (b ∷ ds) n h =
    let (c, more) = first-code b ds h in
    let next : ℕ = 10 * n + (b - 48) in
    let m : ℕ = 10 ^ length ds in
    let rest : fold (λ (k : ℕ) (b : ℕ). 10 * k + (b - 48)) next ds < (next + 1) * m = value-below ds next more in
    let step : next + 1 ≤ (n + 1) * 10 = let to = c.1 in omega arith in
    let wide : (next + 1) * m ≤ ((n + 1) * 10) * m = mul-le-mul_right m step in
    let pow : 10 ^ suc (length ds) ≡ 10 * m = grind arith in
    let same : ((n + 1) * 10) * m ≡ (n + 1) * (10 * m) = omega arith in
    subst (λ k. fold (λ (k : ℕ) (b : ℕ). 10 * k + (b - 48)) next ds < (n + 1) * k) (sym pow) (omega (arith, rest, wide, same))

-- few digits spell a number
few-spell : (ds : List ℕ) → AreFewDigits ds → number ds ≡ Ok (value ds)
few-spell ds h =
    let below : value ds < (0 + 1) * 10 ^ length ds = value-below ds 0 h.each in
    let most : 10 ^ length ds ≤ 10 ^ 9 = pow-le-pow_right {n = 10} (omega arith) h.few in
    number-is ds (value ds) h.each h.some refl (omega (arith, below, most))

-- a separator is none of the bytes but these
sep-other : (s : Separator) (b k : ℕ) → (32 ≡ k → ⊥) → (9 ≡ k → ⊥) → (44 ≡ k → ⊥) → (59 ≡ k → ⊥) → is_separator s b ≡ true → (b == k) ≡ false
sep-other Blank b k space tab comma semicolon h = elim (or_cases (b == 32) (b == 9) h) [
  | inl e ↦ ne_eqb b k (λ same. space (sym (eqb-true b 32 e) ∙ same))
  | inr e ↦ ne_eqb b k (λ same. tab (sym (eqb-true b 9 e) ∙ same))
]
sep-other Comma b k space tab comma semicolon h = ne_eqb b k (λ same. comma (sym (eqb-true b 44 h) ∙ same))
sep-other Semicolon b k space tab comma semicolon h = ne_eqb b k (λ same. semicolon (sym (eqb-true b 59 h) ∙ same))
sep-other Tab b k space tab comma semicolon h = ne_eqb b k (λ same. tab (sym (eqb-true b 9 h) ∙ same))

-- what holds of each digit and of the separator holds of each byte of a plain line
of-line : (P : ℕ → Type 0) → ((b : ℕ) → IsCode b → P b) → (first : List ℕ) (part : ℕ) (second : List ℕ) → P part → list_all is_digit first ≡ true
    → list_all is_digit second ≡ true → All P (first ++ part ∷ second)
of-line P f first part second p a b = All-append P first (part ∷ second) (each-code P f first a) (All-cons P part second p (each-code P f second b))

-- a plain line is the first of bytes that begin with it
lines-plain : (s : Separator) (first : List ℕ) (part : ℕ) (second rest : List ℕ) → is_separator s part ≡ true → list_all is_digit first ≡ true
    → list_all is_digit second ≡ true → lines ((first ++ part ∷ second) ++ 10 ∷ rest) ≡ (first ++ part ∷ second) ∷ lines rest
lines-plain s first part second rest h a b =
    let line : List ℕ = first ++ part ∷ second in
    let none : All (λ b. is_newline b ≡ false) line = of-line (λ b. is_newline b ≡ false) (λ b c. not-low b 10 c (omega arith)) first part second
    (sep-other s part 10 (omega arith) (omega arith) (omega arith) (omega arith) h) a b in
    let keeps : All (λ b. (b == 13) ≡ false) line = of-line (λ b. (b == 13) ≡ false) (λ b c. not-low b 13 c (omega arith)) first part second
    (sep-other s part 13 (omega arith) (omega arith) (omega arith) (omega arith) h) a b in
    lines-newline line rest ∙ ap (λ (t : List (List ℕ)). map strip_carriage_return t ++ lines rest) (slice_split_none is_newline line none)
    ∙ ap (λ (t : List ℕ). t ∷ lines rest) (line-kept line (omega (arith, length-append first (part ∷ second))) keeps)

-- digits end no part
parts-digits : (s : Separator) (ds tail part : List ℕ) (more : List (List ℕ)) → list_all is_digit ds ≡ true → parts s false tail ≡ part ∷ more
    → parts s false (ds ++ tail) ≡ (ds ++ part) ∷ more
parts-digits s [] tail part more h e = e
parts-digits s (b ∷ ds) tail part more h e =
    let (c, digits) = first-code b ds h in
    let ys : List ℕ = ds ++ tail in
    ap (λ t. cond (t && true) ([] ∷ parts s false ys) (onto_first b (parts s (quoted_behind s false b) ys))) (not-separator s b c)
    ∙ ap (λ t. onto_first b (parts s (cond t true false) ys)) (not-quote s b c)
    ∙ ap (onto_first b) (parts-digits s ds tail part more digits e)

-- a plain line has two parts
parts-plain : (s : Separator) (first : List ℕ) (part : ℕ) (second : List ℕ) → is_separator s part ≡ true → list_all is_digit first ≡ true
    → list_all is_digit second ≡ true → parts s false (first ++ part ∷ second) ≡ first ∷ second ∷ []
parts-plain s first part second h a b =
    let last : parts s false second ≡ second ∷ [] =
    ap (parts s false) (sym (append-nil second)) ∙ parts-digits s second [] [] [] b refl ∙ ap (λ (t : List ℕ). t ∷ []) (append-nil second) in
    let behind : parts s false (part ∷ second) ≡ [] ∷ second ∷ [] =
    ap (λ t. cond (t && true) ([] ∷ parts s false second) (onto_first part (parts s (quoted_behind s false part) second))) h
    ∙ ap (λ (t : List (List ℕ)). [] ∷ t) last in
    parts-digits s first (part ∷ second) [] (second ∷ []) a behind ∙ ap (λ (t : List ℕ). t ∷ second ∷ []) (append-nil first)

-- nothing is trimmed off digits
trimmed-digits : (n : ℕ) (ds : List ℕ) → AreFewDigits ds → (trimmed (n, ds)).1 ≡ ds
trimmed-digits n [] h = absurd (omega (arith, h.some))
trimmed-digits n (b ∷ ds) h =
    let whole : List ℕ = b ∷ ds in
    let (c, more) = first-code b ds h.each in
    let front : prefix_len is_blank whole ≡ 0 = ap (λ t. cond t (1 + prefix_len is_blank ds) 0) (not-blank b c) in
    let blanks : All (λ b. is_blank b ≡ false) whole = each-code (λ b. is_blank b ≡ false) not-blank whole h.each in
    let back : suffix_len is_blank whole ≡ length whole - length whole = suffix_len_is is_blank whole (length whole) 0 (omega arith)
    (λ k l m. absurd (omega arith)) (λ l. blanks (length whole - 1) 0 (omega arith)) in
    let kept : without_back_blanks whole ≡ whole = ap (λ k. take (length whole - k) whole) back
    ∙ take_all (length whole - (length whole - length whole)) whole (omega arith) in
    let quotes : is_in_quotes whole ≡ false = and_right (nat_lt 1 (length whole)) (b == 34 && slice_index whole (length whole - 1) == 34)
    (and_left (b == 34) (slice_index whole (length whole - 1) == 34) (not-low b 34 c (omega arith))) in
    ap (λ k. unquoted (without_back_blanks (drop k whole))) front ∙ ap unquoted kept ∙ ap (λ t. cond t (take (length whole - 2) (drop 1 whole)) whole) quotes

-- digits are a field as they stand
field-digits : (s : Separator) (n : ℕ) (ds : List ℕ) → AreFewDigits ds → (field_of s (n, ds)).1 ≡ ds
field-digits Blank n ds h = refl
field-digits Comma n ds h = trimmed-digits n ds h
field-digits Semicolon n ds h = trimmed-digits n ds h
field-digits Tab n ds h = trimmed-digits n ds h

-- and they are one
digits-field : (s : Separator) (ds : List ℕ) → AreFewDigits ds → is_field s ds ≡ true
digits-field Blank ds h = lt-ltb 0 (length ds) h.some
digits-field Comma ds h = refl
digits-field Semicolon ds h = refl
digits-field Tab ds h = refl

-- a plain line has two fields
fields-two : (s : Separator) (first : List ℕ) (part : ℕ) (second : List ℕ) → is_separator s part ≡ true → AreFewDigits first → AreFewDigits second
    → map (λ (f : ℕ × List ℕ). f.1) (fields_in s (first ++ part ∷ second)) ≡ first ∷ second ∷ []
fields-two s first part second h a b =
    let n : ℕ = 0 + length first + 1 in
    ap (λ t. map (λ (f : ℕ × List ℕ). f.1) (fields_from s 0 t)) (parts-plain s first part second h a.each b.each)
    ∙ ap (map (λ (f : ℕ × List ℕ). f.1)) (field-first s 0 first (second ∷ []) (digits-field s first a))
    ∙ ap (λ (t : List (ℕ × List ℕ)). (field_of s (0, first)).1 ∷ map (λ (f : ℕ × List ℕ). f.1) t) (field-first s n second [] (digits-field s second b))
    ∙ ap (λ (t : List ℕ). t ∷ (field_of s (n, second)).1 ∷ []) (field-digits s 0 first a)
    ∙ ap (λ (t : List ℕ). first ∷ t ∷ []) (field-digits s n second b)

-- a line that begins with a digit says something, and has no mark in front
says-something : (b : ℕ) (bytes : List ℕ) → IsCode b → (says_nothing (fields (b ∷ bytes)) ≡ false) × (without_mark (b ∷ bytes) ≡ b ∷ bytes)
says-something b bytes c =
    let whole : List ℕ = b ∷ bytes in
    let j : ℕ = position_or_len is_blank bytes in
    let len : position_or_len is_blank whole ≡ suc j = ap (λ t. cond (not t) (1 + j) 0) (not-blank b c) ∙ omega arith in
    let comment : is_comment (b ∷ take j bytes) ≡ false = ap (λ t. t || (b == 37)) (not-low b 35 c (omega arith)) ∙ not-low b 37 c (omega arith) in
    let test : Bool = slice_index whole 1 == 187 && slice_index whole 2 == 191 in (
      ap says_nothing (fields-first b bytes (not-blank b c) ∙ ap (λ k. take k whole ∷ fields (drop k whole)) len) ∙ comment,
      ap (λ t. cond t (drop 3 whole) whole) (and_left (b == 239) test (not-high b 239 c (omega arith))),
    )

-- so does a plain line
plain-says : (first : List ℕ) (part : ℕ) (second : List ℕ) → AreFewDigits first
    → (says_nothing (fields (first ++ part ∷ second)) ≡ false) × (without_mark (first ++ part ∷ second) ≡ first ++ part ∷ second)
plain-says [] part second a = absurd (omega (arith, a.some))
plain-says (b ∷ ds) part second a = says-something b (ds ++ part ∷ second) (first-code b ds a.each).0

-- a plain line says its two numbers in each dialect of the first two columns, behind the lines that are skipped
said-plain : (d : Dialect) (s : Separator) (n : ℕ) (first : List ℕ) (part : ℕ) (second : List ℕ) → d.separator ≡ s → d.columns ≡ (1, 2)
    → d.ids ≡ Numbers → d.skip ≤ n → is_separator s part ≡ true → AreFewDigits first → AreFewDigits second
    → said_after d n (first ++ part ∷ second) ≡ Ok (Some (first, second))
said-plain d s n first part second e columns ids skip h a b =
    let line : List ℕ = first ++ part ∷ second in
    let bytes : List ℕ = cond (n == 0) (without_mark line) line in
    let (says, mark) = plain-says first part second a in
    let same : bytes ≡ line = elim (cases_Bool (n == 0)) [
      | inl z ↦ ap (λ t. cond t (without_mark line) line) z ∙ mark
      | inr z ↦ ap (λ t. cond t (without_mark line) line) z
    ] in
    let at : map (λ (f : ℕ × List ℕ). f.1) (fields_in s line) ≡ first ∷ second ∷ [] = fields-two s first part second h a b in
    let one : id_in_column d.ids d.separator d.columns.0 line ≡ Ok first =
    ap (λ (t : Ids). id_in_column t d.separator d.columns.0 line) ids ∙ ap (λ (t : Separator). number_in_column t d.columns.0 line) e
    ∙ ap (λ (c : ℕ × ℕ). number_in_column s c.0 line) columns
    ∙ first-column (length line) (fields_in s line) first (second ∷ []) (value first) at (few-spell first a) in
    let two : id_in_column d.ids d.separator d.columns.1 line ≡ Ok second =
    ap (λ (t : Ids). id_in_column t d.separator d.columns.1 line) ids ∙ ap (λ (t : Separator). number_in_column t d.columns.1 line) e
    ∙ ap (λ (c : ℕ × ℕ). number_in_column s c.1 line) columns
    ∙ second-column (length line) (fields_in s line) first second [] (value second) at (few-spell second b) in
    let numbers : Result (Option (List ℕ × List ℕ)) BadField =
    both (id_in_column d.ids d.separator d.columns.0 line) (id_in_column d.ids d.separator d.columns.1 line) in
    ap (λ t. cond t (Ok None) (pair_in d bytes)) (le-ltb n d.skip skip) ∙ ap (pair_in d) same ∙ ap (λ t. cond t (Ok None) numbers) says
    ∙ ap (λ (t : Result (List ℕ) BadField). both t (id_in_column d.ids d.separator d.columns.1 line)) one
    ∙ ap (λ (t : Result (List ℕ) BadField). both (Ok first) t) two

-- digits have no separator to be spaced
spaced-digits : (s : Separator) (ds : List ℕ) → list_all is_digit ds ≡ true → map (spaced s) ds ≡ ds
spaced-digits s [] h = refl
spaced-digits s (b ∷ ds) h =
    let (c, more) = first-code b ds h in
    ap (λ t. cond t 32 b ∷ map (spaced s) ds) (not-separator s b c) ∙ ap (λ (t : List ℕ). b ∷ t) (spaced-digits s ds more)

-- nor is a newline one
spaced-newline : (s : Separator) → spaced s 10 ≡ 10
spaced-newline Blank = refl
spaced-newline Comma = refl
spaced-newline Semicolon = refl
spaced-newline Tab = refl

-- a plain line with a space is the plain line of its two numbers
spaced-line : (s : Separator) (first : List ℕ) (part : ℕ) (second : List ℕ) → is_separator s part ≡ true → list_all is_digit first ≡ true
    → list_all is_digit second ≡ true → map (spaced s) (first ++ (part ∷ (second ++ (10 ∷ [])))) ≡ first ++ (32 ∷ (second ++ (10 ∷ [])))
spaced-line s first part second h a b =
    let end : map (spaced s) (second ++ 10 ∷ []) ≡ second ++ 10 ∷ [] =
    map-append (spaced s) second (10 ∷ []) ∙ ap (λ (t : List ℕ). t ++ spaced s 10 ∷ []) (spaced-digits s second b)
    ∙ ap (λ k. second ++ k ∷ []) (spaced-newline s) in
    map-append (spaced s) first (part ∷ (second ++ 10 ∷ []))
    ∙ ap (λ (t : List ℕ). t ++ map (spaced s) (part ∷ (second ++ 10 ∷ []))) (spaced-digits s first a)
    ∙ ap (λ t. first ++ cond t 32 part ∷ map (spaced s) (second ++ 10 ∷ [])) h
    ∙ ap (λ (t : List ℕ). first ++ 32 ∷ t) end

-- the front of so many bytes more
take-more : (n m : ℕ) (xs : List ℕ) → take (n + m) xs ≡ take n xs ++ take m (drop n xs)
take-more n m xs =
    sym (take-append-drop n (take (n + m) xs)) ∙ ap (λ (t : List ℕ). t ++ drop n (take (n + m) xs)) (take-take n (n + m) xs (omega arith))
    ∙ ap (λ (t : List ℕ). take n xs ++ t) (drop-take n m xs)

-- no line is a run
pub run-none : (s : Separator) (bytes : List ℕ) → BeginsWithRun s bytes 0 0
run-none s bytes = record {
  read = [];
  cut = refl;
  within = omega arith;
  counted = refl;
  fewer = omega arith;
  says = λ d n e columns ids skip. (refl, refl);
}

-- one plain line more
pub run-more : (s : Separator) (bytes rest : List ℕ) (n count more : ℕ) → rest ≡ drop n bytes → BeginsWithRun s bytes n count → BeginsPlainly s rest more
    → BeginsWithRun s bytes (n + more) (count + 1)
run-more s bytes rest n count more behind run h =
    let line : List ℕ = h.first ++ h.part ∷ h.second in
    let whole : List ℕ = h.first ++ (h.part ∷ (h.second ++ (10 ∷ []))) in
    let ends : whole ≡ line ++ 10 ∷ [] = sym (append_assoc h.first (h.part ∷ h.second) (10 ∷ [])) in
    let at-line : rest ≡ line ++ 10 ∷ h.rest = h.whole ∙ sym (append_assoc h.first (h.part ∷ h.second) (10 ∷ h.rest)) in
    let at-end : rest ≡ whole ++ h.rest =
    at-line ∙ sym (append_assoc line (10 ∷ []) h.rest) ∙ ap (λ (t : List ℕ). t ++ h.rest) (sym ends) in
    let long : length whole ≡ more =
    omega (arith, ap length ends, length-append line (10 ∷ []), length-append h.first (h.part ∷ h.second), h.len) in
    let left : drop (n + more) bytes ≡ h.rest =
    sym (drop-drop more n bytes) ∙ ap (drop more) (sym behind ∙ at-end) ∙ drop_at whole h.rest more long in
    let front : take (n + more) bytes ≡ take n bytes ++ whole =
    take-more n more bytes ∙ ap (λ (t : List ℕ). take n bytes ++ take more t) (sym behind ∙ at-end)
    ∙ ap (λ (t : List ℕ). take n bytes ++ t) (take_at whole h.rest more long) in
    let first-line : lines rest ≡ line ∷ lines h.rest =
    ap lines at-line ∙ lines-plain s h.first h.part h.second h.rest h.parted h.are_first.each h.are_second.each in
    record {
      read = run.read ++ line ∷ [];
      cut = run.cut ∙ ap (λ (t : List (List ℕ)). run.read ++ t) (ap lines (sym behind) ∙ first-line)
          ∙ sym (append_assoc run.read (line ∷ []) (lines h.rest)) ∙ ap (λ (t : List ℕ). (run.read ++ line ∷ []) ++ lines t) (sym left);
      within = omega (arith, ap length behind, length-drop n bytes, ap length at-end, length-append whole h.rest, long, run.within, h.len);
      counted = omega (arith, run.counted, length-append run.read (line ∷ []));
      fewer = omega (arith, run.fewer, h.len);
      says = λ d before e columns ids skip.
          let (text, good) = run.says d before e columns ids skip in
          let k : ℕ = before + length run.read in
          let said : said_after d k line ≡ Ok (Some (h.first, h.second)) =
          said-plain d s k h.first h.part h.second e columns ids (omega arith) h.parted h.are_first h.are_second in (
            plain-append d before run.read (line ∷ [])
                ∙ ap (λ (t : List ℕ). t ++ plain_lines d k (line ∷ [])) text
                ∙ ap (λ (t : List ℕ). map (spaced s) (take n bytes) ++ t) (append-nil (plain_line (said_after d k line)) ∙ ap plain_line said
                ∙ sym (spaced-line s h.first h.part h.second h.parted h.are_first.each h.are_second.each))
                ∙ sym (map-append (spaced s) (take n bytes) whole) ∙ ap (map (spaced s)) (sym front),
            bad-append d before run.read (line ∷ []) ∙ ap (λ (t : List BadLine). t ++ bad_lines_after d k (line ∷ [])) good
                ∙ append-nil (bad_line (k + 1) (said_after d k line)) ∙ ap (bad_line (k + 1)) said,
          );
    }

-- a run behind another one
pub run-then : (s : Separator) (bytes rest : List ℕ) (n count m more : ℕ) → rest ≡ drop n bytes → BeginsWithRun s bytes n count → BeginsWithRun s rest m more
    → BeginsWithRun s bytes (n + m) (count + more)
run-then s bytes rest n count m more behind run next = record {
  read = run.read ++ next.read;
  cut = run.cut ∙ ap (λ (t : List (List ℕ)). run.read ++ t) (ap lines (sym behind) ∙ next.cut) ∙ sym (append_assoc run.read next.read (lines (drop m rest)))
      ∙ ap (λ (t : List ℕ). (run.read ++ next.read) ++ lines t) (ap (drop m) behind ∙ drop-drop m n bytes);
  within = omega (arith, ap length behind, length-drop n bytes, run.within, next.within);
  counted = omega (arith, run.counted, next.counted, length-append run.read next.read);
  fewer = omega (arith, run.fewer, next.fewer);
  says = λ d before e columns ids skip.
      let (text, good) = run.says d before e columns ids skip in
      let k : ℕ = before + length run.read in
      let (text', good') = next.says d k e columns ids (omega arith) in (
        plain-append d before run.read next.read ∙ ap (λ (t : List ℕ). t ++ plain_lines d k next.read) text
            ∙ ap (λ (t : List ℕ). map (spaced s) (take n bytes) ++ t) (text' ∙ ap (λ (t : List ℕ). map (spaced s) (take m t)) behind)
            ∙ sym (map-append (spaced s) (take n bytes) (take m (drop n bytes))) ∙ ap (map (spaced s)) (sym (take-more n m bytes)),
        bad-append d before run.read next.read ∙ ap (λ (t : List BadLine). t ++ bad_lines_after d k next.read) good ∙ good',
      );
}
