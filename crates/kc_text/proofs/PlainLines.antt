-- What a plain line says: two numbers with one blank between them, alone or after a sign and a blank.
use Rattle.std.proofs.Common.{◌≡◌, ◌≤◌, ◌<◌, ◌-◌, ◌==◌, ◌&&◌, ◌||◌, ℕ, Bool, true, false, cond, List, [], ◌∷◌, ◌++◌, length, get_or, take, drop, map}
use Rattle.std.proofs.Common.{refl, sym, ap, ◌∙◌, arith, inl, inr, eqb-true, le-leb, lt-ltb, ltb-true, leb-true, length-append, append_assoc, Result}
use Rattle.std.proofs.Common.{Ok, Err, nat_le}
use Rattle.std.specs.Prelude.{All, codes}
use Rattle.std.specs.List.{list_all, position_or_len}
use Rattle.std.specs.Str.{bytes_eq}
use Rattle.std.specs.Str.Lines.{strip_carriage_return}
use Rattle.std.proofs.lemmas.Bool.{cases_Bool, and_parts, and_from, or_cases, ne_eqb}
use Rattle.std.proofs.lemmas.List.{take_at, drop_at, take_all, drop_all, get_or_append_left, get_or_at}
use Rattle.std.proofs.lemmas.List.Elements.{All-nil, All-cons, All-append}
use Rattle.std.proofs.lemmas.List.Sums.{position_or_len_is}
use Rattle.kc_text.specs.declared.kind.Kind.{Kind}
use Rattle.kc_text.specs.declared.kind.Kind.TheVariants.{NotANumber, NumberTooLarge}
use Rattle.kc_text.specs.declared.line.TextLine.{TextLine}
use Rattle.kc_text.specs.declared.line.TextLine.TheVariants.{Nothing, Edge, Change}
use Rattle.kc_text.specs.Forms.{all_said, batch_form, change_form, edge_form, first_number, is_comment, is_digit, last_number, line_of, number}
use Rattle.kc_text.specs.Forms.{said_by, two_numbers, value}
use Rattle.kc_text.specs.Lines.{fields, is_blank, is_newline, is_not_empty, lines}
use Rattle.kc_text.specs.Plain.{BeginsWithPair, sign_of}
use Rattle.kc_text.proofs.FieldCuts.{fields-blank, fields-first}
use Rattle.kc_text.proofs.LineCuts.{lines-cut}

-- a digit is none of the bytes below the digits
digit-not_low : (b other : ℕ) → other < 48 → is_digit b ≡ true → (b == other) ≡ false
digit-not_low b other l h =
    let parts = and_parts (nat_le 48 b) (nat_le b 57) h in ne_eqb b other (λ e. let from = leb-true 48 b parts.0 in absurd (omega arith))

-- a digit is none of the bytes above the digits
digit-not_high : (b other : ℕ) → 57 < other → is_digit b ≡ true → (b == other) ≡ false
digit-not_high b other l h = let parts = and_parts (nat_le 48 b) (nat_le b 57) h in ne_eqb b other (λ e. let to = leb-true b 57 parts.1 in absurd (omega arith))

-- a digit is no blank
digit-no_blank : (b : ℕ) → is_digit b ≡ true → is_blank b ≡ false
digit-no_blank b h = ap (λ t. t || (b == 9)) (digit-not_low b 32 (omega arith) h) ∙ digit-not_low b 9 (omega arith) h

-- a blank is no other byte than a space or a tab
blank-other : (b other : ℕ) → (32 ≡ other → ⊥) → (9 ≡ other → ⊥) → is_blank b ≡ true → (b == other) ≡ false
blank-other b other n m h = elim (or_cases (b == 32) (b == 9) h) [
  | inl e ↦ ne_eqb b other (λ same. n (sym (eqb-true b 32 e) ∙ same))
  | inr e ↦ ne_eqb b other (λ same. m (sym (eqb-true b 9 e) ∙ same))
]

-- the digits of a number, of which there is one at least
pub record AreDigits (ds : List ℕ) : Type 0 where
  pub some : 0 < length ds
  pub each : All (λ b. is_digit b ≡ true) ds

-- where all bytes pass the test for digits, each is a digit
each_digit : (ds : List ℕ) → list_all is_digit ds ≡ true → All (λ b. is_digit b ≡ true) ds
each_digit [] h = All-nil (λ b. is_digit b ≡ true)
each_digit (d ∷ ds) h = let parts = and_parts (is_digit d) (list_all is_digit ds) h in All-cons (λ b. is_digit b ≡ true) d ds parts.0 (each_digit ds parts.1)

-- what spells a number is digits, one at least
pub digits-of : (ds : List ℕ) (v : ℕ) → number ds ≡ Ok v → AreDigits ds
digits-of ds v e = elim (cases_Bool (list_all is_digit ds && is_not_empty ds)) [
  | inl h ↦ let parts = and_parts (list_all is_digit ds) (is_not_empty ds) h in record { some = ltb-true 0 (length ds) parts.1; each = each_digit ds parts.0 }
  | inr h ↦
      let wrong : number ds ≡ Err NotANumber = ap (λ b. cond b (cond (nat_le (value ds) 4294967295) (Ok (value ds)) (Err NumberTooLarge)) (Err NotANumber)) h in
      absurd (cc)
]

-- digits, one at least, whose value is within the limit spell it
pub number-is : (ds : List ℕ) (v : ℕ) → list_all is_digit ds ≡ true → 0 < length ds → v ≡ value ds → v ≤ 4294967295 → number ds ≡ Ok v
number-is ds v digits some e l =
    ap (λ b. cond b (cond (nat_le (value ds) 4294967295) (Ok (value ds)) (Err NumberTooLarge)) (Err NotANumber))
    (and_from (list_all is_digit ds) (is_not_empty ds) digits (lt-ltb 0 (length ds) some))
    ∙ ap (λ b. cond b (Ok (value ds)) (Err NumberTooLarge)) (le-leb (value ds) 4294967295 (omega arith)) ∙ ap (λ n. Ok n) (sym e)

-- the first place that passes stands behind those that don't
first_stop : (p : ℕ → Bool) (xs : List ℕ) (y : ℕ) (ys : List ℕ) → All (λ b. p b ≡ false) xs → p y ≡ true → position_or_len p (xs ++ y ∷ ys) ≡ length xs
first_stop p xs y ys none stop = position_or_len_is p (xs ++ y ∷ ys) (length xs) 0 (omega (arith, length-append xs (y ∷ ys)))
    (λ k l. ap p (get_or_append_left xs (y ∷ ys) 0 k l) ∙ none k 0 l) (λ _. ap p (get_or_at xs y ys 0 (length xs) refl) ∙ stop)

-- a search for a byte that no place has ends behind the last
no_stop : (p : ℕ → Bool) (xs : List ℕ) → All (λ b. p b ≡ false) xs → position_or_len p xs ≡ length xs
no_stop p xs none = position_or_len_is p xs (length xs) 0 (omega arith) (λ k l. none k 0 l) (λ l. absurd (omega arith))

-- what holds of every digit and every blank holds of a plain line
of_line : (p : ℕ → Bool) → ((b : ℕ) → is_digit b ≡ true → p b ≡ false) → ((b : ℕ) → is_blank b ≡ true → p b ≡ false) → (ds : List ℕ) (blank : ℕ) (es : List ℕ)
    → AreDigits ds → is_blank blank ≡ true → AreDigits es → All (λ b. p b ≡ false) (ds ++ blank ∷ es)
of_line p digit space ds blank es d h e =
    All-append (λ b. p b ≡ false) ds (blank ∷ es) (λ k x l. digit (get_or ds k x) (d.each k x l))
    (All-cons (λ b. p b ≡ false) blank es (space blank h) (λ k x l. digit (get_or es k x) (e.each k x l)))

-- digits alone are the only field
fields-alone : (es : List ℕ) → AreDigits es → fields es ≡ es ∷ []
fields-alone [] h = absurd (omega (arith, h.some))
fields-alone (e ∷ es) h =
    let n : position_or_len is_blank (e ∷ es) ≡ length (e ∷ es) = no_stop is_blank (e ∷ es) (λ k x l. digit-no_blank (get_or (e ∷ es) k x) (h.each k x l)) in
    fields-first e es (digit-no_blank e (h.each 0 0 (omega arith)))
    ∙ ap (λ (k : ℕ). take k (e ∷ es) ∷ fields (drop k (e ∷ es))) n
    ∙ ap (λ (t : List ℕ). t ∷ fields (drop (length (e ∷ es)) (e ∷ es))) (take_all (length (e ∷ es)) (e ∷ es) (omega arith))
    ∙ ap (λ (t : List ℕ). (e ∷ es) ∷ fields t) (drop_all (length (e ∷ es)) (e ∷ es) (omega arith))

-- a first field, and those behind the blank that ends it
fields-parted : (xs : List ℕ) (blank : ℕ) (ys : List ℕ) → 0 < length xs → All (λ b. is_blank b ≡ false) xs → is_blank blank ≡ true
    → fields (xs ++ blank ∷ ys) ≡ xs ∷ fields ys
fields-parted [] blank ys some none h = absurd (omega arith)
fields-parted (x ∷ xs) blank ys some none h =
    let whole : List ℕ = x ∷ (xs ++ blank ∷ ys) in
    let n : position_or_len is_blank whole ≡ length (x ∷ xs) = first_stop is_blank (x ∷ xs) blank ys none h in
    fields-first x (xs ++ blank ∷ ys) (none 0 0 (omega arith))
    ∙ ap (λ (k : ℕ). take k whole ∷ fields (drop k whole)) n
    ∙ ap (λ (t : List ℕ). t ∷ fields (drop (length (x ∷ xs)) whole)) (take_at (x ∷ xs) (blank ∷ ys) (length (x ∷ xs)) refl)
    ∙ ap (λ (t : List ℕ). (x ∷ xs) ∷ fields t) (drop_at (x ∷ xs) (blank ∷ ys) (length (x ∷ xs)) refl)
    ∙ ap (λ (t : List (List ℕ)). (x ∷ xs) ∷ t) (fields-blank blank ys h)

-- digits, a blank and digits are two fields
fields-plain : (ds : List ℕ) (blank : ℕ) (es : List ℕ) → AreDigits ds → is_blank blank ≡ true → AreDigits es → fields (ds ++ blank ∷ es) ≡ ds ∷ es ∷ []
fields-plain ds blank es d h e = fields-parted ds blank es d.some (λ k x l. digit-no_blank (get_or ds k x) (d.each k x l)) h
    ∙ ap (λ (t : List (List ℕ)). ds ∷ t) (fields-alone es e)

-- a first field that begins with a digit is that of an edge line
digit-edge : (d : ℕ) (ds : List ℕ) (rest : List (List ℕ)) → is_digit d ≡ true → line_of ((d ∷ ds) ∷ rest) ≡ edge_form (two_numbers ((d ∷ ds) ∷ rest))
digit-edge d ds rest h =
    let no_hash : is_comment (d ∷ ds) ≡ false = ap (λ t. t || (d == 37)) (digit-not_low d 35 (omega arith) h) ∙ digit-not_low d 37 (omega arith) h in
    let no_batch : bytes_eq (d ∷ ds) (codes "batch") ≡ false = ap (λ t. t && bytes_eq ds (codes "atch")) (digit-not_high d 98 (omega arith) h) in
    let no_plus : bytes_eq (d ∷ ds) (codes "+") ≡ false = ap (λ t. t && bytes_eq ds []) (digit-not_low d 43 (omega arith) h) in
    let no_minus : bytes_eq (d ∷ ds) (codes "-") ≡ false = ap (λ t. t && bytes_eq ds []) (digit-not_low d 45 (omega arith) h) in
    let edge : TextLine = edge_form (two_numbers ((d ∷ ds) ∷ rest)) in
    let minus : TextLine = cond (bytes_eq (d ∷ ds) (codes "-")) (change_form false (two_numbers rest)) edge in
    let plus : TextLine = cond (bytes_eq (d ∷ ds) (codes "+")) (change_form true (two_numbers rest)) minus in
    let batch : TextLine = cond (bytes_eq (d ∷ ds) (codes "batch")) (batch_form rest) plus in
    ap (λ t. cond t Nothing batch) no_hash ∙ ap (λ t. cond t (batch_form rest) plus) no_batch
    ∙ ap (λ t. cond t (change_form true (two_numbers rest)) minus) no_plus
    ∙ ap (λ t. cond t (change_form false (two_numbers rest)) edge) no_minus

-- two fields that spell numbers are read as these two
two-said : (ds es : List ℕ) (a b : ℕ) → number ds ≡ Ok a → number es ≡ Ok b → two_numbers (ds ∷ es ∷ []) ≡ Ok (a, b)
two-said ds es a b p q = ap (λ (r : Result ℕ Kind). first_number r (es ∷ [])) p ∙ ap (λ (r : Result ℕ Kind). last_number a r []) q

-- two fields of digits are an edge line
two-edge : (ds es : List ℕ) (a b : ℕ) → AreDigits ds → number ds ≡ Ok a → number es ≡ Ok b → line_of (ds ∷ es ∷ []) ≡ Edge a b
two-edge [] es a b d p q = absurd (omega (arith, d.some))
two-edge (x ∷ ds) es a b d p q = digit-edge x ds (es ∷ []) (d.each 0 0 (omega arith)) ∙ ap edge_form (two-said (x ∷ ds) es a b p q)

-- a first field that is a sign is that of a change
sign-change : (add : Bool) (rest : List (List ℕ)) → line_of ((sign_of add ∷ []) ∷ rest) ≡ change_form add (two_numbers rest)
sign-change true rest = refl
sign-change false rest = refl

-- a sign is neither a blank nor part of a line's end
sign-other : (add : Bool) → (is_blank (sign_of add) ≡ false) × (is_newline (sign_of add) ≡ false) × ((sign_of add == 13) ≡ false)
sign-other true = (refl, refl, refl)
sign-other false = (refl, refl, refl)

-- a line without a carriage return at its end keeps all of it
pub line-kept : (line : List ℕ) → 0 < length line → All (λ b. (b == 13) ≡ false) line → strip_carriage_return line ≡ line
line-kept line some none = ap (λ b. cond b (take (length line - 1) line) line) (none (length line - 1) 0 (omega arith))

-- what is said before and after the first newline
said-first : (line rest : List ℕ) → 0 < length line → All (λ b. is_newline b ≡ false) line → All (λ b. (b == 13) ≡ false) line
    → all_said (line ++ (10 ∷ rest)) ≡ said_by line ∷ all_said rest
said-first line rest some none keeps =
    let n : position_or_len is_newline (line ++ (10 ∷ rest)) ≡ length line = first_stop is_newline line 10 rest none refl in
    ap (map said_by)
    (lines-cut (line ++ (10 ∷ rest)) (omega (arith, length-append line (10 ∷ rest)))
    ∙ ap (λ (k : ℕ). strip_carriage_return (take k (line ++ (10 ∷ rest))) ∷ lines (drop 1 (drop k (line ++ (10 ∷ rest))))) n
    ∙ ap (λ (t : List ℕ). strip_carriage_return t ∷ lines (drop 1 (drop (length line) (line ++ (10 ∷ rest))))) (take_at line (10 ∷ rest) (length line) refl)
    ∙ ap (λ (t : List ℕ). strip_carriage_return line ∷ lines (drop 1 t)) (drop_at line (10 ∷ rest) (length line) refl)
    ∙ ap (λ (t : List ℕ). t ∷ lines rest) (line-kept line some keeps))

-- the bytes of a plain pair's line, none of which ends it
pub record IsPairLine (bytes : List ℕ) (a b : ℕ) (rest line : List ℕ) : Type 0 where
  pub cut : bytes ≡ line ++ (10 ∷ rest)
  pub some : 0 < length line
  pub none : All (λ b. is_newline b ≡ false) line
  pub keeps : All (λ b. (b == 13) ≡ false) line
  pub edge : said_by line ≡ Edge a b
  pub two : two_numbers (fields line) ≡ Ok (a, b)

-- bytes that begin with a pair begin with a line of it, and the rest follows
pair-line : (bytes : List ℕ) (a b : ℕ) (rest : List ℕ) → BeginsWithPair bytes a b rest → (line : List ℕ) × IsPairLine bytes a b rest line
pair-line bytes a b rest h =
    let d = digits-of h.first a h.spells_a in
    let e = digits-of h.second b h.spells_b in
    let line : List ℕ = h.first ++ h.blank ∷ h.second in
    let parts : fields line ≡ h.first ∷ h.second ∷ [] = fields-plain h.first h.blank h.second d h.parted e in (
      line,
      record {
        cut = h.whole ∙ sym (append_assoc h.first (h.blank ∷ h.second) (10 ∷ rest));
        some = omega (arith, length-append h.first (h.blank ∷ h.second));
        none = of_line is_newline (λ x. digit-not_low x 10 (omega arith)) (λ x. blank-other x 10 (omega arith) (omega arith))
            h.first h.blank h.second d h.parted e;
        keeps = of_line (λ x. x == 13) (λ x. digit-not_low x 13 (omega arith)) (λ x. blank-other x 13 (omega arith) (omega arith))
            h.first h.blank h.second d h.parted e;
        edge = ap line_of parts ∙ two-edge h.first h.second a b d h.spells_a h.spells_b;
        two = ap two_numbers parts ∙ two-said h.first h.second a b h.spells_a h.spells_b;
      },
    )

-- bytes that begin with a plain pair say its edge line first
pub said-edge : (bytes : List ℕ) (a b : ℕ) (rest : List ℕ) → BeginsWithPair bytes a b rest → all_said bytes ≡ Edge a b ∷ all_said rest
said-edge bytes a b rest h =
    let (line, is) = pair-line bytes a b rest h in
    ap all_said is.cut ∙ said-first line rest is.some is.none is.keeps ∙ ap (λ (l : TextLine). l ∷ all_said rest) is.edge

-- bytes that begin with a sign, a blank and a plain pair say the change first
pub said-change : (bytes : List ℕ) (add : Bool) (blank : ℕ) (after : List ℕ) (a b : ℕ) (rest : List ℕ) → bytes ≡ sign_of add ∷ blank ∷ after
    → is_blank blank ≡ true → BeginsWithPair after a b rest
    → all_said bytes ≡ Change (record { add = add; a = a; b = b }) ∷ all_said rest
said-change bytes add blank after a b rest whole space h =
    let (line, pair) = pair-line after a b rest h in
    let (no_blank, no_newline, no_return) = sign-other add in
    let sign : ℕ = sign_of add in
    let signed : (p : ℕ → Bool) → p sign ≡ false → p blank ≡ false → All (λ b. p b ≡ false) line → All (λ b. p b ≡ false) (sign ∷ blank ∷ line) =
    λ p s t more. All-cons (λ b. p b ≡ false) sign (blank ∷ line) s (All-cons (λ b. p b ≡ false) blank line t more) in
    let parts : fields (sign ∷ blank ∷ line) ≡ (sign ∷ []) ∷ fields line =
    fields-parted (sign ∷ []) blank line (omega arith) (All-cons (λ b. is_blank b ≡ false) sign [] no_blank (All-nil (λ b. is_blank b ≡ false))) space in
    ap all_said (whole ∙ ap (λ (t : List ℕ). sign ∷ blank ∷ t) pair.cut)
    ∙ said-first (sign ∷ blank ∷ line) rest (omega arith)
    (signed is_newline no_newline (blank-other blank 10 (omega arith) (omega arith) space) pair.none)
    (signed (λ x. x == 13) no_return (blank-other blank 13 (omega arith) (omega arith) space) pair.keeps)
    ∙ ap (λ (l : TextLine). l ∷ all_said rest) (ap line_of parts ∙ sign-change add (fields line) ∙ ap (change_form add) pair.two)

-- behind a plain pair fewer bytes are left
pub shorter-pair : (bytes : List ℕ) (a b : ℕ) (rest : List ℕ) → BeginsWithPair bytes a b rest → length rest < length bytes
shorter-pair bytes a b rest h = let (line, is) = pair-line bytes a b rest h in omega (arith, ap (length) is.cut, length-append line (10 ∷ rest))
