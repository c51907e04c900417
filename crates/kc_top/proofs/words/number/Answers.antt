-- What std reads of a text of digits alone is the value of its digits.
use Rattle.std.proofs.Common.{rules, ◌≡◌, ◌<◌, ◌^◌, List, ℕ, Bool, true, Some, None, Result}
use Rattle.std.proofs.Common.{Ok, Err, length, nat_lt, nat_le, ◌&&◌, sym, ◌∙◌, ap, lt-ltb, ltb-true, cond}
use Rattle.std.proofs.lemmas.Bool.{and_from, and_parts, and_right, false_from_ne_true}
use Rattle.std.proofs.lemmas.Str.Parse.{IsNumeralModel, numerals_by_value, parse_digits}
use Rattle.std.specs.Char.{is_ascii_digit}
use Rattle.std.specs.List.{list_all}
use Rattle.std.specs.Result.{OkIff, result_ok}
use Rattle.std.specs.Str.Parse.{digits_value}
use Rattle.kc_top.specs.Settings.{is_short_numeral, number}
use Rattle.kc_top.specs.declared.words.TheConstants.{MOST_DIGITS}
use Rattle.kc_top.proofs.words.number.Goals as goal

-- a text of digits alone is a numeral, and its value is that of its digits
digits-model : IsNumeralModel (λ ds. list_all is_ascii_digit ds ≡ true) (digits_value 10)
digits-model = numerals_by_value _ (search rules)

-- a short numeral has a digit, and nothing else
has_digits : (text : List ℕ) → is_short_numeral text ≡ true → (0 < length text) × (list_all is_ascii_digit text ≡ true)
has_digits text short =
    let (size, digits) = and_parts (nat_lt 0 (length text) && nat_le (length text) MOST_DIGITS) (list_all is_ascii_digit text) short in
    (ltb-true 0 (length text) (and_parts (nat_lt 0 (length text)) (nat_le (length text) MOST_DIGITS) size).0, digits)

-- a numeral is read where its value fits
number-reads : {E : Type 0} → (text : List ℕ) (r : Result ℕ E) → is_short_numeral text ≡ true
    → OkIff r ((0 < length text) × (digits_value 10 text < 2 ^ 32)) (digits_value 10 text) → result_ok r ≡ number text
number-reads text (Ok n) short h = ap (λ (x : ℕ). Some x) h.1
    ∙ sym (ap (λ (b : Bool). cond b (Some (digits_value 10 text)) None)
    (and_from (is_short_numeral text) (nat_lt (digits_value 10 text) (2 ^ 32)) short (lt-ltb (digits_value 10 text) (2 ^ 32) h.0.1)))
number-reads text (Err e) short h =
    sym (ap (λ (b : Bool). cond b (Some (digits_value 10 text)) None)
    (and_right (is_short_numeral text) (nat_lt (digits_value 10 text) (2 ^ 32))
    (false_from_ne_true (nat_lt (digits_value 10 text) (2 ^ 32)) (λ t. h ((has_digits text short).0, ltb-true (digits_value 10 text) (2 ^ 32) t)))))

pub returns-then-is_short_numeral : goal.returns-then-is_short_numeral
returns-then-is_short_numeral c =
    let text : List ℕ = c.args.text.now in
    let short : is_short_numeral text ≡ true = ap is_short_numeral (sym c.as_bytes.ensures.value) ∙ sym c.is_short_numeral.ensures
    ∙ c.if-is_short_numeral.true in
    c.ok.ensures.value
    ∙ number-reads text c.parse.result short (parse_digits digits-model 32 text c.parse.result c.parse.ensures.value.0 (has_digits text short).1)
