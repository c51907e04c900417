-- The text is cut at its first comma, if it has one.
use Rattle.std.proofs.Common.{◌∙◌, Bool, None, ap, ap₂, arith, cond, length, lt-ltb, sym}
use Rattle.std.proofs.lemmas.Bool.{le-ltb}
use Rattle.std.proofs.lemmas.Str.Pattern.{split_once_first}
use Rattle.std.specs.List.{after_first, before_first, position_or_len}
use Rattle.kc_wishes.specs.Wishes.{both_columns, is_comma, number_of}
use Rattle.kc_wishes.proofs.dialect_words.columns_of.Goals as goal

pub returns-in-None : goal.returns-in-None
returns-in-None c =
    let text = c.args.text.now in
    let none = rw c.in-None.is at (split_once_first 44 text c.split_once.result c.split_once.ensures.cases (omega arith)) in
    sym (ap (λ (b : Bool). cond b (both_columns (number_of (before_first is_comma text)) (number_of (after_first is_comma text))) None)
    (le-ltb (position_or_len is_comma text) (length text) (omega (arith, none))))

pub returns-in-Some : goal.returns-in-Some
returns-in-Some c =
    let text = c.args.text.now in
    let some = rw c.in-Some.is at (split_once_first 44 text c.split_once.result c.split_once.ensures.cases (omega arith)) in
    c.both_columns.ensures
    ∙ ap₂ both_columns (c.number_of.ensures ∙ ap number_of some.1) (c.number_of-in-Some.ensures ∙ ap number_of some.2)
    ∙ sym (ap (λ (b : Bool). cond b (both_columns (number_of (before_first is_comma text)) (number_of (after_first is_comma text))) None)
    (lt-ltb (position_or_len is_comma text) (length text) some.0))
