-- A new id is put behind the others, and its number to the numbers.
use Rattle.std.proofs.Common.{◌≡◌, ◌∷◌, ◌++◌, [], ℕ, List, length, ap, sym, ◌∙◌, arith, Option, None, Some, false, true, nat_eq, subst, cond}
use Rattle.std.proofs.Common.{length-append, take}
use Rattle.std.specs.Prelude.{is_ok}
use Rattle.std.specs.Set.{is_member}
use Rattle.std.proofs.Math.Seq.{take-append_seam}
use Rattle.kc_lists.specs.Lists.{Distinct}
use Rattle.kc_lists.proofs.Counting.{Distinct-push}
use Rattle.kc_text.specs.Inputs.{place}
use Rattle.kc_text.proofs.Places.{place-below}
use Rattle.kc_stream.specs.Ids.{HasNumbers, with_name}
use Rattle.kc_stream.specs.Numbers.{number_in}
use Rattle.kc_stream.proofs.Naming.{name-member, name-new, number-none, number-some, numbers-put, place-last}
use Rattle.kc_stream.proofs.ids.Ids.name.Goals as goal

pub returns-in-Some-clause-none : goal.returns-in-Some-clause-none
returns-in-Some-clause-none c =
    let (m, p) = number-some c.self.inside.names.items c.args.id c.in-Some.number
    (sym (c.self.invariant.0 c.args.id) ∙ sym c.get.ensures ∙ c.in-Some.is) in
    omega (arith, place-below c.self.inside.names.items c.args.id m, ap length c.self.view_is)

pub invariant_of-self-2 : goal.invariant_of-self-2
invariant_of-self-2 c =
    let ids : List ℕ = c.self.inside.names.items in
    let kept : c.reserve.new.self.items ≡ ids = c.in_ok-reserve.ensures.items in
    let ok : is_ok c.push.result ≡ true = grind (arith, c.is_err.ensures.negation, c.if-is_err.false) in
    let pushed : c.push.new.self.items ≡ ids ++ c.args.id ∷ [] = grind (arith, c.push.ensures.items, ok, kept) in
    let none : number_in c.self.inside.numbers.table.items c.self.inside.numbers.others c.args.id ≡ None = sym c.get.ensures ∙ c.in_default.is in
    let count : c.len-number.result ≡ length ids = omega (arith, c.len-number.ensures) in
    let old : ℕ → Option ℕ = number_in c.self.inside.numbers.table.items c.self.inside.numbers.others in
    let new : ℕ → Option ℕ = number_in c.put.new.self.table.items c.put.new.self.others in (
      subst (λ (l : List ℕ). HasNumbers l new) (sym pushed)
          (numbers-put ids old new c.args.id c.self.invariant.0 none
          (subst (λ (n : ℕ). (q : ℕ) → new q ≡ cond (nat_eq c.args.id q) (Some n) (old q)) count c.in_ok-put.ensures.put)),
      subst Distinct (sym pushed)
          (Distinct-push ids c.args.id c.self.invariant.1 (number-none ids c.args.id (sym (c.self.invariant.0 c.args.id) ∙ none))),
      omega (arith, ap length pushed, length-append ids (c.args.id ∷ []), c.if-number.false, count),
    )

pub returns-clause-number : goal.returns-clause-number
returns-clause-number c =
    let ids : List ℕ = c.self.inside.names.items in
    let kept : c.reserve.new.self.items ≡ ids = c.in_ok-reserve.ensures.items in
    let ok : is_ok c.push.result ≡ true = grind (arith, c.is_err.ensures.negation, c.if-is_err.false) in
    let pushed : c.push.new.self.items ≡ ids ++ c.args.id ∷ [] = grind (arith, c.push.ensures.items, ok, kept) in
    let none : number_in c.self.inside.numbers.table.items c.self.inside.numbers.others c.args.id ≡ None = sym c.get.ensures ∙ c.in_default.is in
    let new : is_member nat_eq ids c.args.id ≡ false = number-none ids c.args.id (sym (c.self.invariant.0 c.args.id) ∙ none) in
    let is : c.push.new.self.items ≡ with_name ids c.args.id = pushed ∙ sym (name-new ids c.args.id new) in (
      is ∙ ap (λ (l : List ℕ). with_name l c.args.id) c.self.view_is,
      omega (arith, c.len-number.ensures, ap (λ (l : List ℕ). place l c.args.id) pushed, place-last ids c.args.id new),
      ap (λ (l : List ℕ). is_member nat_eq l c.args.id) is ∙ name-member ids c.args.id,
    )

pub returns-clause-kept : goal.returns-clause-kept
returns-clause-kept c =
    let ids : List ℕ = c.self.inside.names.items in
    let kept : c.reserve.new.self.items ≡ ids = c.in_ok-reserve.ensures.items in
    let ok : is_ok c.push.result ≡ true = grind (arith, c.is_err.ensures.negation, c.if-is_err.false) in
    let pushed : c.push.new.self.items ≡ ids ++ c.args.id ∷ [] = grind (arith, c.push.ensures.items, ok, kept) in
    ap (λ (l : List ℕ). take (length l) c.push.new.self.items) (sym c.self.view_is) ∙ ap (take (length ids)) pushed
    ∙ take-append_seam ids (c.args.id ∷ []) ∙ c.self.view_is
