-- The last id goes, and its number out of the numbers.
use Rattle.std.proofs.Common.{◌≡◌, ◌++◌, ◌∷◌, [], ℕ, List, ap, length, subst, ◌∙◌, append-nil, length-append, arith, Option}
use Rattle.std.specs.Option.{option_to_list}
use Rattle.kc_lists.specs.Lists.{Distinct}
use Rattle.kc_lists.proofs.Members.{Distinct-cut}
use Rattle.kc_stream.specs.Ids.{HasNumbers}
use Rattle.kc_stream.specs.Numbers.{number_in}
use Rattle.kc_stream.proofs.Naming.{numbers-cut}
use Rattle.kc_stream.proofs.ids.Ids.forget_last.Goals as goal

pub invariant_of-self : goal.invariant_of-self
invariant_of-self c =
    let front : List ℕ = c.pop.new.self.items in
    let is : c.self.inside.names.items ≡ front ++ c.in-Some.name ∷ [] =
    c.pop.ensures.items ∙ ap (λ (o : Option ℕ). front ++ option_to_list o) c.in-Some.is in
    let (has, once, few) = c.self.invariant in
    let old : ℕ → Option ℕ = number_in c.self.inside.numbers.table.items c.self.inside.numbers.others in
    let new : ℕ → Option ℕ = number_in c.remove.new.self.table.items c.remove.new.self.others in
    let apart : Distinct (front ++ c.in-Some.name ∷ []) = subst Distinct is once in (
      numbers-cut front old new c.in-Some.name (subst (λ (l : List ℕ). HasNumbers l old) is has) apart c.remove.ensures,
      subst Distinct (append-nil front) (Distinct-cut c.in-Some.name front [] apart).2,
      omega (arith, few, ap length is, length-append front (c.in-Some.name ∷ [])),
    )
