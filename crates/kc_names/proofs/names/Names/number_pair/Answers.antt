-- Both numbers are those among the names with the pair.
use Rattle.std.proofs.Common.{◌++◌, ◌∙◌, [], ◌∷◌, ℕ, List, ap, decimal, sym}
use Rattle.kc_names.specs.Names.{names_with, number_of}
use Rattle.kc_names.proofs.Coming.{first-number, number-put}
use Rattle.kc_names.proofs.names.Names.number_pair.Goals as goal

pub returns-clause-names : goal.returns-clause-names
returns-clause-names c =
    c.in_ok-second_number.ensures.names ∙ ap (λ (ns : List (List ℕ)). names_with ns c.args.second.now) c.in_ok-first_number.ensures.names

pub returns-clause-text : goal.returns-clause-text
returns-clause-text c =
    let old : List (List ℕ) = c.args.self.now in
    let first : List ℕ = c.args.first.now in
    let second : List ℕ = c.args.second.now in
    let out : List ℕ = c.args.out.now.items in
    let middle : List (List ℕ) = names_with old first in
    let all : List (List ℕ) = names_with middle second in
    let done = c.in_ok-second_number.ensures.names ∙ ap (λ (ns : List (List ℕ)). names_with ns second) c.in_ok-first_number.ensures.names in
    let one = c.in_ok-first_number.ensures.number ∙ sym (first-number old first second) in
    let two =
    c.in_ok-second_number.ensures.number ∙ ap (λ (ns : List (List ℕ)). number_of ns second) c.in_ok-first_number.ensures.names
    ∙ sym (number-put middle second) in
    c.in_ok-write_numbers.ensures
    ∙ ap (λ (k : ℕ). out ++ (decimal k ++ 32 ∷ (decimal c.in_ok-second_number.second_number ++ 10 ∷ []))) one
    ∙ ap (λ (k : ℕ). out ++ (decimal (number_of all first) ++ 32 ∷ (decimal k ++ 10 ∷ []))) two
    ∙ ap (λ (ns : List (List ℕ)). out ++ (decimal (number_of ns first) ++ 32 ∷ (decimal (number_of ns second) ++ 10 ∷ []))) (sym done)
