-- The table finds a name at its place, or puts it behind the others.
use Rattle.std.proofs.Common.{◌∙◌, ℕ, List, ap, map, sym}
use Rattle.std.specs.Str.{bytes_eq}
use Rattle.kc_names.specs.Names.{names_with, number_of}
use Rattle.kc_names.proofs.Tables.{found, place-seen, put, seen}
use Rattle.kc_names.proofs.names.Names.number.Goals as goal

pub returns-in-Some-clause-number : goal.returns-in-Some-clause-number
returns-in-Some-clause-number c =
    (found c.args.name.now c.self.inside.table.keys c.in-Some.number (sym c.in-Some.ensures.index)).0
    ∙ ap (λ (ns : List (List ℕ)). number_of ns c.args.name.now) c.self.view_is

pub returns-in-Some-clause-names : goal.returns-in-Some-clause-names
returns-in-Some-clause-names c =
    sym c.self.view_is ∙ (found c.args.name.now c.self.inside.table.keys c.in-Some.number (sym c.in-Some.ensures.index)).1
    ∙ ap (λ (ns : List (List ℕ)). names_with ns c.args.name.now) c.self.view_is

pub returns-clause-number : goal.returns-clause-number
returns-clause-number c =
    let names : List (List ℕ) = map seen c.self.inside.table.keys in
    c.in_ok-number.ensures.index ∙ place-seen (bytes_eq c.in_ok-from_slice.field-0.items) c.self.inside.table.keys
    ∙ ap (number_of names) c.in_ok-from_slice.ensures.items ∙ ap (λ (ns : List (List ℕ)). number_of ns c.args.name.now) c.self.view_is

pub returns-clause-names : goal.returns-clause-names
returns-clause-names c =
    let names : List (List ℕ) = map seen c.self.inside.table.keys in
    ap (map seen) c.in_ok-number.ensures.keys ∙ put c.self.inside.table.keys c.in_ok-from_slice.field-0
    ∙ ap (names_with names) c.in_ok-from_slice.ensures.items ∙ ap (λ (ns : List (List ℕ)). names_with ns c.args.name.now) c.self.view_is
