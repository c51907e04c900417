-- What is written for a vertex is the label of its id.
use Rattle.std.proofs.Common.{◌≡◌, ◌<◌, ◌∙◌, ℕ, List, Option, ap, arith, get_or, length, subst, sym}
use Rattle.kc_lines.specs.Fields.{Label, Name, Number}
use Rattle.kc_lists.proofs.Shared.{get_or-any}
use Rattle.kc_cores.specs.Answers.{label_at, label_in, labels_of}
use Rattle.kc_cores.proofs.Labelled.{label_at-labels_of, length-labels_of}
use Rattle.kc_cores.proofs.labels.Labels.get.Goals as goal

-- a vertex that has a label has an id
id-within : (names : Option (List (List ℕ))) (ids : List ℕ) (labels : List Label) (v : ℕ) → labels_of names ids ≡ labels → v < length labels
    → v < length ids
id-within names ids labels v same within =
    subst (λ (n : ℕ). v < n) (sym (ap length same) ∙ length-labels_of names ids) within

-- the label of the id that was read is the one of its vertex
label-is : (names : Option (List (List ℕ))) (ids : List ℕ) (labels : List Label) (v id : ℕ) → labels_of names ids ≡ labels → v < length labels
    → id ≡ get_or ids v id → label_in names id ≡ label_at labels v
label-is names ids labels v id same within is =
    ap (label_in names) (is ∙ get_or-any ids v id 0 (id-within names ids labels v same within))
    ∙ sym (label_at-labels_of names ids v (subst (λ (ls : List Label). v < length ls) (sym same) within))
    ∙ ap (λ (ls : List Label). label_at ls v) same

pub index-id-requires : goal.index-id-requires
index-id-requires c = omega (arith, id-within c.self.inside.names c.self.inside.ids.items c.args.self.now c.args.v c.self.view_is c.requires)

pub returns-in-None : goal.returns-in-None
returns-in-None c =
    ap (λ (n : ℕ). Number n) c.from.ensures
    ∙ ap (λ (names : Option (List (List ℕ))). label_in names c.index-id.result.now) (sym c.in-None.is)
    ∙ label-is c.self.inside.names c.self.inside.ids.items c.args.self.now c.args.v c.index-id.result.now c.self.view_is c.requires c.index-id.ensures

pub returns-in-Some : goal.returns-in-Some
returns-in-Some c =
    ap (λ (name : List ℕ). Name name) c.get.ensures
    ∙ ap (λ (names : Option (List (List ℕ))). label_in names c.index-id.result.now) (sym c.in-Some.is)
    ∙ label-is c.self.inside.names c.self.inside.ids.items c.args.self.now c.args.v c.index-id.result.now c.self.view_is c.requires c.index-id.ensures
