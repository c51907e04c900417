-- What is written for vertices, by their ids and the names for which these stand.
use Rattle.std.proofs.Common.{◌≡◌, ◌<◌, ℕ, List, Option, get_or, length, subst}
use Rattle.std.proofs.lemmas.List.{get_or-map, length-map}
use Rattle.kc_lines.specs.Fields.{Number}
use Rattle.kc_cores.specs.Answers.{label_at, label_in, labels_of}

-- there is a label for each id
pub length-labels_of : (names : Option (List (List ℕ))) (ids : List ℕ) → length (labels_of names ids) ≡ length ids
length-labels_of names ids = length-map ids (label_in names)

-- the label of a vertex is that of its id
pub label_at-labels_of : (names : Option (List (List ℕ))) (ids : List ℕ) (v : ℕ) → v < length (labels_of names ids)
    → label_at (labels_of names ids) v ≡ label_in names (get_or ids v 0)
label_at-labels_of names ids v h =
    get_or-map (label_in names) ids v 0 (Number 0) (subst (λ (n : ℕ). v < n) (length-labels_of names ids) h)
