-- Beside each earlier number the one of now is put, from the front.
use Rattle.std.proofs.Common.{◌≡◌, ◌<◌, ◌≤◌, ℕ, List, length, get_or, map, sym, ◌∙◌, arith}
use Rattle.std.proofs.lemmas.List.{get_or-map, length-map, same_lists}
use Rattle.kc_keeper.specs.Earlier.{with_number_now}
use Rattle.kc_keeper.specs.declared.changes.CoreChange.{CoreChange}

-- So many have the number of now, and the others are as they were.
pub record NumbersPut (core : List ℕ) (old new : List CoreChange) (i : ℕ) : Type 0 where
  pub long : length new ≡ length old
  pub done : (k : ℕ) (d : CoreChange) → k < i → k < length old → get_or new k d ≡ with_number_now core (get_or old k d)
  pub left : (k : ℕ) (d : CoreChange) → i ≤ k → get_or new k d ≡ get_or old k d

-- all have it
pub put-all : {core : List ℕ} {old new : List CoreChange} {i : ℕ} → NumbersPut core old new i → length old ≤ i → new ≡ map (with_number_now core) old
put-all {core} {old} {new} h all =
    let f : CoreChange → CoreChange = with_number_now core in
    same_lists new (map f old) (h.long ∙ sym (length-map old f)) (λ k d low.
    let within : k < length old = omega (arith, low, h.long) in
    h.done k d (omega (arith, within, all)) within ∙ sym (get_or-map f old k d d within))
