-- Who has fallen was visited, and who was visited is a vertex of the view, so its list may be asked.
use Rattle.std.proofs.Common.{◌≡◌, ◌<◌, ℕ, true, List, length, get_or, ap, ◌∙◌}
use Rattle.std.proofs.lemmas.List.{get_or_read}
use Rattle.kc_lists.specs.Lists.{member}
use Rattle.kc_lists.proofs.Counting.{member-get_or}
use Rattle.kc_remove.proofs.Tidy.{fallen-visited, fallen-read, tidy-again}
use Rattle.kc_remove.proofs.falling.Falling.take_turn.Goals as goal

-- what is read at an index of a list is a member of it
read-member : (xs : List ℕ) (i x : ℕ) → i < length xs → x ≡ get_or xs i x → member x xs ≡ true
read-member xs i x l e = ap (λ k. member k xs) (get_or_read xs i x l e 0) ∙ member-get_or xs i 0 l

pub degree_of-requires : goal.degree_of-requires
degree_of-requires g c =
    let t = c.requires.tidy in
    t.within _ (fallen-visited _ _ _ t _ (read-member _ _ _ c.requires.turn c.index-vertex.ensures))

pub come_to_each-requires-clause-tidy : goal.come_to_each-requires-clause-tidy
come_to_each-requires-clause-tidy g c =
    let t = c.requires.tidy in
    tidy-again _ _ _ _ _ t c.degree_of.ensures.goes_on c.in_ok-degree.ensures.told
    (fallen-read _ _ _ t _ (read-member _ _ _ c.requires.turn c.index-vertex.ensures))
