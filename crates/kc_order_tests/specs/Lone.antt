-- A table of one item, whose group's word is stored again and again.
use Rattle.std.specs.Prelude.{ℕ, ◌/◌, List, [], ◌∷◌, refl}
use Rattle.std.proofs.lemmas.Bool.{leb-true}
use Rattle.kc_words.specs.declared.layout.TheConstants.{ITEMS, LAST_VERSION, BOTTOM_ROOM, TOP_ROOM}
use Rattle.kc_words.specs.declared.shape.Shape.{Shape}
use Rattle.kc_table.specs.Samples.{item, group}

-- one item, which is the list
abbrev pub lone_shape : Shape
lone_shape = record {
  items = 1;
  fixed = 0;
  base = 0;
  version = 0;
  some_items = leb-true 1 1 refl;
  few_items = leb-true 1 ITEMS refl;
  fixed_in = leb-true 0 1 refl;
  version_in = leb-true 0 LAST_VERSION refl;
}

-- the word of its group that was stored `version` times
abbrev pub lone_group : ℕ → ℕ
lone_group version = group version (TOP_ROOM / 2)

-- the words of the table of one item, where the word of its group was stored `version` times
abbrev pub lone_words : ℕ → List ℕ
lone_words version = 0 ∷ item 0 1 (BOTTOM_ROOM / 2) ∷ lone_group version ∷ 0 ∷ []
