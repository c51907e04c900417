-- The words that a run gets of the program's arguments.
use Rattle.std.specs.Prelude.{◌≡◌, ℕ, List, [], ◌∷◌, Result, Ok, Err, drop, map}
use Rattle.std.specs.Prelude.{String, string_bytes}
use Rattle.std.specs.Vec.Iter.{into_iter_items}
use Rattle.std.specs.IoError.{error_kind}
use Rattle.std.specs.declared.io.Error.{Error}
use Rattle.std.specs.declared.vec.IntoIter.{IntoIter}
use Rattle.std.specs.declared.io.ErrorKind.TheVariants.{InvalidData}

-- the texts of the arguments after the program's name, in their order; one empty word where an argument is no text
abbrev pub AreWords : {Z : Type 0} → Result (IntoIter (String Z) Z) Error → List (List ℕ) → Type 0
AreWords (Ok args) words = words ≡ map string_bytes (drop 1 (into_iter_items args))
AreWords (Err error) words = (error_kind error ≡ InvalidData) × (words ≡ [] ∷ [])
