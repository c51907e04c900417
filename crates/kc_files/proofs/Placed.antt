-- A file that a part was put in the place of.
use Rattle.std.proofs.Common.{◌≡◌, ◌<◌, ◌∙◌, ◌++◌, ℕ, List, Option, None, Some, ap, arith, subst, sym}
use Rattle.std.specs.Io.KnownBytes.{Appends}
use Rattle.kc_io.specs.Causes.{Rose}
use Rattle.kc_files.specs.Folders.{HasBytes, Held, IsBegun, TellsNothing, held_as}

-- a count that has risen is more than none
pub rose-above : (before after : ℕ) → Rose before after → 0 < after
rose-above before after rose = grind (arith, rose)

-- a file that has the bytes of a part has the text that the part took since it was begun
pub HasBytes-part : (holds : List ℕ → Held) (held : Held) (before after : Option (List ℕ)) (text : List ℕ) → held ≡ held_as after → IsBegun before holds
    → (TellsNothing holds → held ≡ None) → Appends before after text → HasBytes held text
HasBytes-part holds held None after text is begun untold took = subst (λ (h : Held). HasBytes h text) (sym (untold begun)) tt
HasBytes-part holds held (Some none) None text is begun untold took = absurd took
HasBytes-part holds held (Some none) (Some bytes) text is begun untold took =
    subst (λ (h : Held). HasBytes h text) (sym is) (ap (λ (b : List ℕ). Some b) (took ∙ ap (λ (b : List ℕ). b ++ text) begun))
