-- The head of a text: its first bytes.
use Rattle.std.specs.Prelude.{◌≡◌, ℕ, List, Option, Some, IfSome, drop, take}
use Rattle.kc_head.specs.declared.head.TheConstants.{HEAD_BYTES}

-- the first bytes that something had, as many as are asked for, where it is known what it had, and just they are gone from it
abbrev pub IsFrontOf : ℕ → Option (List ℕ) → Option (List ℕ) → List ℕ → Type 0
IsFrontOf most before after front = IfSome before (λ all. (front ≡ take most all) × (after ≡ Some (drop most all)))

-- the first bytes of a text, at most `HEAD_BYTES`
unfoldable pub head_of : List ℕ → List ℕ
head_of bytes = take HEAD_BYTES bytes

-- the bytes of a text behind its head
unfoldable pub behind_head : List ℕ → List ℕ
behind_head bytes = drop HEAD_BYTES bytes

-- the head of what a source had, where that is known, and just it is gone from the source
abbrev pub IsHeadOf : Option (List ℕ) → Option (List ℕ) → List ℕ → Type 0
IsHeadOf before after head = IfSome before (λ all. (head ≡ head_of all) × (after ≡ Some (behind_head all)))
