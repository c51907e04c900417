-- How long the first piece was that a sink was offered.
use Rattle.std.specs.Prelude.{◌≡◌, ℕ, zero, suc, List, length, ⊤, Option, None, Some}

-- a piece is offered: it is the first one where there was none before, else the first one stays
abbrev pub KeepsFirst : Option ℕ → Option ℕ → List ℕ → Type 0
KeepsFirst None after piece = ⊤
KeepsFirst (Some zero) after piece = after ≡ Some (length piece)
KeepsFirst (Some (suc n)) after piece = after ≡ Some (suc n)
