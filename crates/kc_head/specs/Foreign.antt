-- Texts that are no lines of a graph, as their first bytes tell.
use Rattle.std.specs.Prelude.{◌-◌, ◌==◌, ◌&&◌, not, ℕ, Bool, List, Option, Some, None, codes, length, take, if◌then◌else◌}
use Rattle.std.specs.List.{list_any}
use Rattle.kc_dialect.specs.Signatures.{begins_with, signature_of}
use Rattle.kc_dialect.specs.declared.signatures.Signature.{Signature}
use Rattle.kc_text.specs.Lines.{is_newline}
use Rattle.kc_head.specs.declared.foreign.Foreign.{Foreign}
use Rattle.kc_head.specs.declared.foreign.Foreign.TheVariants.{BareReturns, Json, Marked}

-- a carriage return
abbrev pub is_return : ℕ → Bool
is_return b = b == 13

-- whether a carriage return stands before the last byte, and no newline anywhere
abbrev pub has_bare_returns : List ℕ → Bool
has_bare_returns head = not (list_any is_newline head) && list_any is_return (take (length head - 1) head)

-- what a text is without a mark
abbrev pub unmarked : List ℕ → Option Foreign
unmarked head = if begins_with (codes "{\"") head then Some Json else if has_bare_returns head then Some BareReturns else None

-- what a text is with this mark, or without one
abbrev pub marked : Option Signature → List ℕ → Option Foreign
marked (Some signature) head = Some (Marked signature)
marked None head = unmarked head

-- what a text is with this head, if it is no lines of a graph
abbrev pub foreign_in : List ℕ → Option Foreign
foreign_in head = marked (signature_of head) head
