-- How a sink is offered the texts that are put out: each begun once, and all that is left of it at each turn.
use Rattle.std.specs.Prelude.{◌≡◌, ◌-◌, ℕ, ⊤, Option, None, Some, Result, Ok, Err, nat_eq, if◌then◌else◌}
use Rattle.kc_io.specs.Causes.{one_more}

-- How many texts were begun, up to the last value of a `u64`, and how many bytes of the last piece were not taken.
-- A piece that is as long as what was left of the one before goes on with its text; any other begins one.
pub record Offers : Type 0 where
  pub begun : ℕ
  pub rest : ℕ

-- a piece of this length is offered, and so many bytes of its front are taken
abbrev pub after_offer : Offers → ℕ → ℕ → Offers
after_offer offers offered taken = record {
  begun = if nat_eq offered offers.rest then offers.begun else one_more offers.begun;
  rest = offered - taken;
}

-- what the sink tells after it was offered a piece and took so much of it, where it tells what it was offered
abbrev pub IsOffered : Option Offers → Option Offers → ℕ → ℕ → Type 0
IsOffered None after offered taken = ⊤
IsOffered (Some offers) after offered taken = after ≡ Some (after_offer offers offered taken)

-- how many bytes a write took
abbrev pub amount : {E : Type 0} → Result ℕ E → ℕ
amount (Ok n) = n
amount (Err e) = 0
