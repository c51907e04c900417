-- Numbers that are drawn one after another. Each draw takes the state to the next one and gives a number of that.
use Rattle.std.specs.Prelude.{ℕ, ◌+◌, ◌*◌, ◌/◌, ◌%◌, ◌^◌}

-- the state after one draw
unfoldable pub next_state : ℕ → ℕ
next_state state = (state * 6364136223846793005 + 1442695040888963407) % 2 ^ 64

-- the number below the bound that is drawn in a state
unfoldable pub drawn : ℕ → ℕ → ℕ
drawn bound state = next_state state / 2 ^ 33 % bound
