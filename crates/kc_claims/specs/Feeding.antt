-- How a text is handed on in pieces that end with lines.
use Rattle.std.specs.Prelude.{◌≡◌, ◌≤◌, ℕ, List, Option, IfSome, ◌++◌, length}
use Rattle.kc_text.specs.Lines.{EndsLine}

-- Of a text the lines that have ended were taken, and the rest is carried.
pub record HasFed {T : Type 0} (taken : T → T → List ℕ → Type 0) (start now : T) (carry text : List ℕ) : Type 0 where
  pub done : List ℕ
  pub parts : text ≡ done ++ carry
  pub ended : EndsLine done
  pub took : taken start now done

-- all bytes were taken, which are no more than allowed, and all of what is known of them
pub record IsFedWith {T : Type 0} (taken : T → T → List ℕ → Type 0) (start now : T) (known : Option (List ℕ)) (most : ℕ) : Type 0 where
  pub text : List ℕ
  pub read : IfSome known (λ all. text ≡ all)
  pub few : length text ≤ most
  pub took : taken start now text
