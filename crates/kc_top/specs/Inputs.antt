-- How inputs come about.
use Rattle.std.specs.Prelude.{◌≡◌, ℕ, List, IfSome, Option}
use Rattle.kc_text.specs.Inputs.{IsInput}
use Rattle.kc_text.specs.declared.limits.TheConstants.Limits.{KCORE}
use Rattle.kc_text.specs.Meaning.{Means, Told, meaning}
use Rattle.kc_text.specs.declared.input.Input.{Input}
use Rattle.kc_output.specs.Inputs.{IsSound}

-- the input is what the bytes mean, which are all of what is known of them
pub record IsReadFrom (known : Option (List ℕ)) (input : Input) : Type 0 where
  pub bytes : List ℕ
  pub read : IfSome known (λ all. bytes ≡ all)
  pub told : Told
  pub means : meaning KCORE bytes ≡ Means told
  pub is : IsInput told input
  pub sound : IsSound input
