-- What a run leaves in its output at each status. `asked` is what the words ask for, if they are right, and `input` are the bytes of
-- the input, where they are known.
use Rattle.std.specs.Prelude.{◌≡◌, ◌≤◌, ℕ, List, [], length, take, IfSome, Option, None, Some}
use Rattle.std.specs.Io.KnownBytes.{Appends}
use Rattle.kc_io.specs.FirstPiece.{KeepsFirst}
use Rattle.kc_text.specs.declared.limits.TheConstants.Limits.{KCORE}
use Rattle.kc_text.specs.Meaning.{meaning}
use Rattle.kc_output.specs.Text.{IsOutput, IsTextOf}
use Rattle.kc_output.specs.declared.setting.Setting.{Setting}
use Rattle.kc_top.specs.declared.Status.{Status}
use Rattle.kc_top.specs.declared.Status.TheVariants.{Done, Usage, Refused, ReadFault, WriteFault, NoMemory}

-- the text of what was read, which is all of the input where it is known
pub record IsAnswer (asked : Option Setting) (input : Option (List ℕ)) (text : List ℕ) : Type 0 where
  pub setting : Setting
  pub asks : asked ≡ Some setting
  pub bytes : List ℕ
  pub read : IfSome input (λ all. bytes ≡ all)
  pub is : IsTextOf setting bytes text

-- the whole text was taken
pub record TookText (asked : Option Setting) (input before after : Option (List ℕ)) : Type 0 where
  pub text : List ℕ
  pub answer : IsAnswer asked input text
  pub took : Appends before after text

-- a prefix of the text was taken
pub record TookFront (asked : Option Setting) (input before after : Option (List ℕ)) : Type 0 where
  pub text : List ℕ
  pub answer : IsAnswer asked input text
  pub amount : ℕ
  pub within : amount ≤ length text
  pub took : Appends before after (take amount text)

-- what has to be written for the bytes: nothing where the words are not right
abbrev pub IsOutputOf : Option Setting → List ℕ → List ℕ → Type 0
IsOutputOf None bytes text = text ≡ []
IsOutputOf (Some setting) bytes text = IsOutput setting (meaning KCORE bytes) text

-- a prefix was taken of what has to be written for the input, which is nothing where the words are not right or the input is refused
pub record TookSome (asked : Option Setting) (input before after : Option (List ℕ)) : Type 0 where
  pub bytes : List ℕ
  pub read : IfSome input (λ all. bytes ≡ all)
  pub text : List ℕ
  pub is : IsOutputOf asked bytes text
  pub amount : ℕ
  pub within : amount ≤ length text
  pub took : Appends before after (take amount text)

-- what was taken at each status
abbrev pub Took : Status → Option Setting → Option (List ℕ) → Option (List ℕ) → Option (List ℕ) → Type 0
Took Done asked input before after = TookText asked input before after
Took WriteFault asked input before after = TookFront asked input before after
Took NoMemory asked input before after = TookSome asked input before after
Took Usage asked input before after = Appends before after []
Took Refused asked input before after = Appends before after []
Took ReadFault asked input before after = Appends before after []

-- the first piece that was offered is the whole text
pub record OfferedText (asked : Option Setting) (input : Option (List ℕ)) (before after : Option ℕ) : Type 0 where
  pub text : List ℕ
  pub answer : IsAnswer asked input text
  pub first : KeepsFirst before after text

-- what was offered at each status: the whole text at once, or nothing
abbrev pub Offered : Status → Option Setting → Option (List ℕ) → Option ℕ → Option ℕ → Type 0
Offered Done asked input before after = OfferedText asked input before after
Offered WriteFault asked input before after = OfferedText asked input before after
Offered Usage asked input before after = after ≡ before
Offered Refused asked input before after = after ≡ before
Offered ReadFault asked input before after = after ≡ before
Offered NoMemory asked input before after = after ≡ before
