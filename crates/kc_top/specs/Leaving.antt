-- What a run leaves of its tables and receipts at each status. `asked` is what the words ask for, if they are right, and `input` are the
-- bytes of the input, where they are known.
use Rattle.std.specs.Prelude.{◌≡◌, ◌≤◌, ℕ, List, Option, Some, IfSome, length, take, ⊤}
use Rattle.std.specs.Io.KnownBytes.{Appends}
use Rattle.kc_text.specs.declared.limits.TheConstants.Limits.{KCORE}
use Rattle.kc_text.specs.Meaning.{Means, Told, meaning}
use Rattle.kc_run.specs.declared.ran.Ran.{Ran}
use Rattle.kc_output.specs.Leaving.{IsLeftFor}
use Rattle.kc_output.specs.Text.{IsText}
use Rattle.kc_output.specs.declared.setting.Setting.{Setting}
use Rattle.kc_top.specs.declared.Status.{Status}
use Rattle.kc_top.specs.declared.Status.TheVariants.{Done, Usage, Refused, ReadFault, WriteFault, NoMemory}

-- This is the text of the input, and this is what the run of the input leaves. Both are of the same bytes, which are those of the input
-- where they are known.
pub record AnswersInput (asked : Option Setting) (input : Option (List ℕ)) (text : List ℕ) (ran : Ran) : Type 0 where
  pub setting : Setting
  pub asks : asked ≡ Some setting
  pub bytes : List ℕ
  pub read : IfSome input (λ all. bytes ≡ all)
  pub told : Told
  pub means : meaning KCORE bytes ≡ Means told
  pub written : IsText setting told text
  pub left : IsLeftFor told ran

-- the whole text was taken, and what is left belongs to it
pub record LeavesBesideText (asked : Option Setting) (input before after : Option (List ℕ)) (ran : Ran) : Type 0 where
  pub text : List ℕ
  pub answers : AnswersInput asked input text ran
  pub took : Appends before after text

-- a prefix of the text was taken, and what is left belongs to the whole text
pub record LeavesBesideFront (asked : Option Setting) (input before after : Option (List ℕ)) (ran : Ran) : Type 0 where
  pub text : List ℕ
  pub answers : AnswersInput asked input text ran
  pub amount : ℕ
  pub within : amount ≤ length text
  pub took : Appends before after (take amount text)

-- What is left at each status: what the run of the input leaves where there was a text to write, and what was there where the run stopped
-- before. Nothing is said where there was no memory. `before` and `after` are what the output has taken.
abbrev pub RunLeaves : Status → Option Setting → Option (List ℕ) → Option (List ℕ) → Option (List ℕ) → Ran → Ran → Type 0
RunLeaves Done asked input before after ran ran' = LeavesBesideText asked input before after ran'
RunLeaves WriteFault asked input before after ran ran' = LeavesBesideFront asked input before after ran'
RunLeaves Usage asked input before after ran ran' = ran' ≡ ran
RunLeaves Refused asked input before after ran ran' = ran' ≡ ran
RunLeaves ReadFault asked input before after ran ran' = ran' ≡ ran
RunLeaves NoMemory asked input before after ran ran' = ⊤
