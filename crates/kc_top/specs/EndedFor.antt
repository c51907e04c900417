-- How a run ends, and what it has done then: the promise of `run`, clause by clause.
use Rattle.std.specs.Prelude.{◌≡◌, ◌⊎◌, ℕ, List, Option, Some, None, IfSome, is_some, false, true}
use Rattle.std.specs.Io.KnownBytes.{IsAtEnd}
use Rattle.kc_io.specs.declared.sink.Sink as sinks
use Rattle.kc_io.specs.declared.source.Source as sources
use Rattle.kc_text.specs.declared.kind.Kind.{Kind}
use Rattle.kc_text.specs.declared.limits.TheConstants.Limits.{KCORE}
use Rattle.kc_text.specs.Meaning.{Means, Refuses, Told, meaning}
use Rattle.kc_run.specs.declared.ran.Ran.{Ran}
use Rattle.kc_output.specs.declared.setting.Setting.{Setting}
use Rattle.kc_top.specs.ErrLines.{IsErrLine, OfferedLine, TookLine}
use Rattle.kc_top.specs.Faults.{RoseOnlyAt}
use Rattle.kc_top.specs.Given.{given, reads}
use Rattle.kc_top.specs.Leaving.{RunLeaves}
use Rattle.kc_top.specs.Outcome.{Offered, Took}
use Rattle.kc_top.specs.declared.Status.{Status}
use Rattle.kc_top.specs.declared.Status.TheVariants as status

-- A run for what the words ask for, if they are right, has ended with this status. `s` is its source, `o` its output, and `r` what it leaves
-- of its tables and receipts, each before and after; `source` and `out` say what is known of them.
pub record EndedFor {S O : Type 0} (source : sources.Ghosts S) (out : sinks.Ghosts O) (asked : Option Setting) (end : Status)
    (s s' : S) (o o' : O) (r r' : Ran) : Type 0 where
  -- The words are not right, and then nothing is read.
  pub usage : end ≡ status.Usage → asked ≡ None
  pub wrong_words : asked ≡ None → (end ≡ status.Usage) ⊎ (end ≡ status.NoMemory)
  pub unread : reads asked ≡ false → s' ≡ s
  -- The input is read to its end, and what is written is the text of what it tells.
  pub read : end ≡ status.Done → reads asked ≡ true → IsAtEnd (source.left s')
  pub took : Took end asked (given asked (source.left s)) (out.taken o) (out.taken o')
  pub offered : Offered end asked (given asked (source.left s)) (out.first o) (out.first o')
  -- What the run leaves is of the same bytes as the text.
  pub ran : RunLeaves end asked (given asked (source.left s)) (out.taken o) (out.taken o') r r'
  -- When each status comes. A fault of the source or of the output comes at its own status alone.
  pub read_fault : RoseOnlyAt status.ReadFault end (source.faults s) (source.faults s')
  pub write_fault : RoseOnlyAt status.WriteFault end (out.faults o) (out.faults o')
  pub refused : end ≡ status.Refused → IfSome (given asked (source.left s)) (λ bytes. (n : ℕ) × (kind : Kind) × (meaning KCORE bytes ≡ Refuses n kind))
  pub refuses : (setting : Setting) (bytes : List ℕ) (n : ℕ) (kind : Kind) → asked ≡ Some setting
      → given (Some setting) (source.left s) ≡ Some bytes → meaning KCORE bytes ≡ Refuses n kind
      → (end ≡ status.Refused) ⊎ (end ≡ status.ReadFault) ⊎ (end ≡ status.NoMemory)
  pub complete : (setting : Setting) (bytes : List ℕ) (told : Told) → asked ≡ Some setting
      → given (Some setting) (source.left s) ≡ Some bytes → meaning KCORE bytes ≡ Means told
      → (end ≡ status.Done) ⊎ (end ≡ status.ReadFault) ⊎ (end ≡ status.WriteFault) ⊎ (end ≡ status.NoMemory)
  pub accepted : (setting : Setting) → asked ≡ Some setting → is_some setting.generator ≡ true
      → (end ≡ status.Done) ⊎ (end ≡ status.WriteFault) ⊎ (end ≡ status.NoMemory)

-- The line about a run that ended with this status. It is offered whole, so the status is fixed before the sink answers; and nothing happens
-- to the sink where the run is done. `input` are the bytes of the input, where they are known, and `e` is the sink before and after.
pub record ToldEnd {E : Type 0} (err : sinks.Ghosts E) (input : Option (List ℕ)) (end : Status) (e e' : E) : Type 0 where
  pub quiet : end ≡ status.Done → e' ≡ e
  pub line : List ℕ
  pub is : IsErrLine end input line
  pub took : TookLine (err.taken e) (err.taken e') (err.faults e) (err.faults e') line
  pub offered : OfferedLine end (err.first e) (err.first e') line
