-- What folders hold.
use Rattle.std.specs.Prelude.{◌≡◌, ℕ, Bool, List, [], Option, None, Some, IfSome, if◌then◌else◌}
use Rattle.std.specs.Str.{bytes_eq}
use Rattle.kc_io.specs.Memory.{SinkState}
use Rattle.kc_files.specs.declared.fault.FolderFault.{FolderFault}

-- What is known of the file of some name: nothing, or its bytes, or that there is none.
abbrev pub Held : Type 0
Held = Option (Option (List ℕ))

-- what is known of a file whose bytes are those of a part, where they are known
abbrev pub held_as : Option (List ℕ) → Held
held_as None = None
held_as (Some bytes) = Some (Some bytes)

-- the file has these bytes, where that is told
abbrev pub HasBytes : Held → List ℕ → Type 0
HasBytes held bytes = IfSome held (λ file. file ≡ Some bytes)

-- all files are as they were
abbrev pub AllStay : {P : Type 0} → (P → List ℕ → Held) → P → P → Type 0
AllStay holds p p' = (file : List ℕ) → holds p' file ≡ holds p file

-- all other files are as they were
abbrev pub OthersStay : {P : Type 0} → (P → List ℕ → Held) → List ℕ → P → P → Type 0
OthersStay holds name p p' = (file : List ℕ) → (file ≡ name → ⊥) → holds p' file ≡ holds p file

-- nothing is known of any file
abbrev pub TellsNothing : (List ℕ → Held) → Type 0
TellsNothing holds = (file : List ℕ) → holds file ≡ None

-- a part of a folder was begun: it has no bytes, and where it does not tell them, nothing is known of any file
abbrev pub IsBegun : Option (List ℕ) → (List ℕ → Held) → Type 0
IsBegun None holds = TellsNothing holds
IsBegun (Some bytes) holds = bytes ≡ []

-- what contracts see of a folder of the operating system: how many calls have failed
pub record UntoldFolder : Type 0 where
  pub failed : ℕ

-- What contracts see of a folder in memory: the name of its file and its bytes if it is there, the sink that becomes its part, why a part is
-- not begun and why it is not put in place if that is so, whether a part can't be taken away, and how many calls have failed.
pub record FolderState : Type 0 where
  pub name : List ℕ
  pub bytes : Option (List ℕ)
  pub part : Option SinkState
  pub unbegun : Option FolderFault
  pub unplaced : Option FolderFault
  pub sticks : Bool
  pub failed : ℕ

-- the bytes of a file: those that were put in its place, or else those before
abbrev pub bytes_after : Option (List ℕ) → Option (List ℕ) → Option (List ℕ)
bytes_after None before = before
bytes_after (Some placed) before = Some placed

-- a sink has taken nothing, and no call of it has failed
abbrev pub IsFresh : SinkState → Type 0
IsFresh sink = (sink.taken ≡ []) × (sink.calls.failed ≡ 0)

-- the file of this name in a folder in memory
abbrev pub held_in : FolderState → List ℕ → Held
held_in folder name = Some (if bytes_eq folder.name name then folder.bytes else None)

-- nothing is known of a file
abbrev pub untold : Held
untold = None
