-- What is told of a file that was not written.
use Rattle.std.specs.Prelude.{◌≡◌, ◌⊎◌, ◌++◌, ℕ, Bool, List, [], ◌∷◌, codes, if◌then◌else◌}
use Rattle.kc_files.specs.Faults.{fault_sentence}
use Rattle.kc_files.specs.declared.fault.FolderFault.{FolderFault}
use Rattle.kc_cores.specs.Sentences.{write_fault_line}

-- what is told of a part that could not be taken away
abbrev pub left_beside : List ℕ → Bool → List ℕ
left_beside name is_left = if is_left then codes "; " ++ (name ++ codes ".part is left beside it") else []

-- `cores: FILE: No space left on device`
abbrev pub unsaved_line : List ℕ → FolderFault → Bool → List ℕ
unsaved_line name fault is_left = codes "cores: " ++ (name ++ (codes ": " ++ (fault_sentence fault ++ (left_beside name is_left ++ 10 ∷ []))))

-- the line about a file that was not written, which lacks the name where there is no memory for it
abbrev pub IsUnsavedLine : List ℕ → List ℕ → Type 0
IsUnsavedLine name line = ((fault : FolderFault) × (is_left : Bool) × (line ≡ unsaved_line name fault is_left)) ⊎ (line ≡ write_fault_line)
