-- Why a file was not written, in words.
use Rattle.std.specs.Prelude.{ℕ, List, codes}
use Rattle.kc_files.specs.declared.fault.FolderFault.{FolderFault}
use Rattle.kc_files.specs.declared.fault.FolderFault.TheVariants.{Missing, Folder, Special, Forbidden, Begun, Full, Cut, Other}

-- the cause, and how it is mended where that is not plain
abbrev pub fault_sentence : FolderFault → List ℕ
fault_sentence Missing = codes "No such file or directory"
fault_sentence Folder = codes "Is a directory"
fault_sentence Special = codes "it is a link, a pipe or a device, and is not replaced; name another file, or write the output to it with >"
fault_sentence Forbidden = codes "Permission denied"
fault_sentence Begun = codes "a file of this name with .part behind it is there, of a run that goes on or was cut off; remove it if no run goes on"
fault_sentence Full = codes "No space left on device"
fault_sentence Cut = codes "the output could not be written to its end"
fault_sentence Other = codes "the file could not be written"
