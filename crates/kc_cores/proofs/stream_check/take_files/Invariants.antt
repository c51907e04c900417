-- The files so far were taken, one after another, and no call of the input has failed.
use Rattle.std.proofs.Common.{◌≡◌, [], List, Option, Some, ℕ, map, take}
use Rattle.kc_claims.specs.Pieces.{HasTakenText}
use Rattle.kc_claims.specs.declared.claim.Claim.{Claim}
use Rattle.kc_cores.specs.StreamChecked.{IsTextOfFiles}
use Rattle.kc_cores.proofs.stream_check.take_files.Given as goal

abbrev pub invariant-loop-name : goal.invariant-loop-name
invariant-loop-name g l = record {
  came : (claims : List Claim) → HasTakenText claims (Some []) l.fn.check
      → (known : Option (List ℕ)) × IsTextOfFiles g.I.FileInput.behind l.fn.input (take l.name-index (map (λ t. t.now) l.files)) known
      × HasTakenText claims known l.check;
  faultless : g.I.Source.faults l.input ≡ g.I.Source.faults l.fn.input;
  first : l.name-index ≡ 0 → l.input ≡ l.fn.input;
}
