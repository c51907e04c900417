-- Why an input gives no graph.
use Rattle.std.proofs.Common.{◌≡◌, ℕ, List, Option, IfSome}
use Rattle.kc_wishes.specs.Wishes.{GraphText}
use Rattle.kc_cores.specs.Answers.{IsRefusedBy}
use Rattle.kc_cores.specs.Endings.{HasNoGraph, NoGraphAt, RefusalAt, TellsRefusal, line_of}
use Rattle.kc_cores.specs.Sentences.{GraphRefusal}
use Rattle.kc_cores.specs.declared.CoresStatus.{CoresStatus}
use Rattle.kc_cores.specs.declared.CoresStatus.TheVariants as status
use Rattle.kc_cores.specs.declared.ending.Ending.{Ending}

-- a refusal says why there is no graph
refused-no_graph : (end : CoresStatus) (line : List ℕ) (graph : GraphText) (refusal : GraphRefusal) (known : Option (List ℕ)) (f f' : ℕ)
    → RefusalAt end line graph refusal → IfSome known (λ bytes. IsRefusedBy graph.dialect bytes refusal) → f' ≡ f
    → NoGraphAt end line graph known f f'
refused-no_graph status.Refused line graph refusal known f f' h m kept = (refusal, h, m, kept)
refused-no_graph status.NoMemory line graph refusal known f f' h m kept = (h, kept)
refused-no_graph _ line graph refusal known f f' h m kept = absurd h

-- an ending by a refusal says why there is no graph
pub HasNoGraph-refused : (e : Ending) (graph : GraphText) (refusal : GraphRefusal) (known : Option (List ℕ)) (f f' : ℕ)
    → TellsRefusal e graph refusal → IfSome known (λ bytes. IsRefusedBy graph.dialect bytes refusal) → f' ≡ f → HasNoGraph e graph known f f'
HasNoGraph-refused e graph refusal known f f' h m kept = refused-no_graph e.status (line_of e) graph refusal known f f' h m kept
