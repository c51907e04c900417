-- One text goes on after another.
use Rattle.std.proofs.Common.{[], ◌∷◌}
use Rattle.std.specs.List.{flat_map}
use Rattle.std.proofs.lemmas.Result.{on_err_weaker, on_ok_weaker}
use Rattle.kc_lists.proofs.Results.{on_err-anyhow}
use Rattle.kc_lines.specs.Json.{json_byte}
use Rattle.kc_lines.proofs.Paging.{PassesOn-trans, PassesPart-later, PassesPart-wider}
use Rattle.kc_lines.proofs.json.put_string_end.Goals as goal

pub returns-in_err-put_bytes-clause-part : goal.returns-in_err-put_bytes-clause-part
returns-in_err-put_bytes-clause-part g c =
    on_err-anyhow c.from_residual.result (PassesPart-wider _ _ c.args.page.now (flat_map json_byte c.args.bytes.now) (34 ∷ []) c.in_err-put_bytes.ensures.part)

pub returns-clause-passes : goal.returns-clause-passes
returns-clause-passes g c =
    on_ok_weaker c.put.result (λ last.
    PassesOn-trans _ _ _ c.args.page.now c.put_bytes.new.page c.put.new.self (flat_map json_byte c.args.bytes.now) (34 ∷ [])
    c.in_ok-put_bytes.ensures.passes last)
    c.put.ensures.passes

pub returns-clause-part : goal.returns-clause-part
returns-clause-part g c =
    on_err_weaker c.put.result (λ last.
    PassesPart-later _ _ _ c.args.page.now c.put_bytes.new.page (flat_map json_byte c.args.bytes.now) (34 ∷ []) c.in_ok-put_bytes.ensures.passes last)
    c.put.ensures.part
