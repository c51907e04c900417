-- One text goes on after another.
use Rattle.std.proofs.Common.{◌++◌, [], ◌∷◌, codes}
use Rattle.std.specs.List.{flat_map}
use Rattle.std.proofs.lemmas.Result.{on_err_weaker, on_ok_weaker}
use Rattle.kc_lists.proofs.Results.{on_err-anyhow}
use Rattle.kc_lines.specs.Json.{json_byte}
use Rattle.kc_lines.proofs.Paging.{PassesOn-trans, PassesPart-later, PassesPart-wider}
use Rattle.kc_lines.proofs.json.put_string.Goals as goal

pub returns-in_err-put-clause-part : goal.returns-in_err-put-clause-part
returns-in_err-put-clause-part g c =
    on_err-anyhow c.from_residual.result
    (PassesPart-wider _ _ c.args.page.now (34 ∷ []) (flat_map json_byte c.args.bytes.now ++ codes "\"") c.in_err-put.ensures.part)

pub returns-clause-passes : goal.returns-clause-passes
returns-clause-passes g c =
    on_ok_weaker c.put_string_end.result (λ last.
    PassesOn-trans _ _ _ c.args.page.now c.put.new.self c.put_string_end.new.page (34 ∷ []) (flat_map json_byte c.args.bytes.now ++ codes "\"")
    c.in_ok-put.ensures.passes last)
    c.put_string_end.ensures.passes

pub returns-clause-part : goal.returns-clause-part
returns-clause-part g c =
    on_err_weaker c.put_string_end.result (λ last.
    PassesPart-later _ _ _ c.args.page.now c.put.new.self (34 ∷ []) (flat_map json_byte c.args.bytes.now ++ codes "\"") c.in_ok-put.ensures.passes last)
    c.put_string_end.ensures.part
