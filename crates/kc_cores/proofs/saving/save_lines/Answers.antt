-- The file has what the part took, and where a call failed no file has changed.
use Rattle.std.proofs.Common.{◌∙◌, sym}
use Rattle.std.proofs.lemmas.Result.{on_err_weaker, on_ok_weaker}
use Rattle.kc_files.proofs.Placed.{HasBytes-part, rose-above}
use Rattle.kc_read.proofs.Outcomes.{at_err, at_ok}
use Rattle.kc_cores.specs.Listings.{made_text}
use Rattle.kc_cores.proofs.saving.save_lines.Goals as goal

pub give_up-is_left-requires : goal.give_up-is_left-requires
give_up-is_left-requires g c = rose-above _ _ (at_err c.write.result c.write.ensures.cause.failed (sym c.is_err.ensures.value ∙ c.if-is_err.true))

pub returns-clause-saved : goal.returns-clause-saved
returns-clause-saved g c =
    let took = at_ok c.write.result c.write.ensures.whole (sym c.is_err.ensures.value ∙ c.if-is_err.false) in
    on_ok_weaker c.put_in_place.result (λ placed. HasBytes-part (g.P.Folder.holds c.begin.new.self) _ _ _ (made_text c.args.lines) placed
    c.in-Ok.ensures.begun.0
    c.put_in_place.ensures.untold took)
    c.put_in_place.ensures.placed

pub returns-clause-others : goal.returns-clause-others
returns-clause-others g c =
    on_ok_weaker c.put_in_place.result (λ _ file other. c.put_in_place.ensures.others file other ∙ c.in-Ok.ensures.holds file)
    c.put_in_place.ensures.placed

pub returns-clause-stays : goal.returns-clause-stays
returns-clause-stays g c =
    on_err_weaker c.put_in_place.result (λ stays file. stays file ∙ c.in-Ok.ensures.holds file) c.put_in_place.ensures.stays
