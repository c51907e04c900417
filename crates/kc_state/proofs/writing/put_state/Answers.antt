-- The last line goes on behind the others.
use Rattle.std.proofs.Common.{◌≡◌, ◌∙◌, ℕ, ap, codes, subst}
use Rattle.std.proofs.lemmas.Result.{on_err_weaker, on_ok_weaker}
use Rattle.kc_lists.proofs.Results.{on_err-anyhow}
use Rattle.kc_lines.specs.Pages.{PassesOn, PassesPart}
use Rattle.kc_lines.proofs.Paging.{PassesOn-trans, PassesPart-later, PassesPart-wider}
use Rattle.kc_state.specs.Texts.{KeptParts, body_text, state_text, sum_from, named_line}
use Rattle.kc_state.proofs.writing.put_state.Goals as goal

-- the check sum is that of all lines but the last
summed-from_nothing : (now sum : ℕ) (s : KeptParts) → sum ≡ 0 → now ≡ sum_from sum (body_text s) → now ≡ sum_from 0 (body_text s)
summed-from_nothing now sum s none is = is ∙ ap (λ n. sum_from n (body_text s)) none

pub returns-in_err-put_body-clause-part : goal.returns-in_err-put_body-clause-part
unfolding state_text
returns-in_err-put_body-clause-part g c =
    let s : KeptParts = record { batches = c.args.batches; ids = c.args.ids.now; ranked = c.args.lawful.now } in
    on_err-anyhow c.from_residual.result
    (PassesPart-wider _ _ c.args.summed.now.page (body_text s) (named_line (codes "sum ") (sum_from 0 (body_text s))) c.in_err-put_body.ensures.part)

pub returns-clause-passes : goal.returns-clause-passes
unfolding state_text
returns-clause-passes g c =
    let s : KeptParts = record { batches = c.args.batches; ids = c.args.ids.now; ranked = c.args.lawful.now } in
    let sum = summed-from_nothing c.put_body.new.summed.sum c.args.summed.now.sum s c.requires.nothing c.in_ok-put_body.ensures.put.summed in
    on_ok_weaker c.put_named.result (λ last.
    PassesOn-trans _ _ _ c.args.summed.now.page c.put_body.new.summed.page c.put_named.new.self.page (body_text s)
    (named_line (codes "sum ") (sum_from 0 (body_text s))) c.in_ok-put_body.ensures.put.passes
    (subst (λ (n : ℕ). PassesOn (g.O.Sink.taken c.put_body.new.out) (g.O.Sink.taken c.put_named.new.out) c.put_body.new.summed.page
    c.put_named.new.self.page (named_line (codes "sum ") n)) sum last.passes))
    c.put_named.ensures.put

pub returns-clause-part : goal.returns-clause-part
unfolding state_text
returns-clause-part g c =
    let s : KeptParts = record { batches = c.args.batches; ids = c.args.ids.now; ranked = c.args.lawful.now } in
    let sum = summed-from_nothing c.put_body.new.summed.sum c.args.summed.now.sum s c.requires.nothing c.in_ok-put_body.ensures.put.summed in
    on_err_weaker c.put_named.result (λ last.
    PassesPart-later _ _ _ c.args.summed.now.page c.put_body.new.summed.page (body_text s)
    (named_line (codes "sum ") (sum_from 0 (body_text s))) c.in_ok-put_body.ensures.put.passes
    (subst (λ (n : ℕ). PassesPart (g.O.Sink.taken c.put_body.new.out) (g.O.Sink.taken c.put_named.new.out) c.put_body.new.summed.page
    (named_line (codes "sum ") n)) sum last))
    c.put_named.ensures.part
