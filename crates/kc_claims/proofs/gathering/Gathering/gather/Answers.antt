-- The lines so far were taken, and the next one is refused, or it was taken too.
use Rattle.std.proofs.Common.{◌∙◌, ◌++◌, ◌∷◌, [], ℕ, List, ap, append_assoc, refl, sym}
use Rattle.kc_text.specs.Lines.{lines}
use Rattle.kc_claims.proofs.Gathered.{HasTakenLines-all, HasTakenLines-last, HaveCome-more, HaveCome-none}
use Rattle.kc_claims.proofs.gathering.Gathering.gather.Goals as goal

pub loop-line-init : goal.loop-line-init
loop-line-init c = record { fresh = c.requires; taken = ([], refl, HaveCome-none c.args.self.now) }

pub loop-line-preserved : goal.loop-line-preserved
loop-line-preserved c =
    let (more, cut, came) = c.loop-line.invariant.taken in
    let line : List ℕ = c.in-Some.line.now in
    record {
      fresh = c.in_default-refusal.is;
      taken = (
        more ++ line ∷ [],
        cut ∙ ap (λ (t : List (List ℕ)). more ++ t) c.in-Some.ensures.lines ∙ sym (append_assoc more (line ∷ []) (lines c.in-Some.more.now)),
        HaveCome-more c.args.self.now c.loop-line.self c.take_line.new.self more line came c.in_ok-take_line.ensures c.in_default-refusal.is,
      );
    }

pub returns-in-Some-refusal : goal.returns-in-Some-refusal
returns-in-Some-refusal c = λ start before ended h.
    let (more, cut, came) = c.loop-line.invariant.taken in
    HasTakenLines-last c.args.self.now c.loop-line.self c.take_line.new.self more c.in-Some.line.now came c.in_ok-take_line.ensures
    (lines c.in-Some.more.now) before c.args.lines.now c.in-Some-refusal.field-0 ended (h.listed c.requires) c.in-Some-refusal.is
    (cut ∙ ap (λ (t : List (List ℕ)). more ++ t) c.in-Some.ensures.lines)

pub returns : goal.returns
returns c = λ start before ended h.
    let (more, cut, came) = c.loop-line.invariant.taken in
    HasTakenLines-all c.args.self.now c.loop-line.self more (lines c.loop-line.rest.now) before c.args.lines.now ended (h.listed c.requires) came cut
    c.in_default.ensures.lines c.loop-line.invariant.fresh
