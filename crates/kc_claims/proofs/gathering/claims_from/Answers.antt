-- All lines of the source were taken: one of them is refused, or their claims are put.
use Rattle.std.proofs.Common.{◌≡◌, ◌∙◌, Err, Ok, Some, ap}
use Rattle.kc_text.specs.declared.refusal.Refusal.{Refusal}
use Rattle.kc_claims.proofs.Joined.{claims_of-is}
use Rattle.kc_claims.proofs.gathering.claims_from.Goals as goal

pub returns-in-Some-clause-refused : goal.returns-in-Some-clause-refused
returns-in-Some-clause-refused g c = λ refusal e.
    let fed = c.in-Ok.ensures.fed in
    let same : c.in-Some.refusal ≡ refusal = cc in
    record {
      text = fed.text;
      read = fed.read;
      few = fed.few;
      means = claims_of-is fed.text (Err refusal) (fed.took.refused refusal (c.in-Some.is ∙ ap (λ (r : Refusal). Some r) same));
    }

pub returns-in-Ok-clause-claims : goal.returns-in-Ok-clause-claims
returns-in-Ok-clause-claims g c =
    let fed = c.in-Ok.ensures.fed in
    let listed = fed.took.listed c.in-None.is in (
      listed.claims,
      record {
        text = fed.text;
        read = fed.read;
        few = fed.few;
        means = claims_of-is fed.text (Ok listed.claims) listed.means;
        tabled = listed.tabled;
      },
    )
