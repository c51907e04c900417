-- No line came of the text, and the sweep is as it was.
use Rattle.std.proofs.Common.{append-nil, refl, subst, sym}
use Rattle.kc_claims.specs.Sweeping.{HasSwept}
use Rattle.kc_claims.proofs.Insisted.{KeepsTold-same}
use Rattle.kc_claims.proofs.insisting.Insisting.begin_text.Goals as goal

pub returns-clause-begun : goal.returns-clause-begun
returns-clause-begun c = record {
  first = c.requires.clean;
  followed = λ _. record {
    begun = c.requires.swept;
    swept = λ first earlier ends h. subst (HasSwept first c.args.self.now.sweep) (sym (append-nil earlier)) h;
    lines = refl;
    last = refl;
  };
  kept = KeepsTold-same c.args.self.now.sweep;
}
