-- An id that has a place is one of them.
use Rattle.std.proofs.Common.{◌∙◌, ap, refl, sym}
use Rattle.kc_lists.specs.Lists.{member}
use Rattle.kc_lists.proofs.Counting.{member-get_or}
use Rattle.kc_claims.proofs.looking.place_among.Goals as goal

pub returns-in-Some-clause-among : goal.returns-in-Some-clause-among
returns-in-Some-clause-among c =
    sym (ap (λ id. member id c.args.ids.now) (sym c.in-Some.ensures.found.1) ∙ member-get_or c.args.ids.now c.in-Some.v 0 c.in-Some.ensures.found.0)

pub returns-in-None-clause-among : goal.returns-in-None-clause-among
returns-in-None-clause-among c = sym (c.in-None.ensures.none refl)
