-- All claims are taken: then each vertex is marked, or the first that is not shows an id that is missing.
use Rattle.std.proofs.Common.{◌≡◌, ◌<◌, ℕ, Bool, List, length, refl, subst, true}
use Rattle.kc_claims.specs.Certificates.{IsFirstFault}
use Rattle.kc_claims.specs.Taking.{IsUnmarkedFirst, is_marked}
use Rattle.kc_claims.specs.declared.fault.ClaimFault.TheVariants as fault
use Rattle.kc_claims.proofs.Told.{IsMissing-taken, TellEach-taken}
use Rattle.kc_claims.proofs.taking.told_by.Goals as goal

pub returns-in-None-clause-told : goal.returns-in-None-clause-told
returns-in-None-clause-told c =
    TellEach-taken c.args.ids.now c.args.claims.now c.in_ok-taken.taken c.in_ok-taken.ensures.taken
    (subst (λ (named : List Bool). (v : ℕ) → v < length c.args.ids.now → is_marked named v ≡ true) c.deref.ensures.value (c.in-None.ensures.none refl))

pub returns-in-Some-clause-faulty : goal.returns-in-Some-clause-faulty
returns-in-Some-clause-faulty c = λ g found h.
    let same : fault.Missing c.in-Some.id ≡ found = cc in
    subst (IsFirstFault c.args.ids.now g c.args.claims.now) same
    (IsMissing-taken c.args.ids.now c.args.claims.now c.in_ok-taken.taken c.in_ok-taken.ensures.taken c.requires.ascending c.in-Some.id
    (subst (λ (named : List Bool). IsUnmarkedFirst c.args.ids.now named c.in-Some.id) c.deref.ensures.value c.in-Some.ensures.found))
