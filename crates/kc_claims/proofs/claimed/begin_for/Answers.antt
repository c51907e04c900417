-- An id is one of those before it, or the column of ids has their vertices.
use Rattle.std.proofs.Common.{◌≡◌, ◌<◌, ◌++◌, ◌∙◌, ℕ, List, ap, arith, drop, length, refl, subst, sym, take}
use Rattle.std.proofs.lemmas.List.{take_at}
use Rattle.kc_graph.specs.Peeling.{at}
use Rattle.kc_claims.specs.Certificates.{IsFirstFault, claim_at}
use Rattle.kc_claims.specs.Placing.{AreVertices, IsSecond}
use Rattle.kc_claims.specs.declared.fault.ClaimFault.TheVariants as fault
use Rattle.kc_claims.proofs.Seconds.{IsFirstFault-second}
use Rattle.kc_claims.proofs.claimed.begin_for.Goals as goal

-- what is written back is all of the column
back : (now old : List ℕ) (len : ℕ) → length now ≡ length old → len ≡ length old → take len (now ++ drop (length now) old) ≡ now
back now old len same is = take_at now (drop (length now) old) len (same ∙ sym is)

pub returns-in-Ok-begun-clause-claimed : goal.returns-in-Ok-begun-clause-claimed
returns-in-Ok-begun-clause-claimed c = λ claims tabled.
    let old : List ℕ = c.args.table.ids.items in
    let now : List ℕ = c.place_each.new.column in
    let size : length now ≡ length old = c.place_each.ensures.one_each ∙ ap length c.deref_mut.ensures.value in
    let placed : AreVertices c.args.ids.items old now =
    subst (λ (xs : List ℕ). AreVertices xs old now) c.deref.ensures.value
    (subst (λ (xs : List ℕ). AreVertices c.deref.result.now xs now) c.deref_mut.ensures.value c.in-Ok.ensures.placed) in (
      _,
      c.in-Ok-begun.ensures claims (record {
        column = old;
        told = tabled.ids;
        placed = subst (AreVertices c.args.ids.items old) (sym (back now old c.args.table.ids.len size c.args.table.ids.ok.0)) placed;
        columns = tabled.columns;
      }),
    )

pub claim-requires-clause-ids : goal.claim-requires-clause-ids
claim-requires-clause-ids c =
    let old : List ℕ = c.args.table.ids.items in
    let now : List ℕ = c.place_each.new.column in
    let size : length now ≡ length old = c.place_each.ensures.one_each ∙ ap length c.deref_mut.ensures.value in
    let second = rw c.in-Err-Second.field-0-is at c.in-Err-Second.ensures.second in
    let (s, stays) = second c.in-Err-Second.place refl in
    omega (
      arith,
      s.within,
      c.in-Err-Second.place-is,
      size,
      ap length c.deref_mut.ensures.value,
      ap length (back now old c.args.table.ids.len size c.args.table.ids.ok.0),
    )

pub returns-in-Err-Second-clause-faulty : goal.returns-in-Err-Second-clause-faulty
returns-in-Err-Second-clause-faulty c = λ claims found tabled e.
    let old : List ℕ = c.args.table.ids.items in
    let now : List ℕ = c.place_each.new.column in
    let place : ℕ = c.in-Err-Second.place in
    let size : length now ≡ length old = c.place_each.ensures.one_each ∙ ap length c.deref_mut.ensures.value in
    let second = rw c.in-Err-Second.field-0-is at c.in-Err-Second.ensures.second in
    let (s, stays) = second place refl in
    let within : place < length claims = omega (arith, s.within, ap length c.deref_mut.ensures.value, tabled.ids.ids_each) in
    let told =
    subst (λ p. p < length claims → at (take c.args.table.ids.len (now ++ drop (length now) old)) p ≡ (claim_at claims p).id
    → c.claim.result ≡ claim_at claims p) c.in-Err-Second.place-is (c.claim.ensures claims tabled.columns) in
    let same : fault.Repeated c.claim.result ≡ found = cc in (
      old,
      λ g.
          subst (IsFirstFault old g claims) same
          (IsFirstFault-second claims old c.claim.result place tabled.ids
          (subst (λ (xs : List ℕ). IsSecond xs place) c.deref_mut.ensures.value s)
          (told within
          (ap (λ (xs : List ℕ). at xs place) (back now old c.args.table.ids.len size c.args.table.ids.ok.0) ∙ stays
          ∙ ap (λ (xs : List ℕ). at xs place) c.deref_mut.ensures.value ∙ tabled.ids.id place within))),
    )
