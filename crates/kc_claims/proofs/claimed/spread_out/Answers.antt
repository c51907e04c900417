-- The columns stand by the vertices now, and so each vertex is told what the claim of its id tells.
use Rattle.std.proofs.Common.{◌≡◌, ◌∙◌, ℕ, List, ap, arith, length, subst}
use Rattle.kc_claims.specs.Judging.{AreMoved, AreSpread, IsSpread, TellPlaces}
use Rattle.kc_claims.specs.Stretches.{AreStretched}
use Rattle.kc_claims.specs.declared.claim.Claim.{Claim}
use Rattle.kc_claims.specs.declared.claimed.Spread.{Spread}
use Rattle.kc_claims.specs.declared.table.ClaimTable.{ClaimTable}
use Rattle.kc_claims.proofs.claimed.spread_out.Goals as goal

-- columns that are moved to their vertices tell these what the claims tell
IsSpread-moved : (ids : List ℕ) (claims : List Claim) (table : ClaimTable) (spread : Spread) → AreSpread ids claims table
    → length spread.core.items ≡ length table.ids.items → length spread.rank.items ≡ length table.ids.items
    → AreMoved table.ids.items table.numbers.items spread.core.items → AreMoved table.ids.items table.ranks.items spread.rank.items
    → TellPlaces table.ids.items spread.rank.items spread.lines.places → AreStretched claims spread.lines.stretches.items
    → IsSpread ids claims table.ids.items spread
IsSpread-moved ids claims table spread h cores ranks numbered ranked places stretched = record {
  told = record {
    one_number = omega (arith, cores, h.placed.one_each, h.placed.one_id);
    one_rank = omega (arith, ranks, h.placed.one_each, h.placed.one_id);
    all = record {
      one_each = size;
      vertices = λ i l. h.placed.vertices i (omega (arith, l, h.told.ids_each));
      named = λ i l. h.placed.named_so i (omega (arith, l, h.told.ids_each)) ∙ h.told.id i l;
      numbers = λ i l. numbered i (omega (arith, l, size)) ∙ h.columns.number i l;
      ranks = λ i l. ranked i (omega (arith, l, size)) ∙ h.columns.rank i l;
    };
    enumerates = h.placed.enumerates;
  };
  lines = record { places = places; stretched = stretched };
}
  where
    size : length table.ids.items ≡ length claims
    size = h.placed.one_each ∙ h.told.ids_each

pub returns : goal.returns
returns c = λ ids claims h.
    let order : List ℕ = c.args.table.ids.items in
    let ranks : List ℕ = c.args.table.ranks.items in
    let rank : List ℕ = c.in_ok-rank.rank.items in
    let ranked : AreMoved order ranks rank =
    subst (λ (xs : List ℕ). AreMoved xs ranks rank) c.deref-5.ensures.value (λ i l. c.in_ok-rank.ensures.moved i 0 l) in
    IsSpread-moved ids claims c.args.table
    (record { core = c.in_ok-core.core; rank = c.in_ok-rank.rank; lines = record { places = c.in_ok-places.places; stretches = c.args.table.stretches } }) h
    (c.in_ok-core.ensures.one_each ∙ ap length c.deref-2.ensures.value) (c.in_ok-rank.ensures.one_each ∙ ap length c.deref-5.ensures.value)
    (subst (λ (xs : List ℕ). AreMoved xs c.args.table.numbers.items c.in_ok-core.core.items) c.deref-2.ensures.value
    (λ i l. c.in_ok-core.ensures.moved i 0 l)) ranked
    (subst (λ (xs : List ℕ). TellPlaces xs rank c.in_ok-places.places) c.deref-3.ensures.value
    (c.in_ok-places.ensures rank
    (subst (λ (xs : List ℕ). AreMoved xs c.deref-4.result.now rank) (let e : order ≡ c.deref-3.result.now = cc in e)
    (subst (λ (xs : List ℕ). AreMoved order xs rank) (let e : ranks ≡ c.deref-4.result.now = cc in e) ranked)))) h.columns.stretched
