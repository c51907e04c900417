-- Each lane stops just at a gap.
use Rattle.std.proofs.Common.{◌≡◌, ℕ, List, length, take, leb, cond, refl, arith, length-take, suc}
use Rattle.std.proofs.lemmas.Simd.{splat_is_map, zip2_of_maps, zip2_splat}
use Rattle.kc_dialect.proofs.GapBits.{block-gaps}
use Rattle.kc_dialect.proofs.gaps.gaps_of.Goals as goal

pub returns : goal.returns
returns c =
    let bytes : List ℕ = c.args.bytes.now in
    let v : List ℕ = take 64 bytes in
    let long : length v ≡ 64 = omega (arith, length-take 64 bytes, c.requires) in
    block-gaps bytes _ _ c.requires c.type_inv.bytes
    (zip2_of_maps (λ (a b : ℕ). cond (leb (suc a) b) 255 0) _ _ v (splat_is_map v 64 9 long) (zip2_splat {Y = ℕ} _ v 64 48 long)) refl
