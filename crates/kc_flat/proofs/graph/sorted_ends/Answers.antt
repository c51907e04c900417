-- The parts of the gathered ends are sorted, and have the same numbers.
use Rattle.std.proofs.Common.{◌≡◌, ◌<◌, ◌++◌, ℕ, true, List, length, take, drop, map, refl, ap, ap₂, sym, ◌∙◌, subst, arith}
use Rattle.std.specs.Prelude.{All}
use Rattle.std.specs.List.Sorted.{IsNonDecreasing}
use Rattle.kc_lists.specs.Lists.{member}
use Rattle.kc_graph.specs.Bulk.{is_within, are_joined}
use Rattle.kc_graph.specs.Gathering.{edge_of, ends_at, first_place, Filled}
use Rattle.kc_graph.specs.declared.bulk.Edge.{Edge}
use Rattle.kc_graph.proofs.Scattering.{list-written}
use Rattle.kc_flat.specs.Pairs.{AreWithin}
use Rattle.kc_flat.specs.Parts.{part, AreEndsOf, Fills}
use Rattle.kc_flat.proofs.Cutting.{fills-resized}
use Rattle.kc_flat.proofs.Pairing.{edges-within, gathered-fills, gathered-joined}
use Rattle.kc_flat.proofs.graph.sorted_ends.Goals as goal

-- What is known of the gathered ends.
record Gathers (edges : List Edge) (ends block : List ℕ) : Type 0 where
  fills : Fills ends block
  joined : (v w : ℕ) → v < length ends → member w (part ends block v) ≡ are_joined edges v w

-- So much is known, where they are handed over too.
gathers : (pairs : List (ℕ × ℕ)) (n : ℕ) (made filled ends block : List ℕ) → AreWithin n pairs → length made ≡ n
    → length filled ≡ first_place (map edge_of pairs) n
    → Filled (first_place (map edge_of pairs)) (ends_at (map edge_of pairs)) made filled → ends ≡ made → block ≡ filled
    → Gathers (map edge_of pairs) ends block
gathers pairs n made filled ends block within count size h e b =
    let edges : List Edge = map edge_of pairs in
    let counted : length ends ≡ n = ap length e ∙ count in
    let all : All (λ e. is_within (length ends) e ≡ true) edges =
    subst (λ (k : ℕ). All (λ e. is_within k e ≡ true) edges) (sym counted) (edges-within n pairs within) in
    let put : Filled (first_place edges) (ends_at edges) ends block =
    subst (λ (t : List ℕ). Filled (first_place edges) (ends_at edges) t block) (sym e)
    (subst (λ (t : List ℕ). Filled (first_place edges) (ends_at edges) made t) (sym b) h) in
    let long : length block ≡ first_place edges (length ends) = ap length b ∙ size ∙ ap (first_place edges) (sym counted) in
    record { fills = gathered-fills edges ends block all put long; joined = gathered-joined edges ends block all put long }

pub gather-requires : goal.gather-requires
gather-requires c = edges-within c.args.vertices c.args.pairs.now c.requires

pub sort_parts-requires : goal.sort_parts-requires
sort_parts-requires c =
    (gathers c.args.pairs.now c.args.vertices c.in_ok-gathered.gathered.ends.items c.in_ok-gathered.gathered.block.items c.deref.result.now
    c.deref_mut.result.now c.requires c.in_ok-gathered.ensures.count c.in_ok-gathered.ensures.whole c.in_ok-gathered.ensures.filled
    c.deref.ensures.value c.deref_mut.ensures.value).fills

pub returns-clause-ends : goal.returns-clause-ends
returns-clause-ends c =
    let ends : List ℕ = c.in_ok-gathered.gathered.ends.items in
    let block : List ℕ = c.in_ok-gathered.gathered.block.items in
    let n : length ends ≡ c.args.vertices = c.in_ok-gathered.ensures.count in
    let g = gathers c.args.pairs.now c.args.vertices ends block ends block c.requires n c.in_ok-gathered.ensures.whole
    c.in_ok-gathered.ensures.filled refl refl in
    let ends-is : c.deref.result.now ≡ ends = c.deref.ensures.value in
    let block-is : c.deref_mut.result.now ≡ block = c.deref_mut.ensures.value in
    let long : length c.sort_parts.new.block ≡ length block = omega (arith, c.sort_parts.ensures.len, ap length block-is) in
    let written : take c.in_ok-gathered.gathered.block.len (c.sort_parts.new.block ++ drop (length c.sort_parts.new.block) block) ≡ c.sort_parts.new.block =
    list-written c.sort_parts.new.block block c.in_ok-gathered.gathered.block.len (omega (arith, c.in_ok-gathered.gathered.block.ok.0, long)) in
    subst (AreEndsOf (map edge_of c.args.pairs.now) ends) (sym written) (record {
      within =
          subst (λ (k : ℕ). All (λ e. is_within k e ≡ true) (map edge_of c.args.pairs.now)) (sym n)
          (edges-within c.args.vertices c.args.pairs.now c.requires);
      fills = fills-resized ends block g.fills c.sort_parts.new.block long;
      sorted = λ v l.
          subst (λ (t : List ℕ). IsNonDecreasing (part t c.sort_parts.new.block v)) ends-is
          (c.sort_parts.ensures.sorted v (omega (arith, l, ap length ends-is)));
      joined = λ v w l.
          ap (λ (t : List ℕ). member w (part t c.sort_parts.new.block v)) (sym ends-is) ∙ c.sort_parts.ensures.same v w (omega (arith, l, ap length ends-is))
          ∙ ap₂ (λ (s t : List ℕ). member w (part s t v)) ends-is block-is ∙ g.joined v w l;
    })
