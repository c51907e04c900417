-- A vertex of the list stands where its place says.
use Rattle.std.proofs.Common.{◌≡◌, ◌<◌, ◌≤◌, ℕ, List, length, get_or, eqb, refl, sym, ap, ◌∙◌, arith}
use Rattle.std.proofs.lemmas.Bool.{eqb-true, false≢true, le-ltb}
use Rattle.std.proofs.lemmas.List.{get_or-map, length-map}
use Rattle.kc_keeper.specs.Cores.{changed_vertices}
use Rattle.kc_keeper.specs.declared.changes.CoreChange.{CoreChange}
use Rattle.kc_keeper.proofs.KeptNumbers.{member-from_place, stands-nowhere, stands-there}
use Rattle.kc_keeper.proofs.earlier.stands_in.Goals as goal

abbrev vertex_of : CoreChange → ℕ
vertex_of c = c.vertex

pub returns-then-place-changes-clause-there : goal.returns-then-place-changes-clause-there
returns-then-place-changes-clause-there c holds =
    let cs : List CoreChange = c.args.changes.now in
    let place : ℕ = get_or c.args.places.now c.args.vertex 0 in
    let many : length (changed_vertices cs) ≡ length cs = length-map cs vertex_of in
    let low : place < length cs = c.if-place-changes.true in
    member-from_place c.args.places.now (changed_vertices cs) c.args.vertex (record {
      low = omega (arith, low, many);
      here = get_or-map vertex_of cs place _ 0 low ∙ eqb-true _ c.args.vertex holds;
    })

pub returns-then-place-changes-clause-same : goal.returns-then-place-changes-clause-same
returns-then-place-changes-clause-same c indexed =
    let cs : List CoreChange = c.args.changes.now in
    let place : ℕ = get_or c.args.places.now c.args.vertex 0 in
    let many : length (changed_vertices cs) ≡ length cs = length-map cs vertex_of in
    let low : place < length cs = c.if-place-changes.true in
    ap (λ (v : ℕ). eqb v c.args.vertex) (sym (get_or-map vertex_of cs place _ 0 low))
    ∙ stands-there c.args.places.now (changed_vertices cs) c.args.vertex place refl (omega (arith, low, many)) indexed

pub returns-else-place-changes-clause-there : goal.returns-else-place-changes-clause-there
returns-else-place-changes-clause-there c holds =
    absurd (false≢true (sym (le-ltb _ _ c.if-place-changes.false) ∙ holds))

pub returns-else-place-changes-clause-same : goal.returns-else-place-changes-clause-same
returns-else-place-changes-clause-same c indexed =
    let cs : List CoreChange = c.args.changes.now in
    let place : ℕ = get_or c.args.places.now c.args.vertex 0 in
    let many : length (changed_vertices cs) ≡ length cs = length-map cs vertex_of in
    let high : length cs ≤ place = c.if-place-changes.false in
    le-ltb place (length cs) high ∙ sym (stands-nowhere c.args.places.now (changed_vertices cs) c.args.vertex place refl (omega (arith, high, many)) indexed)
