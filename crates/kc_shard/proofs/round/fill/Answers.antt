-- A row lies within the entries, and its h-index is at most its length. What the row gets stands at its place, and the others stay.
use Rattle.std.proofs.Common.{◌≡◌, ◌<◌, ◌+◌, ◌-◌, ◌∙◌, ℕ, true, false, cond, List, length, map, get_or, set, eqb, not, ◌⊎◌, inl, inr, ap, sym, subst, arith}
use Rattle.std.specs.Prelude.{All}
use Rattle.std.proofs.lemmas.List.{length-set}
use Rattle.kc_shard.specs.HIndex.{h_index}
use Rattle.kc_shard.specs.Shards.{differences, shard_row}
use Rattle.kc_shard.proofs.HIndex.{h_index-length, length-map}
use Rattle.kc_shard.proofs.Shards.{row-ends, row-length, row-within, differ-next, filled-next, behind-next, counted-next}
use Rattle.kc_shard.proofs.round.fill.Goals.{then-put, else-put}
use Rattle.kc_shard.proofs.round.fill.Goals as goal

pub row_of-entries-requires-clause-ends : goal.row_of-entries-requires-clause-ends
row_of-entries-requires-clause-ends c =
    row-ends (length c.args.next.now) (length c.args.numbers.now) c.args.offsets.now c.args.neighbours.now c.requires.shard c.loop-row.row (omega arith)

pub h_index_of-number-requires-clause-room : goal.h_index_of-number-requires-clause-room
h_index_of-number-requires-clause-room c =
    let row : ℕ = c.loop-row.row in
    let many : length (shard_row c.args.offsets.now c.args.neighbours.now row) ≡ get_or c.args.offsets.now (row + 1) 0 - get_or c.args.offsets.now row 0 =
    row-length (length c.args.next.now) (length c.args.numbers.now) c.args.offsets.now c.args.neighbours.now c.requires.shard row (omega arith) in
    omega (
      arith,
      many,
      ap (λ (xs : List ℕ). length xs) c.row_of-entries.ensures,
      c.requires.room row (omega arith),
      c.requires.shard.ascending row (omega arith),
      c.loop-row.invariant.1,
    )

pub h_index_of-number-requires-clause-within : goal.h_index_of-number-requires-clause-within
h_index_of-number-requires-clause-within c =
    subst (λ (ws : List ℕ). All (λ w. w < length c.args.numbers.now) ws) (sym c.row_of-entries.ensures)
    (row-within (length c.args.next.now) (length c.args.numbers.now) c.args.offsets.now c.args.neighbours.now c.requires.shard c.loop-row.row)

pub h_index_of-number-requires-clause-most : goal.h_index_of-number-requires-clause-most
h_index_of-number-requires-clause-most c =
    let f : ℕ → ℕ = λ w. get_or c.args.numbers.now w 0 in
    omega (arith, h_index-length (map f c.row_of-entries.result.now), length-map f c.row_of-entries.result.now)

pub loop-row-preserved : goal.loop-row-preserved
loop-row-preserved c =
    let f : ℕ → ℕ = λ w. get_or c.args.numbers.now w 0 in
    let h : ℕ → ℕ = λ i. h_index (map f (shard_row c.args.offsets.now c.args.neighbours.now i)) in
    let row : ℕ = c.loop-row.row in
    let old : List ℕ = c.args.next.now in
    let next : List ℕ = c.loop-row.next in
    let x : ℕ = c.h_index_of-number.result in
    let is : x ≡ h row = c.h_index_of-number.ensures ∙ ap (λ (ws : List ℕ). h_index (map f ws)) c.row_of-entries.ensures in
    let put : c.put.new.next ≡ set next row x = c.put.ensures.next in
    let within : row < length next = omega (arith, c.loop-row.invariant.0) in
    let here : get_or next row 0 ≡ get_or old row 0 = c.loop-row.invariant.3 row (omega arith) in
    let other : c.put.result ≡ not (eqb (get_or old row 0) x) = c.put.ensures.changed ∙ ap (λ (a : ℕ). not (eqb a x)) here in
    let ended : ((c.put.result ≡ true) × (c.if-put.changed ≡ c.loop-row.changed + 1)) ⊎ ((c.put.result ≡ false) × (c.if-put.changed ≡ c.loop-row.changed)) =
    elim c.if-put.branch [ then-put w ↦ inl (w.if-put.true, w.changed-is) | else-put w ↦ inr (w.if-put.false, w.changed-is) ] in
    let counted : c.if-put.changed ≡ cond (eqb (get_or old row 0) x) 0 1 + c.loop-row.changed =
    counted-next (eqb (get_or old row 0) x) c.put.result c.loop-row.changed c.if-put.changed other ended in
    let differ : differences old c.put.new.next (row + 1) ≡ cond (eqb (get_or old row 0) x) 0 1 + differences old next row =
    ap (λ (xs : List ℕ). differences old xs (row + 1)) put ∙ differ-next old next row x within in (
      omega (arith, ap (λ (xs : List ℕ). length xs) put, length-set next row x, c.loop-row.invariant.0),
      omega (arith, c.loop-row.invariant.1),
      λ i l. ap (λ (xs : List ℕ). get_or xs i 0) put ∙ filled-next next h row x within is c.loop-row.invariant.2 i l,
      λ i l. ap (λ (xs : List ℕ). get_or xs i 0) put ∙ behind-next old next row x c.loop-row.invariant.3 i l,
      omega (arith, counted, differ, c.loop-row.invariant.4),
      elim c.if-put.branch [
        | then-put w ↦ omega (arith, w.changed-is, c.loop-row.invariant.5)
        | else-put w ↦ omega (arith, w.changed-is, c.loop-row.invariant.5)
      ],
    )
