-- The vertices that are dealt out among pieces, and the numbers that these keep.
use Rattle.std.proofs.Common.{◌≡◌, ◌≤◌, ◌<◌, ◌+◌, ◌*◌, ◌/◌, ◌%◌, ℕ, Bool, List, [], ◌∷◌, length, get_or, ◌∙◌, sym, ap, subst, arith}
use Rattle.std.proofs.lemmas.List.{get_or-map}
use Rattle.std.proofs.Math.Nat.{add-mul-mod_self_right, mod-add-div', mod-eq_of_lt, mod-lt, mul-lt-mul_of_pos_right}
use Rattle.kc_graph.specs.Rows.{row}
use Rattle.kc_graph.specs.SimpleGraph.{SimpleGraph}
use Rattle.kc_hindex.specs.declared.piece.Piece.{Piece}
use Rattle.kc_hindex.specs.Pieces.{AreDealt, AreMade, AreReady, StandInTurn, numbers_of, rooms_of}
use Rattle.kc_hindex.specs.Rounds.{IsRoundOf, h_round}

-- different turns of different pieces are different vertices
pub turns-apart : (k p q i j : ℕ) → p < k → q < k → p + i * k ≡ q + j * k → p ≡ q
turns-apart k p q i j a b e =
    sym (mod-eq_of_lt a) ∙ sym (add-mul-mod_self_right p i k) ∙ ap (λ (x : ℕ). x % k) e ∙ add-mul-mod_self_right q j k ∙ mod-eq_of_lt b

-- different turns of one piece are different vertices
pub steps-apart : (p k n i : ℕ) → 0 < k → i < n → p + n * k ≡ p + i * k → ⊥
steps-apart p k n i some l e = omega (arith, e, mul-lt-mul_of_pos_right {m = i} {n = n} {k = k} l some)

-- the numbers that a piece keeps
pub row-at : (pieces : List Piece) (p : ℕ) (d : Piece) → p < length pieces → row (numbers_of pieces) p ≡ (get_or pieces p d).numbers.items
row-at pieces p d l = get_or-map (λ (x : Piece). x.numbers.items) pieces p d [] l

-- how many counts it has
pub room-at : (pieces : List Piece) (p : ℕ) (d : Piece) → p < length pieces → get_or (rooms_of pieces) p 0 ≡ (get_or pieces p d).counts.len
room-at pieces p d l = get_or-map (λ (x : Piece). x.counts.len) pieces p d 0 l

-- each vertex is that of some turn of some piece
pub vertex-has_turn : (k v : ℕ) → v ≡ v % k + v / k * k
vertex-has_turn k v = sym (mod-add-div' v k)

-- what the pieces made, where it stands at their vertices, is the round
pub round-dealt : (g : SimpleGraph) (old new : List ℕ) (counts : ℕ) (pieces : List Piece) → length new ≡ g.size → AreDealt g.size counts pieces
    → AreMade g old pieces → StandInTurn new pieces → IsRoundOf g old new
round-dealt g old new counts pieces same dealt made stands = record {
  one_each = same;
  each = λ v l.
      let k : ℕ = length pieces in
      let p : ℕ = v % k in
      let i : ℕ = v / k in
      let at-v : v ≡ p + i * k = vertex-has_turn k v in
      let in' : p < k = mod-lt v dealt.some in
      let here : i < length (row (numbers_of pieces) p) = dealt.whole p i in' (omega (arith, l, at-v)) in
      ap (λ (x : ℕ). get_or new x 0) at-v ∙ stands p in' i here ∙ made p in' i here ∙ ap (λ (x : ℕ). h_round g (λ w. get_or old w 0) x) (sym at-v);
}

-- no piece has a number that is greater than that of its vertex
pub none-rises : (g : SimpleGraph) (old : List ℕ) (crossed : List Bool) (counts : ℕ) (pieces : List Piece) → AreReady g old crossed
    → AreDealt g.size counts pieces
    → AreMade g old pieces → (p i : ℕ) → p < length pieces → i < length (row (numbers_of pieces) p)
    → get_or (row (numbers_of pieces) p) i 0 ≤ get_or old (p + i * length pieces) 0
none-rises g old crossed counts pieces ready dealt made p i in' here =
    omega (arith, made p in' i here, ready.falls (p + i * length pieces) (dealt.within p i in' here))

-- one of the pieces, where there is one
pub some_of : (pieces : List Piece) → 0 < length pieces → Piece
some_of [] l = absurd (omega arith)
some_of (p ∷ pieces) l = p

-- vertices stay dealt out among pieces that keep as many numbers and as much room
pub dealt-again : (n counts : ℕ) (old new : List Piece) → AreDealt n counts old → length new ≡ length old
    → ((p : ℕ) (d : Piece) → p < length old → (length (get_or new p d).numbers.items ≡ length (get_or old p d).numbers.items)
    × ((get_or new p d).counts.len ≡ (get_or old p d).counts.len)) → AreDealt n counts new
dealt-again n counts old new dealt same each =
    let as-many : (p : ℕ) → p < length old → length (row (numbers_of new) p) ≡ length (row (numbers_of old) p) =
    λ p l.
    let d : Piece = some_of old (omega (arith, l)) in
    omega (
      arith,
      ap (λ (xs : List ℕ). length xs) (row-at new p d (omega (arith, l, same))),
      ap (λ (xs : List ℕ). length xs) (row-at old p d l),
      (each p d l).0,
    ) in record {
      some = omega (arith, same, dealt.some);
      within = λ p i l m.
          let l' : p < length old = omega (arith, l, same) in
          subst (λ (k : ℕ). p + i * k < n) (sym same) (dealt.within p i l' (omega (arith, m, as-many p l')));
      whole = λ p i l m.
          let l' : p < length old = omega (arith, l, same) in
          omega (arith, as-many p l', dealt.whole p i l' (subst (λ (k : ℕ). p + i * k < n) same m));
      room = λ p l.
          let l' : p < length old = omega (arith, l, same) in
          let d : Piece = some_of old (omega (arith, l')) in
          room-at new p d l ∙ (each p d l').1 ∙ sym (room-at old p d l') ∙ dealt.room p l';
    }
