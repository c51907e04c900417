-- What is drawn: ids below the bound, as many edges, turns and batches as there are to be, and no loop in a batch.
use Rattle.std.proofs.Common.{◌≡◌, ◌≢◌, ◌≤◌, ◌<◌, ◌+◌, ℕ, suc, zero, Bool, true, false, cond, ◌||◌, List, [], ◌∷◌, ◌++◌, length, get_or, refl, sym}
use Rattle.std.proofs.Common.{ap, subst, arith, nat_eq, inl, inr, length-append}
use Rattle.std.specs.Prelude.{All}
use Rattle.std.specs.List.{list_any}
use Rattle.std.proofs.Math.Nat.{mod-lt}
use Rattle.std.proofs.lemmas.Bool.{cases_Bool, eqb-false, or_parts}
use Rattle.std.proofs.lemmas.List.Elements.{All-cons, All-get_or, All-nil, All-push}
use Rattle.std.proofs.lemmas.List.Quantifiers.{all_pairs_push}
use Rattle.kc_text.specs.declared.change.ChangeLine.{ChangeLine}
use Rattle.kc_text.specs.Batches.{NamesOnce}
use Rattle.kc_text.specs.Meaning.{name_same}
use Rattle.kc_report.specs.declared.sizes.TheConstants.{BATCHES, EDGE_LINES, IDS, TURNS}
use Rattle.kc_report.specs.TextDraws.{drawn, next_state}
use Rattle.kc_report.specs.Generator.{adds, after_turns, change_of, drawn_batch, drawn_batches, drawn_change, drawn_edges, drawn_pair}
use Rattle.kc_report.specs.Generator.{generated_batches, generated_edges, state_after_edges, state_after_turn, state_after_turns, with_turn}
use Rattle.kc_report.proofs.Turns.{length-edges}

-- a number that is drawn is below the bound
drawn-below : (bound state : ℕ) → 0 < bound → drawn bound state < bound
unfolding drawn
drawn-below bound state some = mod-lt _ some

-- both ends of an edge are ids
pub record AreIds (edge : ℕ × ℕ) : Type 0 where
  pub first : edge.0 < IDS
  pub second : edge.1 < IDS

-- two ids that are drawn are ids of a generated text
pair-ids : (state : ℕ) → AreIds (drawn_pair state)
pair-ids state = record { first = drawn-below IDS state (omega arith); second = drawn-below IDS (next_state state) (omega arith) }

-- both ends of each edge that is drawn are ids
edges-ids : (n state : ℕ) → All AreIds (drawn_edges n state)
unfolding drawn_edges
edges-ids zero state = All-nil AreIds
edges-ids (suc n) state = All-cons AreIds (drawn_pair state) (drawn_edges n (next_state (next_state state))) (pair-ids state)
    (edges-ids n (next_state (next_state state)))

-- a change that is written: both ends are ids, and they differ
pub record IsFit (c : ChangeLine) : Type 0 where
  pub ids : AreIds (c.a, c.b)
  pub apart : c.a ≢ c.b

-- both ends of a change that is drawn are ids
change-ids : (edges : List (ℕ × ℕ)) (state : ℕ) → All AreIds edges → length edges ≡ EDGE_LINES
    → AreIds ((drawn_change edges state).a, (drawn_change edges state).b)
change-ids edges state ids count =
    elim (adds state) as (λ (add : Bool). AreIds (
      (cond add (change_of true (drawn_pair (next_state state))) (change_of false (get_or edges (drawn EDGE_LINES (next_state state)) (0, 0)))).a,
      (cond add (change_of true (drawn_pair (next_state state))) (change_of false (get_or edges (drawn EDGE_LINES (next_state state)) (0, 0)))).b,
    )) [
      | true ↦ pair-ids (next_state state)
      | false ↦
          let l : drawn EDGE_LINES (next_state state) < EDGE_LINES = drawn-below EDGE_LINES (next_state state) (omega arith) in
          All-get_or AreIds edges (drawn EDGE_LINES (next_state state)) (0, 0) (omega arith) ids
    ]

-- each change differs from one that none of them names
changes-differ : (c : ChangeLine) (written : List ChangeLine) → list_any (name_same c) written ≡ false → All (λ d. name_same c d ≡ false) written
changes-differ c [] none = All-nil (λ d. name_same c d ≡ false)
changes-differ c (d ∷ written) none =
    let (first, rest) = or_parts (name_same c d) (list_any (name_same c) written) none in
    All-cons (λ d. name_same c d ≡ false) d written first (changes-differ c written rest)

-- what is written after so many turns more
pub record IsAfter (turns : ℕ) (written more : List ChangeLine) : Type 0 where
  pub fit : All IsFit more
  pub once : NamesOnce more
  pub few : length more ≤ turns + length written

-- after one turn more, what is written fits and names no pair twice
after_turn : (written : List ChangeLine) (c : ChangeLine) → All IsFit written → NamesOnce written → AreIds (c.a, c.b) → IsAfter 1 written (with_turn written c)
after_turn written c fit once ids =
    let is : (b : Bool) → (nat_eq c.a c.b || list_any (name_same c) written) ≡ b → IsAfter 1 written (cond b written (written ++ c ∷ []))
    → IsAfter 1 written (with_turn written c)
    = λ b e h. subst (λ (t : Bool). IsAfter 1 written (cond t written (written ++ c ∷ []))) (sym e) h in
    elim (cases_Bool (nat_eq c.a c.b || list_any (name_same c) written)) [
      | inl e ↦ is true e (record { fit = fit; once = once; few = omega arith })
      | inr e ↦
          let (apart, none) = or_parts (nat_eq c.a c.b) (list_any (name_same c) written) e in
          is false e (record {
            fit = All-push IsFit written c fit (record { ids = ids; apart = eqb-false c.a c.b apart });
            once = all_pairs_push (λ c d. name_same d c ≡ false) written c once (changes-differ c written none);
            few = omega (arith, length-append written (c ∷ []));
          })
    ]

-- after all turns of a batch, what is written fits and names no pair twice
after_all : (edges : List (ℕ × ℕ)) (turns state : ℕ) (written : List ChangeLine) → All AreIds edges → length edges ≡ EDGE_LINES → All IsFit written
    → NamesOnce written
    → IsAfter turns written (after_turns edges turns state written)
unfolding after_turns
after_all edges zero state written ids count fit once = record { fit = fit; once = once; few = omega arith }
after_all edges (suc turns) state written ids count fit once =
    let first = after_turn written (drawn_change edges state) fit once (change-ids edges state ids count) in
    let rest = after_all edges turns (state_after_turn state) (with_turn written (drawn_change edges state)) ids count first.fit first.once in
    record { fit = rest.fit; once = rest.once; few = omega (arith, rest.few, first.few) }

-- the changes of a batch
pub record IsBatch (changes : List ChangeLine) : Type 0 where
  pub fit : All IsFit changes
  pub once : NamesOnce changes
  pub few : length changes ≤ TURNS

-- the changes that are drawn for a batch fit, name no pair twice and are no more than its turns
batch-is : (edges : List (ℕ × ℕ)) (state : ℕ) → All AreIds edges → length edges ≡ EDGE_LINES → IsBatch (drawn_batch edges state)
batch-is edges state ids count =
    let after = after_all edges TURNS state [] ids count (All-nil IsFit) (λ i j d l m. absurd (omega arith)) in
    record { fit = after.fit; once = after.once; few = omega (arith, after.few) }

-- each batch that is drawn is such a batch
batches-are : (edges : List (ℕ × ℕ)) (n state : ℕ) → All AreIds edges → length edges ≡ EDGE_LINES → All IsBatch (drawn_batches edges n state)
unfolding drawn_batches
batches-are edges zero state ids count = All-nil IsBatch
batches-are edges (suc n) state ids count =
    All-cons IsBatch (drawn_batch edges state) (drawn_batches edges n (state_after_turns TURNS state)) (batch-is edges state ids count)
    (batches-are edges n (state_after_turns TURNS state) ids count)

-- as many batches are drawn as were asked for
length-batches : (edges : List (ℕ × ℕ)) (n state : ℕ) → length (drawn_batches edges n state) ≡ n
unfolding drawn_batches
length-batches edges zero state = refl
length-batches edges (suc n) state = ap suc (length-batches edges n (state_after_turns TURNS state))

-- what a generated text has
pub record IsDrawn (edges : List (ℕ × ℕ)) (batches : List (List ChangeLine)) : Type 0 where
  pub ids : All AreIds edges
  pub edge_count : length edges ≡ EDGE_LINES
  pub fit : All IsBatch batches
  pub batch_count : length batches ≡ BATCHES

-- the edges and the batches of a generated text are as many and such as they are to be
pub generated-is : (number : ℕ) → IsDrawn (generated_edges number) (generated_batches number)
generated-is number =
    let ids = edges-ids EDGE_LINES number in
    let count = length-edges EDGE_LINES number in
    record {
      ids = ids;
      edge_count = count;
      fit = batches-are (generated_edges number) BATCHES (state_after_edges EDGE_LINES number) ids count;
      batch_count = length-batches (generated_edges number) BATCHES (state_after_edges EDGE_LINES number);
    }
