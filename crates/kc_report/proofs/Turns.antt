-- One more of so many things that are drawn, in a loop that counts up to them.
use Rattle.std.proofs.Common.{◌≡◌, ◌<◌, ◌+◌, ◌-◌, ℕ, suc, zero, length, List, [], ◌∷◌, ◌++◌, ap, sym, ◌∙◌, arith, append_assoc, append-nil, refl}
use Rattle.std.specs.List.{flat_map}
use Rattle.kc_text.specs.declared.change.ChangeLine.{ChangeLine}
use Rattle.kc_report.specs.declared.sizes.TheConstants.{BATCHES, EDGE_LINES, TURNS}
use Rattle.kc_report.specs.TextDraws.{next_state}
use Rattle.kc_report.specs.Lines.{pair_line}
use Rattle.kc_report.specs.Generator.{after_turns, batch_lines, drawn_batch, drawn_batches, drawn_change, drawn_edges, drawn_pair, generated}
use Rattle.kc_report.specs.Generator.{generated_edges, state_after_edges, state_after_turn, state_after_turns, with_turn}

-- what is left before a turn is one more than what is left after it
turns-left : (n i : ℕ) → i < n → n - i ≡ suc (n - (i + 1))
turns-left n i l = omega arith

-- at the end nothing is left
none_left : (n i : ℕ) → n ≡ i → 0 ≡ n - i
none_left n i e = omega arith

-- edges that are drawn are one, and then one fewer from the state after it
first_edge : (k m state : ℕ) → k ≡ suc m → drawn_edges k state ≡ drawn_pair state ∷ drawn_edges m (next_state (next_state state))
unfolding drawn_edges
first_edge k m state e = ap (λ k. drawn_edges k state) e

-- the state after edges is that after one fewer, from the state after the first
after_first_edge : (k m state : ℕ) → k ≡ suc m → state_after_edges k state ≡ state_after_edges m (next_state (next_state state))
unfolding state_after_edges
after_first_edge k m state e = ap (λ k. state_after_edges k state) e

-- the edges that are drawn, with those that are left, are all edges
pub edges-turn : (n i state after : ℕ) (edges more all : List (ℕ × ℕ)) (edge : ℕ × ℕ) → i < n → edge ≡ drawn_pair state → after ≡ next_state (next_state state)
    → more ≡ edges ++ edge ∷ [] → edges ++ drawn_edges (n - i) state ≡ all → more ++ drawn_edges (n - (i + 1)) after ≡ all
edges-turn n i state after edges more all edge l drawn next pushed whole =
    let step : drawn_edges (n - i) state ≡ edge ∷ drawn_edges (n - (i + 1)) after =
    first_edge (n - i) (n - (i + 1)) state (turns-left n i l) ∙ ap (λ (e : ℕ × ℕ). e ∷ drawn_edges (n - (i + 1)) (next_state (next_state state))) (sym drawn)
    ∙ ap (λ s. edge ∷ drawn_edges (n - (i + 1)) s) (sym next) in
    ap (λ (t : List (ℕ × ℕ)). t ++ drawn_edges (n - (i + 1)) after) pushed ∙ append_assoc edges (edge ∷ []) (drawn_edges (n - (i + 1)) after)
    ∙ ap (λ t. edges ++ t) (sym step) ∙ whole

-- the state after all edges is that after those that are left, from the state after one edge more
pub edges_state-turn : (n i state after all : ℕ) → i < n → after ≡ next_state (next_state state) → state_after_edges (n - i) state ≡ all
    → state_after_edges (n - (i + 1)) after ≡ all
edges_state-turn n i state after all l next whole =
    ap (λ s. state_after_edges (n - (i + 1)) s) next ∙ sym (after_first_edge (n - i) (n - (i + 1)) state (turns-left n i l)) ∙ whole

-- where no edge is left, those that are drawn are all
pub edges-end : (n i state : ℕ) (edges all : List (ℕ × ℕ)) → n ≡ i → edges ++ drawn_edges (n - i) state ≡ all → edges ≡ all
unfolding drawn_edges
edges-end n i state edges all e whole = sym (append-nil edges) ∙ ap (λ k. edges ++ drawn_edges k state) (none_left n i e) ∙ whole

-- where no edge is left, the state is that after all edges
pub edges_state-end : (n i state all : ℕ) → n ≡ i → state_after_edges (n - i) state ≡ all → state ≡ all
unfolding state_after_edges
edges_state-end n i state all e whole = ap (λ k. state_after_edges k state) (none_left n i e) ∙ whole

-- what is written after turns is what the first one writes, and then one turn fewer
first_turn : (edges : List (ℕ × ℕ)) (k m state : ℕ) (written : List ChangeLine) → k ≡ suc m
    → after_turns edges k state written ≡ after_turns edges m (state_after_turn state) (with_turn written (drawn_change edges state))
unfolding after_turns
first_turn edges k m state written e = ap (λ k. after_turns edges k state written) e

-- the state after turns is that after one fewer, from the state after the first
after_first_turn : (k m state : ℕ) → k ≡ suc m → state_after_turns k state ≡ state_after_turns m (state_after_turn state)
unfolding state_after_turns
after_first_turn k m state e = ap (λ k. state_after_turns k state) e

-- what is written after one turn more, with the turns that are left
pub changes-turn : (edges : List (ℕ × ℕ)) (n i state after : ℕ) (written more all : List ChangeLine) (change : ChangeLine) → i < n
    → change ≡ drawn_change edges state
    → after ≡ state_after_turn state → more ≡ with_turn written change
    → after_turns edges (n - i) state written ≡ all → after_turns edges (n - (i + 1)) after more ≡ all
changes-turn edges n i state after written more all change l drawn next with' whole =
    ap (λ s. after_turns edges (n - (i + 1)) s more) next ∙ ap (after_turns edges (n - (i + 1)) (state_after_turn state)) with'
    ∙ ap (λ c. after_turns edges (n - (i + 1)) (state_after_turn state) (with_turn written c)) drawn
    ∙ sym (first_turn edges (n - i) (n - (i + 1)) state written (turns-left n i l)) ∙ whole

-- the state after all turns is that after those that are left, from the state after one turn more
pub turns_state-turn : (n i state after all : ℕ) → i < n → after ≡ state_after_turn state → state_after_turns (n - i) state ≡ all
    → state_after_turns (n - (i + 1)) after ≡ all
turns_state-turn n i state after all l next whole =
    ap (λ s. state_after_turns (n - (i + 1)) s) next ∙ sym (after_first_turn (n - i) (n - (i + 1)) state (turns-left n i l)) ∙ whole

-- where no turn is left, what is written is all
pub changes-end : (edges : List (ℕ × ℕ)) (n i state : ℕ) (written all : List ChangeLine) → n ≡ i → after_turns edges (n - i) state written ≡ all → written ≡ all
unfolding after_turns
changes-end edges n i state written all e whole = ap (λ k. after_turns edges k state written) (none_left n i e) ∙ whole

-- where no turn is left, the state is that after all turns
pub turns_state-end : (n i state all : ℕ) → n ≡ i → state_after_turns (n - i) state ≡ all → state ≡ all
unfolding state_after_turns
turns_state-end n i state all e whole = ap (λ k. state_after_turns k state) (none_left n i e) ∙ whole

-- batches that are drawn are one, and then one fewer from the state after its turns
first_batch : (edges : List (ℕ × ℕ)) (k m state : ℕ) → k ≡ suc m → drawn_batches edges k state
    ≡ drawn_batch edges state ∷ drawn_batches edges m (state_after_turns TURNS state)
unfolding drawn_batches
first_batch edges k m state e = ap (λ k. drawn_batches edges k state) e

-- the text with the lines of one batch more, and with those of the batches that are left
pub batches-turn : (edges : List (ℕ × ℕ)) (n i state after : ℕ) (text more all : List ℕ) → i < n → after ≡ state_after_turns TURNS state
    → more ≡ text ++ batch_lines (drawn_batch edges state)
    → text ++ flat_map batch_lines (drawn_batches edges (n - i) state) ≡ all → more ++ flat_map batch_lines (drawn_batches edges (n - (i + 1)) after) ≡ all
batches-turn edges n i state after text more all l next put whole =
    let rest : List ℕ = flat_map batch_lines (drawn_batches edges (n - (i + 1)) after) in
    let step : flat_map batch_lines (drawn_batches edges (n - i) state) ≡ batch_lines (drawn_batch edges state) ++ rest =
    ap (flat_map batch_lines) (first_batch edges (n - i) (n - (i + 1)) state (turns-left n i l))
    ∙ ap (λ s. batch_lines (drawn_batch edges state) ++ flat_map batch_lines (drawn_batches edges (n - (i + 1)) s)) (sym next) in
    ap (λ (t : List ℕ). t ++ rest) put ∙ append_assoc text (batch_lines (drawn_batch edges state)) rest ∙ ap (λ t. text ++ t) (sym step) ∙ whole

-- where no batch is left, the text is whole
pub batches-end : (edges : List (ℕ × ℕ)) (n i state : ℕ) (text all : List ℕ) → n ≡ i → text ++ flat_map batch_lines (drawn_batches edges (n - i) state)
    ≡ all → text ≡ all
unfolding drawn_batches
batches-end edges n i state text all e whole =
    sym (append-nil text) ∙ ap (λ k. text ++ flat_map batch_lines (drawn_batches edges k state)) (none_left n i e) ∙ whole

-- as many edges as were asked for
pub length-edges : (n state : ℕ) → length (drawn_edges n state) ≡ n
unfolding drawn_edges
length-edges zero state = refl
length-edges (suc n) state = ap suc (length-edges n (next_state (next_state state)))

-- the lines of the edges, with those of all batches, are the whole text
pub text-start : (number first after : ℕ) (edges : List (ℕ × ℕ)) (text : List ℕ) → first ≡ number → edges ≡ drawn_edges EDGE_LINES first
    → after ≡ state_after_edges EDGE_LINES first → text ≡ flat_map pair_line edges
    → text ++ flat_map batch_lines (drawn_batches edges BATCHES after) ≡ generated number
text-start number first after edges text seed drawn next put =
    let all : edges ≡ generated_edges number = drawn ∙ ap (drawn_edges EDGE_LINES) seed in
    let then' : after ≡ state_after_edges EDGE_LINES number = next ∙ ap (state_after_edges EDGE_LINES) seed in
    ap (λ (t : List ℕ). t ++ flat_map batch_lines (drawn_batches edges BATCHES after)) put
    ∙ ap (λ (es : List (ℕ × ℕ)). flat_map pair_line es ++ flat_map batch_lines (drawn_batches es BATCHES after)) all
    ∙ ap (λ (s : ℕ). flat_map pair_line (generated_edges number) ++ flat_map batch_lines (drawn_batches (generated_edges number) BATCHES s)) then'
