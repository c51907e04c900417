-- Both ends of the next edge are among the ids, and it gives one pair more, or none where both stand for one number.
use Rattle.std.proofs.Common.{◌≡◌, ◌+◌, ℕ, List, Option, [], ◌∷◌, ◌++◌, get_or, take, sym, ap, ap₂, ◌∙◌, append-nil, Vec, Global}
use Rattle.std.specs.List.{filter_map, cons_option}
use Rattle.kc_text.specs.Inputs.{between, numbered}
use Rattle.kc_text.proofs.Places.{first_end, second_end, filter_map_more}
use Rattle.kc_text.proofs.numbering.numbered.Goals as goal
use Rattle.kc_text.proofs.numbering.numbered.Goals.{in-Some+in_ok-push, in_default}

pub place-requires-clause-there : goal.place-requires-clause-there
place-requires-clause-there c = c.requires.among _ (first_end c.args.edges.now c.loop-a.a-index c.loop-a-test.true)

pub place-requires-in-loop-a-clause-there : goal.place-requires-in-loop-a-clause-there
place-requires-in-loop-a-clause-there c = c.requires.among _ (second_end c.args.edges.now c.loop-a.a-index c.loop-a-test.true)

pub loop-a-preserved : goal.loop-a-preserved
loop-a-preserved c =
    let h : ℕ × ℕ → Option (ℕ × ℕ) = numbered c.args.ids.now in
    let es : List (ℕ × ℕ) = c.args.edges.now in
    let i : ℕ = c.loop-a.a-index in
    let is : c.between.result ≡ h (get_or es i (0, 0)) = c.between.ensures ∙ ap₂ (λ (u v : ℕ). between u v) c.place.ensures c.place-in-loop-a.ensures in
    let more : filter_map h (take (i + 1) es) ≡ filter_map h (take i es) ++ cons_option c.between.result [] =
    filter_map_more h es i c.loop-a-test.true ∙ ap (λ (o : Option (ℕ × ℕ)). filter_map h (take i es) ++ cons_option o []) (sym is) in
    elim c.match-between.branch [
      | in-Some+in_ok-push w ↦
          ap (λ (v : Vec (ℕ × ℕ) Global). v.items) w.pairs-is ∙ w.in_ok-push.ensures.items
          ∙ ap (λ (t : List (ℕ × ℕ)). t ++ w.in-Some.pair ∷ []) c.loop-a.invariant
          ∙ sym (more ∙ ap (λ (o : Option (ℕ × ℕ)). filter_map h (take i es) ++ cons_option o []) w.in-Some.is)
      | in_default w ↦ ap (λ (v : Vec (ℕ × ℕ) Global). v.items) w.pairs-is ∙ c.loop-a.invariant
          ∙ sym (more ∙ ap (λ (o : Option (ℕ × ℕ)). filter_map h (take i es) ++ cons_option o []) w.in_default.is ∙ append-nil (filter_map h (take i es)))
    ]
