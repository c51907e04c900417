-- Moves that fit a state, by the conditions that are found for each kind of moves.
use Rattle.std.proofs.Common.{◌≡◌, ◌<◌, ◌++◌, ℕ, List, true, false, sym, ◌∙◌, subst, ap}
use Rattle.std.proofs.lemmas.Bool.{false≢true}
use Rattle.std.specs.declared.vec.Vec.{Vec}
use Rattle.std.specs.declared.alloc.Global.{Global}
use Rattle.kc_lists.specs.Lists.{member, Distinct}
use Rattle.kc_graph.specs.Lawful.{Ranked}
use Rattle.kc_graph.specs.declared.plan.Moves.TheVariants.{Kept, Plain, Rise, Fall}
use Rattle.kc_cert.specs.Local.{firsts, seconds, AreInTurn, IsOfLevel, MovesFit, moved_vertices}
use Rattle.kc_graph.specs.declared.plan.Moves.{Moves}

-- moves of no vertex fit
pub kept_fits : (s : Ranked) → MovesFit s Kept
kept_fits s = record {
  once = tt;
  of_level = λ x m. absurd (false≢true m);
  above_0 = λ x m. absurd (false≢true m);
  after_level = λ w m. absurd (false≢true m);
  after_staying = λ w m. absurd (false≢true m);
  in_turn = tt;
}

-- and so do those that change the edge alone
pub plain_fits : (s : Ranked) → MovesFit s Plain
plain_fits s = record {
  once = tt;
  of_level = λ x m. absurd (false≢true m);
  above_0 = λ x m. absurd (false≢true m);
  after_level = λ w m. absurd (false≢true m);
  after_staying = λ w m. absurd (false≢true m);
  in_turn = tt;
}

-- a rise fits by what the test of its shifts tells
pub rise_fits : (s : Ranked) (level : ℕ) (rise : Vec ℕ Global) (shifts : Vec (ℕ × ℕ) Global) → Distinct (rise.items ++ firsts shifts.items)
    → ((x : ℕ) → member x (rise.items ++ firsts shifts.items) ≡ true → IsOfLevel s level x)
    → ((w : ℕ) → member w (seconds shifts.items) ≡ true → IsOfLevel s level w × (member w rise.items ≡ false))
    → AreInTurn shifts.items → MovesFit s (Rise level rise shifts)
rise_fits s level rise shifts once of_level after in_turn = record {
  once = once;
  of_level = of_level;
  above_0 = λ x m. absurd (false≢true m);
  after_level = λ w m. (after w m).0;
  after_staying = λ w m. (after w m).1;
  in_turn = in_turn;
}

-- a fall fits by what the test of its vertices tells
pub fall_fits : (s : Ranked) (level : ℕ) (fall : Vec ℕ Global) → Distinct fall.items
    → ((x : ℕ) → member x fall.items ≡ true → IsOfLevel s level x × (0 < level)) → MovesFit s (Fall level fall)
fall_fits s level fall once of_level = record {
  once = once;
  of_level = λ x m. (of_level x m).0;
  above_0 = λ x m. (of_level x m).1;
  after_level = λ w m. absurd (false≢true m);
  after_staying = λ w m. absurd (false≢true m);
  in_turn = tt;
}

-- what the test of a fall tells, where the vertices that move are listed
pub fall_to : (s : Ranked) (moves : Moves) (level : ℕ) (fall : Vec ℕ Global) (moved : List ℕ) → moves ≡ Fall level fall
    → moved ≡ moved_vertices moves → Distinct moved
    → ((x : ℕ) → member x moved ≡ true → IsOfLevel s level x × (0 < level)) → MovesFit s moves
fall_to s moves level fall moved is all once of_level =
    let listed : moved ≡ fall.items = all ∙ ap moved_vertices is in
    subst (MovesFit s) (sym is) (fall_fits s level fall (subst Distinct listed once) (λ x m. of_level x (ap (member x) listed ∙ m)))

-- and the other way round
pub fall_from : (s : Ranked) (moves : Moves) (level : ℕ) (fall : Vec ℕ Global) (moved : List ℕ) → moves ≡ Fall level fall
    → moved ≡ moved_vertices moves
    → MovesFit s moves → (x : ℕ) → member x moved ≡ true → IsOfLevel s level x × (0 < level)
fall_from s moves level fall moved is all fit x m =
    let listed : moved ≡ fall.items = all ∙ ap moved_vertices is in
    let fit' : MovesFit s (Fall level fall) = subst (MovesFit s) is fit in
    let m' : member x fall.items ≡ true = sym (ap (member x) listed) ∙ m in
    (fit'.of_level x m', fit'.above_0 x m')
