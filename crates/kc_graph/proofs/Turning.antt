-- A bucket that is looked through from the front, while others are put at its end.
use Rattle.std.proofs.Common.{◌≡◌, ◌≤◌, ◌<◌, ◌+◌, ℕ, Bool, ◌&&◌, ltb, eqb, List, [], ◌∷◌, ◌++◌, length, get_or, set, drop, sym, ◌∙◌, ap, inl, inr}
use Rattle.std.proofs.Common.{arith, length-append, length-set}
use Rattle.std.specs.List.{filter}
use Rattle.std.proofs.lemmas.Bool.{cases_eq}
use Rattle.std.proofs.lemmas.List.{drop-append-le, drop_all, drop_more, length-drop}
use Rattle.kc_graph.specs.SimpleGraph.{SimpleGraph}
use Rattle.kc_graph.specs.Rows.{row}
use Rattle.kc_graph.specs.Peeling.{at, from_turn, IsAboutToTake, Lowered, Peels}
use Rattle.kc_graph.proofs.Buckets.{row-set_other, row-set_same, set-row}
use Rattle.kc_graph.proofs.Filing.{Popped, popped_takes}

-- who moves into a bucket
abbrev moved : ℕ → List ℕ → ℕ → ℕ → Bool
moved level core b w = ltb level (at core w) && eqb (at core w) (b + 1)

-- nobody has left yet
pub no_turn : (level : ℕ) (rows : List (List ℕ)) → from_turn level 0 rows ≡ rows
no_turn level rows = set-row rows level

-- all have left
pub last_turn : (level turn : ℕ) (rows : List (List ℕ)) → length (row rows level) ≤ turn → from_turn level turn rows ≡ set rows level []
last_turn level turn rows l = ap (set rows level) (drop_all turn (row rows level) l)

-- a bucket only grows while vertices are lowered
pub bucket-grows : (level b : ℕ) (ws core : List ℕ) (rows : List (List ℕ)) (core' : List ℕ) (rows' : List (List ℕ)) → Lowered level ws core rows core' rows'
    → length (row rows b) ≤ length (row rows' b)
bucket-grows level b ws core rows core' rows' h = omega (arith, ap length (h.filed b), length-append (row rows b) (filter (moved level core b) ws))

module _ (level turn : ℕ) (rows : List (List ℕ)) (there : level < length rows) where
  -- in the bucket are those whose turn has not come
  left : row (from_turn level turn rows) level ≡ drop turn (row rows level)
  left = row-set_same rows level (drop turn (row rows level)) there

  -- the next one leaves
  pub next_turn : (v : ℕ) → turn < length (row rows level) → v ≡ get_or (row rows level) turn 0
      → Popped level v (from_turn level turn rows) (from_turn level (turn + 1) rows)
  next_turn v l is = record {
    here =
        left ∙ (drop_more (row rows level) turn 0 l
        ∙ (ap (λ (x : ℕ). x ∷ drop (turn + 1) (row rows level)) (sym is)
        ∙ ap (λ (t : List ℕ). v ∷ t) (sym (row-set_same rows level (drop (turn + 1) (row rows level)) there))));
    others = λ b ne. row-set_other rows level b (drop turn (row rows level)) ne ∙ sym (row-set_other rows level b (drop (turn + 1) (row rows level)) ne);
  }

  -- who is lowered comes behind those that wait
  pub lowered_behind : (ws core core' : List ℕ) (rows' : List (List ℕ)) → turn ≤ length (row rows level) → Lowered level ws core rows core' rows'
      → Lowered level ws core (from_turn level turn rows) core' (from_turn level turn rows')
  lowered_behind ws core core' rows' l h =
      let there' : level < length rows' = omega (arith, h.one_bucket, there) in
      let left' : row (from_turn level turn rows') level ≡ drop turn (row rows' level) = row-set_same rows' level (drop turn (row rows' level)) there' in
      record {
        one_each = h.one_each;
        one_bucket = length-set rows' level (drop turn (row rows' level)) ∙ (h.one_bucket ∙ sym (length-set rows level (drop turn (row rows level))));
        lowered = h.lowered;
        filed = λ b. elim (cases_eq b level) [
          | inl e ↦
              ap (row (from_turn level turn rows')) e
              ∙ (left' ∙ (ap (drop turn) (ap (row rows') (sym e) ∙ (h.filed b ∙ ap (λ k. row rows k ++ filter (moved level core b) ws) e))
              ∙ (drop-append-le turn (row rows level) (filter (moved level core b) ws) l
              ∙ ap (λ (t : List ℕ). t ++ filter (moved level core b) ws) (sym left ∙ ap (row (from_turn level turn rows)) (sym e)))))
          | inr ne ↦
              row-set_other rows' level b (drop turn (row rows' level)) ne
              ∙ (h.filed b ∙ ap (λ (t : List ℕ). t ++ filter (moved level core b) ws) (sym (row-set_other rows level b (drop turn (row rows level)) ne)))
        ];
        less_work =
            omega (
              arith,
              h.less_work,
              ap length left,
              ap length left',
              length-drop turn (row rows level),
              length-drop turn (row rows' level),
              bucket-grows level level ws core rows core' rows' h,
              l,
            );
      }

  -- whose turn it is, and who is not taken yet, is about to be taken
  pub turn_takes : (g : SimpleGraph) (v : ℕ) (core taken : List ℕ) → Peels g level core taken (from_turn level turn rows)
      → (turn < length (row rows level)) × (v ≡ get_or (row rows level) turn 0) → at core v ≡ level
      → IsAboutToTake g level v core taken (from_turn level (turn + 1) rows)
  turn_takes g v core taken h here is =
      popped_takes g level v core taken (from_turn level turn rows) (from_turn level (turn + 1) rows) h (next_turn v here.0 here.1) is
