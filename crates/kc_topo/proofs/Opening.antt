-- A graph opens without arcs, its vertices in ascending order.
use Rattle.std.proofs.Common.{◌≡◌, ◌<◌, ◌≤◌, ℕ, zero, suc, true, List, [], ◌∷◌, ◌++◌, length, map, replicate, refl, sym, ap, ◌∙◌, subst, arith, inl, inr}
use Rattle.std.proofs.lemmas.Bool.{cases_eq, false≢true, false_from_ne_true}
use Rattle.std.proofs.lemmas.List.{length-replicate}
use mathlib.Core.List.{IsPrefix}
use Rattle.kc_lists.specs.Lists.{Distinct, member}
use Rattle.kc_lists.proofs.Counting.{Distinct-push, member-push_cases, member-push_left}
use Rattle.kc_lists.proofs.Members.{member-append_right, member-head}
use Rattle.kc_graph.specs.Rows.{row}
use Rattle.kc_words.specs.declared.layout.TheConstants.{VERTICES}
use Rattle.kc_table.specs.declared.view.Event.{Event}
use Rattle.kc_table.specs.Legal.{Legal}
use Rattle.kc_table.specs.Log.{PassSeen, Seen, TableName}
use Rattle.kc_table.specs.TableState.{TableState}
use Rattle.kc_table.proofs.LegalLogs.{state_of-nil}
use Rattle.kc_order.specs.Standing.{list_after}
use Rattle.kc_topo.specs.Arcs.{StandOnce, arc_of, arcs_after, ascending, has_arc}
use Rattle.kc_topo.specs.Dags.{IsDag, KeepsRows, OpensDag}

-- what is among the ascending numbers below n is below n
pub ascending-low : (n v : ℕ) → member v (ascending n) ≡ true → v < n
ascending-low zero v m = absurd (false≢true m)
ascending-low (suc n) v m = elim (member-push_cases v n (ascending n) m) [
  | inl k ↦ omega (arith, ascending-low n v k)
  | inr e ↦ omega (arith, e)
]

-- each number below n is among the ascending ones
pub ascending-member : (n v : ℕ) → v < n → member v (ascending n) ≡ true
ascending-member zero v l = absurd (omega (arith, l))
ascending-member (suc n) v l = elim (cases_eq v n) [
  | inl e ↦ subst (λ (w : ℕ). member w (ascending n ++ n ∷ []) ≡ true) (sym e) (member-append_right n (ascending n) (n ∷ []) (member-head n []))
  | inr ne ↦ member-push_left v n (ascending n) (ascending-member n v (omega (arith, l, ne)))
]

-- no number stands twice among the ascending ones
pub Distinct-ascending : (n : ℕ) → Distinct (ascending n)
Distinct-ascending zero = tt
Distinct-ascending (suc n) = Distinct-push (ascending n) n (Distinct-ascending n)
    (false_from_ne_true (member n (ascending n)) (λ m. let l : n < n = ascending-low n n m in omega arith))

-- each row of a graph without arcs is empty
row-none : (n a : ℕ) → row (replicate n []) a ≡ []
row-none zero a = refl
row-none (suc n) zero = refl
row-none (suc n) (suc a) = row-none n a

-- where nothing was stored no arc was entered
no-arcs : (table : TableName) → arcs_after table [] ≡ []
no-arcs table = ap (λ (s : TableState). map arc_of s.entries) (state_of-nil table.shape table.opening)

-- the one prefix of the empty log is empty
whole-empty : (prefix : List Event) → IsPrefix prefix [] → prefix ≡ []
whole-empty [] p = refl
whole-empty (e ∷ es) p = absurd (omega (arith, ap length p.1))

module _ (words : TableName) (n : ℕ) (items : words.shape.items ≡ n) (fixed : words.shape.fixed ≡ 0) (few : n ≤ VERTICES)
    (list : list_after words [] ≡ ascending n) (legal : Legal words.shape words.opening []) where
  -- a table with no arcs is a dag
  begins : IsDag words []
  begins = record {
    vertices = λ v l. ap (member v) list ∙ ascending-member n v (omega (arith, l, items));
    once = subst StandOnce (sym (no-arcs words)) tt;
    topological = λ a b arc. absurd (false≢true (ap (λ zs. has_arc zs a b) (sym (no-arcs words)) ∙ arc));
  }

  -- it keeps the empty rows
  pub opens-keeps : (rows : List (List ℕ)) → rows ≡ replicate n [] → KeepsRows (record { table = words; log = [] }) rows
  opens-keeps rows are = record {
    dag = λ prefix p. subst (IsDag words) (sym (whole-empty prefix p)) begins;
    legal = legal;
    free = fixed;
    few = omega (arith, items, few);
    closed = ap (λ (s : TableState). s.unsealed) (state_of-nil words.shape words.opening);
    long = ap length are ∙ (length-replicate {A = List ℕ} n [] ∙ sym items);
    rows_are = λ a b. ap (λ rs. member b (row rs a)) are ∙ (ap (member b) (row-none n a) ∙ ap (λ zs. has_arc zs a b) (sym (no-arcs words)));
  }

  -- so the dag opens
  pub opens-dag : (arcs : Seen) (pass : PassSeen) → words.shape.base ≡ 0 → words.shape.version ≡ 0 → arcs ≡ record { table = words; log = [] }
      → pass ≡ record { table = words; log = []; loads = 0; splits = 0 } → OpensDag n words arcs pass
  opens-dag arcs pass base version a p = record {
    items = items;
    fixed = fixed;
    base = base;
    version = version;
    arcs_are = a;
    pass_is = p;
    none = no-arcs words;
    list = list;
  }
