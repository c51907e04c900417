-- Both rows are taken out, get longer, and are put back.
use Rattle.std.proofs.Common.{◌≡◌, ℕ, [], List, set, ap, ap₂, sym, ◌∙◌, subst, set-set}
use Rattle.std.proofs.lemmas.List.{set_comm}
use Rattle.kc_graph.specs.Rows.{row, Inserted}
use Rattle.kc_graph.proofs.Buckets.{row-set_other, set-row}
use Rattle.kc_graph.proofs.rows.Rows.insert_both.Goals as goal

-- a row that was taken out is put back
put-back : (rows taken now : List (List ℕ)) (u : ℕ) (list : List ℕ) → taken ≡ set rows u [] → list ≡ row rows u → now ≡ set taken u list → now ≡ rows
put-back rows taken now u list out is put =
    put ∙ ap₂ (λ (t : List (List ℕ)) (r : List ℕ). set t u r) out is ∙ set-set rows u [] (row rows u) ∙ set-row rows u

pub returns-in-Ok-clause-ok : goal.returns-in-Ok-clause-ok
returns-in-Ok-clause-ok c =
    let rows : List (List ℕ) = c.args.self.now in
    let u : ℕ = c.args.u in
    let v : ℕ = c.args.v in
    let a : List ℕ = c.insert_into.new.row.items in
    let b : List ℕ = c.insert_into-in-Ok.new.row.items in
    let taken : c.take_with_room.new.self ≡ set rows u [] = c.in_ok-first.ensures.left in
    let both_taken : c.take_with_room-2.new.self ≡ set (set rows u []) v [] = c.in-Ok.ensures.left ∙ ap (λ (t : List (List ℕ)). set t v []) taken in
    let second : c.in-Ok.second.items ≡ row rows v =
    c.in-Ok.ensures.list ∙ ap (λ (t : List (List ℕ)). row t v) taken ∙ row-set_other rows u v [] (λ e. c.requires.differ (sym e)) in
    record {
      first = a;
      second = b;
      rows =
          c.put-in-Ok.ensures ∙ ap (λ (t : List (List ℕ)). set t v b) (c.put.ensures ∙ ap (λ (t : List (List ℕ)). set t u a) both_taken)
          ∙ ap (λ (t : List (List ℕ)). set t v b) (set_comm (set rows u []) v u [] a (λ e. c.requires.differ (sym e)))
          ∙ set-set (set (set rows u []) u a) v [] b
          ∙ ap (λ (t : List (List ℕ)). set t v b) (set-set rows u [] a);
      at_first = subst (λ (t : List ℕ). Inserted t a v) c.in_ok-first.ensures.list c.insert_into.ensures;
      at_second = subst (λ (t : List ℕ). Inserted t b u) second c.insert_into-in-Ok.ensures;
    }

pub returns-in-Err-clause-err : goal.returns-in-Err-clause-err
returns-in-Err-clause-err c =
    put-back c.args.self.now _ _ c.args.u _ (c.in-Err.ensures.err ∙ c.in_ok-first.ensures.left) c.in_ok-first.ensures.list c.put-in-Err.ensures
