-- What two collects answer together.
use Rattle.std.proofs.Common.{◌≡◌, ◌≢◌, ℕ, List, subst}
use mathlib.Core.List.{IsPrefix}
use Rattle.kc_table.specs.declared.view.Event.{Event}
use Rattle.kc_table.specs.Log.{PassSeen, TableName}
use Rattle.kc_table.proofs.Prefixes.{prefix_trans}
use Rattle.kc_order.specs.Collected.{Collected, IsCollect}
use Rattle.kc_order.specs.Standing.{list_after, Between, StandsBefore, EndsSecond, Compares, Steps, TwoCollects}
use Rattle.kc_order.specs.declared.answer.Answer.{Answer}
use Rattle.kc_order.specs.declared.answer.Answer.TheVariants.{Before, After, Same, Absent, Again}
use Rattle.kc_order.proofs.Again.{steps-then}

-- the collect's last prefix lies between what had been seen and what is seen now
last-between : (old middle new : List Event) (c : Collected) → IsCollect c → IsPrefix old c.item_x.prefix → IsPrefix c.group_y.prefix middle
    → IsPrefix middle new → Between old new c.group_y.prefix
last-between old middle new c is begins ends goes_on =
    let last = c.group_y.prefix in
    let third = prefix_trans c.item_y.prefix c.group_x.prefix last is.second_third is.third_last in
    record {
      extends = prefix_trans old c.item_x.prefix last begins (prefix_trans c.item_x.prefix c.item_y.prefix last is.first_second third);
      extended = prefix_trans last middle new ends goes_on;
    }

-- the answer of the second collect is that of the comparison
pub collect-compares : (old middle new : PassSeen) (x y : ℕ) (a : Answer) (c : Collected) → IsCollect c → (c.table ≡ old.table) × (c.x ≡ x) × (c.y ≡ y)
    → IsPrefix old.log c.item_x.prefix → IsPrefix c.group_y.prefix middle.log → Steps old middle 4 1 → IsPrefix middle.log new.log → x ≢ y
    → EndsSecond c middle new a → Compares old new x y a
collect-compares old middle new x y a c is of begins ends first goes_on differ second =
    let two : (b : Answer) → EndsSecond c middle new b → TwoCollects old new x y b = λ b e. record {
      collect = c;
      is = is;
      same_table = of.0;
      same_x = of.1;
      same_y = of.2;
      middle = middle;
      begins = begins;
      ends = ends;
      first = first;
      second = e;
    } in
    let between = last-between old.log middle.log new.log c is begins ends goes_on in
    let names : ◌≡◌ {A = TableName × (ℕ × ℕ)} (c.table, (c.x, c.y)) (old.table, (x, y)) = λ i. (of.0 i, (of.1 i, of.2 i)) in
    elim a as (λ b. EndsSecond c middle new b → Compares old new x y b) [
      | Before ↦ λ e. (
        differ,
        record {
          prefix = c.group_y.prefix;
          between = between;
          stood = subst (λ (z : TableName × (ℕ × ℕ)). StandsBefore z.1.0 z.1.1 (list_after z.0 c.group_y.prefix)) names e.2;
        },
        two Before e,
        steps-then old middle new 4 1 4 0 first e.1,
      )
      | After ↦ λ e. (
        differ,
        record {
          prefix = c.group_y.prefix;
          between = between;
          stood = subst (λ (z : TableName × (ℕ × ℕ)). StandsBefore z.1.1 z.1.0 (list_after z.0 c.group_y.prefix)) names e.2;
        },
        two After e,
        steps-then old middle new 4 1 4 0 first e.1,
      )
      | Same ↦ λ e. absurd e
      | Absent item ↦ λ e. absurd e
      | Again again ↦ λ e. (differ, two (Again again) e)
    ] second
