-- What a second load tells of a first, and second loads one after the other.
use Rattle.std.proofs.Common.{◌≡◌, ℕ, ◌+◌, ◌<◌, List, [], ◌∷◌, length, refl, ap, arith}
use Rattle.std.specs.Prelude.{Option, None, Some, IfNone, IfSome}
use mathlib.Core.List.{IsPrefix}
use Rattle.kc_words.specs.declared.again.Again.{Again}
use Rattle.kc_table.specs.Legal.{Legal}
use Rattle.kc_table.specs.Log.{PassSeen, value_at}
use Rattle.kc_table.specs.TableState.{word_count}
use Rattle.kc_order.specs.Collected.{Collected, IsCollect, Loaded}
use Rattle.kc_order.specs.Standing.{FindsOther, FindsSame, LoadsOther, LoadsWord, Steps}

-- one load, as its clauses tell of it
pub loads_word : (old new : PassSeen) (word value : ℕ) → new.table ≡ old.table → IsPrefix old.log new.log → Legal new.table.shape new.table.opening new.log
    → value ≡ value_at new.table.opening new.log word → (new.loads ≡ old.loads + 1) × (new.splits ≡ old.splits) → LoadsWord old new word value
loads_word old new word value table longer legal held counted = record {
  table = table;
  longer = longer;
  legal = legal;
  held = held;
  steps = record { loaded = counted.0; split = omega (arith, counted.1) };
}

-- steps that follow others are made beside them
pub steps-then : (old next new : PassSeen) (a b c d : ℕ) → Steps old next a b → Steps next new c d → Steps old new (a + c) (b + d)
steps-then old next new a b c d h k = record { loaded = omega (arith, h.loaded, k.loaded); split = omega (arith, h.split, k.split) }

-- as many loads are made as words are found the same
pub finds_same-steps : (old : PassSeen) (ls : List Loaded) (new : PassSeen) → FindsSame old ls new → Steps old new (length ls) 0
finds_same-steps old [] new is = record { loaded = omega (arith, ap (λ (s : PassSeen). s.loads) is); split = omega (arith, ap (λ (s : PassSeen). s.splits) is) }
finds_same-steps old (l ∷ ls) new (next, one, rest) =
    let more = finds_same-steps next ls new rest in
    record { loaded = omega (arith, one.steps.loaded, more.loaded); split = omega (arith, one.steps.split, more.split) }

-- where the first of the words differs, second loads find a word that differs
pub finds_other-here : (old new : PassSeen) (l : Loaded) (ls : List Loaded) (again : Again) → LoadsOther old new l.word l.value again
    → FindsOther old (l ∷ ls) new again
finds_other-here old new l ls again h = record {
  front = [];
  other = l;
  back = ls;
  are = refl;
  middle = old;
  same = refl;
  differs = h;
  steps = record { loaded = omega (arith, h.loaded.steps.loaded); split = omega (arith, h.loaded.steps.split) };
}

-- where the first word is the same and one of the others differs, second loads find one that differs
pub finds_other-later : (old next new : PassSeen) (l : Loaded) (ls : List Loaded) (again : Again) → LoadsWord old next l.word l.value
    → FindsOther next ls new again
    → FindsOther old (l ∷ ls) new again
finds_other-later old next new l ls again one h = record {
  front = l ∷ h.front;
  other = h.other;
  back = h.back;
  are = ap (λ z. l ∷ z) h.are;
  middle = h.middle;
  same = (next, one, h.same);
  differs = h.differs;
  steps = record { loaded = omega (arith, one.steps.loaded, h.steps.loaded); split = omega (arith, one.steps.split, h.steps.split) };
}

-- the four words are words of the table
pub words_there : (c : Collected) (n : ℕ) → IsCollect c → n ≡ word_count c.table.shape
    → (c.item_x.word < n) × (c.item_y.word < n) × (c.group_x.word < n) × (c.group_y.word < n)
words_there c n h is = (
  omega (arith, h.item_x_is, h.x_in, is),
  omega (arith, h.item_y_is, h.y_in, is),
  omega (arith, h.group_x_is, h.x_group, is),
  omega (arith, h.group_y_is, h.y_group, is),
)

-- what follows from something that holds where an option has nothing holds there too
pub if_none : {A P Q : Type 0} (o : Option A) → IfNone o P → (P → Q) → IfNone o Q
if_none None p f = f p
if_none (Some a) p f = tt

-- what follows from something that holds of what an option has holds of it too
pub if_some : {A : Type 0} {P Q : A → Type 0} (o : Option A) → IfSome o P → ((a : A) → P a → Q a) → IfSome o Q
if_some None p f = tt
if_some (Some a) p f = f a p
