-- What a loose view has answered stays so, and each answer more is so too; what a miss means.
use Rattle.std.proofs.Common.{◌≡◌, ◌≤◌, ◌<◌, ◌+◌, ℕ, suc, true, false, cond, List, [], ◌∷◌, ◌++◌, length, get_or}
use Rattle.std.proofs.Common.{refl, sym, ◌∙◌, ap, subst, arith, eqb, eqb-true}
use Rattle.std.specs.Prelude.{All, Some, is_some}
use Rattle.std.proofs.lemmas.Bool.{false≢true}
use Rattle.std.proofs.lemmas.List.Elements.{All-cons, All-nil, All-push, All-weaker}
use mathlib.Core.List.{IsPrefix}
use Rattle.kc_graph.specs.declared.used.UsedEdges.{UsedEdges}
use Rattle.kc_graph.specs.declared.used.UsedPlace.{UsedPlace}
use Rattle.kc_words.proofs.Packing.{vertex_word-vertex_of}
use Rattle.kc_words.specs.VertexWord.{vertex_of, vertex_word}
use Rattle.kc_words.specs.declared.again.Again.{Again}
use Rattle.kc_words.specs.declared.vertex.VertexWord.{VertexWord}
use Rattle.kc_table.specs.declared.view.Event.{Event}
use Rattle.kc_table.specs.Log.{PassSeen, TableName, value_at}
use Rattle.kc_table.specs.TableState.{first_vertex}
use Rattle.kc_table.proofs.Prefixes.{prefix_self, prefix_trans}
use Rattle.kc_table.proofs.Stamps.{stamp-is}
use Rattle.kc_order.specs.Collected.{Collected, IsCollect, Loaded, Held, words_of}
use Rattle.kc_order.specs.Standing.{Between, FindsSame, TwoCollects}
use Rattle.kc_order.specs.declared.answer.Answer.TheVariants as answer
use Rattle.kc_view.specs.Answers.{Answers, nothing_answered, list_in, core_in, has_list, has_core, with_list, with_place}
use Rattle.kc_view.specs.Views.{Shown, HasPlanCause}
use Rattle.kc_view.specs.declared.fault.PlanFault.{PlanFault}
use Rattle.kc_view.specs.declared.fault.PlanFault.TheVariants as plan
use Rattle.kc_agree.specs.Reads.{IsOtherPlace, WasList, WasPlace, WereRead, place_after, word_of_place}
use Rattle.kc_agree.proofs.Growing.{reads_stay, nothing_read, one_list}
use Rattle.kc_table.specs.Log.{Opened}
use Rattle.kc_stripes.specs.Reads.{HadPlace, HadValue, HasLooseCause, IsMissed, WereReadSince}

-- Where more was seen. ---------------------------------------------------------------------------------

-- what lies between two prefixes of a log lies so where more was seen
between_grows : (start before log prefix : List Event) → Between start before prefix → IsPrefix before log → Between start log prefix
between_grows start before log prefix b pre = record { extends = b.extends; extended = prefix_trans prefix before log b.extended pre }

-- a place that a vertex had since a moment is one that it had where more was seen
place_grows : (table : TableName) (start before log : List Event) (p : UsedPlace) → HadPlace table start before p → IsPrefix before log
    → HadPlace table start log p
place_grows table start before log p h pre = record {
  prefix = h.prefix;
  between = between_grows start before log h.prefix h.between pre;
  stamp = h.stamp;
  core = h.core;
}

-- what was read stays so
pub since_grows : (o : Opened) (start before log : List Event) (a : Answers) → WereReadSince o start before a → IsPrefix before log
    → WereReadSince o start log a
since_grows o start before log a h pre = record {
  read = reads_stay o.table o.edges before log a pre h.read;
  lists = h.lists;
  places = All-weaker (HadPlace o.table start before) (HadPlace o.table start log) (λ p w. place_grows o.table start before log p w pre) a.places h.places;
}

-- a value that a word had since a moment is one that it had where more was seen
value_grows : (table : TableName) (start before log : List Event) (word value : ℕ) → HadValue table start before word value → IsPrefix before log
    → HadValue table start log word value
value_grows table start before log word value h pre = record {
  prefix = h.prefix;
  between = between_grows start before log h.prefix h.between pre;
  held = h.held;
}

-- a miss stays one where more was seen
pub missed_grows : (table : TableName) (start before log : List Event) (again : Again) → IsMissed table start before again → IsPrefix before log
    → IsMissed table start log again
missed_grows table start before log again m pre = record {
  first = value_grows table start before log again.word again.first m.first pre;
  second = value_grows table start before log again.word again.second m.second pre;
  differ = m.differ;
}

-- a value that a word had since a moment is one that it had since an earlier one
value_earlier : (table : TableName) (earlier start log : List Event) (word value : ℕ) → HadValue table start log word value → IsPrefix earlier start
    → HadValue table earlier log word value
value_earlier table earlier start log word value h pre = record {
  prefix = h.prefix;
  between = record { extends = prefix_trans earlier start h.prefix pre h.between.extends; extended = h.between.extended };
  held = h.held;
}

-- a miss since a moment is one since an earlier moment
pub missed_earlier : (table : TableName) (earlier start log : List Event) (again : Again) → IsMissed table start log again → IsPrefix earlier start
    → IsMissed table earlier log again
missed_earlier table earlier start log again m pre = record {
  first = value_earlier table earlier start log again.word again.first m.first pre;
  second = value_earlier table earlier start log again.word again.second m.second pre;
  differ = m.differ;
}

-- a planner's fault, where more was seen since
pub fault_grows : (table : TableName) (start before log : List Event) (old new : Shown) (fault : PlanFault)
    → ((again : Again) → new.is_missed again → IsMissed table start before again) → HasPlanCause old new fault → IsPrefix before log
    → HasLooseCause table start log fault
fault_grows table start before log old new (plan.Miss again) says h pre = missed_grows table start before log again (says again h.missed) pre
fault_grows table start before log old new plan.NoMemory says h pre = tt

-- One answer more. ---------------------------------------------------------------------------------------

-- where nothing was answered, what was read since a moment is so
pub nothing_since : (o : Opened) (start log : List Event) → WereReadSince o start log nothing_answered
nothing_since o start log = record {
  read = nothing_read o.table o.edges log;
  lists = λ i d l. absurd (omega (arith, l));
  places = λ i d l. absurd (omega (arith, l));
}

-- a list that is not older than the opening
pub list_since : (o : Opened) (start log : List Event) (a : Answers) (e : UsedEdges) → WereReadSince o start log a → WasList o.table o.edges log e
    → get_or o.stamps e.vertex 0 ≤ e.at → WereReadSince o start log (with_list a e)
list_since o start log a e h was newer = record {
  read = one_list o.table o.edges log a e h.read was;
  lists = All-push (λ (x : UsedEdges). get_or o.stamps x.vertex 0 ≤ x.at) a.edges e h.lists newer;
  places = h.places;
}

-- the place of a vertex as it is after the log
pub place_since : (o : Opened) (start before log : List Event) (a : Answers) (v : ℕ) → WereReadSince o start before a → IsPrefix start log
    → IsPrefix before log → WereRead o.table o.edges log (with_place a (place_after o.table log v))
    → WereReadSince o start log (with_place a (place_after o.table log v))
place_since o start before log a v h begins pre read =
    let old = since_grows o start before log a h pre in
    let new : HadPlace o.table start log (place_after o.table log v) = record {
      prefix = log;
      between = record { extends = begins; extended = prefix_self log };
      stamp = refl;
      core = refl;
    } in
    record { read = read; lists = h.lists; places = All-push (HadPlace o.table start log) a.places (place_after o.table log v) old.places new }

-- whose lists were told are vertices of the table
lists_below : (o : Opened) (log : List Event) (w : ℕ) (xs : List UsedEdges) → All (WasList o.table o.edges log) xs → is_some (list_in w xs) ≡ true
    → w < o.table.shape.fixed
lists_below o log w [] all told = absurd (false≢true told)
lists_below o log w (x ∷ xs) all told =
    elim (eqb w x.vertex) as (λ b. eqb w x.vertex ≡ b → is_some (cond b (Some x.neighbours) (list_in w xs)) ≡ true → w < o.table.shape.fixed) [
      | true ↦ λ e _. let first : WasList o.table o.edges log x = all 0 x (omega arith) in omega (arith, first.vertex, eqb-true w x.vertex e)
      | false ↦ λ e t. lists_below o log w xs (λ i d l. all (suc i) d (omega (arith, l))) t
    ] refl told

-- whose core numbers were told are vertices of the table
cores_below : (o : Opened) (log : List Event) (w : ℕ) (xs : List UsedPlace) → All (WasPlace o.table log) xs → is_some (core_in w xs) ≡ true
    → w < o.table.shape.fixed
cores_below o log w [] all told = absurd (false≢true told)
cores_below o log w (x ∷ xs) all told =
    elim (eqb w x.vertex) as (λ b. eqb w x.vertex ≡ b → is_some (cond b (Some x.core) (core_in w xs)) ≡ true → w < o.table.shape.fixed) [
      | true ↦ λ e _. let first : WasPlace o.table log x = all 0 x (omega arith) in omega (arith, first.vertex, eqb-true w x.vertex e)
      | false ↦ λ e t. cores_below o log w xs (λ i d l. all (suc i) d (omega (arith, l))) t
    ] refl told

-- a vertex whose list a view has answered is one of the table
pub list_below : (o : Opened) (start log : List Event) (a : Answers) (w : ℕ) → WereReadSince o start log a → has_list a w ≡ true
    → w < o.table.shape.fixed
list_below o start log a w h told = lists_below o log w a.edges h.read.edges told

-- a vertex whose core number a view has answered is one of the table
pub core_below : (o : Opened) (start log : List Event) (a : Answers) (w : ℕ) → WereReadSince o start log a → has_core a w ≡ true
    → w < o.table.shape.fixed
core_below o start log a w h told = cores_below o log w a.places h.read.places told

-- A miss. --------------------------------------------------------------------------------------------------

-- the element behind the front
at_middle : (front back : List Loaded) (l d : Loaded) → get_or (front ++ l ∷ back) (length front) d ≡ l
at_middle [] back l d = refl
at_middle (x ∷ front) back l d = at_middle front back l d

-- a list is longer than the front before one of its elements
long_enough : (front back : List Loaded) (l : Loaded) → length front < length (front ++ l ∷ back)
long_enough [] back l = omega arith
long_enough (x ∷ front) back l = omega (arith, long_enough front back l)

-- words that are found the same were found by loads
same_extends : (old : PassSeen) (ls : List Loaded) (new : PassSeen) → FindsSame old ls new → IsPrefix old.log new.log
same_extends old [] new h = subst (λ (p : PassSeen). IsPrefix old.log p.log) (sym h) (prefix_self old.log)
same_extends old (l ∷ ls) new h = prefix_trans old.log h.0.log new.log h.1.longer (same_extends h.0 ls new h.2)

-- a word that a collect has loaded since `start`
record HeldSince (table : TableName) (start middle : List Event) (l : Loaded) : Type 0 where
  held : Held table l
  begins : IsPrefix start l.prefix
  ends : IsPrefix l.prefix middle

-- the four words of a collect were loaded since it began
all_since : (start middle : List Event) (c : Collected) → IsCollect c → IsPrefix start c.item_x.prefix → IsPrefix c.group_y.prefix middle
    → All (HeldSince c.table start middle) (words_of c)
all_since start middle c is begins ends =
    let second = prefix_trans start c.item_x.prefix c.item_y.prefix begins is.first_second in
    let third = prefix_trans start c.item_y.prefix c.group_x.prefix second is.second_third in
    let last = prefix_trans start c.group_x.prefix c.group_y.prefix third is.third_last in
    let third_ends = prefix_trans c.group_x.prefix c.group_y.prefix middle is.third_last ends in
    let second_ends = prefix_trans c.item_y.prefix c.group_x.prefix middle is.second_third third_ends in
    let first_ends = prefix_trans c.item_x.prefix c.item_y.prefix middle is.first_second second_ends in
    let P : Loaded → Type 0 = HeldSince c.table start middle in
    All-cons P c.item_x (c.item_y ∷ c.group_x ∷ c.group_y ∷ []) (record { held = is.item_x_held; begins = begins; ends = first_ends })
    (All-cons P c.item_y (c.group_x ∷ c.group_y ∷ []) (record { held = is.item_y_held; begins = second; ends = second_ends })
    (All-cons P c.group_x (c.group_y ∷ []) (record { held = is.group_x_held; begins = third; ends = third_ends })
    (All-cons P c.group_y [] (record { held = is.group_y_held; begins = last; ends = ends }) (All-nil P))))

-- A comparison that found a word changed has missed: it loaded the word's first value in the first collect, and the second one last.
pub missed_of : (table : TableName) (start : List Event) (old new : PassSeen) (x y : ℕ) (again : Again) → old.table ≡ table → new.table ≡ table
    → IsPrefix start old.log → TwoCollects old new x y (answer.Again again) → IsMissed table start new.log again
missed_of table start old new x y again named same begins t =
    let c : Collected = t.collect in
    let f = t.second in
    let l : Loaded = f.other in
    let first : IsPrefix start c.item_x.prefix = prefix_trans start old.log c.item_x.prefix begins t.begins in
    let all : All (HeldSince c.table start t.middle.log) (f.front ++ l ∷ f.back) =
    subst (All (HeldSince c.table start t.middle.log)) f.are (all_since start t.middle.log c t.is first t.ends) in
    let here : HeldSince c.table start t.middle.log l =
    subst (HeldSince c.table start t.middle.log) (at_middle f.front f.back l l) (all (length f.front) l (long_enough f.front f.back l)) in
    let later : IsPrefix t.middle.log new.log =
    prefix_trans t.middle.log f.middle.log new.log (same_extends t.middle f.front f.middle f.same) f.differs.loaded.longer in
    let word : l.word ≡ again.word = sym f.differs.named in
    record {
      first = record {
        prefix = l.prefix;
        between = record { extends = here.begins; extended = prefix_trans l.prefix t.middle.log new.log here.ends later };
        held = f.differs.before ∙ (here.held ∙ (ap (λ (z : TableName). value_at z.opening l.prefix l.word) (t.same_table ∙ named)
            ∙ ap (value_at table.opening l.prefix) word));
      };
      second = record {
        prefix = new.log;
        between = record {
          extends = prefix_trans start t.middle.log new.log (prefix_trans start l.prefix t.middle.log here.begins here.ends) later;
          extended = prefix_self new.log;
        };
        held = f.differs.loaded.held ∙ (ap (λ (z : TableName). value_at z.opening new.log l.word) same ∙ ap (value_at table.opening new.log) word);
      };
      differ = f.differs.differ;
    }

-- the place that a vertex had is a value that its word had
placed_value : (table : TableName) (start log : List Event) (p : UsedPlace) → HadPlace table start log p
    → HadValue table start log (first_vertex table.shape + p.vertex) (word_of_place p)
placed_value table start log p h =
    let value : ℕ = value_at table.opening h.prefix (first_vertex table.shape + p.vertex) in
    let is : ◌≡◌ {A = VertexWord} (vertex_of value) (record { stamp = p.stamp; core = p.core }) =
    λ i. record { stamp = (sym (stamp-is table.shape table.opening h.prefix p.vertex) ∙ h.stamp) i; core = h.core i } in
    record { prefix = h.prefix; between = h.between; held = ap vertex_word (sym is) ∙ vertex_word-vertex_of value }

-- A place that was read since `start` and is another one now: its word has missed.
pub missed_place : (o : Opened) (start before log : List Event) (a : Answers) (i : ℕ) (p : UsedPlace) (now : TableName) (again : Again)
    → WereReadSince o start before a → IsPrefix start log → IsPrefix before log → i < length a.places → get_or a.places i p ≡ p → now ≡ o.table
    → IsOtherPlace now log p again → IsMissed o.table start log again
missed_place o start before log a i p now again h begins pre low is named other =
    let had : HadPlace o.table start log p =
    place_grows o.table start before log p (subst (HadPlace o.table start before) is (h.places i p low)) pre in
    let word : again.word ≡ first_vertex o.table.shape + p.vertex = other.word ∙ ap (λ (z : TableName). first_vertex z.shape + p.vertex) named in
    record {
      first =
          subst (λ w. HadValue o.table start log w again.first) (sym word)
          (subst (HadValue o.table start log (first_vertex o.table.shape + p.vertex)) (sym other.first) (placed_value o.table start log p had));
      second = record {
        prefix = log;
        between = record { extends = begins; extended = prefix_self log };
        held = other.second ∙ ap (λ (z : TableName). value_at z.opening log again.word) named;
      };
      differ = other.differ;
    }
