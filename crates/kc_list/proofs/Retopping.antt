-- How the groups of the labelled list get new labels.
use Rattle.std.proofs.Common.{◌≡◌, ℕ, ◌+◌, ◌-◌, ◌*◌, ◌/◌, ◌<◌, ◌≤◌, cond, List, refl, sym, ap, ◌∙◌, get_or, ltb, set, length, map, take, subst, arith}
use Rattle.std.proofs.lemmas.List.{get_or-map, length-append, length-map}
use Rattle.kc_lists.specs.Lists.{Distinct}
use Rattle.kc_links.specs.Ring.{Chain}
use Rattle.kc_relabel.specs.Labels.{Ascends, downs, ups, written}
use Rattle.kc_relabel.proofs.Rising.{Along-take, Writes, schedule-along, schedule-length}
use Rattle.kc_relabel.proofs.Once.{schedule-below, schedule-once}
use Rattle.kc_relabel.proofs.Stepping.{Turn, above-greater, grow-none, grow-read, grow-turn, grown_from, not-above-greater}
use Rattle.kc_relabel.proofs.Stepping.{shrink-none, shrink-read, shrink-turn, shrunk_before}
use Rattle.kc_words.specs.GroupWord.{group_of}
use Rattle.kc_words.specs.declared.group.GroupWord.{GroupWord}
use Rattle.kc_words.specs.declared.layout.TheConstants.{ITEMS, LAST_VERSION, TOP_ROOM}
use Rattle.kc_list.specs.Places.{WordsKeepList}
use Rattle.kc_list.specs.Views.{evenly, groups_in_use, top_at, version_at}
use Rattle.kc_list.specs.Scheduling.{IsSchedule}
use Rattle.kc_list.specs.Rewriting.{StoresWord}
use Rattle.kc_list.specs.Retops.{MayRetop, Retopway, even_schedule, tops_of}
use Rattle.kc_list.specs.declared.labelled.LabelledList.{LabelledList}
use Rattle.kc_list.proofs.Groupings.{evens-rise, groups_few}
use Rattle.kc_list.proofs.Relabelling.{places_within}
use Rattle.kc_list.proofs.Splits.{same_version}
use Rattle.kc_list.proofs.Spreading.{get_or-evens, length-evens}
use Rattle.kc_list.proofs.Toplabels.{RetopFacts, retop_facts, runs_distinct, topway-ascends, topway-more, topway-none, topway-version}

-- the word of a group with another label
pub retopped_by : (a : LabelledList) (gs : List ℕ) (i label : ℕ) (old : GroupWord) → old ≡ group_of (get_or a.sheet.words (a.links.size + get_or gs i 0) 0)
    → gs ≡ groups_in_use a.links a.sheet → i < length gs → version_at a.sheet (a.links.size + get_or gs i 0) < LAST_VERSION
    → Ascends 1 TOP_ROOM (set (map (top_at a.links a.sheet) gs) i label)
    → RetopFacts a.links.size a.sheet.words a.links.list gs i (record { version = old.version + 1; top = label })
retopped_by a gs i label old is groups i-in few asc =
    let w : GroupWord = record { version = old.version + 1; top = label } in
    retop_facts a.links.size a.sheet.words a.links.list gs i w a.sound groups i-in
    (omega (arith, ap (λ (w : GroupWord). w.version) is, same_version (get_or a.sheet.words (a.links.size + get_or gs i 0) 0), few)) asc

-- at first no step of a schedule for the groups is done
pub retopway-none : (a : LabelledList) (gs : List ℕ) (ss : Writes) → gs ≡ groups_in_use a.links a.sheet → Retopway a a gs ss 0
retopway-none a gs ss e =
    record { links = refl; groups = refl; topway = topway-none a.links.size a.links.list a.sheet gs ss a.sound e }

-- one step more of a schedule for the groups is done
pub retopway-more : (a b d : LabelledList) (gs : List ℕ) (ss : Writes) (j : ℕ) → Retopway a b gs ss j → j < length ss
    → gs ≡ groups_in_use a.links a.sheet → IsSchedule TOP_ROOM (map (top_at a.links a.sheet) gs) ss → gs ≡ groups_in_use b.links d.sheet
    → map (top_at b.links d.sheet) gs ≡ set (map (top_at b.links b.sheet) gs) (get_or ss j (0, 0)).0 (get_or ss j (0, 0)).1
    → StoresWord (b.links.size + get_or gs (get_or ss j (0, 0)).0 0) b d → Retopway a d gs ss (j + 1)
retopway-more a b d gs ss j way less e schedule groups tops stores =
    let distinct : Distinct gs = subst Distinct (sym e) (runs_distinct a.links.size a.sheet.words a.links.list a.sound).0 in
    let there = subst (λ (l : Chain). StoresWord (l.size + get_or gs (get_or ss j (0, 0)).0 0) b d) way.links stores in
    record {
      links = stores.links ∙ way.links;
      groups = stores.groups ∙ way.groups;
      topway = topway-more a.links.size a.links.list a.sheet b.sheet d.sheet gs ss j _ way.topway less distinct schedule.once
          (places_within (top_at a.links a.sheet) gs TOP_ROOM ss schedule)
          (subst (λ (l : Chain). WordsKeepList l.size d.sheet.words l.list) (stores.links ∙ way.links) d.sound)
          (subst (λ (l : Chain). gs ≡ groups_in_use l d.sheet) way.links groups)
          (subst (λ (l : Chain). map (top_at l d.sheet) gs ≡ set (map (top_at l b.sheet) gs) (get_or ss j (0, 0)).0 (get_or ss j (0, 0)).1)
          way.links tops) there.stores.words there.stores.writes there.stores.version there.stores.room;
    }

-- the labels of the groups in use, and those at even distances, are as many and ascend
pub record Evening (a : LabelledList) (gs : List ℕ) : Type 0 where
  pub few : length gs ≤ ITEMS
  pub long : length (tops_of a gs) ≡ length gs
  pub same : length (tops_of a gs) ≡ length (evenly (length gs) TOP_ROOM)
  pub olds : Ascends 1 TOP_ROOM (tops_of a gs)
  pub evens : Ascends 1 TOP_ROOM (evenly (length gs) TOP_ROOM)

-- so it is for the groups of a list
pub evening : (a : LabelledList) (gs : List ℕ) → gs ≡ groups_in_use a.links a.sheet → Evening a gs
evening a gs e =
    let few : length gs ≤ ITEMS = omega (arith, groups_few a.links.size a.sheet.words a.links.list gs a.sound e, a.small) in
    record {
      few = few;
      long = length-map gs (top_at a.links a.sheet);
      same = length-map gs (top_at a.links a.sheet) ∙ sym (length-evens (length gs) (TOP_ROOM / (length gs + 1)) 0);
      olds = subst (λ hs. Ascends 1 TOP_ROOM (map (top_at a.links a.sheet) hs)) (sym e)
          (runs_distinct a.links.size a.sheet.words a.links.list a.sound).1;
      evens = evens-rise (length gs) TOP_ROOM (omega (arith, few));
    }

-- the writes of the even schedule are a schedule
even-schedule-is : (a : LabelledList) (gs : List ℕ) → Evening a gs → IsSchedule TOP_ROOM (tops_of a gs) (even_schedule a gs)
even-schedule-is a gs h = record {
  once = schedule-once (tops_of a gs) (evenly (length gs) TOP_ROOM) h.same;
  within = schedule-below (tops_of a gs) (evenly (length gs) TOP_ROOM);
  ascends = λ k l. Along-take (Ascends 1 TOP_ROOM) (tops_of a gs) (even_schedule a gs) k
      (schedule-along 1 TOP_ROOM (tops_of a gs) (evenly (length gs) TOP_ROOM) h.same h.olds h.evens).0;
}

-- the even label of a place
even-at : (n room i : ℕ) → i < n → get_or (evenly n room) i 0 ≡ (i + 1) * (room / (n + 1))
even-at n room i l = let z : 0 + i + 1 ≡ i + 1 = omega arith in get_or-evens n (room / (n + 1)) 0 i l ∙ ap (λ y. y * (room / (n + 1))) z

-- a write of the even schedule whose turn has come: which place it is, and its label
pub record IsTurn (a b : LabelledList) (gs : List ℕ) (j i label : ℕ) : Type 0 where
  pub may : MayRetop a gs
  pub way : Retopway a b gs (even_schedule a gs) j
  pub turn : Turn (tops_of a gs) (evenly (length gs) TOP_ROOM) j i
  pub i_in : i < length gs
  pub label_is : label ≡ (i + 1) * (TOP_ROOM / (length gs + 1))

-- the write that the schedule has there
turn-write : (a b : LabelledList) (gs : List ℕ) (j i label : ℕ) → IsTurn a b gs j i label → get_or (even_schedule a gs) j (0, 0) ≡ (i, label)
turn-write a b gs j i label t = t.turn.write ∙ ap (λ (l : ℕ). (i, l)) (even-at (length gs) TOP_ROOM i t.i_in ∙ sym t.label_is)

-- what a write of a label needs
pub record MayWrite (b : LabelledList) (gs : List ℕ) (i label : ℕ) : Type 0 where
  pub groups : gs ≡ groups_in_use b.links b.sheet
  pub ascends : Ascends 1 TOP_ROOM (set (map (top_at b.links b.sheet) gs) i label)
  pub version : version_at b.sheet (b.links.size + get_or gs i 0) < LAST_VERSION
  pub room : length b.sheet.writes < b.sheet.room

-- a write whose turn has come has it
pub may-write : (a b : LabelledList) (gs : List ℕ) (j i label : ℕ) → IsTurn a b gs j i label → MayWrite b gs i label
may-write a b gs j i label t =
    let h = evening a gs t.may.groups in
    let write = turn-write a b gs j i label t in
    record {
      groups = subst (λ (l : Chain). gs ≡ groups_in_use l b.sheet) (sym t.way.links) t.way.topway.groups;
      ascends = subst (λ (l : Chain). Ascends 1 TOP_ROOM (set (map (top_at l b.sheet) gs) i label)) (sym t.way.links)
          (subst (λ (w : ℕ × ℕ). Ascends 1 TOP_ROOM (set (map (top_at a.links b.sheet) gs) w.0 w.1)) write
          (topway-ascends a.links.size a.links.list a.sheet b.sheet gs (even_schedule a gs) j t.way.topway (even-schedule-is a gs h).ascends t.turn.within));
      version = subst (λ (l : Chain). version_at b.sheet (l.size + get_or gs i 0) < LAST_VERSION) (sym t.way.links)
          (subst (λ (w : ℕ × ℕ). version_at b.sheet (a.links.size + get_or gs w.0 0) < LAST_VERSION) write
          (topway-version a.links.size a.links.list a.sheet b.sheet gs (even_schedule a gs) j t.way.topway t.may.version
          (omega (arith, ap (λ (w : ℕ × ℕ). w.0) write, t.i_in)) t.turn.within));
      room = omega (
        arith,
        t.way.topway.length_is,
        t.way.topway.room,
        t.may.room,
        t.turn.within,
        h.long,
        schedule-length 0 0 (tops_of a gs) (evenly (length gs) TOP_ROOM) h.same,
        length-append (ups 0 (tops_of a gs) (evenly (length gs) TOP_ROOM)) (downs 0 (tops_of a gs) (evenly (length gs) TOP_ROOM)),
      );
    }

-- once it is written, one step more is done
pub turn-done : (a b d : LabelledList) (gs : List ℕ) (j i label : ℕ) → IsTurn a b gs j i label → gs ≡ groups_in_use b.links d.sheet
    → map (top_at b.links d.sheet) gs ≡ set (map (top_at b.links b.sheet) gs) i label → StoresWord (b.links.size + get_or gs i 0) b d
    → Retopway a d gs (even_schedule a gs) (j + 1)
turn-done a b d gs j i label t groups tops stores =
    let write = turn-write a b gs j i label t in
    retopway-more a b d gs (even_schedule a gs) j t.way t.turn.within t.may.groups (even-schedule-is a gs (evening a gs t.may.groups)) groups
    (subst (λ (w : ℕ × ℕ). map (top_at b.links d.sheet) gs ≡ set (map (top_at b.links b.sheet) gs) w.0 w.1) (sym write) tops)
    (subst (λ (w : ℕ × ℕ). StoresWord (b.links.size + get_or gs w.0 0) b d) (sym write) stores)

-- the label that the group at a place has after some steps
pub top-read : (a b : LabelledList) (gs : List ℕ) (ss : Writes) (j i : ℕ) → Retopway a b gs ss j → i < length gs
    → (group_of (get_or b.sheet.words (b.links.size + get_or gs i 0) 0)).top ≡ get_or (written (tops_of a gs) (take j ss)) i 0
top-read a b gs ss j i way l =
    subst (λ (c : Chain). (group_of (get_or b.sheet.words (c.size + get_or gs i 0) 0)).top ≡ get_or (written (tops_of a gs) (take j ss)) i 0) (sym way.links)
    (sym (get_or-map (top_at a.links b.sheet) gs i 0 0 l) ∙ ap (λ (xs : List ℕ). get_or xs i 0) way.topway.tops)

-- the place before the first that has had its turn to grow: whether its label is below the even one
pub record AtRaise (a b : LabelledList) (gs : List ℕ) (left top label : ℕ) : Type 0 where
  pub may : MayRetop a gs
  pub left_in : left ≤ length gs
  pub some : 0 < left
  pub way : Retopway a b gs (even_schedule a gs) (grown_from left (tops_of a gs) (evenly (length gs) TOP_ROOM))
  pub top_is : top ≡ (group_of (get_or b.sheet.words (b.links.size + get_or gs (left - 1) 0) 0)).top
  pub label_is : label ≡ (left - 1 + 1) * (TOP_ROOM / (length gs + 1))

-- its label is the old one
raise-old : (a b : LabelledList) (gs : List ℕ) (left top label : ℕ) → AtRaise a b gs left top label → top ≡ get_or (tops_of a gs) (left - 1) 0
raise-old a b gs left top label r =
    let h = evening a gs r.may.groups in
    let os = tops_of a gs in
    let ns = evenly (length gs) TOP_ROOM in
    let s : left - 1 + 1 ≡ left = omega (arith, r.some) in
    r.top_is ∙ (top-read a b gs (even_schedule a gs) (grown_from left os ns) (left - 1) r.way (omega (arith, r.left_in, r.some))
    ∙ subst (λ m. get_or (written (tops_of a gs) (take (grown_from m (tops_of a gs) (evenly (length gs) TOP_ROOM)) (even_schedule a gs))) (left - 1) 0
    ≡ get_or (tops_of a gs) (left - 1) 0) s (grow-read os ns (left - 1) h.same (omega (arith, h.long, r.left_in, r.some))))

-- where it grows, its turn has come
pub raise-turn : (a b : LabelledList) (gs : List ℕ) (left top label : ℕ) → AtRaise a b gs left top label → top < label
    → IsTurn a b gs (grown_from left (tops_of a gs) (evenly (length gs) TOP_ROOM)) (left - 1) label
    × (grown_from (left - 1) (tops_of a gs) (evenly (length gs) TOP_ROOM) ≡ grown_from left (tops_of a gs) (evenly (length gs) TOP_ROOM) + 1)
raise-turn a b gs left top label r lt =
    let h = evening a gs r.may.groups in
    let os = tops_of a gs in
    let ns = evenly (length gs) TOP_ROOM in
    let s : left - 1 + 1 ≡ left = omega (arith, r.some) in
    let i-in : left - 1 < length gs = omega (arith, r.left_in, r.some) in
    let at = grow-turn os ns (left - 1) h.same (omega (arith, h.long, i-in))
    (omega (arith, raise-old a b gs left top label r, r.label_is, even-at (length gs) TOP_ROOM (left - 1) i-in, lt)) in
    let at' = subst (λ m. Turn (tops_of a gs) (evenly (length gs) TOP_ROOM) (grown_from m (tops_of a gs) (evenly (length gs) TOP_ROOM)) (left - 1)
    × (grown_from (left - 1) (tops_of a gs) (evenly (length gs) TOP_ROOM) ≡ grown_from m (tops_of a gs) (evenly (length gs) TOP_ROOM) + 1)) s at in
    (record { may = r.may; way = r.way; turn = at'.0; i_in = i-in; label_is = r.label_is }, at'.1)

-- where it does not grow, nothing is to be written
pub raise-none : (a b : LabelledList) (gs : List ℕ) (left top label : ℕ) → AtRaise a b gs left top label → label ≤ top
    → Retopway a b gs (even_schedule a gs) (grown_from (left - 1) (tops_of a gs) (evenly (length gs) TOP_ROOM))
raise-none a b gs left top label r le =
    let h = evening a gs r.may.groups in
    let os = tops_of a gs in
    let ns = evenly (length gs) TOP_ROOM in
    let s : left - 1 + 1 ≡ left = omega (arith, r.some) in
    let i-in : left - 1 < length gs = omega (arith, r.left_in, r.some) in
    let same = grow-none os ns (left - 1) h.same (omega (arith, h.long, i-in))
    (omega (arith, raise-old a b gs left top label r, r.label_is, even-at (length gs) TOP_ROOM (left - 1) i-in, le)) in
    subst (Retopway a b gs (even_schedule a gs)) (ap (λ m. grown_from m (tops_of a gs) (evenly (length gs) TOP_ROOM)) (sym s) ∙ sym same) r.way

-- the next place whose turn it is to shrink: whether its label is above the even one
pub record AtLower (a b : LabelledList) (gs : List ℕ) (i top label : ℕ) : Type 0 where
  pub may : MayRetop a gs
  pub i_in : i < length gs
  pub way : Retopway a b gs (even_schedule a gs) (shrunk_before i (tops_of a gs) (evenly (length gs) TOP_ROOM))
  pub top_is : top ≡ (group_of (get_or b.sheet.words (b.links.size + get_or gs i 0) 0)).top
  pub label_is : label ≡ (i + 1) * (TOP_ROOM / (length gs + 1))

-- its label is the greater one of both
lower-old : (a b : LabelledList) (gs : List ℕ) (i top label : ℕ) → AtLower a b gs i top label
    → top ≡ cond (ltb (get_or (tops_of a gs) i 0) (get_or (evenly (length gs) TOP_ROOM) i 0)) (get_or (evenly (length gs) TOP_ROOM) i 0)
    (get_or (tops_of a gs) i 0)
lower-old a b gs i top label r =
    let h = evening a gs r.may.groups in
    r.top_is ∙ (top-read a b gs (even_schedule a gs) (shrunk_before i (tops_of a gs) (evenly (length gs) TOP_ROOM)) i r.way r.i_in
    ∙ shrink-read 1 TOP_ROOM (tops_of a gs) (evenly (length gs) TOP_ROOM) i h.same h.olds h.evens (omega (arith, h.long, r.i_in)))

-- where it shrinks, its turn has come
pub lower-turn : (a b : LabelledList) (gs : List ℕ) (i top label : ℕ) → AtLower a b gs i top label → label < top
    → IsTurn a b gs (shrunk_before i (tops_of a gs) (evenly (length gs) TOP_ROOM)) i label
    × (shrunk_before (i + 1) (tops_of a gs) (evenly (length gs) TOP_ROOM) ≡ shrunk_before i (tops_of a gs) (evenly (length gs) TOP_ROOM) + 1)
lower-turn a b gs i top label r lt =
    let h = evening a gs r.may.groups in
    let os = tops_of a gs in
    let ns = evenly (length gs) TOP_ROOM in
    let e = even-at (length gs) TOP_ROOM i r.i_in in
    let above = above-greater (get_or os i 0) (get_or ns i 0) (omega (arith, lower-old a b gs i top label r, r.label_is, e, lt)) in
    let at = shrink-turn os ns i h.same (omega (arith, h.long, r.i_in)) above in
    (record { may = r.may; way = r.way; turn = at.0; i_in = r.i_in; label_is = r.label_is }, at.1)

-- where it does not shrink, nothing is to be written
pub lower-none : (a b : LabelledList) (gs : List ℕ) (i top label : ℕ) → AtLower a b gs i top label → top ≤ label
    → Retopway a b gs (even_schedule a gs) (shrunk_before (i + 1) (tops_of a gs) (evenly (length gs) TOP_ROOM))
lower-none a b gs i top label r le =
    let h = evening a gs r.may.groups in
    let os = tops_of a gs in
    let ns = evenly (length gs) TOP_ROOM in
    let e = even-at (length gs) TOP_ROOM i r.i_in in
    let low = not-above-greater (get_or os i 0) (get_or ns i 0) (omega (arith, lower-old a b gs i top label r, r.label_is, e, le)) in
    subst (Retopway a b gs (even_schedule a gs)) (sym (shrink-none os ns i h.same (omega (arith, h.long, r.i_in)) low)) r.way
