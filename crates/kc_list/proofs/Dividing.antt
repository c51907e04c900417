-- How a full group of the labelled list is divided in two.
use Rattle.std.proofs.Common.{◌≡◌, ℕ, ◌+◌, ◌<◌, ◌≤◌, ◌-◌, true, List, refl, sym, ap, ◌∙◌, get_or, set, length, take, drop, inl, inr, subst, arith}
use Rattle.std.proofs.lemmas.List.{take-append-drop}
use Rattle.kc_lists.specs.Lists.{member}
use Rattle.kc_lists.proofs.Members.{member-append}
use Rattle.kc_links.specs.Ring.{Chain}
use Rattle.kc_words.specs.Order.{labels}
use Rattle.kc_list.specs.Places.{WordsKeepList, Halved, size_of}
use Rattle.kc_list.specs.Views.{AreSizes, AreMembers, IsFull, IsFree, HasRoomAbove, KeepsOrder, group_at, top_at, end_above}
use Rattle.kc_list.specs.Rewriting.{Rewrites, Relabels, Halves, SpreadsTops, KeepsItems, Divides}
use Rattle.kc_list.specs.declared.labelled.LabelledList.{LabelledList}
use Rattle.kc_list.specs.declared.limits.TheConstants.{GROUP_ITEMS, HALF_ITEMS}
use Rattle.kc_list.proofs.Counts.{full_segment, group-halves, size-agree}
use Rattle.kc_list.proofs.Counts as counts
use Rattle.kc_list.proofs.Rooms.{in_segment}
use Rattle.kc_list.proofs.Spreading.{segment-agree}
use Rattle.kc_list.proofs.Changes.{group-halved}
use Rattle.kc_list.proofs.Splits.{WritesKeepOrder-then}
use Rattle.kc_list.proofs.Toplabels.{item_runs}
use Rattle.kc_list.proofs.Toprooms.{Last, last_facts, wide_gap, no_item_word, no_free_word}
use Rattle.kc_list.proofs.Arranging.{items_agree, tally_agree, free_group, tally_halved, keeps_split, once_split}

-- the two halves of a full group's members
pub halves_of : (a : LabelledList) (g : ℕ) (m : List ℕ) → AreMembers a.links a.sheet g m → length m ≡ GROUP_ITEMS
    → counts.Halves a.links.size (labels a.links.size a.sheet.words) a.links.list g m
halves_of a g m seg len = group-halves a.links.size (labels a.links.size a.sheet.words) a.links.list g m seg len

-- the members of a full group fill the array
pub whole_group : (a : LabelledList) (p count : ℕ) (into : List ℕ) → AreMembers a.links a.sheet (group_at a.links a.sheet p) (take count into)
    → length into ≡ GROUP_ITEMS → count ≤ length into → IsFull a.links a.sheet p → AreMembers a.links a.sheet (group_at a.links a.sheet p) into
whole_group a p count into seg len within full =
    full_segment (labels a.links.size a.sheet.words) a.links.list (group_at a.links a.sheet p) count into seg len within full.size

-- what the two halves have, and what others keep
pub halved_at : (a d : LabelledList) (p g h : ℕ) (into : List ℕ) → g ≡ group_at a.links a.sheet p
    → AreMembers a.links a.sheet (group_at a.links a.sheet p) into → length into ≡ GROUP_ITEMS → IsFull a.links a.sheet p → IsFree a.links a.sheet h
    → Halves g h into a d → d.links ≡ a.links
    → Halved a.links.size a.sheet.words d.sheet.words a.links.list (group_at a.links a.sheet p) h p
halved_at a d p g h into is seg len full free two same =
    let there = in_segment (labels a.links.size a.sheet.words) a.links.list (group_at a.links a.sheet p) into p seg full.p_in refl in
    group-halved a.links.size a.sheet.words d.sheet.words a.links.list (group_at a.links a.sheet p) h p into a.sound
    (subst (λ (l : Chain). WordsKeepList l.size d.sheet.words l.list) same d.sound) seg len free
    (subst (λ (z : ℕ). AreMembers a.links d.sheet z (take HALF_ITEMS into)) is two.lower) two.upper two.bottoms two.only full.p_in
    (member-append p (take HALF_ITEMS into) (drop HALF_ITEMS into) (ap (member p) (take-append-drop HALF_ITEMS into) ∙ there))

-- the last member of a full group
pub last_of : (a : LabelledList) (p : ℕ) (into : List ℕ) → AreMembers a.links a.sheet (group_at a.links a.sheet p) into → length into ≡ GROUP_ITEMS
    → Last a.links.size a.sheet.words a.links.list (group_at a.links a.sheet p) into
last_of a p into seg len = last_facts a.links.size a.sheet.words a.links.list (group_at a.links a.sheet p) into seg len

-- a gap above that member is room above the group
pub wide_above : (a : LabelledList) (p g : ℕ) (into : List ℕ) (low high : ℕ) → AreMembers a.links a.sheet (group_at a.links a.sheet p) into
    → length into ≡ GROUP_ITEMS → g ≡ group_at a.links a.sheet p → low ≡ top_at a.links a.sheet g
    → high ≡ end_above a.links a.sheet (get_or into (GROUP_ITEMS - 1) 0) → low + 2 ≤ high
    → HasRoomAbove a.links a.sheet (group_at a.links a.sheet p)
wide_above a p g into low high seg len is low-is high-is wide =
    let w = wide_gap a.links.size a.sheet.words a.links.list (group_at a.links a.sheet p) into low high a.sound
    (last_of a p into seg len) (low-is ∙ ap (labels a.links.size a.sheet.words).top is) high-is wide in
    record { gap = w.0; high = w.1 }

-- after a spread of all groups there is room above each
pub spread_above : (a d : LabelledList) (p : ℕ) → SpreadsTops a d → member p a.links.list ≡ true
    → HasRoomAbove a.links d.sheet (group_at a.links d.sheet p)
spread_above a d p spread p-in =
    let here = item_runs (labels a.links.size d.sheet.words).group p a.links.list p-in in
    record {
      gap = λ z m lt. spread.gaps (group_at a.links d.sheet p) here (group_at a.links d.sheet z)
          (item_runs (labels a.links.size d.sheet.words).group z a.links.list m) lt;
      high = spread.high (group_at a.links d.sheet p) here;
    }

-- after a spread of all groups the items' words are as they were
pub spread_keeps : (a d : LabelledList) → SpreadsTops a d → KeepsItems a d
spread_keeps a d spread = record {
  items = λ w l. spread.only.same w (no_item_word a.links.size a.sheet.words a.links.list w a.sound l);
  unused = λ h f. spread.only.same (a.links.size + h) (no_free_word a.links.size a.sheet.words a.links.list h f);
}

-- the group of p is still full after a spread of all groups, and the sizes are those of the groups
pub record Still (b : LabelledList) (p : ℕ) : Type 0 where
  pub full : IsFull b.links b.sheet p
  pub tallied : AreSizes b.links b.sheet b.groups
  pub within : group_at b.links b.sheet p < length b.groups
  pub size : get_or b.groups (group_at b.links b.sheet p) 0 ≡ GROUP_ITEMS
  pub high : group_at b.links b.sheet p ≤ b.links.size + 1

-- where no items' words change and no group gets or loses an item, a full group is still full
pub group-still_full : (a b : LabelledList) (p most : ℕ) → Relabels most a b → KeepsItems a b → IsFull a.links a.sheet p → AreSizes a.links a.sheet a.groups
    → Still b p
group-still_full a b p most then kept full t =
    let same : (y : ℕ) → member y a.links.list ≡ true → group_at a.links b.sheet y ≡ group_at a.links a.sheet y =
    λ y m. items_agree a.links.size a.sheet.words b.sheet.words a.links.list y a.sound kept.items m in
    let size : size_of (labels a.links.size b.sheet.words).group (group_at a.links b.sheet p) a.links.list ≡ GROUP_ITEMS =
    ap (λ (z : ℕ). size_of (labels a.links.size b.sheet.words).group z a.links.list) (same p full.p_in)
    ∙ (size-agree (labels a.links.size a.sheet.words).group (labels a.links.size b.sheet.words).group (group_at a.links a.sheet p) a.links.list same
    ∙ full.size) in
    let full-there : IsFull a.links b.sheet p = record { p_in = full.p_in; size = size } in
    let full-now : IsFull b.links b.sheet p = subst (λ (l : Chain). IsFull l b.sheet p) (sym then.rewrites.links) full-there in
    let t-there : AreSizes a.links b.sheet b.groups = subst (λ (zs : List ℕ). AreSizes a.links b.sheet zs) (sym then.groups)
    (tally_agree a.links.size a.sheet.words b.sheet.words a.links.list a.groups same t) in
    let t-now : AreSizes b.links b.sheet b.groups = subst (λ (l : Chain). AreSizes l b.sheet b.groups) (sym then.rewrites.links) t-there in
    let placed = b.sound.inside p full-now.p_in in
    record {
      full = full-now;
      tallied = t-now;
      within = omega (arith, placed.group_high, t-now.length_is);
      size = t-now.counts (group_at b.links b.sheet p) placed.group_low placed.group_high ∙ full-now.size;
      high = placed.group_high;
    }

-- where no items' words change, the members of a full group are as they were
pub members-still : (a b : LabelledList) (p most : ℕ) (m : List ℕ) → Relabels most a b → KeepsItems a b → IsFull a.links a.sheet p
    → AreMembers a.links a.sheet (group_at a.links a.sheet p) m → AreMembers b.links b.sheet (group_at b.links b.sheet p) m
members-still a b p most m then kept full seg =
    let same : (y : ℕ) → member y a.links.list ≡ true → group_at a.links b.sheet y ≡ group_at a.links a.sheet y =
    λ y k. items_agree a.links.size a.sheet.words b.sheet.words a.links.list y a.sound kept.items k in
    let there : AreMembers a.links b.sheet (group_at a.links a.sheet p) m =
    segment-agree (labels a.links.size a.sheet.words) (labels a.links.size b.sheet.words) a.links.list (group_at a.links a.sheet p) m same seg in
    subst (λ (l : Chain). AreMembers l b.sheet (group_at l b.sheet p) m) (sym then.rewrites.links)
    (subst (λ (z : ℕ). AreMembers a.links b.sheet z m) (sym (same p full.p_in)) there)

-- a number of size 0 is free
pub free_there : (b : LabelledList) (h : ℕ) → AreSizes b.links b.sheet b.groups → 0 < h → h < length b.groups → get_or b.groups h 0 ≡ 0
    → IsFree b.links b.sheet h
free_there b h t low within none =
    free_group b.links.size b.sheet.words b.links.list b.groups h t low (omega (arith, within, t.length_is)) none

-- the group of p is divided, with sizes to match
pub group-divided : (a b d : LabelledList) (p g h most : ℕ) → g ≡ group_at b.links b.sheet p → Rewrites most a b → KeepsItems a b → Still b p → 0 < h
    → IsFree b.links b.sheet h → Halved b.links.size b.sheet.words d.sheet.words b.links.list (group_at b.links b.sheet p) h p → d.links ≡ b.links
    → d.groups ≡ set (set b.groups g HALF_ITEMS) h HALF_ITEMS → Divides p a d
group-divided a b d p g h most is first kept s low free two same sizes =
    let d-sound : WordsKeepList b.links.size d.sheet.words b.links.list = subst (λ (l : Chain). WordsKeepList l.size d.sheet.words l.list) same d.sound in
    let items = subst (λ (l : Chain). (w : ℕ) → w ≤ l.size → get_or b.sheet.words w 0 ≡ get_or a.sheet.words w 0) (sym first.links) kept.items in
    record {
      tallied = rw (same, sizes, is)
          (tally_halved b.links.size b.sheet.words d.sheet.words b.links.list b.groups (group_at b.links b.sheet p) h s.tallied s.high free.high
          two.left two.fresh two.others);
      size = rw same (elim two.group [
        | inl e ↦ omega (arith, ap (λ (z : ℕ). size_of (labels b.links.size d.sheet.words).group z b.links.list) e, two.left)
        | inr e ↦ omega (arith, ap (λ (z : ℕ). size_of (labels b.links.size d.sheet.words).group z b.links.list) e, two.fresh)
      ]);
      kept = rw same
          (keeps_split b.links.size a.sheet.words b.sheet.words d.sheet.words b.links.list (group_at b.links b.sheet p) h p two.group two.gap
          (free.unused p s.full.p_in) low two.only items d-sound);
    }

-- a spread of all groups and then a cut of a full group write no word twice
pub divided_rewrites : (a b d : LabelledList) (p h few more : ℕ) → Relabels few a b → KeepsItems a b → AreSizes a.links a.sheet a.groups
    → 0 < h → h < length b.groups → get_or b.groups h 0 ≡ 0
    → Halved b.links.size b.sheet.words d.sheet.words b.links.list (group_at b.links b.sheet p) h p → Rewrites more b d → Rewrites (few + more) a d
divided_rewrites a b d p h few more first kept t low within none two then =
    let same = first.rewrites.links in
    let d-sound : WordsKeepList b.links.size d.sheet.words b.links.list = subst (λ (l : Chain). WordsKeepList l.size d.sheet.words l.list) then.links d.sound in
    let items = subst (λ (l : Chain). (w : ℕ) → w ≤ l.size → get_or b.sheet.words w 0 ≡ get_or a.sheet.words w 0) (sym same) kept.items in
    let free : IsFree a.links a.sheet h = free_there a h t low (subst (λ (zs : List ℕ). h < length zs) first.groups within)
    (subst (λ (zs : List ℕ). get_or zs h 0 ≡ 0) first.groups none) in
    let unused = subst (λ (l : Chain). get_or b.sheet.words (l.size + h) 0 ≡ get_or a.sheet.words (l.size + h) 0) (sym same) (kept.unused h free) in
    record {
      links = then.links ∙ same;
      steps = WritesKeepOrder-then a.links.size a.links.list a.sheet b.sheet d.sheet first.rewrites.steps
          (subst (λ (l : Chain). KeepsOrder l b.sheet d.sheet) same then.steps);
      versions = once_split b.links.size a.sheet.words b.sheet.words d.sheet.words b.links.list h items unused first.rewrites.versions then.versions
          two.only d-sound;
      count = omega (arith, first.rewrites.count, then.count);
      room = then.room ∙ first.rewrites.room;
    }
