-- How the states of the labelled list follow one another.
use Rattle.std.proofs.Common.{◌≡◌, ◌≢◌, ℕ, ◌+◌, ◌<◌, ◌≤◌, ◌-◌, true, List, [], refl, ap, ◌∙◌, get_or, set, subst, arith}
use Rattle.kc_lists.specs.Lists.{member, without, right_after}
use Rattle.kc_links.specs.Ring.{Chain}
use Rattle.kc_words.specs.declared.item.ItemWord.{ItemWord}
use Rattle.kc_words.specs.ItemWord.{item_of}
use Rattle.kc_words.specs.Order.{Ordered}
use Rattle.kc_list.specs.Plain.{Written}
use Rattle.kc_list.specs.Places.{WordsKeepList}
use Rattle.kc_list.specs.Views.{AreSizes, TakesItem, KeepsOrder, HasLabelAfter, group_at, group_size}
use Rattle.kc_list.specs.Rewriting.{WritesWord, Rewrites, Relabels, ChangesGroup, MakesRoom, HasWay, PutsItem, TakesOut}
use Rattle.kc_list.specs.declared.labelled.LabelledList.{LabelledList}
use Rattle.kc_list.proofs.Putting.{ordered_from}
use Rattle.kc_list.proofs.Spreading.{WritesKeepOrder-none, raises_from}
use Rattle.kc_list.proofs.Splits.{WritesKeepOrder-then}
use Rattle.kc_list.proofs.Arranging.{tally_agree, once_spread}
use Rattle.kc_list.proofs.Whole.{takes_kept, written_from}
use Rattle.kc_list.specs.declared.limits.TheConstants.{GROUP_ITEMS}
use Rattle.kc_list.proofs.Taking.{Moving, groups-moving, moved_in, moved_new, tally_taken}

-- where nothing is written, the list is in order at the one moment that there is
pub order-unwritten : (a : LabelledList) (most : ℕ) → Rewrites most a a
order-unwritten a most = record {
  links = refl;
  steps = WritesKeepOrder-none a.links.size a.links.list a.sheet (ordered_from a.links.size a.sheet.words a.links.list a.sound);
  versions = λ w. omega arith;
  count = omega arith;
  room = refl;
}

-- the groups of x and of p, as they are before x moves
pub groups_before : (a : LabelledList) (sizes : List ℕ) (x p : ℕ) (here there : ItemWord) → a.groups ≡ sizes → x < a.links.size
    → member p a.links.list ≡ true → AreSizes a.links a.sheet a.groups → here ≡ item_of (get_or a.sheet.words (1 + x) 0)
    → there ≡ item_of (get_or a.sheet.words (1 + p) 0)
    → Moving a.links.size a.sheet.words a.links.list sizes x p here.group there.group
groups_before a sizes x p here there same below p-in t h k =
    subst (λ (zs : List ℕ). Moving a.links.size a.sheet.words a.links.list zs x p here.group there.group) same
    (groups-moving a.links.size a.sheet.words a.links.list a.groups x p here.group there.group a.sound below p-in t (ap (λ w. w.group) h) (ap (λ w. w.group) k))

-- the sizes after a move within the list
pub sizes_moved : (a b : LabelledList) (x p : ℕ) (here there : ItemWord) → b.groups ≡ a.groups → x < a.links.size → member p a.links.list ≡ true → x ≢ p
    → AreSizes a.links a.sheet a.groups → TakesItem a.links a.sheet x p → PutsItem x p a b → group_at a.links b.sheet x ≡ group_at a.links a.sheet p
    → here ≡ item_of (get_or a.sheet.words (1 + x) 0) → there ≡ item_of (get_or a.sheet.words (1 + p) 0) → here.group ≢ 0
    → AreSizes b.links b.sheet (set (set b.groups there.group (get_or b.groups there.group 0 + 1)) here.group
    (get_or (set b.groups there.group (get_or b.groups there.group 0 + 1)) here.group 0 - 1))
sizes_moved a b x p here there same below p-in ne t takes puts group h k some =
    rw (puts.size, puts.list, same)
    (moved_in a.links.size a.sheet.words b.sheet.words a.links.list a.groups x p _ here.group there.group a.sound below p-in ne t takes puts.stores.words group
    (ap (λ w. w.group) h) (ap (λ w. w.group) k) some)

-- the sizes after an item that was out is put in
pub sizes_put : (a b : LabelledList) (x p : ℕ) (here there : ItemWord) → b.groups ≡ a.groups → x < a.links.size → member p a.links.list ≡ true → x ≢ p
    → AreSizes a.links a.sheet a.groups → TakesItem a.links a.sheet x p → PutsItem x p a b → group_at a.links b.sheet x ≡ group_at a.links a.sheet p
    → here ≡ item_of (get_or a.sheet.words (1 + x) 0) → there ≡ item_of (get_or a.sheet.words (1 + p) 0) → here.group ≡ 0
    → AreSizes b.links b.sheet (set b.groups there.group (get_or b.groups there.group 0 + 1))
sizes_put a b x p here there same below p-in ne t takes puts group h k none =
    rw (puts.size, puts.list, same)
    (moved_new a.links.size a.sheet.words b.sheet.words a.links.list a.groups x p _ here.group there.group a.sound below p-in ne t takes puts.stores.words group
    (ap (λ w. w.group) h) (ap (λ w. w.group) k) none)

-- the sizes after x is taken out
pub sizes_taken : (a b : LabelledList) (x : ℕ) (here : ItemWord) → b.groups ≡ a.groups → member x a.links.list ≡ true → AreSizes a.links a.sheet a.groups
    → TakesOut x a b → here ≡ item_of (get_or a.sheet.words (1 + x) 0)
    → AreSizes b.links b.sheet (set b.groups here.group (get_or b.groups here.group 0 - 1))
sizes_taken a b x here same x-in t takes h =
    rw (takes.size, takes.list, same)
    (tally_taken a.links.size a.sheet.words b.sheet.words a.links.list a.groups x _ here.group a.sound x-in t takes.stores.words (ap (λ w. w.group) h))

-- no group has more items than it may have
pub most_items : (b : LabelledList) (p : ℕ) → AreSizes b.links b.sheet b.groups → member p b.links.list ≡ true
    → group_size b.links b.sheet (group_at b.links b.sheet p) ≤ GROUP_ITEMS
most_items b p t m =
    let placed = b.sound.inside p m in
    omega (arith, t.counts (group_at b.links b.sheet p) placed.group_low placed.group_high, t.most (group_at b.links b.sheet p))

-- where the group of p can take x, and is then spread, x can be put right after p
pub way_made : (a b d : LabelledList) (x p most : ℕ) → MakesRoom x p a b → ChangesGroup (group_at b.links b.sheet p) b d → Relabels most b d
    → HasLabelAfter b.links d.sheet p → x < b.links.size → member p b.links.list ≡ true → HasWay x p d
way_made a b d x p most room change then gap below p-in = record {
  tallied = rw (then.rewrites.links, then.groups)
      (tally_agree b.links.size b.sheet.words d.sheet.words b.links.list b.groups change.groups room.tallied);
  takes = rw then.rewrites.links
      (takes_kept b.links.size b.sheet.words d.sheet.words b.links.list x p b.sound
      (subst (λ (l : Chain). WordsKeepList l.size d.sheet.words l.list) then.rewrites.links d.sound) below p-in change.groups room.takes);
  gap = rw then.rewrites.links gap;
}

-- a spread after that writes no word again
pub way_rewrites : (a b d : LabelledList) (x p few more : ℕ) → MakesRoom x p a b → Rewrites few a b → ChangesGroup (group_at b.links b.sheet p) b d
    → (HasLabelAfter b.links b.sheet p → d.sheet ≡ b.sheet) → Rewrites more b d → Rewrites (few + more) a d
way_rewrites a b d x p few more room first change kept then = record {
  links = then.links ∙ first.links;
  steps = WritesKeepOrder-then a.links.size a.links.list a.sheet b.sheet d.sheet first.steps
      (subst (λ (l : Chain). KeepsOrder l b.sheet d.sheet) first.links then.steps);
  versions = once_spread b.links.size a.sheet.words b.sheet.words d.sheet.words b.links.list p room.kept
      (λ gap w. ap (λ s. get_or s.words w 0) (kept gap)) change.only first.versions then.versions;
  count = omega (arith, first.count, then.count);
  room = then.room ∙ first.room;
}

-- the writes of a call: those that make way, and the last, to the word of x
pub call_written : (a b d : LabelledList) (x most : ℕ) → a.sheet.writes ≡ [] → Rewrites most a b → d.links.size ≡ b.links.size
    → WritesWord (1 + x) b.sheet d.sheet
    → x < a.links.size → Written a.links.size a.links.list d.links.list x a.sheet.words d.sheet.words d.sheet.writes
call_written a b d x most none way size stores below =
    let same : b.links.size ≡ a.links.size = ap (λ (l : Chain). l.size) way.links in
    written_from a.links.size a.links.list d.links.list x a.sheet b.sheet d.sheet _ none way.steps stores.words stores.writes
    (subst (λ (k : ℕ). Ordered k d.sheet.words d.links.list) (size ∙ same) (ordered_from d.links.size d.sheet.words d.links.list d.sound))
    (raises_from b.sheet.words d.sheet.words (1 + x) _ (omega arith) (omega (arith, b.sound.size, same, below)) stores.words stores.version)

-- a put after way was made for it is a put into the list as it was
pub put_list : (a b d : LabelledList) (x p most : ℕ) → Rewrites most a b → PutsItem x p b d
    → (d.links.size ≡ a.links.size) × (d.links.list ≡ right_after x p (without x a.links.list))
put_list a b d x p most way puts = (
  puts.size ∙ ap (λ (l : Chain). l.size) way.links,
  puts.list ∙ ap (λ (l : Chain). right_after x p (without x l.list)) way.links,
)

-- the one write of a call that takes x out
pub take_written : (a d : LabelledList) (x : ℕ) → a.sheet.writes ≡ [] → TakesOut x a d → x < a.links.size
    → Written a.links.size a.links.list d.links.list x a.sheet.words d.sheet.words d.sheet.writes
take_written a d x none takes below = call_written a a d x 0 none (order-unwritten a 0) takes.size takes.stores below
