-- How the upper members of a group of the labelled list get a group of their own.
use Rattle.std.proofs.Common.{◌≡◌, ℕ, ◌+◌, ◌*◌, ◌/◌, ◌++◌, ◌<◌, ◌≤◌, List, refl, sym, ap, ◌∙◌, get_or, length, map, subst, arith}
use Rattle.std.proofs.lemmas.List.{length_push}
use Rattle.kc_links.specs.Ring.{Chain}
use Rattle.kc_words.specs.Order.{labels}
use Rattle.kc_words.specs.ItemWord.{item_of}
use Rattle.kc_words.specs.GroupWord.{group_of}
use Rattle.kc_words.specs.declared.item.ItemWord.{ItemWord}
use Rattle.kc_words.specs.declared.group.GroupWord.{GroupWord}
use Rattle.kc_words.specs.declared.layout.TheConstants.{LAST_VERSION, BOTTOM_ROOM}
use Rattle.kc_list.specs.declared.limits.TheConstants.{GROUP_ITEMS}
use Rattle.kc_list.specs.Writes.{Write}
use Rattle.kc_list.specs.Places.{WordsKeepList, evens}
use Rattle.kc_list.specs.Sheets.{Paper, ChangesOnly}
use Rattle.kc_list.specs.Views.{AreMembers, HaveMoved, IsSpare, IsTopAbove, KeepsOrder, version_at}
use Rattle.kc_list.specs.Rewriting.{WritesWord, StoresWord, Relabels, Splits}
use Rattle.kc_list.specs.declared.labelled.LabelledList.{LabelledList}
use Rattle.kc_list.proofs.Putting.{ordered_from}
use Rattle.kc_list.proofs.Spreading.{get_or-evens, WritesKeepOrder-none, WritesKeepOrder-push, raises_from, only-after}
use Rattle.kc_list.proofs.Splits.{MoveFacts, move_facts, Halfway, halfway-none, halfway-more, TopFacts, top_facts, same_version, lower_segment}
use Rattle.kc_list.proofs.Splits.{upper_segment, WritesKeepOrder-then, versions-then}

-- an upper member's word with its new group and label may be stored
pub moved_by : (a : LabelledList) (g h i label : ℕ) (low ups : List ℕ) (old : ItemWord) → old ≡ item_of (get_or a.sheet.words (1 + get_or ups i 0) 0)
    → 0 < length low → length ups ≤ GROUP_ITEMS → HaveMoved a.links a.sheet g h low ups (i + 1) → i < length ups
    → version_at a.sheet (1 + get_or ups i 0) < LAST_VERSION → label ≡ (i + 1) * (BOTTOM_ROOM / (length ups + 1))
    → MoveFacts a.links.size a.sheet.words a.links.list g h low ups (evens (length ups) (BOTTOM_ROOM / (length ups + 1)) 0) i
    (record { version = old.version + 1; group = h; bottom = label })
moved_by a g h i label low ups old is some few waits i-in fits label-is =
    let w : ItemWord = record { version = old.version + 1; group = h; bottom = label } in
    let e : 0 + i + 1 ≡ i + 1 = omega arith in
    move_facts a.links.size a.sheet.words a.links.list g h low ups i w a.sound a.small some few waits i-in
    (omega (arith, ap (λ (w : ItemWord). w.version) is, fits)) refl
    (label-is ∙ sym (get_or-evens (length ups) (BOTTOM_ROOM / (length ups + 1)) 0 i i-in ∙ ap (λ (z : ℕ). z * (BOTTOM_ROOM / (length ups + 1))) e))

-- after the members from the i-th on have moved
pub record Upway (a b : LabelledList) (g h : ℕ) (low ups : List ℕ) (i : ℕ) : Type 0 where
  pub links : b.links ≡ a.links
  pub groups : b.groups ≡ a.groups
  pub halfway : Halfway a.links.size a.links.list a.sheet b.sheet g h low ups (evens (length ups) (BOTTOM_ROOM / (length ups + 1)) 0) i

-- at first no upper member has moved
pub upway-none : (a : LabelledList) (g h : ℕ) (low ups : List ℕ) → HaveMoved a.links a.sheet g h low ups (length ups) → Upway a a g h low ups (length ups)
upway-none a g h low ups wait = record {
  links = refl;
  groups = refl;
  halfway = halfway-none a.links.size a.links.list a.sheet g h low ups (evens (length ups) (BOTTOM_ROOM / (length ups + 1)) 0) a.sound wait;
}

-- one upper member more has moved
pub upway-more : (a b d : LabelledList) (g h : ℕ) (low ups : List ℕ) (i j : ℕ) → Upway a b g h low ups j → j ≡ i + 1
    → HaveMoved b.links d.sheet g h low ups i → StoresWord (1 + get_or ups i 0) b d → Upway a d g h low ups i
upway-more a b d g h low ups i j way e moved stores = record {
  links = stores.links ∙ way.links;
  groups = stores.groups ∙ way.groups;
  halfway = halfway-more a.links.size a.links.list a.sheet b.sheet d.sheet g h low ups (evens (length ups) (BOTTOM_ROOM / (length ups + 1)) 0) i j _
      way.halfway e a.sound.distinct (subst (λ (l : Chain). WordsKeepList l.size d.sheet.words l.list) (stores.links ∙ way.links) d.sound)
      (subst (λ (l : Chain). HaveMoved l d.sheet g h low ups i) way.links moved) stores.stores.words stores.stores.writes stores.stores.version
      stores.stores.room;
}

-- the new group's word with its label may be stored
pub topped_by : (a : LabelledList) (g h top : ℕ) (low ups : List ℕ) (old : GroupWord) → old ≡ group_of (get_or a.sheet.words (a.links.size + h) 0)
    → 0 < length low → AreMembers a.links a.sheet g (low ++ ups) → IsSpare a.links a.sheet h → IsTopAbove a.links a.sheet g top
    → TopFacts a.links.size a.sheet.words a.links.list g h low ups (evens (length ups) (BOTTOM_ROOM / (length ups + 1)) 0)
    (record { version = old.version + 1; top = top })
topped_by a g h top low ups old is some seg spare above =
    let w : GroupWord = record { version = old.version + 1; top = top } in
    top_facts a.links.size a.sheet.words a.links.list g h low ups w a.sound some seg spare.free above.above above.high above.gap
    (omega (arith, ap (λ (w : GroupWord). w.version) is, same_version (get_or a.sheet.words (a.links.size + h) 0), spare.version))

-- one write, after which the list is in order
pub stored_steps : (a d : LabelledList) (w : ℕ) → StoresWord w a d → 0 < w → w < length a.sheet.words → KeepsOrder a.links a.sheet d.sheet
stored_steps a d w stores low high =
    let one : Write = record { word = w; value = get_or d.sheet.words w 0 } in
    WritesKeepOrder-push a.links.size a.links.list a.sheet a.sheet d.sheet one
    (WritesKeepOrder-none a.links.size a.links.list a.sheet (ordered_from a.links.size a.sheet.words a.links.list a.sound))
    stores.stores.words stores.stores.writes
    (ordered_from a.links.size d.sheet.words a.links.list (subst (λ (l : Chain). WordsKeepList l.size d.sheet.words l.list) stores.links d.sound))
    (raises_from a.sheet.words d.sheet.words w _ low high stores.stores.words stores.stores.version)

-- a store adds one write
pub stored_count : (p q : Paper) (w : ℕ) → WritesWord w p q → length q.writes ≡ length p.writes + 1
stored_count p q w stores = ap length stores.writes ∙ length_push p.writes (record { word = w; value = get_or q.words w 0 })

-- the group's label is stored, then all upper members move
pub split_done : (a b d : LabelledList) (g h : ℕ) (low ups : List ℕ) → StoresWord (a.links.size + h) a b
    → HaveMoved b.links d.sheet g h low ups 0 → d.links ≡ b.links
    → ChangesOnly (map (λ y. 1 + y) ups) b.sheet.words d.sheet.words → Splits g h low ups a d
split_done a b d g h low ups first moved links only =
    let there = subst (λ (l : Chain). HaveMoved l d.sheet g h low ups 0) first.links moved in
    record {
      lower = lower_segment a.links.size (labels a.links.size d.sheet.words) a.links.list g h low ups _ there;
      upper = upper_segment a.links.size (labels a.links.size d.sheet.words) a.links.list g h low ups _ there;
      bottoms = there.bottoms;
      only = only-after (map (λ y. 1 + y) ups) a.sheet.words b.sheet.words d.sheet.words (a.links.size + h) _ first.stores.words only;
    }

-- the store of the new group's label comes to the moves after it as one write more
pub split_relabels : (a b d : LabelledList) (h most : ℕ) → 0 < h → StoresWord (a.links.size + h) a b → KeepsOrder a.links a.sheet b.sheet
    → ((w : ℕ) → b.links.size < w → get_or d.sheet.words w 0 ≡ get_or b.sheet.words w 0) → Relabels most b d → Relabels (most + 1) a d
split_relabels a b d h most low first steps same then =
    let same-there = subst (λ (l : Chain). (w : ℕ) → l.size < w → get_or d.sheet.words w 0 ≡ get_or b.sheet.words w 0) first.links same in
    record {
      groups = then.groups ∙ first.groups;
      rewrites = record {
        links = then.rewrites.links ∙ first.links;
        steps = WritesKeepOrder-then a.links.size a.links.list a.sheet b.sheet d.sheet steps
            (subst (λ (l : Chain). KeepsOrder l b.sheet d.sheet) first.links then.rewrites.steps);
        versions = versions-then a.links.size h a.sheet.words b.sheet.words d.sheet.words _ low first.stores.words first.stores.version same-there
            then.rewrites.versions;
        count = omega (arith, then.rewrites.count, stored_count a.sheet b.sheet (a.links.size + h) first.stores);
        room = then.rewrites.room ∙ first.stores.room;
      };
    }
