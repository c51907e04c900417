-- How the members of a group of the labelled list get new labels.
use Rattle.std.proofs.Common.{◌≡◌, ℕ, ◌+◌, ◌<◌, ◌≤◌, true, List, refl, ap, ◌∙◌, get_or, set, length, map, subst, arith}
use Rattle.std.proofs.lemmas.List.{length-map}
use Rattle.kc_lists.specs.Lists.{member}
use Rattle.kc_links.specs.Ring.{Chain}
use Rattle.kc_relabel.specs.Labels.{Ascends, places}
use Rattle.kc_relabel.proofs.Rising.{Writes}
use Rattle.kc_words.specs.ItemWord.{item_of}
use Rattle.kc_words.specs.declared.item.ItemWord.{ItemWord}
use Rattle.kc_words.specs.declared.layout.TheConstants.{LAST_VERSION, BOTTOM_ROOM}
use Rattle.kc_list.specs.Places.{WordsKeepList}
use Rattle.kc_list.specs.Views.{AreMembers, bottom_at, version_at}
use Rattle.kc_list.specs.Scheduling.{IsSchedule}
use Rattle.kc_list.specs.Rewriting.{Relabels, StoresWord}
use Rattle.kc_list.specs.declared.labelled.LabelledList.{LabelledList}
use Rattle.kc_list.proofs.Spreading.{RelabelFacts, relabel_facts, Midway, midway-none, midway-more}

-- the word of a member with another label
pub relabelled_by : (a : LabelledList) (g : ℕ) (m : List ℕ) (i label : ℕ) (old : ItemWord)
    → old ≡ item_of (get_or a.sheet.words (1 + get_or m i 0) 0) → AreMembers a.links a.sheet g m → i < length m
    → Ascends 1 BOTTOM_ROOM (set (map (bottom_at a.links a.sheet) m) i label) → version_at a.sheet (1 + get_or m i 0) < LAST_VERSION
    → RelabelFacts a.links.size a.sheet.words a.links.list g m i (record { version = old.version + 1; group = g; bottom = label })
relabelled_by a g m i label old is seg i-in asc few =
    let w : ItemWord = record { version = old.version + 1; group = g; bottom = label } in
    relabel_facts a.links.size a.sheet.words a.links.list g m i w a.sound a.small seg i-in (omega (arith, ap (λ (w : ItemWord). w.version) is, few)) refl asc

-- after j steps of a schedule
pub record Onway (a b : LabelledList) (g : ℕ) (m : List ℕ) (ss : Writes) (j : ℕ) : Type 0 where
  pub links : b.links ≡ a.links
  pub groups : b.groups ≡ a.groups
  pub midway : Midway a.links.size a.links.list a.sheet b.sheet g m ss j

-- at first no step of a schedule is done
pub onway-none : (a : LabelledList) (g : ℕ) (m : List ℕ) (ss : Writes) → AreMembers a.links a.sheet g m → Onway a a g m ss 0
onway-none a g m ss seg =
    record { links = refl; groups = refl; midway = midway-none a.links.size a.links.list a.sheet g m ss a.sound seg }

-- a schedule names places of members alone
pub places_within : (f : ℕ → ℕ) (m : List ℕ) (room : ℕ) (ss : Writes) → IsSchedule room (map f m) ss → (p : ℕ) → member p (places ss) ≡ true → p < length m
places_within f m room ss s p k = omega (arith, s.within p k, length-map m f)

-- one step more of a schedule is done
pub onway-more : (a b d : LabelledList) (g : ℕ) (m : List ℕ) (ss : Writes) (j : ℕ) → Onway a b g m ss j → j < length ss
    → IsSchedule BOTTOM_ROOM (map (bottom_at a.links a.sheet) m) ss → AreMembers b.links d.sheet g m
    → map (bottom_at b.links d.sheet) m ≡ set (map (bottom_at b.links b.sheet) m) (get_or ss j (0, 0)).0 (get_or ss j (0, 0)).1
    → StoresWord (1 + get_or m (get_or ss j (0, 0)).0 0) b d → Onway a d g m ss (j + 1)
onway-more a b d g m ss j way less schedule seg bottoms stores = record {
  links = stores.links ∙ way.links;
  groups = stores.groups ∙ way.groups;
  midway = midway-more a.links.size a.links.list a.sheet b.sheet d.sheet g m ss j _ way.midway less a.sound.distinct schedule.once
      (places_within (bottom_at a.links a.sheet) m BOTTOM_ROOM ss schedule)
      (subst (λ (l : Chain). WordsKeepList l.size d.sheet.words l.list) (stores.links ∙ way.links) d.sound)
      (subst (λ (l : Chain). AreMembers l d.sheet g m) way.links seg)
      (subst (λ (l : Chain). map (bottom_at l d.sheet) m ≡ set (map (bottom_at l b.sheet) m) (get_or ss j (0, 0)).0 (get_or ss j (0, 0)).1)
      way.links bottoms) stores.stores.words stores.stores.writes stores.stores.version stores.stores.room;
}

-- less writes are no more than that
pub writes-fewer : (a d : LabelledList) (few most : ℕ) → Relabels few a d → few ≤ most → Relabels most a d
writes-fewer a d few most then less = record {
  groups = then.groups;
  rewrites = record {
    links = then.rewrites.links;
    steps = then.rewrites.steps;
    versions = then.rewrites.versions;
    count = omega (arith, then.rewrites.count, less);
    room = then.rewrites.room;
  };
}
