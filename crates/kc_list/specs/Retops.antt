-- New labels for all groups, one write after another.
use Rattle.std.specs.Prelude.{◌≡◌, ◌≤◌, ◌<◌, ◌+◌, ℕ, List, get_or, length, map, take, true}
use Rattle.kc_lists.specs.Lists.{member}
use Rattle.kc_relabel.specs.Labels.{schedule_of, ups, written}
use Rattle.kc_words.specs.Order.{labels}
use Rattle.kc_list.specs.Places.{WordsKeepList, runs}
use Rattle.kc_list.specs.Sheets.{ChangesOnly, Paper, WritesKeepOrder, version}
use Rattle.kc_list.specs.Views.{evenly, groups_in_use, top_at, version_at}
use Rattle.kc_words.specs.declared.layout.TheConstants.{LAST_VERSION, TOP_ROOM}
use Rattle.kc_list.specs.declared.labelled.LabelledList.{LabelledList}

-- the words after j steps of a schedule for the labels of groups
pub record Topway (n : ℕ) (list : List ℕ) (p q : Paper) (gs : List ℕ) (ss : List (ℕ × ℕ)) (j : ℕ) : Type 0 where
  pub sound : WordsKeepList n q.words list
  pub groups : gs ≡ runs (labels n q.words).group list
  pub tops : map (labels n q.words).top gs ≡ written (map (labels n p.words).top gs) (take j ss)
  pub steps : WritesKeepOrder n list p q
  pub versions : (w : ℕ) → version q.words w ≤ version p.words w + 1
  pub only : ChangesOnly (map (λ g. n + g) gs) p.words q.words
  pub waiting : (k : ℕ) → j ≤ k → k < length ss
      → version q.words (n + get_or gs (get_or ss k (0, 0)).0 0) ≡ version p.words (n + get_or gs (get_or ss k (0, 0)).0 0)
  pub length_is : length q.writes ≡ length p.writes + j
  pub room : q.room ≡ p.room

-- the list after j steps of a schedule for the labels of groups
pub record Retopway (a b : LabelledList) (gs : List ℕ) (ss : List (ℕ × ℕ)) (j : ℕ) : Type 0 where
  pub links : b.links ≡ a.links
  pub groups : b.groups ≡ a.groups
  pub topway : Topway a.links.size a.links.list a.sheet b.sheet gs ss j

-- the labels of groups
abbrev pub tops_of : LabelledList → List ℕ → List ℕ
tops_of a gs = map (top_at a.links a.sheet) gs

-- the writes that give groups labels at even distances: the labels ascend after each
abbrev pub even_schedule : LabelledList → List ℕ → List (ℕ × ℕ)
even_schedule a gs = schedule_of (tops_of a gs) (evenly (length gs) TOP_ROOM)

-- these are the groups in use, and the words of each can be written
pub record MayRetop (a : LabelledList) (gs : List ℕ) : Type 0 where
  pub groups : gs ≡ groups_in_use a.links a.sheet
  pub version : (g : ℕ) → member g gs ≡ true → version_at a.sheet (a.links.size + g) < LAST_VERSION
  pub room : length a.sheet.writes + length gs ≤ a.sheet.room

-- the labels that are to grow have grown
pub record IsRaised (gs : List ℕ) (a b : LabelledList) : Type 0 where
  pub may : MayRetop a gs
  pub way : Retopway a b gs (even_schedule a gs) (length (ups 0 (tops_of a gs) (evenly (length gs) TOP_ROOM)))

-- all labels are at even distances
abbrev pub IsEvened : List ℕ → LabelledList → LabelledList → Type 0
IsEvened gs a b = Retopway a b gs (even_schedule a gs) (length (even_schedule a gs))
