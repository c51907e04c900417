-- Room for a top label above a full group.
use Rattle.std.proofs.Common.{◌≡◌, ℕ, ◌+◌, ◌-◌, ◌<◌, ◌≤◌, true, false, List, [], ◌∷◌, ◌++◌, length, get_or, take, map, ◌∙◌, inl, inr, arith}
use Rattle.std.proofs.lemmas.Bool.{false≢true, false_from_ne_true}
use Rattle.kc_lists.specs.Lists.{member, next_of}
use Rattle.kc_lists.proofs.Members.{member-head, member-tail, member-cases}
use Rattle.kc_words.specs.Order.{labels}
use Rattle.kc_list.specs.Places.{WordsKeepList, Segment, Free, runs, top_end}
use Rattle.kc_list.proofs.Spreading.{segment_in}
use Rattle.kc_list.proofs.Counts.{group-halves, top_gap, top_end_high}
use Rattle.kc_list.proofs.Toplabels.{runs_item}
use Rattle.kc_words.specs.declared.layout.TheConstants.{TOP_ROOM}
use Rattle.kc_list.specs.declared.limits.TheConstants.{GROUP_ITEMS}
use Rattle.kc_lists.proofs.Counting.{member-get_or}

-- a word among those of some groups is that of one of them
member-shift : (w n : ℕ) (gs : List ℕ) → member w (map (λ g. n + g) gs) ≡ true → (g : ℕ) × (w ≡ n + g) × (member g gs ≡ true)
member-shift w n [] k = absurd (false≢true k)
member-shift w n (g ∷ gs) k = elim (member-cases w (n + g) (map (λ h. n + h) gs) k) [
  | inl e ↦ (g, e, member-head g gs)
  | inr k' ↦ let r = member-shift w n gs k' in (r.0, r.1, member-tail r.0 g gs r.2)
]

-- an item's word, or the note, is none of the words of the groups in use
pub no_item_word : (n : ℕ) (ws list : List ℕ) (w : ℕ) → WordsKeepList n ws list → w ≤ n → member w (map (λ g. n + g) (runs (labels n ws).group list)) ≡ false
no_item_word n ws list w s l = false_from_ne_true (member w (map (λ g. n + g) (runs (labels n ws).group list))) (λ k.
    let r = member-shift w n (runs (labels n ws).group list) k in
    let from = runs_item (labels n ws).group r.0 list r.2 in
    let low = (s.inside from.0 from.1).group_low in
    absurd (omega (arith, r.1, from.2, low)))

-- the word of a free group is none of the words of the groups in use
pub no_free_word : (n : ℕ) (ws list : List ℕ) (h : ℕ) → Free n (labels n ws) list h → member (n + h) (map (λ g. n + g) (runs (labels n ws).group list)) ≡ false
no_free_word n ws list h f = false_from_ne_true (member (n + h) (map (λ g. n + g) (runs (labels n ws).group list))) (λ k.
    let r = member-shift (n + h) n (runs (labels n ws).group list) k in
    let from = runs_item (labels n ws).group r.0 list r.2 in
    absurd (f.unused from.0 from.1 (from.2 ∙ omega (arith, r.1))))

-- the last member of a full group
pub record Last (n : ℕ) (ws list : List ℕ) (g : ℕ) (into : List ℕ) : Type 0 where
  pub inside : member (get_or into (GROUP_ITEMS - 1) 0) list ≡ true
  pub group : (labels n ws).group (get_or into (GROUP_ITEMS - 1) 0) ≡ g
  pub segment : Segment (labels n ws) list g (take (GROUP_ITEMS - 1) into ++ get_or into (GROUP_ITEMS - 1) 0 ∷ [])

-- what stands last in the array of a full group is its last member
pub last_facts : (n : ℕ) (ws list : List ℕ) (g : ℕ) (into : List ℕ) → Segment (labels n ws) list g into → length into ≡ GROUP_ITEMS → Last n ws list g into
last_facts n ws list g into seg len =
    let last-in : member (get_or into (GROUP_ITEMS - 1) 0) into ≡ true = member-get_or into (GROUP_ITEMS - 1) 0 (omega arith) in
    record {
      inside = segment_in (labels n ws) list g into seg (get_or into (GROUP_ITEMS - 1) 0) last-in;
      group = seg.members (get_or into (GROUP_ITEMS - 1) 0) last-in;
      segment = (group-halves n (labels n ws) list g into seg len).last;
    }

-- a gap of two above the last member of a full group is a gap of two above the group
pub wide_gap : (n : ℕ) (ws list : List ℕ) (g : ℕ) (into : List ℕ) (low high : ℕ) → WordsKeepList n ws list → Last n ws list g into → low ≡ (labels n ws).top g
    → high ≡ top_end n (labels n ws) (next_of n (get_or into (GROUP_ITEMS - 1) 0) list) → low + 2 ≤ high
    → ((z : ℕ) → member z list ≡ true → (labels n ws).top g < (labels n ws).top ((labels n ws).group z)
    → (labels n ws).top g + 2 ≤ (labels n ws).top ((labels n ws).group z)) × ((labels n ws).top g + 2 ≤ TOP_ROOM)
wide_gap n ws list g into low high s last low-is high-is wide =
    let lt : (labels n ws).top g + 1 < top_end n (labels n ws) (next_of n (get_or into (GROUP_ITEMS - 1) 0) list) = omega (arith, low-is, high-is, wide) in (
      λ z m up. let k = top_gap n ws list g (get_or into (GROUP_ITEMS - 1) 0) ((labels n ws).top g + 1) (take (GROUP_ITEMS - 1) into) s last.segment lt z m up
          in omega arith,
      omega (arith, lt, top_end_high n ws list (get_or into (GROUP_ITEMS - 1) 0) s),
    )
