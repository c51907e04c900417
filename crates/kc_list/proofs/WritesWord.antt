-- What one store changes of the labels.
use Rattle.std.proofs.Common.{◌≡◌, ◌≢◌, ℕ, ◌+◌, ◌<◌, ◌≤◌, List, length, get_or, set, ◌∙◌, ap, arith}
use Rattle.std.proofs.lemmas.List.{get_or-set_same, get_or-set_other}
use Rattle.kc_words.specs.ItemWord.{item_of}
use Rattle.kc_words.specs.GroupWord.{group_of}
use Rattle.kc_words.specs.declared.item.ItemWord.{ItemWord}
use Rattle.kc_words.specs.declared.group.GroupWord.{GroupWord}
use Rattle.kc_words.specs.Order.{labels}
use Rattle.kc_list.specs.Places.{ItemStored, GroupStored}

-- a store to an item's word changes its group and its label alone
pub item_stored : (n : ℕ) (ws : List ℕ) (y v : ℕ) (w : ItemWord) → y < n → length ws ≡ n + n + 2 → item_of v ≡ w
    → ItemStored (labels n ws) (labels n (set ws (1 + y) v)) n y w.group w.bottom
item_stored n ws y v w l e is =
    let same : get_or (set ws (1 + y) v) (1 + y) 0 ≡ v = get_or-set_same ws (1 + y) v 0 (omega arith) in
    let word : item_of (get_or (set ws (1 + y) v) (1 + y) 0) ≡ w = ap item_of same ∙ is in
    record {
      group = ap (λ z. z.group) word;
      bottom = ap (λ z. z.bottom) word;
      groups = λ x ne. let d : 1 + x ≢ 1 + y = λ q. ne (omega arith) in ap (λ z. (item_of z).group) (get_or-set_other ws (1 + y) (1 + x) v 0 d);
      bottoms = λ x ne. let d : 1 + x ≢ 1 + y = λ q. ne (omega arith) in ap (λ z. (item_of z).bottom) (get_or-set_other ws (1 + y) (1 + x) v 0 d);
      tops = λ h low. let d : n + h ≢ 1 + y = omega arith in ap (λ z. (group_of z).top) (get_or-set_other ws (1 + y) (n + h) v 0 d);
    }

-- a store to a group's word changes its label alone
pub group_stored : (n : ℕ) (ws : List ℕ) (g v : ℕ) (w : GroupWord) → 0 < g → g ≤ n + 1 → length ws ≡ n + n + 2 → group_of v ≡ w
    → GroupStored (labels n ws) (labels n (set ws (n + g) v)) n g w.top
group_stored n ws g v w low high e is =
    let same : get_or (set ws (n + g) v) (n + g) 0 ≡ v = get_or-set_same ws (n + g) v 0 (omega arith) in
    record {
      top = ap (λ z. z.top) (ap group_of same ∙ is);
      tops = λ h ne. let d : n + h ≢ n + g = λ q. ne (omega arith) in ap (λ z. (group_of z).top) (get_or-set_other ws (n + g) (n + h) v 0 d);
      groups = λ x l. let d : 1 + x ≢ n + g = omega arith in ap (λ z. (item_of z).group) (get_or-set_other ws (n + g) (1 + x) v 0 d);
      bottoms = λ x l. let d : 1 + x ≢ n + g = omega arith in ap (λ z. (item_of z).bottom) (get_or-set_other ws (n + g) (1 + x) v 0 d);
    }
