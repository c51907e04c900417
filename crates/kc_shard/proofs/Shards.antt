-- Shards without a fault, and the rows of a shard.
use Rattle.std.proofs.Common.{◌≡◌, ◌↔◌, ◌≤◌, ◌<◌, ◌+◌, ◌-◌, ◌^◌, ◌∙◌, ℕ, suc, zero, Bool, true, false, cond, not, ◌⊎◌, List, [], ◌∷◌, Option, None}
use Rattle.std.proofs.Common.{Some, drop, length}
use Rattle.std.proofs.Common.{get_or, set, leb, ltb, eqb, leb-true, ne_eqb, refl, sym, ap, subst, inl, inr, arith, true≢false, ltb-true, lt-ltb}
use Rattle.std.proofs.Common.{eqb-true, eq-eqb}
use Rattle.std.specs.Prelude.{All, is_some}
use Rattle.std.specs.List.{position, position_or_len}
use Rattle.std.specs.Option.{option_map}
use Rattle.std.proofs.lemmas.Bool.{cases_eq, cases_lt, false_from_ne_true}
use Rattle.std.proofs.lemmas.List.{ext_get_or, get_or-set_other, get_or-set_same}
use Rattle.std.proofs.lemmas.List.Edits.{length-between}
use Rattle.std.proofs.lemmas.List.Elements.{All-drop, All-take}
use Rattle.std.proofs.lemmas.List.Sums.{fails_before_first, position_or_len_is}
use Rattle.kc_lists.proofs.Backs.{behind-first}
use Rattle.kc_lists.specs.Lists.{total}
use Rattle.kc_lists.proofs.Shared.{total-agree}
use Rattle.kc_shard.specs.Shards.{IsShard, differences, offsets_fault, or_fault, row_fault, rows_fault, shard_fault, shard_row}
use Rattle.kc_shard.specs.declared.fault.ShardFault.{ShardFault}
use Rattle.kc_shard.specs.declared.fault.ShardFault.TheVariants.{WrongOffsetCount, FirstNotZero, Descending, LongRow, WrongLastOffset, NotAVertex}
use Rattle.kc_shard.proofs.HIndex.{not_leb}

-- two faults of which none is there
or-none : (a b : Option ShardFault) → or_fault a b ≡ None → (a ≡ None) × (b ≡ None)
or-none None b h = (refl, h)
or-none (Some fault) b h = absurd (cc h)

-- where neither fault is there
or-neither : (a b : Option ShardFault) → a ≡ None → b ≡ None → or_fault a b ≡ None
or-neither None b p q = q
or-neither (Some fault) b p q = absurd (cc p)

-- a test for less that fails, where the other number is no greater
not_less : (a b : ℕ) → b ≤ a → ltb a b ≡ false
not_less a b l = false_from_ne_true _ (λ t. absurd (omega (arith, ltb-true a b t, l)))

-- the tests that let a row through
row-tests : (a b : Bool) (x y : ShardFault) → cond a (Some x) (cond b None (Some y)) ≡ None → (a ≡ false) × (b ≡ true)
row-tests true b x y h = absurd (cc h)
row-tests false true x y h = (refl, refl)
row-tests false false x y h = absurd (cc h)

-- a row ends no earlier than it begins, and has fewer than 2^32 entries
abbrev IsCut : ℕ → ℕ → Type 0
IsCut from to = (from ≤ to) × (to < from + 2 ^ 32)

-- a row without a fault
row-cut : (row from to : ℕ) → row_fault row from to ≡ None → IsCut from to
row-cut row from to h =
    let t = row-tests (ltb to from) (ltb to (from + 2 ^ 32)) (Descending (row + 1)) (LongRow row) h in (
      elim (cases_lt to from) [ inl low ↦ absurd (true≢false (sym (lt-ltb to from low) ∙ t.0)) | inr up ↦ up ],
      ltb-true to (from + 2 ^ 32) t.1,
    )

-- a row that is cut well has no fault
cut-row : (row from to : ℕ) → IsCut from to → row_fault row from to ≡ None
cut-row row from to h = rw (not_less to from h.0, lt-ltb to (from + 2 ^ 32) h.1) refl

-- rows without a fault
rows-cut : (row from : ℕ) (ends : List ℕ) → rows_fault row from ends ≡ None → (k : ℕ) → k < length ends → IsCut (get_or (from ∷ ends) k 0) (get_or ends k 0)
rows-cut row from [] h k l = absurd (omega arith)
rows-cut row from (to ∷ ends) h zero l = row-cut row from to (or-none (row_fault row from to) (rows_fault (row + 1) to ends) h).0
rows-cut row from (to ∷ ends) h (suc k) l =
    rows-cut (row + 1) to ends (or-none (row_fault row from to) (rows_fault (row + 1) to ends) h).1 k (omega arith)

-- rows that are cut well have no fault
cut-rows : (row from : ℕ) (ends : List ℕ) → ((k : ℕ) → k < length ends → IsCut (get_or (from ∷ ends) k 0) (get_or ends k 0)) → rows_fault row from ends ≡ None
cut-rows row from [] h = refl
cut-rows row from (to ∷ ends) h =
    or-neither (row_fault row from to) (rows_fault (row + 1) to ends) (cut-row row from to (h 0 (omega arith)))
    (cut-rows (row + 1) to ends (λ k l. h (suc k) (omega arith)))

-- the offsets cut the entries well
abbrev AreCut : ℕ → List ℕ → ℕ → Type 0
AreCut rows offsets entries = (length offsets ≡ rows + 1) × (get_or offsets 0 0 ≡ 0)
    × ((row : ℕ) → row < rows → IsCut (get_or offsets row 0) (get_or offsets (row + 1) 0)) × (get_or offsets rows 0 ≡ entries)

-- the tests that let offsets through
offset-tests : (a b c : Bool) (x : Option ShardFault)
    → cond a (cond b (or_fault x (cond c None (Some WrongLastOffset))) (Some FirstNotZero)) (Some WrongOffsetCount) ≡ None
    → (a ≡ true) × (b ≡ true) × (x ≡ None) × (c ≡ true)
offset-tests false b c x h = absurd (cc h)
offset-tests true false c x h = absurd (cc h)
offset-tests true true c (Some fault) h = absurd (cc h)
offset-tests true true false None h = absurd (cc h)
offset-tests true true true None h = (refl, refl, refl, refl)

-- offsets without a fault
offsets-cut : (rows : ℕ) (offsets : List ℕ) (entries : ℕ) → offsets_fault rows offsets entries ≡ None → AreCut rows offsets entries
offsets-cut rows [] entries h =
    let t = offset-tests (eqb 0 (rows + 1)) (eqb 0 0) (eqb (get_or [] rows 0) entries) (rows_fault 0 0 []) h in
    absurd (omega (arith, eqb-true 0 (rows + 1) t.0))
offsets-cut rows (first ∷ ends) entries h =
    let offsets : List ℕ = first ∷ ends in
    let t = offset-tests (eqb (length offsets) (rows + 1)) (eqb first 0) (eqb (get_or offsets rows 0) entries) (rows_fault 0 0 ends) h in
    let count : length offsets ≡ rows + 1 = eqb-true (length offsets) (rows + 1) t.0 in
    let begins : first ≡ 0 = eqb-true first 0 t.1 in (
      count,
      begins,
      λ row l.
          let cut : IsCut (get_or (0 ∷ ends) row 0) (get_or ends row 0) = rows-cut 0 0 ends t.2 row (omega (arith, count, l)) in
          let same : get_or offsets row 0 ≡ get_or (0 ∷ ends) row 0 = ap (λ (x : ℕ). get_or (x ∷ ends) row 0) begins in
          (omega (arith, cut.0, same, behind-first first ends row), omega (arith, cut.1, same, behind-first first ends row)),
      eqb-true (get_or offsets rows 0) entries t.3,
    )

-- offsets that cut the entries well have no fault
cut-offsets : (rows : ℕ) (offsets : List ℕ) (entries : ℕ) → AreCut rows offsets entries → offsets_fault rows offsets entries ≡ None
cut-offsets rows [] entries h = absurd (omega (arith, h.0))
cut-offsets rows (first ∷ ends) entries h =
    let offsets : List ℕ = first ∷ ends in
    let begins : first ≡ 0 = h.1 in
    let none : rows_fault 0 0 ends ≡ None =
    cut-rows 0 0 ends (λ row l.
    let cut : IsCut (get_or offsets row 0) (get_or offsets (row + 1) 0) = h.2 row (omega (arith, h.0, l)) in
    let same : get_or offsets row 0 ≡ get_or (0 ∷ ends) row 0 = ap (λ (x : ℕ). get_or (x ∷ ends) row 0) begins in
    (omega (arith, cut.0, same, behind-first first ends row), omega (arith, cut.1, same, behind-first first ends row))) in
    let a : eqb (length offsets) (rows + 1) ≡ true = eq-eqb (length offsets) (rows + 1) h.0 in
    let b : eqb first 0 ≡ true = eq-eqb first 0 begins in
    let c : eqb (get_or offsets rows 0) entries ≡ true = eq-eqb (get_or offsets rows 0) entries h.3 in
    rw (a, b, none, c) refl

-- the place of an entry that is no vertex, where there is none
unmapped : (place : Option ℕ) → option_map NotAVertex place ≡ None → place ≡ None
unmapped None h = refl
unmapped (Some place) h = absurd (cc h)

-- where no entry passes for a stranger, each is a vertex
entries-within : (n : ℕ) (ws : List ℕ) → position (λ w. leb n w) ws ≡ None → All (λ w. w < n) ws
entries-within n ws none k d l =
    let place : ℕ = position_or_len (λ w. leb n w) ws in
    elim (cases_lt place (length ws)) [
      | inl lt ↦
          let found : position (λ w. leb n w) ws ≡ Some place = ap (λ (t : Bool). cond t (Some place) None) (lt-ltb place (length ws) lt) in
          absurd (true≢false (ap is_some (sym found ∙ none)))
      | inr ge ↦ not_leb n (get_or ws k d) (fails_before_first (λ w. leb n w) ws k d (omega arith))
    ]

-- where each entry is a vertex, none passes for a stranger
within-entries : (n : ℕ) (ws : List ℕ) → All (λ w. w < n) ws → position (λ w. leb n w) ws ≡ None
within-entries n ws all =
    let place : ℕ = position_or_len (λ w. leb n w) ws in
    let end : place ≡ length ws =
    position_or_len_is (λ w. leb n w) ws (length ws) 0 (omega arith)
    (λ k l. false_from_ne_true _ (λ t. absurd (omega (arith, leb-true n (get_or ws k 0) t, all k 0 l)))) (λ l. absurd (omega arith)) in
    ap (λ (t : Bool). cond t (Some place) None) (not_less place (length ws) (omega (arith, end)))

-- what has no fault is a shard
pub faultless-shard : (rows n : ℕ) (offsets ws : List ℕ) → shard_fault rows n offsets ws ≡ None → IsShard rows n offsets ws
faultless-shard rows n offsets ws h =
    let parts = or-none (offsets_fault rows offsets (length ws)) (option_map NotAVertex (position (λ w. leb n w) ws)) h in
    let cut : AreCut rows offsets (length ws) = offsets-cut rows offsets (length ws) parts.0 in record {
      one_more = cut.0;
      first = cut.1;
      ascending = λ row l. (cut.2 row l).0;
      short = λ row l. (cut.2 row l).1;
      last = cut.3;
      within = entries-within n ws (unmapped (position (λ w. leb n w) ws) parts.1);
    }

-- a shard has no fault
pub shard-faultless : (rows n : ℕ) (offsets ws : List ℕ) → IsShard rows n offsets ws → shard_fault rows n offsets ws ≡ None
shard-faultless rows n offsets ws h =
    or-neither (offsets_fault rows offsets (length ws)) (option_map NotAVertex (position (λ w. leb n w) ws))
    (cut-offsets rows offsets (length ws) (h.one_more, h.first, (λ row l. (h.ascending row l, h.short row l)), h.last))
    (ap (λ (place : Option ℕ). option_map NotAVertex place) (within-entries n ws h.within))

module _ (rows n : ℕ) (offsets ws : List ℕ) (h : IsShard rows n offsets ws) where
  -- offsets never fall
  rises : (row k : ℕ) → row + k ≤ rows → get_or offsets row 0 ≤ get_or offsets (row + k) 0
  rises row zero l = let same : row ≡ row + 0 = omega arith in omega (arith, ap (λ (x : ℕ). get_or offsets x 0) same)
  rises row (suc k) l =
      let next : row + k + 1 ≡ row + suc k = omega arith in
      omega (arith, ap (λ (x : ℕ). get_or offsets x 0) next, h.ascending (row + k) (omega arith), rises row k (omega arith))

  -- each row ends within the entries
  pub row-ends : (row : ℕ) → row < rows → get_or offsets (row + 1) 0 ≤ length ws
  row-ends row l =
      let last : row + 1 + (rows - (row + 1)) ≡ rows = omega arith in
      omega (arith, ap (λ (x : ℕ). get_or offsets x 0) last, rises (row + 1) (rows - (row + 1)) (omega arith), h.last)

  -- how many entries a row has
  pub row-length : (row : ℕ) → row < rows → length (shard_row offsets ws row) ≡ get_or offsets (row + 1) 0 - get_or offsets row 0
  row-length row l = length-between ws (get_or offsets row 0) (get_or offsets (row + 1) 0) (row-ends row l)

  -- each entry of a row is a vertex
  pub row-within : (row : ℕ) → All (λ w. w < n) (shard_row offsets ws row)
  row-within row =
      All-take (λ w. w < n) (get_or offsets (row + 1) 0 - get_or offsets row 0) (drop (get_or offsets row 0) ws)
      (All-drop (λ w. w < n) (get_or offsets row 0) ws h.within)

-- 1 where two numbers differ
abbrev one_unless : ℕ → ℕ → ℕ
one_unless a b = cond (eqb a b) 0 1

-- one more place at which lists may differ
pub differ-next : (old next : List ℕ) (n x : ℕ) → n < length next
    → differences old (set next n x) (n + 1) ≡ cond (eqb (get_or old n 0) x) 0 1 + differences old next n
differ-next old next n x l =
    let f : ℕ → ℕ = λ i. one_unless (get_or old i 0) (get_or (set next n x) i 0) in
    let g : ℕ → ℕ = λ i. one_unless (get_or old i 0) (get_or next i 0) in
    let one_more : n + 1 ≡ suc n = omega arith in
    let here : f n ≡ one_unless (get_or old n 0) x = ap (one_unless (get_or old n 0)) (get_or-set_same next n x 0 l) in
    let rest : total f n ≡ total g n =
    total-agree f g n (λ i i-n. ap (one_unless (get_or old i 0)) (get_or-set_other next n i x 0 (λ e. absurd (omega (arith, i-n, e))))) in
    let whole : total f (n + 1) ≡ f n + total f n = ap (total f) one_more in
    omega (arith, here, rest, whole)

-- where lists differ nowhere they agree at each place
differ-nowhere : (old new : List ℕ) (n : ℕ) → differences old new n ≡ 0 → (i : ℕ) → i < n → get_or old i 0 ≡ get_or new i 0
differ-nowhere old new zero h i l = absurd (omega arith)
differ-nowhere old new (suc n) h i l =
    elim (cases_eq (get_or old n 0) (get_or new n 0)) [
      | inl e ↦ elim (cases_eq i n) [
        | inl i-n ↦ subst (λ (x : ℕ). get_or old x 0 ≡ get_or new x 0) (sym i-n) e
        | inr other ↦ differ-nowhere old new n (omega (arith, h)) i (omega (arith, l, other))
      ]
      | inr ne ↦ absurd (omega (arith, h, ap {B = ℕ} (λ (t : Bool). cond t 0 1) (ne_eqb (get_or old n 0) (get_or new n 0) ne)))
    ]

-- a list differs from itself nowhere
differ-same : (old : List ℕ) (n : ℕ) → differences old old n ≡ 0
differ-same old zero = refl
differ-same old (suc n) =
    omega (arith, differ-same old n, ap {B = ℕ} (λ (t : Bool). cond t 0 1) (eq-eqb (get_or old n 0) (get_or old n 0) refl))

-- lists of one length differ nowhere just where they are the same
pub same-lists : (old new : List ℕ) → length new ≡ length old → (differences old new (length old) ≡ 0) ↔ (new ≡ old)
same-lists old new one = (
  λ h. sym (ext_get_or 0 old new (sym one) (differ-nowhere old new (length old) h)),
  λ e. subst (λ (xs : List ℕ). differences old xs (length old) ≡ 0) (sym e) (differ-same old (length old)),
)

-- the numbers of rows up to one of them, and of the next
pub filled-next : (next : List ℕ) (f : ℕ → ℕ) (n x : ℕ) → n < length next → x ≡ f n → ((i : ℕ) → i < n → get_or next i 0 ≡ f i)
    → (i : ℕ) → i < n + 1 → get_or (set next n x) i 0 ≡ f i
filled-next next f n x l here before i i-n =
    elim (cases_eq i n) [
      | inl e ↦ subst (λ (k : ℕ). get_or (set next n x) k 0 ≡ f k) (sym e) (get_or-set_same next n x 0 l ∙ here)
      | inr other ↦ get_or-set_other next n i x 0 other ∙ before i (omega (arith, i-n, other))
    ]

-- the numbers of the rows behind it
pub behind-next : (old next : List ℕ) (n x : ℕ) → ((i : ℕ) → n ≤ i → get_or next i 0 ≡ get_or old i 0)
    → (i : ℕ) → n + 1 ≤ i → get_or (set next n x) i 0 ≡ get_or old i 0
behind-next old next n x before i l = get_or-set_other next n i x 0 (λ e. absurd (omega (arith, l, e))) ∙ before i (omega (arith, l))

-- the count of the places that changed, with one place more
pub counted-next : (same other : Bool) (n m : ℕ) → other ≡ not same → ((other ≡ true) × (m ≡ n + 1)) ⊎ ((other ≡ false) × (m ≡ n)) → m ≡ cond same 0 1 + n
counted-next true other n m e (inl h) = absurd (true≢false (sym h.0 ∙ e))
counted-next true other n m e (inr h) = omega (arith, h.1)
counted-next false other n m e (inl h) = omega (arith, h.1)
counted-next false other n m e (inr h) = absurd (true≢false (sym e ∙ h.0))
