-- Blocks cut at one of them: where it begins, and what an edit of it makes of the list.
use Rattle.std.proofs.Common.{◌≡◌, ◌≤◌, ◌<◌, ◌+◌, ◌-◌, ◌++◌, ◌⊎◌, ℕ, suc, zero, List, [], ◌∷◌, Vec, Global, length, take, drop, map, get_or, set}
use Rattle.std.proofs.Common.{refl, sym, ◌∙◌, ap, inl, inr, arith, length-append, append_assoc}
use Rattle.std.proofs.lemmas.List.{take-append-drop, get_or_at, set_at, take_at, drop_at}
use Rattle.std.proofs.lemmas.List.{drop_more, length-take-le, append-nil, get_or-append-add, get_or_append_left, get_or_read}
use Rattle.std.proofs.lemmas.List.{take-append-le, drop-append-le, map-append, length-set}
use Rattle.std.proofs.lemmas.List.{take_more_set, take_more, drop-set-lt, drop-drop, take_all, drop_all}
use Rattle.std.proofs.lemmas.List.Concat.{flat_map-append}
use Rattle.std.proofs.lemmas.List.Edits.{insert-append_left, insert-append_right}
use Rattle.std.specs.List.{insert}
use Rattle.kc_lists.proofs.Backs.{get_or-back}
use Rattle.kc_blocks.specs.Placing.{all_entries, starts_from, later_from, IsPlaced, IsBlockOf}
use Rattle.kc_blocks.specs.declared.blocks.Blocks.{Blocks}

-- the entries of two rows of blocks
pub entries-append : (ps qs : List (Vec ℕ Global)) → all_entries (ps ++ qs) ≡ all_entries ps ++ all_entries qs
entries-append ps qs = flat_map-append (λ (b : Vec ℕ Global). b.items) ps qs

-- each block has one start
pub length-starts : (n : ℕ) (bs : List (Vec ℕ Global)) → length (starts_from n bs) ≡ length bs
length-starts n [] = refl
length-starts n (b ∷ bs) = ap suc (length-starts (n + length b.items) bs)

-- the starts of two rows of blocks
pub starts-append : (n : ℕ) (ps qs : List (Vec ℕ Global)) → starts_from n (ps ++ qs) ≡ starts_from n ps ++ starts_from (n + length (all_entries ps)) qs
starts-append n [] qs = let e : n ≡ n + 0 = omega arith in ap (λ k. starts_from k qs) e
starts-append n (p ∷ ps) qs =
    let e : n + length p.items + length (all_entries ps) ≡ n + length (p.items ++ all_entries ps) = omega (arith, length-append p.items (all_entries ps)) in
    ap (λ (t : List ℕ). n ∷ t) (starts-append (n + length p.items) ps qs
    ∙ ap (λ k. starts_from (n + length p.items) ps ++ starts_from k qs) e)

-- where the first begins one place later, so does each
pub starts-later : (n : ℕ) (bs : List (Vec ℕ Global)) → starts_from (n + 1) bs ≡ map (λ k. k + 1) (starts_from n bs)
starts-later n [] = refl
starts-later n (b ∷ bs) =
    let e : n + 1 + length b.items ≡ n + length b.items + 1 = omega arith in
    ap (λ (t : List ℕ). (n + 1) ∷ t) (ap (λ k. starts_from k bs) e ∙ starts-later (n + length b.items) bs)

-- no block begins behind the end of the list
pub start-within : (n : ℕ) (bs : List (Vec ℕ Global)) (k : ℕ) → k < length bs → get_or (starts_from n bs) k 0 ≤ n + length (all_entries bs)
start-within n [] k l = absurd (omega arith)
start-within n (b ∷ bs) zero l = omega arith
start-within n (b ∷ bs) (suc k) l =
    omega (arith, start-within (n + length b.items) bs k (omega arith), length-append b.items (all_entries bs))

-- a block begins where those before it end
start-at : (n : ℕ) (ps : List (Vec ℕ Global)) (x : Vec ℕ Global) (qs : List (Vec ℕ Global))
    → get_or (starts_from n (ps ++ x ∷ qs)) (length ps) 0 ≡ n + length (all_entries ps)
start-at n ps x qs =
    ap (λ (t : List ℕ). get_or t (length ps) 0) (starts-append n ps (x ∷ qs))
    ∙ get_or_at (starts_from n ps) (n + length (all_entries ps)) (starts_from (n + length (all_entries ps) + length x.items) qs) 0 (length ps)
    (length-starts n ps)

-- Blocks cut at one of them.
pub record IsCutAt (bs : List (Vec ℕ Global)) (b : ℕ) (ps : List (Vec ℕ Global)) (x : Vec ℕ Global) (qs : List (Vec ℕ Global)) : Type 0 where
  pub parts : bs ≡ ps ++ x ∷ qs
  pub before : length ps ≡ b

-- so they are at each
pub cut-at : (bs : List (Vec ℕ Global)) (b : ℕ) (x : Vec ℕ Global) → b < length bs → x ≡ get_or bs b x → IsCutAt bs b (take b bs) x (drop (b + 1) bs)
cut-at bs b x l e = record {
  parts = sym (take-append-drop b bs) ∙ ap (λ (t : List (Vec ℕ Global)). take b bs ++ t)
      (drop_more bs b x l ∙ ap (λ (y : Vec ℕ Global). y ∷ drop (b + 1) bs) (sym e));
  before = length-take-le b bs (omega arith);
}

-- what follows on a block begins where the block ends
next-at : (n : ℕ) (ps : List (Vec ℕ Global)) (x : Vec ℕ Global) (q : Vec ℕ Global) (qs : List (Vec ℕ Global))
    → get_or (starts_from n (ps ++ x ∷ q ∷ qs)) (length ps + 1) 0 ≡ n + length (all_entries ps) + length x.items
next-at n ps x q qs =
    let m : ℕ = n + length (all_entries ps) in
    ap (λ (t : List ℕ). get_or t (length ps + 1) 0) (starts-append n ps (x ∷ q ∷ qs))
    ∙ (ap (λ k. get_or (starts_from n ps ++ starts_from m (x ∷ q ∷ qs)) (k + 1) 0) (sym (length-starts n ps))
    ∙ get_or-append-add (starts_from n ps) (starts_from m (x ∷ q ∷ qs)) 1 0)

-- a place lies within the block that it was found in, unless it is the last
offset-to : (ps : List (Vec ℕ Global)) (x : Vec ℕ Global) (qs : List (Vec ℕ Global)) (place : ℕ)
    → (length ps + 1 < length (ps ++ x ∷ qs) → place < get_or (starts_from 0 (ps ++ x ∷ qs)) (length ps + 1) 0)
    → (place < length (all_entries ps) + length x.items) ⊎ (length (all_entries ps) + length x.items ≡ length (all_entries (ps ++ x ∷ qs)))
offset-to ps x [] place h =
    inr (omega (arith, ap length (entries-append ps (x ∷ [])), length-append (all_entries ps) (x.items ++ []), length-append x.items []))
offset-to ps x (q ∷ qs) place h =
    let l : length ps + 1 < length (ps ++ x ∷ q ∷ qs) = omega (arith, length-append ps (x ∷ q ∷ qs)) in
    let k : place < get_or (starts_from 0 (ps ++ x ∷ q ∷ qs)) (length ps + 1) 0 = h l in
    inl (omega (arith, k, next-at 0 ps x q qs))

-- the entries before a block, its own, and those behind it
pub entries-parts : (bs : List (Vec ℕ Global)) (b : ℕ) (ps : List (Vec ℕ Global)) (x : Vec ℕ Global) (qs : List (Vec ℕ Global)) → IsCutAt bs b ps x qs
    → all_entries bs ≡ all_entries ps ++ (x.items ++ all_entries qs)
entries-parts bs b ps x qs c = ap all_entries c.parts ∙ entries-append ps (x ∷ qs)

-- What is known of a block in which a place lies: where it begins, and that the place is in it or at its end.
pub record IsFound (bs : List (Vec ℕ Global)) (b place start : ℕ) (x : Vec ℕ Global) : Type 0 where
  pub cut : IsCutAt bs b (take b bs) x (drop (b + 1) bs)
  pub begins : start ≡ length (all_entries (take b bs))
  pub begun : start ≤ place
  pub end : start + length x.items ≤ length (all_entries bs)
  pub to : place ≤ length (all_entries bs) → place ≤ start + length x.items
  pub within : place < length (all_entries bs) → place < start + length x.items

-- so much is known of the block in which a place lies
pub found : (k : Blocks) (b place start : ℕ) (x : Vec ℕ Global) → IsPlaced k → IsBlockOf k place b → start ≡ get_or k.starts.items b start
    → x ≡ get_or k.blocks.items b x → IsFound k.blocks.items b place start x
found k b place start x placed lies read is =
    let bs : List (Vec ℕ Global) = k.blocks.items in
    let ps : List (Vec ℕ Global) = take b bs in
    let qs : List (Vec ℕ Global) = drop (b + 1) bs in
    let c : IsCutAt bs b ps x qs = cut-at bs b x lies.there is in
    let many : length k.starts.items ≡ length bs = ap length placed ∙ length-starts 0 bs in
    let at : start ≡ get_or k.starts.items b 0 = get_or_read k.starts.items b start (omega (arith, lies.there, many)) read 0 in
    let start' : get_or (starts_from 0 (ps ++ x ∷ qs)) (length ps) 0 ≡ length (all_entries ps) = start-at 0 ps x qs ∙ omega arith in
    let begins : start ≡ length (all_entries ps) = at ∙ (ap (λ (t : List ℕ). get_or t b 0) placed
    ∙ (ap (λ (t : List (Vec ℕ Global)). get_or (starts_from 0 t) b 0) c.parts
    ∙ (ap (λ j. get_or (starts_from 0 (ps ++ x ∷ qs)) j 0) (sym c.before) ∙ start'))) in
    let two : (place < length (all_entries ps) + length x.items) ⊎ (length (all_entries ps) + length x.items ≡ length (all_entries (ps ++ x ∷ qs))) =
    offset-to ps x qs place (λ l.
    let m : b + 1 < length bs = omega (arith, l, ap length c.parts, c.before) in
    let n : place < get_or k.starts.items (b + 1) 0 = lies.next m in
    let e : get_or k.starts.items (b + 1) 0 ≡ get_or (starts_from 0 (ps ++ x ∷ qs)) (length ps + 1) 0 =
    ap (λ (t : List ℕ). get_or t (b + 1) 0) placed ∙ (ap (λ (t : List (Vec ℕ Global)). get_or (starts_from 0 t) (b + 1) 0) c.parts
    ∙ ap (λ j. get_or (starts_from 0 (ps ++ x ∷ qs)) (j + 1) 0) (sym c.before)) in
    omega (arith, n, e)) in
    let all : length (all_entries bs) ≡ length (all_entries (ps ++ x ∷ qs)) = ap (λ (t : List (Vec ℕ Global)). length (all_entries t)) c.parts in
    let size : length (all_entries bs) ≡ length (all_entries ps) + (length x.items + length (all_entries qs)) =
    ap length (entries-parts bs b ps x qs c)
    ∙ (length-append (all_entries ps) (x.items ++ all_entries qs) ∙ ap (λ j. length (all_entries ps) + j) (length-append x.items (all_entries qs))) in
    record {
      cut = c;
      begins = begins;
      begun = omega (arith, at, lies.begun);
      end = omega (arith, begins, size);
      to = λ l. elim two [ inl h ↦ omega (arith, h, begins) | inr h ↦ omega (arith, h, begins, all, l) ];
      within = λ l. elim two [ inl h ↦ omega (arith, h, begins) | inr h ↦ omega (arith, h, begins, all, l) ];
    }

-- the first block begins at the list's
pub first-start : (bs : List (Vec ℕ Global)) → get_or (starts_from 0 bs) 0 0 ≡ 0
first-start [] = refl
first-start (b ∷ bs) = refl

-- where there is an entry, there is a block
pub some-block : (bs : List (Vec ℕ Global)) → 0 < length (all_entries bs) → 0 < length bs
some-block [] l = absurd (omega arith)
some-block (b ∷ bs) l = omega arith

-- an entry of the list is one of its block
pub entry-at : (bs : List (Vec ℕ Global)) (b : ℕ) (ps : List (Vec ℕ Global)) (x : Vec ℕ Global) (qs : List (Vec ℕ Global)) (place at : ℕ)
    → IsCutAt bs b ps x qs → place ≡ length (all_entries ps) + at → at < length x.items → get_or (all_entries bs) place 0 ≡ get_or x.items at 0
entry-at bs b ps x qs place at c e l =
    ap (λ (t : List ℕ). get_or t place 0) (entries-parts bs b ps x qs c)
    ∙ (ap (λ k. get_or (all_entries ps ++ (x.items ++ all_entries qs)) k 0) e
    ∙ (get_or-append-add (all_entries ps) (x.items ++ all_entries qs) at 0
    ∙ get_or_append_left x.items (all_entries qs) 0 at l))

-- one block written
pub set-parts : (bs : List (Vec ℕ Global)) (b : ℕ) (ps : List (Vec ℕ Global)) (x y : Vec ℕ Global) (qs : List (Vec ℕ Global)) → IsCutAt bs b ps x qs
    → set bs b y ≡ ps ++ y ∷ qs
set-parts bs b ps x y qs c = ap (λ (t : List (Vec ℕ Global)). set t b y) c.parts ∙ set_at ps x qs y b c.before

-- one block cut in two
pub cut-parts : (bs : List (Vec ℕ Global)) (b : ℕ) (ps : List (Vec ℕ Global)) (x y z : Vec ℕ Global) (qs : List (Vec ℕ Global)) → IsCutAt bs b ps x qs
    → set (insert bs (b + 1) z) b y ≡ ps ++ y ∷ z ∷ qs
cut-parts bs b ps x y z qs c =
    let one : b + 1 - b ≡ 1 = omega arith in
    let put : insert bs (b + 1) z ≡ ps ++ x ∷ z ∷ qs = ap (λ (t : List (Vec ℕ Global)). insert t (b + 1) z) c.parts
    ∙ (insert-append_right ps (x ∷ qs) b (b + 1) z c.before (omega arith)
    ∙ ap (λ k. ps ++ insert (x ∷ qs) k z) one) in
    ap (λ (t : List (Vec ℕ Global)). set t b y) put ∙ set_at ps x (z ∷ qs) y b c.before

-- an entry put into a block is put into the list
pub put-entries : (bs : List (Vec ℕ Global)) (b : ℕ) (ps : List (Vec ℕ Global)) (x y : Vec ℕ Global) (qs : List (Vec ℕ Global)) (place at v : ℕ)
    → IsCutAt bs b ps x qs → place ≡ length (all_entries ps) + at → at ≤ length x.items → y.items ≡ insert x.items at v
    → all_entries (set bs b y) ≡ insert (all_entries bs) place v
put-entries bs b ps x y qs place at v c e l is =
    let off : place - length (all_entries ps) ≡ at = omega (arith, e) in
    ap all_entries (set-parts bs b ps x y qs c) ∙ (entries-append ps (y ∷ qs)
    ∙ (ap (λ (t : List ℕ). all_entries ps ++ (t ++ all_entries qs)) is
    ∙ sym (ap (λ (t : List ℕ). insert t place v) (entries-parts bs b ps x qs c)
    ∙ (insert-append_right (all_entries ps) (x.items ++ all_entries qs) (length (all_entries ps)) place v refl (omega (arith, e))
    ∙ (ap (λ k. all_entries ps ++ insert (x.items ++ all_entries qs) k v) off
    ∙ ap (λ (t : List ℕ). all_entries ps ++ t) (insert-append_left x.items (all_entries qs) at v l))))))

-- those behind a block that is longer by one begin one place later
pub put-starts : (bs : List (Vec ℕ Global)) (b : ℕ) (ps : List (Vec ℕ Global)) (x y : Vec ℕ Global) (qs : List (Vec ℕ Global)) → IsCutAt bs b ps x qs
    → length y.items ≡ length x.items + 1 → starts_from 0 (set bs b y) ≡ later_from (b + 1) (starts_from 0 bs)
put-starts bs b ps x y qs c e =
    let m : ℕ = 0 + length (all_entries ps) in
    let s : List ℕ = starts_from 0 ps in
    let rest : List ℕ = starts_from (m + length x.items) qs in
    let two : (s ++ m ∷ []) ++ rest ≡ s ++ m ∷ rest = append_assoc s (m ∷ []) rest in
    let old : starts_from 0 bs ≡ (s ++ m ∷ []) ++ rest = ap (starts_from 0) c.parts ∙ (starts-append 0 ps (x ∷ qs) ∙ sym two) in
    let n : length (s ++ m ∷ []) ≡ b + 1 = omega (arith, length-append s (m ∷ []), length-starts 0 ps, c.before) in
    let k : m + length y.items ≡ m + length x.items + 1 = omega (arith, e) in
    let new : starts_from 0 (set bs b y) ≡ (s ++ m ∷ []) ++ map (λ j. j + 1) rest = ap (starts_from 0) (set-parts bs b ps x y qs c)
    ∙ (starts-append 0 ps (y ∷ qs)
    ∙ (ap (λ j. s ++ m ∷ starts_from j qs) k
    ∙ (ap (λ (t : List ℕ). s ++ m ∷ t) (starts-later (m + length x.items) qs)
    ∙ sym (append_assoc s (m ∷ []) (map (λ j. j + 1) rest))))) in
    let later : later_from (b + 1) ((s ++ m ∷ []) ++ rest) ≡ (s ++ m ∷ []) ++ map (λ j. j + 1) rest =
    ap (λ (t : List ℕ). t ++ map (λ j. j + 1) (drop (b + 1) ((s ++ m ∷ []) ++ rest))) (take_at (s ++ m ∷ []) rest (b + 1) n)
    ∙ ap (λ (t : List ℕ). (s ++ m ∷ []) ++ map (λ j. j + 1) t) (drop_at (s ++ m ∷ []) rest (b + 1) n) in
    new ∙ sym (ap (later_from (b + 1)) old ∙ later)

-- a block with the same entries changes nothing
pub same-entries : (bs : List (Vec ℕ Global)) (b : ℕ) (ps : List (Vec ℕ Global)) (x y : Vec ℕ Global) (qs : List (Vec ℕ Global)) → IsCutAt bs b ps x qs
    → y.items ≡ x.items → all_entries (set bs b y) ≡ all_entries bs
same-entries bs b ps x y qs c e =
    ap all_entries (set-parts bs b ps x y qs c) ∙ (entries-append ps (y ∷ qs) ∙ (ap (λ (t : List ℕ). all_entries ps ++ (t ++ all_entries qs)) e
    ∙ sym (entries-parts bs b ps x qs c)))

pub same-starts : (bs : List (Vec ℕ Global)) (b : ℕ) (ps : List (Vec ℕ Global)) (x y : Vec ℕ Global) (qs : List (Vec ℕ Global)) → IsCutAt bs b ps x qs
    → y.items ≡ x.items → starts_from 0 (set bs b y) ≡ starts_from 0 bs
same-starts bs b ps x y qs c e =
    let m : ℕ = 0 + length (all_entries ps) in
    ap (starts_from 0) (set-parts bs b ps x y qs c) ∙ (starts-append 0 ps (y ∷ qs)
    ∙ (ap (λ (t : List ℕ). starts_from 0 ps ++ m ∷ starts_from (m + length t) qs) e
    ∙ sym (ap (starts_from 0) c.parts ∙ starts-append 0 ps (x ∷ qs))))

-- a block cut in two has the same entries
pub cut-entries : (bs : List (Vec ℕ Global)) (b : ℕ) (ps : List (Vec ℕ Global)) (x y z : Vec ℕ Global) (qs : List (Vec ℕ Global)) → IsCutAt bs b ps x qs
    → y.items ++ z.items ≡ x.items → all_entries (set (insert bs (b + 1) z) b y) ≡ all_entries bs
cut-entries bs b ps x y z qs c e =
    ap all_entries (cut-parts bs b ps x y z qs c) ∙ (entries-append ps (y ∷ z ∷ qs)
    ∙ (ap (λ (t : List ℕ). all_entries ps ++ t) (sym (append_assoc y.items z.items (all_entries qs)) ∙ ap (λ (t : List ℕ). t ++ all_entries qs) e)
    ∙ sym (entries-parts bs b ps x qs c)))

-- and its second half begins where the first ends
pub cut-starts : (bs : List (Vec ℕ Global)) (b : ℕ) (ps : List (Vec ℕ Global)) (x y z : Vec ℕ Global) (qs : List (Vec ℕ Global)) (start : ℕ)
    → IsCutAt bs b ps x qs → y.items ++ z.items ≡ x.items → start ≡ length (all_entries ps) + length y.items
    → starts_from 0 (set (insert bs (b + 1) z) b y) ≡ insert (starts_from 0 bs) (b + 1) start
cut-starts bs b ps x y z qs start c e is =
    let m : ℕ = 0 + length (all_entries ps) in
    let s : List ℕ = starts_from 0 ps in
    let rest : List ℕ = starts_from (m + length x.items) qs in
    let old : starts_from 0 bs ≡ s ++ m ∷ rest = ap (starts_from 0) c.parts ∙ starts-append 0 ps (x ∷ qs) in
    let one : b + 1 - b ≡ 1 = omega arith in
    let put : insert (starts_from 0 bs) (b + 1) start ≡ s ++ m ∷ start ∷ rest = ap (λ (t : List ℕ). insert t (b + 1) start) old
    ∙ (insert-append_right s (m ∷ rest) b (b + 1) start (length-starts 0 ps ∙ c.before) (omega arith)
    ∙ ap (λ k. s ++ insert (m ∷ rest) k start) one) in
    let first : m + length y.items ≡ start = omega (arith, is) in
    let second : m + length y.items + length z.items ≡ m + length x.items = omega (arith, length-append y.items z.items, ap length e) in
    ap (starts_from 0) (cut-parts bs b ps x y z qs c) ∙ (starts-append 0 ps (y ∷ z ∷ qs)
    ∙ (ap (λ k. s ++ m ∷ k ∷ starts_from (m + length y.items + length z.items) qs) first
    ∙ (ap (λ k. s ++ m ∷ start ∷ starts_from k qs) second ∙ sym put)))

-- there are as many starts as blocks
pub as-many : (k : Blocks) → IsPlaced k → length k.starts.items ≡ length k.blocks.items
as-many k placed = ap length placed ∙ length-starts 0 k.blocks.items

-- one place more, behind the first that are later by one
later-push : (first y : ℕ) (xs : List ℕ) → first ≤ length xs → later_from first (xs ++ y ∷ []) ≡ later_from first xs ++ (y + 1) ∷ []
later-push first y xs l =
    ap (λ (t : List ℕ). t ++ map (λ j. j + 1) (drop first (xs ++ y ∷ []))) (take-append-le first xs (y ∷ []) l)
    ∙ (ap (λ (t : List ℕ). take first xs ++ map (λ j. j + 1) t) (drop-append-le first xs (y ∷ []) l)
    ∙ (ap (λ (t : List ℕ). take first xs ++ t) (map-append (λ j. j + 1) (drop first xs) (y ∷ []))
    ∙ sym (append_assoc (take first xs) (map (λ j. j + 1) (drop first xs)) ((y + 1) ∷ []))))

-- What a loop over places does that are later by one: those before the place `i` are done, and the others stand as they stood.
pub record IsLaterTo (first i : ℕ) (now old : List ℕ) : Type 0 where
  pub long : length now ≡ length old
  pub done : take i now ≡ later_from first (take i old)
  pub left : drop i now ≡ drop i old

-- the next place is the one that stood there
pub later-here : (first i y : ℕ) (now old : List ℕ) → IsLaterTo first i now old → i < length old → y ≡ get_or now i y → y ≡ get_or old i 0
later-here first i y now old h l read = get_or_read now i y (omega (arith, h.long)) read 0 ∙ get_or-back now old i h.left

-- and is done where it is written
pub later-more : (first i y : ℕ) (now old : List ℕ) → IsLaterTo first i now old → first ≤ i → i < length old → y ≡ get_or now i y
    → IsLaterTo first (i + 1) (set now i (y + 1)) old
later-more first i y now old h from l read =
    let is : y ≡ get_or old i 0 = later-here first i y now old h l read in
    let m : i < length now = omega (arith, h.long) in
    let long : first ≤ length (take i old) = omega (arith, length-take-le i old (omega arith)) in
    record {
      long = length-set now i (y + 1) ∙ h.long;
      done = take_more_set now i (y + 1) m ∙ (ap (λ (t : List ℕ). t ++ (y + 1) ∷ []) h.done
          ∙ (sym (later-push first y (take i old) long)
          ∙ ap (later_from first) (ap (λ k. take i old ++ k ∷ []) is ∙ sym (take_more old i 0 l))));
      left = drop-set-lt (i + 1) now i (y + 1) (omega arith) ∙ (sym (drop-drop 1 i now) ∙ (ap (drop 1) h.left ∙ drop-drop 1 i old));
    }

-- before the first nothing is done
pub later-none : (first : ℕ) (xs : List ℕ) → first ≤ length xs → IsLaterTo first first xs xs
later-none first xs l =
    let n : length (take first xs) ≡ first = length-take-le first xs l in
    record {
      long = refl;
      done = sym (ap (λ (t : List ℕ). t ++ map (λ j. j + 1) (drop first (take first xs))) (take_all first (take first xs) (omega arith))
          ∙ (ap (λ (t : List ℕ). take first xs ++ map (λ j. j + 1) t) (drop_all first (take first xs) (omega arith)) ∙ append-nil (take first xs)));
      left = refl;
    }
