-- A list that rises is what its numbers are in ascending order.
use Rattle.std.proofs.Common.{◌≡◌, ◌==◌, ℕ, Bool, true, false, cond, ◌||◌, List, [], ◌∷◌, map, Option, Some, None, refl, sym, ap, ◌∙◌}
use Rattle.std.specs.Cmp.{nat_cmp_total, unsigned_tied}
use Rattle.std.specs.FinMap as finmap
use Rattle.std.specs.FinMap.Entries.{by_order}
use Rattle.std.specs.List.{AllByRecursion}
use Rattle.std.specs.List.Sorted.{IsStrictlyIncreasing, IsStrictlySortedBy}
use Rattle.std.specs.Ordering.{nat_cmp}
use Rattle.std.specs.declared.cmp.Ordering.{Ordering}
use Rattle.std.specs.declared.cmp.Ordering.TheVariants.{Less}
use Rattle.std.proofs.lemmas.List.{nil_from_length}
use Rattle.std.proofs.lemmas.Map.Keys.{sorted_from_strictly_increasing, sorted_head, sorted_tail}
use Rattle.kc_lists.specs.Lists.{member}
use Rattle.kc_changes.specs.Changed.{ascending_ids, keyed}

-- what stands at each key
abbrev there : Option (Unit {0})
there = Some tt

-- the map that has each of some numbers
abbrev map_of : List ℕ → finmap.FinMap nat_cmp (Unit {0})
map_of numbers = finmap.from_entries {R = nat_cmp} (map keyed numbers)

-- a number below all others is put before them
put-first : (x : ℕ) (xs : List ℕ) → AllByRecursion (λ y. nat_cmp x y ≡ Less) xs → finmap.put nat_cmp x tt (map keyed xs) ≡ keyed x ∷ map keyed xs
put-first x [] h = refl
put-first x (y ∷ ys) h =
    ap (λ (o : Ordering). by_order o (keyed x ∷ map keyed (y ∷ ys)) (keyed y ∷ map keyed ys) (keyed y ∷ finmap.put nat_cmp x tt (map keyed ys))) h.0

-- the map of numbers that rise has them in their order
entries-rising : (xs : List ℕ) → IsStrictlySortedBy nat_cmp xs → finmap.entries (map_of xs) ≡ map keyed xs
entries-rising [] up = nil_from_length (finmap.entries (map_of [])) (sym (finmap.len-entries (map_of [])) ∙ finmap.len-empty nat_cmp (Unit {0}))
entries-rising (x ∷ xs) up =
    finmap.entries-insert nat_cmp_total (map_of xs) x tt
    ∙ ap (finmap.put nat_cmp x tt) (entries-rising xs (sorted_tail nat_cmp x xs up))
    ∙ put-first x xs (sorted_head nat_cmp x xs up)

-- the numbers of entries
firsts : (xs : List ℕ) → map (λ (e : ℕ × Unit {0}). e.0) (map keyed xs) ≡ xs
firsts [] = refl
firsts (x ∷ xs) = ap (λ (l : List ℕ). x ∷ l) (firsts xs)

-- what the map of numbers has
get-member : (xs : List ℕ) (q : ℕ) → finmap.find nat_cmp q (map keyed xs) ≡ cond (member q xs) there None
get-member [] q = refl
get-member (x ∷ xs) q =
    ap (λ (b : Bool). cond b there (finmap.find nat_cmp q (map keyed xs))) (unsigned_tied q x)
    ∙ ap (λ (o : Option (Unit {0})). cond (q == x) there o) (get-member xs q)
    ∙ joined (q == x) (member q xs)
  where
    joined : (a b : Bool) → cond a there (cond b there None) ≡ cond (a || b) there None
    joined true b = refl
    joined false b = refl

-- Numbers with the members of a list that rises are that list in ascending order.
pub ascending-is : (xs numbers : List ℕ) → IsStrictlyIncreasing xs → ((q : ℕ) → member q xs ≡ member q numbers) → ascending_ids numbers ≡ xs
ascending-is xs numbers up same =
    let is : (q : ℕ) → finmap.get (map_of numbers) q ≡ finmap.get (map_of xs) q = (λ q.
    finmap.get-from_entries nat_cmp_total (map keyed numbers) q ∙ get-member numbers q
    ∙ ap (λ (b : Bool). cond b there None) (sym (same q))
    ∙ sym (finmap.get-from_entries nat_cmp_total (map keyed xs) q ∙ get-member xs q)) in
    ap (λ (m : finmap.FinMap nat_cmp (Unit {0})). finmap.keys m)
    (finmap.same_map nat_cmp_total finmap.nat_cmp-IsAntisymmetric (map_of numbers) (map_of xs) is)
    ∙ ap (map (λ (e : ℕ × Unit {0}). e.0)) (entries-rising xs (sorted_from_strictly_increasing xs up)) ∙ firsts xs
