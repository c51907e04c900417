-- The updates that decide are the changes that decide.
use Rattle.std.proofs.Common.{◌≡◌, ◌≤◌, ◌<◌, ◌-◌, ◌||◌, ℕ, suc, Bool, true, false, cond, List, [], ◌∷◌, length, drop, map, get_or, refl, sym}
use Rattle.std.proofs.Common.{ap, ap₂, ◌∙◌, arith, nat_eq, eqb-true, eq-eqb, inl, inr, Vec, Global}
use Rattle.std.specs.Prelude.{All}
use Rattle.std.specs.Cmp.{both_ways}
use Rattle.std.specs.List.{list_any}
use Rattle.std.proofs.lemmas.Bool.{and_from, and_parts, or_cases, or_right}
use Rattle.std.proofs.lemmas.List.{length-map}
use Rattle.std.proofs.lemmas.List.Elements.{All-cons, All-nil}
use Rattle.kc_graph.specs.declared.update.Update.{Update}
use Rattle.kc_text.specs.declared.change.ChangeLine.{ChangeLine}
use Rattle.kc_text.specs.Deciding.{last_batch}
use Rattle.kc_text.specs.LastUpdates.{last_of_edges, same_edge}
use Rattle.kc_text.specs.Inputs.{AreAmong, AreUpdates, EdgeBatch, EdgeUpdate, numbered_batch, numbered_change, parts_of, place}
use Rattle.kc_text.specs.Meaning.{ends, ends_of, name_same}
use Rattle.kc_text.specs.Overruling.{deciding, overruled}
use Rattle.kc_text.proofs.Batched.{IsUpdate, named-again, update-at}
use Rattle.kc_text.proofs.Overruled.{deciding-count}

-- the last updates of the edges are no more than all updates
pub length-last : (updates : List Update) → length (last_of_edges updates) ≤ length updates
length-last [] = omega arith
length-last (x ∷ rest) = elim (list_any (same_edge x) rest) as (λ b. length (cond b (last_of_edges rest) (x ∷ last_of_edges rest)) ≤ suc (length rest)) [
  | true ↦ omega (arith, length-last rest)
  | false ↦ omega (arith, length-last rest)
]

-- updates are of one edge where the changes name one pair
same-named : (ids : List ℕ) (u v : Update) (c d : ChangeLine) → IsUpdate ids u c → IsUpdate ids v d → same_edge u v ≡ name_same c d
same-named ids u v c d p q = both_ways _ _
    (λ same. let (least, most) = and_parts _ _ same in
    named-again ids v u d c q p (ap₂ (λ (x y : ℕ). (x, y)) (sym (eqb-true u.u v.u least)) (sym (eqb-true u.v v.v most))))
    (λ same. elim (or_cases _ _ same) [
      | inl k ↦ let (x, y) = and_parts _ _ k in apart (ap (place ids) (eqb-true c.a d.a x)) (ap (place ids) (eqb-true c.b d.b y))
      | inr k ↦ let (x, y) = and_parts _ _ k in crossed (ap (place ids) (eqb-true c.a d.b x)) (ap (place ids) (eqb-true c.b d.a y))
    ])
  where
    apart : place ids c.a ≡ place ids d.a → place ids c.b ≡ place ids d.b → same_edge u v ≡ true
    apart a b = and_from _ _ (eq-eqb u.u v.u (omega (arith, p.least, q.least))) (eq-eqb u.v v.v (omega (arith, p.most, q.most)))

    crossed : place ids c.a ≡ place ids d.b → place ids c.b ≡ place ids d.a → same_edge u v ≡ true
    crossed a b = and_from _ _ (eq-eqb u.u v.u (omega (arith, p.least, q.least))) (eq-eqb u.v v.v (omega (arith, p.most, q.most)))

-- the first update and the others
head-update : (ids : List ℕ) (c : ChangeLine) (cs : List ChangeLine) (u : Update) (us : List Update) → AreUpdates ids (c ∷ cs) (u ∷ us)
    → AreAmong ids (ends (map ends_of (c ∷ cs))) → IsUpdate ids u c
head-update ids c cs u us are among = (update-at ids (c ∷ cs) (u ∷ us) are among 0 u (omega arith)).1

-- the updates behind the first are those of the changes behind the first
tail-updates : (ids : List ℕ) (c : ChangeLine) (cs : List ChangeLine) (u : Update) (us : List Update) → AreUpdates ids (c ∷ cs) (u ∷ us) → AreUpdates ids cs us
tail-updates ids c cs u us are = ap (drop 1) are

-- the ends of the changes behind the first are among the ids where all are
tail-among : (ids : List ℕ) (c : ChangeLine) (cs : List ChangeLine) → AreAmong ids (ends (map ends_of (c ∷ cs))) → AreAmong ids (ends (map ends_of cs))
tail-among ids c cs among = λ id h. among id (or_right (nat_eq id c.a) _ (or_right (nat_eq id c.b) _ h))

-- there is an update of the same edge just where a change names the same pair
any-same : (ids : List ℕ) (u : Update) (c : ChangeLine) (cs : List ChangeLine) (us : List Update) → IsUpdate ids u c → AreUpdates ids cs us
    → AreAmong ids (ends (map ends_of cs))
    → list_any (same_edge u) us ≡ list_any (name_same c) cs
any-same ids u c [] [] is are among = refl
any-same ids u c [] (v ∷ us) is are among = absurd (omega (arith, ap (length) are))
any-same ids u c (d ∷ cs) [] is are among = absurd (omega (arith, ap (length) are))
any-same ids u c (d ∷ cs) (v ∷ us) is are among =
    ap₂ (λ (x y : Bool). x || y) (same-named ids u v c d is (head-update ids d cs v us are among))
    (any-same ids u c cs us is (tail-updates ids d cs v us are) (tail-among ids d cs among))

-- the last updates of the edges are the changes that decide
last-deciding : (ids : List ℕ) (cs : List ChangeLine) (us : List Update) → AreUpdates ids cs us → AreAmong ids (ends (map ends_of cs))
    → AreUpdates ids (deciding cs) (last_of_edges us)
last-deciding ids [] [] are among = refl
last-deciding ids [] (u ∷ us) are among = absurd (omega (arith, ap (length) are))
last-deciding ids (c ∷ cs) [] are among = absurd (omega (arith, ap (length) are))
last-deciding ids (c ∷ cs) (u ∷ us) are among =
    let rest : AreUpdates ids (deciding cs) (last_of_edges us) = last-deciding ids cs us (tail-updates ids c cs u us are) (tail-among ids c cs among) in
    let first : parts_of u ≡ numbered_change ids c = ap (λ (t : List EdgeUpdate). get_or t 0 (parts_of u)) are in
    ap (λ b. map parts_of (cond b (last_of_edges us) (u ∷ last_of_edges us)))
    (any-same ids u c cs us (head-update ids c cs u us are among) (tail-updates ids c cs u us are) (tail-among ids c cs among))
    ∙ elim (list_any (name_same c) cs) as (λ b. map parts_of (cond b (last_of_edges us) (u ∷ last_of_edges us)) ≡ map (numbered_change ids)
    (cond b (deciding cs) (c ∷ deciding cs))) [
      | true ↦ rest
      | false ↦ ap₂ (λ (x : EdgeUpdate) (t : List EdgeUpdate). x ∷ t) first rest
    ]

-- there are as many updates as changes
length-updates : (ids : List ℕ) (cs : List ChangeLine) (us : List Update) → AreUpdates ids cs us → length us ≡ length cs
length-updates ids cs us are = sym (length-map us parts_of) ∙ (ap (length) are ∙ length-map cs (numbered_change ids))

-- the other updates are those that are overruled
count-overruled : (ids : List ℕ) (cs : List ChangeLine) (us : List Update) → AreUpdates ids cs us → AreAmong ids (ends (map ends_of cs))
    → length us - length (last_of_edges us) ≡ overruled cs
count-overruled ids cs us are among =
    omega (arith, length-updates ids cs us are, length-updates ids (deciding cs) (last_of_edges us) (last-deciding ids cs us are among), deciding-count cs)

-- all batches of updates are all batches of changes
abbrev pub AreAllUpdates : List ℕ → List (Vec ChangeLine Global) → List (Vec Update Global) → Type 0
AreAllUpdates ids batches updates = map (λ batch. map parts_of batch.items) updates ≡ map (λ batch. map (numbered_change ids) batch.items) batches

-- what follows for each batch of updates from its changes holds of all, and what is made of them is the same
each-batch : (ids : List ℕ) (P : List ChangeLine → Type 0) (Q : List Update → Type 0) → ((cs : List ChangeLine) (us : List Update) → AreUpdates ids cs us
    → P cs → Q us)
    → (batches : List (Vec ChangeLine Global)) (updates : List (Vec Update Global)) → AreAllUpdates ids batches updates → All (λ batch. P batch.items) batches
    → All (λ batch. Q batch.items) updates
each-batch ids P Q f [] [] are h = All-nil (λ batch. Q batch.items)
each-batch ids P Q f [] (u ∷ us) are h = absurd (omega (arith, ap (length) are))
each-batch ids P Q f (c ∷ cs) [] are h = absurd (omega (arith, ap (length) are))
each-batch ids P Q f (c ∷ cs) (u ∷ us) are h =
    All-cons (λ batch. Q batch.items) u us (f c.items u.items (ap (λ (t : List (List EdgeUpdate)). get_or t 0 []) are) (h 0 c (omega arith)))
    (each-batch ids P Q f cs us (ap (drop 1) are) (λ i d l. h (suc i) d (omega arith)))

-- what is made of each batch of updates is what is made of its changes, if it is so for one batch
made-alike : {X : Type 0} (ids : List ℕ) (P : List ChangeLine → Type 0) (f : List Update → X) (g : List ChangeLine → X)
    → ((cs : List ChangeLine) (us : List Update) → AreUpdates ids cs us → P cs → f us ≡ g cs)
    → (batches : List (Vec ChangeLine Global)) (updates : List (Vec Update Global)) → AreAllUpdates ids batches updates → All (λ batch. P batch.items) batches
    → map (λ batch. f batch.items) updates ≡ map (λ batch. g batch.items) batches
made-alike ids P f g same [] [] are h = refl
made-alike ids P f g same [] (u ∷ us) are h = absurd (omega (arith, ap (length) are))
made-alike ids P f g same (c ∷ cs) [] are h = absurd (omega (arith, ap (length) are))
made-alike {X = X} ids P f g same (c ∷ cs) (u ∷ us) are h =
    ap₂ (λ (x : X) (t : List X). x ∷ t) (same c.items u.items (ap (λ (t : List (List EdgeUpdate)). get_or t 0 []) are) (h 0 c (omega arith)))
    (made-alike ids P f g same cs us (ap (drop 1) are) (λ i d l. h (suc i) d (omega arith)))

-- the ends of a batch's changes are among the ids
abbrev Among : List ℕ → List ChangeLine → Type 0
Among ids batch = AreAmong ids (ends (map ends_of batch))

-- the batches of updates are as short as those of changes
pub all-short : (ids : List ℕ) (bound : ℕ) (batches : List (Vec ChangeLine Global)) (updates : List (Vec Update Global)) → AreAllUpdates ids batches updates
    → All (λ batch. length batch.items < bound) batches → All (λ batch. length batch.items < bound) updates
all-short ids bound batches updates are short = each-batch ids (λ batch. length batch < bound) (λ batch. length batch < bound)
    (λ cs us same h. omega (arith, length-updates ids cs us same)) batches updates are short

-- the last updates of a batch are the changes that decide, and the others are overruled
last-numbered : (ids : List ℕ) (cs : List ChangeLine) (us : List Update) → AreUpdates ids cs us → Among ids cs → last_batch us ≡ numbered_batch ids cs
last-numbered ids cs us are among =
    ap₂ (λ (updates : List EdgeUpdate) (count : ℕ). let batch : EdgeBatch = record { updates = updates; overruled = count } in batch)
    (last-deciding ids cs us are among) (count-overruled ids cs us are among)

-- so it is with all batches
pub all-numbered : (ids : List ℕ) (batches : List (Vec ChangeLine Global)) (updates : List (Vec Update Global)) → AreAllUpdates ids batches updates
    → All (λ batch. AreAmong ids (ends (map ends_of batch.items))) batches
    → map (λ batch. last_batch batch.items) updates ≡ map (λ batch. numbered_batch ids batch.items) batches
all-numbered ids batches updates are among = made-alike ids (Among ids) last_batch (numbered_batch ids) (last-numbered ids) batches updates are among
