-- Ids and their numbers, with one name more and with several.
use Rattle.std.proofs.Common.{◌≡◌, ◌≤◌, ◌<◌, ◌+◌, ℕ, suc, Bool, true, false, cond, not, ◌||◌, List, [], ◌∷◌, ◌++◌, length, map, refl, sym, ap, ap₂, ◌∙◌}
use Rattle.std.proofs.Common.{subst, arith, nat_eq, eq-eqb, eqb-true, get_or, inl, inr, length-append, append-nil, append_assoc, Option, Some, None, min, max}
use Rattle.kc_lists.specs.Lists.{Distinct}
use Rattle.kc_lists.proofs.Counting.{Distinct-push, member-get_or, pairs_from_Distinct}
use Rattle.kc_lists.proofs.Members.{Distinct-cut}
use Rattle.std.specs.List.{filter_map, position_or_len, cons_option}
use Rattle.std.specs.Set.{is_member}
use Rattle.std.proofs.lemmas.Bool.{cases_Bool, ne_eqb, or_cases, or_left, or_right, false≢true}
use Rattle.std.proofs.lemmas.List.Folds.{list_any-append, position_or_len_push}
use Rattle.std.proofs.lemmas.List.Sums.{fold-append, position_or_len_is}
use Rattle.std.proofs.lemmas.List.{map-append}
use Rattle.kc_graph.specs.Peeling.{at}
use Rattle.kc_text.specs.declared.change.ChangeLine.{ChangeLine}
use Rattle.kc_text.specs.declared.line.TextLine.TheVariants as said
use Rattle.kc_text.specs.Inputs.{AreAmong, EdgeUpdate, between, numbered, numbered_change, place}
use Rattle.kc_text.specs.Meaning.{Told, changes, ends, ends_of, names, with_line}
use Rattle.kc_text.proofs.Counts.{ends-push}
use Rattle.kc_text.proofs.Places.{place-below}
use Rattle.kc_text.proofs.Telling.{changes-more, names-batch}
use Rattle.kc_stream.specs.Ids.{HasNumbers, ids_of, number_of, with_name, with_names}

-- each id of the first is one of the second, under the same number
abbrev pub Extends : List ℕ → List ℕ → Type 0
Extends ids more = (x : ℕ) → is_member nat_eq ids x ≡ true → (is_member nat_eq more x ≡ true) × (place more x ≡ place ids x)

-- the ids of some are those of more, and so on
pub extends-trans : (a b c : List ℕ) → Extends a b → Extends b c → Extends a c
extends-trans a b c f g = λ x m. let (n, p) = f x m in let (k, q) = g x n in (k, q ∙ p)

-- an id keeps its place with one behind
place-push : (ids : List ℕ) (y x : ℕ) → is_member nat_eq ids x ≡ true → place (ids ++ y ∷ []) x ≡ place ids x
place-push ids y x m =
    let low : place ids x < length ids = place-below ids x m in
    let apart : nat_eq (place ids x) (length ids) ≡ false = lesser-differs (place ids x) (length ids) low in
    position_or_len_push (nat_eq x) ids y ∙ ap (λ b. cond b (length ids + cond (nat_eq x y) 0 1) (place ids x)) apart
  where
    lesser-differs : (a b : ℕ) → a < b → nat_eq a b ≡ false
    lesser-differs a b l = grind arith

-- who is no id has no place among them
place-none : (ids : List ℕ) (x : ℕ) → is_member nat_eq ids x ≡ false → place ids x ≡ length ids
place-none [] x m = refl
place-none (y ∷ ids) x m = elim (cases_Bool (nat_eq x y)) [
  | inl t ↦ absurd (false≢true (sym m ∙ or_left (nat_eq x y) _ t))
  | inr f ↦
      let rest : is_member nat_eq ids x ≡ false = sym (ap (λ (b : Bool). b || is_member nat_eq ids x) f) ∙ m in
      ap (λ (b : Bool). cond (not b) (1 + position_or_len (nat_eq x) ids) 0) f
      ∙ (let e : 1 + place ids x ≡ suc (length ids) = omega (arith, place-none ids x rest) in e)
]

-- one that is put behind others has their count as its place
pub place-last : (ids : List ℕ) (x : ℕ) → is_member nat_eq ids x ≡ false → place (ids ++ x ∷ []) x ≡ length ids
place-last ids x m =
    position_or_len_push (nat_eq x) ids x
    ∙ ap (λ b. cond b (length ids + cond (nat_eq x x) 0 1) (place ids x)) (eq-eqb (place ids x) (length ids) (place-none ids x m))
    ∙ ap (λ b. length ids + cond b 0 1) (eq-eqb x x refl) ∙ (let e : length ids + 0 ≡ length ids = omega arith in e)

-- an id stands at its place
pub place-at : (ids : List ℕ) (v : ℕ) → Distinct ids → v < length ids → place ids (at ids v) ≡ v
place-at ids v once l =
    position_or_len_is (nat_eq (at ids v)) ids v 0 (omega (arith, l))
    (λ k less. ne_eqb (at ids v) (get_or ids k 0) (λ e. pairs_from_Distinct ids once k v 0 less l (sym e)))
    (λ _. eq-eqb (at ids v) (at ids v) refl)

-- who stands at a number is an id, and has this number
pub stands-at : (ids : List ℕ) (n id : ℕ) → Distinct ids → n < length ids → at ids n ≡ id
    → (n < length ids) × (n ≡ place ids id) × (is_member nat_eq ids id ≡ true)
stands-at ids n id once low is = (
  low,
  sym (ap (place ids) (sym is) ∙ place-at ids n once low),
  subst (λ (x : ℕ). is_member nat_eq ids x ≡ true) is (member-get_or ids n 0 low),
)

-- a name that is an id adds none
pub name-known : (ids : List ℕ) (n : ℕ) → is_member nat_eq ids n ≡ true → with_name ids n ≡ ids
name-known ids n m = ap (λ b. cond b ids (ids ++ n ∷ [])) m

-- a name that is no id is put behind
pub name-new : (ids : List ℕ) (n : ℕ) → is_member nat_eq ids n ≡ false → with_name ids n ≡ ids ++ n ∷ []
name-new ids n m = ap (λ b. cond b ids (ids ++ n ∷ [])) m

-- with one name more all ids stay
pub extends-name : (ids : List ℕ) (n : ℕ) → Extends ids (with_name ids n)
extends-name ids n = elim (is_member nat_eq ids n) as (λ b. Extends ids (cond b ids (ids ++ n ∷ []))) [
  | true ↦ λ x m. (m, refl)
  | false ↦ λ x m. (list_any-append (nat_eq x) ids (n ∷ []) ∙ or_left _ _ m, place-push ids n x m)
]

-- a name is an id afterwards
pub name-member : (ids : List ℕ) (n : ℕ) → is_member nat_eq (with_name ids n) n ≡ true
name-member ids n = elim (cases_Bool (is_member nat_eq ids n)) [
  | inl t ↦ ap (λ (l : List ℕ). is_member nat_eq l n) (name-known ids n t) ∙ t
  | inr f ↦ ap (λ (l : List ℕ). is_member nat_eq l n) (name-new ids n f) ∙ list_any-append (nat_eq n) ids (n ∷ [])
      ∙ or_right (is_member nat_eq ids n) _ (or_left (nat_eq n n) false (eq-eqb n n refl))
]

-- there are no fewer ids afterwards
pub name-grows : (ids : List ℕ) (n : ℕ) → length ids ≤ length (with_name ids n)
name-grows ids n = elim (is_member nat_eq ids n) as (λ b. length ids ≤ length (cond b ids (ids ++ n ∷ []))) [
  | true ↦ omega arith
  | false ↦ omega (arith, length-append ids (n ∷ []))
]

-- with more names all ids stay
pub extends-names : (ids named : List ℕ) → Extends ids (with_names ids named)
extends-names ids [] = λ x m. (m, refl)
extends-names ids (n ∷ named) =
    extends-trans ids (with_name ids n) (with_names (with_name ids n) named) (extends-name ids n) (extends-names (with_name ids n) named)

-- each name is an id afterwards
pub names-members : (ids named : List ℕ) → AreAmong (with_names ids named) named
names-members ids [] = λ x m. absurd (false≢true m)
names-members ids (n ∷ named) = λ x m. elim (or_cases (nat_eq x n) (is_member nat_eq named x) m) [
  | inl is ↦ subst (λ (y : ℕ). is_member nat_eq (with_names (with_name ids n) named) y ≡ true) (sym (eqb-true x n is))
      (extends-names (with_name ids n) named n (name-member ids n)).0
  | inr later ↦ names-members (with_name ids n) named x later
]

-- ids with more names are those ids, and others behind them
pub names-behind : (ids named : List ℕ) → (more : List ℕ) × (with_names ids named ≡ ids ++ more)
names-behind ids [] = ([], sym (append-nil ids))
names-behind ids (n ∷ named) = elim (cases_Bool (is_member nat_eq ids n)) [
  | inl known ↦
      let (more, is) = names-behind ids named in
      (more, ap (λ (l : List ℕ). with_names l named) (name-known ids n known) ∙ is)
  | inr new ↦
      let (more, is) = names-behind (ids ++ n ∷ []) named in
      (n ∷ more, ap (λ (l : List ℕ). with_names l named) (name-new ids n new) ∙ is ∙ append_assoc ids (n ∷ []) more)
]

-- and none of them stands there twice
pub names-once : (ids named : List ℕ) → Distinct ids → Distinct (with_names ids named)
names-once ids [] once = once
names-once ids (n ∷ named) once = elim (cases_Bool (is_member nat_eq ids n)) [
  | inl known ↦ subst (λ (l : List ℕ). Distinct (with_names l named)) (sym (name-known ids n known)) (names-once ids named once)
  | inr new ↦ subst (λ (l : List ℕ). Distinct (with_names l named)) (sym (name-new ids n new))
      (names-once (ids ++ n ∷ []) named (Distinct-push ids n once new))
]

-- names of which each is an id are ids of more
pub among-more : (ids more named : List ℕ) → Extends ids more → AreAmong ids named → AreAmong more named
among-more ids more named f among = λ x m. (f x (among x m)).0

-- the number of an id with one behind, by the numbers of the others
pub number-push : (ids : List ℕ) (n x : ℕ) → is_member nat_eq ids n ≡ false
    → number_of (ids ++ n ∷ []) x ≡ cond (nat_eq n x) (Some (length ids)) (number_of ids x)
number-push ids n x new = elim (cases_Bool (nat_eq n x)) [
  | inl same ↦
      let e : n ≡ x = eqb-true n x same in
      let there : is_member nat_eq (ids ++ n ∷ []) n ≡ true = list_any-append (nat_eq n) ids (n ∷ []) ∙ or_right (is_member nat_eq ids n) _
      (or_left (nat_eq n n) false (eq-eqb n n refl)) in
      ap (number_of (ids ++ n ∷ [])) (sym e) ∙ ap (λ b. cond b (Some (place (ids ++ n ∷ []) n)) None) there
      ∙ ap Some (place-last ids n new) ∙ sym (ap (λ b. cond b (Some (length ids)) (number_of ids x)) same)
  | inr other ↦
      let back : nat_eq x n ≡ false = flip n x other in
      let here : is_member nat_eq (ids ++ n ∷ []) x ≡ is_member nat_eq ids x =
      list_any-append (nat_eq x) ids (n ∷ []) ∙ ap (λ b. is_member nat_eq ids x || (b || false)) back
      ∙ or-false (is_member nat_eq ids x) in
      ap (λ b. cond b (Some (place (ids ++ n ∷ []) x)) None) here ∙ as-before here ∙ sym (ap (λ b. cond b (Some (length ids)) (number_of ids x)) other)
]
  where
    flip : (a b : ℕ) → nat_eq a b ≡ false → nat_eq b a ≡ false
    flip a b h = grind arith

    or-false : (b : Bool) → (b || (false || false)) ≡ b
    or-false true = refl
    or-false false = refl

    as-before : is_member nat_eq (ids ++ n ∷ []) x ≡ is_member nat_eq ids x
        → cond (is_member nat_eq ids x) (Some (place (ids ++ n ∷ []) x)) None ≡ cond (is_member nat_eq ids x) (Some (place ids x)) None
    as-before here = elim (cases_Bool (is_member nat_eq ids x)) [
      | inl t ↦ ap (λ k. cond (is_member nat_eq ids x) (Some k) None) (place-push ids n x t)
      | inr f ↦ ap (λ b. cond b (Some (place (ids ++ n ∷ []) x)) None) f ∙ sym (ap (λ b. cond b (Some (place ids x)) None) f)
    ]

-- edges between ids keep their numbers with more ids
pub edges-stay : (ids more : List ℕ) (es : List (ℕ × ℕ)) → Extends ids more → AreAmong ids (ends es)
    → filter_map (numbered more) es ≡ filter_map (numbered ids) es
edges-stay ids more [] f among = refl
edges-stay ids more (e ∷ es) f among =
    let first : place more e.0 ≡ place ids e.0 = (f e.0 (among e.0 (or_left (nat_eq e.0 e.0) _ (eq-eqb e.0 e.0 refl)))).1 in
    let second : place more e.1 ≡ place ids e.1 =
    (f e.1 (among e.1 (or_right (nat_eq e.1 e.0) _ (or_left (nat_eq e.1 e.1) _ (eq-eqb e.1 e.1 refl))))).1 in
    ap₂ (λ (o : Option (ℕ × ℕ)) (t : List (ℕ × ℕ)). cons_option o t) (ap₂ between first second)
    (edges-stay ids more es f (λ x m. among x (or_right (nat_eq x e.0) _ (or_right (nat_eq x e.1) _ m))))

-- changes between ids keep their numbers with more ids
pub changes-stay : (ids more : List ℕ) (cs : List ChangeLine) → Extends ids more → AreAmong ids (ends (map ends_of cs))
    → map (numbered_change more) cs ≡ map (numbered_change ids) cs
changes-stay ids more [] f among = refl
changes-stay ids more (c ∷ cs) f among =
    let first : place more c.a ≡ place ids c.a = (f c.a (among c.a (or_left (nat_eq c.a c.a) _ (eq-eqb c.a c.a refl)))).1 in
    let second : place more c.b ≡ place ids c.b =
    (f c.b (among c.b (or_right (nat_eq c.b c.a) _ (or_left (nat_eq c.b c.b) _ (eq-eqb c.b c.b refl))))).1 in
    let here : numbered_change more c ≡ numbered_change ids c =
    ap₂ (λ (p q : ℕ). let u : EdgeUpdate = record { add = c.add; u = min p q; v = max p q } in u) first second in
    ap₂ (λ (u : EdgeUpdate) (t : List EdgeUpdate). u ∷ t) here
    (changes-stay ids more cs f (λ x m. among x (or_right (nat_eq x c.a) _ (or_right (nat_eq x c.b) _ m))))

-- the ids with two names behind others
pub names-push : (named : List ℕ) (a b : ℕ) → with_names [] ((named ++ a ∷ []) ++ b ∷ []) ≡ with_names (with_names [] named) (a ∷ b ∷ [])
names-push named a b = ap (with_names []) (append_assoc named (a ∷ []) (b ∷ [])) ∙ fold-append with_name [] named (a ∷ b ∷ [])

-- an edge line names its ends, where there is no batch yet
pub ids-edge : (told : Told) (a b : ℕ) → told.last ≡ None → told.earlier ≡ []
    → ids_of (with_line told (said.Edge a b)) ≡ with_names (ids_of told) (a ∷ b ∷ [])
ids-edge told a b last earlier =
    let none : changes told ≡ [] =
    ap₂ (λ (e : List (List ChangeLine)) (l : Option (List ChangeLine)). changes (record { edges = told.edges; earlier = e; last = l })) earlier last in
    let before : names told ≡ ends told.edges = ap (λ (cs : List ChangeLine). ends (told.edges ++ map ends_of cs)) none ∙ ends-nil told.edges in
    let after : names (with_line told (said.Edge a b)) ≡ ends (told.edges ++ (a, b) ∷ []) =
    ap (λ (cs : List ChangeLine). ends ((told.edges ++ (a, b) ∷ []) ++ map ends_of cs)) none ∙ ends-nil (told.edges ++ (a, b) ∷ []) in
    ap (with_names []) (after ∙ ends-push told.edges (a, b)) ∙ names-push (ends told.edges) a b
    ∙ ap (λ (n : List ℕ). with_names (with_names [] n) (a ∷ b ∷ [])) (sym before)
  where
    ends-nil : (es : List (ℕ × ℕ)) → ends (es ++ []) ≡ ends es
    ends-nil [] = refl
    ends-nil (e ∷ es) = ap (λ t. e.0 ∷ e.1 ∷ t) (ends-nil es)

-- a change names its two ids
pub ids-change : (told : Told) (c : ChangeLine) → ids_of (with_line told (said.Change c)) ≡ with_names (ids_of told) (c.a ∷ c.b ∷ [])
ids-change told c =
    let pairs : List (ℕ × ℕ) = map ends_of (changes told) in
    let after : names (with_line told (said.Change c)) ≡ ends ((told.edges ++ pairs) ++ (c.a, c.b) ∷ []) =
    ap (λ (t : List ChangeLine). ends (told.edges ++ map ends_of t)) (changes-more told c)
    ∙ ap (λ (t : List (ℕ × ℕ)). ends (told.edges ++ t)) (map-append ends_of (changes told) (c ∷ []))
    ∙ ap ends (sym (append_assoc told.edges pairs ((c.a, c.b) ∷ []))) in
    ap (with_names []) (after ∙ ends-push (told.edges ++ pairs) (c.a, c.b)) ∙ names-push (names told) c.a c.b

-- a batch line names none
pub ids-batch : (told : Told) → ids_of (with_line told said.Batch) ≡ ids_of told
ids-batch told = ap (with_names []) (names-batch told)

-- who has a number is an id, and it is its place
pub number-some : (ids : List ℕ) (x n : ℕ) → number_of ids x ≡ Some n → (is_member nat_eq ids x ≡ true) × (n ≡ place ids x)
number-some ids x n is = elim (cases_Bool (is_member nat_eq ids x)) [
  | inl t ↦ (t, some-injective (sym is ∙ ap (λ b. cond b (Some (place ids x)) None) t))
  | inr f ↦ absurd (some-none (sym is ∙ ap (λ b. cond b (Some (place ids x)) None) f))
]
  where
    some-injective : {a b : ℕ} → Some a ≡ Some b → a ≡ b
    some-injective e = grind arith

    some-none : {a : ℕ} → Some a ≡ None → ⊥
    some-none e = cc

-- who has no number is no id
pub number-none : (ids : List ℕ) (x : ℕ) → number_of ids x ≡ None → is_member nat_eq ids x ≡ false
number-none ids x is = elim (cases_Bool (is_member nat_eq ids x)) [
  | inl t ↦ absurd (none-some (sym is ∙ ap (λ b. cond b (Some (place ids x)) None) t))
  | inr f ↦ f
]
  where
    none-some : {a : ℕ} → None ≡ Some a → ⊥
    none-some e = cc

-- numbers, with that of a new id
pub numbers-put : (ids : List ℕ) (old new : ℕ → Option ℕ) (id : ℕ) → HasNumbers ids old → old id ≡ None
    → ((q : ℕ) → new q ≡ cond (nat_eq id q) (Some (length ids)) (old q)) → HasNumbers (ids ++ id ∷ []) new
numbers-put ids old new id has none put = λ q.
    put q ∙ ap (λ (o : Option ℕ). cond (nat_eq id q) (Some (length ids)) o) (has q)
    ∙ sym (number-push ids id q (number-none ids id (sym (has id) ∙ none)))

-- numbers, without that of the last id
pub numbers-cut : (ids : List ℕ) (old new : ℕ → Option ℕ) (id : ℕ) → HasNumbers (ids ++ id ∷ []) old → Distinct (ids ++ id ∷ [])
    → ((q : ℕ) → new q ≡ cond (nat_eq id q) None (old q)) → HasNumbers ids new
numbers-cut ids old new id has once cut = λ q.
    let out : is_member nat_eq ids id ≡ false = (Distinct-cut id ids [] once).0 in
    cut q ∙ ap (λ (o : Option ℕ). cond (nat_eq id q) None o) (has q ∙ number-push ids id q out) ∙ (elim (cases_Bool (nat_eq id q)) [
      | inl same ↦
          let none : number_of ids q ≡ None = ap (number_of ids) (sym (eqb-true id q same)) ∙ ap (λ b. cond b (Some (place ids id)) None) out in
          ap (λ b. cond b None (cond b (Some (length ids)) (number_of ids q))) same ∙ sym none
      | inr other ↦ ap (λ b. cond b None (cond b (Some (length ids)) (number_of ids q))) other
    ])
