-- The changes of a batch that decide: they name each of its pairs, and none twice.
use Rattle.std.proofs.Common.{◌≡◌, ◌+◌, ℕ, suc, Bool, true, false, cond, ◌||◌, List, [], ◌∷◌, length, map, get_or, refl, sym, ap, ◌∙◌, arith, nat_eq, inl, inr}
use Rattle.std.specs.Prelude.{All}
use Rattle.std.specs.List.{list_any}
use Rattle.std.specs.Set.{is_member}
use Rattle.std.proofs.lemmas.Bool.{cases_Bool, or_cases, or_left, or_right, false≢true}
use Rattle.std.proofs.lemmas.List.Folds.{list_any_at, list_any_none}
use Rattle.std.proofs.lemmas.List.Kept.{AllPairs-cons}
use Rattle.kc_text.specs.declared.change.ChangeLine.{ChangeLine}
use Rattle.kc_text.specs.Batches.{NamesOnce}
use Rattle.kc_text.specs.Inputs.{AreAmong}
use Rattle.kc_text.specs.Meaning.{ends, ends_of, name_same}
use Rattle.kc_text.specs.Overruling.{deciding, overruled}
use Rattle.kc_text.proofs.NamedPairs.{name_same-congr, name_same-flip}

-- a test that finds no change fails at each
pub none-at : (p : ChangeLine → Bool) (batch : List ChangeLine) → list_any p batch ≡ false → All (λ d. p d ≡ false) batch
none-at p batch none = λ i d l. elim (cases_Bool (p (get_or batch i d))) [
  | inl some ↦ absurd (false≢true (sym none ∙ list_any_at p batch i d l some))
  | inr not ↦ not
]

-- changes that name one pair name the same changes
named-alike : (c d : ChangeLine) (batch : List ChangeLine) → name_same c d ≡ true → list_any (name_same c) batch ≡ list_any (name_same d) batch
named-alike c d [] same = refl
named-alike c d (e ∷ batch) same = ap (λ t. t || list_any (name_same c) batch) (name_same-congr c d e same)
    ∙ ap (λ t. name_same d e || t) (named-alike c d batch same)

-- what is named by a batch is named by the changes that decide, and the other way round
pub deciding-names : (q : ChangeLine) (batch : List ChangeLine) → list_any (name_same q) (deciding batch) ≡ list_any (name_same q) batch
deciding-names q [] = refl
deciding-names q (c ∷ rest) =
    elim (list_any (name_same c) rest) as (λ b. list_any (name_same c) rest ≡ b
    → list_any (name_same q) (cond b (deciding rest) (c ∷ deciding rest)) ≡ (name_same q c || list_any (name_same q) rest)) [
      | true ↦ λ again. deciding-names q rest ∙ sym (absorbed again)
      | false ↦ λ _. ap (λ t. name_same q c || t) (deciding-names q rest)
    ] refl
  where
    absorbed : list_any (name_same c) rest ≡ true → (name_same q c || list_any (name_same q) rest) ≡ list_any (name_same q) rest
    absorbed again = elim (cases_Bool (name_same q c)) [
      | inl same ↦ ap (λ t. t || list_any (name_same q) rest) same ∙ sym (named-alike q c rest same ∙ again)
      | inr other ↦ ap (λ t. t || list_any (name_same q) rest) other
    ]

-- no pair is named twice by the changes that decide
pub deciding-once : (batch : List ChangeLine) → NamesOnce (deciding batch)
deciding-once [] = λ i j d l m. absurd (omega arith)
deciding-once (c ∷ rest) =
    elim (list_any (name_same c) rest) as (λ b. list_any (name_same c) rest ≡ b → NamesOnce (cond b (deciding rest) (c ∷ deciding rest))) [
      | true ↦ λ _. deciding-once rest
      | false ↦ λ none. AllPairs-cons (λ c d. name_same d c ≡ false) c (deciding rest)
          (λ i d l. name_same-flip (get_or (deciding rest) i d) c ∙ none-at (name_same c) (deciding rest) (deciding-names c rest ∙ none) i d l)
          (deciding-once rest)
    ] refl

-- each change decides or is overruled
pub deciding-count : (batch : List ChangeLine) → length (deciding batch) + overruled batch ≡ length batch
deciding-count [] = refl
deciding-count (c ∷ rest) =
    elim (list_any (name_same c) rest) as (λ b. length (cond b (deciding rest) (c ∷ deciding rest)) + cond b (overruled rest + 1) (overruled rest) ≡ suc
    (length rest)) [
      | true ↦ omega (arith, deciding-count rest)
      | false ↦ omega (arith, deciding-count rest)
    ]

-- an id of a change that decides is an id of the batch
deciding-ends : (batch : List ChangeLine) (id : ℕ) → is_member nat_eq (ends (map ends_of (deciding batch))) id ≡ true
    → is_member nat_eq (ends (map ends_of batch)) id ≡ true
deciding-ends [] id = λ h. h
deciding-ends (c ∷ rest) id =
    elim (list_any (name_same c) rest) as (λ b. is_member nat_eq (ends (map ends_of (cond b (deciding rest) (c ∷ deciding rest)))) id ≡ true
    → is_member nat_eq (ends (map ends_of (c ∷ rest))) id ≡ true) [
      | true ↦ λ h. further (deciding-ends rest id h)
      | false ↦ λ h. elim (or_cases _ _ h) [
        | inl first ↦ or_left (nat_eq id c.a) _ first
        | inr later ↦ elim (or_cases _ _ later) [
          | inl second ↦ or_right (nat_eq id c.a) _ (or_left (nat_eq id c.b) _ second)
          | inr among ↦ further (deciding-ends rest id among)
        ]
      ]
    ]
  where
    further : is_member nat_eq (ends (map ends_of rest)) id ≡ true → is_member nat_eq (ends (map ends_of (c ∷ rest))) id ≡ true
    further h = or_right (nat_eq id c.a) _ (or_right (nat_eq id c.b) _ h)

-- the ids of the changes that decide are among those of the batch
pub deciding-among : (ids : List ℕ) (batch : List ChangeLine) → AreAmong ids (ends (map ends_of batch)) → AreAmong ids (ends (map ends_of (deciding batch)))
deciding-among ids batch among = λ id h. among id (deciding-ends batch id h)

-- a batch that names no pair twice names none twice behind its first change
once-rest : (c : ChangeLine) (rest : List ChangeLine) → NamesOnce (c ∷ rest) → NamesOnce rest
once-rest c rest once = λ i j d l m. once (suc i) (suc j) d (omega arith) (omega arith)

-- a change is not named again where no pair is named twice
once-first : (c : ChangeLine) (rest : List ChangeLine) → NamesOnce (c ∷ rest) → list_any (name_same c) rest ≡ false
once-first c rest once = list_any_none (name_same c) rest (λ i d l. name_same-flip c (get_or rest i d) ∙ once 0 (suc i) d (omega arith) (omega arith))

-- where no pair is named twice, all changes decide
pub once-deciding : (batch : List ChangeLine) → NamesOnce batch → deciding batch ≡ batch
once-deciding [] once = refl
once-deciding (c ∷ rest) once =
    ap (λ b. cond b (deciding rest) (c ∷ deciding rest)) (once-first c rest once) ∙ ap (λ (t : List ChangeLine). c ∷ t) (once-deciding rest
    (once-rest c rest once))

-- where no pair is named twice, no change is overruled
pub once-overruled : (batch : List ChangeLine) → NamesOnce batch → overruled batch ≡ 0
once-overruled batch once = omega (arith, deciding-count batch, ap (length) (once-deciding batch once))
