-- What is told, one line after another.
use Rattle.std.proofs.Common.{◌≡◌, ◌<◌, ◌+◌, ℕ, suc, zero, eq-eqb, Bool, ◌||◌, List, [], ◌∷◌, ◌++◌, length, map, take, get_or, Vec, Global, refl, sym, ap}
use Rattle.std.proofs.Common.{subst, ◌∙◌, nat_eq, arith, append_assoc, append-nil, Option, Some, None, true, false}
use Rattle.std.specs.Prelude.{unwrap_or}
use Rattle.std.specs.Option.{option_to_list}
use Rattle.std.specs.List.{flat_map}
use Rattle.std.specs.Set.{is_member}
use Rattle.std.proofs.lemmas.List.Folds.{list_any-append}
use Rattle.std.proofs.lemmas.Bool.{or_left, or_right}
use Rattle.std.proofs.lemmas.Grind.{flat_map-append}
use Rattle.std.proofs.lemmas.List.{map-append, take_more}
use Rattle.kc_text.specs.declared.change.ChangeLine.{ChangeLine}
use Rattle.kc_text.specs.declared.line.TextLine.TheVariants as said
use Rattle.kc_text.specs.Meaning.{Told, batches, changes, ends, ends_of, names, with_line}
use Rattle.kc_text.proofs.Counts.{NamesMore, ends-more, ends-push}

-- the changes of all batches, in order
abbrev all : List (List ChangeLine) → List ChangeLine
all batches = flat_map (λ batch. batch) batches

-- the changes of batches and of more batches behind them
all-append : (xs ys : List (List ChangeLine)) → all (xs ++ ys) ≡ all xs ++ all ys
all-append [] ys = refl
all-append (x ∷ xs) ys = ap (λ t. x ++ t) (all-append xs ys) ∙ sym (append_assoc x (all xs) (all ys))

-- one change more in the last batch, or the first of one, is one more behind all
all-last : (earlier : List (List ChangeLine)) (last : Option (List ChangeLine)) (c : ChangeLine)
    → all (earlier ++ (unwrap_or last [] ++ c ∷ []) ∷ []) ≡ all (earlier ++ option_to_list last) ++ c ∷ []
all-last earlier None c = all-append earlier ((c ∷ []) ∷ []) ∙ ap (λ t. t ++ c ∷ []) (sym (ap all (append-nil earlier)))
all-last earlier (Some batch) c =
    all-append earlier ((batch ++ c ∷ []) ∷ []) ∙ ap (λ t. all earlier ++ t) (append-nil (batch ++ c ∷ []) ∙ ap (λ t. t ++ c ∷ []) (sym (append-nil batch)))
    ∙ sym (append_assoc (all earlier) (batch ++ []) (c ∷ [])) ∙ ap (λ t. t ++ c ∷ []) (sym (all-append earlier (batch ∷ [])))

-- a change is told behind all changes that were told
pub changes-more : (told : Told) (c : ChangeLine) → changes (with_line told (said.Change c)) ≡ changes told ++ c ∷ []
changes-more told c = all-last told.earlier told.last c

-- a batch line tells no change
pub changes-batch : (told : Told) → changes (with_line told said.Batch) ≡ changes told
changes-batch told = all-append (batches told) ([] ∷ []) ∙ append-nil (changes told)

-- the ends of edges and of more edges behind them
ends-append : (xs ys : List (ℕ × ℕ)) → ends (xs ++ ys) ≡ ends xs ++ ends ys
ends-append [] ys = refl
ends-append (x ∷ xs) ys = ap (λ t. x.0 ∷ x.1 ∷ t) (ends-append xs ys)

-- an end of edges or of pairs behind them is an end of the ones or of the others
names-of : (edges pairs : List (ℕ × ℕ)) (q : ℕ) → is_member nat_eq (ends (edges ++ pairs)) q ≡
    (is_member nat_eq (ends edges) q || is_member nat_eq (ends pairs) q)
names-of edges pairs q = ap (λ t. is_member nat_eq t q) (ends-append edges pairs) ∙ list_any-append (nat_eq q) (ends edges) (ends pairs)

-- four tests joined by or, with the brackets moved to the right
or-assoc : (a b c d : Bool) → ((a || (b || c)) || d) ≡ (a || (b || (c || d)))
or-assoc true b c d = refl
or-assoc false true c d = refl
or-assoc false false c d = refl

-- an edge line gives its two ends as names
pub names-edge : (told : Told) (a b : ℕ) → NamesMore (names told) (names (with_line told (said.Edge a b))) a b
names-edge told a b = λ q.
    let pairs : List (ℕ × ℕ) = map ends_of (changes told) in
    names-of (told.edges ++ (a, b) ∷ []) pairs q ∙ ap (λ t. t || is_member nat_eq (ends pairs) q) (ends-more told.edges a b q)
    ∙ or-assoc (nat_eq q b) (nat_eq q a) (is_member nat_eq (ends told.edges) q) (is_member nat_eq (ends pairs) q)
    ∙ ap (λ t. nat_eq q b || (nat_eq q a || t)) (sym (names-of told.edges pairs q))

-- the ends of changes with one more at the end
map-last : (cs : List ChangeLine) (c : ChangeLine) → map ends_of (cs ++ c ∷ []) ≡ map ends_of cs ++ (c.a, c.b) ∷ []
map-last [] c = refl
map-last (d ∷ cs) c = ap (λ t. (d.a, d.b) ∷ t) (map-last cs c)

-- a change gives its two ids as names
pub names-change : (told : Told) (c : ChangeLine) → NamesMore (names told) (names (with_line told (said.Change c))) c.a c.b
names-change told c =
    let pairs : List (ℕ × ℕ) = map ends_of (changes told) in
    let more : names (with_line told (said.Change c)) ≡ ends ((told.edges ++ pairs) ++ (c.a, c.b) ∷ []) =
    ap (λ (t : List ChangeLine). ends (told.edges ++ map ends_of t)) (changes-more told c)
    ∙ ap (λ (t : List (ℕ × ℕ)). ends (told.edges ++ t)) (map-last (changes told) c) ∙ ap ends (sym (append_assoc told.edges pairs ((c.a, c.b) ∷ []))) in
    subst (λ (t : List ℕ). NamesMore (names told) t c.a c.b) (sym more) (ends-more (told.edges ++ pairs) c.a c.b)

-- a batch line gives no names
pub names-batch : (told : Told) → names (with_line told said.Batch) ≡ names told
names-batch told = ap (λ (t : List ChangeLine). ends (told.edges ++ map ends_of t)) (changes-batch told)

-- the ends of the first changes of a batch, with one change more taken
pub ends-changes : (cs : List ChangeLine) (i : ℕ) (d : ChangeLine) → i < length cs
    → ends (map ends_of (take (i + 1) cs)) ≡ (ends (map ends_of (take i cs)) ++ (get_or cs i d).a ∷ []) ++ (get_or cs i d).b ∷ []
ends-changes cs i d l = ap (λ (t : List ChangeLine). ends (map ends_of t)) (take_more cs i d l) ∙ ap ends (map-last (take i cs) (get_or cs i d))
    ∙ ends-push (map ends_of (take i cs)) (ends_of (get_or cs i d))

-- the ends of changes and of more changes behind them
pub ends-batches : (cs : List ChangeLine) (ds : List ChangeLine) → ends (map ends_of (cs ++ ds)) ≡ ends (map ends_of cs) ++ ends (map ends_of ds)
ends-batches cs ds = ap ends (map-append ends_of cs ds) ∙ ends-append (map ends_of cs) (map ends_of ds)

-- the ends of edges and of changes behind them
pub ends-told : (edges : List (ℕ × ℕ)) (cs : List ChangeLine) → ends (edges ++ map ends_of cs) ≡ ends edges ++ ends (map ends_of cs)
ends-told edges cs = ends-append edges (map ends_of cs)

-- the changes of batches that are kept as vectors
pub all-items : (batches : List (Vec ChangeLine Global)) → flat_map (λ batch. batch.items) batches ≡ flat_map (λ (batch : List ChangeLine). batch)
    (map (λ batch. batch.items) batches)
all-items [] = refl
all-items (batch ∷ batches) = ap (λ t. batch.items ++ t) (all-items batches)

-- the changes of the first batches, with one batch more taken
pub all-more : (batches : List (Vec ChangeLine Global)) (i : ℕ) (batch : Vec ChangeLine Global) → i < length batches → batch ≡ get_or batches i batch
    → flat_map (λ (b : Vec ChangeLine Global). b.items) (take (i + 1) batches) ≡ flat_map (λ (b : Vec ChangeLine Global). b.items)
    (take i batches) ++ batch.items
all-more batches i batch l e =
    ap (flat_map (λ (b : Vec ChangeLine Global). b.items)) (take_more batches i batch l)
    ∙ flat_map-append (λ (b : Vec ChangeLine Global). b.items) (take i batches) (get_or batches i batch ∷ [])
    ∙ ap (λ (b : Vec ChangeLine Global). flat_map (λ (b : Vec ChangeLine Global). b.items) (take i batches) ++ (b.items ++ [])) (sym e)
    ∙ ap (λ t. flat_map (λ (b : Vec ChangeLine Global). b.items) (take i batches) ++ t) (append-nil batch.items)

-- the ends of a change are among the ends of all
pub change_ends : (cs : List ChangeLine) (i : ℕ) (d : ChangeLine) → i < length cs
    → (is_member nat_eq (ends (map ends_of cs)) (get_or cs i d).a ≡ true) × (is_member nat_eq (ends (map ends_of cs)) (get_or cs i d).b ≡ true)
change_ends [] i d l = absurd (omega arith)
change_ends (c ∷ cs) zero d l = (
  or_left (nat_eq c.a c.a) _ (eq-eqb c.a c.a refl),
  or_right (nat_eq c.b c.a) _
      (or_left (nat_eq c.b c.b) _ (eq-eqb c.b c.b refl)),
)
change_ends (c ∷ cs) (suc i) d l = let (a, b) = change_ends cs i d (omega arith) in (
  or_right (nat_eq (get_or cs i d).a c.a) _ (or_right (nat_eq (get_or cs i d).a c.b) _ a),
  or_right (nat_eq (get_or cs i d).b c.a) _
      (or_right (nat_eq (get_or cs i d).b c.b) _ b),
)

-- what is made of one batch more
pub map-more : {X : Type 0} (f : Vec ChangeLine Global → X) (batches : List (Vec ChangeLine Global)) (i : ℕ) (batch : Vec ChangeLine Global)
    → i < length batches
    → batch ≡ get_or batches i batch
    → map f (take (i + 1) batches) ≡ map f (take i batches) ++ f batch ∷ []
map-more f batches i batch l e =
    ap (map f) (take_more batches i batch l) ∙ (map-append f (take i batches) (get_or batches i batch ∷ [])
    ∙ ap (λ (b : Vec ChangeLine Global). map f (take i batches) ++ f b ∷ []) (sym e))
