-- What is echoed of bytes that follow others.
use Rattle.std.proofs.Common.{◌≡◌, ◌≤◌, ◌<◌, ◌++◌, ◌∷◌, ◌||◌, ℕ, suc, List, [], Bool, true, false, cond, refl, sym, ap, subst, ◌∙◌, length, take, drop, get_or}
use Rattle.std.proofs.Common.{append-nil, arith, take-append-drop, take_all}
use Rattle.std.proofs.Math.Seq.{drop-cons}
use Rattle.std.proofs.lemmas.List.Folds.{list_any-append}
use Rattle.kc_dialogue.specs.Replies.{IsPrefixOf, StaysFrom}
use Rattle.kc_base_tests.specs.Echoes.{has_stop, is_stop, said, said_at_end}

-- one byte more, behind which there may be a full stop
stopped-step : (here later : Bool) (x : ℕ) (xs ys : List ℕ) → (here || later) ≡ true → (later ≡ true → xs ≡ ys) → cond here [] (x ∷ xs) ≡ cond here [] (x ∷ ys)
stopped-step true later x xs ys h same = refl
stopped-step false later x xs ys h same = ap (λ (t : List ℕ). x ∷ t) (same h)

-- one byte more where there is no full stop
going-step : (here later : Bool) (x : ℕ) (xs ys : List ℕ) → (here || later) ≡ false → (later ≡ false → xs ≡ ys) → cond here [] (x ∷ xs) ≡ x ∷ ys
going-step true later x xs ys h same = absurd (cc)
going-step false later x xs ys h same = ap (λ (t : List ℕ). x ∷ t) (same h)

-- behind a full stop nothing is echoed
pub said-stopped : (xs ys : List ℕ) → has_stop xs ≡ true → said (xs ++ ys) ≡ said xs
said-stopped [] ys h = absurd (cc)
said-stopped (x ∷ xs) ys h = stopped-step (is_stop x) (has_stop xs) x (said (xs ++ ys)) (said xs) h (λ later. said-stopped xs ys later)

-- where there is no full stop all is echoed, and then what follows
pub said-going : (xs ys : List ℕ) → has_stop xs ≡ false → said (xs ++ ys) ≡ xs ++ said ys
said-going [] ys h = refl
said-going (x ∷ xs) ys h = going-step (is_stop x) (has_stop xs) x (said (xs ++ ys)) (xs ++ said ys) h (λ later. said-going xs ys later)

-- where there is no full stop all is echoed
pub said-all : (xs : List ℕ) → has_stop xs ≡ false → said xs ≡ xs
said-all xs h = ap said (sym (append-nil xs)) ∙ said-going xs [] h ∙ append-nil xs

-- what follows is echoed behind what was echoed
pub said-more : (xs ys : List ℕ) → has_stop xs ≡ false → said (xs ++ ys) ≡ said xs ++ said ys
said-more xs ys h = said-going xs ys h ∙ ap (λ (t : List ℕ). t ++ said ys) (sym (said-all xs h))

-- a full stop in the first of two parts is one in both
pub has_stop-first : (xs ys : List ℕ) → has_stop xs ≡ true → has_stop (xs ++ ys) ≡ true
has_stop-first xs ys h = list_any-append is_stop xs ys ∙ ap (λ (b : Bool). b || has_stop ys) h

-- where the first part has none, the second tells
pub has_stop-second : (xs ys : List ℕ) → has_stop xs ≡ false → has_stop (xs ++ ys) ≡ has_stop ys
has_stop-second xs ys h = list_any-append is_stop xs ys ∙ ap (λ (b : Bool). b || has_stop ys) h

-- at the end there is no question mark behind a full stop
pub said_at_end-stopped : (xs : List ℕ) → has_stop xs ≡ true → said_at_end xs ≡ said xs
said_at_end-stopped xs h = ap (λ (b : Bool). cond b (said xs) (said xs ++ 63 ∷ [])) h

-- and there is one where there was none
pub said_at_end-going : (xs : List ℕ) → has_stop xs ≡ false → said_at_end xs ≡ said xs ++ 63 ∷ []
said_at_end-going xs h = ap (λ (b : Bool). cond b (said xs) (said xs ++ 63 ∷ [])) h

-- whatever follows a full stop, the reply stays
pub StaysFrom-stopped : (xs : List ℕ) → has_stop xs ≡ true → StaysFrom said said_at_end xs
StaysFrom-stopped xs h more =
    let same : said (xs ++ more) ≡ said xs = said-stopped xs more h in (same, said_at_end-stopped (xs ++ more) (has_stop-first xs more h) ∙ same)

-- the bytes before the first full stop are echoed
pub said-at : (xs : List ℕ) (i : ℕ) → i < length xs → has_stop (take i xs) ≡ false → get_or xs i 0 ≡ 46 → take i xs ≡ said xs
said-at xs i inside none here =
    let rest : said (drop i xs) ≡ [] = ap said (drop-cons xs i 0 inside) ∙ ap (λ (b : ℕ). said (b ∷ drop (suc i) xs)) here in
    sym
    (ap said (sym (take-append-drop i xs)) ∙ said-going (take i xs) (drop i xs) none ∙ ap (λ (t : List ℕ). take i xs ++ t) rest
    ∙ append-nil (take i xs))

-- where none of the bytes is a full stop, all are echoed
pub said-whole : (xs : List ℕ) (i : ℕ) → length xs ≤ i → has_stop (take i xs) ≡ false → take (length xs) xs ≡ said xs
said-whole xs i past none =
    let no : has_stop xs ≡ false = subst (λ (t : List ℕ). has_stop t ≡ false) (take_all i xs past) none in
    take_all (length xs) xs (omega arith) ∙ sym (said-all xs no)

-- where nothing of a reply was put, what was written before begins it
pub begun-more : (xs ys : List ℕ) → has_stop xs ≡ false → IsPrefixOf (said (xs ++ ys)) (said xs ++ [])
begun-more xs ys h = (said ys, said-more xs ys h ∙ ap (λ (t : List ℕ). t ++ said ys) (sym (append-nil (said xs))))

-- the same of the question mark
pub begun-at_end : (xs : List ℕ) → has_stop xs ≡ false → IsPrefixOf (said_at_end xs) (said xs ++ [])
begun-at_end xs h = (63 ∷ [], said_at_end-going xs h ∙ ap (λ (t : List ℕ). t ++ 63 ∷ []) (sym (append-nil (said xs))))
