-- Parts of a text that are read or offered one after another.
use Rattle.std.proofs.Common.{◌≡◌, ◌<◌, ◌+◌, ◌-◌, ℕ, zero, suc, List, ◌++◌, length, take, drop, refl, sym, ap, ◌∙◌, arith, Option, None, Some, subst}
use Rattle.std.proofs.Common.{rules, take_all, take-append-drop}
use Rattle.std.proofs.Math.Seq.{take-append_seam}
use Rattle.std.proofs.lemmas.List.{drop-drop}
use Rattle.kc_io.specs.FirstPiece.{KeepsFirst}
use Rattle.kc_io.specs.Offers.{Offers, IsOffered, after_offer}

-- the length of the first piece stays, once there was one
first_length-stays : (n : ℕ) (after : Option ℕ) (piece : List ℕ) → 0 < n → KeepsFirst (Some n) after piece → after ≡ Some n
first_length-stays zero after piece some h = absurd (omega arith)
first_length-stays (suc n) after piece some h = h

-- a piece after the first one
KeepsFirst-more : (a b c : Option ℕ) (text piece : List ℕ) → 0 < length text → KeepsFirst a b text → KeepsFirst b c piece → KeepsFirst a c text
KeepsFirst-more None b c text piece some h k = tt
KeepsFirst-more (Some zero) b c text piece some h k = first_length-stays (length text) c piece some (subst (λ (t : Option ℕ). KeepsFirst t c piece) h k)
KeepsFirst-more (Some (suc n)) b c text piece some h k = first_length-stays (suc n) c piece (omega arith) (subst (λ (t : Option ℕ). KeepsFirst t c piece) h k)

-- what is offered after `done` bytes of a text is all that is left of it
pub KeepsFirst-rest : (a b c : Option ℕ) (text : List ℕ) (done : ℕ) → 0 < length text → (done ≡ 0 → b ≡ a) → (0 < done → KeepsFirst a b text)
    → KeepsFirst b c (take (length text - done) (drop done text)) → KeepsFirst a c text
KeepsFirst-rest a b c text zero some none first h =
    let all : take (length text - 0) text ≡ text = take_all (length text - 0) text (omega arith) in
    subst (λ (t : List ℕ). KeepsFirst a c t) all (subst (λ (t : Option ℕ). KeepsFirst t c (take (length text - 0) text)) (none refl) h)
KeepsFirst-rest a b c text (suc done) some none first h =
    KeepsFirst-more a b c text (take (length text - suc done) (drop (suc done) text)) some (first (omega arith)) h

-- the bytes that are left after n more of them were copied out
pub left-taken : (xs front rest : List ℕ) (done n : ℕ) → front ≡ take n (drop done xs) → length front ≡ n
    → drop done xs ≡ take n (front ++ rest) ++ drop (done + n) xs
left-taken xs front rest done n copied full =
    let seam : take n (front ++ rest) ≡ front = ap (λ (k : ℕ). take k (front ++ rest)) (sym full) ∙ take-append_seam front rest in
    sym
    (ap (λ (t : List ℕ). t ++ drop (done + n) xs) (seam ∙ copied)
    ∙ ap (λ (t : List ℕ). take n (drop done xs) ++ t) (sym (drop-drop n done xs)) ∙ take-append-drop n (drop done xs))

-- what is offered after some bytes of a text were taken goes on with it
pub after_offer-more : (offers : Offers) (size done n : ℕ) → after_offer (after_offer offers size done) (size - done) n ≡ after_offer offers size (done + n)
after_offer-more offers size done n = search (rules)

-- what is offered after some bytes goes on with it, where the sink tells its pieces, also in the first turn
pub IsOffered-rest : (a b c : Option Offers) (size done n : ℕ) → (done ≡ 0 → b ≡ a) → (0 < done → IsOffered a b size done)
    → IsOffered b c (size - done) n → IsOffered a c size (done + n)
IsOffered-rest None b c size done n none some h = tt
IsOffered-rest (Some offers) b c size zero n none some h =
    let whole : size - 0 ≡ size = omega arith in
    let begun : n ≡ 0 + n = omega arith in
    subst (IsOffered (Some offers) c size) begun
    (subst (λ (t : Option Offers). IsOffered t c size n) (none refl) (subst (λ (k : ℕ). IsOffered b c k n) whole h))
IsOffered-rest (Some offers) b c size (suc done) n none some h =
    let next : IsOffered (Some (after_offer offers size (suc done))) c (size - suc done) n =
    subst (λ (t : Option Offers). IsOffered t c (size - suc done) n) (some (omega arith)) h in
    next ∙ ap Some (after_offer-more offers size (suc done) n)
