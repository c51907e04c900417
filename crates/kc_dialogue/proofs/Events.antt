-- What is read and written in events that follow one another.
use Rattle.std.proofs.Common.{◌≡◌, ◌≢◌, ◌+◌, ◌++◌, ◌∷◌, ◌⊎◌, ℕ, List, [], false, refl, sym, ap, ◌∙◌, inl, inr, append_assoc, append-nil, arith}
use Rattle.kc_wire.specs.Events.{WireEvent, Read, Wrote, read_in, written_in, wrote}
use Rattle.kc_dialogue.specs.Dialogues.{has_ended}
use Rattle.kc_dialogue.specs.Endings.{reads_in}

-- what was read in two stretches is what was read in the first, and then in the second
pub read_in-append : (xs ys : List WireEvent) → read_in (xs ++ ys) ≡ read_in xs ++ read_in ys
read_in-append [] ys = refl
read_in-append (Read bytes ∷ xs) ys = ap (λ (t : List ℕ). bytes ++ t) (read_in-append xs ys) ∙ sym (append_assoc bytes (read_in xs) (read_in ys))
read_in-append (Wrote bytes ∷ xs) ys = read_in-append xs ys

-- what was written in two stretches is what was written in the first, and then in the second
pub written_in-append : (xs ys : List WireEvent) → written_in (xs ++ ys) ≡ written_in xs ++ written_in ys
written_in-append [] ys = refl
written_in-append (Read bytes ∷ xs) ys = written_in-append xs ys
written_in-append (Wrote bytes ∷ xs) ys =
    ap (λ (t : List ℕ). bytes ++ t) (written_in-append xs ys) ∙ sym (append_assoc bytes (written_in xs) (written_in ys))

-- the input ends in the second of two stretches where it does not in the first
pub has_ended-append : (xs ys : List WireEvent) → has_ended xs ≡ false → has_ended (xs ++ ys) ≡ has_ended ys
has_ended-append [] ys h = refl
has_ended-append (Read [] ∷ xs) ys h = absurd (cc)
has_ended-append (Read (b ∷ bytes) ∷ xs) ys h = has_ended-append xs ys h
has_ended-append (Wrote bytes ∷ xs) ys h = has_ended-append xs ys h

-- the reads of two stretches are those of both
pub reads_in-append : (xs ys : List WireEvent) → reads_in (xs ++ ys) ≡ reads_in xs + reads_in ys
reads_in-append [] ys = omega arith
reads_in-append (Read bytes ∷ xs) ys = omega (arith, reads_in-append xs ys)
reads_in-append (Wrote bytes ∷ xs) ys = reads_in-append xs ys

-- nothing is read where a text is written
pub read_in-wrote : (text : List ℕ) → read_in (wrote text) ≡ []
read_in-wrote [] = refl
read_in-wrote (b ∷ text) = refl

-- what is written is the text
pub written_in-wrote : (text : List ℕ) → written_in (wrote text) ≡ text
written_in-wrote [] = refl
written_in-wrote (b ∷ text) = append-nil (b ∷ text)

-- the input does not end where a text is written
pub has_ended-wrote : (text : List ℕ) → has_ended (wrote text) ≡ false
has_ended-wrote [] = refl
has_ended-wrote (b ∷ text) = refl

-- no read is made where a text is written
pub reads_in-wrote : (text : List ℕ) → reads_in (wrote text) ≡ 0
reads_in-wrote [] = refl
reads_in-wrote (b ∷ text) = refl

-- an event of two stretches stands in the first, or in the second behind all of the first
pub at_seam : (xs ys before after : List WireEvent) (e : WireEvent) → xs ++ ys ≡ before ++ e ∷ after
    → ((rest : List WireEvent) × (xs ≡ before ++ e ∷ rest)) ⊎ ((front : List WireEvent) × (before ≡ xs ++ front) × (ys ≡ front ++ e ∷ after))
at_seam [] ys before after e h = inr (before, refl, h)
at_seam (x ∷ xs) ys [] after e h = inl (xs, cc)
at_seam (x ∷ xs) ys (b ∷ before) after e h =
    let first : x ≡ b = cc in
    let others : xs ++ ys ≡ before ++ e ∷ after = cc in
    elim (at_seam xs ys before after e others) [
      | inl (rest, is) ↦ inl (rest, cc)
      | inr (front, is, split) ↦ inr (front, cc, split)
    ]

-- no read stands where a text is written
pub no_read-wrote : (text : List ℕ) (front after : List WireEvent) (bytes : List ℕ) → wrote text ≢ front ++ Read bytes ∷ after
no_read-wrote [] [] after bytes h = cc
no_read-wrote [] (e ∷ front) after bytes h = cc
no_read-wrote (b ∷ text) [] after bytes h = cc
no_read-wrote (b ∷ text) (e ∷ []) after bytes h = cc
no_read-wrote (b ∷ text) (e ∷ f ∷ front) after bytes h = cc
