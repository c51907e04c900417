-- What a note packs, read again.
use Rattle.std.proofs.Common.{◌≡◌, ℕ, ◌+◌, ◌-◌, ◌*◌, ◌/◌, ◌%◌, ◌^◌, ◌<◌, ◌∙◌, Bool, true, false, cond, eqb, ap, arith, bit_or, bit_and, refl, sym, subst}
use Rattle.std.proofs.Common.{inl, inr}
use Rattle.std.proofs.lemmas.Bool.{cases_Bool, eqb-true, eqb-false, eq-eqb, ne_eqb}
use Rattle.std.proofs.lemmas.Nat.{shl_whole, or_shifted, and_mask}
use Rattle.kc_words.specs.declared.layout.TheConstants.{INDEX_BITS, VERTEX_BITS, ITEM_BITS, KIND_SHIFT, ADD_SHIFT}
use Rattle.kc_words.specs.declared.note.TheConstants.{VERTEX_MASK, ITEM_MASK}
use Rattle.kc_words.specs.declared.note.NoteWord.{NoteWord}
use Rattle.kc_words.specs.declared.note.NoteWord.TheVariants.{Nothing, Enter, Put, Take}
use Rattle.kc_words.specs.NoteWord.{note_word, note_of, index_of, spare_of, IsFitting}
use Rattle.kc_words.proofs.Packing.{shifted_pair}

-- a word of kind 0 is read as nothing
pub note_of-nothing : (n : ℕ) → n / 2 ^ KIND_SHIFT ≡ 0 → note_of n ≡ Nothing
unfolding note_of
note_of-nothing n e = rw e

-- a word of kind 1 is read as an update that is entered
pub note_of-enter : (n : ℕ) → n / 2 ^ KIND_SHIFT ≡ 1
    → note_of n ≡ Enter (eqb (n / 2 ^ ADD_SHIFT % 2) 1) (n / 2 ^ VERTEX_BITS % 2 ^ VERTEX_BITS) (n % 2 ^ VERTEX_BITS)
unfolding note_of
note_of-enter n e = rw e

-- a word of kind 2 is read as a put
pub note_of-put : (n : ℕ) → n / 2 ^ KIND_SHIFT ≡ 2 → note_of n ≡ Put (n / 2 ^ ITEM_BITS % 2 ^ ITEM_BITS) (n % 2 ^ ITEM_BITS)
unfolding note_of
note_of-put n e = rw e

-- a word of kind 3 is read as a take
pub note_of-take : (n : ℕ) → n / 2 ^ KIND_SHIFT ≡ 3 → note_of n ≡ Take (n % 2 ^ ITEM_BITS)
unfolding note_of
note_of-take n e = rw e

-- the program's masks read an entered update as `note_of` does
pub enter_masked : (n : ℕ) → n / 2 ^ KIND_SHIFT ≡ 1
    → Enter (eqb (bit_and (n / 2 ^ ADD_SHIFT) 1) 1) (bit_and (n / 2 ^ VERTEX_BITS) VERTEX_MASK) (bit_and n VERTEX_MASK) ≡ note_of n
enter_masked n e = rw (and_mask (n / 2 ^ ADD_SHIFT) 1, and_mask (n / 2 ^ VERTEX_BITS) VERTEX_BITS, and_mask n VERTEX_BITS) (sym (note_of-enter n e))

-- the program's masks read a put as `note_of` does
pub put_masked : (n : ℕ) → n / 2 ^ KIND_SHIFT ≡ 2 → Put (bit_and (n / 2 ^ ITEM_BITS) ITEM_MASK) (bit_and n ITEM_MASK) ≡ note_of n
put_masked n e = rw (and_mask (n / 2 ^ ITEM_BITS) ITEM_BITS, and_mask n ITEM_BITS) (sym (note_of-put n e))

-- the program's mask reads a take as `note_of` does
pub take_masked : (n : ℕ) → n / 2 ^ KIND_SHIFT ≡ 3 → Take (bit_and n ITEM_MASK) ≡ note_of n
take_masked n e = rw (and_mask n ITEM_BITS) (sym (note_of-take n e))

-- a bit that adds 2 ^ ADD_SHIFT where it is 1 and nothing where it is 0 is its product with 2 ^ ADD_SHIFT
bit_part : (b : ℕ) → b < 2 → cond (eqb b 1) (2 ^ ADD_SHIFT) 0 ≡ b * 2 ^ ADD_SHIFT
bit_part b l = elim (cases_Bool (eqb b 1)) [
  | inl t ↦ rw t (let e : b ≡ 1 = eqb-true b 1 t in omega arith)
  | inr f ↦ rw f (let e = eqb-false b 1 f in let z : b ≡ 0 = omega arith in omega arith)
]

-- a word of kind 0 packs again to itself exactly where no spare bit is set
pub nothing_back : (n : ℕ) → n / 2 ^ KIND_SHIFT ≡ 0 → (note_word (note_of n) ≡ n → spare_of n ≡ 0) × (spare_of n ≡ 0 → note_word (note_of n) ≡ n)
unfolding note_of note_word spare_of
nothing_back n e = rw e (λ w. omega arith, λ w. omega arith)

-- a word of kind 1 packs again to itself exactly where no spare bit is set
pub enter_back : (n : ℕ) → n / 2 ^ KIND_SHIFT ≡ 1 → (note_word (note_of n) ≡ n → spare_of n ≡ 0) × (spare_of n ≡ 0 → note_word (note_of n) ≡ n)
unfolding note_of note_word spare_of
enter_back n e =
    let b : cond (eqb (n / 2 ^ ADD_SHIFT % 2) 1) (2 ^ ADD_SHIFT) 0 ≡ (n / 2 ^ ADD_SHIFT % 2) * 2 ^ ADD_SHIFT = bit_part (n / 2 ^ ADD_SHIFT % 2) (omega arith) in
    rw (e, b) (λ w. omega arith, λ w. omega arith)

-- a word of kind 2 packs again to itself exactly where no spare bit is set
pub put_back : (n : ℕ) → n / 2 ^ KIND_SHIFT ≡ 2 → (note_word (note_of n) ≡ n → spare_of n ≡ 0) × (spare_of n ≡ 0 → note_word (note_of n) ≡ n)
unfolding note_of note_word spare_of
put_back n e = rw e (λ w. omega arith, λ w. omega arith)

-- a word of kind 3 packs again to itself exactly where no spare bit is set
pub take_back : (n : ℕ) → n / 2 ^ KIND_SHIFT ≡ 3 → (note_word (note_of n) ≡ n → spare_of n ≡ 0) × (spare_of n ≡ 0 → note_word (note_of n) ≡ n)
unfolding note_of note_word spare_of
take_back n e = rw e (λ w. omega arith, λ w. omega arith)

-- shifts and `|` of an entered update's fields are a sum of products where the fields fit
pub shifted_enter : (k u v : ℕ) → k < 2 ^ 3 → u < 2 ^ VERTEX_BITS → v < 2 ^ VERTEX_BITS
    → bit_or (bit_or (k * 2 ^ ADD_SHIFT % 2 ^ 64) (u * 2 ^ VERTEX_BITS % 2 ^ 64)) v ≡ k * 2 ^ ADD_SHIFT + u * 2 ^ VERTEX_BITS + v
shifted_enter k u v p q r =
    let u-is : u * 2 ^ VERTEX_BITS % 2 ^ 64 ≡ u * 2 ^ VERTEX_BITS = shl_whole u VERTEX_BITS VERTEX_BITS 64 q (omega arith) in
    let u-low : u * 2 ^ VERTEX_BITS < 2 ^ ADD_SHIFT = omega (arith, q) in
    let one : bit_or (k * 2 ^ ADD_SHIFT % 2 ^ 64) (u * 2 ^ VERTEX_BITS) ≡ k * 2 ^ ADD_SHIFT + u * 2 ^ VERTEX_BITS =
    shifted_pair k 3 (u * 2 ^ VERTEX_BITS) ADD_SHIFT p refl u-low in
    let joined : k * 2 ^ ADD_SHIFT + u * 2 ^ VERTEX_BITS ≡ (k * 2 ^ (ADD_SHIFT - VERTEX_BITS) + u) * 2 ^ VERTEX_BITS = omega arith in
    let two : bit_or ((k * 2 ^ (ADD_SHIFT - VERTEX_BITS) + u) * 2 ^ VERTEX_BITS) v ≡ (k * 2 ^ (ADD_SHIFT - VERTEX_BITS) + u) * 2 ^ VERTEX_BITS + v =
    or_shifted (k * 2 ^ (ADD_SHIFT - VERTEX_BITS) + u) VERTEX_BITS v r in
    rw (u-is, one, joined, two) (omega arith)

-- shifts and `|` of a put's fields are a sum of products where the fields fit
pub shifted_put : (x p : ℕ) → x < 2 ^ ITEM_BITS → p < 2 ^ ITEM_BITS
    → bit_or (bit_or (2 * 2 ^ KIND_SHIFT) (x * 2 ^ ITEM_BITS % 2 ^ 64)) p ≡ 2 * 2 ^ KIND_SHIFT + x * 2 ^ ITEM_BITS + p
shifted_put x p q r =
    let x-is : x * 2 ^ ITEM_BITS % 2 ^ 64 ≡ x * 2 ^ ITEM_BITS = shl_whole x ITEM_BITS ITEM_BITS 64 q (omega arith) in
    let below : x * 2 ^ ITEM_BITS < 2 ^ KIND_SHIFT = omega arith in
    let one : bit_or (2 * 2 ^ KIND_SHIFT) (x * 2 ^ ITEM_BITS) ≡ 2 * 2 ^ KIND_SHIFT + x * 2 ^ ITEM_BITS = or_shifted 2 KIND_SHIFT (x * 2 ^ ITEM_BITS) below in
    let one' : 2 * 2 ^ KIND_SHIFT + x * 2 ^ ITEM_BITS ≡ (2 * 2 ^ (KIND_SHIFT - ITEM_BITS) + x) * 2 ^ ITEM_BITS = omega arith in
    ap (λ z. bit_or (bit_or (2 * 2 ^ KIND_SHIFT) z) p) x-is
    ∙ (ap (λ z. bit_or z p) (one ∙ one') ∙ (or_shifted (2 * 2 ^ (KIND_SHIFT - ITEM_BITS) + x) ITEM_BITS p r ∙ omega arith))

-- the kind of a take and its item joined by `|` are their sum where the item fits
pub shifted_take : (x : ℕ) → x < 2 ^ ITEM_BITS → bit_or (3 * 2 ^ KIND_SHIFT) x ≡ 3 * 2 ^ KIND_SHIFT + x
shifted_take x q = or_shifted 3 KIND_SHIFT x (omega arith)

-- a function of three has equal values at equal arguments
ap-three : {A : Type 0} → (f : Bool → ℕ → ℕ → A) → (a b : Bool) (u v w x : ℕ) → a ≡ b → u ≡ v → w ≡ x → f a u w ≡ f b v x
ap-three f a b u v w x p q r = rw (p, q, r)

-- a note that fits is read again from what it packs to
pub note_of-note_word : (w : NoteWord) → IsFitting w → note_of (note_word w) ≡ w
unfolding note_word
note_of-note_word Nothing f = note_of-nothing 0 refl
note_of-note_word (Enter true u v) f =
    let n = 2 ^ KIND_SHIFT + 2 ^ ADD_SHIFT + u * 2 ^ VERTEX_BITS + v in
    note_of-enter n (omega arith)
    ∙ ap-three Enter (eqb (n / 2 ^ ADD_SHIFT % 2) 1) true (n / 2 ^ VERTEX_BITS % 2 ^ VERTEX_BITS) u (n % 2 ^ VERTEX_BITS) v
    (eq-eqb (n / 2 ^ ADD_SHIFT % 2) 1 (omega arith)) (omega arith) (omega arith)
note_of-note_word (Enter false u v) f =
    let n = 2 ^ KIND_SHIFT + 0 + u * 2 ^ VERTEX_BITS + v in
    note_of-enter n (omega arith)
    ∙ ap-three Enter (eqb (n / 2 ^ ADD_SHIFT % 2) 1) false (n / 2 ^ VERTEX_BITS % 2 ^ VERTEX_BITS) u (n % 2 ^ VERTEX_BITS) v
    (ne_eqb (n / 2 ^ ADD_SHIFT % 2) 1 (λ e. omega arith)) (omega arith) (omega arith)
note_of-note_word (Put x p) f =
    let n = 2 * 2 ^ KIND_SHIFT + x * 2 ^ ITEM_BITS + p in
    let x-is : n / 2 ^ ITEM_BITS % 2 ^ ITEM_BITS ≡ x = omega arith in
    let p-is : n % 2 ^ ITEM_BITS ≡ p = omega arith in
    note_of-put n (omega arith) ∙ (ap (λ z. Put z (n % 2 ^ ITEM_BITS)) x-is ∙ ap (λ z. Put x z) p-is)
note_of-note_word (Take x) f =
    let n = 3 * 2 ^ KIND_SHIFT + x in
    note_of-take n (omega arith) ∙ ap Take (omega arith)

-- a number that is the word of a note, and is read as that note
pub record Packed (w : NoteWord) (n : ℕ) : Type 0 where
  pub word : n ≡ note_word w
  pub back : note_of n ≡ w

-- the word of a note that fits is read as that note
note-packed : (w : NoteWord) (n : ℕ) → IsFitting w → n ≡ note_word w → Packed w n
note-packed w n f e = record { word = e; back = ap note_of e ∙ note_of-note_word w f }

-- the fields of an entered update, added up with its kind and bit as one, are its word
enter_word : (k : ℕ) (add : Bool) (u v : ℕ) → k ≡ cond add 3 2 → k * 2 ^ ADD_SHIFT + u * 2 ^ VERTEX_BITS + v ≡ note_word (Enter add u v)
unfolding note_word
enter_word k true u v e = omega arith
enter_word k false u v e = omega arith

-- the kind of an entered update and its bit, as one, fit three bits
kind_small : (k : ℕ) (add : Bool) → k ≡ cond add 3 2 → k < 2 ^ 3
kind_small k true e = omega arith
kind_small k false e = omega arith

-- what the program packs of an entered update is its word, and is read as it
pub enter_packed : (w : NoteWord) (k : ℕ) (add : Bool) (u v : ℕ) → IsFitting w → w ≡ Enter add u v → k ≡ cond add 3 2
    → Packed w (bit_or (bit_or (k * 2 ^ ADD_SHIFT % 2 ^ 64) (u * 2 ^ VERTEX_BITS % 2 ^ 64)) v)
enter_packed w k add u v f e kind =
    let f' : IsFitting (Enter add u v) = subst IsFitting e f in
    note-packed w _ f (shifted_enter k u v (kind_small k add kind) f'.0 f'.1 ∙ (enter_word k add u v kind ∙ ap note_word (sym e)))

-- what the program packs of a put is its word, and is read as it
pub put_packed : (w : NoteWord) (x p : ℕ) → IsFitting w → w ≡ Put x p → Packed w (bit_or (bit_or (2 * 2 ^ KIND_SHIFT) (x * 2 ^ ITEM_BITS % 2 ^ 64)) p)
unfolding note_word
put_packed w x p f e =
    let f' : IsFitting (Put x p) = subst IsFitting e f in
    note-packed w _ f (shifted_put x p f'.0 f'.1 ∙ ap note_word (sym e))

-- what the program packs of a take is its word, and is read as it
pub take_packed : (w : NoteWord) (x : ℕ) → IsFitting w → w ≡ Take x → Packed w (bit_or (3 * 2 ^ KIND_SHIFT) x)
unfolding note_word
take_packed w x f e =
    let f' : IsFitting (Take x) = subst IsFitting e f in
    note-packed w _ f (shifted_take x f' ∙ ap note_word (sym e))

-- 0 is the word of nothing, and is read as nothing
pub nothing_packed : (w : NoteWord) → IsFitting w → w ≡ Nothing → Packed w 0
unfolding note_word
nothing_packed w f e = note-packed w 0 f (ap note_word (sym e))

-- an index as a word is of kind 0, and is read again from it
pub index_noted : (index : ℕ) → index < 2 ^ INDEX_BITS → (note_of index ≡ Nothing) × (index_of index ≡ index)
index_noted index l = (note_of-nothing index (omega (arith, l)), omega (arith, l))
