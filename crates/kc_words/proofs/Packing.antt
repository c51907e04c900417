-- What the words pack, read again.
use Rattle.std.proofs.Common.{◌≡◌, ℕ, ◌+◌, ◌*◌, ◌/◌, ◌%◌, ◌^◌, ◌<◌, ◌∙◌, ap, arith, bit_or, bit_and, refl}
use Rattle.std.proofs.lemmas.Nat.{shl_whole, or_shifted, shl_below, shr_high, mod_low, shr_split, and_mask}
use Rattle.kc_words.specs.declared.layout.TheConstants.{VERSION_BITS, GROUP_BITS, BOTTOM_BITS, TOP_BITS, STAMP_BITS, CORE_BITS}
use Rattle.kc_words.specs.declared.item.TheConstants.{VERSION_SHIFT, GROUP_MASK, BOTTOM_MASK}
use Rattle.kc_words.specs.declared.group.TheConstants.{TOP_MASK}
use Rattle.kc_words.specs.declared.vertex.TheConstants.{CORE_MASK}
use Rattle.kc_words.specs.declared.item.ItemWord.{ItemWord}
use Rattle.kc_words.specs.declared.group.GroupWord.{GroupWord}
use Rattle.kc_words.specs.ItemWord as item
use Rattle.kc_words.specs.ItemWord.{item_word, item_of}
use Rattle.kc_words.specs.GroupWord as group
use Rattle.kc_words.specs.GroupWord.{group_word, group_of}
use Rattle.kc_words.specs.VertexWord.{vertex_word, vertex_of}

-- a shift and `|` of two fields are a sum of products where the fields fit
pub shifted_pair : (a j b k : ℕ) → a < 2 ^ j → j + k ≡ 64 → b < 2 ^ k → bit_or (a * 2 ^ k % 2 ^ 64) b ≡ a * 2 ^ k + b
shifted_pair a j b k p e q = ap (λ n. bit_or n b) (shl_whole a j k 64 p (omega arith)) ∙ or_shifted a k b q

-- shifts and `|` of the three fields of an item's word are a sum of products where they fit
pub shifted_three : (v g b : ℕ) → v < 2 ^ VERSION_BITS → g < 2 ^ GROUP_BITS → b < 2 ^ BOTTOM_BITS
    → bit_or (bit_or (v * 2 ^ VERSION_SHIFT % 2 ^ 64) (g * 2 ^ BOTTOM_BITS % 2 ^ 64)) b
    ≡ v * 2 ^ VERSION_SHIFT + g * 2 ^ BOTTOM_BITS + b
shifted_three v g b p q r =
    let low : g * 2 ^ BOTTOM_BITS % 2 ^ 64 ≡ g * 2 ^ BOTTOM_BITS = shl_whole g GROUP_BITS BOTTOM_BITS 64 q (omega arith) in
    let high : bit_or (v * 2 ^ VERSION_SHIFT % 2 ^ 64) (g * 2 ^ BOTTOM_BITS) ≡ v * 2 ^ VERSION_SHIFT + g * 2 ^ BOTTOM_BITS =
    shifted_pair v VERSION_BITS (g * 2 ^ BOTTOM_BITS) VERSION_SHIFT p refl (shl_below g GROUP_BITS BOTTOM_BITS q) in
    let joined : v * 2 ^ VERSION_SHIFT + g * 2 ^ BOTTOM_BITS ≡ (v * 2 ^ GROUP_BITS + g) * 2 ^ BOTTOM_BITS = omega arith in
    ap (λ n. bit_or (bit_or (v * 2 ^ VERSION_SHIFT % 2 ^ 64) n) b) low
    ∙ (ap (λ n. bit_or n b) (high ∙ joined) ∙ (or_shifted (v * 2 ^ GROUP_BITS + g) BOTTOM_BITS b r ∙ omega arith))

-- the fields of an item that fit are read again from its word
pub item_of-item_word : (w : ItemWord) → item.IsFitting w → item_of (item_word w) ≡ w
unfolding item_of item_word
item_of-item_word w f =
    let joined : w.version * 2 ^ VERSION_SHIFT + w.group * 2 ^ BOTTOM_BITS + w.bottom
    ≡ (w.version * 2 ^ GROUP_BITS + w.group) * 2 ^ BOTTOM_BITS + w.bottom = omega arith in
    let joined' : w.version * 2 ^ VERSION_SHIFT + w.group * 2 ^ BOTTOM_BITS + w.bottom
    ≡ w.version * 2 ^ VERSION_SHIFT + (w.group * 2 ^ BOTTOM_BITS + w.bottom) = omega arith in
    let v : (w.version * 2 ^ VERSION_SHIFT + w.group * 2 ^ BOTTOM_BITS + w.bottom) / 2 ^ VERSION_SHIFT ≡ w.version =
    ap (λ n. n / 2 ^ VERSION_SHIFT) joined' ∙ shr_high w.version VERSION_SHIFT (w.group * 2 ^ BOTTOM_BITS + w.bottom) (omega (arith, f.1, f.2)) in
    let g : (w.version * 2 ^ VERSION_SHIFT + w.group * 2 ^ BOTTOM_BITS + w.bottom) / 2 ^ BOTTOM_BITS % 2 ^ GROUP_BITS ≡ w.group =
    ap (λ n. n / 2 ^ BOTTOM_BITS % 2 ^ GROUP_BITS) joined
    ∙ (ap (λ n. n % 2 ^ GROUP_BITS) (shr_high (w.version * 2 ^ GROUP_BITS + w.group) BOTTOM_BITS w.bottom f.2) ∙ mod_low w.version GROUP_BITS w.group f.1) in
    let b : (w.version * 2 ^ VERSION_SHIFT + w.group * 2 ^ BOTTOM_BITS + w.bottom) % 2 ^ BOTTOM_BITS ≡ w.bottom =
    ap (λ n. n % 2 ^ BOTTOM_BITS) joined ∙ mod_low (w.version * 2 ^ GROUP_BITS + w.group) BOTTOM_BITS w.bottom f.2 in
    simp (v, g, b)

-- what is read from an item's word packs to the same word
pub item_word-item_of : (n : ℕ) → item_word (item_of n) ≡ n
unfolding item_of item_word
item_word-item_of n = omega arith

-- what is read from an item's word of 64 bits fits
pub item_of-fits : (n : ℕ) → n < 2 ^ 64 → item.IsFitting (item_of n)
unfolding item_of
item_of-fits n h = (omega arith, omega arith, omega arith)

-- the program's masks read an item's word as `item_of` does
pub item_masked : (n : ℕ)
    → record { version = n / 2 ^ VERSION_SHIFT; group = bit_and (n / 2 ^ BOTTOM_BITS) GROUP_MASK; bottom = bit_and n BOTTOM_MASK } ≡ item_of n
unfolding item_of
item_masked n = rw (and_mask (n / 2 ^ BOTTOM_BITS) GROUP_BITS, and_mask n BOTTOM_BITS)

-- the fields of a group that fit are read again from its word
pub group_of-group_word : (w : GroupWord) → group.IsFitting w → group_of (group_word w) ≡ w
unfolding group_of group_word
group_of-group_word w f = simp (shr_high w.version TOP_BITS w.top f.1, mod_low w.version TOP_BITS w.top f.1)

-- what is read from a group's word packs to the same word
pub group_word-group_of : (n : ℕ) → group_word (group_of n) ≡ n
unfolding group_of group_word
group_word-group_of n = shr_split n TOP_BITS

-- what is read from a group's word of 64 bits fits
pub group_of-fits : (n : ℕ) → n < 2 ^ 64 → group.IsFitting (group_of n)
unfolding group_of
group_of-fits n h = (omega arith, omega arith)

-- the program's mask reads a group's word as `group_of` does
pub group_masked : (n : ℕ) → record { version = n / 2 ^ TOP_BITS; top = bit_and n TOP_MASK } ≡ group_of n
unfolding group_of
group_masked n = rw (and_mask n TOP_BITS)

-- what is read from a vertex's word packs to the same word
pub vertex_word-vertex_of : (n : ℕ) → vertex_word (vertex_of n) ≡ n
unfolding vertex_of vertex_word
vertex_word-vertex_of n = shr_split n CORE_BITS

-- the program's mask reads a vertex's word as `vertex_of` does
pub vertex_masked : (n : ℕ) → record { stamp = n / 2 ^ CORE_BITS; core = bit_and n CORE_MASK } ≡ vertex_of n
unfolding vertex_of
vertex_masked n = rw (and_mask n CORE_BITS)

-- a stamp and a core number side by side
pub record Joined (h l n : ℕ) : Type 0 where
  pub sum : n ≡ h * 2 ^ CORE_BITS + l
  pub high : n / 2 ^ CORE_BITS ≡ h
  pub low : n % 2 ^ CORE_BITS ≡ l

-- what the program joins of a stamp and a core number is both side by side
pub joined_facts : (h l : ℕ) → h < 2 ^ STAMP_BITS → l < 2 ^ CORE_BITS → Joined h l (bit_or (h * 2 ^ CORE_BITS % 2 ^ 64) l)
joined_facts h l p q =
    let sum : bit_or (h * 2 ^ CORE_BITS % 2 ^ 64) l ≡ h * 2 ^ CORE_BITS + l = shifted_pair h STAMP_BITS l CORE_BITS p refl q in
    record {
      sum = sum;
      high = ap (λ n. n / 2 ^ CORE_BITS) sum ∙ shr_high h CORE_BITS l q;
      low = ap (λ n. n % 2 ^ CORE_BITS) sum ∙ mod_low h CORE_BITS l q;
    }

-- the word 0 has version 0
pub none_version : (item_of 0).version ≡ 0
unfolding item_of
none_version = refl
