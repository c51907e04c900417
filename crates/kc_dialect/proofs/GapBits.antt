-- The bits of gaps, and the digits before the first gap.
use Rattle.std.proofs.Common.{◌≡◌, ◌≤◌, ◌<◌, ◌+◌, ◌-◌, ◌*◌, ◌/◌, ◌%◌, ◌^◌, ◌&&◌, ◌++◌, ℕ, suc, zero, min, Bool, true, false, not, cond}
use Rattle.std.proofs.Common.{List, [], ◌∷◌, length, map, take, drop}
use Rattle.std.proofs.Common.{get_or, refl, sym, ap, ◌∙◌, arith, inl, inr, Fits, w8, length-take, length-drop, take-append-drop}
use Rattle.std.specs.Int.{bit_at, trailing_zeros, w64}
use Rattle.std.specs.Int.Count.{trailing_of_zero}
use Rattle.std.specs.List.{list_all}
use Rattle.std.proofs.lemmas.Bool.{agree_below, agree_below_at, cases_eq}
use Rattle.std.proofs.lemmas.List.{drop-drop, drop-take, drop_more, length-map, take-take}
use Rattle.std.proofs.lemmas.Nat.{shr-shr}
use Rattle.std.proofs.lemmas.Nat.Bits.{bit_at-suc, bit_at-trailing_zeros, bit_at-zero, bit_at_lowest}
use Rattle.std.proofs.lemmas.Simd.{chunk-fits, map-map, mask_l-mod}
use lib.Lanes.{Each1, mask_l, top}
use Rattle.kc_text.specs.Forms.{is_digit}
use Rattle.kc_dialect.specs.declared.dialect.Separator.{Separator}
use Rattle.kc_dialect.specs.Columns.{is_separator}
use Rattle.kc_dialect.specs.Gaps.{AreGaps, EndsAtGap, gap_bits, is_gap}
use Rattle.kc_dialect.specs.PlainRuns.{BeginsPlainly}

-- a mask of lanes that stop just at gaps
mask-gaps : (stops : ℕ → Bool) → agree_below stops is_gap 256 ≡ true → (v : List ℕ) → Each1 (Fits w8) v → mask_l (map stops v) ≡ gap_bits v
mask-gaps stops agree [] fits = refl
mask-gaps stops agree (b ∷ v) fits =
    ap (λ (t : Bool). cond t 1 0 + 2 * mask_l (map stops v)) (agree_below_at stops is_gap 256 b agree fits.0.fits)
    ∙ ap (λ k. cond (is_gap b) 1 0 + 2 * k) (mask-gaps stops agree v fits.1)

-- the mask of the lanes of a block tells its gaps
pub block-gaps : (bytes lanes : List ℕ) (f : ℕ → ℕ) → 64 ≤ length bytes → ((k : ℕ) → Fits w8 (get_or bytes k 0)) → lanes ≡ map f (take 64 bytes)
    → agree_below (λ b. top 7 (f b)) is_gap 256 ≡ true → AreGaps bytes (mask_l (map (top 7) lanes) % 2 ^ 64)
block-gaps bytes lanes f long fits are agree =
    let v : List ℕ = take 64 bytes in
    record {
      n = 64;
      few = omega arith;
      are = ap (λ (t : List ℕ). mask_l (map (top 7) t) % 2 ^ 64) are ∙ ap (λ (t : List Bool). mask_l t % 2 ^ 64) (map-map (top 7) f v)
          ∙ mask_l-mod (map (λ b. top 7 (f b)) v) 64 (omega (arith, length-map v (λ b. top 7 (f b)), length-take 64 bytes))
          ∙ mask-gaps (λ b. top 7 (f b)) agree v (chunk-fits w8 0 64 bytes fits);
    }

-- the lowest bit and the others
low-bit : (c : Bool) (k : ℕ) → (cond c 1 0 + 2 * k) % 2 ≡ cond c 1 0
low-bit true k = omega arith
low-bit false k = omega arith

high-bits : (c : Bool) (k : ℕ) → (cond c 1 0 + 2 * k) / 2 ≡ k
high-bits true k = omega arith
high-bits false k = omega arith

-- what is no gap is a digit
no-gap : (d : Bool) (k : ℕ) → k ≡ cond (not d) 1 0 → k ≡ 0 → d ≡ true
no-gap true k e none = refl
no-gap false k e none = absurd (omega (arith, e, none))

-- the first gap among bytes, with the digits before it and the bits behind it
record FirstGap (bytes : List ℕ) (n : ℕ) : Type 0 where
  each : list_all is_digit (take n bytes) ≡ true
  within : n < length bytes
  behind : gap_bits bytes / 2 ^ (n + 1) ≡ gap_bits (drop (n + 1) bytes)

-- the lowest bit that is set stands for the first gap
first-gap : (bytes : List ℕ) (n : ℕ) → bit_at (gap_bits bytes) n ≡ 1 → ((i : ℕ) → i < n → bit_at (gap_bits bytes) i ≡ 0) → FirstGap bytes n
first-gap [] n set none = absurd (omega (arith, set, bit_at-zero n))
first-gap (b ∷ bytes) zero set none = record {
  each = refl;
  within = omega arith;
  behind = high-bits (is_gap b) (gap_bits bytes);
}
first-gap (b ∷ bytes) (suc n) set none =
    let k : ℕ = gap_bits bytes in
    let all : ℕ = gap_bits (b ∷ bytes) in
    let half : all / 2 ≡ k = high-bits (is_gap b) k in
    let digit : is_digit b ≡ true = no-gap (is_digit b) (all % 2) (low-bit (is_gap b) k) (sym (bit_at_lowest all) ∙ none 0 (omega arith)) in
    let rest : FirstGap bytes n = first-gap bytes n (ap (λ t. bit_at t n) (sym half) ∙ sym (bit_at-suc all n) ∙ set)
    (λ i l. ap (λ t. bit_at t i) (sym half) ∙ sym (bit_at-suc all i) ∙ none (suc i) (omega arith)) in
    record {
      each = ap (λ (t : Bool). t && list_all is_digit (take n bytes)) digit ∙ rest.each;
      within = omega (arith, rest.within);
      behind = ap (λ t. all / 2 ^ t) (let e : suc n + 1 ≡ 1 + (n + 1) = omega arith in e) ∙ sym (shr-shr all 1 (n + 1))
          ∙ ap (λ t. t / 2 ^ (n + 1)) half ∙ rest.behind
          ∙ ap (λ k. gap_bits (drop k (b ∷ bytes))) (let e : suc (n + 1) ≡ suc n + 1 = omega arith in e);
    }

-- the digits before the lowest bit that is set, where they are few
pub ends-at-gap : (bytes : List ℕ) (gaps n : ℕ) → AreGaps bytes gaps → bit_at gaps n ≡ 1 → ((i : ℕ) → i < n → bit_at gaps i ≡ 0) → 0 < n → n ≤ 9
    → EndsAtGap bytes gaps n
ends-at-gap bytes gaps n h set none some few =
    let front : List ℕ = take h.n bytes in
    let gap : FirstGap front n = first-gap front n (ap (λ t. bit_at t n) (sym h.are) ∙ set) (λ i l. ap (λ t. bit_at t i) (sym h.are) ∙ none i l) in
    let len : length front ≡ min h.n (length bytes) = length-take h.n bytes in
    let left : ℕ = h.n - (n + 1) in
    let parts : (n + 1) + left ≡ h.n = omega (arith, gap.within, len) in
    record {
      digits = record {
        digits = take n bytes;
        whole = sym (take-append-drop n bytes);
        len = omega (arith, length-take n bytes, gap.within, len);
        are = record {
          some = omega (arith, length-take n bytes, gap.within, len);
          few = omega (arith, length-take n bytes);
          each = ap (list_all is_digit) (sym (take-take n h.n bytes (omega (arith, parts)))) ∙ gap.each;
        };
      };
      within = omega (arith, gap.within, len);
      behind = record {
        n = left;
        few = omega (arith, h.few);
        are = ap (λ t. t / 2 ^ (n + 1)) h.are ∙ gap.behind
            ∙ ap gap_bits (ap (λ k. drop (n + 1) (take k bytes)) (sym parts) ∙ drop-take (n + 1) left bytes);
      };
    }

-- the same where the place of that bit is counted
pub ends-before : (bytes : List ℕ) (gaps n : ℕ) → gaps < 2 ^ 64 → n ≡ trailing_zeros w64 gaps → 0 < n → n ≤ 9 → AreGaps bytes gaps → EndsAtGap bytes gaps n
ends-before bytes gaps n fits is some few h =
    let set : 0 < gaps = elim (cases_eq gaps 0) [
      | inl e ↦ absurd (omega (arith, is, ap (trailing_zeros w64) e, trailing_of_zero 64, few))
      | inr other ↦ omega (arith, other)
    ] in
    let lowest = bit_at-trailing_zeros w64 gaps set fits in
    ends-at-gap bytes gaps n h (ap (bit_at gaps) is ∙ lowest.1) (λ i l. lowest.2 i (omega (arith, is, l))) some few

-- two numbers that end at gaps, the first at a separator and the second at a newline, are a plain line
pub plain-by : (s : Separator) (bytes : List ℕ) (gaps n m : ℕ) → EndsAtGap bytes gaps n → EndsAtGap (drop (n + 1) bytes) (gaps / 2 ^ (n + 1)) m
    → is_separator s (get_or bytes n 0) ≡ true → get_or bytes (n + 1 + m) 0 ≡ 10 → BeginsPlainly s bytes (n + m + 2)
plain-by s bytes gaps n m first second parted ended =
    let behind : List ℕ = drop (n + 1) bytes in
    let last : ℕ = n + 1 + m in
    let rest : List ℕ = drop (last + 1) bytes in
    let within : last < length bytes = omega (arith, second.within, length-drop (n + 1) bytes) in
    let end : drop m behind ≡ 10 ∷ rest = drop-drop m (n + 1) bytes ∙ drop_more bytes last 0 within ∙ ap (λ b. b ∷ rest) ended in
    let line : behind ≡ second.digits.digits ++ 10 ∷ rest = second.digits.whole ∙ ap (λ (t : List ℕ). second.digits.digits ++ t) end in
    record {
      first = first.digits.digits;
      part = get_or bytes n 0;
      second = second.digits.digits;
      rest = rest;
      whole = first.digits.whole ∙ ap (λ (t : List ℕ). first.digits.digits ++ t)
          (drop_more bytes n 0 first.within ∙ ap (λ (t : List ℕ). get_or bytes n 0 ∷ t) line);
      parted = parted;
      are_first = first.digits.are;
      are_second = second.digits.are;
      len = omega (arith, first.digits.len, second.digits.len);
    }

-- the higher bits tell the gaps behind the line
pub gaps-behind : (bytes : List ℕ) (gaps n m : ℕ) → EndsAtGap (drop (n + 1) bytes) (gaps / 2 ^ (n + 1)) m
    → AreGaps (drop (n + m + 2) bytes) (gaps / 2 ^ (n + m + 2))
gaps-behind bytes gaps n m second =
    let whole : (n + 1) + (m + 1) ≡ n + m + 2 = omega arith in
    let h : AreGaps (drop (m + 1) (drop (n + 1) bytes)) (gaps / 2 ^ (n + 1) / 2 ^ (m + 1)) = second.behind in
    record {
      n = h.n;
      few = h.few;
      are = ap (λ k. gaps / 2 ^ k) (sym whole) ∙ sym (shr-shr gaps (n + 1) (m + 1)) ∙ h.are
          ∙ ap (λ (t : List ℕ). gap_bits (take h.n t)) (drop-drop (m + 1) (n + 1) bytes ∙ ap (λ k. drop k bytes) whole);
    }
