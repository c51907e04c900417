-- What a reader of a text was fed, one piece after another.
use Rattle.std.proofs.Common.{◌≡◌, ◌≤◌, ◌<◌, ◌+◌, ◌-◌, ◌^◌, ℕ, List, [], ◌∷◌, ◌++◌, length, cond, refl, sym, ap, subst, ◌∙◌, arith}
use Rattle.std.proofs.Common.{append_assoc, append-nil, length-append, le-ltb, lt-ltb, Option, Some, None, inl}
use Rattle.kc_text.specs.declared.kind.Kind.TheVariants.{TooLong}
use Rattle.kc_text.specs.declared.limits.Limits.{Limits}
use Rattle.kc_text.specs.declared.line.TextLine.{TextLine}
use Rattle.kc_text.specs.declared.reading.LineReader.{LineReader}
use Rattle.kc_text.specs.declared.text_reader.TextReader.{TextReader}
use Rattle.kc_text.specs.Feeding.{CanTake, KeepsUp, WasFed, WasFedWithin}
use Rattle.kc_text.specs.Forms.{all_said}
use Rattle.kc_text.specs.Lines.{EndsLine}
use Rattle.kc_text.specs.Meaning.{Refuses, meaning, nothing_told, reading}
use Rattle.kc_text.specs.Readings.{CanRead, Reads}
use Rattle.kc_text.specs.TellingLines.{edge_lines}
use Rattle.kc_text.proofs.PartLines.{few-edges}
use Rattle.kc_text.proofs.SaidAppend.{ends-append, ends-behind, said-append}

-- what a text within the limit means is what the reading of its lines tells
pub meaning-is : (limits : Limits) (bytes : List ℕ) → length bytes ≤ limits.bytes → meaning limits bytes ≡ reading limits 0 nothing_told (all_said bytes)
meaning-is limits bytes l = ap (λ b. cond b (Refuses 0 TooLong) (reading limits 0 nothing_told (all_said bytes))) (le-ltb limits.bytes (length bytes) l)

-- what a text means that is too long
pub meaning-too_long : (limits : Limits) (bytes : List ℕ) → limits.bytes < length bytes → meaning limits bytes ≡ Refuses 0 TooLong
meaning-too_long limits bytes l = ap (λ b. cond b (Refuses 0 TooLong) (reading limits 0 nothing_told (all_said bytes))) (lt-ltb limits.bytes (length bytes) l)

-- a reader keeps up with what it was fed where it says how many bytes more are allowed
pub keeps_up-fed : (reader : TextReader) (left : ℕ) (fed : List ℕ) → reader.left ≡ Some left → WasFed reader fed → KeepsUp reader left fed
keeps_up-fed reader left fed is h = subst (λ l. WasFedWithin reader l fed) is h

-- where none are allowed, too many were fed
pub fed-over : (reader : TextReader) (fed : List ℕ) → reader.left ≡ None → WasFed reader fed → reader.limits.bytes < length fed
fed-over reader fed is h = subst (λ l. WasFedWithin reader l fed) is h

-- what is too long stays so with more bytes
pub over-more : (old new : TextReader) (fed more : List ℕ) → new.left ≡ None → new.limits ≡ old.limits → old.limits.bytes < length (fed ++ more)
    → WasFed new (fed ++ more)
over-more old new fed more is same over = subst (λ l. WasFedWithin new l (fed ++ more)) (sym is)
    (subst (λ (limits : Limits). limits.bytes < length (fed ++ more)) (sym same) over)

-- a reader that was fed nothing
pub fed-nothing : (reader : TextReader) → reader.left ≡ Some reader.limits.bytes → reader.carry.items ≡ [] → Reads reader.limits reader.lines []
    → CanRead reader.lines → reader.lines.numbers.lines ≡ 0 → reader.limits.bytes < 2 ^ 64 → WasFed reader []
fed-nothing reader left carry reads can lines fits = subst (λ l. WasFedWithin reader l []) (sym left) (record {
  done = [];
  parts = sym carry;
  ended = inl refl;
  reads = reads;
  can = can;
  lines = omega arith;
  fits = fits;
  room = omega arith;
})

-- lines were read that end in bytes behind those that were kept
pub whole-read : (old new : TextReader) (left : ℕ) (fed whole : List ℕ) → EndsLine whole → 0 < length whole → KeepsUp old (left + length whole) fed
    → ((before : List TextLine) → Reads old.limits old.lines before → Reads old.limits new.lines (before ++ all_said (old.carry.items ++ whole)))
    → CanRead new.lines → new.carry.items ≡ [] → new.lines.numbers.lines ≤ old.lines.numbers.lines + length old.carry.items + length whole
    → new.limits ≡ old.limits → KeepsUp new left (fed ++ whole)
whole-read old new left fed whole ended some f reads can carry lines same =
    let more : List ℕ = old.carry.items ++ whole in
    let bytes : fed ++ whole ≡ f.done ++ more = ap (λ (t : List ℕ). t ++ whole) f.parts ∙ append_assoc f.done old.carry.items whole in
    record {
      done = f.done ++ more;
      parts = bytes ∙ sym (ap (λ (t : List ℕ). (f.done ++ more) ++ t) carry ∙ append-nil (f.done ++ more));
      ended = ends-append f.done more f.ended (ends-behind old.carry.items whole ended some);
      reads = subst (λ (limits : Limits). Reads limits new.lines (all_said (f.done ++ more))) (sym same)
          (subst (Reads old.limits new.lines) (sym (said-append f.done more f.ended)) (reads (all_said f.done) f.reads));
      can = can;
      lines = omega (arith, lines, f.lines, length-append f.done more, length-append old.carry.items whole);
      fits = subst (λ (limits : Limits). limits.bytes < 2 ^ 64) (sym same) f.fits;
      room = omega (arith, f.room, length-append fed whole, ap (λ (limits : Limits). limits.bytes) same);
    }

-- more bytes are kept behind the last line end
pub carry-more : (old new : TextReader) (left : ℕ) (fed rest : List ℕ) → new.carry.items ≡ old.carry.items ++ rest → new.lines ≡ old.lines
    → new.limits ≡ old.limits → KeepsUp old (left + length rest) fed → KeepsUp new left (fed ++ rest)
carry-more old new left fed rest carry lines same f = record {
  done = f.done;
  parts = ap (λ (t : List ℕ). t ++ rest) f.parts ∙ append_assoc f.done old.carry.items rest ∙ ap (λ (t : List ℕ). f.done ++ t) (sym carry);
  ended = f.ended;
  reads = subst (λ (limits : Limits). Reads limits new.lines (all_said f.done)) (sym same)
      (subst (λ (reader : LineReader). Reads old.limits reader (all_said f.done)) (sym lines) f.reads);
  can = subst CanRead (sym lines) f.can;
  lines = omega (arith, f.lines, ap (λ (reader : LineReader). reader.numbers.lines) lines);
  fits = subst (λ (limits : Limits). limits.bytes < 2 ^ 64) (sym same) f.fits;
  room = omega (arith, f.room, length-append fed rest, ap (λ (limits : Limits). limits.bytes) same);
}

-- all lines of what was fed were read, with those that are kept
pub all-read : (reader : TextReader) (left : ℕ) (fed : List ℕ) (last : LineReader) → KeepsUp reader left fed
    → ((before : List TextLine) → Reads reader.limits reader.lines before → Reads reader.limits last (before ++ all_said reader.carry.items))
    → Reads reader.limits last (all_said fed)
all-read reader left fed last f reads = subst (Reads reader.limits last) (sym (ap all_said f.parts ∙ said-append f.done reader.carry.items f.ended))
    (reads (all_said f.done) f.reads)

-- where no bytes come, nothing is read
pub none-read : (reader : TextReader) (left : ℕ) (fed none : List ℕ) → length none ≡ 0 → KeepsUp reader (left + length none) fed
    → KeepsUp reader left (fed ++ none)
none-read reader left fed [] e f =
    subst (KeepsUp reader left) (sym (append-nil fed)) (subst (λ n. KeepsUp reader n fed) (let e : left + 0 ≡ left = omega arith in e) f)
none-read reader left fed (x ∷ xs) e f = absurd (omega arith)

-- the lines that were read and the bytes that are kept are as few as the limits allow
pub keeps_up-few : (reader : TextReader) (more : ℕ) (fed : List ℕ) → KeepsUp reader more fed
    → reader.lines.numbers.lines + length reader.carry.items + more < 2 ^ 64
keeps_up-few reader more fed f = omega (arith, f.lines, f.room, f.fits, ap length f.parts, length-append f.done reader.carry.items)

-- so they are with bytes that come
pub keeps_up-fewer : (reader : TextReader) (left more : ℕ) (fed : List ℕ) → KeepsUp reader (left + more) fed
    → reader.lines.numbers.lines + length reader.carry.items + more < 2 ^ 64
keeps_up-fewer reader left more fed f = let h = keeps_up-few reader (left + more) fed f in omega arith

-- that a reader keeps up with what it was fed doesn't hang on what it says is left
pub keeps_up-left : (reader : TextReader) (says : Option ℕ) (left : ℕ) (fed : List ℕ) → KeepsUp reader left fed
    → KeepsUp (record reader { left = says }) left fed
keeps_up-left reader says left fed f = record {
  done = f.done;
  parts = f.parts;
  ended = f.ended;
  reads = f.reads;
  can = f.can;
  lines = f.lines;
  fits = f.fits;
  room = f.room;
}

-- of a piece that is not too long the whole lines and the rest have room
pub piece-keeps_up : (old : TextReader) (left : ℕ) (fed piece whole rest : List ℕ) → old.left ≡ Some left → length piece ≤ left → whole ++ rest ≡ piece
    → WasFed old fed → KeepsUp (record old { left = Some (left - length piece) }) (((left - length piece) + length rest) + length whole) fed
piece-keeps_up old left fed piece whole rest says enough parts h =
    let room : ℕ = left - length piece in
    let sum : left ≡ (room + length rest) + length whole = omega (arith, ap length parts, length-append whole rest) in
    subst (λ n. KeepsUp (record old { left = Some room }) n fed) sum (keeps_up-left old (Some room) left fed (keeps_up-fed old left fed says h))

-- a piece was fed that is not too long: its whole lines were taken, and the rest is kept
pub fed-more : (old took new : TextReader) (left : ℕ) (fed piece whole rest : List ℕ) → old.left ≡ Some left → length piece ≤ left → whole ++ rest ≡ piece
    → ((room : ℕ) (before : List ℕ) → KeepsUp (record old { left = Some (left - length piece) }) (room + length whole) before
    → KeepsUp took room (before ++ whole))
    → new.left ≡ Some (left - length piece) → new.carry.items ≡ took.carry.items ++ rest → new.lines ≡ took.lines → new.limits ≡ took.limits
    → WasFed old fed → WasFed new (fed ++ piece)
fed-more old took new left fed piece whole rest says enough parts taken left' carry lines same h =
    let room : ℕ = left - length piece in
    let first : KeepsUp took (room + length rest) (fed ++ whole) = taken (room + length rest) fed
    (piece-keeps_up old left fed piece whole rest says enough parts h) in
    subst (λ l. WasFedWithin new l (fed ++ piece)) (sym left')
    (subst (KeepsUp new room) (append_assoc fed whole rest ∙ ap (λ (t : List ℕ). fed ++ t) parts)
    (carry-more took new room (fed ++ whole) rest carry lines same first))

-- where more are allowed, a piece that is longer makes it too much
pub fed-too_long : (old new : TextReader) (left : ℕ) (fed piece : List ℕ) → old.left ≡ Some left → left < length piece → new.left ≡ None
    → new.limits ≡ old.limits → WasFed old fed → WasFed new (fed ++ piece)
fed-too_long old new left fed piece says long none same h =
    let f : KeepsUp old left fed = keeps_up-fed old left fed says h in
    over-more old new fed piece none same (omega (arith, f.room, length-append fed piece))

-- where too many were fed, more are too many
pub fed-over_more : (old new : TextReader) (fed piece : List ℕ) → old.left ≡ None → new.left ≡ None → new.limits ≡ old.limits → WasFed old fed
    → WasFed new (fed ++ piece)
fed-over_more old new fed piece says none same h =
    let over = fed-over old fed says h in
    over-more old new fed piece none same (omega (arith, length-append fed piece))

-- bytes that may be taken in one go are allowed
pub keeps_up-plain : (reader : TextReader) (fed : List ℕ) (bytes edges left : ℕ) → CanTake reader bytes edges left → WasFed reader fed
    → KeepsUp reader (left + bytes) fed
keeps_up-plain reader fed bytes edges left may h = keeps_up-fed reader (left + bytes) fed may.says h

-- the edges of bytes that may be taken in one go are few
pub plain-few : (reader : TextReader) (fed bytes : List ℕ) (edges : List (ℕ × ℕ)) (left : ℕ) → EndsLine bytes → all_said bytes ≡ edge_lines edges
    → CanTake reader (length bytes) (length edges) left → WasFed reader fed → reader.lines.numbers.lines + length edges < 2 ^ 64
plain-few reader fed bytes edges left ended told may h =
    let few = keeps_up-fewer reader left (length bytes) fed (keeps_up-plain reader fed (length bytes) (length edges) left may h) in
    omega (arith, few, few-edges bytes edges ended told)

-- bytes were taken in one go by the edges that they tell
pub fed-plain : (old new : TextReader) (fed bytes : List ℕ) (edges : List (ℕ × ℕ)) (left : ℕ) → EndsLine bytes → all_said bytes ≡ edge_lines edges
    → CanTake old (length bytes) (length edges) left
    → ((before : List TextLine) → Reads old.limits old.lines before → Reads old.limits new.lines (before ++ edge_lines edges))
    → CanRead new.lines → new.lines.numbers.lines ≡ old.lines.numbers.lines + length edges → new.left ≡ Some left → new.carry ≡ old.carry
    → new.limits ≡ old.limits → WasFed old fed → WasFed new (fed ++ bytes)
fed-plain old new fed bytes edges left ended told may reads can count says carry same h =
    let f : KeepsUp old (left + length bytes) fed = keeps_up-plain old fed (length bytes) (length edges) left may h in
    let lines : edge_lines edges ≡ all_said (old.carry.items ++ bytes) = sym (ap (λ (t : List ℕ). all_said (t ++ bytes)) may.none_begun ∙ told) in
    subst (λ l. WasFedWithin new l (fed ++ bytes)) (sym says)
    (whole-read old new left fed bytes ended may.some f
    (λ before r. subst (λ (t : List TextLine). Reads old.limits new.lines (before ++ t)) lines (reads before r)) can
    (ap (λ c. c.items) carry ∙ may.none_begun) (omega (arith, count, few-edges bytes edges ended told)) same)
