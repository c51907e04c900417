-- The digits before the first byte that is none.
use Rattle.std.proofs.Common.{List, ℕ, ◌∙◌, ◌++◌, ap, arith, length-take, sym, take, take-append-drop}
use Rattle.kc_text.proofs.PlainLines.{number-is}
use Rattle.kc_claims.proofs.edge_line.cut_number.Goals as goal

pub returns-then-not-is_ascii_digit : goal.returns-then-not-is_ascii_digit
returns-then-not-is_ascii_digit c =
    let bytes : List ℕ = c.args.bytes.now in
    record {
      digits = take c.loop-digits.digits bytes;
      whole = sym (take-append-drop c.loop-digits.digits bytes) ∙ ap (λ (t : List ℕ). take c.loop-digits.digits bytes ++ t) (sym c.split_at.ensures.back);
      spells = number-is (take c.loop-digits.digits bytes) c.loop-digits.number c.loop-digits.invariant.each
          (omega (arith, length-take c.loop-digits.digits bytes)) c.loop-digits.invariant.so_far (omega arith);
    }
