-- The digits before the first byte that is none.
use Rattle.std.proofs.Common.{List, ℕ, ◌∙◌, ◌++◌, ap, arith, length-take, sym, take, take-append-drop}
use Rattle.kc_dialect.proofs.plain_runs.front_digits.Goals as goal

pub returns-else-i-eq0 : goal.returns-else-i-eq0
returns-else-i-eq0 c =
    let bytes : List ℕ = c.args.bytes.now in
    record {
      digits = take c.loop-i.i bytes;
      whole = sym (take-append-drop c.loop-i.i bytes) ∙ ap (λ (t : List ℕ). take c.loop-i.i bytes ++ t) (sym c.split_at.ensures.back);
      len = omega (arith, length-take c.loop-i.i bytes);
      are = record {
        some = omega (arith, length-take c.loop-i.i bytes);
        few = omega (arith, length-take c.loop-i.i bytes, c.loop-i.invariant.few);
        each = c.loop-i.invariant.digits;
      };
    }
