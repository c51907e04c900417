-- Both tests together are all that is asked of bits.
use Rattle.kc_claims.proofs.id_bits.IdBits.is_of.Goals as goal

pub returns-then-tells_each : goal.returns-then-tells_each
returns-then-tells_each c = λ no_other. record {
  one_each = c.requires.one_each;
  each = c.tells_each.ensures c.if-tells_each.true;
  no_other = c.tells_no_other.ensures no_other;
}
