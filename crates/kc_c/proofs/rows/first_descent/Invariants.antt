-- What is found in all offsets is what is found from here on.
use Rattle.std.proofs.Common.{◌≡◌, drop}
use Rattle.kc_c.specs.Csr.{first_descent}
use Rattle.kc_c.proofs.rows.first_descent.Given as goal

abbrev pub invariant-loop-place : goal.invariant-loop-place
invariant-loop-place l = first_descent 0 0 l.offsets ≡ first_descent l.place l.last (drop l.place l.offsets)
