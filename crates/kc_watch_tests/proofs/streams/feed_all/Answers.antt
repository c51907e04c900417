-- What was fed goes on with each piece.
use Rattle.std.proofs.Common.{◌≡◌, ◌++◌, true, arith}
use Rattle.std.specs.Prelude.{OnOk, Result, Ok, Err, is_ok}
use Rattle.kc_watch_tests.proofs.streams.feed_all.Goals as goal

-- what holds where a call gave a value
from-ok : {A E : Type 0} (r : Result A E) (P : Type 0) → is_ok r ≡ true → OnOk r P → P
from-ok (Ok a) P is p = p
from-ok (Err e) P is p = absurd (cc)

pub loop-rest-preserved : goal.loop-rest-preserved
loop-rest-preserved c =
    let (fed, f) = c.loop-rest.invariant in
    let fits : is_ok c.feed.result ≡ true = grind (arith, c.in_ok-map_err.ensures.variant, c.in_ok-map_err.is, c.in_ok-map_err.was) in
    (fed ++ c.split_at.result.0.now, from-ok c.feed.result _ fits c.feed.ensures.fed fed f)
