-- When workers are asked to make a batch.
use Rattle.std.specs.Prelude.{◌/◌, ◌&&◌, ℕ, Bool, nat_le}
use Rattle.kc_keeper_workers.specs.declared.paying.TheConstants.{FEWEST_UPDATES, FEWEST_WORKERS, LEAST_SHARE, MOST_SHARE}

-- there are workers enough, and neither too few nor too many updates: by their number, and by the vertices and edges for each
abbrev pub pays : ℕ → ℕ → ℕ → Bool
pays workers size updates =
    nat_le FEWEST_WORKERS workers && nat_le FEWEST_UPDATES updates && nat_le (size / LEAST_SHARE) updates && nat_le updates (size / MOST_SHARE)
