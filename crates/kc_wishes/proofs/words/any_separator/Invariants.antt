-- The names that were looked at tell no other separator, so those that are left decide.
use Rattle.std.proofs.Common.{◌≡◌, drop, map}
use Rattle.std.specs.List.{list_any}
use Rattle.kc_wishes.specs.Wishes.{tells_separator}
use Rattle.kc_wishes.proofs.words.any_separator.Given as goal

abbrev pub invariant-loop-name : goal.invariant-loop-name
invariant-loop-name l =
    list_any tells_separator (map (λ t. t.now) (drop l.name-index l.files)) ≡ list_any tells_separator (map (λ t. t.now) l.files)
