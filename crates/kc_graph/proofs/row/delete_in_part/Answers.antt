-- Only the part is written to, and its end falls away.
use Rattle.std.proofs.Common.{◌≡◌, ◌≤◌, ◌-◌, ℕ, List, length, take, drop, ap, sym, ◌∙◌, subst, arith}
use Rattle.std.specs.List.{between}
use borrow.Rule.Slice.PartMut.{put_mid}
use Rattle.std.proofs.lemmas.Slice.{between_is, take-put_mid_below, drop-put_mid, between-put_mid}
use Rattle.std.proofs.lemmas.List.Edits.{length-between}
use Rattle.kc_graph.specs.Rows.{Deleted}
use Rattle.kc_graph.specs.Blocks.{DiffersWithin}
use Rattle.kc_graph.proofs.Lying.{between-shorter, length-put_mid}
use Rattle.kc_graph.proofs.row.delete_in_part.Goals as goal

-- The part of `old` from `from` to below `to` is written over by `part`.
module _ (old part : List ℕ) (from to : ℕ) (ordered : from ≤ to) (within : to ≤ length old) (same : length part ≡ length (between from to old)) where
  -- the list then
  abbrev new : List ℕ
  new = put_mid from (to - from) old part

  -- the part is as long as its places are many
  count : length part ≡ to - from
  count = same ∙ length-between old from to within

  -- it begins in the list
  from-in : from ≤ length old
  from-in = omega (arith, ordered, within)

  -- all else is as before
  elsewhere : DiffersWithin old new from to
  elsewhere = record {
    same_length = length-put_mid from (to - from) old part (omega (arith, ordered, within)) count;
    below = λ a b le. between_is new a b ∙ ap (drop a) (take-put_mid_below from (to - from) old part b le from-in) ∙ sym (between_is old a b);
    above = λ a b le. ap (take (b - a)) (drop-put_mid from (to - from) old part a (omega (arith, ordered, le)) from-in count);
  }

  -- all but the last place of the part has what was written but for its last number
  shortened : between from (to - 1) new ≡ take (length (between from to old) - 1) part
  shortened =
      between-shorter new from (to - 1) to (omega arith)
      ∙ ap (take (to - 1 - from)) (between-put_mid from (to - from) old part to from-in count)
      ∙ ap (λ (m : ℕ). take m part) (omega (arith, length-between old from to within))

pub returns-clause-elsewhere : goal.returns-clause-elsewhere
returns-clause-elsewhere c =
    elsewhere c.args.block.now c.delete_within.new.row c.args.from c.args.to c.requires.ordered c.requires.within c.delete_within.ensures.len

pub returns-clause-deleted : goal.returns-clause-deleted
returns-clause-deleted c =
    subst (λ (t : List ℕ). Deleted (between c.args.from c.args.to c.args.block.now) t c.args.w)
    (sym (shortened c.args.block.now c.delete_within.new.row c.args.from c.args.to c.requires.ordered c.requires.within c.delete_within.ensures.len))
    c.delete_within.ensures.others
