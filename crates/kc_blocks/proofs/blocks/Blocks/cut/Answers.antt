-- The block is cut into what stood in front of the cut and what stood behind it.
use Rattle.std.proofs.Common.{◌≡◌, ◌≤◌, ◌<◌, ◌+◌, ◌++◌, ℕ, List, Vec, Global, length, take, drop, get_or, set, arith, ap, ◌∙◌, sym}
use Rattle.std.specs.List.{insert}
use Rattle.std.proofs.lemmas.List.{get_or_read, length-take-le, take-append-drop}
use Rattle.std.proofs.lemmas.List.Edits.{get_or-insert_below}
use Rattle.kc_blocks.specs.Placing.{all_entries, starts_from}
use Rattle.kc_blocks.proofs.Placed.{IsFound, found, as-many, cut-entries, cut-starts}
use Rattle.kc_blocks.proofs.blocks.Blocks.cut.Goals.{After-len, After-self-1}
use Rattle.kc_blocks.proofs.blocks.Blocks.cut.Goals as goal

-- the block, found
found-here : (c : After-len) → IsFound c.args.self.now.blocks.items c.args.block c.args.place c.index-start.result.now c.index-entries.result.now
found-here c = found c.args.self.now _ _ _ _ c.requires.placed c.requires.lies c.index-start.ensures c.index-entries.ensures

-- its two halves are its entries, and the first is as long as was asked
record IsHalved (x y z : Vec ℕ Global) (at : ℕ) : Type 0 where
  both : y.items ++ z.items ≡ x.items
  long : length y.items ≡ at

halved : (c : After-self-1) → IsHalved c.index-entries.result.now c.truncate.new.self c.in_ok-tail.tail c.cut_place-at.result
halved c =
    let bs : List (Vec ℕ Global) = c.args.self.now.blocks.items in
    let b : ℕ = c.args.block in
    let x : Vec ℕ Global = c.index-entries.result.now in
    let head : Vec ℕ Global = c.index_mut-head.result.now in
    let tail : Vec ℕ Global = c.in_ok-tail.tail in
    let at : ℕ = c.cut_place-at.result in
    let l : b < length bs = c.requires.lies.there in
    let within : at ≤ length x.items = omega (arith, c.cut_place-at.ensures, c.len.ensures, x.ok.0) in
    let now : get_or c.add_block.new.self.blocks.items b head ≡ get_or bs b head =
    ap (λ (t : List (Vec ℕ Global)). get_or t b head) c.in_ok-add_block.ensures.blocks
    ∙ get_or-insert_below bs (b + 1) tail head b (omega arith) (omega arith) in
    let same : head ≡ x = c.index_mut-head.ensures.value ∙ (now ∙ sym (get_or_read bs b x l c.index-entries.ensures head)) in
    let front : c.truncate.new.self.items ≡ take at x.items = c.truncate.ensures.items ∙ ap (λ (v : Vec ℕ Global). take at v.items) same in
    let back : tail.items ≡ drop at x.items = c.in_ok-tail.ensures ∙ ap (drop at) c.deref.ensures.value in
    record {
      both = ap (λ (t : List ℕ). t ++ tail.items) front ∙ (ap (λ (t : List ℕ). take at x.items ++ t) back ∙ take-append-drop at x.items);
      long = ap length front ∙ length-take-le at x.items within;
    }

pub index-start-requires : goal.index-start-requires
index-start-requires c = omega (arith, c.requires.lies.there, as-many c.args.self.now c.requires.placed, c.args.self.now.starts.ok.0)

pub overflow_sub-place : goal.overflow_sub-place
overflow_sub-place c = (found-here c).begun

pub overflow_add-start : goal.overflow_add-start
overflow_add-start c =
    let f = found-here (goal.at.overflow_add-start c).After-len in
    omega (arith, f.end, c.cut_place-at.ensures, c.len.ensures, c.index-entries.result.now.ok.0, c.requires.few)

pub add_block-requires-clause-starts : goal.add_block-requires-clause-starts
add_block-requires-clause-starts c = omega (arith, c.requires.lies.there, as-many c.args.self.now c.requires.placed)

pub returns-clause-placed : goal.returns-clause-placed
returns-clause-placed c =
    let f = found-here (goal.at.returns-clause-placed c).After-len in
    let h = halved c in
    let b : ℕ = c.args.block in
    let y : Vec ℕ Global = c.truncate.new.self in
    let cut : ℕ = c.index-start.result.now + c.cut_place-at.result in
    c.in_ok-add_block.ensures.starts ∙ (ap (λ (t : List ℕ). insert t (b + 1) cut) c.requires.placed
    ∙ (sym (cut-starts _ b _ _ y c.in_ok-tail.tail _ cut f.cut h.both (omega (arith, f.begins, h.long)))
    ∙ ap (λ (t : List (Vec ℕ Global)). starts_from 0 (set t b y)) (sym c.in_ok-add_block.ensures.blocks)))

pub returns-clause-same : goal.returns-clause-same
returns-clause-same c =
    let f = found-here (goal.at.returns-clause-same c).After-len in
    let h = halved c in
    ap (λ (t : List (Vec ℕ Global)). all_entries (set t c.args.block c.truncate.new.self)) c.in_ok-add_block.ensures.blocks
    ∙ cut-entries _ _ _ _ c.truncate.new.self c.in_ok-tail.tail _ f.cut h.both
