-- A turn writes the next start, and at the end all are written.
use Rattle.std.proofs.Common.{◌≡◌, ◌<◌, ◌≤◌, ℕ, List, length, get_or, refl, sym, ap, ◌∙◌, arith}
use Rattle.std.proofs.lemmas.List.{take_all}
use Rattle.kc_blocks.specs.Placing.{later_from}
use Rattle.kc_blocks.proofs.Placed.{later-here, later-more, later-none}
use Rattle.kc_blocks.proofs.blocks.Blocks.move_later.Goals as goal

pub loop-later-init : goal.loop-later-init
loop-later-init c = record { blocks = refl; starts = later-none c.args.first c.args.self.now.starts.items c.requires.first }

pub overflow_add-index_mut : goal.overflow_add-index_mut
overflow_add-index_mut c =
    let old : List ℕ = c.args.self.now.starts.items in
    let l : c.loop-later.later < length old = omega (arith, c.loop-later-test.true, c.len-later-end.ensures, c.args.self.now.starts.ok.0) in
    let e : c.index_mut.result.now ≡ get_or old c.loop-later.later 0 =
    later-here c.args.first _ _ _ old c.loop-later.invariant.starts l c.index_mut.ensures.value in
    omega (arith, e, c.requires.few c.loop-later.later l)

pub loop-later-preserved : goal.loop-later-preserved
loop-later-preserved c =
    let old : List ℕ = c.args.self.now.starts.items in
    let l : c.loop-later.later < length old = omega (arith, c.loop-later-test.true, c.len-later-end.ensures, c.args.self.now.starts.ok.0) in
    record {
      blocks = c.loop-later.invariant.blocks;
      starts = later-more c.args.first _ _ _ old c.loop-later.invariant.starts (omega arith) l c.index_mut.ensures.value;
    }

pub returns-clause-starts : goal.returns-clause-starts
returns-clause-starts c =
    let old : List ℕ = c.args.self.now.starts.items in
    let now : List ℕ = c.loop-later.self.starts.items in
    let h = c.loop-later.invariant.starts in
    let l : length old ≤ c.loop-later.later = omega (arith, c.loop-later-test.false, c.len-later-end.ensures, c.args.self.now.starts.ok.0) in
    sym (take_all c.loop-later.later now (omega (arith, l, h.long))) ∙ (h.done
    ∙ ap (later_from c.args.first) (take_all c.loop-later.later old l))
