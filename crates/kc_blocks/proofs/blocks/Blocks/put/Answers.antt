-- The entry goes into its block, and those behind it begin one place later.
use Rattle.std.proofs.Common.{◌≡◌, ◌≤◌, ◌<◌, ◌+◌, ◌-◌, ℕ, List, Vec, Global, length, get_or, arith, ap, ◌∙◌, sym}
use Rattle.std.proofs.lemmas.List.{get_or_read}
use Rattle.std.proofs.lemmas.List.Edits.{length-insert}
use Rattle.kc_lists.proofs.Results.{on_err-anyhow}
use Rattle.kc_blocks.specs.Placing.{all_entries, starts_from, later_from}
use Rattle.kc_blocks.proofs.Placed.{IsFound, found, as-many, start-within, put-entries, put-starts, same-entries, same-starts}
use Rattle.kc_blocks.proofs.blocks.Blocks.put.Goals.{After-index_mut-entries}
use Rattle.kc_blocks.proofs.blocks.Blocks.put.Goals as goal

-- the block, found
found-here : (c : After-index_mut-entries) → IsFound c.args.self.now.blocks.items c.args.block c.args.place c.index.result.now c.index_mut-entries.result.now
found-here c = found c.args.self.now _ _ _ _ c.requires.placed c.requires.lies c.index.ensures c.index_mut-entries.ensures.value

pub index-requires : goal.index-requires
index-requires c = omega (arith, c.requires.lies.there, as-many c.args.self.now c.requires.placed, c.args.self.now.starts.ok.0)

pub overflow_sub-at : goal.overflow_sub-at
overflow_sub-at c =
    let starts : List ℕ = c.args.self.now.starts.items in
    let l : c.args.block < length starts = omega (arith, c.requires.lies.there, as-many c.args.self.now c.requires.placed) in
    omega (arith, get_or_read starts c.args.block _ l c.index.ensures 0, c.requires.lies.begun)

pub insert-requires : goal.insert-requires
insert-requires c =
    let f = found-here c in
    let l : c.args.place ≤ c.index.result.now + length c.index_mut-entries.result.now.items = f.to c.requires.within in
    omega (arith, l, f.begun, c.index_mut-entries.result.now.ok.0)

pub returns-in_err-insert-clause-placed : goal.returns-in_err-insert-clause-placed
returns-in_err-insert-clause-placed c =
    let f = found-here (goal.at.returns-in_err-insert-clause-placed c).After-index_mut-entries in
    c.requires.placed ∙ sym (same-starts _ _ _ _ c.insert.new.self _ f.cut c.in_err-insert.ensures.items)

pub returns-in_err-insert-clause-err : goal.returns-in_err-insert-clause-err
returns-in_err-insert-clause-err c =
    let f = found-here (goal.at.returns-in_err-insert-clause-err c).After-index_mut-entries in
    on_err-anyhow c.from_residual.result (same-entries _ _ _ _ c.insert.new.self _ f.cut c.in_err-insert.ensures.items)

pub move_later-requires-clause-first : goal.move_later-requires-clause-first
move_later-requires-clause-first c = omega (arith, c.requires.lies.there, as-many c.args.self.now c.requires.placed)

pub move_later-requires-clause-few : goal.move_later-requires-clause-few
move_later-requires-clause-few c = λ k l.
    let bs : List (Vec ℕ Global) = c.args.self.now.blocks.items in
    let within : get_or (starts_from 0 bs) k 0 ≤ 0 + length (all_entries bs) =
    start-within 0 bs k (omega (arith, l, as-many c.args.self.now c.requires.placed)) in
    omega (arith, within, ap (λ (t : List ℕ). get_or t k 0) c.requires.placed, c.requires.few)

pub returns-clause-placed : goal.returns-clause-placed
returns-clause-placed c =
    let f = found-here (goal.at.returns-clause-placed c).After-index_mut-entries in
    let x : Vec ℕ Global = c.index_mut-entries.result.now in
    let at : ℕ = c.args.place - c.index.result.now in
    let l : c.args.place ≤ c.index.result.now + length x.items = f.to c.requires.within in
    let more : length c.insert.new.self.items ≡ length x.items + 1 =
    ap length c.in_ok-insert.ensures.items ∙ length-insert x.items at c.args.x (omega (arith, l)) in
    c.move_later.ensures.starts ∙ (ap (later_from (c.args.block + 1)) c.requires.placed
    ∙ (sym (put-starts _ _ _ _ c.insert.new.self _ f.cut more)
    ∙ ap (λ (v : Vec (Vec ℕ Global) Global). starts_from 0 v.items) (sym c.move_later.ensures.blocks)))

pub returns-clause-ok : goal.returns-clause-ok
returns-clause-ok c =
    let f = found-here (goal.at.returns-clause-ok c).After-index_mut-entries in
    let x : Vec ℕ Global = c.index_mut-entries.result.now in
    let y : Vec ℕ Global = c.insert.new.self in
    let at : ℕ = c.args.place - c.index.result.now in
    let l : c.args.place ≤ c.index.result.now + length x.items = f.to c.requires.within in
    ap (λ (v : Vec (Vec ℕ Global) Global). all_entries v.items) c.move_later.ensures.blocks
    ∙ put-entries _ _ _ x y _ c.args.place at c.args.x f.cut (omega (arith, f.begins, f.begun)) (omega (arith, l)) c.in_ok-insert.ensures.items
