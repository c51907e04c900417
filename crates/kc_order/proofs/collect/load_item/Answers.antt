-- A word that names no group is that of an item that is out; any other names a group of the table.
use Rattle.std.proofs.Common.{◌≡◌, ◌<◌, ◌∙◌, ℕ, ap, refl, sym, subst, arith}
use Rattle.kc_words.specs.ItemWord.{item_of}
use Rattle.kc_table.specs.Log.{TableName}
use Rattle.kc_order.specs.Standing.{LoadsWord}
use Rattle.kc_order.proofs.Reading.{found_in, found_out}
use Rattle.kc_order.proofs.collect.load_item.Goals as goal

pub returns-then-of-eq0-clause-absent : goal.returns-then-of-eq0-clause-absent
returns-then-of-eq0-clause-absent c =
    let l = c.load_word-loaded in
    let table : l.new.pass.table ≡ c.args.words.now = l.ensures.table ∙ c.requires.table in
    let below : c.args.x < l.new.pass.table.shape.items = omega (arith, c.requires.item, ap (λ (t : TableName). t.shape.items) table) in
    let one = subst (λ (w : ℕ). LoadsWord c.args.pass.now l.new.pass w l.result.value) c.item.ensures l.ensures.loaded in
    (refl, found_out c.args.pass.now l.new.pass c.args.x l.result.value one below (ap (λ w. w.group) (sym c.of.ensures.fields) ∙ c.if-of-eq0.true))

pub returns-clause-loaded : goal.returns-clause-loaded
returns-clause-loaded c =
    let l = c.load_word-loaded in
    subst (λ (w : ℕ). LoadsWord c.args.pass.now l.new.pass w l.result.value) c.item.ensures l.ensures.loaded

pub returns-clause-group : goal.returns-clause-group
returns-clause-group c =
    let l = c.load_word-loaded in
    let items = ap (λ (t : TableName). t.shape.items) (l.ensures.table ∙ c.requires.table) in
    let below : c.args.x < l.new.pass.table.shape.items = omega (arith, c.requires.item, items) in
    let one = subst (λ (w : ℕ). LoadsWord c.args.pass.now l.new.pass w l.result.value) c.item.ensures l.ensures.loaded in
    let some : 0 < (item_of l.result.value).group = omega (arith, c.if-of-eq0.false, ap (λ w. w.group) c.of.ensures.fields) in
    let f = found_in l.new.pass.table l.new.pass.log c.args.x l.result.value one.legal below one.held some in
    (some, omega (arith, f.1, items))
