-- Each word is blank before it is filled.
use Rattle.std.proofs.Common.{◌≡◌, ◌<◌, ◌+◌, ◌*◌, ap, ◌∙◌, get_or, replicate, arith}
use Rattle.std.proofs.lemmas.List.{get_or-replicate}
use Rattle.kc_words.specs.ItemWord.{item_of}
use Rattle.kc_list.proofs.GroupSizes.{whole_back}
use Rattle.kc_list.proofs.opening.opening_words.Goals as goal

pub fill_words-requires-clause-blank : goal.fill_words-requires-clause-blank
fill_words-requires-clause-blank c w l =
    let all : c.in_ok-words.words.items ≡ replicate (2 * c.args.items + 2) c.pack.result = c.in_ok-words.ensures.items_if_clones_equal (λ y h. h) in
    let l' : w < 2 * c.args.items + 2 = omega (arith, l, c.deref_mut.ensures.len, c.in_ok-words.ensures.len) in
    ap item_of (ap (λ zs. get_or zs w 0) (c.deref_mut.ensures.value ∙ all) ∙ get_or-replicate (2 * c.args.items + 2) w c.pack.result 0 l')
    ∙ c.pack.ensures.read_back

pub returns : goal.returns
returns c =
    let same = whole_back c.fill_words.new.words c.in_ok-words.words.items c.in_ok-words.words.len (omega arith)
    (omega (arith, c.fill_words.auto.words, c.deref_mut.ensures.len)) in
    rw same c.fill_words.ensures
