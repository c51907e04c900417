-- A group's word has its version where an item's has it.
use Rattle.std.proofs.Common.{◌≡◌, ◌+◌, ◌++◌, ◌∷◌, [], ℕ, refl, ap, sym, ◌∙◌, get_or, set, arith}
use Rattle.std.proofs.lemmas.List.{get_or-set_same}
use Rattle.kc_words.specs.ItemWord.{item_of}
use Rattle.kc_list.specs.Writes.{Write}
use Rattle.kc_list.proofs.Splits.{same_version}
use Rattle.kc_list.proofs.labelled.LabelledList.store_group.Goals as goal

pub store-requires-clause-rises : goal.store-requires-clause-rises
store-requires-clause-rises c = same_version c.pack.result ∙ (ap (λ z. z.version) c.pack.ensures.read_back
    ∙ (c.requires.rises ∙ ap (λ (z : ℕ). (item_of (get_or c.args.self.now.sheet.words (z + c.args.g) 0)).version + 1) (sym c.size.ensures)))

pub returns-clause-stores : goal.returns-clause-stores
returns-clause-stores c =
    let words : c.store.new.self.words ≡ set c.args.self.now.sheet.words (c.args.self.now.links.size + c.args.g) c.pack.result =
    c.store.ensures.words ∙ ap (λ (z : ℕ). set c.args.self.now.sheet.words (z + c.args.g) c.pack.result) c.size.ensures in
    let value : get_or c.store.new.self.words (c.args.self.now.links.size + c.args.g) 0 ≡ c.pack.result =
    ap (λ ws. get_or ws (c.args.self.now.links.size + c.args.g) 0) words
    ∙ get_or-set_same c.args.self.now.sheet.words (c.args.self.now.links.size + c.args.g) c.pack.result 0
    (omega (arith, c.requires.within, c.args.self.now.sound.size)) in
    let one : ℕ → ℕ → Write = λ w z. record { word = w; value = z } in
    record {
      links = refl;
      groups = refl;
      stores = record {
        words = words ∙ ap (set c.args.self.now.sheet.words (c.args.self.now.links.size + c.args.g)) (sym value);
        writes = c.store.ensures.writes ∙ (ap (λ (z : ℕ). c.args.self.now.sheet.writes ++ one (z + c.args.g) c.pack.result ∷ []) c.size.ensures
            ∙ ap (λ (z : ℕ). c.args.self.now.sheet.writes ++ one (c.args.self.now.links.size + c.args.g) z ∷ []) (sym value));
        version = ap (λ z. (item_of z).version) value ∙ (same_version c.pack.result ∙ (ap (λ z. z.version) c.pack.ensures.read_back ∙ c.requires.rises));
        room = c.store.ensures.room;
      };
    }
