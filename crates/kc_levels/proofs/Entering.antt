-- What an entry makes of levels.
use Rattle.std.proofs.Common.{◌≡◌, ◌<◌, ◌+◌, ℕ, Bool, true, false, List, [], ◌∷◌, ◌++◌, length, get_or, set, refl, sym, ◌∙◌, ap, subst}
use Rattle.std.proofs.Common.{arith, true≢false, length-append}
use Rattle.std.proofs.lemmas.Bool.{false≢true}
use Rattle.std.proofs.lemmas.List.{get_or-set_other}
use Rattle.kc_lists.specs.Lists.{member}
use Rattle.kc_words.specs.VertexWord.{vertex_of}
use Rattle.kc_words.specs.NoteWord.{IsFitting, note_word}
use Rattle.kc_words.specs.declared.layout.TheConstants.{INDICES}
use Rattle.kc_words.specs.declared.note.NoteWord.TheVariants.{Enter}
use Rattle.kc_graph.specs.Certificate.{Enumerates}
use Rattle.kc_graph.specs.declared.update.Update.{Update}
use Rattle.kc_table.specs.declared.view.Event.{Event}
use Rattle.kc_table.specs.declared.entry.Entry.{Entry}
use Rattle.kc_table.specs.Log.{Seen, event}
use Rattle.kc_table.specs.TableState.{TableState, state_of, first_vertex}
use Rattle.kc_table.specs.Legal as legal
use Rattle.kc_table.proofs.Entries.{state_of-entry, with_entry}
use Rattle.kc_table.proofs.LegalLogs.{legal-holds}
use Rattle.kc_order.specs.Standing.{list_after}
use Rattle.kc_order.specs.Writers.{StoresEntry}
use Rattle.kc_levels.specs.declared.levels.TheConstants.{LAST_NUMBER}
use Rattle.kc_levels.specs.Heads.{vertices_of, with_heads}
use Rattle.kc_levels.specs.Levels.{Levelled, levelled, AreLevels, Rises, Tallied, OpensSection, size_of, state_in, number_of, word_at, unsealed_in}

-- an entry in the log of one table
enter-at : (s : Seen) (log : List Event) (core stamps : List ℕ) (number size index : ℕ) (update : Update)
    → Tallied (levelled s core false) stamps number size → index < INDICES → update.u < s.table.shape.fixed → update.v < s.table.shape.fixed
    → number < LAST_NUMBER
    → StoresEntry s (record { table = s.table; log = log }) index (note_word (Enter update.add update.u update.v))
    → Tallied (levelled (record { table = s.table; log = log }) core true) stamps (number + 1) size
    × OpensSection (levelled s core false) (levelled (record { table = s.table; log = log }) core true) index update
enter-at s log core stamps number size index update h fits u-in v-in most stores =
    let shape = s.table.shape in
    let n : ℕ = shape.fixed in
    let old : Levelled = levelled s core false in
    let now : Seen = record { table = s.table; log = log } in
    let are = h.are in
    let before : TableState = state_in old in
    let value : ℕ = note_word (Enter update.add update.u update.v) in
    let entry : Entry = record { index = index; add = update.add; u = update.u; v = update.v } in
    let fitting : IsFitting (Enter update.add update.u update.v) = (omega (arith, u-in, are.few), omega (arith, v-in, are.few)) in
    let first : List ℕ = set before.words 0 index in
    let grown : log ≡ (s.log ++ event 0 index ∷ []) ++ event 0 value ∷ [] = ap (λ (z : Seen). z.log) stores.noted.is in
    let t : TableState = state_of shape s.table.opening log in
    let at : t ≡ with_entry before index update.add update.u update.v =
    ap (state_of shape s.table.opening) grown
    ∙ state_of-entry shape s.table.opening s.log index update.add update.u update.v are.legal (omega (arith, fits)) fitting in
    let none : unsealed_in old ≡ [] = are.closed refl in
    let now-none : t.unsealed ≡ [] = ap (λ (z : TableState). z.unsealed) at in
    let entries : t.entries ≡ before.entries ++ entry ∷ [] = ap (λ (z : TableState). z.entries) at in
    let order-is : vertices_of n (list_after s.table log) ≡ vertices_of n (list_after s.table s.log) = ap (λ (z : TableState). vertices_of n z.list) at in
    let words : (w : ℕ) → get_or t.words (first_vertex shape + w) 0 ≡ word_at old w =
    λ w. ap (λ (z : TableState). get_or z.words (first_vertex shape + w) 0) at
    ∙ (get_or-set_other first 0 (first_vertex shape + w) value 0 (λ q. omega (arith, q))
    ∙ get_or-set_other before.words 0 (first_vertex shape + w) index 0 (λ q. omega (arith, q))) in
    let many : length t.entries ≡ length before.entries + 1 = ap length entries ∙ length-append before.entries (entry ∷ []) in
    let are-now : AreLevels (levelled now core true) = record {
      legal = stores.noted.legal;
      items = are.items;
      few = are.few;
      list = ap (λ (z : TableState). z.list) at ∙ (are.list ∙ ap (λ (xs : List ℕ). with_heads n xs core) (sym order-is));
      enumerates = subst (Enumerates n) (sym order-is) are.enumerates;
      rising = subst (Rises core) (sym order-is) are.rising;
      long = are.long;
      low = are.low;
      quiet = λ w. subst (λ (z : TableState). legal.FollowsNote z.note w) (sym at) tt;
      words = λ w l out. ap (λ (z : ℕ). (vertex_of z).core) (words w) ∙ are.words w l (ap (member w) none);
      unsealed = λ w m. absurd (false≢true (sym (ap (member w) now-none) ∙ m));
      inside = λ q. omega (arith, many);
      closed = λ q. absurd (true≢false q);
    } in (
      record {
        are = are-now;
        long = h.long;
        stamps_are = λ w l. h.stamps_are w l ∙ sym (ap (λ (z : ℕ). (vertex_of z).stamp) (words w));
        number_is = omega (arith, many, h.number_is);
        number_fits = omega (arith, most);
        size_is = h.size_is;
      },
      record {
        stores = stores;
        order_is = order-is;
        core_is = refl;
        open_is = refl;
        are = are-now;
        unsealed = now-none;
        may_move = λ v l. record {
          vertex = l;
          open_ = refl;
          unmoved = ap (member v) now-none;
          once = omega (arith, (legal-holds shape s.table.opening s.log are.legal).stamps v l, ap (λ (z : ℕ). (vertex_of z).stamp) (words v), many);
        };
        entries = entries;
        words = words;
      },
    )

-- an entry leaves an open section, in the words of the contract
pub enter-leaves : (old : Levelled) (s now : Seen) (core stamps : List ℕ) (open_ : Bool) (number size index : ℕ) (update : Update)
    → levelled s core open_ ≡ old → Tallied (levelled s core open_) stamps number size → old.open_ ≡ false
    → index < INDICES → (update.u < size_of old) × (update.v < size_of old) → number_of old < LAST_NUMBER
    → StoresEntry s now index (note_word (Enter update.add update.u update.v))
    → Tallied (levelled now core true) stamps (number + 1) size × OpensSection old (levelled now core true) index update
enter-leaves old s now core stamps open_ number size index update is h closed fits ends most stores =
    let o : open_ ≡ false = ap (λ (z : Levelled). z.open_) is ∙ closed in
    let same : now ≡ record { table = s.table; log = now.log } = λ i. record { table = ap (λ (z : Seen). z.table) stores.noted.is i; log = now.log } in
    let fixed : size_of old ≡ s.table.shape.fixed = sym (ap size_of is) in
    let h' : Tallied (levelled s core false) stamps number size = subst (λ (b : Bool). Tallied (levelled s core b) stamps number size) o h in
    let done = enter-at s now.log core stamps number size index update h' fits (omega (arith, ends.0, fixed)) (omega (arith, ends.1, fixed))
    (omega (arith, most, h.number_is, ap number_of is))
    (subst (λ (z : Seen). StoresEntry s z index (note_word (Enter update.add update.u update.v))) same stores) in
    let at : levelled s core false ≡ old = ap (λ (b : Bool). levelled s core b) (sym o) ∙ is in
    subst (λ (z : Levelled). Tallied (levelled now core true) stamps (number + 1) size × OpensSection z (levelled now core true) index update) at
    (subst (λ (z : Seen). Tallied (levelled z core true) stamps (number + 1) size
    × OpensSection (levelled s core false) (levelled z core true) index update) (sym same) done)
