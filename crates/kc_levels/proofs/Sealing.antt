-- What the store of a vertex's word makes of levels.
use Rattle.std.proofs.Common.{◌≡◌, ◌≢◌, ◌<◌, ◌+◌, ◌-◌, ◌^◌, ℕ, Bool, true, false, cond, List, [], ◌∷◌, ◌++◌, length, get_or, set, refl, sym, ◌∙◌, ap}
use Rattle.std.proofs.Common.{subst, inl, inr, arith, true≢false, length-set}
use Rattle.std.proofs.lemmas.Bool.{cases_eq, le-leb, false_from_ne_true}
use Rattle.std.proofs.lemmas.List.{get_or-set_same, get_or-set_other, get_or_read}
use Rattle.kc_lists.specs.Lists.{member, without}
use Rattle.kc_lists.proofs.Members.{member-without, without-member}
use Rattle.kc_words.specs.VertexWord.{vertex_of, vertex_word}
use Rattle.kc_words.specs.declared.shape.Shape.{Shape}
use Rattle.kc_words.specs.declared.layout.TheConstants.{CORE_BITS, STAMP_BITS}
use Rattle.kc_table.specs.declared.view.Event.{Event}
use Rattle.kc_table.specs.Log.{Seen, TableName, event}
use Rattle.kc_table.specs.TableState.{TableState, state_of, first_vertex, word_count, after_store, sealed}
use Rattle.kc_table.specs.Legal as legal
use Rattle.kc_table.proofs.Steps.{length-words_after}
use Rattle.kc_table.proofs.LegalLogs.{state_of-push, state_of-words, legal-opens}
use Rattle.kc_order.specs.Standing.{list_after}
use Rattle.kc_order.specs.Writers.{Stores}
use Rattle.kc_order.proofs.Relabelling.{put_in-quiet, store-quiet}
use Rattle.kc_order.proofs.Ending.{after-item}
use Rattle.kc_graph.specs.Certificate.{Enumerates}
use Rattle.kc_levels.specs.Heads.{vertices_of, with_heads}
use Rattle.kc_levels.specs.Levels.{Levelled, levelled, AreLevels, Rises, Tallied, SealsOne, state_in, number_of, unsealed_in}

-- a table has all its words
pub has-words : (shape : Shape) (opening : List ℕ) (log : List Event) → legal.Legal shape opening log
    → length (state_of shape opening log).words ≡ word_count shape
has-words shape opening log h = ap length (state_of-words shape opening log) ∙ (length-words_after opening log ∙ (legal-opens shape opening log h).one_each)

-- what the store of a vertex's word leaves
pub record SealState (shape : Shape) (s t : TableState) (v value : ℕ) : Type 0 where
  pub list : t.list ≡ s.list
  pub entries : t.entries ≡ s.entries
  pub unsealed : t.unsealed ≡ without v s.unsealed
  pub here : get_or t.words (first_vertex shape + v) 0 ≡ value
  pub others : (w : ℕ) → w ≢ v → get_or t.words (first_vertex shape + w) 0 ≡ get_or s.words (first_vertex shape + w) 0
  pub quiet : (w : ℕ) → legal.FollowsNote t.note w

-- what the store of a vertex word leaves
after-seal : (shape : Shape) (s : TableState) (v value : ℕ) → v < shape.fixed → length s.words ≡ word_count shape → ((w : ℕ) → legal.FollowsNote s.note w)
    → SealState shape s (after_store shape s (event (first_vertex shape + v) value)) v value
after-seal shape s v value vertex long quiet =
    let word : ℕ = first_vertex shape + v in
    let e : Event = event word value in
    let sealed-is : sealed shape word s.unsealed ≡ without v s.unsealed =
    ap (λ b. cond b (without (word - first_vertex shape) s.unsealed) s.unsealed) (le-leb (first_vertex shape) word (omega arith))
    ∙ ap (λ (k : ℕ). without k s.unsealed) (omega arith) in
    subst (λ (z : TableState). SealState shape s z v value) (sym (after-item shape s e (omega arith))) record {
      list = store-quiet s.note word s.list quiet;
      entries = refl;
      unsealed = put_in-quiet shape s.note word (sealed shape word s.unsealed) quiet ∙ sealed-is;
      here = get_or-set_same s.words word value 0 (omega (arith, vertex, long));
      others = λ w ne. get_or-set_other s.words word (first_vertex shape + w) value 0 (λ q. ne (omega (arith, q)));
      quiet = λ w. tt;
    }

-- stamp and level come back from a word
pub fields-back : (stamp core : ℕ) → stamp < 2 ^ STAMP_BITS → core < 2 ^ CORE_BITS
    → (vertex_of (vertex_word (record { stamp = stamp; core = core }))).stamp ≡ stamp
    × ((vertex_of (vertex_word (record { stamp = stamp; core = core }))).core ≡ core)
unfolding vertex_of vertex_word
fields-back stamp core a b = (omega (arith, a, b), omega (arith, a, b))

-- what storing a vertex's word asks
pub may-seal : (old : Levelled) (s : Seen) (words : TableName) (core stamps : List ℕ) (open_ : Bool) (number size v k : ℕ)
    → levelled s core open_ ≡ old → Tallied (levelled s core open_) stamps number size → old.table ≡ words
    → old.open_ ≡ true → member v (unsealed_in old) ≡ true → k ≡ get_or core v k
    → legal.Seals words.shape (state_of s.table.shape s.table.opening s.log) v (vertex_word (record { stamp = number; core = k }))
may-seal old s words core stamps open_ number size v k is h table is-open moved k-is =
    let shape = s.table.shape in
    let at : s.table ≡ words = ap (λ (z : Levelled). z.table) is ∙ table in
    let o : open_ ≡ true = ap (λ (z : Levelled). z.open_) is ∙ is-open in
    let m : member v (unsealed_in (levelled s core open_)) ≡ true = ap (λ (z : Levelled). member v (unsealed_in z)) is ∙ moved in
    let vertex : v < s.table.shape.fixed = (h.are.unsealed v m).0 in
    let k-at : k ≡ get_or core v 0 = get_or_read core v k (omega (arith, vertex, h.are.long)) k-is 0 in
    let fields = fields-back number k h.number_fits (omega (arith, k-at, h.are.low v vertex, h.are.few)) in
    let here : legal.Seals shape (state_of s.table.shape s.table.opening s.log) v (vertex_word (record { stamp = number; core = k })) = record {
      inside = h.are.inside o;
      stamp = fields.0 ∙ h.number_is;
      later = omega (arith, (h.are.unsealed v m).1, fields.0, h.number_is);
      put = m;
    } in
    subst (λ (t : TableName). legal.Seals t.shape (state_of s.table.shape s.table.opening s.log) v (vertex_word (record { stamp = number; core = k }))) at here

-- a seal in the log of one table
seal-at : (s : Seen) (log : List Event) (core stamps : List ℕ) (open_ : Bool) (number size v : ℕ)
    → Tallied (levelled s core open_) stamps number size → open_ ≡ true → member v (unsealed_in (levelled s core open_)) ≡ true
    → Stores s (record { table = s.table; log = log }) (first_vertex s.table.shape + v) (vertex_word (record { stamp = number; core = get_or core v 0 }))
    → Tallied (levelled (record { table = s.table; log = log }) core open_) (set stamps v number) number size
    × SealsOne (levelled s core open_) (levelled (record { table = s.table; log = log }) core open_) v
seal-at s log core stamps open_ number size v h o moved stores =
    let shape = s.table.shape in
    let n : ℕ = shape.fixed in
    let old : Levelled = levelled s core open_ in
    let now : Seen = record { table = s.table; log = log } in
    let are = h.are in
    let before : TableState = state_in old in
    let t : TableState = state_of shape s.table.opening log in
    let value : ℕ = vertex_word (record { stamp = number; core = get_or core v 0 }) in
    let u = are.unsealed v moved in
    let vertex : v < n = u.0 in
    let fields = fields-back number (get_or core v 0) h.number_fits (omega (arith, are.low v vertex, are.few)) in
    let grown : log ≡ s.log ++ event (first_vertex shape + v) value ∷ [] = ap (λ (z : Seen). z.log) stores.is in
    let st : SealState shape before t v value =
    subst (λ (l : List Event). SealState shape before (state_of shape s.table.opening l) v value) (sym grown)
    (subst (λ (z : TableState). SealState shape before z v value) (sym (state_of-push shape s.table.opening s.log (event (first_vertex shape + v) value)))
    (after-seal shape before v value vertex (has-words shape s.table.opening s.log are.legal) are.quiet)) in
    let order-is : vertices_of n (list_after s.table log) ≡ vertices_of n (list_after s.table s.log) = ap (vertices_of n) st.list in
    let number-is : legal.last_entry shape t ≡ number_of old = ap (λ es. shape.base + length es) st.entries in
    let named : value ≡ vertex_word (record { stamp = number_of old; core = get_or core v 0 }) =
    ap (λ (k : ℕ). vertex_word (record { stamp = k; core = get_or core v 0 })) h.number_is in
    let are-now : AreLevels (levelled now core open_) = record {
      legal = stores.legal;
      items = are.items;
      few = are.few;
      list = st.list ∙ (are.list ∙ ap (λ (xs : List ℕ). with_heads n xs core) (sym order-is));
      enumerates = subst (Enumerates n) (sym order-is) are.enumerates;
      rising = subst (Rises core) (sym order-is) are.rising;
      long = are.long;
      low = are.low;
      quiet = st.quiet;
      words = λ w l out. elim (cases_eq w v) [
        | inl e ↦ ap (λ (k : ℕ). (vertex_of (get_or t.words (first_vertex shape + k) 0)).core) e
            ∙ (ap (λ (z : ℕ). (vertex_of z).core) st.here ∙ (fields.1 ∙ ap (λ (k : ℕ). get_or core k 0) (sym e)))
        | inr ne ↦
            let out' : member w (unsealed_in old) ≡ false =
            false_from_ne_true (member w (unsealed_in old))
            (λ m. true≢false (sym (without-member w v (unsealed_in old) m ne) ∙ (sym (ap (member w) st.unsealed) ∙ out))) in
            ap (λ (z : ℕ). (vertex_of z).core) (st.others w ne) ∙ are.words w l out'
      ];
      unsealed = λ w m.
          let k = member-without w v (unsealed_in old) (sym (ap (member w) st.unsealed) ∙ m) in
          let uw = are.unsealed w k.0 in
          (uw.0, omega (arith, uw.1, number-is, ap (λ (z : ℕ). (vertex_of z).stamp) (st.others w k.1)));
      inside = λ q. omega (arith, are.inside q, ap length st.entries);
      closed = λ q. absurd (true≢false (sym o ∙ q));
    } in (
      record {
        are = are-now;
        long = length-set stamps v number ∙ h.long;
        stamps_are = λ w l. elim (cases_eq w v) [
          | inl e ↦ ap (λ (k : ℕ). get_or (set stamps v number) k 0) e
              ∙ (get_or-set_same stamps v number 0 (omega (arith, vertex, h.long))
              ∙ (sym fields.0 ∙ (sym (ap (λ (z : ℕ). (vertex_of z).stamp) st.here)
              ∙ ap (λ (k : ℕ). (vertex_of (get_or t.words (first_vertex shape + k) 0)).stamp) (sym e))))
          | inr ne ↦ get_or-set_other stamps v w number 0 ne ∙ (h.stamps_are w l ∙ sym (ap (λ (z : ℕ). (vertex_of z).stamp) (st.others w ne)))
        ];
        number_is = h.number_is ∙ sym number-is;
        number_fits = h.number_fits;
        size_is = h.size_is;
      },
      record {
        stores = subst (λ (k : ℕ). Stores s now (first_vertex shape + v) k) named stores;
        order_is = order-is;
        core_is = refl;
        open_is = refl;
        are = are-now;
        unsealed = st.unsealed;
        entries = st.entries;
        here = st.here ∙ named;
        others = st.others;
      },
    )

-- a seal of a vertex of the open section, in the words of the contract
pub seal-leaves : (old : Levelled) (s now : Seen) (words : TableName) (core stamps : List ℕ) (open_ : Bool) (number size v k : ℕ)
    → levelled s core open_ ≡ old → Tallied (levelled s core open_) stamps number size → old.table ≡ words
    → old.open_ ≡ true → member v (unsealed_in old) ≡ true → k ≡ get_or core v k
    → Stores s now (first_vertex words.shape + v) (vertex_word (record { stamp = number; core = k }))
    → Tallied (levelled now core open_) (set stamps v number) number size × SealsOne old (levelled now core open_) v
seal-leaves old s now words core stamps open_ number size v k is h table is-open moved k-is stores =
    let at : s.table ≡ words = ap (λ (z : Levelled). z.table) is ∙ table in
    let o : open_ ≡ true = ap (λ (z : Levelled). z.open_) is ∙ is-open in
    let m : member v (unsealed_in (levelled s core open_)) ≡ true = ap (λ (z : Levelled). member v (unsealed_in z)) is ∙ moved in
    let k-at : k ≡ get_or core v 0 = get_or_read core v k (omega (arith, (h.are.unsealed v m).0, h.are.long)) k-is 0 in
    let same : now ≡ record { table = s.table; log = now.log } = λ i. record { table = ap (λ (z : Seen). z.table) stores.is i; log = now.log } in
    let stores' : Stores s (record { table = s.table; log = now.log }) (first_vertex s.table.shape + v)
    (vertex_word (record { stamp = number; core = get_or core v 0 })) =
    subst (λ (z : Seen). Stores s z (first_vertex s.table.shape + v) (vertex_word (record { stamp = number; core = get_or core v 0 }))) same
    (subst (λ (j : ℕ). Stores s now (first_vertex s.table.shape + v) (vertex_word (record { stamp = number; core = j }))) k-at
    (subst (λ (t : TableName). Stores s now (first_vertex t.shape + v) (vertex_word (record { stamp = number; core = k }))) (sym at) stores)) in
    let done = seal-at s now.log core stamps open_ number size v h o m stores' in
    subst (λ (z : Levelled). Tallied (levelled now core open_) (set stamps v number) number size × SealsOne z (levelled now core open_) v) is
    (subst (λ (z : Seen). Tallied (levelled z core open_) (set stamps v number) number size
    × SealsOne (levelled s core open_) (levelled z core open_) v) (sym same) done)
