-- The vertices of a stripe and the places of their records.
use Rattle.std.proofs.Common.{◌≡◌, ◌≤◌, ◌<◌, ◌+◌, ◌/◌, ◌%◌, ℕ, true, List, [], ◌∷◌, ◌++◌, length, get_or, set, refl, sym, ◌∙◌, ap}
use Rattle.std.proofs.Common.{subst, inl, inr, arith, eqb, ltb, eqb-true, length-append, length-set}
use Rattle.std.proofs.lemmas.Bool.{and_parts, cases_eq, cases_lt, lt-ltb, le-ltb, ltb-true}
use Rattle.std.proofs.lemmas.Nat.{div-add-mod'}
use Rattle.std.proofs.lemmas.List.{get_or-set_same, get_or-set_other, get_or_read, get_or_push, get_or_append_left}
use mathlib.Core.List.{IsPrefix}
use Rattle.kc_graph.specs.Neighbours.{AreNeighbours}
use Rattle.kc_graph.specs.declared.used.UsedEdges.{UsedEdges}
use Rattle.kc_table.specs.declared.view.Event.{Event}
use Rattle.kc_agree.specs.Reads.{WasList}
use Rattle.kc_agree.proofs.Growing.{opened_with}
use Rattle.kc_stripes.specs.declared.stripe.TheConstants.{STRIPES}
use Rattle.kc_stripes.specs.Records.{IsRecord, Striped, IsStripe, vertex_at, belongs, record_of}
use Rattle.kc_view.specs.Marks.{no_list}
use Rattle.kc_table.specs.Log.{Opened}
use Rattle.kc_stripes.proofs.Growing.{record_stays}

-- a vertex of the stripe stands at its place
pub place_is : (s : Striped) (w : ℕ) → belongs s w ≡ true → vertex_at s.number (w / STRIPES) ≡ w
place_is s w here =
    omega (arith, div-add-mod' w STRIPES, eqb-true (w % STRIPES) s.number (and_parts (eqb (w % STRIPES) s.number) (ltb w s.opened.edges.size) here).0)

-- the place of a vertex of the stripe is one of the stripe's
pub place_in : (s : Striped) (w : ℕ) → IsStripe s → belongs s w ≡ true → w / STRIPES < length s.records
place_in s w is here =
    let small : w < s.opened.edges.size = ltb-true w s.opened.edges.size (and_parts (eqb (w % STRIPES) s.number) (ltb w s.opened.edges.size) here).1 in
    let place = w / STRIPES in
    let begun = lt-ltb (vertex_at s.number place) s.opened.edges.size (omega (arith, small, place_is s w here)) in
    ltb-true place (length s.records) (is.places place ∙ begun)

-- the record at the place of a vertex of the stripe is its record, which is true
pub record_is : (s : Striped) (w : ℕ) → IsStripe s → belongs s w ≡ true → IsRecord s.opened s.seen w (record_of s w)
record_is s w is here =
    subst (λ (v : ℕ). IsRecord s.opened s.seen v (record_of s w)) (place_is s w here) (is.each (w / STRIPES) no_list (place_in s w is here))

-- where the pass has seen more, each record stays true
pub seen_more : (s : Striped) (log : List Event) → IsStripe s → IsPrefix s.seen log → IsStripe (record s { seen = log })
seen_more s log is pre = record {
  few = is.few;
  size = is.size;
  places = is.places;
  each = λ i d l. record_stays s.opened s.seen log (vertex_at s.number i) (get_or s.records i d) (is.each i d l) pre;
}

-- a stripe stays one where a true record is put in the place of its vertex
pub put_record : (s : Striped) (r : UsedEdges) → IsStripe s → belongs s r.vertex ≡ true → IsRecord s.opened s.seen r.vertex r
    → IsStripe (record s { records = set s.records (r.vertex / STRIPES) r })
put_record s r is here new =
    let place = r.vertex / STRIPES in
    let at : ℕ → UsedEdges → UsedEdges = λ i d. get_or (set s.records place r) i d in
    record {
      few = is.few;
      size = is.size;
      places = λ i. ap (ltb i) (length-set s.records place r) ∙ is.places i;
      each = λ i d l.
          let within : i < length s.records = omega (arith, l, length-set s.records place r) in
          elim (cases_eq i place) [
            | inl e ↦
                let this : at i d ≡ r = ap (λ n. at n d) e ∙ get_or-set_same s.records place r d (omega (arith, within, e)) in
                let vertex : vertex_at s.number i ≡ r.vertex = ap (vertex_at s.number) e ∙ place_is s r.vertex here in
                subst (λ (x : UsedEdges). IsRecord s.opened s.seen (vertex_at s.number i) x) (sym this)
                (subst (λ (v : ℕ). IsRecord s.opened s.seen v r) (sym vertex) new)
            | inr other ↦
                subst (λ (x : UsedEdges). IsRecord s.opened s.seen (vertex_at s.number i) x)
                (sym (get_or-set_other s.records place i r d other)) (is.each i d within)
          ];
    }

-- a list of a later entry in its vertex's place, where the pass has seen it
pub put_newer : (s : Striped) (log : List Event) (new r : UsedEdges) → IsStripe s → IsPrefix s.seen log → belongs s new.vertex ≡ true
    → WasList s.opened.table s.opened.edges log new → r ≡ get_or s.records (new.vertex / STRIPES) r → r.at < new.at
    → IsStripe (record s { seen = log; records = set s.records (new.vertex / STRIPES) new })
put_newer s log new r is pre here was read old =
    let w = new.vertex in
    let before : IsRecord s.opened s.seen w (record_of s w) = record_is s w is here in
    let same : r.at ≡ (record_of s w).at = ap (λ (x : UsedEdges). x.at) (get_or_read s.records (w / STRIPES) r (place_in s w is here) read no_list) in
    put_record (record s { seen = log }) new (seen_more s log is pre) here
    (record { vertex = refl; was = was; newer = omega (arith, before.newer, same, old) })

-- The records of a stripe that is being filled: those of its first vertices, up to the one that is next.
pub record Filling (o : Opened) (log : List Event) (number vertex : ℕ) (records : List UsedEdges) : Type 0 where
  pub next : vertex ≡ vertex_at number (length records)
  pub begun : (i : ℕ) → i < length records → vertex_at number i < o.edges.size
  pub each : (i : ℕ) (d : UsedEdges) → i < length records → IsRecord o log (vertex_at number i) (get_or records i d)
  pub opening : (i : ℕ) (d : UsedEdges) → i < length records → (get_or records i d).at ≡ get_or o.stamps (vertex_at number i) 0

-- a stripe that is being filled has no records at first
pub filling_none : (o : Opened) (log : List Event) (number : ℕ) → Filling o log number number []
filling_none o log number = record {
  next = omega arith;
  begun = λ i l. absurd (omega (arith, l));
  each = λ i d l. absurd (omega (arith, l));
  opening = λ i d l. absurd (omega (arith, l));
}

-- a stripe that is being filled gets one record more: the opening list of the next vertex
pub filling_more : (o : Opened) (log : List Event) (number : ℕ) (records : List UsedEdges) (r : UsedEdges) → Filling o log number r.vertex records
    → r.vertex < o.edges.size → o.edges.size ≡ o.table.shape.fixed → r.at ≡ get_or o.stamps r.vertex 0 → r.at ≤ o.table.shape.base
    → AreNeighbours o.edges r.vertex r.neighbours → Filling o log number (r.vertex + STRIPES) (records ++ r ∷ [])
filling_more o log number records r f small size is old near =
    let long : length (records ++ r ∷ []) ≡ length records + 1 = length-append records (r ∷ []) in
    let new : IsRecord o log r.vertex r = record {
      vertex = refl;
      was = opened_with o.table o.edges log r (omega (arith, small, size)) old near;
      newer = omega (arith, is);
    } in
    let Says : ℕ → UsedEdges → Type 0 = λ i x. IsRecord o log (vertex_at number i) x × (x.at ≡ get_or o.stamps (vertex_at number i) 0) in
    let all : (i : ℕ) (d : UsedEdges) → i < length (records ++ r ∷ []) → Says i (get_or (records ++ r ∷ []) i d) =
    λ i d l. elim (cases_eq i (length records)) [
      | inl e ↦
          let vertex : r.vertex ≡ vertex_at number i = omega (arith, f.next, e) in
          subst (Says i) (sym (get_or_push records r d i (sym e)))
          (subst (λ (v : ℕ). IsRecord o log v r × (r.at ≡ get_or o.stamps v 0)) vertex (new, is))
      | inr other ↦
          let within : i < length records = omega (arith, l, long, other) in
          subst (Says i) (sym (get_or_append_left records (r ∷ []) d i within)) (f.each i d within, f.opening i d within)
    ] in
    record {
      next = omega (arith, f.next, long);
      begun = λ i l. elim (cases_eq i (length records)) [
        | inl e ↦ omega (arith, f.next, small, e)
        | inr other ↦ f.begun i (omega (arith, l, long, other))
      ];
      each = λ i d l. (all i d l).0;
      opening = λ i d l. (all i d l).1;
    }

-- the records of all its vertices make a stripe
pub stripe-filled : (o : Opened) (log : List Event) (number vertex : ℕ) (records : List UsedEdges) → Filling o log number vertex records → number < STRIPES
    → o.edges.size ≡ o.table.shape.fixed → o.edges.size ≤ vertex → IsStripe (record { number = number; opened = o; seen = log; records = records })
stripe-filled o log number vertex records f few size ends = record {
  few = few;
  size = size;
  places = λ i. elim (cases_lt i (length records)) [
    | inl l ↦ lt-ltb i (length records) l ∙ sym (lt-ltb (vertex_at number i) o.edges.size (f.begun i l))
    | inr ge ↦ le-ltb i (length records) ge ∙ sym (le-ltb (vertex_at number i) o.edges.size (omega (arith, f.next, ends, ge)))
  ];
  each = f.each;
}

-- in a stripe that was filled each record is under the opening stamp of its vertex
pub filled_at : (o : Opened) (log : List Event) (number vertex : ℕ) (records : List UsedEdges) → Filling o log number vertex records → number < STRIPES
    → o.edges.size ≡ o.table.shape.fixed → o.edges.size ≤ vertex → (v : ℕ)
    → belongs (record { number = number; opened = o; seen = log; records = records }) v ≡ true
    → (record_of (record { number = number; opened = o; seen = log; records = records }) v).at ≡ get_or o.stamps v 0
filled_at o log number vertex records f few size ends v here =
    let s : Striped = record { number = number; opened = o; seen = log; records = records } in
    let place = place_in s v (stripe-filled o log number vertex records f few size ends) here in
    f.opening (v / STRIPES) no_list place ∙ ap (λ n. get_or o.stamps n 0) (place_is s v here)
