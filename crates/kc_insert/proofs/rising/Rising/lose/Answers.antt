-- A vertex that the loss makes too weak is put on the list of these.
use Rattle.std.proofs.Common.{◌≡◌, ◌∙◌, ℕ, Bool, true, false, not, ◌&&◌, List, [], ◌∷◌, ◌++◌, refl, sym, ap}
use Rattle.std.proofs.lemmas.Bool.{false≢true}
use Rattle.kc_marks.specs.Maps.{VertexMap, value_of}
use Rattle.kc_insert.specs.Turns.{taken_from, recounted, grown}
use Rattle.kc_insert.specs.declared.rising.Mark.{Mark}
use Rattle.kc_insert.proofs.rising.Rising.lose.Goals as goal

-- the list has one more where one is found
grown-by_one : (was is : Bool) (y : ℕ) (xs : List ℕ) → (not was && is) ≡ true → grown was is y xs ≡ xs ++ y ∷ []
grown-by_one true is y xs e = absurd (false≢true e)
grown-by_one false true y xs e = refl
grown-by_one false false y xs e = absurd (false≢true e)

pub returns-in_ok-add_weak : goal.returns-in_ok-add_weak
returns-in_ok-add_weak c =
    let w = c.weaken.ensures in
    let a = c.in_ok-add_weak.ensures in
    let same : (z : ℕ) → value_of c.add_weak.new.self.marks z ≡ value_of c.weaken.new.self.seen.marks z =
    λ z. ap (λ (m : VertexMap Mark). value_of m z) a.marks in
    let old : List ℕ = c.args.self.now.seen.weak.items in
    record {
      marked = λ mark is.
          let m = w.marked mark is in
          let taken : Mark = taken_from c.args.loss mark in
          let found = grown-by_one taken.is_weak (recounted c.args.level taken).is_weak c.args.y old (sym m.1 ∙ c.if-weaken.true) in
          record {
            marks = record { here = same c.args.y ∙ m.0.here; others = λ z ne. same z ∙ m.0.others z ne };
            weak = a.ok ∙ (ap (λ xs. xs ++ c.args.y ∷ []) w.rest.2 ∙ sym found);
            queue = w.rest.0;
            turn = w.rest.1;
            shifts = w.rest.3;
          };
      unmarked = λ none. absurd (false≢true (sym (w.unmarked none).1 ∙ c.if-weaken.true));
    }
