-- A line that came is wrong, or none is and their edges are counted.
use Rattle.std.proofs.Common.{◌≡◌, ◌+◌, ◌++◌, ◌∙◌, ℕ, List, None, ap, arith, is_none, length, refl, subst, sym, true}
use Rattle.std.specs.List.Sorted.{IsStrictlyIncreasing}
use Rattle.kc_graph.specs.declared.bulk.Edge.{Edge}
use Rattle.kc_text.specs.Forms.{all_said}
use Rattle.kc_claims.specs.Insisting.{HasInsisted}
use Rattle.kc_claims.specs.LineFaults.{fault_or, first_line_fault}
use Rattle.kc_claims.specs.Places.{ArePlaces}
use Rattle.kc_claims.specs.Sweeping.{AreToldBy, HasCounted}
use Rattle.kc_claims.specs.declared.insisting.Insisting.{Insisting}
use Rattle.kc_claims.specs.declared.sweep.Sweep.{Sweep}
use Rattle.kc_claims.proofs.Counted.{HasCounted-put, HasSwept-more}
use Rattle.kc_claims.proofs.Insisted.{HasInsisted-faulty, HasInsisted-followed}
use Rattle.kc_claims.proofs.insisting.Insisting.follow.Goals as goal

-- what was counted of all that came
swept-old : (start old : Insisting) (before : List ℕ) → HasInsisted start old before → old.fault ≡ None
    → (first : Sweep) × (edges : List Edge) × HasCounted first old.sweep edges
swept-old start old before h clean =
    let f = h.followed clean in
    let (first, earlier, ends, swept) = f.begun in
    let all = f.swept first earlier ends swept in
    (first, all.edges, all.counted)

pub look-requires-clause-ascending : goal.look-requires-clause-ascending
look-requires-clause-ascending c =
    let (start, before, h) = c.requires.looked in
    let (first, edges, counted) = swept-old start c.args.self.now before h c.requires.fresh in
    subst (λ (ids : List ℕ). IsStrictlyIncreasing ids) (sym c.deref.ensures.value) counted.ascending

pub look-requires-clause-few : goal.look-requires-clause-few
look-requires-clause-few c =
    let (start, before, h) = c.requires.looked in
    let (first, edges, counted) = swept-old start c.args.self.now before h c.requires.fresh in
    omega (arith, counted.few, ap length c.deref.ensures.value)

pub look-requires-clause-placed : goal.look-requires-clause-placed
look-requires-clause-placed c =
    let (start, before, h) = c.requires.looked in
    let (first, edges, counted) = swept-old start c.args.self.now before h c.requires.fresh in
    subst (λ (ids : List ℕ). ArePlaces ids c.args.self.now.sweep.places) (sym c.deref.ensures.value) counted.placed

pub returns-in-Some : goal.returns-in-Some
returns-in-Some c = λ start before ended h.
    let old = c.args.self.now in
    let said = all_said c.args.lines.now in
    let looked = c.in_ok-looked.looked in
    HasInsisted-faulty start old _ before c.args.lines.now ended h c.requires.fresh
    (record { line = old.lines + looked.lines; fault = c.in-Some.fault })
    (ap (λ (ids : List ℕ). first_line_fault ids old.lines old.last said) (sym c.deref.ensures.value)
    ∙ c.in_ok-looked.ensures.first old.lines
    ∙ ap (λ f. fault_or (old.lines + looked.lines) f None) c.in-Some.is)
    refl
    (record { ids = refl; core = refl; rank = refl; later_each = refl; supporters_each = refl })

pub count_put-requires : goal.count_put-requires
count_put-requires c =
    let (start, before, h) = c.requires.looked in
    let (first, edges, counted) = swept-old start c.args.self.now before h c.requires.fresh in
    (first, edges, HasCounted-put first c.args.self.now.sweep _ edges counted)

pub returns : goal.returns
returns c = λ start before ended h.
    let old = c.args.self.now in
    let said = all_said c.args.lines.now in
    let looked = c.in_ok-looked.looked in
    let none : is_none looked.fault ≡ true = ap is_none c.in_default.is in
    let (told, by, same) = c.in_ok-looked.ensures.told none in
    let put : c.look.new.edges.items ≡ told = same ∙ ap (λ (es : List Edge). es ++ told) c.clear.ensures.items in
    HasInsisted-followed start old _ before c.args.lines.now ended h c.requires.fresh
    (ap (λ (ids : List ℕ). first_line_fault ids old.lines old.last said) (sym c.deref.ensures.value)
    ∙ c.in_ok-looked.ensures.first old.lines
    ∙ ap (λ f. fault_or (old.lines + looked.lines) f None) c.in_default.is)
    c.requires.fresh
    (λ first earlier ends swept.
    HasSwept-more first old.sweep c.count_put.new.self earlier c.args.lines.now told ends swept
    (subst (λ xs. AreToldBy xs said told) c.deref.ensures.value by)
    (subst (λ (es : List Edge). HasCounted first c.count_put.new.self (swept.edges ++ es)) put
    (c.in_ok-count_put.ensures first swept.edges (HasCounted-put first old.sweep _ swept.edges swept.counted))))
    (omega (arith, c.in_ok-looked.ensures.counted none))
    (c.in_ok-looked.ensures.last none)
