-- Each kind of moves by its own function.
use Rattle.std.proofs.Common.{◌≡◌, ◌<◌, ◌+◌, ◌-◌, ◌++◌, ℕ, List, true, Vec, Global, sym, ap, ◌∙◌, subst, arith}
use Rattle.kc_lists.specs.Lists.{member}
use Rattle.kc_lists.proofs.Members.{member-append_left}
use Rattle.kc_graph.specs.Plans.{put_between, renumbered, shifted}
use Rattle.kc_graph.specs.declared.plan.Moves.{Moves}
use Rattle.kc_graph.specs.declared.plan.Moves.TheVariants.{Rise, Fall}
use Rattle.kc_cert.specs.Local.{firsts}
use Rattle.kc_cert.proofs.Holding.{renumbered-moved}
use Rattle.kc_levels.specs.Heads.{under, up_to}
use Rattle.kc_levels.specs.Levels.{Levelled, size_of}
use Rattle.kc_levels.specs.Makes.{MakesAll, Makes, MayMake, backwards}
use Rattle.kc_levels.proofs.Steps.{makes-none}
use Rattle.kc_levels.proofs.making.make_moves.Goals as goal

-- a vertex that rises was of the level, and there is room for the level above
rise-room : (l : Levelled) (moves : Moves) (level : ℕ) (rise : Vec ℕ Global) (shifts : Vec (ℕ × ℕ) Global) (xs : List ℕ) → MayMake l moves
    → moves ≡ Rise level rise shifts → xs ≡ rise.items → (v : ℕ) → member v xs ≡ true → level + 1 < size_of l
rise-room l moves level rise shifts xs may is same v m =
    let h = subst (MayMake l) is may in
    let there : member v rise.items ≡ true = ap (member v) (sym same) ∙ m in
    let vertex : v < size_of l = (h.fit.of_level v (member-append_left v rise.items (firsts shifts.items) there)).vertex in
    omega (arith, h.low v vertex, renumbered-moved rise.items (level + 1) l.core v (omega (arith, vertex, h.are.long)) there)

-- what the function for rises makes is what the moves make
made-rise : (old new : Levelled) (moves : Moves) (level : ℕ) (rise : Vec ℕ Global) (shifts : Vec (ℕ × ℕ) Global) (xs : List ℕ) (ys : List (ℕ × ℕ))
    → moves ≡ Rise level rise shifts → xs ≡ rise.items → ys ≡ shifts.items
    → MakesAll old new (firsts ys ++ backwards xs) (xs ++ firsts ys) (put_between (up_to old.core level) xs (shifted ys old.order))
    (renumbered xs (level + 1) old.core) → Makes old new moves
made-rise old new moves level rise shifts xs ys is same-xs same-ys h =
    subst (Makes old new) (sym is)
    (subst (λ (z : List ℕ × List (ℕ × ℕ)). MakesAll old new (firsts z.1 ++ backwards z.0) (z.0 ++ firsts z.1)
    (put_between (up_to old.core level) z.0 (shifted z.1 old.order)) (renumbered z.0 (level + 1) old.core)) (λ i. (same-xs i, same-ys i)) h)

-- what the function for falls makes is what the moves make
made-fall : (old new : Levelled) (moves : Moves) (level : ℕ) (fall : Vec ℕ Global) (xs : List ℕ) → moves ≡ Fall level fall → xs ≡ fall.items
    → MakesAll old new xs xs (put_between (under old.core level) xs old.order) (renumbered xs (level - 1) old.core) → Makes old new moves
made-fall old new moves level fall xs is same h =
    subst (Makes old new) (sym is) (subst (λ (z : List ℕ).
    MakesAll old new z z (put_between (under old.core level) z old.order) (renumbered z (level - 1) old.core)) same h)

pub make_rise-requires-clause-room : goal.make_rise-requires-clause-room
make_rise-requires-clause-room c =
    rise-room c.args.levels.now c.args.moves.now c.in-Rise.level c.in-Rise.rise c.in-Rise.shifts c.deref.result.now c.requires.may c.in-Rise.is
    c.deref.ensures.value

pub returns-in-Kept : goal.returns-in-Kept
returns-in-Kept c = subst (Makes c.args.levels.now c.args.levels.now) (sym c.in-Kept.is) (makes-none c.args.levels.now c.requires.may.are c.requires.may.fresh)

pub returns-in-Plain : goal.returns-in-Plain
returns-in-Plain c = subst (Makes c.args.levels.now c.args.levels.now) (sym c.in-Plain.is)
    (makes-none c.args.levels.now c.requires.may.are c.requires.may.fresh)

pub returns-in-Rise : goal.returns-in-Rise
returns-in-Rise c =
    made-rise c.args.levels.now c.make_rise.new.levels c.args.moves.now c.in-Rise.level c.in-Rise.rise c.in-Rise.shifts c.deref.result.now
    c.deref-in-Rise.result.now c.in-Rise.is c.deref.ensures.value c.deref-in-Rise.ensures.value c.make_rise.ensures

pub returns-in-Fall : goal.returns-in-Fall
returns-in-Fall c =
    made-fall c.args.levels.now c.make_fall.new.levels c.args.moves.now c.in-Fall.level c.in-Fall.fall c.deref-in-Fall.result.now c.in-Fall.is
    c.deref-in-Fall.ensures.value c.make_fall.ensures
