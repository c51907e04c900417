-- What is left of the line has the column that is left.
use Rattle.std.proofs.Common.{◌≡◌, ◌≤◌, ◌+◌, ◌∷◌, ℕ, List, Option, Some, Bor, false, length, ap, sym, ◌∙◌, arith}
use Rattle.kc_dialect.specs.Columns.{fields_in, in_column, parts}
use Rattle.kc_dialect.proofs.Cells.{fields_left, in-zero, left-len-is, left_len, parts-are, parts_left, pass-field, pass-part, seen, this-field}
use Rattle.kc_dialect.proofs.columns.field_in.Goals as goal
use Rattle.kc_dialect.proofs.columns.field_in.Goals.{then-is_field+else-left-le1, else-is_field, In-Some, After-cut_part}

-- the column is among the fields of the bytes that are left
here : (c : In-Some) → in_column c.args.column (fields_in c.args.separator c.args.line.now)
    ≡ in_column c.loop-rest.left (fields_left c.args.separator c.loop-rest.before (Some c.in-Some.bytes.now))
here c = c.loop-rest.invariant.same
    ∙ ap (λ (o : Option (Bor (List ℕ))). in_column c.loop-rest.left (fields_left c.args.separator c.loop-rest.before (seen o))) c.in-Some.is

-- they are cut into a part and what is left behind it
cut : (c : After-cut_part) → parts c.args.separator false c.in-Some.bytes.now ≡ c.cut_part.result.0.now ∷ parts_left c.args.separator (seen c.cut_part.result.1)
cut c = parts-are c.args.separator c.in-Some.bytes.now c.cut_part.result.0.now c.cut_part.result.1 c.cut_part.ensures.parts

-- that many they are
room : (c : After-cut_part) → c.loop-rest.before + (length c.in-Some.bytes.now + 1) ≤ length c.args.line.now + 1
room c = rw (ap (λ (o : Option (Bor (List ℕ))). left_len (seen o)) c.in-Some.is) at c.loop-rest.invariant.within

pub loop-rest-preserved : goal.loop-rest-preserved
loop-rest-preserved c =
    let at = goal.at.loop-rest-preserved c in
    let separator = c.args.separator in
    let before : ℕ = c.loop-rest.before in
    let bytes : List ℕ = c.in-Some.bytes.now in
    let part : List ℕ = c.cut_part.result.0.now in
    let rest : Option (List ℕ) = seen c.cut_part.result.1 in
    record {
      same = elim c.if-is_field.branch [
        | then-is_field+else-left-le1 w ↦
            here at.In-Some
            ∙ pass-field separator before c.loop-rest.left bytes part rest (cut at.After-cut_part) (sym c.is_field.ensures ∙ w.if-is_field.true)
            w.if-left-le1.false
            ∙ ap (λ k. in_column k (fields_left separator (before + (length part + 1)) rest)) (sym w.left-is)
        | else-is_field w ↦
            here at.In-Some
            ∙ pass-part separator before c.loop-rest.left bytes part rest (cut at.After-cut_part) (sym c.is_field.ensures ∙ w.if-is_field.false)
            ∙ ap (λ k. in_column k (fields_left separator (before + (length part + 1)) rest)) (sym w.left-is)
      ];
      within = omega (arith, room at.After-cut_part, left-len-is bytes part c.cut_part.result.1 c.cut_part.ensures.lengths);
    }

pub returns-then-left-eq1-clause-within : goal.returns-then-left-eq1-clause-within
returns-then-left-eq1-clause-within c =
    let at = goal.at.returns-then-left-eq1-clause-within c in
    omega (
      arith,
      room at.After-cut_part,
      c.field_of.ensures.within,
      left-len-is c.in-Some.bytes.now c.cut_part.result.0.now c.cut_part.result.1 c.cut_part.ensures.lengths,
    )

pub returns-then-left-eq1-clause-found : goal.returns-then-left-eq1-clause-found
returns-then-left-eq1-clause-found c =
    let at = goal.at.returns-then-left-eq1-clause-found c in
    let before : ℕ = c.loop-rest.before in
    here at.In-Some
    ∙ ap (λ k. in_column k (fields_left c.args.separator before (Some c.in-Some.bytes.now))) c.if-left-eq1.true
    ∙ this-field c.args.separator before c.in-Some.bytes.now c.cut_part.result.0.now (seen c.cut_part.result.1) (cut at.After-cut_part)
    (sym c.is_field.ensures ∙ c.if-is_field.true)
    ∙ ap (λ (f : ℕ × List ℕ). Some f) (sym c.field_of.ensures.field)

pub returns-else-left-eq1-clause-found : goal.returns-else-left-eq1-clause-found
returns-else-left-eq1-clause-found c =
    let at = goal.at.returns-else-left-eq1-clause-found c in
    let left : List (ℕ × List ℕ) = fields_left c.args.separator c.loop-rest.before (Some c.in-Some.bytes.now) in
    let none : c.loop-rest.left ≡ 0 = omega (arith, c.if-left-eq1.false) in
    here at.In-Some ∙ ap (λ k. in_column k left) none ∙ in-zero left

pub returns-clause-found : goal.returns-clause-found
returns-clause-found c = c.loop-rest.invariant.same
    ∙ ap (λ (o : Option (Bor (List ℕ))). in_column c.loop-rest.left (fields_left c.args.separator c.loop-rest.before (seen o))) c.in_default.is
