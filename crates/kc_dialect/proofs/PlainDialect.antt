-- What a text of a graph says in the plain dialect.
use Rattle.std.proofs.Common.{◌≡◌, ◌≤◌, ◌+◌, ◌++◌, ℕ, suc, Bool, List, [], ◌∷◌, length, map, take, drop, refl, sym, ap, subst, ◌∙◌, arith, inl}
use Rattle.std.proofs.Common.{inr, cond, true, false, ◌&&◌, ◌==◌}
use Rattle.std.proofs.Common.{Option, Some, None, Result, Ok, Err, nat_lt, eqb-true, le-ltb}
use Rattle.std.specs.Prelude.{codes, is_some, slice_index}
use Rattle.std.specs.List.{filter, onto_first, position_or_len, slice_split}
use Rattle.std.specs.Str.{bytes_eq}
use Rattle.std.proofs.lemmas.Bool.{cases_Bool, and_parts, true≢false}
use Rattle.kc_text.specs.declared.change.ChangeLine.{ChangeLine}
use Rattle.kc_text.specs.declared.kind.Kind.{Kind}
use Rattle.kc_text.specs.declared.kind.Kind.TheVariants.{NotANumber, TooLong}
use Rattle.kc_text.specs.declared.limits.Limits.{Limits}
use Rattle.kc_text.specs.declared.line.TextLine.{TextLine}
use Rattle.kc_text.specs.declared.line.TextLine.TheVariants.{Nothing, Edge, Batch, Change, Wrong}
use Rattle.kc_text.specs.Forms.{all_said, batch_form, change_form, edge_form, first_number, is_comment, last_number, line_of, number, said_by}
use Rattle.kc_text.specs.Forms.{two_numbers, value}
use Rattle.kc_text.specs.Lines.{fields, is_blank, is_not_empty}
use Rattle.kc_text.specs.Meaning.{Meaning, Means, Refuses, Told, ends_or, meaning, nothing_told, or_else, passed_limit, reading, refusal, unfit, with_line}
use Rattle.kc_text.proofs.FieldCuts.{fields-first}
use Rattle.kc_dialect.specs.declared.bad_line.BadField.{BadField}
use Rattle.kc_dialect.specs.declared.bad_line.BadLine.{BadLine}
use Rattle.kc_dialect.specs.declared.dialect.Separator.TheVariants.{Blank}
use Rattle.kc_dialect.specs.declared.dialect.TheConstants.Dialect.{PLAIN}
use Rattle.kc_dialect.specs.Columns.{checked, field_of, fields_from, fields_in, in_column, is_field, number_in_column, checked_in, parts, placed_parts}
use Rattle.kc_dialect.specs.Dialects.{bad_line, bad_lines_after, both, said_after, pair_in, says_nothing, without_mark}
use Rattle.kc_dialect.specs.Sayings.{saying, sayings}
use Rattle.kc_dialect.proofs.Spelled.{spells-value}

-- the line says an edge or nothing
abbrev pub IsOfGraph : TextLine → Type 0
IsOfGraph Nothing = Unit {0}
IsOfGraph (Edge a b) = Unit {0}
IsOfGraph Batch = ⊥
IsOfGraph (Change c) = ⊥
IsOfGraph (Wrong kind) = ⊥

-- so does each of the lines
abbrev pub AreOfGraph : List TextLine → Type 0
AreOfGraph [] = Unit {0}
AreOfGraph (line ∷ rest) = IsOfGraph line × AreOfGraph rest

-- a reading that goes on has no cause to end
goes : (cause : Option Kind) (n : ℕ) (rest : Meaning) (told : Told) → ends_or cause n rest ≡ Means told → (cause ≡ None) × (rest ≡ Means told)
goes None n rest told e = (refl, e)
goes (Some kind) n rest told e = absurd (cc)

-- a batch that was told stays told
keeps-batch : (told : Told) (line : TextLine) → is_some told.last ≡ true → is_some (with_line told line).last ≡ true
keeps-batch told Nothing h = h
keeps-batch told (Edge a b) h = h
keeps-batch told Batch h = refl
keeps-batch told (Change c) h = refl
keeps-batch told (Wrong kind) h = h

-- so it is told at the end
last-told : (limits : Limits) (n : ℕ) (t : Told) (ls : List TextLine) (told : Told) → reading limits n t ls ≡ Means told → is_some t.last ≡ true
    → is_some told.last ≡ true
last-told limits n t [] told e h = let same : t ≡ told = cc in ap (λ (x : Told). is_some x.last) (sym same) ∙ h
last-told limits n t (line ∷ rest) told e h =
    let (none, more) = goes (refusal limits t line) (n + 1) (reading limits (n + 1) (with_line t line) rest) told e in
    last-told limits (n + 1) (with_line t line) rest told more (keeps-batch t line h)

-- where no batch is told at the end, none was told before
no-batch : (limits : Limits) (n : ℕ) (t : Told) (ls : List TextLine) (told : Told) → reading limits n t ls ≡ Means told → told.last ≡ None
    → is_some t.last ≡ true → ⊥
no-batch limits n t ls told e none h = true≢false (sym (last-told limits n t ls told e h) ∙ ap is_some none)

-- a change is refused where no batch is told
change-refused : (last : Option (List ChangeLine)) (c : ChangeLine) (limit : Option Kind) → or_else (unfit last c) limit ≡ None → is_some last ≡ true
change-refused None c limit e = absurd (cc)
change-refused (Some batch) c limit e = refl

-- the line is of a graph, where the reading goes on and ends without a batch
first-of-graph : (limits : Limits) (n : ℕ) (t : Told) (line : TextLine) (rest : List TextLine) (told : Told) → refusal limits t line ≡ None
    → reading limits (n + 1) (with_line t line) rest ≡ Means told → reading limits n t (line ∷ rest) ≡ Means told → told.last ≡ None → IsOfGraph line
first-of-graph limits n t Nothing rest told fine more e none = tt
first-of-graph limits n t (Edge a b) rest told fine more e none = tt
first-of-graph limits n t Batch rest told fine more e none = no-batch limits (n + 1) (with_line t Batch) rest told more none refl
first-of-graph limits n t (Change c) rest told fine more e none =
    no-batch limits n t (Change c ∷ rest) told e none (change-refused t.last c (passed_limit limits (with_line t (Change c))) fine)
first-of-graph limits n t (Wrong kind) rest told fine more e none = absurd (cc)

-- all lines of a text are of a graph that means something without batches
pub lines-of-graph : (limits : Limits) (n : ℕ) (t : Told) (ls : List TextLine) (told : Told) → reading limits n t ls ≡ Means told → told.last ≡ None
    → AreOfGraph ls
lines-of-graph limits n t [] told e none = tt
lines-of-graph limits n t (line ∷ rest) told e none =
    let (fine, more) = goes (refusal limits t line) (n + 1) (reading limits (n + 1) (with_line t line) rest) told e in
    (first-of-graph limits n t line rest told fine more e none, lines-of-graph limits (n + 1) (with_line t line) rest told more none)

-- a line that begins with the first byte of a mark is wrong
pub marked-wrong : (bytes : List ℕ) → said_by (239 ∷ bytes) ≡ Wrong NotANumber
marked-wrong bytes =
    let xs : List ℕ = 239 ∷ bytes in
    let n : position_or_len is_blank xs ≡ suc (position_or_len is_blank bytes) = omega arith in
    ap line_of (fields-first 239 bytes refl ∙ ap (λ k. take k xs ∷ fields (drop k xs)) n)

-- so a line of a graph has no mark
no-mark : (line : List ℕ) → IsOfGraph (said_by line) → without_mark line ≡ line
no-mark [] h = refl
no-mark (x ∷ xs) h =
    let rest : Bool = slice_index (x ∷ xs) 1 == 187 && slice_index (x ∷ xs) 2 == 191 in
    elim (cases_Bool (x == 239 && rest)) [
      | inl m ↦
          let is : x ≡ 239 = eqb-true x 239 (and_parts (x == 239) rest m).0 in
          absurd (subst IsOfGraph (ap (λ k. said_by (k ∷ xs)) is ∙ marked-wrong xs) h)
      | inr m ↦ ap (λ b. cond b (drop 3 (x ∷ xs)) (x ∷ xs)) m
    ]

-- blanks part a line as no quotes stand in the way
plain-parts : (bytes : List ℕ) → parts Blank false bytes ≡ slice_split is_blank bytes
plain-parts [] = refl
plain-parts (b ∷ bytes) =
    elim (is_blank b) as (λ t. cond (t && true) ([] ∷ parts Blank false bytes) (onto_first b (parts Blank false bytes))
    ≡ cond t ([] ∷ slice_split is_blank bytes) (onto_first b (slice_split is_blank bytes))) [
      | true ↦ ap (λ (t : List (List ℕ)). [] ∷ t) (plain-parts bytes)
      | false ↦ ap (onto_first b) (plain-parts bytes)
    ]

-- parts that are not empty are the fields, wherever they stand
fields-placed : (n : ℕ) (cells : List (List ℕ)) → map (λ (f : ℕ × List ℕ). f.1) (fields_from Blank n cells) ≡ filter is_not_empty cells
fields-placed n [] = refl
fields-placed n (part ∷ rest) =
    let more : List (ℕ × List ℕ) = filter (λ (cell : ℕ × List ℕ). is_field Blank cell.1) (placed_parts (n + length part + 1) rest) in
    elim (is_not_empty part) as (λ t. map (λ (f : ℕ × List ℕ). f.1) (map (field_of Blank) (cond t ((n, part) ∷ more) more))
    ≡ cond t (part ∷ filter is_not_empty rest) (filter is_not_empty rest)) [
      | true ↦ ap (λ (t : List (List ℕ)). part ∷ t) (fields-placed (n + length part + 1) rest)
      | false ↦ fields-placed (n + length part + 1) rest
    ]

-- the fields between blanks are those of a plain line
fields-plain : (line : List ℕ) → map (λ (f : ℕ × List ℕ). f.1) (fields_in Blank line) ≡ fields line
fields-plain line = fields-placed 0 (parts Blank false line) ∙ ap (filter is_not_empty) (plain-parts line)

-- the number in a column among fields of which two are known
pub first-column : (end : ℕ) (placed' : List (ℕ × List ℕ)) (first : List ℕ) (rest : List (List ℕ)) (a : ℕ)
    → map (λ (f : ℕ × List ℕ). f.1) placed' ≡ first ∷ rest → number first ≡ Ok a → checked_in end (in_column 1 placed') ≡ Ok first
first-column end [] first rest a e p = absurd (cc)
first-column end (f ∷ fs) first rest a e p =
    let same : f.1 ≡ first = cc in
    ap (checked f) (ap number same ∙ p) ∙ ap (λ (t : List ℕ). Ok t) same

-- and in the second
pub second-column : (end : ℕ) (placed' : List (ℕ × List ℕ)) (first second : List ℕ) (rest : List (List ℕ)) (b : ℕ)
    → map (λ (f : ℕ × List ℕ). f.1) placed' ≡ first ∷ second ∷ rest → number second ≡ Ok b → checked_in end (in_column 2 placed') ≡ Ok second
second-column end [] first second rest b e p = absurd (cc)
second-column end (f ∷ []) first second rest b e p = absurd (cc)
second-column end (f ∷ g ∷ fs) first second rest b e p =
    let same : g.1 ≡ second = cc in
    ap (checked g) (ap number same ∙ p) ∙ ap (λ (t : List ℕ). Ok t) same

-- two fields of an edge line
record IsEdgeOf (first : List ℕ) (rest : List (List ℕ)) (line : TextLine) : Type 0 where
  second : List ℕ
  two : rest ≡ second ∷ []
  a : ℕ
  b : ℕ
  spells_a : number first ≡ Ok a
  spells_b : number second ≡ Ok b
  edge : line ≡ Edge a b

-- where the second is the last
edge-second : (a : ℕ) (first second : List ℕ) (more : List (List ℕ)) (found : Result ℕ Kind) → number first ≡ Ok a → number second ≡ found
    → IsOfGraph (edge_form (last_number a found more)) → IsEdgeOf first (second ∷ more) (edge_form (last_number a found more))
edge-second a first second more (Err kind) p q h = absurd h
edge-second a first second [] (Ok b) p q h = record { second = second; two = refl; a = a; b = b; spells_a = p; spells_b = q; edge = refl }
edge-second a first second (extra ∷ more) (Ok b) p q h = absurd h

-- an edge line has just two fields, and they spell its ends
edge-parts : (first : List ℕ) (rest : List (List ℕ)) (found : Result ℕ Kind) → number first ≡ found → IsOfGraph (edge_form (first_number found rest))
    → IsEdgeOf first rest (edge_form (first_number found rest))
edge-parts first rest (Err kind) p h = absurd h
edge-parts first [] (Ok a) p h = absurd h
edge-parts first (second ∷ more) (Ok a) p h = edge-second a first second more (number second) p refl h

-- no batch line is of a graph
no-batch-form : (rest : List (List ℕ)) → IsOfGraph (batch_form rest) → ⊥
no-batch-form [] h = h
no-batch-form (extra ∷ rest) h = h

-- nor is a change
no-change-form : (add : Bool) (found : Result (ℕ × ℕ) Kind) → IsOfGraph (change_form add found) → ⊥
no-change-form add (Ok pair) h = h
no-change-form add (Err kind) h = h

-- a line of a graph that has a field which begins no comment is an edge line
edge-form : (first : List ℕ) (rest : List (List ℕ)) → is_comment first ≡ false → IsOfGraph (line_of (first ∷ rest))
    → line_of (first ∷ rest) ≡ edge_form (two_numbers (first ∷ rest))
edge-form first rest none h =
    let edge : TextLine = edge_form (two_numbers (first ∷ rest)) in
    let minus : TextLine = cond (bytes_eq first (codes "-")) (change_form false (two_numbers rest)) edge in
    let plus : TextLine = cond (bytes_eq first (codes "+")) (change_form true (two_numbers rest)) minus in
    let batch : TextLine = cond (bytes_eq first (codes "batch")) (batch_form rest) plus in
    let start : line_of (first ∷ rest) ≡ batch = ap (λ t. cond t Nothing batch) none in
    elim (cases_Bool (bytes_eq first (codes "batch"))) [
      | inl e ↦ absurd (no-batch-form rest (subst IsOfGraph (start ∙ ap (λ t. cond t (batch_form rest) plus) e) h))
      | inr e ↦
          let at-plus : line_of (first ∷ rest) ≡ plus = start ∙ ap (λ t. cond t (batch_form rest) plus) e in
          elim (cases_Bool (bytes_eq first (codes "+"))) [
            | inl f ↦ absurd (no-change-form true (two_numbers rest)
                (subst IsOfGraph (at-plus ∙ ap (λ t. cond t (change_form true (two_numbers rest)) minus) f) h))
            | inr f ↦
                let at-minus : line_of (first ∷ rest) ≡ minus = at-plus ∙ ap (λ t. cond t (change_form true (two_numbers rest)) minus) f in
                elim (cases_Bool (bytes_eq first (codes "-"))) [
                  | inl g ↦ absurd (no-change-form false (two_numbers rest)
                      (subst IsOfGraph (at-minus ∙ ap (λ t. cond t (change_form false (two_numbers rest)) edge) g) h))
                  | inr g ↦ at-minus ∙ ap (λ t. cond t (change_form false (two_numbers rest)) edge) g
                ]
          ]
    ]

-- what a line says in the plain dialect: the same as a plain line
abbrev SaysSame : List ℕ → Result (Option (List ℕ × List ℕ)) BadField → Type 0
SaysSame line said = (saying said ≡ said_by line) × ((n : ℕ) → bad_line n said ≡ [])

-- what spells two numbers spells one
same-value : (digits : List ℕ) (n m : ℕ) → number digits ≡ Ok n → number digits ≡ Ok m → n ≡ m
same-value digits n m p q = cc (p, q)

-- a line of a graph with such fields
pair-same : (line : List ℕ) (fs : List (List ℕ)) → fields line ≡ fs → IsOfGraph (line_of fs)
    → (saying (pair_in PLAIN line) ≡ line_of fs) × ((n : ℕ) → bad_line n (pair_in PLAIN line) ≡ [])
pair-same line [] e h =
    let is : pair_in PLAIN line ≡ Ok None =
    ap (λ t. cond (says_nothing t) (Ok None) (both (number_in_column Blank 1 line) (number_in_column Blank 2 line))) e in
    (ap saying is, λ n. ap (bad_line n) is)
pair-same line (first ∷ rest) e h =
    let numbers : Result (Option (List ℕ × List ℕ)) BadField = both (number_in_column Blank 1 line) (number_in_column Blank 2 line) in
    let start : pair_in PLAIN line ≡ cond (is_comment first) (Ok None) numbers = ap (λ t. cond (says_nothing t) (Ok None) numbers) e in
    elim (cases_Bool (is_comment first)) [
      | inl m ↦
          let is : pair_in PLAIN line ≡ Ok None = start ∙ ap (λ b. cond b (Ok None) numbers) m in
          let edge : TextLine = edge_form (two_numbers (first ∷ rest)) in
          let none : line_of (first ∷ rest) ≡ Nothing =
          ap (λ b. cond b Nothing (cond (bytes_eq first (codes "batch")) (batch_form rest)
          (cond (bytes_eq first (codes "+")) (change_form true (two_numbers rest))
          (cond (bytes_eq first (codes "-")) (change_form false (two_numbers rest)) edge)))) m in
          (ap saying is ∙ sym none, λ n. ap (bad_line n) is)
      | inr m ↦
          let form : line_of (first ∷ rest) ≡ edge_form (two_numbers (first ∷ rest)) = edge-form first rest m h in
          let r = edge-parts first rest (number first) refl (subst IsOfGraph form h) in
          let at : map (λ (f : ℕ × List ℕ). f.1) (fields_in Blank line) ≡ first ∷ r.second ∷ [] =
          fields-plain line ∙ e ∙ ap (λ (t : List (List ℕ)). first ∷ t) r.two in
          let one : number_in_column Blank 1 line ≡ Ok first = first-column (length line) (fields_in Blank line) first (r.second ∷ []) r.a at r.spells_a in
          let two : number_in_column Blank 2 line ≡ Ok r.second = second-column (length line) (fields_in Blank line) first r.second [] r.b at r.spells_b in
          let is : pair_in PLAIN line ≡ Ok (Some (first, r.second)) =
          start ∙ ap (λ b. cond b (Ok None) numbers) m ∙ ap (λ (t : Result (List ℕ) BadField). both t (number_in_column Blank 2 line)) one
          ∙ ap (λ (t : Result (List ℕ) BadField). both (Ok first) t) two in
          let value-a : value first ≡ r.a = same-value first (value first) r.a (spells-value first r.a r.spells_a) r.spells_a in
          let value-b : value r.second ≡ r.b = same-value r.second (value r.second) r.b (spells-value r.second r.b r.spells_b) r.spells_b in
          let ends : Edge (value first) (value r.second) ≡ Edge r.a r.b =
          ap (λ k. Edge k (value r.second)) value-a ∙ ap (λ k. Edge r.a k) value-b in
          (ap saying is ∙ ends ∙ sym r.edge ∙ sym form, λ n. ap (bad_line n) is)
    ]

-- a line of a graph says the same in the plain dialect, behind so many others
line-same : (n : ℕ) (line : List ℕ) → IsOfGraph (said_by line) → SaysSame line (said_after PLAIN n line)
line-same n line h =
    let bytes : List ℕ = cond (n == 0) (without_mark line) line in
    let same : bytes ≡ line = elim (cases_Bool (n == 0)) [
      | inl z ↦ ap (λ b. cond b (without_mark line) line) z ∙ no-mark line h
      | inr z ↦ ap (λ b. cond b (without_mark line) line) z
    ] in
    let is : said_after PLAIN n line ≡ pair_in PLAIN line =
    ap (λ b. cond b (Ok None) (pair_in PLAIN bytes)) (le-ltb n 0 (omega arith)) ∙ ap (pair_in PLAIN) same in
    let (says, good) = pair-same line (fields line) refl h in
    (ap saying is ∙ says, λ k. ap (bad_line k) is ∙ good k)

-- so do lines
pub sayings-same : (n : ℕ) (ls : List (List ℕ)) → AreOfGraph (map said_by ls) → sayings PLAIN n ls ≡ map said_by ls
sayings-same n [] h = refl
sayings-same n (line ∷ rest) (first, more) =
    let (says, good) = line-same n line first in
    ap (λ (t : TextLine). t ∷ sayings PLAIN (n + 1) rest) says ∙ ap (λ (t : List TextLine). said_by line ∷ t) (sayings-same (n + 1) rest more)

-- and none of them is bad
pub no-bad-lines : (n : ℕ) (ls : List (List ℕ)) → AreOfGraph (map said_by ls) → bad_lines_after PLAIN n ls ≡ []
no-bad-lines n [] h = refl
no-bad-lines n (line ∷ rest) (first, more) =
    let (says, good) = line-same n line first in
    ap (λ (t : List BadLine). t ++ bad_lines_after PLAIN (n + 1) rest) (good (n + 1)) ∙ no-bad-lines (n + 1) rest more

-- what a text means that is not too long is what its lines tell
pub meaning-read : (limits : Limits) (bytes : List ℕ) (told : Told) → meaning limits bytes ≡ Means told
    → reading limits 0 nothing_told (all_said bytes) ≡ Means told
meaning-read limits bytes told e =
    elim (cases_Bool (nat_lt limits.bytes (length bytes))) [
      | inl h ↦
          let long : meaning limits bytes ≡ Refuses 0 TooLong = ap (λ b. cond b (Refuses 0 TooLong) (reading limits 0 nothing_told (all_said bytes))) h in
          absurd (cc)
      | inr h ↦ sym (ap (λ b. cond b (Refuses 0 TooLong) (reading limits 0 nothing_told (all_said bytes))) h) ∙ e
    ]

-- and the other way round
pub read-meaning : (limits : Limits) (bytes : List ℕ) (told : Told) → length bytes ≤ limits.bytes → reading limits 0 nothing_told (all_said bytes) ≡ Means told
    → meaning limits bytes ≡ Means told
read-meaning limits bytes told l e =
    ap (λ b. cond b (Refuses 0 TooLong) (reading limits 0 nothing_told (all_said bytes))) (le-ltb limits.bytes (length bytes) l) ∙ e
