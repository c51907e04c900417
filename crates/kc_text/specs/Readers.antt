-- What a reader has been told so far.
use Rattle.std.specs.Prelude.{◌≡◌, ◌≤◌, ◌+◌, ◌⊎◌, ◌||◌, ℕ, Bool, true, false, List, [], ◌∷◌, ◌++◌, map, length, Option, Some, None, is_some, nat_lt, IfSome, nat_eq}
use Rattle.std.specs.List.{filter}
use Rattle.std.specs.Option.{option_map}
use Rattle.std.specs.Set.{distinct_count, is_member}
use Rattle.std.specs.HashSet.{HashSet, contains, hash_set_len}
use Rattle.kc_text.specs.declared.reader.Reader.{Reader}
use Rattle.kc_text.specs.declared.refusal.Refusal.{Refusal}
use Rattle.kc_text.specs.Meaning.{Meaning, Means, Refuses, Told, batches, changes, names}
use Rattle.kc_text.specs.TellingLines.{is_telling, lines_of}
use Rattle.kc_text.specs.declared.kind.Kind.{Kind}
use Rattle.kc_text.specs.declared.line.TextLine.{TextLine}
use Rattle.kc_text.specs.declared.limits.Limits.{Limits}

-- what a reader keeps as told: the edges, the batches before the last one, and the last one
abbrev pub told_by : Reader → Told
told_by reader = record {
  edges = reader.edges.items;
  earlier = map (λ batch. batch.items) reader.earlier.items;
  last = option_map (λ batch. batch.items) reader.last;
}

-- the lines that told this
abbrev pub told_lines : Told → List TextLine
told_lines told = lines_of told.edges (batches told)

-- The lines that told what was kept, and one more: they are those that tell what is kept now, and none is left where the line is not
-- refused.
pub record IsTold (cause : Option Kind) (old : Told) (line : TextLine) (new : Told) : Type 0 where
  pub more : List TextLine
  pub told : told_lines old ++ filter is_telling (line ∷ []) ≡ told_lines new ++ more
  pub whole : cause ≡ None → more ≡ []

-- the set, if there is one, has just these ids
abbrev pub HasIds : {S : Type 0} → Option (HashSet ℕ S) → List ℕ → Type 0
HasIds ids named = IfSome ids (λ ids. (id : ℕ) → contains nat_eq ids id ≡ is_member nat_eq named id)

-- no batch is an earlier one where there is no last one
abbrev pub HasBegun : Told → Type 0
HasBegun told = told.last ≡ None → told.earlier ≡ []

-- what a reader keeps beside what it was told
pub record ReaderKeeps (reader : Reader) : Type 0 where
  pub ids : HasIds reader.ids (names (told_by reader))
  pub changes : reader.changes ≡ length (changes (told_by reader))
  pub begun : HasBegun (told_by reader)

-- the different ids are within the limit
abbrev pub NamesFew : Limits → Told → Type 0
NamesFew limits told = distinct_count nat_eq (names told) ≤ limits.ids

-- it counts the ids line by line, or there are not too many
abbrev pub IsExact : Limits → Reader → Type 0
IsExact limits reader = (is_some reader.ids ≡ true) ⊎ NamesFew limits (told_by reader)

-- so many edge lines may come in one go: there is no batch, no ids are counted line by line, and the lines are within the limit
pub record HasRoom (limits : Limits) (reader : Reader) (more : ℕ) : Type 0 where
  pub before_batches : reader.last ≡ None
  pub quick : reader.ids ≡ None
  pub few : length reader.edges.items + more ≤ limits.edge_lines

-- the set, if there is one, has two more ids
abbrev pub Gains : {S : Type 0} → Option (HashSet ℕ S) → Option (HashSet ℕ S) → ℕ → ℕ → Type 0
Gains None None a b = Unit {0}
Gains None (Some new) a b = ⊥
Gains (Some old) None a b = ⊥
Gains (Some old) (Some new) a b = (id : ℕ) → contains nat_eq new id ≡ (nat_eq id b || (nat_eq id a || contains nat_eq old id))

-- whether the set, if there is one, has more ids than the limit
abbrev pub is_over : {S : Type 0} → ℕ → Option (HashSet ℕ S) → Bool
is_over limit None = false
is_over limit (Some ids) = nat_lt limit (hash_set_len ids)

-- the meaning, as the reading ends
abbrev pub outcome : Told → Option Refusal → Meaning
outcome told None = Means told
outcome told (Some refusal) = Refuses refusal.line refusal.kind
