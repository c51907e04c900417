-- What the sections of the tests leave: the stamp of a vertex is below the number of a section that has begun.
use Rattle.std.proofs.Common.{◌≡◌, ◌+◌, ◌<◌, ◌≤◌, ℕ, zero, suc, get_or, List, [], ◌∷◌, ◌++◌, length, refl, sym, ap, ◌∙◌, arith, length-append}
use Rattle.kc_words.specs.VertexWord.{vertex_of}
use Rattle.kc_table.specs.declared.entry.Entry.{Entry}
use Rattle.kc_table.specs.declared.view.Event.{Event}
use Rattle.kc_table.specs.Legal.{MayPut, last_entry}
use Rattle.kc_table.specs.Log.{Seen, TableName, event}
use Rattle.kc_table.specs.TableState.{state_of}
use Rattle.kc_table.proofs.LegalLogs.{legal-holds, legal-prefix, state_of-nil}
use Rattle.kc_table.proofs.Stamps.{stamp-is}
use Rattle.kc_order.specs.Writers.{LeavesBeside, StoresEntry, entries_after, unsealed_after, vertex_word_after}
use Rattle.kc_agree.specs.Stamps.{number_of, place_stamp}

-- a vertex with the same word has the same stamp
pub same_stamp : (old new : Seen) (v : ℕ) → vertex_word_after new v ≡ vertex_word_after old v
    → place_stamp new.table new.log v ≡ place_stamp old.table old.log v
same_stamp old new v same =
    stamp-is new.table.shape new.table.opening new.log v
    ∙ (ap (λ z. (vertex_of z).stamp) same ∙ sym (stamp-is old.table.shape old.table.opening old.log v))

-- an entry has the next number, and no vertex has its stamp yet
pub next_entry-entered : (old new : Seen) (index value : ℕ) (e : Entry) (v : ℕ) → v < old.table.shape.fixed → StoresEntry old new index value
    → LeavesBeside new (entries_after old ++ e ∷ []) [] (vertex_word_after old)
    → (number_of new.table new.log ≡ number_of old.table old.log + 1) × (place_stamp new.table new.log v < number_of new.table new.log)
next_entry-entered old new index value e v low stores leaves =
    let next : List Event = old.log ++ event 0 index ∷ [] in
    let before = legal-prefix old.table.shape old.table.opening old.log next (event 0 index ∷ [], refl) stores.indexed.legal in
    let stamps = (legal-holds old.table.shape old.table.opening old.log before).stamps v low in
    let entries = ap length leaves.entries_are ∙ length-append (entries_after old) (e ∷ []) in
    let base = ap (λ (s : Seen). s.table.shape.base) stores.noted.is in
    let number : number_of new.table new.log ≡ number_of old.table old.log + 1 = omega (arith, entries, base) in
    (number, omega (arith, number, stamps, same_stamp old new v (leaves.words_are v)))

-- a vertex whose stamp is below the number of the section may be put in it
pub may_put : (old new : Seen) (index value : ℕ) (e : Entry) (v : ℕ) → v < old.table.shape.fixed → StoresEntry old new index value
    → LeavesBeside new (entries_after old ++ e ∷ []) [] (vertex_word_after old)
    → MayPut new.table.shape (state_of new.table.shape new.table.opening new.log) v
may_put old new index value e v low stores leaves = record {
  inside = omega (arith, ap length leaves.entries_are, length-append (entries_after old) (e ∷ []));
  once = (next_entry-entered old new index value e v low stores leaves).1;
}

-- the word 0 has stamp 0
pub no_stamps : (v : ℕ) → (vertex_of (get_or (0 ∷ 0 ∷ 0 ∷ []) v 0)).stamp ≤ 0
unfolding vertex_of
no_stamps zero = omega arith
no_stamps (suc zero) = omega arith
no_stamps (suc (suc zero)) = omega arith
no_stamps (suc (suc (suc v))) = omega arith

-- a table that was opened over no entries has the number 0
pub new_number : (table : TableName) (seen : Seen) → seen ≡ record { table = table; log = [] } → table.shape.base ≡ 0
    → number_of seen.table seen.log ≡ 0
new_number table seen is base =
    ap (λ (s : Seen). number_of s.table s.log) is
    ∙ (ap (λ s. last_entry table.shape s) (state_of-nil table.shape table.opening) ∙ omega (arith, base))

-- a table that was opened has nothing open
pub new_closed : (table : TableName) (seen : Seen) → seen ≡ record { table = table; log = [] } → unsealed_after seen ≡ []
new_closed table seen is = ap unsealed_after is ∙ ap (λ s. s.unsealed) (state_of-nil table.shape table.opening)
