-- In which section the word of a vertex was stored. (What a section has put is said of the table: `puts_in`.)
use Rattle.std.specs.Prelude.{◌≡◌, ◌+◌, ℕ, List, [], ◌∷◌, ◌++◌}
use mathlib.Core.List.{IsPrefix}
use Rattle.kc_table.specs.declared.view.Event.{Event}
use Rattle.kc_table.specs.Log.{TableName}
use Rattle.kc_table.specs.TableState.{first_vertex}
use Rattle.kc_agree.specs.Stamps.{number_of}

-- a store between the two prefixes was to the vertex's word, in the section of this number
pub record SealedIn (table : TableName) (from to : List Event) (v number : ℕ) : Type 0 where
  pub log : List Event
  pub store : Event
  pub begins : IsPrefix from log
  pub ends : IsPrefix (log ++ store ∷ []) to
  pub word : store.word ≡ first_vertex table.shape + v
  pub section : number_of table log ≡ number
