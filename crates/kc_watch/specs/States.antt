-- What is kept of a stream at a moment: how many batches have ended, the ids, and the graph behind these batches.
use Rattle.std.specs.Prelude.{◌≡◌, ℕ, List, Option, Some, None, is_some, length, if◌then◌else◌, ⊤}
use Rattle.kc_text.specs.Meaning.{Told, batches}
use Rattle.kc_stream.specs.Hearing.{heard_at_end, heard_so_far}
use Rattle.kc_stream.specs.declared.bad_lines.BadLines.{BadLines}
use Rattle.kc_watch.specs.Accounts.{Account, account_of}
use Rattle.kc_watch.specs.declared.state.WatchedState.{WatchedState}

-- the account of the start and of the batches that have ended, once lines have told this; before any batch line none has ended, nor has the start
abbrev pub account_told : Told → Option Account
account_told told = if is_some told.last then Some (account_of told.edges told.earlier) else None

-- the account once just these bytes of a stream have come
abbrev pub account_so_far : BadLines → List ℕ → Option Account
account_so_far bad bytes = account_told (heard_so_far bad bytes).told

-- the account once the stream has ended with these bytes: what was open has ended too
abbrev pub account_at_end : BadLines → List ℕ → Account
account_at_end bad bytes = account_of (heard_at_end bad bytes).told.edges (batches (heard_at_end bad bytes).told)

-- how many batches have ended: none where there is no account
abbrev pub ended_in : Option Account → ℕ
ended_in None = 0
ended_in (Some account) = account.ended

-- A state is that of an account. Its graph has an order that certifies its core numbers, as each `Lawful` has.
pub record IsStateOf (account : Account) (state : WatchedState) : Type 0 where
  pub batches_are : state.batches ≡ account.ended
  pub ids_are : state.ids.items ≡ account.ids
  pub graph_is : state.lawful.graph ≡ account.graph
  pub one_id_each : length state.ids.items ≡ state.lawful.graph.size

-- there is a state where there is an account, and it is that of the account
abbrev pub IsStateFor : Option Account → Option WatchedState → Type 0
IsStateFor None None = ⊤
IsStateFor None (Some state) = ⊥
IsStateFor (Some account) None = ⊥
IsStateFor (Some account) (Some state) = IsStateOf account state
