-- What a watcher keeps is a state of what it was fed.
use Rattle.std.proofs.Common.{◌≡◌, ℕ, List, Option, None, Some, inl, inr, refl, subst, sym}
use Rattle.kc_stream.specs.Hearing.{heard_at_end, heard_so_far}
use Rattle.kc_watch.specs.Accounts.{Account}
use Rattle.kc_watch.specs.States.{IsStateFor, IsStateOf, account_at_end, account_so_far}
use Rattle.kc_watch.specs.Watching.{HasEnded, WasFed}
use Rattle.kc_watch.specs.declared.state.WatchedState.{WatchedState}
use Rattle.kc_watch.specs.declared.watcher.Watcher.{Watcher}
use Rattle.kc_saving.specs.Steps.{WatchesAccount}

-- what is known of the state of a watcher
module _ (watcher : Watcher) (state : Option WatchedState)
    (so_far : (fed : List ℕ) → WasFed watcher fed → (heard_so_far watcher.options.bad_lines fed).refusal ≡ None
    → IsStateFor (account_so_far watcher.options.bad_lines fed) state)
    (at_end : (fed : List ℕ) → HasEnded watcher fed → (heard_at_end watcher.options.bad_lines fed).refusal ≡ None
    → IsStateFor (Some (account_at_end watcher.options.bad_lines fed)) state) where
  -- it is that of the account that it keeps
  pub keeps-state : (account : Option Account) → WatchesAccount watcher account → IsStateFor account state
  keeps-state account (fed, inl (was, going, is)) = subst (λ (a : Option Account). IsStateFor a state) (sym is) (so_far fed was going)
  keeps-state account (fed, inr (ended, going, is)) = subst (λ (a : Option Account). IsStateFor a state) (sym is) (at_end fed ended going)

-- where there is a state there is an account
pub some-account : (account : Option Account) (state : WatchedState) → IsStateFor account (Some state) → (a : Account) × (account ≡ Some a) × IsStateOf a state
some-account None state h = absurd h
some-account (Some a) state h = (a, refl, h)

-- where there is none there is none
pub none-account : (account : Option Account) → IsStateFor account None → account ≡ None
none-account None h = refl
none-account (Some a) h = absurd h
