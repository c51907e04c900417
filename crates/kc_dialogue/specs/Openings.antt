-- What a replier says before anything is read of a wire, as it was fed a text from elsewhere.
use Rattle.std.specs.Prelude.{◌≡◌, ◌++◌, ℕ, List}
use Rattle.kc_dialogue.specs.Replies.{StaysFrom}
use Rattle.kc_dialogue.specs.declared.flow.Flow.{Flow}

-- A replier was fed these bytes, and this is the reply to them. Where the dialogue has ended, no bytes that follow change the reply.
pub record HasOpened (reply reply_at_end : List ℕ → List ℕ) (WasFed : List ℕ → Type 0) (start : List ℕ) (flow : Flow) (text : List ℕ) : Type 0 where
  pub fed : WasFed start
  pub said : text ≡ reply start
  pub ended : flow ≡ Flow.Ended → StaysFrom reply reply_at_end start

-- a replier that was fed some bytes was fed these behind them, and what they add to the reply stands behind `old`
abbrev pub HasFedMore : (List ℕ → List ℕ) → (List ℕ → List ℕ) → (List ℕ → Type 0) → (List ℕ → Type 0) → List ℕ → Flow → List ℕ → List ℕ → Type 0
HasFedMore reply reply_at_end WasFed IsFed given flow old new = (put : List ℕ) × (new ≡ old ++ put)
    × ((before : List ℕ) → WasFed before → HasOpened reply reply_at_end IsFed (before ++ given) flow (reply before ++ put))

-- the reply to bytes that stand behind others, with that to the others in front
abbrev pub behind : (List ℕ → List ℕ) → List ℕ → List ℕ → List ℕ
behind reply start read = reply (start ++ read)
