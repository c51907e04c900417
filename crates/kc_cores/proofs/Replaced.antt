-- A run whose lines become a file ends as it should, and so does any run.
use Rattle.std.proofs.Common.{◌≡◌, ◌∙◌, ℕ, Bool, List, None, Option, Some, ap, refl, subst, sym}
use Rattle.std.specs.Io.KnownBytes.{IsAtEnd}
use Rattle.kc_io.specs.Causes.{Rose}
use Rattle.kc_io.specs.declared.sink.Sink as sinks
use Rattle.kc_io.specs.declared.source.Source as sources
use Rattle.kc_wire.specs.declared.wire.Wire as wires
use Rattle.kc_files.specs.Folders.{AllStay, HasBytes, Held, OthersStay}
use Rattle.kc_wishes.specs.Requests.{RepliesTo}
use Rattle.kc_wishes.specs.Wishes.{Asks, Query, SavingPlan, Saves, StreamQuery, Watches, Wish}
use Rattle.kc_wishes.specs.declared.words.Reply.TheVariants as reply
use Rattle.kc_wishes.specs.declared.words.Reply.{Reply}
use Rattle.kc_cores.specs.Asked.{EndsAsAsked}
use Rattle.kc_cores.specs.CoresEnded.{IsAnswerTo, done_line}
use Rattle.kc_cores.specs.Endings.{NoFileGraphAt}
use Rattle.kc_cores.specs.Inputs.{known_bytes}
use Rattle.kc_cores.specs.Saved.{RunEnded, SaveEnded, SavedAt}
use Rattle.kc_cores.specs.Sentences.{no_memory_line}
use Rattle.kc_cores.specs.Unsaved.{IsUnsavedLine}
use Rattle.kc_cores.specs.WatchSaved.{WatchSaved}
use Rattle.kc_cores.specs.declared.CoresStatus.{CoresStatus}
use Rattle.kc_cores.specs.declared.CoresStatus.TheVariants as status
use Rattle.kc_cores.proofs.WatchedSaving.{WatchSaved-nothing}

-- words that ask for something else ask for no stream whose states are saved
pub not_watched : (wish other : Wish) → wish ≡ other → ((query : StreamQuery) → other ≡ Watches query → ⊥) → (query : StreamQuery) (plan : SavingPlan)
    → wish ≡ Watches query → query.save ≡ Some plan → ⊥
not_watched wish other is none query plan e saves = none query (sym is ∙ e)

-- words ask for one stream
pub Watches-one : (query asked : StreamQuery) → Watches query ≡ Watches asked → query ≡ asked
Watches-one query asked e = cc

-- a stream whose states are not saved has no place for them
pub unsaved-alone : (query asked : StreamQuery) (plan : SavingPlan) → query.save ≡ None → query ≡ asked → asked.save ≡ Some plan → ⊥
unsaved-alone query asked plan none is saves = cc

-- words that ask for something else ask for no file
pub not_saved : (wish other : Wish) → wish ≡ other → ((name : List ℕ) (query : Query) → other ≡ Saves name query → ⊥) → (name : List ℕ) (query : Query)
    → wish ≡ Saves name query → ⊥
not_saved wish other is none name query e = none name query (sym is ∙ e)

module _ {I P : Type 0} (source : sources.Ghosts I) (behind : I → List ℕ → Option (List ℕ)) (holds : P → List ℕ → Held) (failed : P → ℕ) where
  -- there is no graph
  no_graph : (name : List ℕ) (query : Query) (end : CoresStatus) (known left : Option (List ℕ)) (line : List ℕ) (f f' : ℕ) (p p' : P) → p' ≡ p
      → NoFileGraphAt end line query.graph known f f' → SavedAt holds failed end name query known left line f f' p p'
  no_graph name query status.Refused known left line f f' p p' stays h = (h, stays)
  no_graph name query status.Unopened known left line f f' p p' stays h = (h, stays)
  no_graph name query status.ReadFault known left line f f' p p' stays h = (h, stays)
  no_graph name query status.NoMemory known left line f f' p p' stays h = (h, stays)
  no_graph name query _ known left line f f' p p' stays h = absurd h

  -- there is no graph, so the folder is as it was
  pub SaveEnded-no_graph : (name : List ℕ) (query : Query) (end : CoresStatus) (line : List ℕ) (i i' : I) (p : P)
      → NoFileGraphAt end line query.graph (known_bytes source.left behind query.graph.file i) (source.faults i) (source.faults i')
      → SaveEnded source behind holds failed name query end line i i' p p
  SaveEnded-no_graph name query end line i i' p h =
      no_graph name query end (known_bytes source.left behind query.graph.file i) (source.left i') line (source.faults i) (source.faults i') p p refl h

  -- the file has the lines
  pub SaveEnded-done : (name : List ℕ) (query : Query) (text summary : List ℕ) (i i' : I) (p p' : P)
      → IsAnswerTo (Asks query) (known_bytes source.left behind query.graph.file i) text summary → IsAtEnd (source.left i')
      → source.faults i' ≡ source.faults i → HasBytes (holds p' name) text → OthersStay holds name p p' → failed p' ≡ failed p
      → SaveEnded source behind holds failed name query status.Done (done_line query.quiet summary) i i' p p'
  SaveEnded-done name query text summary i i' p p' answer ended faultless has others kept =
      ((text, summary, answer, refl, has), others, ended, faultless, kept)

  -- the file was not written
  pub SaveEnded-unsaved : (name : List ℕ) (query : Query) (text summary : List ℕ) (end : CoresStatus) (line : List ℕ) (i i' : I) (p p' : P)
      → end ≡ status.WriteFault → IsUnsavedLine name line
      → IsAnswerTo (Asks query) (known_bytes source.left behind query.graph.file i) text summary → source.faults i' ≡ source.faults i
      → AllStay holds p p' → Rose (failed p) (failed p') → SaveEnded source behind holds failed name query end line i i' p p'
  SaveEnded-unsaved name query text summary end line i i' p p' is told answer faultless stays rose =
      subst (λ (e : CoresStatus). SaveEnded source behind holds failed name query e line i i' p p') (sym is)
      ((text, summary, answer), told, stays, faultless, rose)

  module _ {C O L : Type 0} (kept : sources.Ghosts C) (beside : C → List ℕ → Option (List ℕ)) (out : sinks.Ghosts O) (gone : O → Bool)
      (wire : wires.Ghosts L) where
    -- a run whose lines become no file
    pub RunEnded-asked : (wish : Wish) (end : CoresStatus) (line : List ℕ) (i i' : I) (c c' : C) (o o' : O) (l l' : L) (p p' : P)
        → ((name : List ℕ) (query : Query) → wish ≡ Saves name query → ⊥)
        → ((query : StreamQuery) (plan : SavingPlan) → wish ≡ Watches query → query.save ≡ Some plan → ⊥)
        → EndsAsAsked source behind kept beside out gone wire wish end line i i' c c' o o' l l' → p' ≡ p
        → RunEnded source behind kept beside out gone wire holds failed wish end line i i' c c' o o' l l' p p'
    RunEnded-asked wish end line i i' c c' o o' l l' p p' other unsaved h stays = record {
      save = λ name query e. absurd (other name query e);
      watch = λ query plan e saves. absurd (unsaved query plan e saves);
      asked = λ _ _. (h, stays);
    }

    -- a run whose lines become a file
    pub RunEnded-save : (wish : Wish) (name : List ℕ) (query : Query) (end : CoresStatus) (line : List ℕ) (i i' : I) (c c' : C) (o o' : O) (l l' : L)
        (p p' : P) → wish ≡ Saves name query → SaveEnded source behind holds failed name query end line i i' p p' → c' ≡ c → o' ≡ o → l' ≡ l
        → RunEnded source behind kept beside out gone wire holds failed wish end line i i' c c' o o' l l' p p'
    RunEnded-save wish name query end line i i' c c' o o' l l' p p' is h one two three = record {
      save = λ n q e.
          let same_name : name ≡ n = cc in
          let same_query : query ≡ q = cc in (
            subst (λ (x : List ℕ). SaveEnded source behind holds failed x q end line i i' p p') same_name
                (subst (λ (x : Query). SaveEnded source behind holds failed name x end line i i' p p') same_query h),
            one,
            two,
            three,
          );
      watch = λ asked plan e saves. absurd (cc);
      asked = λ none _. absurd (none name query is);
    }

    -- a run that answers a stream whose states are saved
    pub RunEnded-watch : (wish : Wish) (query : StreamQuery) (plan : SavingPlan) (end : CoresStatus) (line : List ℕ) (i i' : I) (c c' : C) (o o' : O)
        (l l' : L) (p p' : P) → wish ≡ Watches query → query.save ≡ Some plan
        → WatchSaved source behind wire holds failed query plan end line i i' l l' p p' → c' ≡ c → o' ≡ o
        → RunEnded source behind kept beside out gone wire holds failed wish end line i i' c c' o o' l l' p p'
    RunEnded-watch wish query plan end line i i' c c' o o' l l' p p' is saves h one two = record {
      save = λ name asked e. absurd (cc);
      watch = λ asked other e also.
          let q : query ≡ asked = cc in
          let r : plan ≡ other = cc in (
            subst (λ (x : StreamQuery). WatchSaved source behind wire holds failed x other end line i i' l l' p p') q
                (subst (λ (x : SavingPlan). WatchSaved source behind wire holds failed query x end line i i' l l' p p') r h),
            one,
            two,
          );
      asked = λ _ none. absurd (none query plan is saves);
    }

    -- a run that is a reply to its words
    pub RunEnded-reply : (wish : Wish) (r : Reply) (end : CoresStatus) (line : List ℕ) (i i' : I) (c c' : C) (o o' : O) (l l' : L) (p p' : P)
        → RepliesTo r wish → EndsAsAsked source behind kept beside out gone wire wish end line i i' c c' o o' l l' → c' ≡ c → l' ≡ l → p' ≡ p
        → (r ≡ reply.NoMemory → (end ≡ status.NoMemory) × (line ≡ no_memory_line) × (i' ≡ i) × (o' ≡ o))
        → RunEnded source behind kept beside out gone wire holds failed wish end line i i' c c' o o' l l' p p'
    RunEnded-reply wish r end line i i' c c' o o' l l' p p' replies h one three stays memory = record {
      save = λ name query e. go r name query (subst (RepliesTo r) e replies) memory;
      watch = λ query plan e saves. stream r query plan (subst (RepliesTo r) e replies) memory;
      asked = λ _ _. (h, stays);
    }
      where
        stream : (r : Reply) (query : StreamQuery) (plan : SavingPlan) → RepliesTo r (Watches query)
            → (r ≡ reply.NoMemory → (end ≡ status.NoMemory) × (line ≡ no_memory_line) × (i' ≡ i) × (o' ≡ o))
            → WatchSaved source behind wire holds failed query plan end line i i' l l' p p' × (c' ≡ c) × (o' ≡ o)
        stream (reply.Asked text) query plan replies memory = absurd replies
        stream (reply.Mistake text) query plan replies memory = absurd replies
        stream reply.NoMemory query plan replies memory =
            let (ended, told, same, two) = memory refl in
            (WatchSaved-nothing source behind wire holds failed query plan end line i i' l l' p p' ended told same three stays, one, two)

        go : (r : Reply) (name : List ℕ) (query : Query) → RepliesTo r (Saves name query)
            → (r ≡ reply.NoMemory → (end ≡ status.NoMemory) × (line ≡ no_memory_line) × (i' ≡ i) × (o' ≡ o))
            → SaveEnded source behind holds failed name query end line i i' p p' × (c' ≡ c) × (o' ≡ o) × (l' ≡ l)
        go (reply.Asked text) name query replies memory = absurd replies
        go (reply.Mistake text) name query replies memory = absurd replies
        go reply.NoMemory name query replies memory =
            let (ended, told, same, two) = memory refl in (
              subst (λ (e : CoresStatus). SaveEnded source behind holds failed name query e line i i' p p') (sym ended)
                  ((told, ap source.faults same), stays),
              one,
              two,
              three,
            )
