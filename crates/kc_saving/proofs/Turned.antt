-- How turns go on with saves, and how they end.
use Rattle.std.proofs.Common.{◌≡◌, ◌+◌, ◌-◌, ◌^◌, ◌++◌, ◌∙◌, ℕ, Bool, cond, List, [], Option, None, Some, Result, Ok, Err, ap, arith}
use Rattle.std.proofs.Common.{append_assoc, append-nil, refl, subst, sym}
use Rattle.kc_files.specs.Folders.{Held}
use Rattle.kc_wire.specs.Events.{TellsMore, WireEvent, read_in, written_in}
use Rattle.kc_wire.specs.declared.faults.WriteFault.{WriteFault}
use Rattle.kc_wire.specs.declared.faults.WriteFault.TheVariants as write
use Rattle.kc_dialogue.specs.Dialogues.{IsAnswered, IsDialogue}
use Rattle.kc_dialogue.specs.Endings.{HasAnswered, reads_in}
use Rattle.kc_dialogue.specs.Openings.{behind}
use Rattle.kc_dialogue.specs.Turns.{HasTurned, IsGoing, IsTurn, end_by}
use Rattle.kc_dialogue.specs.declared.end.DialogueEnd.{DialogueEnd}
use Rattle.kc_dialogue.specs.declared.end.DialogueEnd.TheVariants as end
use Rattle.kc_dialogue.proofs.Cuts.{TellsMore-nothing, TellsMore-trans}
use Rattle.kc_dialogue.proofs.Events.{read_in-append, reads_in-append}
use Rattle.kc_watch.specs.Text.{reply, reply_at_end}
use Rattle.kc_watch.specs.Watching.{HasEnded, WasFed}
use Rattle.kc_watch.specs.declared.options.WatchOptions.{WatchOptions}
use Rattle.kc_watch.specs.declared.watcher.Watcher.{Watcher}
use Rattle.kc_saving.specs.Saving.{HasAnsweredAll, HasKept, HoldsSave, IsKeptAtEnd, IsRecent}
use Rattle.kc_saving.specs.Steps.{HasTurnedSaving, end_by_fault}
use Rattle.kc_saving.specs.declared.end.SavingEnd.TheVariants.{Dialogue}
use Rattle.kc_saving.specs.declared.fault.SaveFault.{SaveFault}
use Rattle.kc_saving.specs.declared.fault.SaveFault.TheVariants as fault
use Rattle.kc_saving.proofs.Keeping.{HoldsSave-begin, HoldsSave-more, HoldsSave-same, Same}

-- where all is answered, what was written is what is meant
pub answered-all : (reply reply_at_end : List ℕ → List ℕ) (events : List WireEvent) → IsDialogue reply events → IsAnswered reply events
    → HasAnsweredAll reply reply_at_end events
answered-all reply reply_at_end events dialogue answered = (
  dialogue,
  answered.answered ∙ ap (λ (b : Bool). cond b (reply_at_end (read_in events)) (reply (read_in events))) (sym answered.open_yet),
)

-- so it is where the stream has ended
pub done-all : (reply reply_at_end : List ℕ → List ℕ) (events : List WireEvent) → HasAnswered reply reply_at_end events end.Done
    → HasAnsweredAll reply reply_at_end events
done-all reply reply_at_end events h = (
  h.dialogue,
  h.written.1 ∙ ap (λ (b : Bool). cond b (reply_at_end (read_in events)) (reply (read_in events))) (sym h.written.0),
)

-- all is answered, and there is no memory for more
pub all-no_memory : (reply reply_at_end : List ℕ → List ℕ) (events : List WireEvent) → HasAnsweredAll reply reply_at_end events
    → HasAnswered reply reply_at_end events end.NoMemory
all-no_memory reply reply_at_end events h = record { dialogue = h.0; written = ([], sym h.1 ∙ sym (append-nil (written_in events))) }

-- What was read in all, with more events behind.
read-more : (start : List ℕ) (before more : List WireEvent) → start ++ read_in (before ++ more) ≡ (start ++ read_in before) ++ read_in more
read-more start before more = ap (λ (t : List ℕ). start ++ t) (read_in-append before more) ∙ sym (append_assoc start (read_in before) (read_in more))

module _ (options : WatchOptions) (file : List ℕ) (before : List ℕ → Held) (start : List ℕ) (first : List WireEvent) where
  -- the dialogue goes on behind the first events, with these behind them, and the file is as some save left it
  pub record Goes (watcher : Watcher) (a b : Option (List WireEvent)) (now : List ℕ → Held) (saved turns : ℕ) : Type 0 where
    pub events : List WireEvent
    pub told : TellsMore a b events
    pub going : IsGoing (behind (reply options) start) (λ read. WasFed watcher (start ++ read)) (first ++ events)
    pub reads : reads_in events ≡ turns
    pub kept : HoldsSave file options.bad_lines before now (start ++ read_in (first ++ events)) saved

  -- one turn between two histories, of a watcher that is set up so
  abbrev pub TurnOf : WatchOptions → Watcher → Watcher → Option (List WireEvent) → Option (List WireEvent) → Option DialogueEnd → Type 0
  TurnOf now old new b c how = IsTurn (behind (reply now) start) (behind (reply_at_end now) start) (λ read. WasFed old (start ++ read))
      (λ read. WasFed new (start ++ read)) (λ read. HasEnded new (start ++ read)) b c how

  -- a turn goes on with it
  pub goes-on : (now : WatchOptions) (old new : Watcher) (a b c : Option (List WireEvent)) (holds : List ℕ → Held) (saved turns : ℕ) → now ≡ options
      → Goes old a b holds saved turns → TurnOf now old new b c None → Goes new a c holds saved (turns + 1)
  goes-on now old new a b c holds saved turns same g turn =
      let (events, more, goes, one) = subst (λ (o : WatchOptions). TurnOf o old new b c None) same turn (first ++ g.events) g.going in
      let is : (first ++ g.events) ++ events ≡ first ++ (g.events ++ events) = append_assoc first g.events events in
      let last : reads_in events ≡ 1 = one refl in
      record {
        events = g.events ++ events;
        told = TellsMore-trans a b c g.events events g.told more;
        going = subst (IsGoing (behind (reply options) start) (λ read. WasFed new (start ++ read))) is goes;
        reads = omega (arith, reads_in-append g.events events, g.reads, last);
        kept = subst (λ (t : List ℕ). HoldsSave file options.bad_lines before holds t saved)
            (sym (read-more start (first ++ g.events) events) ∙ ap (λ (t : List WireEvent). start ++ read_in t) is)
            (HoldsSave-more file options.bad_lines before holds (start ++ read_in (first ++ g.events)) (read_in events) saved g.kept);
      }

  -- a state is saved, or not, before a turn
  pub goes-saved : (now : WatchOptions) (watcher : Watcher) (a b : Option (List WireEvent)) (old new : List ℕ → Held) (saved ended turns : ℕ)
      → now ≡ options → Goes watcher a b old saved turns
      → ((read : List ℕ) → WasFed watcher read → HoldsSave file now.bad_lines before old read saved → HoldsSave file now.bad_lines before new read ended)
      → Goes watcher a b new ended turns
  goes-saved now watcher a b old new saved ended turns same g saves =
      let read : List ℕ = start ++ read_in (first ++ g.events) in
      record {
        events = g.events;
        told = g.told;
        going = g.going;
        reads = g.reads;
        kept = subst (λ (o : WatchOptions). HoldsSave file o.bad_lines before new read ended) same
            (saves read g.going.fed (subst (λ (o : WatchOptions). HoldsSave file o.bad_lines before old read saved) (sym same) g.kept));
      }

  -- the last events, and what they leave
  abbrev pub Ends : Option ℕ → Watcher → Option (List WireEvent) → Option (List WireEvent) → (List ℕ → Held) → Result DialogueEnd SaveFault → Type 0
  Ends every watcher a c now result = (events : List WireEvent) × TellsMore a c events
      × HasTurnedSaving options file every before now start watcher (first ++ events) result

  -- a turn ends it, and not by a fault of the read
  goes-over : (every : Option ℕ) (now : WatchOptions) (old new : Watcher) (a b c : Option (List WireEvent)) (holds : List ℕ → Held) (saved turns : ℕ)
      (how : DialogueEnd) → (how ≡ end.ReadFault → ⊥) → now ≡ options → Goes old a b holds saved turns → TurnOf now old new b c (Some how)
      → Ends every new a c holds (Ok how)
  goes-over every now old new a b c holds saved turns how other same g turn =
      let (events, more, ends, one) = subst (λ (o : WatchOptions). TurnOf o old new b c (Some how)) same turn (first ++ g.events) g.going in
      let is : (first ++ g.events) ++ events ≡ first ++ (g.events ++ events) = append_assoc first g.events events in
      let all = subst (λ (e : List WireEvent). HasTurned (behind (reply options) start) (behind (reply_at_end options) start)
      (λ read. WasFed new (start ++ read)) (λ read. HasEnded new (start ++ read)) e (Some how)) is ends in
      let read : start ++ read_in (first ++ (g.events ++ events)) ≡ (start ++ read_in (first ++ g.events)) ++ read_in events =
      ap (λ (t : List WireEvent). start ++ read_in t) (sym is) ∙ read-more start (first ++ g.events) events in (
        g.events ++ events,
        TellsMore-trans a b c g.events events g.told more,
        (
          all.0,
          all.1,
          all.2,
          (
            saved,
            subst (λ (t : List ℕ). HoldsSave file options.bad_lines before holds t saved) (sym read)
                (HoldsSave-more file options.bad_lines before holds (start ++ read_in (first ++ g.events)) (read_in events) saved g.kept),
            λ e. absurd (other e),
          ),
        ),
      )

  -- a read fails
  goes-broken : (every : Option ℕ) (now : WatchOptions) (old new : Watcher) (a b c : Option (List WireEvent)) (holds : List ℕ → Held) (saved turns : ℕ)
      → now ≡ options → Goes old a b holds saved turns → ((read : List ℕ) → WasFed old read → IsRecent every now.bad_lines read saved)
      → TellsMore b c [] → Ends every new a c holds (Ok end.ReadFault)
  goes-broken every now old new a b c holds saved turns same g recent none =
      let read : List ℕ = start ++ read_in (first ++ g.events) in (
        g.events,
        subst (TellsMore a c) (append-nil g.events) (TellsMore-trans a b c g.events [] g.told none),
        (
          record { dialogue = g.going.dialogue; written = g.going.answered },
          λ e. absurd (cc),
          λ e. absurd (cc),
          (
            saved,
            g.kept,
            λ e. subst (λ (o : WatchOptions). IsRecent every o.bad_lines read saved) same (recent read g.going.fed),
          ),
        ),
      )

  -- a turn ends it
  pub goes-end : (every : Option ℕ) (now : WatchOptions) (old new : Watcher) (a b c : Option (List WireEvent)) (holds : List ℕ → Held) (saved turns : ℕ)
      (how : DialogueEnd) → now ≡ options → Goes old a b holds saved turns
      → ((read : List ℕ) → WasFed old read → IsRecent every now.bad_lines read saved) → TurnOf now old new b c (Some how)
      → (Some how ≡ Some end.ReadFault → TellsMore b c []) → Ends every new a c holds (Ok how)
  goes-end every now old new a b c holds saved turns end.ReadFault same g recent turn unread =
      goes-broken every now old new a b c holds saved turns same g recent (unread refl)
  goes-end every now old new a b c holds saved turns end.Done same g recent turn unread =
      goes-over every now old new a b c holds saved turns end.Done (λ e. cc) same g turn
  goes-end every now old new a b c holds saved turns end.Ended same g recent turn unread =
      goes-over every now old new a b c holds saved turns end.Ended (λ e. cc) same g turn
  goes-end every now old new a b c holds saved turns end.ReaderGone same g recent turn unread =
      goes-over every now old new a b c holds saved turns end.ReaderGone (λ e. cc) same g turn
  goes-end every now old new a b c holds saved turns end.WriteFault same g recent turn unread =
      goes-over every now old new a b c holds saved turns end.WriteFault (λ e. cc) same g turn
  goes-end every now old new a b c holds saved turns end.NoMemory same g recent turn unread =
      goes-over every now old new a b c holds saved turns end.NoMemory (λ e. cc) same g turn
  goes-end every now old new a b c holds saved turns end.Exhausted same g recent turn unread =
      goes-over every now old new a b c holds saved turns end.Exhausted (λ e. cc) same g turn

  -- a state was not saved
  pub goes-unsaved : (every : Option ℕ) (watcher : Watcher) (a b : Option (List WireEvent)) (old new : List ℕ → Held) (saved turns : ℕ) (fault : SaveFault)
      → Goes watcher a b old saved turns → Same old new → Ends every watcher a b new (Err fault)
  goes-unsaved every watcher a b old new saved turns fault g same = (
    g.events,
    g.told,
    (
      g.going.dialogue,
      g.going.answered,
      (saved, HoldsSave-same file options.bad_lines before old new (start ++ read_in (first ++ g.events)) saved same g.kept),
    ),
  )

  -- no count of reads is left
  pub goes-exhausted : (every : Option ℕ) (watcher : Watcher) (a b : Option (List WireEvent)) (now : List ℕ → Held) (saved turns : ℕ)
      → reads_in first ≡ 0 → turns ≡ 2 ^ 64 - 1 → Goes watcher a b now saved turns → Ends every watcher a b now (Ok end.Exhausted)
  goes-exhausted every watcher a b now saved turns none most g = (
    g.events,
    g.told,
    (
      record {
        dialogue = g.going.dialogue;
        written = (g.going.answered, omega (arith, reads_in-append first g.events, none, most, g.reads));
      },
      λ e. absurd (cc),
      λ e. absurd (cc),
      (saved, g.kept, λ e. absurd (cc)),
    ),
  )

-- Turns that have ended, and not as the stream has.
pub kept-turns : (options : WatchOptions) (file : List ℕ) (every : Option ℕ) (before now : List ℕ → Held) (start : List ℕ) (watcher : Watcher)
    (events : List WireEvent) (how : DialogueEnd) → (how ≡ end.Done → ⊥)
    → HasTurnedSaving options file every before now start watcher events (Ok how)
    → HasKept options file every before now start watcher events (Dialogue how)
kept-turns options file every before now start watcher events end.Done other h = absurd (other refl)
kept-turns options file every before now start watcher events end.Ended other h = ((h.0, h.3), λ e. h.1 refl, λ e. absurd (cc))
kept-turns options file every before now start watcher events end.ReadFault other h = ((h.0, h.3), λ e. absurd (cc), λ e. absurd (cc))
kept-turns options file every before now start watcher events end.ReaderGone other h = ((h.0, h.3), λ e. absurd (cc), λ e. absurd (cc))
kept-turns options file every before now start watcher events end.WriteFault other h = ((h.0, h.3), λ e. absurd (cc), λ e. absurd (cc))
kept-turns options file every before now start watcher events end.NoMemory other h = ((h.0, h.3), λ e. absurd (cc), λ e. absurd (cc))
kept-turns options file every before now start watcher events end.Exhausted other h = ((h.0, h.3), λ e. absurd (cc), λ e. absurd (cc))

-- A state was not saved, and all is answered.
pub kept-unsaved : (options : WatchOptions) (file : List ℕ) (every : Option ℕ) (before now : List ℕ → Held) (start : List ℕ) (watcher : Watcher)
    (events : List WireEvent) (saved : ℕ) (cause : SaveFault)
    → HasAnsweredAll (behind (reply options) start) (behind (reply_at_end options) start) events
    → HoldsSave file options.bad_lines before now (start ++ read_in events) saved
    → HasKept options file every before now start watcher events (end_by_fault cause)
kept-unsaved options file every before now start watcher events saved fault.NoMemory all h =
    ((all-no_memory _ _ events all, (saved, h, λ e. absurd (cc))), λ e. absurd (cc), λ e. absurd (cc))
kept-unsaved options file every before now start watcher events saved (fault.Unplaced unplaced) all h =
    ((all, (saved, h)), λ e. absurd (cc), λ e. absurd (cc))

-- Nothing has happened, as there was no memory.
pub kept-nothing : (options : WatchOptions) (file : List ℕ) (every : Option ℕ) (before : List ℕ → Held) (start : List ℕ) (first : List WireEvent)
    (watcher : Watcher) (a : Option (List WireEvent)) → IsGoing (behind (reply options) start) (λ read. WasFed watcher (start ++ read)) first
    → (events : List WireEvent) × TellsMore a a events × HasKept options file every before before start watcher (first ++ events) (Dialogue end.NoMemory)
kept-nothing options file every before start first watcher a going = (
  [],
  TellsMore-nothing a,
  kept-unsaved options file every before before start watcher (first ++ []) 0 fault.NoMemory
      (subst (HasAnsweredAll (behind (reply options) start) (behind (reply_at_end options) start)) (sym (append-nil first))
      (answered-all (behind (reply options) start) (behind (reply_at_end options) start) first going.dialogue going.answered))
      (HoldsSave-begin file options.bad_lines before (start ++ read_in (first ++ []))),
)

-- Turns have ended as the stream has.
pub turned-done : (options : WatchOptions) (file : List ℕ) (every : Option ℕ) (before now : List ℕ → Held) (start : List ℕ) (first : List WireEvent)
    (watcher : Watcher) (a c : Option (List WireEvent)) (how : DialogueEnd) → how ≡ end.Done
    → (events : List WireEvent) × TellsMore a c events × HasTurnedSaving options file every before now start watcher (first ++ events) (Ok how)
    → (events : List WireEvent) × TellsMore a c events × HasTurnedSaving options file every before now start watcher (first ++ events) (Ok end.Done)
turned-done options file every before now start first watcher a c how is h =
    subst (λ (d : DialogueEnd). (events : List WireEvent) × TellsMore a c events
    × HasTurnedSaving options file every before now start watcher (first ++ events) (Ok d)) is h

-- The stream has ended, and the last state is saved.
pub kept-done : (options : WatchOptions) (file : List ℕ) (every : Option ℕ) (before old now : List ℕ → Held) (start : List ℕ) (watcher : Watcher)
    (events : List WireEvent) → HasTurnedSaving options file every before old start watcher events (Ok end.Done)
    → ((fed : List ℕ) (saved : ℕ) → HasEnded watcher fed → HoldsSave file options.bad_lines before old fed saved
    → IsKeptAtEnd file options.bad_lines before now fed) → HasKept options file every before now start watcher events (Dialogue end.Done)
kept-done options file every before old now start watcher events h saves =
    let (answered, fed, ended, (saved, holds, recent)) = h in
    ((answered, saves (start ++ read_in events) saved (ended refl) holds), λ e. absurd (cc), λ e. ended refl)

-- It has ended, and the last state is not saved.
pub kept-undone : (options : WatchOptions) (file : List ℕ) (every : Option ℕ) (before old now : List ℕ → Held) (start : List ℕ) (watcher : Watcher)
    (events : List WireEvent) (cause : SaveFault) → HasTurnedSaving options file every before old start watcher events (Ok end.Done) → Same old now
    → HasKept options file every before now start watcher events (end_by_fault cause)
kept-undone options file every before old now start watcher events cause h same =
    let (answered, fed, ended, (saved, holds, recent)) = h in
    kept-unsaved options file every before now start watcher events saved cause
    (done-all (behind (reply options) start) (behind (reply_at_end options) start) events answered)
    (HoldsSave-same file options.bad_lines before old now (start ++ read_in events) saved same holds)

-- A write of what is said first failed.
pub kept-cut : (options : WatchOptions) (file : List ℕ) (every : Option ℕ) (before : List ℕ → Held) (start : List ℕ) (watcher : Watcher)
    (events : List WireEvent) (fault : WriteFault)
    → HasAnswered (behind (reply options) start) (behind (reply_at_end options) start) events (end_by fault)
    → HasKept options file every before before start watcher events (Dialogue (end_by fault))
kept-cut options file every before start watcher events write.ReaderGone h =
    ((h, (0, HoldsSave-begin file options.bad_lines before (start ++ read_in events), λ e. absurd (cc))), λ e. absurd (cc), λ e. absurd (cc))
kept-cut options file every before start watcher events write.Failed h =
    ((h, (0, HoldsSave-begin file options.bad_lines before (start ++ read_in events), λ e. absurd (cc))), λ e. absurd (cc), λ e. absurd (cc))

-- The dialogue has ended with what is said first.
pub kept-opened : (options : WatchOptions) (file : List ℕ) (every : Option ℕ) (before : List ℕ → Held) (start : List ℕ) (watcher : Watcher)
    (events : List WireEvent) → HasAnswered (behind (reply options) start) (behind (reply_at_end options) start) events end.Ended
    → WasFed watcher (start ++ read_in events) → HasKept options file every before before start watcher events (Dialogue end.Ended)
kept-opened options file every before start watcher events h fed =
    ((h, (0, HoldsSave-begin file options.bad_lines before (start ++ read_in events), λ e. absurd (cc))), λ e. fed, λ e. absurd (cc))
