-- What was said before anything is read, and what follows behind it.
use Rattle.std.proofs.Common.{◌≡◌, ◌==◌, ◌<◌, ◌-◌, ◌++◌, ◌∷◌, ◌∙◌, ℕ, List, [], Option, None, Some, drop, false, get_or, length, not, slice_get, sym, ap, refl}
use Rattle.std.proofs.Common.{subst, append_assoc, append-nil, arith, take, take-append-drop}
use Rattle.std.proofs.lemmas.Option.{get_or_from_slice_get, slice_get-get_or}
use Rattle.kc_wire.specs.Events.{read_in, written_in, wrote}
use Rattle.kc_wire.specs.Faults.{one_write_more}
use Rattle.kc_wire.specs.declared.faults.WireFaults.{WireFaults}
use Rattle.kc_wire.specs.declared.faults.WriteFault.{WriteFault}
use Rattle.kc_wire.specs.declared.faults.WriteFault.TheVariants as write
use Rattle.kc_dialogue.specs.Dialogues.{IsAnswered, IsDialogue, meant}
use Rattle.kc_dialogue.specs.Endings.{HasAnswered, faults_at}
use Rattle.kc_io.specs.LineEnds.{is_cut_off}
use Rattle.kc_dialogue.specs.Openings.{HasOpened, behind}
use Rattle.kc_dialogue.specs.Replies.{IsPrefixOf, StaysFrom}
use Rattle.kc_dialogue.specs.Turns.{HasAdded, HasAddedAtEnd, IsGoing, end_by}
use Rattle.kc_dialogue.specs.declared.end.DialogueEnd.{DialogueEnd}
use Rattle.kc_dialogue.specs.declared.flow.Flow.{Flow}
use Rattle.kc_dialogue.specs.declared.end.DialogueEnd.TheVariants as end
use Rattle.kc_dialogue.proofs.Events.{has_ended-wrote, no_read-wrote, read_in-wrote, written_in-wrote}

-- a reply to bytes behind others is one to all of them
behind-more : (reply : List ℕ → List ℕ) (start fed more : List ℕ) → reply ((start ++ fed) ++ more) ≡ behind reply start (fed ++ more)
behind-more reply start fed more = ap reply (append_assoc start fed more)

-- what stays behind all bytes stays behind the last of them
StaysFrom-behind : (reply reply_at_end : List ℕ → List ℕ) (start fed : List ℕ) → StaysFrom reply reply_at_end (start ++ fed)
    → StaysFrom (behind reply start) (behind reply_at_end start) fed
StaysFrom-behind reply reply_at_end start fed h = λ more. (
  sym (behind-more reply start fed more) ∙ (h more).0,
  sym (ap reply_at_end (append_assoc start fed more)) ∙ (h more).1,
)

-- what a piece adds behind bytes that stand behind others
pub HasAdded-behind : (reply reply_at_end : List ℕ → List ℕ) (start fed piece text : List ℕ) (how : Option DialogueEnd)
    → HasAdded reply reply_at_end (start ++ fed) piece text how → HasAdded (behind reply start) (behind reply_at_end start) fed piece text how
HasAdded-behind reply reply_at_end start fed piece text None h = sym (behind-more reply start fed piece) ∙ h
HasAdded-behind reply reply_at_end start fed piece text (Some end.Ended) h = (
  sym (behind-more reply start fed piece) ∙ h.0,
  StaysFrom-behind reply reply_at_end start (fed ++ piece)
      (subst (λ (t : List ℕ). StaysFrom reply reply_at_end t) (append_assoc start fed piece) h.1),
)
HasAdded-behind reply reply_at_end start fed piece text (Some end.ReaderGone) h =
    subst (λ (t : List ℕ). IsPrefixOf t (behind reply start fed ++ text)) (behind-more reply start fed piece) h
HasAdded-behind reply reply_at_end start fed piece text (Some end.WriteFault) h =
    subst (λ (t : List ℕ). IsPrefixOf t (behind reply start fed ++ text)) (behind-more reply start fed piece) h
HasAdded-behind reply reply_at_end start fed piece text (Some end.NoMemory) h =
    subst (λ (t : List ℕ). IsPrefixOf t (behind reply start fed ++ text)) (behind-more reply start fed piece) h
HasAdded-behind reply reply_at_end start fed piece text (Some end.Done) h = absurd h
HasAdded-behind reply reply_at_end start fed piece text (Some end.ReadFault) h = absurd h
HasAdded-behind reply reply_at_end start fed piece text (Some end.Exhausted) h = absurd h

-- what the end of the input adds behind bytes that stand behind others
pub HasAddedAtEnd-behind : (reply reply_at_end : List ℕ → List ℕ) (start fed text : List ℕ) (how : DialogueEnd)
    → HasAddedAtEnd reply reply_at_end (start ++ fed) text how → HasAddedAtEnd (behind reply start) (behind reply_at_end start) fed text how
HasAddedAtEnd-behind reply reply_at_end start fed text end.Done h = h
HasAddedAtEnd-behind reply reply_at_end start fed text end.ReaderGone h = h
HasAddedAtEnd-behind reply reply_at_end start fed text end.WriteFault h = h
HasAddedAtEnd-behind reply reply_at_end start fed text end.NoMemory h = h
HasAddedAtEnd-behind reply reply_at_end start fed text end.Ended h = absurd h
HasAddedAtEnd-behind reply reply_at_end start fed text end.ReadFault h = absurd h
HasAddedAtEnd-behind reply reply_at_end start fed text end.Exhausted h = absurd h

-- a dialogue in which a text was written and nothing read
pub IsDialogue-wrote : (reply : List ℕ → List ℕ) (text : List ℕ) → IsDialogue reply (wrote text)
IsDialogue-wrote reply text = λ before after bytes h. absurd (no_read-wrote text before after bytes h)

-- the reply to nothing was written first
pub IsAnswered-wrote : (reply : List ℕ → List ℕ) (text : List ℕ) → text ≡ reply [] → IsAnswered reply (wrote text)
IsAnswered-wrote reply text said = record {
  answered = written_in-wrote text ∙ said ∙ ap reply (sym (read_in-wrote text));
  open_yet = has_ended-wrote text;
}

-- a front of the reply to nothing was written
pub prefix-wrote : (reply reply_at_end : List ℕ → List ℕ) (text : List ℕ) → IsPrefixOf (reply []) text
    → IsPrefixOf (meant reply reply_at_end (wrote text)) (written_in (wrote text))
prefix-wrote reply reply_at_end text (rest, is) =
    rw (has_ended-wrote text) (
      rest,
      ap reply (read_in-wrote text) ∙ is ∙ ap (λ (t : List ℕ). t ++ rest) (sym (written_in-wrote text)),
    )

-- a dialogue that has ended by a fault of the first write
pub HasAnswered-cut : (reply reply_at_end : List ℕ → List ℕ) (text : List ℕ) (fault : WriteFault) → IsPrefixOf (reply []) text
    → HasAnswered reply reply_at_end (wrote text) (end_by fault)
HasAnswered-cut reply reply_at_end text write.ReaderGone h =
    record { dialogue = IsDialogue-wrote reply text; written = prefix-wrote reply reply_at_end text h }
HasAnswered-cut reply reply_at_end text write.Failed h =
    record { dialogue = IsDialogue-wrote reply text; written = prefix-wrote reply reply_at_end text h }

-- a front of the reply to what was fed before begins the reply to nothing behind it
pub prefix-opened : (reply : List ℕ → List ℕ) (start text : List ℕ) (n : ℕ) → text ≡ reply start → IsPrefixOf (behind reply start []) (take n text)
prefix-opened reply start text n said = (drop n text, ap reply (append-nil start) ∙ sym said ∙ sym (take-append-drop n text))

-- a fault of a write is no end that the replier or the input brings
pub end_by-fault : (fault : WriteFault) → (end_by fault ≡ end.Ended → ⊥) × (end_by fault ≡ end.Done → ⊥)
end_by-fault write.ReaderGone = (λ e. absurd (cc), λ e. absurd (cc))
end_by-fault write.Failed = (λ e. absurd (cc), λ e. absurd (cc))

-- a replier was fed all that was fed and read, where nothing was read
pub fed-opened : (WasFed : List ℕ → Type 0) (start text : List ℕ) → WasFed start → WasFed (start ++ read_in (wrote text))
fed-opened WasFed start text fed =
    subst WasFed (sym (ap (λ (t : List ℕ). start ++ t) (read_in-wrote text) ∙ append-nil start)) fed

-- a dialogue that has ended before anything was read
pub HasAnswered-opened : (reply reply_at_end : List ℕ → List ℕ) (start text : List ℕ) → text ≡ reply start → StaysFrom reply reply_at_end start
    → HasAnswered (behind reply start) (behind reply_at_end start) (wrote text) end.Ended
HasAnswered-opened reply reply_at_end start text said stays = record {
  dialogue = IsDialogue-wrote (behind reply start) text;
  written = (
    IsAnswered-wrote (behind reply start) text (said ∙ ap reply (sym (append-nil start))),
    rw (read_in-wrote text) (StaysFrom-behind reply reply_at_end start []
        (subst (λ (t : List ℕ). StaysFrom reply reply_at_end t) (sym (append-nil start)) stays)),
  );
}

-- a dialogue goes on behind what was said first
pub IsGoing-opened : (reply : List ℕ → List ℕ) (WasFed : List ℕ → Type 0) (start text : List ℕ) → WasFed start → text ≡ reply start
    → IsGoing (behind reply start) (λ (read : List ℕ). WasFed (start ++ read)) (wrote text)
IsGoing-opened reply WasFed start text fed said = record {
  dialogue = IsDialogue-wrote (behind reply start) text;
  answered = IsAnswered-wrote (behind reply start) text (said ∙ ap reply (sym (append-nil start)));
  fed = fed-opened WasFed start text fed;
}

-- bytes that end in a line that has not ended, behind others
pub is_cut_off-append : (xs ys : List ℕ) → 0 < length ys → is_cut_off (xs ++ ys) ≡ is_cut_off ys
is_cut_off-append [] ys some = refl
is_cut_off-append (x ∷ []) [] some = absurd (omega (arith, some))
is_cut_off-append (x ∷ []) (y ∷ ys) some = refl
is_cut_off-append (x ∷ z ∷ xs) ys some = is_cut_off-append (z ∷ xs) ys some

-- whether bytes end within a line, by the last of them
by-last : (b : ℕ) (bytes : List ℕ) (none : ℕ) → is_cut_off (b ∷ bytes) ≡ not (get_or (b ∷ bytes) (length bytes) none == 10)
by-last b [] none = refl
by-last b (c ∷ bytes) none = by-last c bytes none

-- where there is a last byte, it tells whether they end within a line
pub is_cut_off-last : (bytes : List ℕ) (last : ℕ) → Some last ≡ slice_get bytes (length bytes - 1) → not (last == 10) ≡ is_cut_off bytes
is_cut_off-last [] last is = absurd (let none : Some last ≡ None = is in cc)
is_cut_off-last (b ∷ bytes) last is =
    let at : length (b ∷ bytes) - 1 ≡ length bytes = omega arith in
    let same : get_or (b ∷ bytes) (length bytes) 0 ≡ last =
    subst (λ (n : ℕ). get_or (b ∷ bytes) n 0 ≡ last) at (get_or_from_slice_get (b ∷ bytes) (length (b ∷ bytes) - 1) last 0 (sym is)) in
    ap (λ (n : ℕ). not (n == 10)) (sym same) ∙ sym (by-last b bytes 0)

-- where there is no last byte, there is none
pub is_cut_off-none : (bytes : List ℕ) → None ≡ slice_get bytes (length bytes - 1) → false ≡ is_cut_off bytes
is_cut_off-none [] is = refl
is_cut_off-none (b ∷ bytes) is =
    absurd (let some : None ≡ Some (get_or (b ∷ bytes) (length (b ∷ bytes) - 1) 0) =
    is ∙ slice_get-get_or (b ∷ bytes) (length (b ∷ bytes) - 1) 0 (omega arith) in cc)

-- what was put behind the reply to some bytes is the reply to more, also for another one that has the same replies
pub HasOpened-more : (reply now-reply reply_at_end now-at_end : List ℕ → List ℕ) (IsFed : List ℕ → Type 0) (given more old new put : List ℕ) (flow : Flow)
    → now-reply ≡ reply → now-at_end ≡ reply_at_end → old ≡ reply given → new ≡ old ++ put
    → HasOpened now-reply now-at_end IsFed (given ++ more) flow (now-reply given ++ put) → HasOpened reply reply_at_end IsFed (given ++ more) flow new
HasOpened-more reply now-reply reply_at_end now-at_end IsFed given more old new put flow same same_at_end said grown h =
    let text : now-reply given ++ put ≡ new =
    ap (λ (r : List ℕ → List ℕ). r given ++ put) same ∙ ap (λ (t : List ℕ). t ++ put) (sym said) ∙ sym grown in
    subst (λ (t : List ℕ). HasOpened reply reply_at_end IsFed (given ++ more) flow t) text
    (subst (λ (r : List ℕ → List ℕ). HasOpened r reply_at_end IsFed (given ++ more) flow (now-reply given ++ put)) same
    (subst (λ (r : List ℕ → List ℕ). HasOpened now-reply r IsFed (given ++ more) flow (now-reply given ++ put)) same_at_end h))

-- nothing more ends as what was there
pub is_cut_off-nothing : (given more : List ℕ) → length more ≡ 0 → is_cut_off given ≡ is_cut_off (given ++ more)
is_cut_off-nothing given [] none = ap is_cut_off (sym (append-nil given))
is_cut_off-nothing given (b ∷ more) none = absurd (omega (arith, none))

-- the same of a replier that has the same replies
pub HasOpened-same : (reply now-reply reply_at_end now-at_end : List ℕ → List ℕ) (WasFed : List ℕ → Type 0) (start : List ℕ) (flow : Flow) (text : List ℕ)
    → now-reply ≡ reply → now-at_end ≡ reply_at_end → HasOpened now-reply now-at_end WasFed start flow text
    → HasOpened reply reply_at_end WasFed start flow text
HasOpened-same reply now-reply reply_at_end now-at_end WasFed start flow text same same_at_end h =
    subst (λ (r : List ℕ → List ℕ). HasOpened r reply_at_end WasFed start flow text) same
    (subst (λ (r : List ℕ → List ℕ). HasOpened now-reply r WasFed start flow text) same_at_end h)

-- the fault of a write is counted as that of the end that it brings
pub faults-cut : (fault : WriteFault) (faults : WireFaults) → one_write_more fault faults ≡ faults_at faults (end_by fault)
faults-cut write.ReaderGone faults = refl
faults-cut write.Failed faults = refl
