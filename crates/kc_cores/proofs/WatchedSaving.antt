-- A run that answers a stream and saves its states ends as its dialogue has ended, or since there is no text in front of it.
use Rattle.std.proofs.Common.{◌≡◌, ℕ, List, Option, ap, inr, refl, subst, sym}
use Rattle.kc_io.specs.declared.source.Source as sources
use Rattle.kc_files.specs.Folders.{Held}
use Rattle.kc_text.specs.declared.refusal.Refusal.{Refusal}
use Rattle.kc_wire.specs.declared.wire.Wire as wires
use Rattle.kc_dialogue.specs.declared.end.DialogueEnd.{DialogueEnd}
use Rattle.kc_dialogue.specs.declared.end.DialogueEnd.TheVariants as dialogue
use Rattle.kc_saving.specs.declared.end.SavingEnd.{SavingEnd}
use Rattle.kc_saving.specs.declared.end.SavingEnd.TheVariants.{Dialogue, Unsaved}
use Rattle.kc_cores.specs.Sentences.{no_memory_line}
use Rattle.kc_cores.specs.WatchEnded.{NoFrontAt}
use Rattle.kc_cores.specs.WatchSaved.{HasEndedSaving, WatchSaved}
use Rattle.kc_wishes.specs.Wishes.{SavingPlan, StreamQuery}
use Rattle.kc_cores.specs.declared.CoresStatus.{CoresStatus}
use Rattle.kc_cores.specs.declared.CoresStatus.TheVariants as status
use Rattle.kc_cores.proofs.Watched.{HasEndedSo-is}

-- what is told is what the end of the dialogue is about
pub HasEndedSaving-is : (file : Option (List ℕ)) (lines : ℕ) (name : List ℕ) (how : SavingEnd) (found so_far at_end : Option Refusal × ℕ) (end : CoresStatus)
    (line : List ℕ) → (how ≡ Dialogue dialogue.Ended → found ≡ so_far) → (how ≡ Dialogue dialogue.Done → found ≡ at_end)
    → HasEndedSaving file lines name how found found end line → HasEndedSaving file lines name how so_far at_end end line
HasEndedSaving-is file lines name (Dialogue how) found so_far at_end end line one two h =
    HasEndedSo-is file lines how found so_far at_end end line (λ e. one (ap (λ (d : DialogueEnd). Dialogue d) e))
    (λ e. two (ap (λ (d : DialogueEnd). Dialogue d) e)) h
HasEndedSaving-is file lines name (Unsaved unplaced) found so_far at_end end line one two h = h

-- nothing was read, as there was no memory
pub WatchSaved-nothing : {I L P : Type 0} (source : sources.Ghosts I) (known : I → List ℕ → Option (List ℕ)) (wire : wires.Ghosts L)
    (holds : P → List ℕ → Held) (failed : P → ℕ) (query : StreamQuery) (plan : SavingPlan) (end : CoresStatus) (line : List ℕ) (i i' : I) (l l' : L)
    (p p' : P) → end ≡ status.NoMemory → line ≡ no_memory_line → i' ≡ i → l' ≡ l → p' ≡ p
    → WatchSaved source known wire holds failed query plan end line i i' l l' p p'
WatchSaved-nothing source known wire holds failed query plan end line i i' l l' p p' is told one stays same = record {
  ended = inr (
    subst (λ (e : CoresStatus). NoFrontAt e line (known i) query.start (source.faults i) (source.faults i')) (sym is) (told, ap source.faults one),
    stays,
    same,
  );
  untouched = λ _. one;
}
