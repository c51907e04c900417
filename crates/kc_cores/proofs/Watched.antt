-- A run that answers a stream ends as its dialogue has ended, or since there is no text in front of it.
use Rattle.std.proofs.Common.{◌≡◌, ℕ, List, Option, inr, ap, refl, subst, sym}
use Rattle.kc_io.specs.declared.source.Source as sources
use Rattle.kc_text.specs.declared.refusal.Refusal.{Refusal}
use Rattle.kc_wire.specs.declared.wire.Wire as wires
use Rattle.kc_dialogue.specs.declared.end.DialogueEnd.{DialogueEnd}
use Rattle.kc_dialogue.specs.declared.end.DialogueEnd.TheVariants as dialogue
use Rattle.kc_wishes.specs.Wishes.{StreamQuery}
use Rattle.kc_cores.specs.Sentences.{no_memory_line}
use Rattle.kc_cores.specs.WatchEnded.{HasEndedBy, HasEndedSo, NoFrontAt, WatchEnded}
use Rattle.kc_cores.specs.declared.CoresStatus.{CoresStatus}
use Rattle.kc_cores.specs.declared.CoresStatus.TheVariants as status

-- what is told is what the end of the dialogue is about
pub HasEndedSo-is : (file : Option (List ℕ)) (lines : ℕ) (how : DialogueEnd) (found so_far at_end : Option Refusal × ℕ) (end : CoresStatus) (line : List ℕ)
    → (how ≡ dialogue.Ended → found ≡ so_far) → (how ≡ dialogue.Done → found ≡ at_end) → HasEndedSo file lines how found found end line
    → HasEndedSo file lines how so_far at_end end line
HasEndedSo-is file lines dialogue.Done found so_far at_end end line one two h =
    subst (λ (r : Option Refusal × ℕ). HasEndedBy file lines r.0 r.1 end line) (two refl) h
HasEndedSo-is file lines dialogue.Ended found so_far at_end end line one two h =
    subst (λ (r : Option Refusal × ℕ). HasEndedBy file lines r.0 r.1 end line) (one refl) h
HasEndedSo-is file lines dialogue.ReadFault found so_far at_end end line one two h = h
HasEndedSo-is file lines dialogue.Exhausted found so_far at_end end line one two h = h
HasEndedSo-is file lines dialogue.ReaderGone found so_far at_end end line one two h = h
HasEndedSo-is file lines dialogue.WriteFault found so_far at_end end line one two h = h
HasEndedSo-is file lines dialogue.NoMemory found so_far at_end end line one two h = h

-- nothing was read, as there was no memory
pub WatchEnded-nothing : {I L : Type 0} (source : sources.Ghosts I) (known : I → List ℕ → Option (List ℕ)) (wire : wires.Ghosts L) (query : StreamQuery)
    (end : CoresStatus) (line : List ℕ) (i i' : I) (l l' : L) → end ≡ status.NoMemory → line ≡ no_memory_line → i' ≡ i → l' ≡ l
    → WatchEnded source known wire query end line i i' l l'
WatchEnded-nothing source known wire query end line i i' l l' is told one stays = record {
  ended = inr (
    subst (λ (e : CoresStatus). NoFrontAt e line (known i) query.start (source.faults i) (source.faults i')) (sym is) (told, ap source.faults one),
    stays,
  );
  untouched = λ _. one;
}
