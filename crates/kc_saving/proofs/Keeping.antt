-- What the file has, as more is read and states are saved.
use Rattle.std.proofs.Common.{◌≡◌, ◌<◌, ◌++◌, ◌∙◌, ℕ, List, [], Option, None, Some, ap, arith, inl, inr, refl, subst, sym}
use Rattle.std.proofs.Common.{append_assoc, append-nil}
use Rattle.kc_files.specs.Folders.{Held}
use Rattle.kc_stream.specs.declared.bad_lines.BadLines.{BadLines}
use Rattle.kc_watch.specs.Accounts.{Account}
use Rattle.kc_watch.specs.States.{account_so_far, ended_in}
use Rattle.kc_saving.specs.Saving.{HoldsSave, IsSavedBehind}
use Rattle.kc_saving.specs.Steps.{IsSaved}

-- all files are as they were
abbrev pub Same : (List ℕ → Held) → (List ℕ → Held) → Type 0
Same old new = (name : List ℕ) → new name ≡ old name

-- before any save
pub HoldsSave-begin : (file : List ℕ) (bad : BadLines) (holds : List ℕ → Held) (read : List ℕ) → HoldsSave file bad holds holds read 0
HoldsSave-begin file bad holds read = record { others = λ name other. refl; own = inr (refl, refl) }

-- a state that was saved behind a front of some bytes was so behind a front of more
IsSavedBehind-more : (bad : BadLines) (held : Held) (read more : List ℕ) (saved : ℕ) → IsSavedBehind bad held read saved
    → IsSavedBehind bad held (read ++ more) saved
IsSavedBehind-more bad held read more saved s = record {
  front = s.front;
  rest = s.rest ++ more;
  parts = ap (λ (t : List ℕ). t ++ more) s.parts ∙ append_assoc s.front s.rest more;
  account = s.account;
  account_is = s.account_is;
  count = s.count;
  has = s.has;
}

-- more is read
pub HoldsSave-more : (file : List ℕ) (bad : BadLines) (before now : List ℕ → Held) (read more : List ℕ) (saved : ℕ) → HoldsSave file bad before now read saved
    → HoldsSave file bad before now (read ++ more) saved
HoldsSave-more file bad before now read more saved h = record {
  others = h.others;
  own = elim h.own [
    | inl s ↦ inl (IsSavedBehind-more bad (now file) read more saved s)
    | inr none ↦ inr none
  ];
}

-- files stay as they were
pub HoldsSave-same : (file : List ℕ) (bad : BadLines) (before old new : List ℕ → Held) (read : List ℕ) (saved : ℕ) → Same old new
    → HoldsSave file bad before old read saved → HoldsSave file bad before new read saved
HoldsSave-same file bad before old new read saved same h = record {
  others = λ name other. same name ∙ h.others name other;
  own = elim h.own [
    | inl s ↦ inl (subst (λ (held : Held). IsSavedBehind bad held read saved) (sym (same file)) s)
    | inr none ↦ inr (same file ∙ none.0, none.1)
  ];
}

-- The state of an account was saved, behind which more batches had ended than none.
pub HoldsSave-saved : (file : List ℕ) (bad : BadLines) (before old new : List ℕ → Held) (read : List ℕ) (saved ended : ℕ) (account : Option Account)
    → account_so_far bad read ≡ account → ended ≡ ended_in account → saved < ended → IsSaved file old new account
    → HoldsSave file bad before old read saved → HoldsSave file bad before new read ended
HoldsSave-saved file bad before old new read saved ended None is count later s h = absurd (omega (arith, later, count))
HoldsSave-saved file bad before old new read saved ended (Some account) is count later s h = record {
  others = λ name other. s.0 name other ∙ h.others name other;
  own = inl (record {
    front = read;
    rest = [];
    parts = sym (append-nil read);
    account = account;
    account_is = is;
    count = count;
    has = s.1;
  });
}
