-- Whatever words ask for, there are some workers, and not too many.
use Rattle.std.proofs.Common.{◌≡◌, ◌<◌, ◌≤◌, ℕ, Bool, true, false, cond, ltb, leb, ◌&&◌, List, Option, Some, None, codes, refl, ap, subst, arith}
use Rattle.std.proofs.Common.{option_and_then, ltb-true, leb-true}
use Rattle.std.specs.Borrow.{Bor}
use Rattle.std.specs.Prelude.{option_map, unwrap_or}
use Rattle.std.proofs.lemmas.Bool.{and_parts}
use Rattle.clap.specs.Faults.{fault_of}
use Rattle.clap.specs.Simple.{matches_of}
use Rattle.clap.specs.Walk.{first_of, is_empty, texts}
use Rattle.kc_output.specs.Inputs.{HasWorkers}
use Rattle.kc_output.specs.declared.setting.TheConstants.{MOST_WORKERS}
use Rattle.kc_top.specs.Settings.{asked, command, number, read, setting, setting_in, together, workers}
use Rattle.kc_output.specs.declared.setting.Setting.{Setting}
use Rattle.kc_output.specs.declared.show.Show.{Show}
use Rattle.kc_output.specs.declared.start.Start.{Start}

-- as many as may work
abbrev AreSome : ℕ → Type 0
AreSome n = (0 < n) × (n ≤ MOST_WORKERS)

-- the value where it is there
abbrev value_or : ℕ → Option ℕ → ℕ
value_or d None = d
value_or d (Some n) = n

-- a number that passes the test is
workers-within : (n m : ℕ) (b : Bool) → (ltb 0 m && leb m MOST_WORKERS) ≡ b → cond b (Some m) None ≡ Some n → AreSome n
workers-within n m false t e = absurd (cc)
workers-within n m true t e =
    let same : m ≡ n = ap (value_or 0) e in
    let both = and_parts (ltb 0 m) (leb m MOST_WORKERS) t in
    (omega (arith, same, ltb-true 0 m both.0), omega (arith, same, leb-true m MOST_WORKERS both.1))

-- the number of workers that a word gives is some, and not too great
workers-some : (text : List ℕ) (n : ℕ) → workers text ≡ Some n → AreSome n
workers-some text n = elim (number text) as
    (λ o. option_and_then (λ m. cond (ltb 0 m && leb m MOST_WORKERS) (Some m) None) o ≡ Some n → AreSome n) [
      | None ↦ λ e. absurd (cc)
      | Some m ↦ λ e. workers-within n m (ltb 0 m && leb m MOST_WORKERS) refl e
    ]

-- what is read, and what stands where nothing is said
read-some : (given : Option (List ℕ)) (o : Option ℕ) → read workers given ≡ Some o → AreSome (unwrap_or o 1)
read-some None None = λ e. (omega arith, omega arith)
read-some None (Some n) = λ e. absurd (cc)
read-some (Some text) o = elim (workers text) as (λ w. workers text ≡ w → option_map (λ x. Some x) w ≡ Some o → AreSome (unwrap_or o 1)) [
  | None ↦ λ _ e. absurd (cc)
  | Some n ↦ λ is e. let same : Some n ≡ o = cc in subst (λ (p : Option ℕ). AreSome (unwrap_or p 1)) same (workers-some text n is)
] refl

-- a setting has the workers that were read
together-some : (w : Option (Option ℕ)) (v : Option (Option Show)) (l g : Option (Option ℕ)) (t : Option (Option Start)) (s : Setting)
    → together w v l g t ≡ Some s → (o : Option ℕ) × (w ≡ Some o) × (s.workers ≡ unwrap_or o 1)
together-some None v l g t s e = absurd (cc)
together-some (Some w) None l g t s e = absurd (cc)
together-some (Some w) (Some v) None g t s e = absurd (cc)
together-some (Some w) (Some v) (Some l) None t s e = absurd (cc)
together-some (Some w) (Some v) (Some l) (Some g) None s e = absurd (cc)
together-some (Some w) (Some v) (Some l) (Some g) (Some t) s e = (w, refl, cc)

-- right words ask for some workers, and not too many
pub has-workers : (words : List (Bor (List ℕ))) (s : Setting) → asked words ≡ Some s → HasWorkers s
unfolding setting
has-workers words s = elim (is_empty (fault_of command (texts words))) as
    (λ b. cond b (setting_in (matches_of command (texts words))) None ≡ Some s → HasWorkers s) [
      | true ↦ λ e.
          let (o, is, same) = together-some _ _ _ _ _ s e in
          let (some, few) = read-some (first_of (codes "workers") (matches_of command (texts words))) o is in
          record { some = omega (arith, some, same); few = omega (arith, few, same) }
      | false ↦ λ e. absurd (cc)
    ]
