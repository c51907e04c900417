-- The numbers of ids among the first ones.
use Rattle.std.proofs.Common.{◌≡◌, ◌≤◌, ◌<◌, ◌+◌, ℕ, zero, suc, Bool, true, false, cond, List, [], ◌∷◌, not, refl, sym, ap, ◌∙◌, arith, take}
use Rattle.std.proofs.Common.{◌||◌, ap₂, nat_eq, Option, Some, None, le-ltb, lt-ltb, inl, inr}
use Rattle.std.specs.Prelude.{nat_lt, option_map}
use Rattle.std.specs.Set.{is_member}
use Rattle.std.proofs.lemmas.Bool.{cases_Bool}
use Rattle.kc_lists.proofs.Shared.{ltb-next}
use Rattle.kc_text.specs.Inputs.{place}
use Rattle.kc_stream.specs.Ids.{number_of}
use Rattle.kc_stream.proofs.Naming.{number-some}

-- what is the first of ids has the number 0
number-first : (x id : ℕ) (ids : List ℕ) → nat_eq id x ≡ true → number_of (x ∷ ids) id ≡ Some 0
number-first x id ids same =
    ap (λ (b : Bool). cond (b || is_member nat_eq ids id) (Some (cond (not b) (1 + place ids id) 0)) None) same

-- and what is another one that of the rest, and one more
number-later : (x id : ℕ) (ids : List ℕ) → nat_eq id x ≡ false → number_of (x ∷ ids) id ≡ option_map (λ n. 1 + n) (number_of ids id)
number-later x id ids other =
    ap (λ (b : Bool). cond (b || is_member nat_eq ids id) (Some (cond (not b) (1 + place ids id) 0)) None) other
    ∙ joined (is_member nat_eq ids id)
  where
    joined : (m : Bool) → cond m (Some (1 + place ids id)) None ≡ option_map (λ n. 1 + n) (cond m (Some (place ids id)) None)
    joined true = refl
    joined false = refl

-- The number of an id among the first ids is its number, if that is below how many these are. Else it is none of them.
number-taken : (ids : List ℕ) (n id : ℕ) → number_of (take n ids) id ≡ cond (nat_lt (place ids id) n) (number_of ids id) None
number-taken [] zero id = no-id (nat_lt (place [] id) 0)
  where
    no-id : (b : Bool) → number_of [] id ≡ cond b None None
    no-id true = refl
    no-id false = refl
number-taken [] (suc n) id = no-id (nat_lt (place [] id) (suc n))
  where
    no-id : (b : Bool) → number_of [] id ≡ cond b None None
    no-id true = refl
    no-id false = refl
number-taken (x ∷ ids) zero id =
    sym (ap (λ (b : Bool). cond b (number_of (x ∷ ids) id) None) (le-ltb (place (x ∷ ids) id) 0 (omega arith)))
number-taken (x ∷ ids) (suc n) id = elim (cases_Bool (nat_eq id x)) [
  | inl same ↦
      let at : place (x ∷ ids) id ≡ 0 = ap (λ (b : Bool). cond (not b) (1 + place ids id) 0) same in
      number-first x id (take n ids) same
      ∙ sym (ap₂ (λ (b : Bool) (o : Option ℕ). cond b o None)
      (ap (λ p. nat_lt p (suc n)) at ∙ lt-ltb 0 (suc n) (omega arith)) (number-first x id ids same))
  | inr other ↦
      let at : place (x ∷ ids) id ≡ suc (place ids id) = ap (λ (b : Bool). cond (not b) (1 + place ids id) 0) other ∙ omega arith in
      number-later x id (take n ids) other ∙ ap (option_map (λ m. 1 + m)) (number-taken ids n id)
      ∙ one-further (nat_lt (place ids id) n) (number_of ids id)
      ∙ sym (ap₂ (λ (b : Bool) (o : Option ℕ). cond b o None)
      (ap (λ p. nat_lt p (suc n)) at ∙ ltb-next (place ids id) n) (number-later x id ids other))
]
  where
    one-further : (b : Bool) (o : Option ℕ) → option_map (λ m. 1 + m) (cond b o None) ≡ cond b (option_map (λ m. 1 + m) o) None
    one-further true o = refl
    one-further false o = refl

-- what is no id is none of the first ones
pub known-none : (ids : List ℕ) (n id : ℕ) → number_of ids id ≡ None → number_of (take n ids) id ≡ None
known-none ids n id none =
    number-taken ids n id ∙ ap (λ (o : Option ℕ). cond (nat_lt (place ids id) n) o None) none ∙ never (nat_lt (place ids id) n)
  where
    never : (b : Bool) → cond b None None ≡ (let o : Option ℕ = None in o)
    never true = refl
    never false = refl

-- an id is one of the first ones if its number is below how many these are
pub known-first : (ids : List ℕ) (n id v : ℕ) → number_of ids id ≡ Some v → v < n → number_of (take n ids) id ≡ Some v
known-first ids n id v some low =
    let (m, at) = number-some ids id v some in
    number-taken ids n id
    ∙ ap₂ (λ (b : Bool) (o : Option ℕ). cond b o None) (ap (λ p. nat_lt p n) (sym at) ∙ lt-ltb v n low) some

-- and else it is none of them
pub known-later : (ids : List ℕ) (n id v : ℕ) → number_of ids id ≡ Some v → n ≤ v → number_of (take n ids) id ≡ None
known-later ids n id v some high =
    let (m, at) = number-some ids id v some in
    number-taken ids n id
    ∙ ap (λ (b : Bool). cond b (number_of ids id) None) (ap (λ p. nat_lt p n) (sym at) ∙ le-ltb v n high)
