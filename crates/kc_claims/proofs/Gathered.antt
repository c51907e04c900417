-- What lines claim that come behind others.
use Rattle.std.proofs.Common.{◌≡◌, ◌+◌, ◌++◌, ◌∙◌, ℕ, List, [], ◌∷◌, Err, None, Ok, Option, Result, Some}
use Rattle.std.proofs.Common.{ap, append-nil, append_assoc, arith, length, length-append, refl, subst, sym}
use Rattle.kc_text.specs.Lines.{EndsLine, fields, lines}
use Rattle.kc_text.specs.declared.kind.Kind.{Kind}
use Rattle.kc_text.specs.declared.refusal.Refusal.{Refusal}
use Rattle.kc_text.proofs.SaidAppend.{lines-append}
use Rattle.kc_claims.specs.Claims.{behind_claims, claim_in, claims_after, claims_with}
use Rattle.kc_claims.specs.Gathering.{HasListed, HasTakenLines}
use Rattle.kc_claims.specs.Tables.{AreTabled}
use Rattle.kc_claims.specs.declared.claim.Claim.{Claim}
use Rattle.kc_claims.specs.declared.gathering.Gathering.{Gathering}

-- claims in front of claims in front of others
behind-twice : (first second : List Claim) (rest : Result (List Claim) Refusal)
    → behind_claims first (behind_claims second rest) ≡ behind_claims (first ++ second) rest
behind-twice first second (Ok claims) = ap Ok (sym (append_assoc first second claims))
behind-twice first second (Err refusal) = refl

-- no claims in front of others
behind-none : (rest : Result (List Claim) Refusal) → behind_claims [] rest ≡ rest
behind-none (Ok claims) = refl
behind-none (Err refusal) = refl

-- what is refused behind claims is refused
behind-err : (front : List Claim) (rest : Result (List Claim) Refusal) (r : Refusal) → behind_claims front rest ≡ Err r → rest ≡ Err r
behind-err front (Ok claims) r is = absurd (let h : Ok (front ++ claims) ≡ Err r = is in cc)
behind-err front (Err refusal) r is = is

-- claims in front of others are these claims
behind-ok : (front : List Claim) (rest : Result (List Claim) Refusal) (all : List Claim) → behind_claims front rest ≡ Ok all
    → (claims : List Claim) × (rest ≡ Ok claims) × (front ++ claims ≡ all)
behind-ok front (Ok claims) all is = (claims, refl, let h : Ok (front ++ claims) ≡ Ok all = is in cc)
behind-ok front (Err refusal) all is = absurd (let h : Err refusal ≡ Ok all = is in cc)

-- a line that is refused stays so, whatever comes behind it
pub err-append : (done : ℕ) (xs ys : List (List ℕ)) (r : Refusal) → claims_after done xs ≡ Err r → claims_after done (xs ++ ys) ≡ Err r
err-append done [] ys r is = absurd (let h : Ok [] ≡ Err r = is in cc)
err-append done (x ∷ xs) ys r is = go (claim_in (done + 1) (fields x)) (λ h. err-append (done + 1) xs ys r h) is
  where
    go : (says : Result (Option Claim) Kind) → (claims_after (done + 1) xs ≡ Err r → claims_after (done + 1) (xs ++ ys) ≡ Err r)
        → claims_with (done + 1) says (claims_after (done + 1) xs) ≡ Err r → claims_with (done + 1) says (claims_after (done + 1) (xs ++ ys)) ≡ Err r
    go (Err kind) rest is = is
    go (Ok None) rest is = rest is
    go (Ok (Some claim)) rest is =
        ap (behind_claims (claim ∷ [])) (rest (behind-err (claim ∷ []) (claims_after (done + 1) xs) r is))

-- what lines claim behind others
pub ok-append : (done : ℕ) (xs ys : List (List ℕ)) (claims : List Claim) → claims_after done xs ≡ Ok claims
    → claims_after done (xs ++ ys) ≡ behind_claims claims (claims_after (done + length xs) ys)
ok-append done [] ys claims is =
    let none : [] ≡ claims = let h : Ok [] ≡ Ok claims = is in cc in
    sym (behind-none (claims_after done ys)) ∙ ap (λ (c : List Claim). behind_claims c (claims_after done ys)) none
    ∙ ap (λ n. behind_claims claims (claims_after n ys)) (let e : done ≡ done + 0 = omega arith in e)
ok-append done (x ∷ xs) ys claims is = go (claim_in (done + 1) (fields x)) (λ c h. ok-append (done + 1) xs ys c h) is
  where
    go : (says : Result (Option Claim) Kind)
        → ((c : List Claim) → claims_after (done + 1) xs ≡ Ok c
        → claims_after (done + 1) (xs ++ ys) ≡ behind_claims c (claims_after ((done + 1) + length xs) ys))
        → claims_with (done + 1) says (claims_after (done + 1) xs) ≡ Ok claims
        → claims_with (done + 1) says (claims_after (done + 1) (xs ++ ys)) ≡ behind_claims claims (claims_after (done + length (x ∷ xs)) ys)
    go (Err kind) rest is = absurd (let h : Err (record { line = done + 1; kind = kind }) ≡ Ok claims = is in cc)
    go (Ok None) rest is =
        rest claims is ∙ ap (λ n. behind_claims claims (claims_after n ys)) (let e : (done + 1) + length xs ≡ done + length (x ∷ xs) = omega arith in e)
    go (Ok (Some claim)) rest is =
        let (behind, found, e) = behind-ok (claim ∷ []) (claims_after (done + 1) xs) claims is in
        ap (behind_claims (claim ∷ [])) (rest behind found) ∙ behind-twice (claim ∷ []) behind (claims_after ((done + 1) + length xs) ys)
        ∙ ap (λ (c : List Claim). behind_claims c (claims_after ((done + 1) + length xs) ys)) e
        ∙ ap (λ n. behind_claims claims (claims_after n ys)) (let e : (done + 1) + length xs ≡ done + length (x ∷ xs) = omega arith in e)

module _ (old : Gathering) (done : List (List ℕ)) (line : List ℕ) (h : HasListed old done) where
  -- what a line claims behind others
  pub taken-line : (says : Result (Option Claim) Kind) → says ≡ claim_in (old.lines + 1) (fields line)
      → claims_after 0 (done ++ line ∷ []) ≡ behind_claims h.claims (claims_with (old.lines + 1) says (Ok []))
  taken-line says is =
      ok-append 0 done (line ∷ []) h.claims h.means
      ∙ ap (λ n. behind_claims h.claims (claims_after n (line ∷ []))) (let e : 0 + length done ≡ old.lines = omega (arith, h.counted) in e)
      ∙ ap (λ s. behind_claims h.claims (claims_with (old.lines + 1) s (Ok []))) (sym is)

  one-more : length (done ++ line ∷ []) ≡ length done + 1
  one-more = length-append done (line ∷ [])

  module _ (new : Gathering) (count : new.lines ≡ old.lines + 1) where
    -- a line that is refused
    pub HasTakenLines-refused : (kind : Kind) → Err kind ≡ claim_in (old.lines + 1) (fields line)
        → new.refusal ≡ Some (record { line = old.lines + 1; kind = kind }) → HasTakenLines new (done ++ line ∷ [])
    HasTakenLines-refused kind says told = record {
      refused = λ r is.
          let some : Some (record { line = old.lines + 1; kind = kind }) ≡ Some r = sym told ∙ is in
          let same : record { line = old.lines + 1; kind = kind } ≡ r = let e = some in cc in
          taken-line (Err kind) says ∙ ap (λ (x : Refusal). Err x) same;
      listed = λ none. absurd (let e : Some (record { line = old.lines + 1; kind = kind }) ≡ None = sym told ∙ none in cc);
    }

    -- a line that claims nothing
    pub HasTakenLines-none : Ok None ≡ claim_in (old.lines + 1) (fields line) → new.refusal ≡ None → AreTabled h.claims new.table
        → HasTakenLines new (done ++ line ∷ [])
    HasTakenLines-none says none tabled = record {
      refused = λ r is. absurd (let e : None ≡ Some r = sym none ∙ is in cc);
      listed = λ _. record {
        claims = h.claims;
        means = taken-line (Ok None) says ∙ ap (λ (c : List Claim). Ok c) (append-nil h.claims);
        tabled = tabled;
        counted = omega (arith, count, h.counted, one-more);
      };
    }

    -- a line that claims something
    pub HasTakenLines-claim : (claim : Claim) → Ok (Some claim) ≡ claim_in (old.lines + 1) (fields line) → new.refusal ≡ None
        → ((claims : List Claim) → AreTabled claims old.table → AreTabled (claims ++ claim ∷ []) new.table) → HasTakenLines new (done ++ line ∷ [])
    HasTakenLines-claim claim says none put = record {
      refused = λ r is. absurd (let e : None ≡ Some r = sym none ∙ is in cc);
      listed = λ _. record {
        claims = h.claims ++ claim ∷ [];
        means = taken-line (Ok (Some claim)) says;
        tabled = put h.claims h.tabled;
        counted = omega (arith, count, h.counted, one-more);
      };
    }

-- once a line is refused, it stays the first
pub HasTakenLines-stays : (now : Gathering) (done more : List (List ℕ)) (r : Refusal) → HasTakenLines now done → now.refusal ≡ Some r
    → HasTakenLines now (done ++ more)
HasTakenLines-stays now done more r h is = record {
  refused = λ q e.
      err-append 0 done more q (h.refused q e);
  listed = λ none. absurd (let e : Some r ≡ None = sym is ∙ none in cc);
}

-- lines of a text were taken behind any that came before
abbrev pub HaveCome : Gathering → Gathering → List (List ℕ) → Type 0
HaveCome start now more = (done : List (List ℕ)) → HasListed start done → HasListed now (done ++ more)

-- no line came
pub HaveCome-none : (start : Gathering) → HaveCome start start []
HaveCome-none start done h = subst (HasListed start) (sym (append-nil done)) h

module _ (start old new : Gathering) (more : List (List ℕ)) (line : List ℕ) (came : HaveCome start old more)
    (took : (done : List (List ℕ)) → HasListed old done → HasTakenLines new (done ++ line ∷ [])) where
  -- one line more came
  pub HaveCome-more : new.refusal ≡ None → HaveCome start new (more ++ line ∷ [])
  HaveCome-more none done h =
      subst (HasListed new) (append_assoc done more (line ∷ [])) ((took (done ++ more) (came done h)).listed none)

  -- one line more is refused
  pub HasTakenLines-last : (rest : List (List ℕ)) (before piece : List ℕ) (r : Refusal) → EndsLine before → HasListed start (lines before)
      → new.refusal ≡ Some r → lines piece ≡ more ++ line ∷ rest → HasTakenLines new (lines (before ++ piece))
  HasTakenLines-last rest before piece r ended h is cut =
      subst (HasTakenLines new)
      (append_assoc (lines before ++ more) (line ∷ []) rest ∙ append_assoc (lines before) more (line ∷ rest)
      ∙ ap (λ (t : List (List ℕ)). lines before ++ t) (sym cut) ∙ sym (lines-append before piece ended))
      (HasTakenLines-stays new ((lines before ++ more) ++ line ∷ []) rest r (took (lines before ++ more) (came (lines before) h)) is)

-- all lines of a piece came
pub HasTakenLines-all : (start new : Gathering) (more rest : List (List ℕ)) (before piece : List ℕ) → EndsLine before → HasListed start (lines before)
    → HaveCome start new more → lines piece ≡ more ++ rest → rest ≡ [] → new.refusal ≡ None → HasTakenLines new (lines (before ++ piece))
HasTakenLines-all start new more rest before piece ended h came cut end none = record {
  refused = λ r is. absurd (let e : None ≡ Some r = sym none ∙ is in cc);
  listed = λ _.
      subst (HasListed new)
      (ap (λ (t : List (List ℕ)). lines before ++ t) (sym (cut ∙ ap (λ (t : List (List ℕ)). more ++ t) end ∙ append-nil more))
      ∙ sym (lines-append before piece ended)) (came (lines before) h);
}
