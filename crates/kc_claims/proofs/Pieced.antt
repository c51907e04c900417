-- How a text comes in pieces: what its lines say, what was counted of them, and which of them is the first that is wrong.
use Rattle.std.proofs.Common.{◌≡◌, ◌≤◌, ◌<◌, ◌+◌, ◌-◌, ◌∷◌, ◌++◌, ◌∙◌, Global, ℕ, [], IfSome, List, None, Option, Some, Vec, ap, append-nil}
use Rattle.std.proofs.Common.{arith, cond, eqb-true, false, inl, inr, length, length-append, lt-ltb, map, refl, subst, sym, true}
use Rattle.std.specs.List.{onto_first, slice_split}
use Rattle.std.specs.Prelude.{not}
use Rattle.std.specs.Str.Lines.{strip_carriage_return}
use Rattle.std.proofs.lemmas.Bool.{cases_Bool, false≢true}
use Rattle.kc_text.specs.Forms.{all_said, said_by}
use Rattle.kc_text.specs.Lines.{EndsLine, is_newline, lines, without_last}
use Rattle.kc_text.specs.declared.limits.TheConstants.Limits.{GRAPH}
use Rattle.kc_text.specs.declared.line.TextLine.{TextLine}
use Rattle.kc_text.proofs.LineCuts.{some_part}
use Rattle.kc_text.proofs.SaidAppend.{lines-newline, said-append}
use Rattle.kc_io.specs.LineEnds.{is_cut_off, with_end}
use Rattle.kc_claims.specs.Feeding.{IsFedWith}
use Rattle.kc_claims.specs.Insisting.{HasInsisted}
use Rattle.kc_claims.specs.Judging.{AreClaimed, AreCounted, TellLines}
use Rattle.kc_claims.specs.LineFaults.{HasFaultyLine, fault_or, first_line_fault, last_pair, line_fault, pair_after}
use Rattle.kc_claims.specs.Pieces.{HasFaultyPiece, HasTakenText, TellsClaims, with_piece}
use Rattle.kc_claims.specs.Streams.{IsFaultOfStream}
use Rattle.kc_claims.specs.Sweeping.{AreToldBy, HasSwept, KeepsTold}
use Rattle.kc_claims.specs.declared.ascending.AscendingCheck.{AscendingCheck}
use Rattle.kc_claims.specs.declared.claim.Claim.{Claim}
use Rattle.kc_claims.specs.declared.claimed.ClaimLines.{ClaimLines}
use Rattle.kc_claims.specs.declared.claimed.Claimed.{Claimed}
use Rattle.kc_claims.specs.declared.fault.ClaimFault.TheVariants as claim_fault
use Rattle.kc_claims.specs.declared.fault.FaultyLine.{FaultyLine}
use Rattle.kc_claims.specs.declared.fault.LineFault.{LineFault}
use Rattle.kc_claims.specs.declared.fault.LineFault.TheVariants as wrong
use Rattle.kc_claims.specs.declared.insisting.Insisting.{Insisting}
use Rattle.kc_claims.specs.declared.sweep.Sweep.{Sweep}
use Rattle.kc_claims.proofs.Counted.{TellEach-same}
use Rattle.kc_claims.proofs.Insisted.{AreCounted-looked}
use Rattle.kc_claims.proofs.LineFaulting.{clean-append, last_pair-append}

-- bytes that are not cut off end with a line
ends-whole : (bytes : List ℕ) → is_cut_off bytes ≡ false → EndsLine bytes
ends-whole [] whole = inl refl
ends-whole (b ∷ []) whole = elim (cases_Bool (is_newline b)) [
  | inl h ↦ inr ([], ap (λ x. x ∷ []) (eqb-true b 10 h))
  | inr h ↦ absurd (false≢true (sym whole ∙ ap not h))
]
ends-whole (b ∷ c ∷ rest) whole = elim (ends-whole (c ∷ rest) whole) [
  | inl none ↦ absurd (let e : length (c ∷ rest) ≡ 0 = ap length none in omega arith)
  | inr (front, is) ↦ inr (b ∷ front, ap (λ (t : List ℕ). b ∷ t) is)
]

-- where a part stands before others, leaving out the last one leaves it
keeps-first : (part : List ℕ) (parts : List (List ℕ)) → 0 < length part → without_last parts ≡ parts → without_last (part ∷ parts) ≡ part ∷ parts
keeps-first part [] some is = ap (λ b. cond b (part ∷ []) []) (lt-ltb 0 (length part) some)
keeps-first part (next ∷ more) some is = ap (λ (t : List (List ℕ)). part ∷ t) is

-- the tail of parts none of which is left out
tail-kept : (part : List ℕ) (parts : List (List ℕ)) → without_last (part ∷ parts) ≡ part ∷ parts → without_last parts ≡ parts
tail-kept part [] is = refl
tail-kept part (next ∷ more) is = let e : part ∷ without_last (next ∷ more) ≡ part ∷ next ∷ more = is in cc

-- of bytes that are cut off no part is left out
parts-kept : (bytes : List ℕ) → is_cut_off bytes ≡ true → without_last (slice_split is_newline bytes) ≡ slice_split is_newline bytes
parts-kept [] cut = absurd (false≢true cut)
parts-kept (b ∷ []) cut = elim (cases_Bool (is_newline b)) [
  | inl h ↦ absurd (false≢true (ap not (sym h) ∙ cut))
  | inr h ↦
      let e : slice_split is_newline (b ∷ []) ≡ (b ∷ []) ∷ [] = ap (λ x. cond x ([] ∷ [] ∷ []) ((b ∷ []) ∷ [])) h in
      ap without_last e ∙ keeps-first (b ∷ []) [] (omega arith) refl ∙ sym e
]
parts-kept (b ∷ c ∷ rest) cut =
    let (part, more, is) = some_part is_newline (c ∷ rest) in
    let parts : List (List ℕ) = slice_split is_newline (c ∷ rest) in
    let kept : without_last (part ∷ more) ≡ part ∷ more = ap without_last (sym is) ∙ parts-kept (c ∷ rest) cut ∙ is in
    elim (cases_Bool (is_newline b)) [
      | inl h ↦
          let e : slice_split is_newline (b ∷ c ∷ rest) ≡ [] ∷ part ∷ more =
          ap (λ x. cond x ([] ∷ parts) (onto_first b parts)) h ∙ ap (λ (t : List (List ℕ)). [] ∷ t) is in
          ap without_last e ∙ ap (λ (t : List (List ℕ)). [] ∷ t) kept ∙ sym e
      | inr h ↦
          let e : slice_split is_newline (b ∷ c ∷ rest) ≡ (b ∷ part) ∷ more =
          ap (λ x. cond x ([] ∷ parts) (onto_first b parts)) h ∙ ap (onto_first b) is in
          ap without_last e ∙ keeps-first (b ∷ part) more (omega arith) (tail-kept part more kept) ∙ sym e
    ]

-- the lines of bytes are those with a line end behind the last
lines-ended : (bytes : List ℕ) → lines (with_end bytes) ≡ lines bytes
lines-ended bytes = elim (cases_Bool (is_cut_off bytes)) [
  | inl cut ↦
      ap (λ b. lines (cond b (bytes ++ 10 ∷ []) bytes)) cut ∙ lines-newline bytes []
      ∙ append-nil (map strip_carriage_return (slice_split is_newline bytes))
      ∙ ap (map strip_carriage_return) (sym (parts-kept bytes cut))
  | inr whole ↦ ap (λ b. lines (cond b (bytes ++ 10 ∷ []) bytes)) whole
]

said-ended : (bytes : List ℕ) → all_said (with_end bytes) ≡ all_said bytes
said-ended bytes = ap (map said_by) (lines-ended bytes)

-- they end with a line
pub ends-ended : (bytes : List ℕ) → EndsLine (with_end bytes)
ends-ended bytes = elim (cases_Bool (is_cut_off bytes)) [
  | inl cut ↦ inr (bytes, ap (λ b. cond b (bytes ++ 10 ∷ []) bytes) cut)
  | inr whole ↦ subst EndsLine (sym (ap (λ b. cond b (bytes ++ 10 ∷ []) bytes) whole)) (ends-whole bytes whole)
]

-- and are no more than one byte longer
length-ended : (bytes : List ℕ) → length (with_end bytes) ≤ length bytes + 1
length-ended bytes = elim (cases_Bool (is_cut_off bytes)) [
  | inl cut ↦
      omega (arith, ap (λ b. length (cond b (bytes ++ 10 ∷ []) bytes)) cut, length-append bytes (10 ∷ []))
  | inr whole ↦ omega (arith, ap (λ b. length (cond b (bytes ++ 10 ∷ []) bytes)) whole)
]

-- what a text and a piece behind it say
said-piece : (text piece : List ℕ) → all_said (with_end text ++ piece) ≡ all_said text ++ all_said piece
said-piece text piece = said-append (with_end text) piece (ends-ended text) ∙ ap (λ t. t ++ all_said piece) (said-ended text)

-- what was counted of a text was counted of it with a line end
pub HasSwept-ended : (first now : Sweep) (text : List ℕ) → HasSwept first now text → HasSwept first now (with_end text)
HasSwept-ended first now text h = record {
  edges = h.edges;
  told = subst (λ (t : List TextLine). AreToldBy now.ids.items t h.edges) (sym (said-ended text)) h.told;
  counted = h.counted;
}

-- all that is known of a text and a piece
read-piece : (before known : Option (List ℕ)) (text piece : List ℕ) → IfSome before (λ all. text ≡ all) → IfSome known (λ all. piece ≡ all)
    → IfSome (with_piece before known) (λ all. with_end text ++ piece ≡ all)
read-piece None known text piece t p = tt
read-piece (Some all) None text piece t p = tt
read-piece (Some all) (Some rest) text piece t p =
    ap (λ (x : List ℕ). with_end x ++ piece) t ∙ ap (λ (x : List ℕ). with_end all ++ x) p

-- a line behind so many others
behind : ℕ → FaultyLine → FaultyLine
behind n f = record { line = n + f.line; fault = f.fault }

-- the first line that is wrong behind more lines has a greater number
later-fault : (ids : List ℕ) (n done : ℕ) (before : Option (ℕ × ℕ)) (said : List TextLine) (line : ℕ) (fault : LineFault)
    → first_line_fault ids done before said ≡ Some (record { line = line; fault = fault })
    → first_line_fault ids (n + done) before said ≡ Some (record { line = n + line; fault = fault })
later-fault ids n done before [] line fault is = absurd (let e : None ≡ Some (record { line = line; fault = fault }) = is in cc)
later-fault ids n done before (x ∷ xs) line fault is =
    go (line_fault ids before x) (λ h.
    ap (λ m. first_line_fault ids m (pair_after before x) xs) (let e : (n + done) + 1 ≡ n + (done + 1) = omega arith in e)
    ∙ later-fault ids n (done + 1) (pair_after before x) xs line fault h) is
  where
    go : (found : Option LineFault) → (first_line_fault ids (done + 1) (pair_after before x) xs ≡ Some (record { line = line; fault = fault })
        → first_line_fault ids ((n + done) + 1) (pair_after before x) xs ≡ Some (record { line = n + line; fault = fault }))
        → fault_or (done + 1) found (first_line_fault ids (done + 1) (pair_after before x) xs) ≡ Some (record { line = line; fault = fault })
        → fault_or ((n + done) + 1) found (first_line_fault ids ((n + done) + 1) (pair_after before x) xs)
        ≡ Some (record { line = n + line; fault = fault })
    go None rest is = rest is
    go (Some found) rest is =
        let same : ◌≡◌ {A = FaultyLine} (record { line = done + 1; fault = found }) (record { line = line; fault = fault }) = cc in
        let l : done + 1 ≡ line = ap (λ (f : FaultyLine). f.line) same in
        let f : found ≡ fault = ap (λ (f : FaultyLine). f.fault) same in
        ap (λ (w : LineFault). Some (record { line = (n + done) + 1; fault = w })) f
        ∙ ap (λ m. Some (record { line = m; fault = fault })) (let e : (n + done) + 1 ≡ n + line = omega (arith, l) in e)

-- where no line is wrong, none is so behind more lines
clean-later : (ids : List ℕ) (n done : ℕ) (before : Option (ℕ × ℕ)) (said : List TextLine) → first_line_fault ids done before said ≡ None
    → first_line_fault ids (n + done) before said ≡ None
clean-later ids n done before [] is = refl
clean-later ids n done before (x ∷ xs) is =
    go (line_fault ids before x) (λ h.
    ap (λ m. first_line_fault ids m (pair_after before x) xs) (let e : (n + done) + 1 ≡ n + (done + 1) = omega arith in e)
    ∙ clean-later ids n (done + 1) (pair_after before x) xs h) is
  where
    go : (found : Option LineFault) → (first_line_fault ids (done + 1) (pair_after before x) xs ≡ None
        → first_line_fault ids ((n + done) + 1) (pair_after before x) xs ≡ None)
        → fault_or (done + 1) found (first_line_fault ids (done + 1) (pair_after before x) xs) ≡ None
        → fault_or ((n + done) + 1) found (first_line_fault ids ((n + done) + 1) (pair_after before x) xs) ≡ None
    go None rest is = rest is
    go (Some found) rest is = absurd (let e : Some (record { line = done + 1; fault = found }) ≡ None = is in cc)

-- nothing was taken, and no line was looked at
pub HasTakenText-none : (claims : List Claim) (order : List ℕ) (claimed : Claimed) (check : AscendingCheck) → AreClaimed claims order claimed
    → check.insisting.sweep ≡ claimed.sweep → check.insisting.last ≡ None → check.insisting.fault ≡ None
    → check.lines ≡ claimed.lines → check.room ≡ GRAPH.bytes
    → HasTakenText claims (Some []) check
HasTakenText-none claims order claimed check h sweep last fresh lines room = record {
  order = order;
  looked = record {
    insisted = record {
      sweep = claimed.sweep;
      begun = h.begun;
      fed = record {
        text = [];
        read = refl;
        few = omega arith;
        took = subst (λ (s : Sweep). HasSwept claimed.sweep s []) (sym sweep) h.begun.swept;
      };
      clean = refl;
      last = last;
      fresh = fresh;
    };
    stand = subst (λ (l : ClaimLines). TellLines claims order claimed.sweep.rank.items l) (sym lines) h.lines;
  };
  room = omega (arith, room);
}

module _ (claims : List Claim) (before known : Option (List ℕ)) (old : AscendingCheck) (h : HasTakenText claims before old) (start now : Insisting)
    (most left : ℕ) (fed : IsFedWith HasInsisted start now known (most - left)) (same : start.sweep ≡ old.insisting.sweep)
    (last : start.last ≡ old.insisting.last) where
  abbrev text : List ℕ
  text = h.looked.insisted.fed.text

  -- the ids of the claims
  abbrev ids : List ℕ
  ids = h.looked.insisted.sweep.ids.items

  -- they are those of the sweep
  ids-same : start.sweep.ids.items ≡ ids
  ids-same =
      ap (λ (s : Sweep). s.ids.items) same
      ∙ ap (λ (v : Vec ℕ Global). v.items) h.looked.insisted.fed.took.counted.ids

  -- the first line of the piece that is wrong, behind the text
  first-here : now.fault ≡ first_line_fault ids 0 (last_pair None (all_said text)) (all_said fed.text)
  first-here =
      fed.took.first ∙ ap (λ (xs : List ℕ). first_line_fault xs 0 start.last (all_said fed.text)) ids-same
      ∙ ap (λ p. first_line_fault ids 0 p (all_said fed.text)) (last ∙ h.looked.insisted.last)

  -- a line of the piece is wrong
  pub HasFaultyPiece-found : (faulty : FaultyLine) → now.fault ≡ Some faulty → HasFaultyPiece claims before known faulty
  HasFaultyPiece-found faulty is = record {
    text = text;
    came = h.looked.insisted.fed.read;
    piece = fed.text;
    read = fed.read;
    ids = ids;
    order = h.order;
    core = h.looked.insisted.sweep.core.items;
    rank = h.looked.insisted.sweep.rank.items;
    ascending = h.looked.insisted.begun.swept.counted.ascending;
    told = h.looked.insisted.begun.told;
    clean = h.looked.insisted.clean;
    first = sym first-here ∙ is;
  }

  -- a line of the piece names an id of which there is no claim, and it is the first line of all that is wrong
  pub missing-found : (line id : ℕ) → now.fault ≡ Some (record { line = line; fault = wrong.Unclaimed id })
      → IsFaultOfStream claims (claim_fault.Missing id) (with_piece before known)
  missing-found line id is = (
    length (all_said text) + line,
    record {
      text = with_end text ++ fed.text;
      read = read-piece before known text fed.text h.looked.insisted.fed.read fed.read;
      ids = ids;
      order = h.order;
      core = h.looked.insisted.sweep.core.items;
      rank = h.looked.insisted.sweep.rank.items;
      ascending = h.looked.insisted.begun.swept.counted.ascending;
      told = h.looked.insisted.begun.told;
      first =
          ap (first_line_fault ids 0 None) (said-piece text fed.text)
          ∙ clean-append ids 0 None (all_said text) (all_said fed.text) h.looked.insisted.clean
          ∙ ap (λ m. first_line_fault ids m (last_pair None (all_said text)) (all_said fed.text))
          (let e : 0 + length (all_said text) ≡ length (all_said text) + 0 = omega arith in e)
          ∙ later-fault ids (length (all_said text)) 0 (last_pair None (all_said text)) (all_said fed.text) line (wrong.Unclaimed id)
          (sym first-here ∙ is);
    },
  )

  -- no line of the piece is wrong, and so the text with the piece was taken
  pub HasTakenText-more : (new : AscendingCheck) → new.insisting ≡ now → new.lines ≡ old.lines → new.room ≡ left → most + 1 ≡ old.room → left ≤ most
      → now.fault ≡ None → HasTakenText claims (with_piece before known) new
  HasTakenText-more new is lines room spent less none =
      let k : Option (List ℕ) = with_piece before known in
      let begun : HasSwept h.looked.insisted.sweep start.sweep (with_end text) =
      subst (λ (s : Sweep). HasSwept h.looked.insisted.sweep s (with_end text)) (sym same)
      (HasSwept-ended h.looked.insisted.sweep old.insisting.sweep text h.looked.insisted.fed.took) in
      let followed = fed.took.followed none in
      let long : length (with_end text ++ fed.text) + new.room ≤ GRAPH.bytes =
      omega (arith, length-append (with_end text) fed.text, length-ended text, h.room, fed.few, room, spent, less) in
      record {
        order = h.order;
        looked = record {
          insisted = record {
            sweep = h.looked.insisted.sweep;
            begun = h.looked.insisted.begun;
            fed = record {
              text = with_end text ++ fed.text;
              read = read-piece before known text fed.text h.looked.insisted.fed.read fed.read;
              few = omega (arith, long);
              took =
                  subst (λ (i : Insisting). HasSwept h.looked.insisted.sweep i.sweep (with_end text ++ fed.text)) (sym is)
                  (followed.swept h.looked.insisted.sweep (with_end text) (ends-ended text) begun);
            };
            clean =
                ap (first_line_fault ids 0 None) (said-piece text fed.text)
                ∙ clean-append ids 0 None (all_said text) (all_said fed.text) h.looked.insisted.clean
                ∙ ap (λ m. first_line_fault ids m (last_pair None (all_said text)) (all_said fed.text))
                (let e : 0 + length (all_said text) ≡ length (all_said text) + 0 = omega arith in e)
                ∙ clean-later ids (length (all_said text)) 0 (last_pair None (all_said text)) (all_said fed.text) (sym first-here ∙ none);
            last =
                ap (λ (i : Insisting). i.last) is ∙ followed.last
                ∙ ap (λ p. last_pair p (all_said fed.text)) (last ∙ h.looked.insisted.last)
                ∙ sym (last_pair-append None (all_said text) (all_said fed.text))
                ∙ sym (ap (last_pair None) (said-piece text fed.text));
            fresh = ap (λ (i : Insisting). i.fault) is ∙ none;
          };
          stand = subst (λ (l : ClaimLines). TellLines claims h.order h.looked.insisted.sweep.rank.items l) (sym lines) h.looked.stand;
        };
        room = long;
      }

-- what claims tell stays where the vertices are told the same
AreCounted-kept : (claims : List Claim) (order : List ℕ) (old now : Sweep) (lines : ClaimLines) → AreCounted claims order old lines → KeepsTold old now
    → AreCounted claims order now lines
AreCounted-kept claims order old now lines h kept =
    let core = ap (λ (v : Vec ℕ Global). v.items) kept.core in
    let rank = ap (λ (v : Vec ℕ Global). v.items) kept.rank in
    record {
      told = TellEach-same claims order old.ids.items now.ids.items old.core.items now.core.items old.rank.items now.rank.items
          (ap (λ (v : Vec ℕ Global). v.items) kept.ids) core rank h.told;
      stand = subst (λ (xs : List ℕ). TellLines claims order xs lines) (sym rank) h.stand;
      later_each = kept.later_each ∙ h.later_each ∙ sym (ap length core);
      supporters_each = kept.supporters_each ∙ h.supporters_each ∙ sym (ap length core);
    }

-- a check that has looked at more lines, or at a wrong one, has still what the claims tell
pub TellsClaims-kept : (claims : List Claim) (before : Option (List ℕ)) (old : AscendingCheck) (h : HasTakenText claims before old) (start now : Insisting)
    (new : AscendingCheck) (done : List ℕ) → start.sweep ≡ old.insisting.sweep → HasInsisted start now done → new.insisting ≡ now
    → new.lines ≡ old.lines → TellsClaims claims new
TellsClaims-kept claims before old h start now new done same took is lines = (
  h.order,
  subst (λ (l : ClaimLines). AreCounted claims h.order new.insisting.sweep l) (sym lines)
      (subst (λ (i : Insisting). AreCounted claims h.order i.sweep old.lines) (sym is)
      (AreCounted-kept claims h.order old.insisting.sweep now.sweep old.lines
      (AreCounted-looked claims h.order old.insisting old.lines before h.looked)
      (subst (λ (s : Sweep). KeepsTold s now.sweep) same took.kept))),
)

-- what is known of a stream that comes in one piece
pub one-piece : (known : Option (List ℕ)) → with_piece (Some []) known ≡ known
one-piece None = refl
one-piece (Some all) = refl

-- the first line that is wrong in a stream that comes in one piece
pub HasFaultyLine-piece : (claims : List Claim) (known : Option (List ℕ)) (faulty : FaultyLine) → HasFaultyPiece claims (Some []) known faulty
    → HasFaultyLine claims known faulty
HasFaultyLine-piece claims known faulty h = record {
  text = h.piece;
  read = h.read;
  ids = h.ids;
  order = h.order;
  core = h.core;
  rank = h.rank;
  ascending = h.ascending;
  told = h.told;
  first = ap (λ (t : List ℕ). first_line_fault h.ids 0 (last_pair None (all_said t)) (all_said h.piece)) (sym h.came) ∙ h.first;
}
