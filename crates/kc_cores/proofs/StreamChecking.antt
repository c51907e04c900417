-- A run that checks a certificate for an ascending stream ends as it should: where there is no verdict, and where one was said. First how the text of a
-- stream comes from its files.
use Rattle.std.proofs.Common.{◌≡◌, ◌≤◌, ◌<◌, ◌+◌, ◌∷◌, ◌++◌, ◌∙◌, Bool, ℕ, List, [], Option, Some, ap, arith, get_or, inl, inr, length, map, refl}
use Rattle.std.proofs.Common.{subst, suc, sym, take}
use Rattle.std.proofs.Common.{slice_get, take_all, zero}
use Rattle.std.specs.Borrow.{Bor}
use Rattle.std.proofs.lemmas.List.{get_or-map, length-map, length-take, take_more}
use Rattle.std.proofs.KnownBytes.{Appends-nil}
use Rattle.std.specs.Io.KnownBytes.{Appends}
use Rattle.kc_io.specs.Causes.{Rose}
use Rattle.kc_io.specs.declared.sink.Sink as sinks
use Rattle.kc_io.specs.declared.source.Source as sources
use Rattle.kc_claims.specs.Pieces.{HasFaultyPiece, with_piece}
use Rattle.kc_claims.specs.declared.claim.Claim.{Claim}
use Rattle.kc_claims.specs.declared.fault.ClaimFault.{ClaimFault}
use Rattle.kc_claims.specs.declared.fault.ClaimFault.TheVariants as claim_fault
use Rattle.kc_claims.specs.declared.fault.FaultyLine.{FaultyLine}
use Rattle.kc_claims.proofs.Pieced.{one-piece}
use Rattle.kc_cores.specs.CheckEnded.{AreClaimsOf}
use Rattle.kc_cores.specs.Endings.{HasNoStreamVerdict, HasSaid, NoClaimsAt, NoPieceFor, NoStreamFor, RefutedAt, TellsFaultyLineAt}
use Rattle.kc_cores.specs.Endings.{line_of}
use Rattle.kc_cores.specs.Sentences.{no_memory_line, write_fault_line}
use Rattle.kc_cores.specs.Inputs.{known_bytes}
use Rattle.kc_cores.specs.StreamChecked.{IsPieceOf, IsStreamFault, IsStreamRight, IsStreamText, IsStreamVerdictOn, IsTextBehind, IsTextOfFiles, StreamChecked}
use Rattle.kc_cores.specs.StreamChecked.{files_for}
use Rattle.kc_cores.specs.Verdicts.{no_line, yes_line}
use Rattle.kc_cores.specs.declared.CoresStatus.{CoresStatus}
use Rattle.kc_cores.specs.declared.CoresStatus.TheVariants as status
use Rattle.kc_cores.specs.declared.ending.Ending.{Ending}

-- the name of a file that there is
pub name-next : (files : List (Bor (List ℕ))) (n : ℕ) (d : Bor (List ℕ)) → n < length files
    → Some (get_or files n d).now ≡ slice_get (map (λ t. t.now) files) n
name-next [] n d l = absurd (omega arith)
name-next (f ∷ files) zero d l = refl
name-next (f ∷ files) (suc n) d l = name-next files n d (omega (arith, l))

module _ {I : Type 0} (left : I → Option (List ℕ)) (behind : I → List ℕ → Option (List ℕ)) where
  -- one more file behind the text of others
  behind-more : (before : Option (List ℕ)) (names : List (List ℕ)) (known : Option (List ℕ)) (turned : I) (name : List ℕ)
      → IsTextBehind behind before names known → IsTextBehind behind before (names ++ name ∷ []) (with_piece known (behind turned name))
  behind-more before [] known turned name is = (turned, ap (λ (k : Option (List ℕ)). with_piece k (behind turned name)) is)
  behind-more before (n ∷ names) known turned name (s, rest) = (s, behind-more (with_piece before (behind s n)) names known turned name rest)

  -- the text of files with one more, which is the first only where none came before
  text-more : (i : I) (names : List (List ℕ)) (known : Option (List ℕ)) (turned : I) (name : List ℕ) → (length names ≡ 0 → turned ≡ i)
      → IsTextOfFiles behind i names known → IsTextOfFiles behind i (names ++ name ∷ []) (with_piece known (behind turned name))
  text-more i [] known turned name first is =
      ap (λ (k : Option (List ℕ)). with_piece k (behind turned name)) is ∙ one-piece (behind turned name) ∙ ap (λ (s : I). behind s name) (first refl)
  text-more i (n ∷ names) known turned name first is = behind-more (behind i n) names known turned name is

  -- the text of files up to the next one
  pub text-next : (i : I) (files : List (Bor (List ℕ))) (n : ℕ) (d : Bor (List ℕ)) (known : Option (List ℕ)) (turned : I) → n < length files
      → (n ≡ 0 → turned ≡ i) → IsTextOfFiles behind i (take n (map (λ t. t.now) files)) known
      → IsTextOfFiles behind i (take (n + 1) (map (λ t. t.now) files)) (with_piece known (behind turned (get_or files n d).now))
  text-next i files n d known turned l first is =
      let names : List (List ℕ) = map (λ t. t.now) files in
      let name : List ℕ = (get_or files n d).now in
      let k : n < length names = omega (arith, l, length-map files (λ (t : Bor (List ℕ)). t.now)) in
      subst (λ (ns : List (List ℕ)). IsTextOfFiles behind i ns (with_piece known (behind turned name)))
      (sym (take_more names n d.now k ∙ ap (λ (x : List ℕ). take n names ++ x ∷ []) (get_or-map (λ (t : Bor (List ℕ)). t.now) files n d d.now l)))
      (text-more i (take n names) known turned name (λ none. first (omega (arith, none, length-take n names, k))) is)

  -- and the next one is that
  pub piece-next : (i : I) (files : List (Bor (List ℕ))) (n : ℕ) (d : Bor (List ℕ)) (known : Option (List ℕ)) (turned : I) → n < length files
      → (n ≡ 0 → turned ≡ i) → IsTextOfFiles behind i (take n (map (λ t. t.now) files)) known
      → IsPieceOf left behind i (map (λ t. t.now) files) n known (behind turned (get_or files n d).now)
  piece-next i files n d known turned l first is = record {
    within = omega (arith, l, length-map files (λ (t : Bor (List ℕ)). t.now));
    came = is;
    turned = turned;
    first = first;
    is = ap (λ (o : Option (List ℕ)). known_bytes left behind o turned) (name-next files n d l);
  }

  -- there is such a text
  behind-some : (i : I) (before : Option (List ℕ)) (names : List (List ℕ)) → (known : Option (List ℕ)) × IsTextBehind behind before names known
  behind-some i before [] = (before, refl)
  behind-some i before (name ∷ names) =
      let (known, is) = behind-some i (with_piece before (behind i name)) names in
      (known, (i, is))

  pub text-some : (i : I) (files : List (List ℕ)) → (known : Option (List ℕ)) × IsStreamText left behind i files known
  text-some i [] = (left i, refl)
  text-some i (name ∷ names) = behind-some i (behind i name) names

  -- a stream that is in files has their text
  pub text-files : (i : I) (files : List (List ℕ)) (known : Option (List ℕ)) → 0 < length files → IsTextOfFiles behind i files known
      → IsStreamText left behind i files known
  text-files i [] known some is = absurd (omega arith)
  text-files i (name ∷ names) known some is = is

-- files of which there are none
pub no-files : (files : List (Bor (List ℕ))) → length files ≡ 0 → [] ≡ files
no-files [] none = refl
no-files (f ∷ files) none = absurd (omega arith)

-- all files were read where what is wrong is no line, and else one may say that all were
pub files-all : (fault : ClaimFault) (files : List (List ℕ)) → files_for fault (length files) files ≡ files
files-all (claim_fault.Unknown claim) files = refl
files-all (claim_fault.Repeated claim) files = refl
files-all (claim_fault.Missing id) files = take_all (length files + 1) files (omega arith)
files-all (claim_fault.ManyLater claim count) files = refl
files-all (claim_fault.FewSupporters claim count) files = refl

-- a line of a piece is wrong
pub NoPieceFor-wrong : (end : CoresStatus) (line : List ℕ) (several : Bool) (file : Option (List ℕ)) (claims : List Claim) (before known : Option (List ℕ))
    (faulty : FaultyLine) (faults faults' : ℕ) → TellsFaultyLineAt end line several file faulty → HasFaultyPiece claims before known faulty
    → faults' ≡ faults → NoPieceFor end line several file claims before known faults faults'
NoPieceFor-wrong status.Refused line several file claims before known faulty faults faults' told wrong same = ((faulty, told, wrong), same)
NoPieceFor-wrong status.NoMemory line several file claims before known faulty faults faults' told wrong same = (told, same)
NoPieceFor-wrong _ line several file claims before known faulty faults faults' told wrong same = absurd told

-- the same of parts that are the same
pub NoPieceFor-same : (end : CoresStatus) (line : List ℕ) (several several' : Bool) (file file' : Option (List ℕ)) (claims : List Claim)
    (before known known' : Option (List ℕ)) (faults faults' after : ℕ) → several ≡ several' → file ≡ file' → known ≡ known' → faults ≡ faults'
    → NoPieceFor end line several file claims before known faults after → NoPieceFor end line several' file' claims before known' faults' after
NoPieceFor-same end line several several' file file' claims before known known' faults faults' after s f k b h =
    subst (λ x. NoPieceFor end line several' file' claims before known' x after) b
    (subst (λ (x : Option (List ℕ)). NoPieceFor end line several' file' claims before x faults after) k
    (subst (λ (x : Option (List ℕ)). NoPieceFor end line several' x claims before known faults after) f
    (subst (λ (x : Bool). NoPieceFor end line x file claims before known faults after) s h)))

module _ {I C O : Type 0} (source : sources.Ghosts I) (behind : I → List ℕ → Option (List ℕ)) (kept : sources.Ghosts C)
    (beside : C → List ℕ → Option (List ℕ)) (out : sinks.Ghosts O) (name : List ℕ) (files : List (List ℕ)) where
  -- there are no claims
  no_claims : (end : CoresStatus) (line : List ℕ) (i i' : I) (c c' : C) (o : O) → NoClaimsAt end line name (beside c name) (kept.faults c) (kept.faults c')
      → source.faults i' ≡ source.faults i → StreamChecked source behind kept beside out name files end line i i' c c' o o
  no_claims status.Unopened line i i' c c' o (fault, told, rose) same = record {
    did = ((name, fault, inl refl, told), Appends-nil (out.taken o));
    faults = inr rose;
    write_faults = refl;
  }
  no_claims status.Refused line i i' c c' o (refusal, told, means, stays) same = record {
    did = (inr (refusal, told, means), Appends-nil (out.taken o));
    faults = (same, stays);
    write_faults = refl;
  }
  no_claims status.ReadFault line i i' c c' o (told, rose) same = record {
    did = (told, Appends-nil (out.taken o));
    faults = inr rose;
    write_faults = refl;
  }
  no_claims status.NoMemory line i i' c c' o (told, stays) same = record {
    did = (told, Appends-nil (out.taken o));
    faults = (same, stays);
    write_faults = refl;
  }
  no_claims _ line i i' c c' o h same = absurd h

  -- there is no answer of the stream
  no_stream : (end : CoresStatus) (line : List ℕ) (i i' : I) (c c' : C) (o : O) (claims : List Claim) → AreClaimsOf (beside c name) claims
      → NoStreamFor source.left behind i end line files claims (source.faults i) (source.faults i') → kept.faults c' ≡ kept.faults c
      → StreamChecked source behind kept beside out name files end line i i' c c' o o
  no_stream status.Unopened line i i' c c' o claims claimed (n, before, known, piece, (opened, fault, is, told, rose)) same = record {
    did = ((opened, fault, inr (n, is), told), Appends-nil (out.taken o));
    faults = inl rose;
    write_faults = refl;
  }
  no_stream status.Refused line i i' c c' o claims claimed (n, before, known, piece, ((faulty, told, wrong), stays)) same = record {
    did = (
      inl (n, before, known, faulty, piece, told, record { claims = claims; claimed = claimed; found = wrong }),
      Appends-nil (out.taken o),
    );
    faults = (stays, same);
    write_faults = refl;
  }
  no_stream status.ReadFault line i i' c c' o claims claimed (n, before, known, piece, (told, rose)) same = record {
    did = (told, Appends-nil (out.taken o));
    faults = inl rose;
    write_faults = refl;
  }
  no_stream status.NoMemory line i i' c c' o claims claimed (n, before, known, piece, (told, stays)) same = record {
    did = (told, Appends-nil (out.taken o));
    faults = (stays, same);
    write_faults = refl;
  }
  no_stream _ line i i' c c' o claims claimed (n, before, known, piece, h) same = absurd h

  -- there is no memory
  no_room : (end : CoresStatus) (line : List ℕ) (i i' : I) (c c' : C) (o : O) → end ≡ status.NoMemory → line ≡ no_memory_line
      → source.faults i' ≡ source.faults i → kept.faults c' ≡ kept.faults c → StreamChecked source behind kept beside out name files end line i i' c c' o o
  no_room end line i i' c c' o is told stays same =
      subst (λ (e : CoresStatus). StreamChecked source behind kept beside out name files e line i i' c c' o o) (sym is) (record {
        did = (told, Appends-nil (out.taken o));
        faults = (stays, same);
        write_faults = refl;
      })

  -- there is no verdict
  pub StreamChecked-no_verdict : (ending : Ending) (i i' : I) (c c' : C) (o : O)
      → HasNoStreamVerdict source.left behind i ending name files (beside c name) (source.faults i) (source.faults i') (kept.faults c) (kept.faults c')
      → StreamChecked source behind kept beside out name files ending.status (line_of ending) i i' c c' o o
  StreamChecked-no_verdict ending i i' c c' o h = elim h [
    | inl (none, same) ↦ no_claims ending.status (line_of ending) i i' c c' o none same
    | inr others ↦ elim others [
      | inl ((claims, claimed, none), same) ↦ no_stream ending.status (line_of ending) i i' c c' o claims claimed none same
      | inr (is, told, stays, same) ↦ no_room ending.status (line_of ending) i i' c c' o is told stays same
    ]
  ]

  module _ (i i' : I) (c c' : C) (o o' : O) (stays : source.faults i' ≡ source.faults i) (same : kept.faults c' ≡ kept.faults c) where
    -- a write failed
    cut : (end : CoresStatus) (line text : List ℕ) → end ≡ status.WriteFault → line ≡ write_fault_line
        → IsStreamVerdictOn source.left behind i files (beside c name) text
        → ((n : ℕ) × (n ≤ length text) × Appends (out.taken o) (out.taken o') (take n text)) → Rose (out.faults o) (out.faults o')
        → StreamChecked source behind kept beside out name files end line i i' c c' o o'
    cut end line text is told verdict took rose =
        subst (λ (e : CoresStatus). StreamChecked source behind kept beside out name files e line i i' c c' o o') (sym is) (record {
          did = (text, verdict, took, told);
          faults = (stays, same);
          write_faults = rose;
        })

    -- yes was said
    pub StreamChecked-right : (ending wanted : Ending) → IsStreamRight source.left behind i files (beside c name)
        → wanted.status ≡ status.Certified → line_of wanted ≡ []
        → HasSaid ending wanted yes_line (out.taken o) (out.taken o') (out.faults o) (out.faults o')
        → StreamChecked source behind kept beside out name files ending.status (line_of ending) i i' c c' o o'
    StreamChecked-right ending wanted right certified none said = elim said [
      | inl (is, took, unfailed) ↦
          subst (λ (e : CoresStatus). StreamChecked source behind kept beside out name files e (line_of ending) i i' c c' o o')
          (sym (ap (λ (e : Ending). e.status) is ∙ certified)) (record {
            did = (right, took, ap line_of is ∙ none);
            faults = (stays, same);
            write_faults = unfailed;
          })
      | inr (is, told, took, rose) ↦ cut ending.status (line_of ending) yes_line is told (inl (right, refl)) took rose
    ]

    -- no was said
    refuted : (end : CoresStatus) (line : List ℕ) (fault : ClaimFault) → IsStreamFault source.left behind i files fault (beside c name)
        → RefutedAt end line name fault (out.taken o) (out.taken o') (out.faults o) (out.faults o')
        → StreamChecked source behind kept beside out name files end line i i' c c' o o'
    refuted status.Uncertified line fault wrong (took, told, unfailed) = record {
      did = (fault, wrong, took, told);
      faults = (stays, same);
      write_faults = unfailed;
    }
    refuted status.WriteFault line fault wrong (took, told, rose) = cut status.WriteFault line (no_line fault) refl told (inr (fault, wrong, refl)) took rose
    refuted status.NoMemory line fault wrong (took, told, unfailed) = record { did = (told, took); faults = (stays, same); write_faults = unfailed }
    refuted _ line fault wrong h = absurd h

    pub StreamChecked-wrong : (ending : Ending) (fault : ClaimFault) → IsStreamFault source.left behind i files fault (beside c name)
        → RefutedAt ending.status (line_of ending) name fault (out.taken o) (out.taken o') (out.faults o) (out.faults o')
        → StreamChecked source behind kept beside out name files ending.status (line_of ending) i i' c c' o o'
    StreamChecked-wrong ending fault wrong h = refuted ending.status (line_of ending) fault wrong h

  -- there was no memory for the words
  pub StreamChecked-nothing : (end : CoresStatus) (line : List ℕ) (i i' : I) (c c' : C) (o o' : O) → end ≡ status.NoMemory → line ≡ no_memory_line
      → i' ≡ i → c' ≡ c → o' ≡ o → StreamChecked source behind kept beside out name files end line i i' c c' o o'
  StreamChecked-nothing end line i i' c c' o o' is told one two three =
      subst (λ (e : CoresStatus). StreamChecked source behind kept beside out name files e line i i' c c' o o') (sym is) (record {
        did = (told, subst (λ (x : O). Appends (out.taken o) (out.taken x) []) (sym three) (Appends-nil (out.taken o)));
        faults = (ap source.faults one, ap kept.faults two);
        write_faults = ap out.faults three;
      })
