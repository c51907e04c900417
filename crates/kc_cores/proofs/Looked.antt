-- What is read of a text whose head was looked at and put back.
use Rattle.std.proofs.Common.{◌≡◌, ◌++◌, ◌∙◌, ℕ, List, [], ◌∷◌, Option, None, Some, IfSome, ap, refl, subst, sym}
use Rattle.std.specs.Io.KnownBytes.{prepend_known}
use Rattle.kc_dialect.specs.Dialects.{without_mark}
use Rattle.kc_dialect.specs.Skipped.{AreSkipped}
use Rattle.kc_dialect.specs.declared.dialect.Dialect.{Dialect}
use Rattle.kc_dialect_read.specs.Meanings.{IsRefusedAt}
use Rattle.kc_dialect_read.specs.Reading.{AreEdgesIn}
use Rattle.kc_dialect_read.specs.declared.fault.PlacedRefusal.{PlacedRefusal}
use Rattle.kc_dialect_read.specs.declared.plain_reader.DialectEdges.{DialectEdges}
use Rattle.kc_head.specs.Heads.{IsHeadOf, behind_head, head_of}
use Rattle.kc_head.specs.Places.{wrong_column}
use Rattle.kc_head.specs.declared.foreign.Foreign.{Foreign}
use Rattle.kc_head.proofs.Fronts.{head-cut, mark-cut}
use Rattle.kc_read.specs.Reading.{AreEdgesWithin}
use Rattle.kc_text.specs.Inputs.{IsNamedEdges}
use Rattle.kc_text.specs.Meaning.{Means, Refuses, Told, meaning}
use Rattle.kc_text.specs.declared.limits.TheConstants.Limits.{GRAPH}
use Rattle.kc_cores.specs.Answers.{IsForeignBy, IsRefusedBy, graph_meaning, remark_by}
use Rattle.kc_cores.specs.Inputs.{AreReadFrom, HasFewIds, IsLookedAt, text_bytes}
use Rattle.kc_cores.specs.Sentences.{remark_on}
use Rattle.kc_cores.proofs.Graphs.{graph_meaning-in, graph_meaning-is}

-- what is read of a text is what is read of its head, and then what is behind it
text_bytes-cut : (dialect : Option Dialect) (all : List ℕ) → text_bytes dialect (head_of all) ++ behind_head all ≡ text_bytes dialect all
text_bytes-cut None all = mark-cut all
text_bytes-cut (Some dialect) all = head-cut all

-- a head that was put back
pub IsLookedAt-put_back : (dialect : Option Dialect) (before between after : Option (List ℕ)) (head text : List ℕ) → IsHeadOf before between head
    → text ≡ text_bytes dialect head → after ≡ prepend_known text between → IsLookedAt dialect before after head
IsLookedAt-put_back dialect None between after head text h is put = tt
IsLookedAt-put_back dialect (Some all) between after head text h is put = (
  h.0,
  put ∙ ap (λ (k : Option (List ℕ)). prepend_known text k) h.1
      ∙ ap (λ (t : List ℕ). Some (t ++ behind_head all)) (is ∙ ap (λ (t : List ℕ). text_bytes dialect t) h.0)
      ∙ ap (λ (t : List ℕ). Some t) (text_bytes-cut dialect all),
)

-- what is told of all bytes, where they are known, is told of these
pub of_known : (P : List ℕ → Type 0) (known : Option (List ℕ)) (bytes : List ℕ) → known ≡ Some bytes → IfSome known P → P bytes
of_known P known bytes is h = subst (λ (k : Option (List ℕ)). IfSome k P) is h

-- what the head and all that was read say is what all bytes say, where they are known
pub IsForeignBy-looked : (dialect : Option Dialect) (known left : Option (List ℕ)) (head : List ℕ) (found : DialectEdges) (what : Option Foreign)
    → IsLookedAt dialect known left head → AreReadFrom dialect known found
    → ((told : Told) → IsNamedEdges told found.named → what ≡ remark_on dialect head told) → IsForeignBy dialect known what
IsForeignBy-looked dialect None left head found what looked r is = tt
IsForeignBy-looked dialect (Some all) left head found what looked r is =
    is r.told r.are ∙ ap (λ (h : List ℕ). remark_on dialect h r.told) looked.0
    ∙ sym (ap (remark_by dialect all) (ap (graph_meaning dialect) (sym r.read) ∙ r.means))

-- a mark, and then some bytes
marked : List ℕ → List ℕ
marked bytes = 239 ∷ 187 ∷ 191 ∷ bytes

-- what was read as it is, behind a mark, is what the bytes of the input tell
pub AreReadFrom-plain : (known left : Option (List ℕ)) (head : List ℕ) (found : DialectEdges) → IsLookedAt None known left head
    → AreEdgesWithin GRAPH left found.named → HasFewIds found.named → AreSkipped found.skipped [] → found.names ≡ None → AreReadFrom None known found
unfolding marked
AreReadFrom-plain None left head found looked r fit skipped called = record {
  bytes = marked r.bytes;
  read = tt;
  told = r.told;
  means = graph_meaning-is (marked r.bytes) (Means r.told) r.means;
  are = r.are;
  fit = fit;
  skipped = skipped;
  called = called;
}
AreReadFrom-plain (Some all) left head found looked r fit skipped called =
    let same : r.bytes ≡ without_mark all = of_known (λ (t : List ℕ). r.bytes ≡ t) left (without_mark all) looked.1 r.read in record {
      bytes = all;
      read = refl;
      told = r.told;
      means = graph_meaning-is all (Means r.told) (ap (λ (t : List ℕ). meaning GRAPH t) (sym same) ∙ r.means);
      are = r.are;
      fit = fit;
      skipped = skipped;
      called = called;
    }

-- what was read in a dialect is what the bytes of the input tell in it
pub AreReadFrom-in : (dialect : Dialect) (known left : Option (List ℕ)) (head : List ℕ) (found : DialectEdges) → IsLookedAt (Some dialect) known left head
    → AreEdgesIn dialect left found → HasFewIds found.named → AreReadFrom (Some dialect) known found
AreReadFrom-in dialect known left head found looked r fit = record {
  bytes = r.bytes;
  read = told known looked;
  told = r.told;
  means = graph_meaning-in dialect r.bytes (Means r.told) r.means;
  are = r.are;
  fit = fit;
  skipped = r.skipped;
  called = r.names;
}
  where
    told : (known : Option (List ℕ)) → IsLookedAt (Some dialect) known left head → IfSome known (λ all. r.bytes ≡ all)
    told None looked = tt
    told (Some all) looked = of_known (λ (t : List ℕ). r.bytes ≡ t) left all looked.1 r.read

-- what is refused as it is, behind a mark, is refused as the text of a graph
pub graph_refused : (placed : PlacedRefusal) (known left : Option (List ℕ)) (head : List ℕ) → IsLookedAt None known left head
    → IfSome left (λ all. meaning GRAPH all ≡ Refuses placed.refusal.line placed.refusal.kind) → placed.column ≡ wrong_column head placed.refusal
    → IfSome known (λ bytes. IsRefusedBy None bytes (record { placed = placed; head = head }))
graph_refused placed None left head looked h column = tt
graph_refused placed (Some all) left head looked h column = (
  graph_meaning-is all (Refuses placed.refusal.line placed.refusal.kind)
      (of_known (λ (t : List ℕ). meaning GRAPH t ≡ Refuses placed.refusal.line placed.refusal.kind) left (without_mark all) looked.1 h),
  column ∙ ap (λ (t : List ℕ). wrong_column t placed.refusal) looked.0,
  looked.0,
)

-- what is refused in a dialect is refused as the text of a graph in it
pub graph_refused-in : (dialect : Dialect) (placed : PlacedRefusal) (known left : Option (List ℕ)) (head : List ℕ)
    → IsLookedAt (Some dialect) known left head → IfSome left (λ all. IsRefusedAt dialect all placed)
    → IfSome known (λ bytes. IsRefusedBy (Some dialect) bytes (record { placed = placed; head = head }))
graph_refused-in dialect placed None left head looked h = tt
graph_refused-in dialect placed (Some all) left head looked h =
    let here = of_known (λ (t : List ℕ). IsRefusedAt dialect t placed) left all looked.1 h in
    (graph_meaning-in dialect all (Refuses placed.refusal.line placed.refusal.kind) here.0, here.1, looked.0)
