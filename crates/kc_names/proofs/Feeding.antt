-- A reader of ids was fed a piece more.
use Rattle.std.proofs.Common.{◌≡◌, ◌++◌, ◌∙◌, ℕ, List, Option, None, Some, ap, subst, sym}
use Rattle.kc_dialect.specs.declared.dialect.Ids.{Ids}
use Rattle.kc_dialect.specs.declared.dialect.Ids.TheVariants.{Numbers, Names}
use Rattle.kc_text.specs.Feeding.{WasFed}
use Rattle.kc_text.specs.Lines.{EndsLine}
use Rattle.kc_names.specs.Names.{names_in, numbered_text, pairs_in}
use Rattle.kc_names.specs.Reading.{WasFedIds}
use Rattle.kc_names.specs.Steps.{lines_behind, names_behind}
use Rattle.kc_names.specs.declared.id_reader.IdReader.{IdReader}
use Rattle.kc_names.proofs.Coming.{names-append, text-append}

-- a piece of numbers was read as it is
pub fed-numbers : (ids : Ids) (old new : IdReader) (fed piece : List ℕ) → old.names ≡ None → new.names ≡ old.names
    → ((f : List ℕ) → WasFed old.reader f → WasFed new.reader (f ++ piece)) → WasFedIds ids old fed → WasFedIds ids new (fed ++ piece)
fed-numbers Numbers old new fed piece none same read h = record { names = same ∙ none; read = read fed h.read }
fed-numbers Names old new fed piece none same read h = let no : Some (names_in fed) ≡ None = sym h.names ∙ none in absurd (cc)

-- the names so far are those of what was fed
names-now : (before : List (List ℕ)) (fed : List ℕ) (names : Option (List (List ℕ))) → names ≡ Some before → names ≡ Some (names_in fed)
    → before ≡ names_in fed
names-now before fed names one two = let both : Some before ≡ Some (names_in fed) = sym one ∙ two in cc

-- a piece of names was read as the lines of their numbers
pub fed-names : (ids : Ids) (old new : IdReader) (before now : List (List ℕ)) (fed piece text : List ℕ) → EndsLine fed → old.names ≡ Some before
    → new.names ≡ Some now → now ≡ names_behind before (pairs_in piece) → text ≡ lines_behind before (pairs_in piece)
    → ((f : List ℕ) → WasFed old.reader f → WasFed new.reader (f ++ text)) → WasFedIds ids old fed → WasFedIds ids new (fed ++ piece)
fed-names Numbers old new before now fed piece text ended some then names lines read h =
    let no : None ≡ Some before = sym h.names ∙ some in absurd (cc)
fed-names Names old new before now fed piece text ended some then names lines read h =
    let was : before ≡ names_in fed = names-now before fed old.names some h.names in
    let all : now ≡ names_in (fed ++ piece) =
    names ∙ ap (λ (ns : List (List ℕ)). names_behind ns (pairs_in piece)) was ∙ sym (names-append fed piece ended) in
    let whole : numbered_text fed ++ text ≡ numbered_text (fed ++ piece) =
    ap (λ (t : List ℕ). numbered_text fed ++ t) (lines ∙ ap (λ (ns : List (List ℕ)). lines_behind ns (pairs_in piece)) was)
    ∙ sym (text-append fed piece ended) in
    record {
      names = then ∙ ap (λ (ns : List (List ℕ)). Some ns) all;
      read = subst (WasFed new.reader) whole (read (numbered_text fed) h.read);
    }
