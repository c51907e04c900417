-- The ids are named, and the update is put behind the others.
use Rattle.std.proofs.Common.{◌≡◌, ◌≤◌, ◌<◌, ◌∷◌, [], ℕ, List, length, ap₂, sym, subst, ◌∙◌, refl, min, max}
use Rattle.kc_words.specs.declared.layout.TheConstants.{VERTICES}
use Rattle.kc_text.specs.Inputs.{EdgeUpdate, place}
use Rattle.kc_stream.specs.Ids.{with_names}
use Rattle.kc_stream.proofs.Holding.{change-fine, change-over, holds-change, places-apart, spoilt-more}
use Rattle.kc_stream.proofs.gathered.Gathered.take_change.Goals as goal

pub returns-in_default-clause-refused : goal.returns-in_default-clause-refused
returns-in_default-clause-refused c = λ told h.
    let over : VERTICES < length (with_names c.args.self.now.ids (c.args.change.a ∷ c.args.change.b ∷ [])) =
    rw c.in_default.is at c.in_ok-u.ensures.numbers in
    change-over c.args.self.now told h c.args.change c.if-not-self.false c.if-change.false over

pub returns-in_default-clause-spoilt : goal.returns-in_default-clause-spoilt
returns-in_default-clause-spoilt c = λ _ told h. spoilt-more c.args.self.now _ told refl refl refl c.name_both.ensures.kept h

pub update_between-requires : goal.update_between-requires
update_between-requires c =
    let (ids, first, second) = rw c.in-Some.is at c.in_ok-u.ensures.numbers in
    let (has-a, has-b) = rw c.in-Some.is at c.in_ok-u.ensures.among in
    λ same. places-apart c.name_both.new.self c.args.change.a c.args.change.b has-a c.if-change.false (sym first ∙ (same ∙ second))

pub returns-clause-refused : goal.returns-clause-refused
returns-clause-refused c = λ told h.
    let (ids, first, second) = rw c.in-Some.is at c.in_ok-u.ensures.numbers in
    change-fine c.args.self.now told h c.args.change c.if-not-self.false c.if-change.false
    (subst (λ (l : List ℕ). length l ≤ VERTICES) ids c.in_ok-u.ensures.few)

pub returns-clause-holds : goal.returns-clause-holds
returns-clause-holds c = λ _ told h.
    let (ids, first, second) = rw c.in-Some.is at c.in_ok-u.ensures.numbers in
    let (has-a, has-b) = rw c.in-Some.is at c.in_ok-u.ensures.among in
    let least : c.update_between.result.u ≡ min (place c.name_both.new.self c.args.change.a) (place c.name_both.new.self c.args.change.b) =
    c.update_between.ensures.least ∙ ap₂ min first second in
    let most : c.update_between.result.v ≡ max (place c.name_both.new.self c.args.change.a) (place c.name_both.new.self c.args.change.b) =
    c.update_between.ensures.most ∙ ap₂ max first second in
    holds-change c.args.self.now _ told c.args.change c.update_between.result c.if-not-self.false ids has-a has-b refl c.in_ok-push.ensures.items
    (λ i. let u : EdgeUpdate = record { add = c.update_between.ensures.add i; u = least i; v = most i } in u) refl refl h
