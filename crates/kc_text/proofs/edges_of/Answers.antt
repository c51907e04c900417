-- Each edge has its lesser end first, and both stand for ids.
use Rattle.std.proofs.Common.{◌≡◌, ℕ, List, length, subst, sym, ap, ◌∙◌}
use Rattle.std.specs.Prelude.{All}
use Rattle.std.specs.List.{filter_map}
use Rattle.kc_text.specs.Inputs.{numbered}
use Rattle.kc_text.proofs.Places.{Within, numbered-within}
use Rattle.kc_text.proofs.edges_of.Goals as goal

pub returns-clause-within : goal.returns-clause-within
returns-clause-within c =
    let same : c.in_ok-edges.edges.items ≡ filter_map (numbered c.args.ids.items) c.args.edges.now =
    c.in_ok-edges.ensures ∙ ap (λ (ids : List ℕ). filter_map (numbered ids) c.args.edges.now) c.deref-2.ensures.value in
    subst (λ (ps : List (ℕ × ℕ)). All (Within (length c.args.ids.items)) ps) (sym same) (numbered-within c.args.ids.items c.args.edges.now c.requires.among)
