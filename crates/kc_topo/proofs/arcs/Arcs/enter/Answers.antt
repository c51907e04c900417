-- The run has moved, the arc is entered, and its row has it.
use Rattle.std.proofs.Common.{◌<◌, ℕ, [], sym, ap, ◌∙◌, subst}
use Rattle.kc_table.specs.Log.{Seen, TableName}
use Rattle.kc_topo.specs.Arcs.{Reaches, arcs_after}
use Rattle.kc_topo.specs.Searching.{Trail}
use Rattle.kc_topo.proofs.Entering.{entered-now}
use Rattle.kc_topo.proofs.Walks.{reaches-self}
use Rattle.kc_topo.proofs.arcs.Arcs.enter.Goals as goal

pub update_of-requires : goal.update_of-requires
update_of-requires c = λ e.
    let arcs = arcs_after c.args.self.now.table c.args.self.now.log in
    c.requires.acyclic (subst (λ (z : ℕ). Reaches arcs c.args.b z) (sym e) (reaches-self arcs c.args.b))

pub invariant_of-self-2 : goal.invariant_of-self-2
invariant_of-self-2 c =
    let done = entered-now c.self.inside.writer c.args.self.now c.move_after.new.self c.note_enter.new.self c.self.inside.successors c.push.new.self
    c.args.run.now c.args.a c.args.b _ _ c.self.view_is c.self.invariant.0
    (subst (λ (t : TableName). (c.args.a < t.shape.items) × (c.args.b < t.shape.items)) (sym c.requires.table) c.requires.vertices) c.requires.fresh
    c.requires.acyclic c.requires.run c.requires.room c.move_after.ensures c.update_of.ensures.note c.note_enter.ensures.stored c.update_of.ensures.entry
    c.note_enter.ensures.leaves c.in_ok-push.ensures.ok in (
      done.1,
      c.self.invariant.1 ∙ ap (λ (k : ℕ). let t : Trail = record { vertices = []; parents = []; size = k } in t)
          (sym (ap (λ (s : Seen). s.table.shape.items) c.note_enter.ensures.stored.noted.is
          ∙ ap (λ (t : TableName). t.shape.items) c.move_after.ensures.table)),
    )

pub returns-clause-ok : goal.returns-clause-ok
returns-clause-ok c =
    (entered-now c.self.inside.writer c.args.self.now c.move_after.new.self c.note_enter.new.self c.self.inside.successors c.push.new.self
    c.args.run.now c.args.a c.args.b _ _ c.self.view_is c.self.invariant.0
    (subst (λ (t : TableName). (c.args.a < t.shape.items) × (c.args.b < t.shape.items)) (sym c.requires.table) c.requires.vertices) c.requires.fresh
    c.requires.acyclic c.requires.run c.requires.room c.move_after.ensures c.update_of.ensures.note c.note_enter.ensures.stored c.update_of.ensures.entry
    c.note_enter.ensures.leaves c.in_ok-push.ensures.ok).0
