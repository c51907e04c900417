-- The next store has the next version, which is not past the last one, so the log stays legal with it.
use Rattle.std.proofs.Common.{◌≡◌, ℕ, ◌+◌, [], ◌∷◌, ◌++◌, refl, sym, ap, ◌∙◌, subst, arith}
use Rattle.kc_table.specs.Log.{Seen, event}
use Rattle.kc_table.specs.Legal.{Legal}
use Rattle.kc_order_tests.specs.Lone.{lone_shape, lone_group, lone_words}
use Rattle.kc_order_tests.proofs.SmallTables.{Stored, stored-none, stored-more, legal_at}
use Rattle.kc_order_tests.proofs.tables.store_many.Goals as goal

pub loop-stored-init : goal.loop-stored-init
loop-stored-init c = (refl, subst (Stored 0) (sym c.requires.fresh) stored-none)

pub store-requires-clause-legal : goal.store-requires-clause-legal
store-requires-clause-legal c =
    let l = c.loop-stored in
    let more = stored-more l.stored l.seat.log (omega (arith, c.loop-stored-test.true)) l.invariant.1 in
    let now : l.seat.table ≡ c.args.words.now = l.invariant.0 ∙ c.requires.table in
    subst (λ (n : ℕ). Legal l.seat.table.shape l.seat.table.opening (l.seat.log ++ event 2 n ∷ [])) (sym c.pack.ensures.word)
    (legal_at l.seat (event 2 (lone_group (l.stored + 1))) lone_shape (lone_words 0) l.seat.log
    (ap (λ t. t.shape) now ∙ c.requires.lone.0) (ap (λ t. t.opening) now ∙ c.requires.lone.1) refl more.legal)

pub loop-stored-preserved : goal.loop-stored-preserved
loop-stored-preserved c =
    let l = c.loop-stored in
    let more = stored-more l.stored l.seat.log (omega (arith, c.loop-stored-test.true)) l.invariant.1 in (
      ap (λ (s : Seen). s.table) c.store.ensures ∙ l.invariant.0,
      subst (Stored (l.stored + 1))
          (ap (λ (n : ℕ). l.seat.log ++ event 2 n ∷ []) (sym c.pack.ensures.word)
          ∙ sym (ap (λ (s : Seen). s.log) c.store.ensures))
          more,
    )
