-- `w` leaves with both counts in its mark and those behind it are queued: together the step in which the first of the queue is raised.
use Rattle.std.proofs.Common.{◌≡◌, ◌<◌, ◌^◌, ℕ, true, List, length, sym, ◌∙◌, ap, subst, arith}
use Rattle.kc_lists.specs.Lists.{member}
use Rattle.kc_cert.specs.Ranks.{rank_in}
use Rattle.kc_insert.specs.Turns.{PassedOn, StandsBehindLeft}
use Rattle.kc_insert.specs.declared.rising.Mark.{Mark}
use Rattle.kc_insert.proofs.Raised.{stands-behind, raised-now}
use Rattle.kc_insert.proofs.Tidy.{leave-tidy}
use Rattle.kc_insert.proofs.rising.Rising.raise.Goals as goal

pub pass_on-requires-clause-tidy : goal.pass_on-requires-clause-tidy
pass_on-requires-clause-tidy g c =
    let t = c.requires.tidy in
    let mark = c.candidate.ensures in (
      t.0,
      leave-tidy t.0 _ c.args.w c.candidate.result c.args.self.now c.leave.new.self t.1 c.in_ok-leave.ensures c.requires.turn
          c.requires.first (λ _. ap (λ (m : Mark). m.turn) mark) (ap (λ (m : Mark). m.is_weak) mark) (λ _. c.requires.read),
    )

pub returns-clause-tidy : goal.returns-clause-tidy
returns-clause-tidy g c = λ update t.
    let mark = c.candidate.ensures in
    c.in_ok-pass_on.ensures.tidy update
    (leave-tidy update _ c.args.w c.candidate.result c.args.self.now c.leave.new.self t c.in_ok-leave.ensures c.requires.turn
    c.requires.first (λ _. ap (λ (m : Mark). m.turn) mark) (ap (λ (m : Mark). m.is_weak) mark) (λ _. c.requires.read))

pub returns-clause-raised : goal.returns-clause-raised
returns-clause-raised g c = λ update level s root a wide strong ahead' between.
    let old = c.args.self.now in
    let mid = c.leave.new.self in
    let new = c.pass_on.new.self in
    let (update', t) = c.requires.tidy in
    let mark = c.candidate.ensures in
    let l = c.in_ok-leave.ensures in
    let p = c.in_ok-pass_on.ensures in
    let turn = ap (λ (m : Mark). m.turn) mark in
    let weak = ap (λ (m : Mark). m.is_weak) mark in
    let tm = leave-tidy update' _ c.args.w c.candidate.result old mid t l c.requires.turn c.requires.first (λ _. turn) weak (λ _. c.requires.read) in
    let value = c.deref.ensures.value in
    let passed : PassedOn c.args.ahead.now.next.items mid new = subst (λ (xs : List ℕ). PassedOn xs mid new) value p.passed in
    let stand : (y : ℕ) → member y c.deref.result.now ≡ true → StandsBehindLeft (rank_in s.order) mid c.deref.result.now y =
    λ y m.
    subst (λ (xs : List ℕ). StandsBehindLeft (rank_in s.order) mid xs y) (sym value)
    (stands-behind _ root c.args.w between.0 c.candidate.result c.args.ahead.now old mid wide t.orderly l c.requires.turn
    c.requires.first ahead' between.1 y (sym (ap (member y) value) ∙ m)) in
    let fits : length old.queue.items < 2 ^ 64 = omega (arith, c.len.ensures) in
    raised-now _ root c.args.w c.candidate.result c.args.ahead.now old mid new wide t.orderly tm.orderly (p.tidy update' tm).orderly l
    (ap (λ (m : Mark). m.is_candidate) mark) (ap (λ (m : Mark). m.earlier) mark ∙ c.requires.earlier) (ap (λ (m : Mark). m.later) mark)
    passed c.requires.turn c.requires.first fits (omega (arith, strong, c.requires.earlier)) ahead' (λ up. p.ascends s a stand up) between
