-- The buffer has room for the write, and the greatest version is kept.
use Rattle.std.proofs.Common.{ap}
use Rattle.kc_list.proofs.Highest.{highest_stored, room_stored}
use Rattle.kc_list.proofs.sheet.Sheet.store.Goals as goal

pub invariant_of-self : goal.invariant_of-self
invariant_of-self c = (
  room_stored c.self.inside.buffer.items c.args.self.now.writes c.self.inside.count c.args.self.now.room _ c.self.invariant.0
      (ap (λ p. p.writes) c.self.view_is) (ap (λ p. p.room) c.self.view_is) c.requires.room,
  highest_stored c.self.inside.words.items c.args.self.now.words c.self.inside.highest c.args.value c.args.word c.max-self-inside.result c.of.result
      (ap (λ p. p.words) c.self.view_is) c.self.invariant.1 c.requires.word_in c.requires.rises c.of.ensures.fields c.max-self-inside.ensures,
)
