-- What was written is the reply to what was read, in both.
use Rattle.std.proofs.Common.{◌∙◌, ap, sym}
use Rattle.kc_dialogue.proofs.law.answers_follow_the_bytes.Goals as goal

pub returns : goal.returns
returns c = record {
  asked = λ reply a b before-a before-b p q (after-a, bytes-a, is-a) (after-b, bytes-b, is-b) same.
      (p before-a after-a bytes-a is-a).answered ∙ ap reply same ∙ sym (q before-b after-b bytes-b is-b).answered;
  done = λ reply reply_at_end a b p q same. p.written.1 ∙ ap reply_at_end same ∙ sym q.written.1;
}
