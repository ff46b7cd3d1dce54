-- `message::put_words` meets its contract: numbers that fit are stored, and nothing else is.
use mathlib.Core.Path.{sym, ◌∙◌}
use native.Mathlib.Omega.{arith}
use Rattle.buffer.proofs.BufferLaws.{put-fits, put-stays}
use Rattle.message.proofs.MessageLaws.{words-length}
use Rattle.message.proofs.put_words.Goals as goal
use Rattle.message.proofs.put_words.Goals.{else-at-buffer-via-then-at-buffer+else-values-buffer, else-at-buffer-via-else-at-buffer}

pub returns-then-values-buffer : goal.returns-then-values-buffer
returns-then-values-buffer c =
    let long = words-length c.args.values.now in
    c.write_words.ensures ∙ sym (put-fits _ _ _ (omega arith))

pub returns-else-at-buffer : goal.returns-else-at-buffer
returns-else-at-buffer c =
    let long = words-length c.args.values.now in
    elim c.else-at-buffer.branch [
      | else-at-buffer-via-then-at-buffer+else-values-buffer w ↦ sym (put-stays _ _ _ (omega arith))
      | else-at-buffer-via-else-at-buffer w ↦ sym (put-stays _ _ _ (omega arith))
    ]
