-- `message::write_words` meets its contract: after i turns the first i numbers are stored.
use mathlib.Core.Path.{refl}
use native.Mathlib.Omega.{arith}
use Rattle.message.specs.Bytes.{words, joined}
use Rattle.message.proofs.MessageLaws.{words_more}
use Rattle.message.proofs.write_words.Goals as goal

pub loop-i-init : goal.loop-i-init
unfolding words joined
loop-i-init c = refl

pub loop-i-preserved : goal.loop-i-preserved
loop-i-preserved c = words_more _ _ _ c.loop-i.i c.loop-i.invariant c.put_number.ensures c.loop-i-test.true (omega arith)
