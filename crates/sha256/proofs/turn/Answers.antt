-- `sha256::turn` meets its contract: eight rounds, each from the one before, and eight words, each from those before it.
use Rattle.sha256.proofs.RoundLaws.{turned}
use Rattle.sha256.proofs.turn.Goals as goal

pub returns : goal.returns
returns c =
    turned _ _ _ c.requires
    c.round-s0.ensures c.next_word-x0.ensures
    c.round-s1.ensures c.next_word-x1.ensures
    c.round-s2.ensures c.next_word-x2.ensures
    c.round-s3.ensures c.next_word-x3.ensures
    c.round-s4.ensures c.next_word-x4.ensures
    c.round-s5.ensures c.next_word-x5.ensures
    c.round-s6.ensures c.next_word-x6.ensures
    c.round-s7.ensures c.next_word-x7.ensures
