-- `message::tagged` meets its contract: the buffer's front is the message.
use mathlib.Core.Path.{refl, sym}
use native.Mathlib.Omega.{arith}
use lib.ListN.{replicate}
use Rattle.message.proofs.MessageLaws.{tagged_long, buffer_hash}
use Rattle.message.proofs.tagged.Goals as goal

pub returns-then-a-size-gt288 : goal.returns-then-a-size-gt288
returns-then-a-size-gt288 g c = sym (tagged_long _ _ _ (omega (arith, c.size-size.ensures.value)))

pub returns : goal.returns
returns g c =
    let a = c.args in
    let size = c.size-size.ensures.value in
    buffer_hash (replicate 289 0) a.a.now (g.P.Part.bytes a.b) a.tag _ refl (omega (arith, size)) c.put.ensures c.put_into.ensures (omega (arith, size)) c.hash.ensures
