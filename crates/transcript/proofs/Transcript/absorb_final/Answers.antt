-- `transcript::Transcript::absorb_final` meets its contract: the coefficients fit.
use Prim.Native.Nat.{ℕ}
use mathlib.Core.List.{List}
use mathlib.Core.Path.{◌≡◌, ap, ◌∙◌}
use native.Mathlib.Omega.{arith}
use lib.ListN.{length, take}
use borrow.Author.Rules.{rules}
use Rattle.std.proofs.lemmas.List.{take_min, length-take}
use Rattle.message.specs.Bytes.{words}
use Rattle.message.specs.Message.{tagged_hash}
use Rattle.transcript.proofs.TranscriptLaws.{tagged_finish}
use Rattle.transcript.proofs.Transcript.absorb_final.Goals as goal

pub returns : goal.returns
returns c =
    let a = c.args in
    let all : length a.coefficients ≡ 64 = search rules in
    let first : take c.min-count.result a.coefficients ≡ take a.count a.coefficients = rw (c.min-count.ensures, ← all) (take_min a.count a.coefficients) in
    c.tagged_numbers-state.ensures ∙ ap (λ (xs : List ℕ). tagged_hash 0x12 a.self.state (words xs)) first
    ∙ tagged_finish a.self.state (take a.count a.coefficients) (search rules) (omega (arith, length-take a.count a.coefficients))
