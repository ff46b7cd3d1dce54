-- The specification's own verdict on concrete bytes, computed: accepted at 88; and with one bit of an opened value flipped, the path misses its root.
-- Assumes nothing.
use Prim.Native.Nat.{ℕ}
use mathlib.Core.Bool.{Bool, true}
use mathlib.Core.List.{[], ◌∷◌}
use mathlib.Core.Path.{◌≡◌, refl, ap, ap₂, ◌∙◌}
use Rattle.answer.specs.Table.{answered, accepted, path_misses_root, misses_final_polynomial}
use Rattle.field.specs.Modular.{add_mod, sub_mod, mul_mod, pow_mod, subgroup_generator}
use Rattle.field.proofs.Laws.{pow_mod_zero, mul_mod_comm, mul_mod_zero}
use Rattle.sha256.specs.Words.{build, shr, rotr, ch, maj, big_sigma0, big_sigma1, small_sigma0, small_sigma1}
use Rattle.sha256.specs.Constants.{round_constants, initial_hash}
use Rattle.sha256.specs.Sha256.{zeros, length_byte, pad, word, block, next_word, extend, schedule, sum1, sum2, round, rounds, add_words, compress, absorb, bytes_of, sha256}
use Rattle.message.specs.Bytes.{le, num, joined, words}
use Rattle.params.specs.Parameters.{valid, final_count}
use Rattle.params.specs.Admission.{terms_of, admission}
use Rattle.domain.specs.Domain.{point}
use Rattle.merkle.specs.Merkle.{leaf_digest, node, parent, climb}
use Rattle.transcript.specs.Transcript.{start, challenge, absorb_final, draw, absorbed}
use Rattle.transcript.specs.Transcript as transcript
use Rattle.fold.specs.Poly.{eval}
use Rattle.fold.specs.Fold.{agrees}
use Rattle.fri.specs.Process.{left, outcome, run, done, pure, ◌>>=◌, ◌>>◌, bytes, ensure, many}
use Rattle.fri.specs.Judge.{same_bytes, count, number, value_at, walk, queries, sections, judgement, end_answer, verdict}
use Rattle.tiny_proof.specs.Tiny.{parameters, context, file}

-- 5 times 1, and 25 times 1: the points of leaf 0.
times_one : mul_mod (pow_mod 5 1) 1 ≡ 5
unfolding pow_mod mul_mod
times_one = refl

point_0 : point 2 0 0 ≡ 5
unfolding point
point_0 = ap (mul_mod (pow_mod 5 1)) (pow_mod_zero (subgroup_generator 2)) ∙ times_one

pub flipped : verdict sha256 (terms_of parameters context) (file 45) ≡ answered path_misses_root 88
unfolding context file valid admission final_count num joined words le leaf_digest node parent climb start transcript.absorb challenge absorb_final draw absorbed agrees left outcome run pure ◌>>=◌ ◌>>◌ bytes ensure many same_bytes count number value_at walk queries sections judgement end_answer verdict add_mod sub_mod mul_mod build shr rotr ch maj big_sigma0 big_sigma1 small_sigma0 small_sigma1 round_constants initial_hash zeros length_byte pad word block next_word extend schedule sum1 sum2 round rounds add_words compress absorb bytes_of sha256
flipped = refl

-- The last test of the file, with the point x of leaf 0 in layer 0 and the final polynomial's value v: 2·x·v = x·(a+c) + β·(a−c).
abbrev last_test : ℕ → ℕ → Bool
last_test x v = agrees (mul_mod 2 x) (add_mod (mul_mod x (add_mod 581943340 2147903023)) (mul_mod 2855583235 (sub_mod 581943340 2147903023))) v

-- Every byte is read, and this test is all that is left.
read : left (judgement sha256 parameters context) (file 44) 0
    ≡ left (ensure (last_test (point 2 0 0) (eval (2956924926 ∷ []) (point 2 1 0))) misses_final_polynomial (λ _. done)) [] 88
unfolding context file valid admission final_count num joined words le leaf_digest node parent climb start transcript.absorb challenge absorb_final draw absorbed agrees left outcome run pure ◌>>=◌ ◌>>◌ bytes ensure many same_bytes count number value_at walk queries sections judgement end_answer verdict add_mod sub_mod mul_mod build shr rotr ch maj big_sigma0 big_sigma1 small_sigma0 small_sigma1 round_constants initial_hash zeros length_byte pad word block next_word extend schedule sum1 sum2 round rounds add_words compress absorb bytes_of sha256
read = refl

constant : (y : ℕ) → eval (2956924926 ∷ []) y ≡ 2956924926
unfolding eval add_mod
constant y = ap (add_mod 2956924926) (mul_mod_comm y 0 ∙ mul_mod_zero y)

passes : last_test 5 2956924926 ≡ true
unfolding agrees add_mod sub_mod mul_mod
passes = refl

test : last_test (point 2 0 0) (eval (2956924926 ∷ []) (point 2 1 0)) ≡ true
test = ap₂ last_test point_0 (constant (point 2 1 0)) ∙ passes

pub whole : verdict sha256 (terms_of parameters context) (file 44) ≡ answered accepted 88
unfolding verdict valid admission file run outcome left ensure end_answer
whole =
    ap (λ l. end_answer (outcome l.process l.held l.place) 88) (read ∙ ap (λ b. left (ensure b misses_final_polynomial (λ _. done)) [] 88) test)
