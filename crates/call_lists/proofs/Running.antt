-- Calls that were run one after the other: a call more, and what the reader of the claim answers to them.
-- Assumes nothing.
use Rattle.std.proofs.Common.{◌≡◌, ℕ, ◌+◌, ◌<◌, Bool, IsTrue, IfOk, IfSome, Result, Ok, Err, Some, None, List, [], ◌∷◌, ◌++◌, map, arith, length, length-append, refl, sym, ap, ◌∙◌, append-nil, append_assoc, subst}
use Rattle.std.specs.Prelude.{codes}
use mathlib.Core.List.{foldl, foldl-append}
use Rattle.std.specs.Io.KnownBytes.{Consumes, Appends}
use Rattle.std.proofs.KnownBytes.{Consumes-nil, Consumes-trans, Appends-nil, Appends-trans}
use Rattle.std.specs.declared.option.Option.{Option}
use Rattle.sha256.specs.Sha256.{sha256}
use Rattle.answer.specs.declared.Answer.{Answer}
use Rattle.params.specs.declared.Params.{Params}
use Rattle.params.specs.declared.Terms.{Terms}
use Rattle.params.specs.Parameters.{from_header, header_size}
use Rattle.params.specs.Admission.{terms_of}
use Rattle.message.specs.Bytes.{joined}
use Rattle.calls.specs.Calls.{Call, piece, end, answers}
use Rattle.reader_model.specs.declared.Reader.{Reader}
use Rattle.reader_model.specs.Model.{opened}
use Rattle.reader_model.specs.Claim.{reader}
use Rattle.call_lists.specs.Lists.{Encodes, EncodesAll, answer_line, replied, lines, number_in, script_lines, RunsPiece, RunsCall, RunsCalls, RunsOpened, RunsScript}

-- The state that calls leave.
abbrev pub left_by : Reader → List Call → Reader
left_by state calls = foldl (λ s c. (replied s c).state) state calls

encodes_more : (bytes part : List ℕ) (calls : List Call) (c : Call) → EncodesAll bytes calls → Encodes part c → EncodesAll (bytes ++ part) (calls ++ (c ∷ []))
encodes_more bytes part [] c e h = (part, [], h, refl, ap (λ l. l ++ part) e ∙ sym (append-nil part))
encodes_more bytes part (d ∷ ds) c (first, rest, head, tail, e) h =
    (first, rest ++ part, head, encodes_more rest part ds c tail h, ap (λ l. l ++ part) e ∙ append_assoc first rest part)

lines_more : (state : Reader) (calls : List Call) (c : Call)
    → lines state (calls ++ (c ∷ [])) ≡ lines state calls ++ answer_line (replied (left_by state calls) c).answer
lines_more state [] c = append-nil (answer_line (replied state c).answer)
lines_more state (d ∷ ds) c =
    let line = answer_line (replied state d).answer in
    ap (λ l. line ++ l) (lines_more (replied state d).state ds c) ∙ sym (append_assoc line (lines (replied state d).state ds) _)

-- What ran so far, and the state that it left.
pub record Ran (before after old new : Option (List ℕ)) (first now : Reader) (count : ℕ) : Type 0 where
  pub calls : List Call
  pub bytes : List ℕ
  pub counted : length calls ≡ count
  pub encoded : EncodesAll bytes calls
  pub taken : Consumes before after bytes
  pub told : Appends old new (lines first calls)
  pub reached : now ≡ left_by first calls

pub ran_none : (before old : Option (List ℕ)) (state : Reader) → Ran before before old old state state 0
ran_none before old state = record {
  calls = [];
  bytes = [];
  counted = refl;
  encoded = refl;
  taken = Consumes-nil before;
  told = Appends-nil old;
  reached = refl;
}

pub ran_more : (before mid after old half new : Option (List ℕ)) (first now next : Reader) (count : ℕ) → Ran before mid old half first now count
    → RunsCall mid after half new now next → Ran before after old new first next (count + 1)
ran_more before mid after old half new first now next count h (c, part, encoded, took, left, wrote) =
    let at : now ≡ left_by first h.calls = h.reached in
    record {
      calls = h.calls ++ (c ∷ []);
      bytes = h.bytes ++ part;
      counted = omega (arith, h.counted, length-append h.calls (c ∷ []));
      encoded = encodes_more h.bytes part h.calls c h.encoded encoded;
      taken = Consumes-trans before mid after h.bytes part h.taken took;
      told = subst (Appends old new) (sym (lines_more first h.calls c))
          (Appends-trans old half new (lines first h.calls) _ h.told (subst (λ s. Appends half new (answer_line (replied s c).answer)) at wrote));
      reached = left ∙ ap (λ s. (replied s c).state) at ∙ sym (foldl-append (λ s d. (replied s d).state) first h.calls (c ∷ []));
    }

pub ran_all : (before after old new : Option (List ℕ)) (first now : Reader) (count all : ℕ) → Ran before after old new first now count → count ≡ all
    → RunsCalls before after old new first all
ran_all before after old new first now count all h e = (h.calls, h.bytes, h.counted ∙ e, h.encoded, h.taken, h.told)

-- In the words of the claim.
pub lines_given : (a : Terms) (state : Reader) (calls : List Call) → lines state calls ≡ joined (map answer_line (answers (reader sha256 a) state calls))
unfolding joined
lines_given a state [] = refl
lines_given a state (piece bytes ∷ cs) =
    ap (λ l. answer_line (replied state (piece bytes)).answer ++ l) (lines_given a (replied state (piece bytes)).state cs)
lines_given a state (end ∷ cs) =
    ap (λ l. answer_line (replied state end).answer ++ l) (lines_given a (replied state end).state cs)

-- A piece after its length.
pub call_by_piece : {E : Type 0} (before mid after old new : Option (List ℕ)) (state : Reader) (count : ℕ) (r : Result (Option Reader) E) (size : List ℕ)
    → Consumes before mid size → length size ≡ 2 → number_in size ≡ count → count < 65535
    → IfOk r (λ left. IfSome left (RunsPiece mid after old new state count)) → IfOk r (λ left. IfSome left (RunsCall before after old new state))
call_by_piece before mid after old new state count (Ok None) size took two at below h = tt
call_by_piece before mid after old new state count (Ok (Some next)) size took two at below (bytes, long, rest, left, wrote) =
    (piece bytes, size ++ bytes, (size, two, omega arith, long ∙ sym at, refl), Consumes-trans before mid after size bytes took rest, left, wrote)
call_by_piece before mid after old new state count (Err e) size took two at below h = tt

-- The opening's line and the calls' lines.
pub opened_by_calls : {E : Type 0} (before after old first second new : Option (List ℕ)) (a : Terms) (count : ℕ) (answer : Answer) (state : Reader) (r : Result Bool E)
    → answer ≡ (opened sha256 a).answer → state ≡ (opened sha256 a).state
    → Appends old first (codes "open ") → Appends first second (answer_line answer) → IfOk r (λ whole. IsTrue whole → RunsCalls before after second new state count)
    → IfOk r (λ whole. IsTrue whole → RunsOpened before after old new a count)
opened_by_calls before after old first second new a count answer state (Err e) ea es word line h = tt
opened_by_calls before after old first second new a count answer state (Ok b) ea es word line h =
    λ t. let (calls, bytes, counted, encoded, took, wrote) = h t in (
      calls,
      bytes,
      counted,
      encoded,
      took,
      subst (λ l. Appends old new (codes "open " ++ l))
          (ap (λ x. answer_line x ++ lines state calls) ea ∙ ap (λ s. answer_line (opened sha256 a).answer ++ lines s calls) es
          ∙ ap (λ l. answer_line (opened sha256 a).answer ++ l) (lines_given a (opened sha256 a).state calls))
          (Appends-trans old first new _ _ word (Appends-trans first second new _ _ line wrote)),
    )

-- A script's head and its calls.
pub script_by_parts : {E : Type 0} (before one two three after old new : Option (List ℕ)) (p : Params) (count : ℕ) (r : Result Bool E) (header context size : List ℕ)
    → length header ≡ header_size → length context ≡ 32 → length size ≡ 2 → Consumes before one header → Consumes one two context → Consumes two three size
    → p ≡ from_header header → count ≡ number_in size → IfOk r (λ whole. IsTrue whole → RunsOpened three after old new (terms_of p context) count)
    → IfOk r (λ whole. IsTrue whole → RunsScript before after old new)
script_by_parts before one two three after old new p count (Err e) header context size lh lc ls h c s at counted opens = tt
script_by_parts before one two three after old new p count (Ok b) header context size lh lc ls h c s at counted opens =
    λ t. let (calls, bytes, many, encoded, took, wrote) = opens t in (
      header,
      context,
      size,
      bytes,
      calls,
      lh,
      lc,
      ls,
      many ∙ counted,
      encoded,
      Consumes-trans before one after header _ h (Consumes-trans one two after context _ c (Consumes-trans two three after size bytes s took)),
      subst (λ x. Appends old new (script_lines (terms_of x context) calls)) at wrote,
    )
