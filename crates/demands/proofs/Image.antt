-- A reader whose states stand for another's, call by call, meets the demands that the other meets. Assumes nothing.
use Prim.Native.Nat.{ℕ, ◌≤◌}
use mathlib.Core.List.{List, [], ◌∷◌}
use mathlib.Core.Option.{Option}
use mathlib.Core.Path.{◌≡◌, refl, sym, ap, subst, ◌∙◌}
use lib.ListN.{get_or}
use Rattle.answer.specs.declared.Answer.{Answer}
use Rattle.answer.specs.Table.{answered, open_so_far, accepted}
use Rattle.params.specs.declared.Terms.{Terms}
use Rattle.fri.specs.Size.{known_length}
use Rattle.calls.specs.Calls.{Call, piece, end, state_after, answers, next, state_left, given, nth, last_or, last_given, Refuses, Reader as Calls}
use Rattle.calls.specs.Plain.{Table}
use Rattle.calls.specs.Demand3.{Demand3, StateRule, PrefixRule, SizeRule, to_piece}
use Rattle.reader_model.specs.declared.Tables.{Tables}
use Rattle.demands.specs.Demands.{States, WhenAdmitted, WhenRefused, Demands}

-- The state h of the reader b stands for the state s of r where h is f s.
pub record Stands {S H : Type 0} (f : S → H) (r : Calls S) (b : Calls H) : Type 0 where
  pub opened : b.opened ≡ f r.opened
  pub piece-next : (s : S) (xs : List ℕ) → b.piece_next (f s) xs ≡ f (r.piece_next s xs)
  pub piece-answer : (s : S) (xs : List ℕ) → b.piece_answer (f s) xs ≡ r.piece_answer s xs
  pub end-next : (s : S) → b.end_next (f s) ≡ f (r.end_next s)
  pub end-answer : (s : S) → b.end_answer (f s) ≡ r.end_answer s

-- The same said of an answer's parts.
number_of : {a b : Answer} → a ≡ b → a.number ≡ b.number
number_of e = ap (λ (x : Answer). x.number) e

place_of : {a b : Answer} → a ≡ b → a.place ≡ b.place
place_of e = ap (λ (x : Answer). x.place) e

module _ {S H : Type 0} (f : S → H) (r : Calls S) (b : Calls H) (i : Stands f r b) where
  next_image : (s : S) (c : Call) → next b (f s) c ≡ f (next r s c)
  next_image s (piece xs) = i.piece-next s xs
  next_image s end = i.end-next s

  after : (s : S) (cs : List Call) → state_after b (f s) cs ≡ f (state_after r s cs)
  after s [] = refl
  after s (piece xs ∷ cs) = ap (λ h. state_after b h cs) (i.piece-next s xs) ∙ after (r.piece_next s xs) cs
  after s (end ∷ cs) = ap (λ h. state_after b h cs) (i.end-next s) ∙ after (r.end_next s) cs

  answered_from : (s : S) (cs : List Call) → answers b (f s) cs ≡ answers r s cs
  answered_from s [] = refl
  answered_from s (piece xs ∷ cs) =
      ap (λ a. a ∷ answers b (b.piece_next (f s) xs) cs) (i.piece-answer s xs)
      ∙ ap (λ h. r.piece_answer s xs ∷ answers b h cs) (i.piece-next s xs)
      ∙ ap (λ (l : List Answer). r.piece_answer s xs ∷ l) (answered_from (r.piece_next s xs) cs)
  answered_from s (end ∷ cs) =
      ap (λ a. a ∷ answers b (b.end_next (f s)) cs) (i.end-answer s)
      ∙ ap (λ h. r.end_answer s ∷ answers b h cs) (i.end-next s)
      ∙ ap (λ (l : List Answer). r.end_answer s ∷ l) (answered_from (r.end_next s) cs)

  pub leaves_image : (cs : List Call) → state_left b cs ≡ f (state_left r cs)
  leaves_image cs = ap (λ h. state_after b h cs) i.opened ∙ after r.opened cs

  pub given_image : (cs : List Call) → given b cs ≡ given r cs
  given_image cs = ap (λ h. answers b h cs) i.opened ∙ answered_from r.opened cs

  nth_image : (cs : List Call) (n : ℕ) → nth b cs n ≡ nth r cs n
  nth_image cs n = ap (λ (l : List Answer). get_or l n (answered open_so_far 0)) (given_image cs)

  last_image : (cs : List Call) → last_given b cs ≡ last_given r cs
  last_image cs = ap (last_or (answered open_so_far 0)) (given_image cs)

  to_piece_lem : (cs : List Call) (xs : List ℕ) → to_piece b cs xs ≡ to_piece r cs xs
  to_piece_lem cs xs = ap (λ h. b.piece_answer h xs) (leaves_image cs) ∙ i.piece-answer (state_left r cs) xs

  piece-left : (cs : List Call) (xs : List ℕ) → b.piece_next (state_left b cs) xs ≡ f (r.piece_next (state_left r cs) xs)
  piece-left cs xs = ap (λ h. b.piece_next h xs) (leaves_image cs) ∙ i.piece-next (state_left r cs) xs

  demand3_image : {t : Table} (cs : List Call) → Demand3 t r cs → Demand3 t b cs
  demand3_image cs d =
      record {
        plainly = given_image cs ∙ d.plainly;
        states = λ ds a. leaves_image cs ∙ ap f (d.states ds a) ∙ sym (leaves_image ds);
        lasts = λ ds a e g. last_image cs ∙ d.lasts ds a e g ∙ sym (last_image ds);
        whole = d.whole;
        repeated = λ k j l h e g. nth_image cs j ∙ d.repeated k j l h e (subst Refuses (nth_image cs k) g) ∙ sym (nth_image cs k);
        after_end_lem = λ j h e. nth_image cs j ∙ d.after_end_lem j h e;
      }

  states_image : (cs : List Call) → StateRule r cs → StateRule b cs
  states_image cs z =
      record {
        refused_answer = λ xs ys e g.
            ap (λ h. b.piece_answer h ys) (piece-left cs xs) ∙ i.piece-answer (r.piece_next (state_left r cs) xs) ys
            ∙ z.refused_answer xs ys e (subst Refuses (to_piece_lem cs xs) g) ∙ sym (to_piece_lem cs xs);
        refused_stays = λ xs ys e g.
            ap (λ h. b.piece_next h ys) (piece-left cs xs) ∙ i.piece-next (r.piece_next (state_left r cs) xs) ys
            ∙ ap f (z.refused_stays xs ys e (subst Refuses (to_piece_lem cs xs) g)) ∙ sym (piece-left cs xs);
        closed_stays = λ c e.
            ap (λ h. next b h c) (leaves_image cs) ∙ next_image (state_left r cs) c ∙ ap f (z.closed_stays c e) ∙ sym (leaves_image cs);
      }

  prefix_image : PrefixRule r → PrefixRule b
  prefix_image z =
      record {
        equal = λ {d} {e} {in₁} {in₂} {xs} {ys} {cs} {ds} a l g h. to_piece_lem cs xs ∙ z.equal a l g h ∙ sym (to_piece_lem ds ys);
        refusals = λ {d} {in₁} {in₂} {xs} {ys} {cs} {ds} a g h u l.
            to_piece_lem ds ys
            ∙ z.refusals a g h (subst Refuses (to_piece_lem cs xs) u) (subst (λ (x : Answer). x.place ≤ d) (to_piece_lem cs xs) l)
            ∙ sym (to_piece_lem cs xs);
      }

  was : (cs : List Call) (n c : ℕ) → (nth b cs n).number ≡ c → (nth r cs n).number ≡ c
  was cs n c e = sym (number_of (nth_image cs n)) ∙ e

  size_image : (size : List ℕ → Option ℕ) (cs : List Call) → SizeRule size r cs → SizeRule size b cs
  size_image size cs z =
      record {
        open_place = λ n h e. place_of (nth_image cs n) ∙ z.open_place n h (was cs n open_so_far e);
        open_within = λ n h e l s. subst (λ (x : Answer). x.place ≤ l) (sym (nth_image cs n)) (z.open_within n h (was cs n open_so_far e) l s);
        accepted_call = λ n h e. z.accepted_call n h (was cs n accepted e);
        accepted_bytes = λ n h e. z.accepted_bytes n h (was cs n accepted e);
        accepted_place = λ n h e. place_of (nth_image cs n) ∙ z.accepted_place n h (was cs n accepted e);
      }

  -- The states by their parts.
  abbrev image : (H → Tables) → States S → States H
  image tables k = record { shut = f k.shut; tables_in = tables; refused_with = λ a t. f (k.refused_with a t) }

  refused_image : (tables : H → Tables) {a : Terms} {opening : Answer} {k : States S} → WhenRefused a opening k r → WhenRefused a opening (image tables k) b
  refused_image tables w =
      record {
        refuses = w.refuses;
        closed_each = λ cs n h. nth_image cs n ∙ w.closed_each cs n h;
        stays = λ cs. leaves_image cs ∙ ap f (w.stays cs);
      }

  module _ (a : Terms) (opening : Answer) (k : States S) (tables : H → Tables) (same_tables : (s : S) → tables (f s) ≡ k.tables_in s) where
    admitted_image : WhenAdmitted a opening k r → WhenAdmitted a opening (image tables k) b
    admitted_image w =
        record {
          opens = w.opens;
          accepts_exactly = λ cs e g.
              let (there, back) = w.accepts_exactly cs e g in
              (λ h. there (sym (last_image cs) ∙ h), λ h. last_image cs ∙ back h);
          accepts_built = λ g short cs e same. last_image cs ∙ w.accepts_built g short cs e same;
          any_list = λ cs. demand3_image cs (w.any_list cs);
          piece_row = λ cs xs e c d.
              let (there, back) = w.piece_row cs xs e c d in
              (λ h. there (sym (to_piece_lem cs xs) ∙ h), λ h. to_piece_lem cs xs ∙ back h);
          end_row = λ cs e c d.
              let (there, back) = w.end_row cs e c d in
              (λ h. there (sym (last_image cs) ∙ h), λ h. last_image cs ∙ back h);
          states = λ cs. states_image cs (w.states cs);
          prefixes = prefix_image w.prefixes;
          sizes = λ cs. size_image (known_length a.params) cs (w.sizes cs);
          closes = λ cs e. leaves_image cs ∙ ap f (w.closes cs e);
          refused_leaves = λ cs x e g.
              piece-left cs (x ∷ []) ∙ ap f (w.refused_leaves cs x e (subst Refuses (to_piece_lem cs (x ∷ [])) g))
              ∙ ap (λ (a : Answer). f (k.refused_with a (k.tables_in (state_left r cs)))) (sym (to_piece_lem cs (x ∷ [])))
              ∙ ap (λ (t : Tables). f (k.refused_with (to_piece b cs (x ∷ [])) t)) (sym (ap tables (leaves_image cs) ∙ same_tables (state_left r cs)));
        }

    pub demands_image : Demands a opening k r → Demands a opening (image tables k) b
    demands_image d =
        record {
          admitted_opening = λ v. admitted_image (d.admitted_opening v);
          refused_opening = λ n. refused_image tables (d.refused_opening n);
          admits_exactly = d.admits_exactly;
          plainly = λ cs. given_image cs ∙ d.plainly cs;
          row_10 = d.row_10;
          row_11 = λ cs n h.
              let (there, back) = d.row_11 cs n h in
              (λ e. there (sym (number_of (nth_image cs n)) ∙ e), λ k. number_of (nth_image cs n) ∙ back k);
        }
