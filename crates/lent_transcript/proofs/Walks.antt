-- What the walks of this crate have in common, as steps of the walk: a transcript behind a reference that is stored anew, and one in a local that is lent
-- to a call. Both are over any call, with any further arguments: the contract that the walk cites, what the call asks and what it gives are handed in.
-- Assumes nothing.
use mathlib.Core.Path.{refl}
use Prim.Native.Nat.{ℕ}
use mathlib.Core.List.{List, [], ◌∷◌}
use lib.Dec.{T as So}
use seplogic.Ra.Ura.{Ura}
use base.Fraction.{full_share}
use mir.Syntax.{Callee, Ty, Place, Opd as Operand, Body as Code, named, copy, rv_opd, addr_of, assign, seq, call}
use mir.Val.{Val, vptr, has_ty, WT}
use base.Logic.{ent, sep, guard, emp}
use base.Fml.{GName, Lft, Share, Fml, flft, fobs, fauth, fres, fbor, fobor, flent, fat, froom}
use prog.Wp.{Env, Calls, Loops}
use types.Logic.{Logic, sem}
use types.Kit.{Item, ‵, raw, given, ◌⊛◌, some, later, Post, runs, Seq, Step, step, ◌$◌, move, drop, use0, use1, use2, use3, split, pick, learn, await}
use types.Tokens.{lft_new, lft_end}
use types.SemTy.{Body}
use types.Run.{Reads, Finds, Opds, look, look_raw, init, store_raw, forget, load, of_opd, addr, assigns, land}
use sound.WpLaws.{FmC}
use denote.Laws.{Is, shows}
use denote.Memory.{mem, part_at, cell_at}
use denote.Ref.{MutRef}
use denote.Lend.{lends_ref, ref_back}
use denote.Steps.{opens, closes, peeks}
use denote.Struct.Steps.{spelt}
use denote.Triple.Statement.{Contract, Triple}
use denote.Triple.Call.{calls_at}
use Rattle.transcript.specs.declared.Transcript.{Transcript}
use Rattle.transcript.specs.contracts.Transcript as T
use Rattle.transcript.proofs.Transcript.TheLaws as T'
use Rattle.lent_transcript.proofs.Stored.{vals, val, tells, lawful, goes_in, comes_out}

-- what the reference to a transcript in a local owns, for the lifetime ν, under the name δ
abbrev pub own_at : ℕ → ℕ → GName → Transcript → Fml
own_at l ν δ h = (MutRef (named 0) (ν ∷ []) T.the_row).own_val (record { ref_ptr = (l, 0); ghost_name = δ; now = h }) (vptr l 0 ∷ [])

module _ {M : Type 1} {𝓤 : Ura M} {𝓛 : Logic 𝓤} {K : Type 0} {Γ : List (Item 𝓤)} {E : Env 𝓤 𝓛.H} {C : Calls 𝓤 𝓛.H} {Λ : Loops 𝓤 𝓛.H} {q : Post 𝓤 𝓛.H} {rest : Code} {f : Callee} {xs : List Operand} where
  -- `*t = f(*t, …)`: the borrow is opened, the transcript is copied out, the call takes the copy, what it gives is stored, and the borrow is closed there.
  -- behind is `*t`, t lies at l; copied and result are the two locals between.
  open 𝓛 use {H, A}

  pub anew : K → {behind copied result : Place} {μ : Ty} {κ : Lft} {s : Share} {γ : GName} {b o l m n : ℕ} (h left : Transcript)
      → ((Δ : List (Item 𝓤)) → Reads K 𝓛 Δ μ l 0 (vptr b o) → Finds K 𝓛 Δ E behind (T'.mir, b, o))
      → ((Δ : List (Item 𝓤)) → Finds K 𝓛 Δ E copied (T'.mir, m, 0)) → ((Δ : List (Item 𝓤)) → Finds K 𝓛 Δ E result (T'.mir, n, 0))
      → FmC 𝓤 H 𝓛.laws C → (c : Contract 𝓤) → Triple 𝓤 (C f) c → (x : c.Ghost)
      → (Is T.the_row h (vals h) → ent 𝓤 (emp 𝓤) (c.pre x))
      → Opds K 𝓛 (raw (c.pre x) ∷ ‵ (cell_at full_share (T.the_row).mir (vals h) b o) ∷ ‵ (fobor κ s (Body (mem T.the_row) b o γ)) ∷ ‵ (fobs γ ((T.the_row).coded.code h)) ∷ ‵ (fauth γ ((T.the_row).coded.code h)) ∷ ‵ (fat full_share T'.mir m 0 (val h)) ∷ ‵ (froom T'.mir n 0) ∷ ‵ (fat full_share μ l 0 (vptr b o)) ∷ Γ) E xs (c.args x)
      → ((v : Val) → ent 𝓤 (c.post x v) (H.⇛ (sem 𝓛 ((T.the_row).own_val left (v ∷ [])))))
      → Step K 𝓛 (‵ (fobs γ ((T.the_row).coded.code left)) ∷ ‵ (fbor κ (Body (mem T.the_row) b o γ)) ∷ ‵ (flft κ s) ∷ ‵ (froom T'.mir m 0) ∷ ‵ (froom T'.mir n 0) ∷ ‵ (fat full_share μ l 0 (vptr b o)) ∷ Γ) (runs C Λ E rest q)
      (‵ (fobs γ ((T.the_row).coded.code h)) ∷ ‵ (fbor κ (Body (mem T.the_row) b o γ)) ∷ ‵ (flft κ s) ∷ ‵ (froom T'.mir m 0) ∷ ‵ (froom T'.mir n 0) ∷ ‵ (fat full_share μ l 0 (vptr b o)) ∷ Γ)
      (runs C Λ E (seq (assign copied (rv_opd (copy behind))) (seq (call f xs result) (seq (assign behind (rv_opd (copy result))) rest))) q)
  anew t {b = b} {o = o} h left at-behind at-copied at-result fm c known x asks os gives = step (λ then.
      opens t tt T.the_row {h = h} b o (λ vs. spelt t T.the_row (Is T.the_row) (shows 𝓛 T.the_row) vals tells full_share h vs b o $
      move t (1 ∷ []) $ peeks t T.the_row (Is T.the_row) (shows 𝓛 T.the_row) h (vals h) (λ was. drop t $
      -- [the transcript's cell; the open borrow; obs; auth; room for the copy; room for the result; t; …]
      assigns t (of_opd t (load t (at-behind _ (look t 6 refl)) (look_raw t 0 refl))) (at-copied _) (init t 4 refl ((lawful 𝓛).typed h _ was).0) $
      use0 𝓛 (raw (c.pre x)) (asks was) $ calls_at t fm c known x os (λ v.
      use1 𝓛 (later (‵ ((T.the_row).own_val left (v ∷ [])))) (gives v) $ await t tt $ peeks t T.the_row (Is T.the_row) (shows 𝓛 T.the_row) left (v ∷ []) (λ is.
      -- [what the result owns; the transcript's cell; the open borrow; obs; auth; the copy; room for the result; t; …]
      land t (at-result _) (init t 6 refl ((lawful 𝓛).typed left _ is).0) $
      assigns t (of_opd t (load t (at-result _) (look t 6 refl))) (at-behind _ (look t 7 refl)) (store_raw t 1 refl ((lawful 𝓛).typed left _ is).0) $
      move t (1 ∷ 0 ∷ []) $ closes t tt T.the_row left (v ∷ []) b o $ forget t 3 refl $ forget t 4 refl $ then)))))

  -- `f(&mut t, …)` of a transcript in a local: it is lent for a lifetime that is made here, comes back as the call left it, and can be read again.
  -- home is the local, at l; pointer holds the reference, and result takes what the call returns, of which Q is known.
  pub lent_on : K → {home pointer result : Place} {μ τ : Ty} {l m n : ℕ} (h left : Transcript) (Q : Val → Type 0)
      → ((Δ : List (Item 𝓤)) → Finds K 𝓛 Δ E home (T'.mir, l, 0)) → ((Δ : List (Item 𝓤)) → Finds K 𝓛 Δ E pointer (μ, m, 0))
      → ((Δ : List (Item 𝓤)) → Finds K 𝓛 Δ E result (τ, n, 0))
      → So (has_ty μ (vptr l 0)) × WT (vptr l 0) → ((v : Val) → Q v → So (has_ty τ v) × WT v)
      → FmC 𝓤 H 𝓛.laws C → (c : Contract 𝓤) → Triple 𝓤 (C f) c → (x : ℕ → GName → c.Ghost)
      → Is T.the_row h (vals h)
      → ((ν : ℕ) (δ : GName) → ent 𝓤 (sep 𝓤 (A.lft (ν ∷ []) full_share) (sem 𝓛 (own_at l ν δ h))) (c.pre (x ν δ)))
      → ((ν : ℕ) (δ : GName) → Opds K 𝓛 (raw (c.pre (x ν δ)) ∷ ‵ (flent (ν ∷ []) (Body (mem T.the_row) l 0 δ)) ∷ ‵ (fat full_share μ m 0 (vptr l 0)) ∷ ‵ (froom τ n 0) ∷ Γ) E xs (c.args (x ν δ)))
      → ((ν : ℕ) (δ : GName) (v : Val) → ent 𝓤 (c.post (x ν δ) v) (H.⇛ (guard 𝓤 (Q v) (sep 𝓤 (A.lft (ν ∷ []) full_share) (A.res δ ((T.the_row).coded.code left))))))
      → ((v : Val) → Q v → Is T.the_row left (vals left) → Seq K 𝓛 (‵ (fat full_share T'.mir l 0 (val left)) ∷ ‵ (fat full_share μ m 0 (vptr l 0)) ∷ ‵ (fat full_share τ n 0 v) ∷ Γ) (runs C Λ E rest q))
      → Seq K 𝓛 (‵ (fat full_share T'.mir l 0 (val h)) ∷ ‵ (froom μ m 0) ∷ ‵ (froom τ n 0) ∷ Γ) (runs C Λ E (seq (assign pointer (addr_of home)) (seq (call f xs result) rest)) q)
  lent_on t {l = l} h left Q at_home at_pointer at-result points typed fm c known x was asks os gives then =
      assigns t (addr t (at_home _)) (at_pointer _) (init t 1 refl points) $ use1 𝓛 (‵ (part_at T.the_row full_share h l 0)) (goes_in 𝓛 l 0 h was) $
      lft_new t tt (λ ν. move t (1 ∷ []) $
      use1 𝓛 (later (some (λ (δ : GName). ‵ (own_at l ν δ h) ⊛ ‵ (flent (ν ∷ []) (Body (mem T.the_row) l 0 δ))))) (lends_ref 𝓛 T.the_row (named 0) (ν ∷ []) h l 0) $ await t tt $ pick t (λ δ. split t $
      move t (2 ∷ 0 ∷ []) $ use2 𝓛 (raw (c.pre (x ν δ))) (asks ν δ) $
      -- [what the call asks; the lender's part; the reference; room for the result; …]
      calls_at t fm c known (x ν δ) (os ν δ) (λ v.
      use1 𝓛 (later (given (Q v) (‵ (flft (ν ∷ []) full_share) ⊛ ‵ (fres δ ((T.the_row).coded.code left))))) (gives ν δ v) $ await t tt $ learn t (λ z. split t $
      land t (at-result _) (init t 4 refl (typed v z)) $
      lft_end t tt $ move t (0 ∷ 2 ∷ 1 ∷ []) $ use3 𝓛 (later (‵ (part_at T.the_row full_share left l 0))) (ref_back 𝓛 T.the_row (ν ∷ []) δ left l 0) $ await t tt $
      use1 𝓛 (given (Is T.the_row left (vals left)) (‵ (fat full_share T'.mir l 0 (val left)))) (comes_out 𝓛 l 0 left) $ learn t (λ is. then v z is)))))
