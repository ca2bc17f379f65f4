-- `take_growth` at a call: what it is handed, and what a caller has of it. Assumes `Logic`.
use Rattle.std.proofs.Common.{◌≡◌, ℕ, ◌^◌, ◌<◌, Bool, List, [], ◌∷◌, refl, ap}
use seplogic.Ra.Ura.{Ura}
use mir.Syntax.{w64}
use mir.Val.{Val, vbool, vint, vptr}
use base.Logic.{SProp, ent, sep, ex, guard, id⊢}
use base.Fml.{Lft, Share, ftrue, fsep, flft}
use prog.Memory.{Memory}
use prog.Routine.{Routine}
use types.Logic.{Logic, sem}
use contract.Monad.{Fun}
use types.Kit.{‵, raw, ◌⊛◌, some, later, ◌$◌, ◌∵◌, !, qed, move, keep, use1, split, join, pick, fjoin, feq_i, feq_l}
use types.Kit.{flt_i, check, show, await, updating, now as at_once, done}
use denote.RattleType.{RattleType}
use denote.Memory.{hidden_shr}
use denote.Builtin.{bool}
use denote.Steps.{only, nothing}
use denote.Triple.Statement.{Contract}
use denote.Triple.Spec.{triple_of}
use Rattle.heap_memory.specs.contracts.Granted as GR
use Rattle.heap_memory.specs.contracts.take_growth as TK

-- the field `left` of a handle
abbrev pub Left : RattleType
Left = GR.the_row

module _ {M : Type 1} {𝓤 : Ura M} (𝓛 : Logic 𝓤) (at_mem : Memory → SProp 𝓤) (run : Routine → Fun 𝓤) where
  abbrev pub Grows : Contract 𝓤
  Grows = triple_of 𝓛 TK.signature (TK.spec 𝓛 at_mem run)

  abbrev pub at_grows : Lft → Share → ℕ × ℕ → Left.Denot → ℕ → ℕ → Grows.Ghost
  at_grows κ q p left n s = (
    (
      (κ, tt),
      (q, tt),
      tt,
      (record { ref_ptr = p; now = left }, (n, (s, tt))),
      (vptr p.0 p.1 ∷ [], (vint w64 n ∷ [], (vint w64 s ∷ [], tt))),
    ),
    tt,
  )

-- the `&` to the field at p, a token of its lifetime, and the two numbers that a growth asks for
module _ {M : Type 1} {𝓤 : Ura M} (𝓛 : Logic 𝓤) (at_mem : Memory → SProp 𝓤) (run : Routine → Fun 𝓤) (κ : Lft)
    (q : Share) (p : ℕ × ℕ) (left : Left.Denot) (n s : ℕ) where
  open 𝓛 use {H, A}

  pub Grows-goes : n < 2 ^ 64 → s < 2 ^ 64 → ent 𝓤 (sep 𝓤 (sem 𝓛 (hidden_shr Left κ left p.0 p.1)) (A.lft κ q))
      ((Grows 𝓛 at_mem run).pre (at_grows 𝓛 at_mem run κ q p left n s))
  Grows-goes fn fs =
      qed 𝓛 (‵ (hidden_shr Left κ left p.0 p.1) ∷ ‵ (flft κ q) ∷ []) ∵
      nothing ! $ flt_i ! s (2 ^ 64) fs $ feq_i ! (List Val) (vint w64 s ∷ []) (vint w64 s ∷ []) refl $ fjoin ! $ fjoin ! $
      flt_i ! n (2 ^ 64) fn $ feq_i ! (List Val) (vint w64 n ∷ []) (vint w64 n ∷ []) refl $ fjoin ! $ fjoin ! $
      move ! (1 ∷ []) $ feq_i ! (List Val) (vptr p.0 p.1 ∷ []) (vptr p.0 p.1 ∷ []) refl $ fjoin ! $ move ! (0 ∷ 1 ∷ []) $ fjoin ! $
      nothing ! $ move ! (2 ∷ []) $ join ! $ join ! $ nothing ! $ move ! (1 ∷ []) $ done !

  abbrev pub Granted : Val → SProp 𝓤
  Granted v = ex 𝓤 (λ (granted : Bool). guard 𝓤 (v ≡ vbool granted) (A.lft κ q))

  pub Grows-gives : (v : Val) → ent 𝓤 ((Grows 𝓛 at_mem run).post (at_grows 𝓛 at_mem run κ q p left n s) v) (H.⇛ (Granted v))
  Grows-gives v =
      qed 𝓛 (raw ((Grows 𝓛 at_mem run).post (at_grows 𝓛 at_mem run κ q p left n s) v) ∷ []) ∵ updating ! $
      use1 𝓛 (later (some (λ (r : Bool). ((‵ (flft κ q) ⊛ ‵ ftrue) ⊛ ‵ (bool.own_val r (v ∷ []))) ⊛ some
      (λ (ws : Unit {0} × (Unit {0} × (Unit {0} × Unit {0}))). ‵ (fsep ftrue (fsep ftrue (fsep ftrue ftrue))) ⊛ ‵
      ftrue)))) (id⊢ 𝓤 _) $ await ! tt $ pick ! (λ r.
      split ! $ split ! $ move ! (1 ∷ []) $ feq_l ! (λ e. split ! $ at_once ! $
      show ! (λ (granted : Bool). guard 𝓤 (v ≡ vbool granted) (A.lft κ q)) r $ check ! (ap only e) $ keep ! (0 ∷ []) $ done !))
