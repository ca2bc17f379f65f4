-- Where no growth is left it answers `Err`, and else what the inner memory answers. Assumes `Logic`.
use Rattle.std.proofs.Common.{◌≡◌, ℕ, ◌+◌, ◌^◌, ◌<◌, Bool, false, List, [], ◌∷◌, refl, w64, Bor}
use seplogic.Ra.Ura.{Ura}
use mir.Syntax.{Args, Fn, a_type, dnil, dcons}
use mir.Val.{Val, vbool, vint, vptr}
use mir.MapTy.{inst_fn}
use base.Logic.{SProp, ent, id⊢, never_e}
use base.Fml.{Lft, Share, Fml, ftrue, flft}
use prog.Memory.{Memory, size, align, capped, up}
use prog.Capped.{capped_fits}
use prog.Routine.{Routine}
use prog.Wp.{Env, WpFn, Tables}
use types.Logic.{Logic}
use contract.BorrowLft.{◌⊑◌, ⊑_trans}
use contract.Monad.{Fun}
use contract.Running.{tables, tables_of}
use sound.WpLaws.{fm_of, WpFn-mono}
use types.Kit.{Item, ‵, raw, ◌⊛◌, ⋆, some, later, given, at_ret, ◌$◌, ◌∵◌, !, qed, by, move, keep, use0, use1, use2}
use types.Kit.{split, split3, join, pick, learn, fsplit, fjoin, suffices, await, done}
use types.Part.{agg}
use types.Run.{stop, fld, addr, lit, un, size_word, no_more, and_then, first, branches, skips, exec, returns, returns_within, enter}
use types.ByLocal.{alloc_all, pass_all, free_all, look_at, get, through, sets, lands_as, env}
use denote.Exit.{yes}
use denote.RattleType.{RattleType, owns}
use denote.Ref.{shr_vals}
use denote.Opens.{unhide}
use denote.Param.{bounded, layout, param}
use denote.Plain.{uint_vals, uint_Tells}
use denote.RawPtr.{Ptr, block_ptr, null_ptr, ptr_val, rawptr_vals, rawptr_Tells}
use denote.Builtin.{usize, RawPtr, RefOf}
use denote.Signature.{Slot, plain, types_at}
use denote.Steps.{nothing}
use denote.Triple.Call.{calls_at}
use denote.Triple.Clauses.{Ended, Clauses}
use denote.Triple.Spec.{triple_of}
use denote.Triple.Statement.{Contract, Triple}
use denote.Triple.Table.{entered, cited}
use denote.Triple.Walked.{Stays, stay_dropped, walk_of, ends_at, walked, Goes-dropped, walk_Meets}
use Rattle.std.specs.Allocator.{block_with_items, resized_if_ok}
use Rattle.std.proofs.alloc.Calls.{Al, α, seen, token, Answer, answer_val, Answer-typed}
use Rattle.std.proofs.alloc.Resizes.{Grows as Enlarges, resize_key, Resizes, at_resizes, left_by, Resizes-goes}
use Rattle.std.proofs.alloc.Resizes.{Resizes-gives, result_of, result_own, asked, heard_all}
use Rattle.std.proofs.VecSteps.Shapes.{after}
use Rattle.heap_memory.proofs.Growth.{Left, Grows, at_grows, Grows-goes, Grows-gives}
use Rattle.heap_memory.proofs.take_growth.Symbol as grow_symbol
use Rattle.heap_memory.proofs.take_growth.Met as grow_met
use Rattle.heap_memory.specs.contracts.Memory as handle
use Rattle.heap_memory.specs.contracts.MemoryAllocator.grow as F
use Rattle.heap_memory.specs.contracts.MemoryAllocator.grow.Key as key
use Rattle.heap_memory.proofs.MemoryAllocator.grow.Statement as stated
use Rattle.heap_memory.proofs.MemoryAllocator.grow.Code as code

module _ (Z : Al) (X : RattleType) where
  abbrev args : Args
  args = bounded (a_type ∷ a_type ∷ []) (Z.row, (X, tt)) (dcons Z.d (dcons Z.drops dnil))

  abbrev here : Fn
  here = inst_fn args code.function

  abbrev self : Slot 3
  self = RefOf (0 ∷ []) tt (plain (λ _. handle.the_row (param 0 Z.row))) (λ _. tt)

  abbrev ended : Ended
  ended = F.ended Z.row X Z.g Z.d Z.drops

  abbrev stayed : Stays ended.signature.params ended.kept
  stayed = (
    stay_dropped self yes,
    (
      stay_dropped (plain (λ _. RawPtr)) yes,
      (
        stay_dropped (plain (λ _. usize)) yes,
        (
          stay_dropped (plain (λ _. usize)) yes,
          (stay_dropped (plain (λ _. usize)) yes, tt),
        ),
      ),
    ),
  )

module _ (Z : Al) (X : RattleType) {M : Type 1} {𝓤 : Ura M} (𝓛 : Logic 𝓤) (at_mem : Memory → SProp 𝓤)
    (run : Routine → Fun 𝓤) (𝓣 : Tables 𝓤 𝓛.H) (resizes : Triple 𝓤 (𝓣.C (resize_key Z X 2))
    (Resizes Z X (Enlarges X) 𝓛 at_mem run)) (grows : Triple 𝓤 (𝓣.C grow_symbol.name) (Grows 𝓛 at_mem run)) where
  open 𝓛 use {H}

  abbrev held : Clauses 𝓤 (ended Z X)
  held = F.clauses Z.row X Z.g Z.d Z.drops 𝓛 at_mem run

  abbrev Called : Contract 𝓤
  Called = Resizes Z X (Enlarges X) 𝓛 at_mem run

  -- κ₁ is the lifetime of the `&`, and κ₂ and κ₃ what the type parameters live for
  module _ (κ₁ κ₂ κ₃ : Lft) (q₁ q₂ q₃ : Share) (within : κ₁ ⊑ κ₂) (r : Bor (handle.the_row Z.row).Denot) (len old new : ℕ) (xs : List X.Denot) where
    abbrev bound : Ptr → (walk_of 𝓛 (ended Z X) (stayed Z X) held).Ghost
    bound x = (
      (
        (κ₁, (κ₂, (κ₃, tt))),
        (q₁, (q₂, (q₃, tt))),
        (within, tt),
        (r, (x, (len, (old, (new, tt))))),
        (shr_vals r, (rawptr_vals x, (vint w64 len ∷ [], (vint w64 old ∷ [], (vint w64 new ∷ [], tt))))),
      ),
      xs,
    )

    abbrev vs : Ptr → List Val
    vs x = vptr r.ref_ptr.0 r.ref_ptr.1 ∷ ptr_val x ∷ vint w64 len ∷ vint w64 old ∷ vint w64 new ∷ []

    abbrev Post : Ptr → Val → SProp 𝓤
    Post x = (walk_of 𝓛 (ended Z X) (stayed Z X) held).post (bound x)

    abbrev entry : Ptr → Item 𝓤
    entry x = (‵ (flft κ₁ q₁) ⊛ ‵ (flft κ₂ q₂) ⊛ ‵ (flft κ₃ q₃) ⊛ ‵ ftrue) ⊛ ‵
        (owns (types_at (ended Z X).signature.params (bound x).0.0) (bound x).0.3 (bound x).0.4)

    abbrev block : Ptr → Fml
    block x = block_with_items (token Z r.now.inner) (param 1 X) x len old xs

    abbrev left : Ptr → Answer.Denot → Fml
    left x = resized_if_ok (token Z r.now.inner) (param 1 X) x len old new xs

    exits : (x : Ptr) (granted : Bool) (b o : ℕ) → ent 𝓤
        (⋆ 𝓛 (‵ (left x (result_of granted b o)) ∷ ‵ (flft κ₁ q₁) ∷ ‵ (flft κ₂ q₂) ∷ ‵ (flft κ₃ q₃) ∷ []))
        (Post x (answer_val granted b o))
    exits x granted b o =
        qed 𝓛 (‵ (left x (result_of granted b o)) ∷ ‵ (flft κ₁ q₁) ∷ ‵ (flft κ₂ q₂) ∷ ‵ (flft κ₃ q₃) ∷ []) ∵
        suffices ! _ (ends_at 𝓛 (ended Z X) (stayed Z X) held (bound x) (answer_val granted b o) (result_of granted b o)
        (tt, (tt, (tt, (tt, (tt, tt))))) (tt, (tt, (tt, (tt, (tt, tt)))))) $
        use0 𝓛 (‵ (Answer.own_val (result_of granted b o) (answer_val granted b o ∷ []))) (result_own 𝓛 granted b o) $
        nothing ! $ nothing ! $ fjoin ! $ nothing ! $ fjoin ! $ nothing ! $ fjoin ! $ nothing ! $ fjoin ! $ nothing ! $ fjoin ! $ join ! $
        nothing ! $ move ! (5 ∷ 0 ∷ []) $ join ! $ move ! (4 ∷ 0 ∷ []) $ join ! $ move ! (3 ∷ 0 ∷ []) $ join ! $ join ! $ done !

    walk : len < 2 ^ 64 → old < 2 ^ 64 → new < 2 ^ 64 → (x : Ptr)
        → ent 𝓤 ((walk_of 𝓛 (ended Z X) (stayed Z X) held).pre (bound x)) (WpFn 𝓤 H 𝓣.C 𝓣.Λ (here Z X) (vs x) (Post x))
    -- no block lies at null
    walk fl fo fn null_ptr =
        qed 𝓛 (entry null_ptr ∷ raw (asked 𝓛 (κ₂ ⊑ Z.row.lives) (κ₃ ⊑ X.lives) (Enlarges X len old new) (block null_ptr)) ∷ []) ∵ move ! (1 ∷ []) $
        heard_all ! (κ₂ ⊑ Z.row.lives) (κ₃ ⊑ X.lives) (Enlarges X len old new) (block null_ptr) (λ _ _ _. fsplit ! $ keep ! (0 ∷ []) $ by ! (never_e 𝓤 _))
    walk fl fo fn (block_ptr b o) =
        let inner : Z.row.Denot = r.now.inner in
        let p : ℕ × ℕ = (r.ref_ptr.0, r.ref_ptr.1 + up (align (α Z)) 0) in
        let c : ℕ × ℕ = (r.ref_ptr.0, r.ref_ptr.1 + up 8 (up (align (α Z)) 0 + size (α Z))) in
        let counts : Left.Denot = r.now.left in
        let s : ℕ = capped (size (layout X)) in
        let x : Ptr = block_ptr b o in
        let y : Called.Ghost = at_resizes Z X (Enlarges X) 𝓛 at_mem run κ₁ κ₃ q₁ q₃ p inner b o len old new xs in
        qed 𝓛 (entry x ∷ raw (asked 𝓛 (κ₂ ⊑ Z.row.lives) (κ₃ ⊑ X.lives) (Enlarges X len old new) (block x)) ∷ []) ∵ move ! (1 ∷ []) $
        heard_all ! (κ₂ ⊑ Z.row.lives) (κ₃ ⊑ X.lives) (Enlarges X len old new) (block x) (λ lives lives' sizes. move ! (1 ∷ []) $
        split ! $ split3 ! $ move ! (2 ∷ []) $ split ! $ move ! (4 ∷ []) $ fsplit ! $ fsplit ! $ move ! (1 ∷ []) $ unhide ! $ fsplit ! $ fsplit ! $
        use1 𝓛 (‵ (seen Z κ₁ p inner)) (id⊢ 𝓤 _) $ move ! (1 ∷ []) $ fsplit ! $ keep ! (0 ∷ 8 ∷ 6 ∷ 2 ∷ 10 ∷ 9 ∷ []) $
        -- [the `&` to the count; the tokens of κ₁ and κ₃; the `&` to the inner handle; the block; the token of κ₂]
        enter ! 𝓣.C 𝓣.Λ (here Z X) (vs x) _ $ alloc_all !
        (λ l. pass_all ! refl (
          (tt, tt),
          (
            (tt, tt),
            ((tt, record { fits = fl }), ((tt, record { fits = fo }), ((tt, record { fits = fn }), tt))),
          ),
        ) $
        let E : Env 𝓤 H = env (here Z X).locals l in
        sets ! (addr ! (through ! refl (fld ! refl (stop !)))) refl (tt, tt) $
        use2 𝓛 (raw ((Grows 𝓛 at_mem run).pre (at_grows 𝓛 at_mem run κ₁ q₁ c counts new s)))
        (Grows-goes 𝓛 at_mem run κ₁ q₁ c counts new s fn (capped_fits (size (layout X)))) $
        calls_at ! (fm_of 𝓤 H 𝓛.laws 𝓣) (Grows 𝓛 at_mem run) grows (at_grows 𝓛 at_mem run κ₁ q₁ c counts new s)
        (and_then ! (get ! refl) (and_then ! (get ! refl) (and_then ! (size_word !) (no_more !)))) (λ u.
        use1 𝓛 (later (some (λ (granted : Bool). given (u ≡ vbool granted) (‵ (flft κ₁ q₁)))))
        (Grows-gives 𝓛 at_mem run κ₁ q₁ c counts new s u) $ await ! tt $ pick ! (λ granted. learn ! (λ is_granted.
        lands_as ! is_granted refl (tt, tt) $ sets ! (un ! (get ! refl) tt) refl (tt, tt) $ first ! $ branches ! (get ! refl)
        (λ refused. sets ! (agg ! (no_more !)) refl (tt, tt) $ sets !
        (agg ! (and_then ! (lit ! tt) (and_then ! (get ! refl) (no_more !)))) refl (Answer-typed false 0 0) $
        returns_within ! (Post x) refl (look_at ! 0 refl) $ free_all ! refl $ keep ! (3 ∷ 0 ∷ 4 ∷ 1 ∷ []) $ by ! (exits x false 0 0))
        (λ passed_on. skips ! $ exec ! 𝓣.C 𝓣.Λ E (after 4 (here Z X).body) (at_ret E (Post x)) $
        sets ! (addr ! (through ! refl (fld ! refl (stop !)))) refl (tt, tt) $
        join ! $ move ! (1 ∷ 0 ∷ []) $ join ! $ move ! (1 ∷ 0 ∷ []) $ join ! $
        use1 𝓛 (raw (Called.pre y)) (Resizes-goes Z X (Enlarges X) 𝓛 at_mem run κ₁ κ₃ q₁ q₃ p inner b o len old new xs
        (⊑_trans κ₁ κ₂ Z.row.lives within lives) lives' sizes fl fo fn) $
        calls_at ! (fm_of 𝓤 H 𝓛.laws 𝓣) Called resizes y
        (and_then ! (get ! refl) (and_then ! (get ! refl)
        (and_then ! (get ! refl) (and_then ! (get ! refl) (and_then ! (get ! refl) (no_more !)))))) (λ v.
        use1 𝓛 (later (some (λ (c : Bool × (ℕ × ℕ)). given (v ≡ answer_val c.0 c.1.0 c.1.1)
        (‵ (left_by Z X (Enlarges X) 𝓛 at_mem run κ₁ κ₃ q₁ q₃ p inner b o len old new xs
        (result_of c.0 c.1.0 c.1.1)))) ⊛ ‵ (flft κ₁ q₁) ⊛ ‵ (flft κ₃ q₃)))
        (Resizes-gives Z X (Enlarges X) 𝓛 at_mem run κ₁ κ₃ q₁ q₃ p inner b o len old new xs v) $ await ! tt $ split3 ! $ pick ! (λ answer. learn ! (λ is_answer.
        lands_as ! is_answer refl (Answer-typed answer.0 answer.1.0 answer.1.1) $ returns ! (look_at ! 0 refl) $ free_all ! refl $
        move ! (0 ∷ 1 ∷ 3 ∷ 2 ∷ []) $ by ! (exits x answer.0 answer.1.0 answer.1.1))))))))))

pub grow_spec : {M : Type 1} → stated.statement M
unfolding tables_of
grow_spec 𝓤 𝓛 𝓜 𝓡 wired B X laws laws' g d drops met _ =
    let Z : Al = record { row = B; laws = laws; g = g; d = d; drops = drops } in
    let 𝓣 : Tables 𝓤 𝓛.H = tables_of 𝓤 𝓛.H 𝓜 (tables 𝓤 𝓛.H 𝓜 𝓡 𝓡.env) in
    let c = F.clauses B X g d drops 𝓛 𝓜.mem 𝓡.returns in
    let Runs = WpFn 𝓤 𝓛.H 𝓣.C 𝓣.Λ (here Z X) in
    let number = Goes-dropped 𝓛 3 (plain (λ _. usize)) yes (λ κs x f. refl) in
    let grows =
    cited 𝓤 𝓛.H _ 𝓜 𝓡 𝓡.env grow_symbol.name (𝓡.env grow_symbol.name) refl (grow_met.met 𝓤 𝓛 𝓜 𝓡 (code.calls-heap_memory::take_growth 𝓡.env wired)) in
    entered 𝓤 𝓛.H (triple_of 𝓛 (F.signature B X) (F.spec B X g d drops 𝓛 𝓜.mem 𝓡.returns)) 𝓣.C 𝓣.Λ (key.name (args Z X))
    (here Z X) (code.unfolded 𝓤 𝓛.H 𝓜 𝓡 wired (B, (X, tt)) d drops)
    (walk_Meets 𝓛 (ended Z X) (stayed Z X) (
      Goes-dropped 𝓛 3 (self Z X) yes (λ κs x f. refl),
      (Goes-dropped 𝓛 3 (plain (λ _. RawPtr)) yes (λ κs x f. refl), (number, (number, (number, tt)))),
    ) c Runs
    (WpFn-mono 𝓤 𝓛.H 𝓛.laws 𝓣 (here Z X))
    (walked 𝓛 (ended Z X) (stayed Z X) c Runs (λ κs. (
      shr_vals,
      (rawptr_vals, (uint_vals w64, (uint_vals w64, (uint_vals w64, tt)))),
    ))
    (λ κs. ((λ r vs shared. shared.0), (rawptr_Tells, (uint_Tells w64, (uint_Tells w64, (uint_Tells w64, tt))))))
    (λ κs qs bounds a xs are. walk Z X 𝓛 𝓜.mem 𝓡.returns 𝓣 (met.grow drops X laws') grows κs.0 κs.1.0 κs.1.1.0 qs.0
    qs.1.0 qs.1.1.0 bounds.0 a.0 a.1.1.0 a.1.1.1.0 a.1.1.1.1.0 xs are.1.1.0.1 are.1.1.1.0.1 are.1.1.1.1.0.1 a.1.0)))
