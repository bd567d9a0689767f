-- The inner allocator takes the block back. Assumes `Logic`.
use Rattle.std.proofs.Common.{◌≡◌, ℕ, ◌^◌, ◌<◌, List, [], ◌∷◌, refl, w64, Bor}
use seplogic.Ra.Ura.{Ura}
use mir.Syntax.{Ty, Fn}
use mir.Val.{Val, vunit, vint}
use mir.MapTy.{inst_fn}
use base.Logic.{SProp, ent, id⊢, never_e}
use base.Fml.{Lft, Share, ftrue, ffalse, fsep, froom, flft}
use prog.Memory.{Memory}
use prog.Routine.{Routine}
use prog.Wp.{Calls, Loops, WpFn}
use types.Logic.{Logic}
use types.Kit.{Item, ‵, raw, ◌⊛◌, later, given, ◌$◌, ◌∵◌, !, qed, by, done, move, keep, use1, split, split3, join, learn}
use types.Kit.{fsplit, fjoin, feq_i, suffices, await}
use types.Run.{stop, fld, addr, no_more, and_then, of_opd, unit_lit, returns, enter}
use types.ByLocal.{alloc_all, pass_all, free_all, look_at, get, through, sets, lands_as}
use contract.BorrowLft.{◌⊑◌, ⊑_trans}
use contract.Monad.{Fun, fact}
use contract.Running.{tables}
use sound.WpLaws.{FmC}
use denote.Builtin.{RawPtr}
use denote.Exit.{yes}
use denote.Opens.{unhide}
use denote.Plain.{uint_vals, uint_Tells}
use denote.RattleType.{owns}
use denote.RawPtr.{Ptr, block_ptr, null_ptr, rawptr_vals, rawptr_Tells}
use denote.Ref.{shr_vals}
use denote.Signature.{Slot, plain, types_at}
use denote.Steps.{heard, nothing}
use denote.Triple.Call.{calls_at}
use denote.Triple.Clauses.{Ended, Clauses}
use denote.Triple.Statement.{Contract, Triple}
use denote.Triple.Table.{framed}
use denote.Triple.Walked.{Stays, stay_dropped, walk_of, ends_at, Goes-dropped}
use Rattle.std.proofs.alloc.Calls.{Al, seen, token, gives_key, Gives, at_gives, Gives-goes, Gives-Gives}
use Rattle.std.proofs.raw_atomic.Walks.{proved}
use Rattle.refusing_alloc.proofs.Handle.{number, IsLayout, args, handle, inner_at}
use Rattle.refusing_alloc.specs.contracts.RefusesNth.{the_row}
use Rattle.refusing_alloc.specs.contracts.RefusesNthAllocator.deallocate as f
use Rattle.refusing_alloc.proofs.RefusesNthAllocator.deallocate.Statement.{statement}
use Rattle.refusing_alloc.proofs.RefusesNthAllocator.deallocate.Code as code

abbrev block : Slot 2
block = plain (λ _. RawPtr)

module _ (B : Al) where
  abbrev here : Fn
  here = inst_fn (args B) code.function

  abbrev ended : Ended
  ended = f.ended B.row B.g B.d B.drops

  abbrev stayed : Stays ended.signature.params ended.kept
  stayed = (stay_dropped (handle B) yes, (stay_dropped block yes, (stay_dropped number yes, (stay_dropped number yes, tt))))

module _ (B : Al) {M : Type 1} {𝓤 : Ura M} (𝓛 : Logic 𝓤) (at_mem : Memory → SProp 𝓤) (run : Routine → Fun 𝓤) where
  open 𝓛 use {H}

  abbrev held : Clauses 𝓤 (ended B)
  held = f.clauses B.row B.g B.d B.drops 𝓛 at_mem run

  abbrev Inner : Contract 𝓤
  Inner = Gives B 𝓛 at_mem run

  abbrev Walk : Contract 𝓤
  Walk = walk_of 𝓛 (ended B) (stayed B) held

  module _ (κ₁ κ₂ : Lft) (q₁ q₂ : Share) (within : κ₁ ⊑ κ₂) (r : Bor (the_row B.row).Denot) (n a : ℕ) (τ : Ty) where
    abbrev entry : Ptr → Walk.Ghost
    entry x = (
      (
        (κ₁, (κ₂, tt)),
        (q₁, (q₂, tt)),
        (within, tt),
        (r, (x, (n, (a, tt)))),
        (shr_vals r, (rawptr_vals x, (vint w64 n ∷ [], (vint w64 a ∷ [], tt)))),
      ),
      τ,
    )

    -- the state in which a call begins, but for the `requires`
    abbrev Lent : Ptr → Item 𝓤
    Lent x = (‵ (flft κ₁ q₁) ⊛ ‵ (flft κ₂ q₂) ⊛ ‵ ftrue)
        ⊛ ‵ (owns (types_at (ended B).signature.params (entry x).0.0) (entry x).0.3 (entry x).0.4)

    module _ (C : Calls 𝓤 H) (Λ : Loops 𝓤 H) (fm : FmC 𝓤 H 𝓛.laws C) (gives : Triple 𝓤 (C (gives_key B)) Inner) where
      walk : n < 2 ^ 64 → a < 2 ^ 64 → (x : Ptr)
          → ent 𝓤 (Walk.pre (entry x)) (WpFn 𝓤 H C Λ (here B) (Walk.args (entry x)) (Walk.post (entry x)))
      walk n_fits a_fits null_ptr =
          qed 𝓛 (Lent null_ptr ∷ (raw (fact 𝓤 (κ₂ ⊑ B.row.lives)) ⊛ raw (fact 𝓤 (IsLayout τ n a))
          ⊛ ‵ (fsep ffalse (token B r.now.inner τ null_ptr))) ∷ []) ∵
          move ! (1 ∷ []) $ split3 ! $ move ! (2 ∷ []) $ fsplit ! $ keep ! (0 ∷ []) $ by ! (never_e 𝓤 _)
      walk n_fits a_fits (block_ptr b o) =
          let h : B.row.Denot = r.now.inner in let p : ℕ × ℕ = inner_at B r.ref_ptr in let x : Ptr = block_ptr b o in
          qed 𝓛 (Lent x ∷ (raw (fact 𝓤 (κ₂ ⊑ B.row.lives)) ⊛ raw (fact 𝓤 (IsLayout τ n a))
          ⊛ ‵ (fsep (froom τ b o) (token B h τ x))) ∷ []) ∵
          move ! (1 ∷ []) $ split3 ! $ heard ! (κ₂ ⊑ B.row.lives) (λ lives. heard ! (IsLayout τ n a) (λ layout.
          move ! (1 ∷ []) $ split ! $ split ! $ move ! (2 ∷ []) $ fsplit ! $ fsplit ! $
          move ! (1 ∷ []) $ unhide ! $ fsplit ! $ fsplit ! $
          use1 𝓛 (‵ (seen B κ₁ p h)) (id⊢ 𝓤 _) $ keep ! (0 ∷ 5 ∷ 6 ∷ 7 ∷ []) $
          -- [the inner handle; the token of κ₁; the other tokens; the block]
          enter ! C Λ (here B) (Walk.args (entry x)) _ $
          alloc_all ! (λ l. pass_all ! refl
          ((tt, tt), ((tt, tt), ((tt, record { fits = n_fits }), ((tt, record { fits = a_fits }), tt)))) $
          -- `self.inner.deallocate(ptr, size, align)`
          sets ! (addr ! (through ! refl (fld ! refl (stop !)))) refl (tt, tt) $
          join ! $ move ! (2 ∷ []) $ fsplit ! $ move ! (1 ∷ 2 ∷ []) $ join ! $ move ! (1 ∷ 0 ∷ []) $ join ! $
          let goes = ⊑_trans κ₁ κ₂ B.row.lives within lives in
          use1 𝓛 (raw (Inner.pre (at_gives B 𝓛 at_mem run κ₁ q₁ p h b o n a τ)))
          (Gives-goes B 𝓛 at_mem run κ₁ q₁ p h goes b o n a τ layout.0 layout.1 n_fits a_fits) $
          calls_at ! fm Inner gives (at_gives B 𝓛 at_mem run κ₁ q₁ p h b o n a τ)
          (and_then ! (get ! refl) (and_then ! (get ! refl) (and_then ! (get ! refl) (and_then ! (get ! refl) (no_more !))))) (λ v.
          use1 𝓛 (later (given (v ≡ vunit) (‵ (flft κ₁ q₁)))) (Gives-Gives B 𝓛 at_mem run κ₁ q₁ p h b o n a τ v) $
          await ! tt $ learn ! (λ is_unit. lands_as ! is_unit refl (tt, tt) $
          sets ! (of_opd ! (unit_lit !)) refl (tt, tt) $ returns ! (look_at ! 0 refl) $ free_all ! refl $
          suffices ! _ (ends_at 𝓛 (ended B) (stayed B) held (entry x) vunit tt
          (tt, (tt, (tt, (tt, tt)))) (tt, (tt, (tt, (tt, tt))))) $
          nothing ! $ feq_i ! (List Val) (vunit ∷ []) (vunit ∷ []) refl $
          nothing ! $ nothing ! $ fjoin ! $ nothing ! $ fjoin ! $ nothing ! $ fjoin ! $ nothing ! $ fjoin ! $ join ! $
          move ! (2 ∷ 3 ∷ []) $ join ! $ join ! $ done !)))))

pub deallocate_spec : {M : Type 1} → statement M
deallocate_spec 𝓤 𝓛 𝓜 𝓡 wired row laws g d drops met _ =
    let B : Al = record { row = row; laws = laws; g = g; d = d; drops = drops } in
    let 𝓣 = tables 𝓤 𝓛.H 𝓜 𝓡 𝓡.env in
    proved 𝓛 (ended B) (stayed B) (held B 𝓛 𝓜.mem 𝓡.returns) 𝓜 𝓡 (
      Goes-dropped 𝓛 2 (handle B) yes (λ κs x w. refl),
      (
        Goes-dropped 𝓛 2 block yes (λ κs x w. refl),
        (Goes-dropped 𝓛 2 number yes (λ κs x w. refl), (Goes-dropped 𝓛 2 number yes (λ κs x w. refl), tt)),
      ),
    )
    (f.Key.name (args B)) (here B) (code.unfolded 𝓤 𝓛.H 𝓜 𝓡 wired (row, tt) d drops)
    (λ κs. (shr_vals, (rawptr_vals, (uint_vals w64, (uint_vals w64, tt)))))
    (λ κs. ((λ r vs s. s.0), (rawptr_Tells, (uint_Tells w64, (uint_Tells w64, tt)))))
    (λ κs qs bounds a τ are.
    walk B 𝓛 𝓜.mem 𝓡.returns κs.0 κs.1.0 qs.0 qs.1.0 bounds.0 a.0 a.1.1.0 a.1.1.1.0 τ
    𝓣.C 𝓣.Λ (framed 𝓤 𝓛.H 𝓜 𝓣) (met.deallocate drops) are.1.1.0.1 are.1.1.1.0.1 a.1.0)
