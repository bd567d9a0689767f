-- It refuses the allocation that is due, and otherwise gives the inner allocator's answer. Assumes `Logic`.
use Rattle.std.proofs.Common.{◌≡◌, ℕ, ◌^◌, ◌<◌, Bool, true, false, [], ◌∷◌, Ok, Err, refl, w64, Bor}
use seplogic.Ra.Ura.{Ura}
use mir.Syntax.{Ty, Fn}
use mir.Val.{vbool, vint}
use mir.MapTy.{inst_fn}
use base.Logic.{SProp, ent, sep, emp, id⊢}
use base.Fml.{Lft, Share, ftrue, froom, flft}
use prog.Memory.{Memory}
use prog.Routine.{Routine}
use prog.Wp.{Calls, Loops, WpFn}
use types.Logic.{Logic, sem}
use types.Kit.{‵, raw, ◌⊛◌, some, later, given, at_ret, ◌$◌, ◌∵◌, !, qed, by, done, move, keep, use0, use1, use2, split, join}
use types.Kit.{pick, learn, fsplit, fjoin, suffices, await}
use types.Part.{agg}
use types.Run.{stop, fld, addr, lit, no_more, and_then, first, branches, skips, exec, returns, returns_within, enter}
use types.ByLocal.{alloc_all, pass_all, free_all, look_at, get, through, sets, lands_as, env}
use contract.BorrowLft.{◌⊑◌, ⊑_trans}
use contract.Monad.{Fun, fact}
use contract.Running.{tables}
use sound.WpLaws.{FmC}
use denote.Exit.{yes}
use denote.Opens.{unhide}
use denote.Plain.{uint_vals, uint_Tells}
use denote.RattleType.{owns}
use denote.RawPtr.{block_ptr}
use denote.Ref.{shr_vals}
use denote.Signature.{types_at}
use denote.Steps.{heard, nothing}
use denote.Triple.Call.{calls_at}
use denote.Triple.Clauses.{Ended, Clauses}
use denote.Triple.Statement.{Contract, Triple}
use denote.Triple.Table.{framed}
use denote.Triple.Walked.{Stays, stay_dropped, walk_of, ends_at, Goes-dropped}
use Rattle.std.proofs.alloc.Calls.{Al, seen, token, Answer, answer_val, Answer-typed, Answer-Ok, Answer-err}
use Rattle.std.proofs.alloc.Calls.{takes_key, Takes, at_takes, Answered, Takes-goes, Takes-gives, answers}
use Rattle.std.proofs.alloc.Shapes.{after}
use Rattle.std.proofs.raw_atomic.Walks.{proved}
use Rattle.refusing_alloc.proofs.Handle.{number, IsLayout, args, handle, inner_at, left_at}
use Rattle.refusing_alloc.proofs.Due.{Due, at_due, Due-goes, Due-gives}
use Rattle.refusing_alloc.proofs.count_down_to_refusal.Symbol as due_symbol
use Rattle.refusing_alloc.proofs.count_down_to_refusal.Met.{met as due_met}
use Rattle.refusing_alloc.specs.contracts.RefusesNth.{the_row}
use Rattle.refusing_alloc.specs.contracts.RefusesNthAllocator.allocate as f
use Rattle.refusing_alloc.proofs.RefusesNthAllocator.allocate.Statement.{statement}
use Rattle.refusing_alloc.proofs.RefusesNthAllocator.allocate.Code as code

module _ (B : Al) where
  abbrev here : Fn
  here = inst_fn (args B) code.function

  abbrev ended : Ended
  ended = f.ended B.row B.g B.d B.drops

  abbrev stayed : Stays ended.signature.params ended.kept
  stayed = (stay_dropped (handle B) yes, (stay_dropped number yes, (stay_dropped number yes, tt)))

module _ (B : Al) {M : Type 1} {𝓤 : Ura M} (𝓛 : Logic 𝓤) (at_mem : Memory → SProp 𝓤) (run : Routine → Fun 𝓤) where
  open 𝓛 use {H, A}

  abbrev held : Clauses 𝓤 (ended B)
  held = f.clauses B.row B.g B.d B.drops 𝓛 at_mem run

  abbrev Asks : Contract 𝓤
  Asks = Due 𝓛 at_mem run

  abbrev Inner : Contract 𝓤
  Inner = Takes B 𝓛 at_mem run

  abbrev Walk : Contract 𝓤
  Walk = walk_of 𝓛 (ended B) (stayed B) held

  module _ (κ₁ κ₂ : Lft) (q₁ q₂ : Share) (within : κ₁ ⊑ κ₂) (r : Bor (the_row B.row).Denot) (n a : ℕ) (τ : Ty) where
    abbrev entry : Walk.Ghost
    entry = (
      (
        (κ₁, (κ₂, tt)),
        (q₁, (q₂, tt)),
        (within, tt),
        (r, (n, (a, tt))),
        (shr_vals r, (vint w64 n ∷ [], (vint w64 a ∷ [], tt))),
      ),
      τ,
    )

    -- that the two lifetimes last
    abbrev Tokens : SProp 𝓤
    Tokens = sep 𝓤 (A.lft κ₁ q₁) (sep 𝓤 (A.lft κ₂ q₂) (emp 𝓤))

    -- the end of a call that answers `AllocError`
    refused : ent 𝓤 Tokens (Walk.post entry (answer_val false 0 0))
    refused =
        qed 𝓛 (‵ (flft κ₁ q₁) ∷ (‵ (flft κ₂ q₂) ⊛ ‵ ftrue) ∷ []) ∵
        suffices ! _ (ends_at 𝓛 (ended B) (stayed B) held entry (answer_val false 0 0) (Err (record {}))
        (tt, (tt, (tt, tt))) (tt, (tt, (tt, tt)))) $ nothing ! $
        use0 𝓛 (‵ (Answer.own_val (Err (record {})) (answer_val false 0 0 ∷ []))) (Answer-err 𝓛) $
        nothing ! $ nothing ! $ fjoin ! $ nothing ! $ fjoin ! $ nothing ! $ fjoin ! $ join ! $
        move ! (2 ∷ 3 ∷ []) $ join ! $ join ! $ done !

    -- the end of a call that gives the block b, at the offset o
    granted : (b o : ℕ) → ent 𝓤 (sep 𝓤 (H.room τ b o) (sep 𝓤 (sem 𝓛 (token B r.now.inner τ (block_ptr b o))) Tokens))
        (Walk.post entry (answer_val true b o))
    granted b o =
        qed 𝓛 (‵ (froom τ b o) ∷ ‵ (token B r.now.inner τ (block_ptr b o))
        ∷ ‵ (flft κ₁ q₁) ∷ (‵ (flft κ₂ q₂) ⊛ ‵ ftrue) ∷ []) ∵ fjoin ! $
        suffices ! _ (ends_at 𝓛 (ended B) (stayed B) held entry (answer_val true b o) (Ok (block_ptr b o))
        (tt, (tt, (tt, tt))) (tt, (tt, (tt, tt)))) $
        use0 𝓛 (‵ (Answer.own_val (Ok (block_ptr b o)) (answer_val true b o ∷ []))) (Answer-Ok 𝓛 b o) $
        nothing ! $ nothing ! $ fjoin ! $ nothing ! $ fjoin ! $ nothing ! $ fjoin ! $ join ! $
        move ! (2 ∷ 3 ∷ []) $ join ! $ join ! $ done !

    module _ (C : Calls 𝓤 H) (Λ : Loops 𝓤 H) (fm : FmC 𝓤 H 𝓛.laws C)
        (asks : Triple 𝓤 (C due_symbol.name) Asks) (takes : Triple 𝓤 (C (takes_key B)) Inner) where
      walk : n < 2 ^ 64 → a < 2 ^ 64 → ent 𝓤 (Walk.pre entry) (WpFn 𝓤 H C Λ (here B) (Walk.args entry) (Walk.post entry))
      walk n_fits a_fits =
          let h : B.row.Denot = r.now.inner in let p : ℕ × ℕ = inner_at B r.ref_ptr in
          let left : ℕ × ℕ = left_at B r.ref_ptr in
          qed 𝓛 (((‵ (flft κ₁ q₁) ⊛ ‵ (flft κ₂ q₂) ⊛ ‵ ftrue)
          ⊛ ‵ (owns (types_at (ended B).signature.params entry.0.0) entry.0.3 entry.0.4))
          ∷ (raw (fact 𝓤 (κ₂ ⊑ B.row.lives)) ⊛ raw (fact 𝓤 (IsLayout τ n a))) ∷ []) ∵
          move ! (1 ∷ []) $ split ! $ heard ! (κ₂ ⊑ B.row.lives) (λ lives. heard ! (IsLayout τ n a) (λ layout.
          split ! $ split ! $ move ! (2 ∷ []) $ fsplit ! $ fsplit ! $
          move ! (1 ∷ []) $ unhide ! $ fsplit ! $ fsplit ! $ use1 𝓛 (‵ (seen B κ₁ p h)) (id⊢ 𝓤 _) $
          move ! (1 ∷ []) $ fsplit ! $ keep ! (0 ∷ 6 ∷ 2 ∷ 7 ∷ []) $
          -- [the count; the token of κ₁; the inner handle; the other tokens]
          enter ! C Λ (here B) (Walk.args entry) _ $
          alloc_all ! (λ l. pass_all ! refl ((tt, tt), ((tt, record { fits = n_fits }), ((tt, record { fits = a_fits }), tt))) $
          -- `if count_down_to_refusal(&self.left)`
          sets ! (addr ! (through ! refl (fld ! refl (stop !)))) refl (tt, tt) $
          use2 𝓛 (raw (Asks.pre (at_due 𝓛 at_mem run κ₁ q₁ left))) (Due-goes 𝓛 at_mem run κ₁ q₁ left) $
          calls_at ! fm Asks asks (at_due 𝓛 at_mem run κ₁ q₁ left) (and_then ! (get ! refl) (no_more !)) (λ u.
          use1 𝓛 (later (some (λ (due : Bool). given (u ≡ vbool due) (‵ (flft κ₁ q₁)))))
          (Due-gives 𝓛 at_mem run κ₁ q₁ left u) $ await ! tt $ pick ! (λ due. learn ! (λ told.
          lands_as ! told refl (tt, tt) $ first ! $ branches ! (get ! refl)
          -- `return Err(AllocError)`
          (λ count_down_to_refusal. sets ! (agg ! (no_more !)) refl (tt, tt) $
          sets ! (agg ! (and_then ! (lit ! tt) (and_then ! (get ! refl) (no_more !)))) refl (Answer-typed false 0 0) $
          returns_within ! (Walk.post entry) refl (look_at ! 0 refl) $ free_all ! refl $ keep ! (0 ∷ 2 ∷ []) $ by ! refused)
          -- `self.inner.allocate(size, align)`
          (λ not_due. let En = env (here B).locals l in
          skips ! $ exec ! C Λ En (after 3 (here B).body) (at_ret En (Walk.post entry)) $
          move ! (1 ∷ []) $ sets ! (addr ! (through ! refl (fld ! refl (stop !)))) refl (tt, tt) $
          let goes = ⊑_trans κ₁ κ₂ B.row.lives within lives in
          use2 𝓛 (raw (Inner.pre (at_takes B 𝓛 at_mem run κ₁ q₁ p h n a τ)))
          (Takes-goes B 𝓛 at_mem run κ₁ q₁ p h goes n a τ layout.0 layout.1 n_fits a_fits) $
          calls_at ! fm Inner takes (at_takes B 𝓛 at_mem run κ₁ q₁ p h n a τ)
          (and_then ! (get ! refl) (and_then ! (get ! refl) (and_then ! (get ! refl) (no_more !)))) (λ v.
          use1 𝓛 (later (raw (Answered B 𝓛 at_mem run h τ v) ⊛ ‵ (flft κ₁ q₁)))
          (Takes-gives B 𝓛 at_mem run κ₁ q₁ p h n a τ v) $ await ! tt $ split ! $ answers B ! at_mem run h τ v
          (λ b o e. lands_as ! e refl (Answer-typed true b o) $ returns ! (look_at ! 0 refl) $ free_all ! refl $ by ! (granted b o))
          (λ e. lands_as ! e refl (Answer-typed false 0 0) $ returns ! (look_at ! 0 refl) $ free_all ! refl $ by ! refused)))))))))

pub allocate_spec : {M : Type 1} → statement M
allocate_spec 𝓤 𝓛 𝓜 𝓡 wired row laws g d drops met _ =
    let B : Al = record { row = row; laws = laws; g = g; d = d; drops = drops } in
    let 𝓣 = tables 𝓤 𝓛.H 𝓜 𝓡 𝓡.env in
    proved 𝓛 (ended B) (stayed B) (held B 𝓛 𝓜.mem 𝓡.returns) 𝓜 𝓡 (
      Goes-dropped 𝓛 2 (handle B) yes (λ κs x w. refl),
      (
        Goes-dropped 𝓛 2 number yes (λ κs x w. refl),
        (Goes-dropped 𝓛 2 number yes (λ κs x w. refl), tt),
      ),
    )
    (f.Key.name (args B)) (here B) (code.unfolded 𝓤 𝓛.H 𝓜 𝓡 wired (row, tt) d drops)
    (λ κs. (shr_vals, (uint_vals w64, (uint_vals w64, tt))))
    (λ κs. ((λ r vs s. s.0), (uint_Tells w64, (uint_Tells w64, tt))))
    (λ κs qs bounds a τ are.
    walk B 𝓛 𝓜.mem 𝓡.returns κs.0 κs.1.0 qs.0 qs.1.0 bounds.0 a.0 a.1.0 a.1.1.0 τ 𝓣.C 𝓣.Λ (framed 𝓤 𝓛.H 𝓜 𝓣)
    (due_met 𝓤 𝓛 𝓜 𝓡 (code.calls-refusing_alloc::count_down_to_refusal 𝓡.env wired)) (met.allocate drops) are.1.0.1 are.1.1.0.1)
