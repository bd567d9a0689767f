-- `count_down_to_refusal` at a call: the state that it takes, and the state that it leaves. Assumes `Logic`.
use Rattle.std.proofs.Common.{◌≡◌, ℕ, Bool, List, [], ◌∷◌, refl, ap}
use seplogic.Ra.Ura.{Ura}
use mir.Val.{Val, vbool, vptr}
use base.Logic.{SProp, ent, sep, ex, guard, id⊢}
use base.Fml.{Lft, Share, Fml, ftrue, fsep, flft}
use prog.Memory.{Memory}
use prog.Routine.{Routine}
use types.Logic.{Logic, sem}
use types.Kit.{‵, raw, ◌⊛◌, some, later, ◌$◌, ◌∵◌, !, qed, done, move, keep, use1, split, join, pick, check, show}
use types.Kit.{fjoin, feq_i, feq_l, await, updating, now as at_once}
use contract.Monad.{Fun}
use denote.Builtin.{u64, bool}
use denote.Memory.{hidden_shr}
use denote.Steps.{nothing, only}
use denote.Triple.Spec.{triple_of}
use denote.Triple.Statement.{Contract}
use Rattle.std.specs.contracts.cell.Cell.{the_row}
use Rattle.refusing_alloc.specs.contracts.count_down_to_refusal as f

module _ {M : Type 1} {𝓤 : Ura M} (𝓛 : Logic 𝓤) (at_mem : Memory → SProp 𝓤) (run : Routine → Fun 𝓤) where
  open 𝓛 use {H, A}

  abbrev pub Due : Contract 𝓤
  Due = triple_of 𝓛 f.signature (f.spec 𝓛 at_mem run)

  module _ (κ : Lft) (q : Share) (p : ℕ × ℕ) where
    -- the call with a `&` of the lifetime κ to the count at p
    abbrev pub at_due : Due.Ghost
    at_due =
        (((κ, tt), (q, tt), tt, (record { ref_ptr = p; now = record { value = tt } }, tt), (vptr p.0 p.1 ∷ [], tt)), tt)

    abbrev Shared : Fml
    Shared = hidden_shr (the_row u64) κ (record { value = tt }) p.0 p.1

    pub Due-goes : ent 𝓤 (sep 𝓤 (sem 𝓛 Shared) (A.lft κ q)) (Due.pre at_due)
    Due-goes =
        qed 𝓛 (‵ Shared ∷ ‵ (flft κ q) ∷ []) ∵
        feq_i ! (List Val) (vptr p.0 p.1 ∷ []) (vptr p.0 p.1 ∷ []) refl $ fjoin ! $
        nothing ! $ move ! (1 ∷ []) $ fjoin ! $
        nothing ! $ move ! (2 ∷ []) $ join ! $ join ! $
        nothing ! $ move ! (1 ∷ []) $ done !

    -- the answer `due`, with the lifetime's token
    abbrev Told : Val → Bool → SProp 𝓤
    Told v due = guard 𝓤 (v ≡ vbool due) (A.lft κ q)

    pub Due-gives : (v : Val) → ent 𝓤 (Due.post at_due v) (H.⇛ (ex 𝓤 (Told v)))
    Due-gives v =
        qed 𝓛 (raw (Due.post at_due v) ∷ []) ∵ updating ! $
        use1 𝓛 (later (some (λ (due : Bool). ((‵ (flft κ q) ⊛ ‵ ftrue) ⊛ ‵ (bool.own_val due (v ∷ [])))
        ⊛ some (λ (ws : Unit {0} × Unit {0}). ‵ (fsep ftrue ftrue) ⊛ ‵ ftrue)))) (id⊢ 𝓤 _) $
        await ! tt $ pick ! (λ due. split ! $ split ! $ move ! (1 ∷ []) $ feq_l ! (λ e.
        split ! $ at_once ! $ show ! (Told v) due $ check ! (ap only e) $ keep ! (0 ∷ []) $ done !))
