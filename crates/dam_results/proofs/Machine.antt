-- The bytes that a read of one record consumes, and the state that it leaves.
use Rattle.std.proofs.Common.{◌≡◌, ℕ, ◌<◌, ◌≤◌, Bool, true, false, cond, List, [], ◌∷◌, length, Option, Some, None, refl, ap, subst, arith}
use Rattle.csv.specs.Reading.{default_config}
use Rattle.csv.specs.Machine.{Read, step, in_field, start_field, start_record, is_end, ends_at_end, next_record, fields_after, field_after}
use Rattle.csv.specs.declared.parser.State.{State}
use Rattle.csv.specs.declared.parser.State.TheVariants as st
use Rattle.csv.specs.declared.parser.Action.{Action}
use Rattle.csv.specs.declared.parser.Action.TheVariants as act

-- a move that ends a record goes to a state in which the end of the text ends no record
record Closes (move : State × Action) : Type 0 where
  at_end : is_end move.1 ≡ true → ends_at_end move.0 ≡ false

either : (test : Bool) (x y : State × Action) → Closes x → Closes y → Closes (cond test x y)
either true x y f g = f
either false x y f g = g

after : (test : Bool) → Closes (cond test st.AfterCr st.StartRecord, act.EndRecord)
after true = record { at_end = λ h. refl }
after false = record { at_end = λ h. refl }

skips : (s : State) → Closes (s, act.Skip)
skips s = record { at_end = λ h. absurd cc }

copies : (s : State) → Closes (s, act.Copy)
copies s = record { at_end = λ h. absurd cc }

parts : (s : State) → Closes (s, act.EndField)
parts s = record { at_end = λ h. absurd cc }

Closes-in_field : (c : ℕ) → Closes (in_field default_config c)
Closes-in_field c = search (either, after, copies, parts)

Closes-start_field : (c : ℕ) → Closes (start_field default_config c)
Closes-start_field c = search (either, skips, Closes-in_field)

Closes-start_record : (c : ℕ) → Closes (start_record default_config c)
Closes-start_record c = search (either, skips, Closes-start_field)

Closes-step : (s : State) (c : ℕ) → Closes (step default_config s c)
Closes-step st.StartRecord c = Closes-start_record c
Closes-step st.StartField c = Closes-start_field c
Closes-step st.InField c = Closes-in_field c
Closes-step st.InQuoted c = search (either, skips, copies)
Closes-step st.InEscape c = copies _
Closes-step st.AfterQuote c = search (either, copies, Closes-in_field)
Closes-step st.InComment c = search (either, skips)
Closes-step st.AfterCr c = search (either, skips, Closes-start_record)

some_is : (x y : Read) → Some x ≡ Some y → x ≡ y
some_is x y e = cc

-- a read of a record leaves a state at which the end of the text ends no record, and no more bytes than there were
pub record IsAfter (p : Read) (xs : List ℕ) : Type 0 where
  pub closed : ends_at_end p.1 ≡ false
  pub shorter : length p.2 ≤ length xs

at_end : (test : Bool) (fields : List (List ℕ)) (p : Read) → cond test (Some (fields, st.StartRecord, [])) None ≡ Some p → IsAfter p []
at_end true fields p h = subst (λ (q : Read). IsAfter q []) (some_is _ _ h) (record { closed = refl; shorter = omega arith })
at_end false fields p h = absurd cc

at_byte : (test : Bool) (move : State × Action) (fields : List (List ℕ)) (rest : List ℕ) (c : ℕ) (more : Option Read) (p : Read)
    → is_end move.1 ≡ test → Closes move → (more ≡ Some p → IsAfter p rest)
    → cond test (Some (fields, move.0, rest)) more ≡ Some p → IsAfter p (c ∷ rest)
at_byte true move fields rest c more p e closes ih h = subst (λ (q : Read). IsAfter q (c ∷ rest)) (some_is _ _ h)
    (record { closed = closes.at_end e; shorter = omega arith })
at_byte false move fields rest c more p e closes ih h = let q : IsAfter p rest = ih h in record { closed = q.closed; shorter = omega arith }

pub next_record-after : (s : State) (fields : List (List ℕ)) (field : List ℕ) (xs : List ℕ) (p : Read)
    → next_record default_config s fields field xs ≡ Some p → IsAfter p xs
unfolding next_record
next_record-after s fields field [] p h = at_end _ _ p h
next_record-after s fields field (c ∷ rest) p h =
    let move = step default_config s c in
    at_byte _ move _ rest c _ p refl (Closes-step s c)
    (next_record-after move.0 (fields_after move.1 fields field) (field_after move.1 c field) rest p) h

shorter : (test : Bool) (move : State × Action) (fields : List (List ℕ)) (rest : List ℕ) (c : ℕ) (more : Option Read) (p : Read)
    → (more ≡ Some p → IsAfter p rest) → cond test (Some (fields, move.0, rest)) more ≡ Some p → length p.2 < length (c ∷ rest)
shorter true move fields rest c more p ih h = let e = ap (λ (q : Read). length q.2) (some_is _ _ h) in omega arith
shorter false move fields rest c more p ih h = let q : IsAfter p rest = ih h in omega (arith, q.shorter)

-- between records a read takes a byte at least
pub next_record-shorter : (s : State) (xs : List ℕ) (p : Read) → ends_at_end s ≡ false → next_record default_config s [] [] xs ≡ Some p
    → length p.2 < length xs
unfolding next_record
next_record-shorter s [] p e h = absurd (let g = rw e at h in cc)
next_record-shorter s (c ∷ rest) p e h =
    let move = step default_config s c in
    shorter _ move _ rest c _ p (next_record-after move.0 (fields_after move.1 [] []) (field_after move.1 c []) rest p) h
