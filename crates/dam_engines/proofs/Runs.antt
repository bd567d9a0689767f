-- Facts of the given text, which may be unknown, from facts of the text that was read.
use Rattle.std.proofs.Common.{◌≡◌, ◌≤◌, ◌+◌, ◌-◌, ℕ, List, length, take, Option, Some, None, IfSome, Result, Ok, Err, IfErr, OnOk}
use Rattle.std.proofs.Common.{subst, arith}
use Rattle.std.specs.Io.KnownBytes.{Appends}
use Rattle.dam_book.specs.declared.command.Command.{Command}
use Rattle.dam_results.specs.Journal.{IsMadeFrom}
use Rattle.dam_engines.specs.declared.fault.RunFault.{RunFault}
use Rattle.dam_engines.specs.declared.fault.RunFault.TheVariants.{Memory, Write}
use Rattle.dam_engines.specs.Engine.{most_read, Ends, IsWritingFault}
use Rattle.dam_engines.specs.inside.Reading.{IsReadingFault}
use Rattle.dam_engines.proofs.Cuts.{cut-ends, ends-weaker, fault-ends, reading-told}
use Rattle.dam_engines.proofs.Fronts.{reads-given}

-- the text is the front that is read of the given bytes
abbrev pub IsFrontOf : Option (List ℕ) → List ℕ → Type 0
IsFrontOf known text = IfSome known (λ given. text ≡ take most_read given)

-- a fact that a front has of the given bytes is a fact of them
known-front : (P Q : List ℕ → Type 0) (known : Option (List ℕ)) (text : List ℕ)
    → ((given : List ℕ) → P (take most_read given) → Q given) → IsFrontOf known text → P text → IfSome known Q
known-front P Q None text carries front holds = tt
known-front P Q (Some given) text carries front holds = carries given (subst P front holds)

-- a run that ends at its reading
pub known-unread : (IsPrinted : List ℕ → List ℕ → Type 0) (IsFault : List ℕ → RunFault → Type 0) (old new known : Option (List ℕ))
    (asked : ℕ) (fault : RunFault)
    → ((given : List ℕ) → IsFault given Memory) → IsReadingFault fault → IfSome known
    (λ given. Ends (IsPrinted given) (IsFault given) old new asked (Err fault))
known-unread IsPrinted IsFault old new None asked fault memory is = tt
known-unread IsPrinted IsFault old new (Some given) asked fault memory is =
    reading-told (λ why. Ends (IsPrinted given) (IsFault given) old new asked (Err why)) tt (memory given) fault is

-- a run that ends with a fault of the text that was read
pub known-fault : (IsPrinted : List ℕ → List ℕ → Type 0) (IsFault : List ℕ → RunFault → Type 0) (old new known : Option (List ℕ))
    (asked : ℕ) (text : List ℕ) (fault : RunFault)
    → ((given : List ℕ) (written : ℕ) → ¬ (IsFault given (Write written)))
    → ((given : List ℕ) (fault : RunFault) → IsFault (take most_read given) fault → IsFault given fault)
    → IsFrontOf known text → IsFault text fault → IfSome known (λ given. Ends (IsPrinted given) (IsFault given) old new asked (Err fault))
known-fault IsPrinted IsFault old new known asked text fault none carries =
    known-front (λ bs. IsFault bs fault) (λ bs. Ends (IsPrinted bs) (IsFault bs) old new asked (Err fault)) known text
    (λ given is. fault-ends (IsPrinted given) (IsFault given) old new asked (none given) fault (carries given fault is))

-- a run whose text was written, as a whole or up to the failure of the writer
pub known-written : (Prints : ℕ → List Command → List ℕ → Type 0) (IsFault : List ℕ → RunFault → Type 0) (old new known : Option (List ℕ))
    (asked : ℕ)
    (text sent printed : List ℕ) (result : Result (Unit {0}) RunFault)
    → IsFrontOf known text → sent ≡ printed → OnOk result (Appends old new sent) → IfErr result (IsWritingFault old new sent)
    → asked ≤ length sent
    → IsMadeFrom Prints text printed → IfSome known (λ given. Ends (IsMadeFrom Prints given) (IsFault given) old new asked result)
known-written Prints IsFault old new known asked text sent printed (Ok done) front same wrote cut few =
    known-front (λ bs. IsMadeFrom Prints bs printed) (λ bs. Ends (IsMadeFrom Prints bs) (IsFault bs) old new asked (Ok done)) known text
    (λ given is. (
      printed,
      (is.0, is.1, reads-given given is.0 is.1 is.2, is.3),
      subst (Appends old new) same wrote,
      subst
          (λ bs. asked ≤ length bs) same few,
    )) front
known-written Prints IsFault old new known asked text sent printed (Err fault) front same wrote cut few =
    known-front (λ bs. IsMadeFrom Prints bs printed) (λ bs. Ends (IsMadeFrom Prints bs) (IsFault bs) old new asked (Err fault)) known text
    (λ given is. cut-ends (IsMadeFrom Prints given) (IsFault given) old new asked printed
    (is.0, is.1, reads-given given is.0 is.1 is.2, is.3)
    (subst (λ bs. asked ≤ length bs) same few) fault (subst (λ bs. IsWritingFault old new bs fault) same cut)) front

-- a run whose text and fault are such a weaker one
pub result-weaker : (IsPrinted IsText : List ℕ → Type 0) (IsFault IsOther : RunFault → Type 0) (old new : Option (List ℕ)) (asked : ℕ)
    → ((printed : List ℕ) → IsPrinted printed → IsText printed) → ((fault : RunFault) → IsFault fault → IsOther fault)
    → (result : Result (Unit {0}) RunFault) → Ends IsPrinted IsFault old new asked result → Ends IsText IsOther old new asked result
result-weaker IsPrinted IsText IsFault IsOther old new asked text other (Ok done) is = (is.0, text is.0 is.1, is.2, is.3)
result-weaker IsPrinted IsText IsFault IsOther old new asked text other (Err fault) is =
    ends-weaker IsPrinted IsText IsFault IsOther old new asked text other fault is

-- as often asked as a bound on the count says
pub asked-within : (old new most : ℕ) → new ≤ old + most → new - old ≤ most
asked-within old new most few = omega (arith, few)
