-- Records that make a journal have no fault.
use Rattle.std.proofs.Common.{◌≡◌, ℕ, zero, suc, ◌+◌, ◌<◌, ◌≤◌, inl, inr, true, false, eqb, List, [], ◌∷◌, ◌++◌, length, Option, None, Some}
use Rattle.std.proofs.Common.{IfSome, map, refl, sym, ap, ◌∙◌, arith, codes}
use Rattle.std.specs.List.{AllByRecursion}
use Rattle.std.proofs.lemmas.List.{length-append}
use Rattle.std.proofs.lemmas.Bool.Decides.{nat_tests}
use Rattle.dam_book.specs.Name.{IsName}
use Rattle.dam_book.specs.Fields.{price_text, volumes_text}
use Rattle.dam_book.specs.Book.{is_day}
use Rattle.dam_book.specs.declared.order.Side.{Side}
use Rattle.dam_book.specs.declared.order.Side.TheVariants.{Buy, Sell}
use Rattle.dam_book.specs.declared.order.Order.TheVariants.{Hour, Block}
use Rattle.dam_book.specs.declared.command.Command.{Command}
use Rattle.dam_book.specs.declared.command.Command.TheVariants.{Submit, Amend, Cancel, Close}
use Rattle.dam_results.specs.Limits.{most_records}
use Rattle.dam_results.specs.declared.journal_reading.JournalFault.{JournalFault}
use Rattle.dam_results.specs.declared.journal_reading.JournalFault.TheVariants.{TooLong, NotAscii, TooManyRecords, NotDay, FieldCount, BadField}
use Rattle.dam_results.specs.declared.journal_reading.JournalFault.TheVariants.{Memory}
use Rattle.dam_results.specs.Records.{Fields, record_of_day, record_of_command, records_of, kind_field, optional_text, side_word}
use Rattle.dam_results.specs.Rules.{FieldRule, OneOf, LimitPrice, OneVolume, AllVolumes, NameOrEmpty, Obeys, IsLeastBroken, rules_of, command_rules, day_rules}
use Rattle.dam_results.specs.Journal.{AreRecords, IsCommand, ReadsAs}
use Rattle.dam_results.specs.Faults.{IsRecordFault, HasFault, IsJournalFault}

abbrev pub ObeyAll : List FieldRule → Fields → Type 0
ObeyAll [] fields = Unit {0}
ObeyAll (rule ∷ rules) [] = Unit {0}
ObeyAll (rule ∷ rules) (field ∷ fields) = Obeys rule field × ObeyAll rules fields

none_broken : (rules : List FieldRule) (fields : Fields) (n : ℕ) → ObeyAll rules fields → IsLeastBroken rules fields n → ⊥
none_broken [] fields n k h = h
none_broken (rule ∷ rules) [] n k h = h
none_broken (rule ∷ rules) (field ∷ fields) zero k h = h
none_broken (rule ∷ rules) (field ∷ fields) (suc zero) k h = h k.0
none_broken (rule ∷ rules) (field ∷ fields) (suc (suc n)) k h = none_broken rules fields (suc n) k.1 h.1

ObeyAll-day : (periods : ℕ) → is_day periods ≡ true → ObeyAll day_rules (record_of_day periods)
ObeyAll-day periods day = (refl, ((periods, day, refl), (refl, (refl, (refl, (refl, (refl, (refl, (refl, tt)))))))))

Keeps-side : (side : Side) → Obeys (OneOf (codes "buy" ∷ codes "sell" ∷ [])) (side_word side)
Keeps-side Buy = refl
Keeps-side Sell = refl

Keeps-optional : (name : Option (List ℕ)) → IfSome name IsName → Obeys NameOrEmpty (optional_text name)
Keeps-optional None h = inl refl
Keeps-optional (Some text) h = inr h

ObeyAll-command : (c : Command) → IsCommand c → ObeyAll (command_rules (record_of_command c)) (record_of_command c)
ObeyAll-command (Submit who name (Hour o)) h =
    let price : Obeys LimitPrice (price_text o.price) = (o.price, h.2.price, refl) in
    let volume : Obeys OneVolume (volumes_text ((o.period, o.qty) ∷ [])) = (o.period, o.qty, h.2.period, h.2.qty, refl) in
    (refl, (h.0, (h.1, (refl, (Keeps-side o.side, (price, (volume, (refl, (refl, tt)))))))))
ObeyAll-command (Submit who name (Block o)) h =
    let price : Obeys LimitPrice (price_text o.price) = (o.price, h.2.price, refl) in
    let volumes : Obeys AllVolumes (volumes_text o.volumes) = (o.volumes, h.2.volumes, refl) in
    let parent = Keeps-optional o.parent h.2.parent in
    let group = Keeps-optional o.group h.2.group in
    (refl, (h.0, (h.1, (refl, (Keeps-side o.side, (price, (volumes, (parent, (group, tt)))))))))
ObeyAll-command (Amend who name price volumes) h =
    (refl, (h.0, (h.1, (refl, (refl, ((price, h.2, refl), ((volumes, h.3, refl), (refl, (refl, tt)))))))))
ObeyAll-command (Cancel who name) h = (refl, (h.0, (h.1, (refl, (refl, (refl, (refl, (refl, (refl, tt)))))))))
ObeyAll-command Close h = (refl, (refl, (refl, (refl, (refl, (refl, (refl, (refl, (refl, tt)))))))))

pub nine_fields : (c : Command) → length (record_of_command c) ≡ 9
nine_fields (Submit who name (Hour o)) = refl
nine_fields (Submit who name (Block o)) = refl
nine_fields (Amend who name price volumes) = refl
nine_fields (Cancel who name) = refl
nine_fields Close = refl

-- a record that is in place and keeps all its rules
record IsSound (number : ℕ) (row : Fields) : Type 0 where
  few : number ≤ most_records
  nine : length row ≡ 9
  first : number ≡ 1 → kind_field row ≡ codes "day"
  kept : ObeyAll (rules_of number row) row

IsSound-none : (number : ℕ) (row : Fields) (fault : JournalFault) → IsSound number row → IsRecordFault number row fault → ⊥
IsSound-none number row TooLong s h = h
IsSound-none number row (NotAscii offset) s h = h
IsSound-none number row TooManyRecords s h = omega (arith, s.few)
IsSound-none number row NotDay s h = h.1 (s.first h.0)
IsSound-none number row (FieldCount at) s h = h.2 s.nine
IsSound-none number row (BadField at field) s h = none_broken (rules_of number row) row field s.kept h.3
IsSound-none number row Memory s h = h

IsSound-day : (row : Fields) (periods : ℕ) → is_day periods ≡ true → row ≡ record_of_day periods → IsSound 1 row
IsSound-day row periods day e = rw e (record { few = omega arith; nine = refl; first = λ one. refl; kept = ObeyAll-day periods day })

IsSound-command : (number : ℕ) (row : Fields) (c : Command) → 1 < number → number ≤ most_records → IsCommand c → row ≡ record_of_command c
    → IsSound number row
IsSound-command number row c later few valid e =
    let test : eqb number 1 ≡ false = grind (arith, nat_tests) in
    rw e (record { few = few; nine = nine_fields c; first = λ one. absurd (omega arith); kept = rw test (ObeyAll-command c valid) })

-- each of the written records is the record of a command
record IsWritten (row : Fields) : Type 0 where
  command : Command
  valid : IsCommand command
  written : row ≡ record_of_command command

IsWritten-at : (front : List Fields) (row : Fields) (rest : List Fields) (cs : List Command) → AllByRecursion IsCommand cs
    → front ++ row ∷ rest ≡ map record_of_command cs → IsWritten row
IsWritten-at [] row rest [] valid e = absurd cc
IsWritten-at [] row rest (c ∷ cs) valid e = record { command = c; valid = valid.0; written = cc }
IsWritten-at (f ∷ front) row rest [] valid e = absurd cc
IsWritten-at (f ∷ front) row rest (c ∷ cs) valid e = IsWritten-at front row rest cs valid.1 (cc)

IsSound-at : (front : List Fields) (row : Fields) (rest : List Fields) (periods : ℕ) (cs : List Command) → is_day periods ≡ true
    → AllByRecursion IsCommand cs
    → length front + 1 ≤ most_records → front ++ row ∷ rest ≡ record_of_day periods ∷ map record_of_command cs → IsSound (length front + 1) row
IsSound-at [] row rest periods cs day valid few e = IsSound-day row periods day (cc)
IsSound-at (f ∷ front) row rest periods cs day valid few e =
    let w = IsWritten-at front row rest cs valid (cc) in
    IsSound-command (length (f ∷ front) + 1) row w.command (omega arith) few w.valid w.written

pub HasFault-none : (rows : List Fields) (fault : JournalFault) (periods : ℕ) (cs : List Command) → AreRecords rows periods cs
    → HasFault rows fault → ⊥
HasFault-none rows fault periods cs r h =
    let len : length rows ≡ length h.front + length (h.fields ∷ h.rest) = ap length h.parts ∙ length-append h.front (h.fields ∷ h.rest) in
    let few : length h.front + 1 ≤ most_records = let n = r.few in omega arith in
    IsSound-none (length h.front + 1) h.fields fault
    (IsSound-at h.front h.fields h.rest periods cs r.day r.valid few (sym h.parts ∙ r.written)) h.faulty

some_rows : (rows : List Fields) (periods : ℕ) (cs : List Command) → AreRecords rows periods cs → rows ≡ [] → ⊥
some_rows rows periods cs r e = let w = r.written in absurd cc

-- a text that is a journal has no fault but that memory ran out
pub only_memory : (text : List ℕ) (fault : JournalFault) (periods : ℕ) (cs : List Command) → IsJournalFault text fault
    → ReadsAs text periods cs → fault ≡ Memory
only_memory text TooLong periods cs h r = absurd (let s = r.short in omega arith)
only_memory text (NotAscii offset) periods cs h r = absurd (let a = r.ascii in let b = h.1 in cc)
only_memory text TooManyRecords periods cs h r = absurd (HasFault-none (records_of text) TooManyRecords periods cs r.records h.2)
only_memory text NotDay periods cs h r = absurd
    (elim h.2 [
      | inl e ↦ some_rows (records_of text) periods cs r.records e
      | inr f ↦ HasFault-none
          (records_of text) NotDay periods cs r.records f
    ])
only_memory text (FieldCount at) periods cs h r = absurd (HasFault-none (records_of text) (FieldCount at) periods cs r.records h.2)
only_memory text (BadField at field) periods cs h r = absurd (HasFault-none (records_of text) (BadField at field) periods cs r.records h.2)
only_memory text Memory periods cs h r = refl
