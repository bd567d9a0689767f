-- What a desk wrote, and what its file opens to.
use Rattle.std.proofs.Common.{◌≡◌, ◌⊎◌, inl, inr, List, ℕ, suc, ◌+◌, ◌-◌, ◌^◌, ◌<◌, min, [], ◌∷◌, ◌++◌, Option, IfSome, IsTrue, false, length, take, refl, sym, ap, ◌∙◌, subst, append_assoc, append-nil, length-append, arith}
use Rattle.std.specs.Io.KnownBytes.{Appends, Consumes, IsAtEnd}
use Rattle.std.proofs.KnownBytes.{Appends-nil, Appends-trans, Consumes-trans, Consumes-whole}
use Rattle.sqlite_disk.specs.declared.Disk.{Ghosts}
use Rattle.dam_store.specs.FileLines.{HaveNoNewline, StandsForEither, has_byte, text_of}
use Rattle.dam_store.specs.Store.{IsSafe, disk_of, held_lines}
use Rattle.dam_store.specs.declared.fault.StoreFault.{StoreFault}
use Rattle.dam_store.specs.declared.store.Store.{Store}
use Rattle.dam_desk.specs.DeskJournal.{JournalContent, DeskState, AreLines, OpensTo, ReadsBack, desk_journal_text, next}
use Rattle.dam_desk.specs.Desk.{DeskHasAnswered, Finishes, IsDesk, IsEnding, LinesAreAnswered, MayLeave, OpensAfter, Served, end_answer}
use Rattle.dam_desk.specs.Faults.{IsWritingFault, SaysCount, fault_after, of_store}
use Rattle.dam_desk.specs.declared.desk.Desk.{Desk}
use Rattle.dam_desk.specs.declared.fault.DeskFault.{DeskFault}
use Rattle.dam_desk.specs.declared.fault.DeskFault.TheVariants.{File, OwnOutput, Store as Stores, NotAJournal, Respelled, Read, Write, Memory}
use Rattle.dam_desk.specs.inside.Intake.{HasRead}
use Rattle.dam_desk.specs.declared.intake.Intake.{Intake}
use Rattle.dam_desk.proofs.Cases.{by_store, by_writing}
use Rattle.dam_desk.proofs.Runs.{answers_both}
use Rattle.dam_desk.proofs.Texts.{all_both, text_more}

-- a sum that 64 bits hold isn't cut
after_count : (before part printed written : ℕ) → printed ≡ before → written ≡ part → before + part < 2 ^ 64
    → min (printed + written) (2 ^ 64 - 1) ≡ before + part
after_count before part printed written one other small =
    omega (arith, one, other, small)

pub store_counted : (count : ℕ) (fault : StoreFault) → SaysCount count (of_store fault)
store_counted count fault = by_store (λ why told. SaysCount count told) tt (λ why other. tt) fault

-- the fault of a part says how much of the whole was taken
pub counted_after : (before part printed : ℕ) (fault : DeskFault) → (before < 2 ^ 64 → printed ≡ before) → SaysCount part fault
    → SaysCount (before + part) (fault_after printed fault)
counted_after before part printed (Write written) so_far counted =
    λ small. after_count before part printed written (so_far (omega arith)) (counted (omega arith)) small
counted_after before part printed (File why) so_far counted = tt
counted_after before part printed OwnOutput so_far counted = tt
counted_after before part printed (Stores why) so_far counted = tt
counted_after before part printed (NotAJournal why) so_far counted = tt
counted_after before part printed Respelled so_far counted = tt
counted_after before part printed Read so_far counted = tt
counted_after before part printed Memory so_far counted = tt

-- nothing was taken
pub served_none : (state : DeskState) (given first : List ℕ) (why : DeskFault) (old : Option (List ℕ)) (outcomes : List ℕ → Type 0)
    → SaysCount 0 why → ((file : List ℕ) → outcomes file → OpensTo state.journal file) → Served state given first why old old outcomes
served_none state given first why old outcomes counted opens = record {
  safe = [];
  others = [];
  lines = record { rest = given; split = refl; whole = tt };
  whole = inl refl;
  answers = [];
  middle = state;
  answered = (refl, refl);
  later = [];
  last = state;
  unanswered = (refl, refl);
  ending = [];
  ends = inl refl;
  count = 0;
  written = Appends-nil old;
  counted = counted;
  crash = λ file may. inl (opens file may);
}

-- the lines were read, and their records may be in the file
pub served_pending : (intake : Intake) (state : DeskState) (given : List ℕ) (why : DeskFault) (old : Option (List ℕ)) (outcomes : List ℕ → Type 0)
    → SaysCount 0 why → (read : HasRead intake state given []) → ((file : List ℕ) → outcomes file → OpensTo state.journal file ⊎ OpensTo read.last.journal file)
    → Served state given [] why old old outcomes
served_pending intake state given why old outcomes counted read opens = record {
  safe = [];
  others = read.lines;
  lines = record { rest = read.begun ++ []; split = read.split; whole = read.whole };
  whole = inr (record {
    split = read.split;
    whole = read.whole;
    unended = ap (λ (b : List ℕ). has_byte 10 b) (append-nil read.begun) ∙ read.now.unended;
  });
  answers = [];
  middle = state;
  answered = (refl, refl);
  later = intake.answers.items;
  last = read.last;
  unanswered = read.answers;
  ending = [];
  ends = inl refl;
  count = 0;
  written = Appends-nil old;
  counted = counted;
  crash = opens;
}

-- their records are safe, and some of the answers were written
pub served_written : (intake : Intake) (state : DeskState) (given : List ℕ) (why : DeskFault) (old new : Option (List ℕ)) (outcomes : List ℕ → Type 0)
    (count : ℕ) → SaysCount count why → (read : HasRead intake state given []) → Appends old new (take count intake.answers.items)
    → ((file : List ℕ) → outcomes file → OpensTo read.last.journal file) → Served state given [] why old new outcomes
served_written intake state given why old new outcomes count counted read written opens = record {
  safe = read.lines;
  others = [];
  lines = record {
    rest = read.begun ++ [];
    split = read.split ∙ ap (λ (ls : List (List ℕ)). text_of ls ++ (read.begun ++ [])) (sym (append-nil read.lines));
    whole = subst HaveNoNewline (sym (append-nil read.lines)) read.whole;
  };
  whole = inl refl;
  answers = intake.answers.items;
  middle = read.last;
  answered = read.answers;
  later = [];
  last = read.last;
  unanswered = (refl, refl);
  ending = [];
  ends = inl refl;
  count = count;
  written = subst (Appends old new) (ap (take count) (sym (append-nil intake.answers.items))) written;
  counted = counted;
  crash = λ file may. inl (opens file may);
}

take_past : (front back : List ℕ) (count : ℕ) → take (length front + count) (front ++ back) ≡ front ++ take count back
take_past [] back count = let same : 0 + count ≡ count = omega arith in ap (λ (k : ℕ). take k back) same
take_past (b ∷ front) back count =
    let more : suc (length front) + count ≡ suc (length front + count) = omega arith in
    ap (λ (k : ℕ). take k (b ∷ (front ++ back))) more ∙ ap (λ (l : List ℕ). b ∷ l) (take_past front back count)

-- the lines of two parts of the bytes
split_more : (given bytes : List ℕ) (lines more : List (List ℕ)) (begun rest : List ℕ) → given ≡ text_of lines ++ begun
    → begun ++ bytes ≡ text_of more ++ rest → given ++ bytes ≡ text_of (lines ++ more) ++ rest
split_more given bytes lines more begun rest first then =
    ap (λ (t : List ℕ). t ++ bytes) first ∙ append_assoc (text_of lines) begun bytes ∙ ap (λ (t : List ℕ). text_of lines ++ t) then
    ∙ sym (append_assoc (text_of lines) (text_of more) rest) ∙ ap (λ (t : List ℕ). t ++ rest) (sym (text_more lines more))

lines_both : (given bytes : List ℕ) (lines more : List (List ℕ)) (begun rest : List ℕ) → AreLines given lines begun
    → AreLines (begun ++ bytes) more rest → AreLines (given ++ bytes) (lines ++ more) rest
lines_both given bytes lines more begun rest first then = record {
  split = split_more given bytes lines more begun rest first.split then.split;
  whole = all_both (λ line. has_byte 10 line ≡ false) lines more first.whole then.whole;
  unended = then.unended;
}

-- all lines that end in the bytes were read
pub opens_after : (intake : Intake) (state : DeskState) (given file : List ℕ) → (read : HasRead intake state given [])
    → OpensTo read.last.journal file → OpensAfter state given file
opens_after intake state given file read opens = record {
  lines = read.lines;
  begun = read.begun;
  split = record {
    split = read.split ∙ ap (λ (t : List ℕ). text_of read.lines ++ t) (append-nil read.begun);
    whole = read.whole;
    unended = read.now.unended;
  };
  answers = intake.answers.items;
  last = read.last;
  answered = read.answers;
  opens = opens;
}

pub opens_batch : (intake : Intake) (state : DeskState) (given file : List ℕ) → (read : HasRead intake state given [])
    → OpensTo state.journal file ⊎ OpensTo read.last.journal file → OpensTo state.journal file ⊎ OpensAfter state given file
opens_batch intake state given file read (inl before) = inl before
opens_batch intake state given file read (inr after) = inr (opens_after intake state given file read after)

-- all lines that came in are answered
pub answered_so_far : {D : Type 0} {g : Ghosts D} (desk : Desk D g) (state : DeskState) (given first : List ℕ) (old new : Option (List ℕ))
    → DeskHasAnswered desk state given first old new → LinesAreAnswered state given first old new (MayLeave desk)
answered_so_far desk state given first old new taken = record {
  lines = taken.lines;
  begun = taken.begun;
  split = taken.split;
  answers = taken.answers;
  last = taken.last;
  answered = taken.answered;
  written = taken.written;
  safe = taken.safe;
}

-- before any line
pub takes_start : {D : Type 0} {g : Ghosts D} (desk : Desk D g) (state : DeskState) (begun first : List ℕ) (old new : Option (List ℕ))
    → IsDesk desk state begun → ((file : List ℕ) → MayLeave desk file → OpensTo state.journal file) → Appends old new first
    → DeskHasAnswered desk state (begun ++ []) first old new
takes_start desk state begun first old new is opens written = record {
  lines = [];
  begun = begun;
  split = record { split = append-nil begun; whole = tt; unended = is.intake.unended };
  answers = [];
  last = state;
  answered = (refl, refl);
  written = subst (Appends old new) (sym (append-nil first)) written;
  now = is;
  safe = opens;
}

-- the next bytes
pub takes_more : {D : Type 0} {g : Ghosts D} (desk later : Desk D g) (state : DeskState) (given bytes first : List ℕ) (old mid new : Option (List ℕ))
    → (taken : DeskHasAnswered desk state given first old mid) → DeskHasAnswered later taken.last (taken.begun ++ bytes) [] mid new
    → DeskHasAnswered later state (given ++ bytes) first old new
takes_more desk later state given bytes first old mid new taken then = record {
  lines = taken.lines ++ then.lines;
  begun = then.begun;
  split = lines_both given bytes taken.lines then.lines taken.begun then.begun taken.split then.split;
  answers = taken.answers ++ then.answers;
  last = then.last;
  answered = answers_both state taken.lines taken.answers taken.last then.lines then.answers then.last taken.answered then.answered;
  written = subst (Appends old new) (append_assoc first taken.answers then.answers)
      (Appends-trans old mid new (first ++ taken.answers) then.answers taken.written then.written);
  now = then.now;
  safe = then.safe;
}

-- the same, and this is how many bytes were written of the first text and the answers, if 64 bits hold that
pub record TakesAll {D : Type 0} {g : Ghosts D} (desk : Desk D g) (state : DeskState) (given first : List ℕ) (printed : ℕ)
    (old new : Option (List ℕ)) : Type 0 where
  pub takes : DeskHasAnswered desk state given first old new
  pub count : length (first ++ takes.answers) < 2 ^ 64 → printed ≡ length (first ++ takes.answers)

pub all_start : {D : Type 0} {g : Ghosts D} (desk : Desk D g) (state : DeskState) (begun first : List ℕ) (printed : ℕ) (old new : Option (List ℕ))
    → IsDesk desk state begun → ((file : List ℕ) → MayLeave desk file → OpensTo state.journal file) → Appends old new first
    → printed ≡ length first → TakesAll desk state (begun ++ []) first printed old new
unfolding takes_start
all_start desk state begun first printed old new is opens written same = record {
  takes = takes_start desk state begun first old new is opens written;
  count = λ small. same ∙ ap length (sym (append-nil first));
}

pub all_more : {D : Type 0} {g : Ghosts D} (desk later : Desk D g) (state : DeskState) (given bytes first : List ℕ) (printed count next : ℕ)
    (old mid new : Option (List ℕ)) → (taken : TakesAll desk state given first printed old mid)
    → (then : DeskHasAnswered later taken.takes.last (taken.takes.begun ++ bytes) [] mid new) → count ≡ length then.answers
    → next ≡ min (printed + count) (2 ^ 64 - 1) → TakesAll later state (given ++ bytes) first next old new
unfolding takes_more
all_more desk later state given bytes first printed count next old mid new taken then same sum = record {
  takes = takes_more desk later state given bytes first old mid new taken.takes then;
  count = λ small.
      let front = first ++ taken.takes.answers in
      let split : length (first ++ (taken.takes.answers ++ then.answers)) ≡ length front + length then.answers =
      ap length (sym (append_assoc first taken.takes.answers then.answers)) ∙ length-append front then.answers in
      let fits : length front + length then.answers < 2 ^ 64 = omega (arith, split, small) in
      sum ∙ after_count (length front) (length then.answers) printed count (taken.count (omega (arith, fits))) same fits ∙ sym split;
}

ending_more : (given bytes : List ℕ) (lines more : List (List ℕ)) (begun : List ℕ) (state : DeskState) (text : List ℕ) → AreLines given lines begun
    → IsEnding (begun ++ bytes) more state text → IsEnding (given ++ bytes) (lines ++ more) state text
ending_more given bytes lines more begun state text first (inl none) = inl none
ending_more given bytes lines more begun state text first (inr end) =
    inr (end.0, lines_both given bytes lines more begun end.0 first end.1, end.2)

whole_more : (given bytes : List ℕ) (lines safe others : List (List ℕ)) (begun rest : List ℕ) → AreLines given lines begun
    → (others ≡ []) ⊎ AreLines (begun ++ bytes) (safe ++ others) rest
    → (others ≡ []) ⊎ AreLines (given ++ bytes) ((lines ++ safe) ++ others) rest
whole_more given bytes lines safe others begun rest first (inl none) = inl none
whole_more given bytes lines safe others begun rest first (inr all) =
    inr (subst (λ (ls : List (List ℕ)). AreLines (given ++ bytes) ls rest) (sym (append_assoc lines safe others))
    (lines_both given bytes lines (safe ++ others) begun rest first all))

-- the next bytes, in which a fault ended the desk
pub served_more : {D : Type 0} {g : Ghosts D} (desk : Desk D g) (state : DeskState) (given bytes first : List ℕ) (old mid new : Option (List ℕ))
    (outcomes : List ℕ → Type 0) (why : DeskFault) (printed : ℕ) → (taken : DeskHasAnswered desk state given first old mid)
    → (length (first ++ taken.answers) < 2 ^ 64 → printed ≡ length (first ++ taken.answers))
    → Served taken.last (taken.begun ++ bytes) [] why mid new outcomes
    → Served state (given ++ bytes) first (fault_after printed why) old new outcomes
served_more desk state given bytes first old mid new outcomes why printed taken so_far then =
    let front = first ++ taken.answers in
    let back = then.answers ++ then.ending in
    record {
      safe = taken.lines ++ then.safe;
      others = then.others;
      lines = record {
        rest = then.lines.rest;
        split = split_more given bytes taken.lines (then.safe ++ then.others) taken.begun then.lines.rest taken.split.split then.lines.split
            ∙ ap (λ (ls : List (List ℕ)). text_of ls ++ then.lines.rest) (sym (append_assoc taken.lines then.safe then.others));
        whole = subst HaveNoNewline (sym (append_assoc taken.lines then.safe then.others))
            (all_both (λ line. has_byte 10 line ≡ false) taken.lines (then.safe ++ then.others) taken.split.whole then.lines.whole);
      };
      whole = whole_more given bytes taken.lines then.safe then.others taken.begun then.lines.rest taken.split then.whole;
      answers = taken.answers ++ then.answers;
      middle = then.middle;
      answered = answers_both state taken.lines taken.answers taken.last then.safe then.answers then.middle taken.answered then.answered;
      later = then.later;
      last = then.last;
      unanswered = then.unanswered;
      ending = then.ending;
      ends = ending_more given bytes taken.lines then.safe taken.begun then.middle then.ending taken.split then.ends;
      count = length front + then.count;
      written = subst (Appends old new)
          (sym (take_past front back then.count)
          ∙ ap (take (length front + then.count)) (append_assoc first taken.answers back
          ∙ ap (λ (t : List ℕ). first ++ t) (sym (append_assoc taken.answers then.answers then.ending))))
          (Appends-trans old mid new front (take then.count back) taken.written then.written);
      counted = counted_after (length front) then.count printed why so_far then.counted;
      crash = then.crash;
    }

-- a fault of the input, or of the line in which it ended
pub served_so_far : {D : Type 0} {g : Ghosts D} (desk : Desk D g) (state : DeskState) (given first : List ℕ) (old mid new : Option (List ℕ))
    (why : DeskFault) (count : ℕ) → (taken : DeskHasAnswered desk state given first old mid) → SaysCount (length (first ++ taken.answers) + count) why
    → (ending : List ℕ) → IsEnding given taken.lines taken.last ending → Appends mid new (take count ending)
    → Served state given first why old new (MayLeave desk)
served_so_far desk state given first old mid new why count taken counted ending ends written =
    let front = first ++ taken.answers in
    record {
      safe = taken.lines;
      others = [];
      lines = record {
        rest = taken.begun;
        split = taken.split.split ∙ ap (λ (ls : List (List ℕ)). text_of ls ++ taken.begun) (sym (append-nil taken.lines));
        whole = subst HaveNoNewline (sym (append-nil taken.lines)) taken.split.whole;
      };
      whole = inl refl;
      answers = taken.answers;
      middle = taken.last;
      answered = taken.answered;
      later = [];
      last = taken.last;
      unanswered = (refl, refl);
      ending = ending;
      ends = ends;
      count = length front + count;
      written = subst (Appends old new)
          (sym (take_past front ending count) ∙ ap (take (length front + count)) (append_assoc first taken.answers ending))
          (Appends-trans old mid new front (take count ending) taken.written written);
      counted = counted;
      crash = λ file may. inl (taken.safe file may);
    }

-- a fault of the writer at the first text
pub served_first : {D : Type 0} {g : Ghosts D} (desk : Desk D g) (state : DeskState) (begun first : List ℕ) (why : DeskFault) (old new : Option (List ℕ))
    (count : ℕ) → SaysCount count why → ((file : List ℕ) → MayLeave desk file → OpensTo state.journal file) → Appends old new (take count first)
    → Served state (begun ++ []) first why old new (MayLeave desk)
served_first desk state begun first why old new count counted opens written = record {
  safe = [];
  others = [];
  lines = record { rest = begun ++ []; split = refl; whole = tt };
  whole = inl refl;
  answers = [];
  middle = state;
  answered = (refl, refl);
  later = [];
  last = state;
  unanswered = (refl, refl);
  ending = [];
  ends = inl refl;
  count = count;
  written = subst (Appends old new) (ap (take count) (sym (append-nil first))) written;
  counted = counted;
  crash = λ file may. inl (opens file may);
}

-- the end of the input
pub finishes : {D : Type 0} {g : Ghosts D} (desk : Desk D g) (state : DeskState) (given first : List ℕ) (old mid new : Option (List ℕ))
    → (taken : DeskHasAnswered desk state given first old mid) → Appends mid new (end_answer (next taken.last.answered) taken.begun)
    → Finishes state given first old new (MayLeave desk)
finishes desk state given first old mid new taken written =
    let ending = end_answer (next taken.last.answered) taken.begun in
    record {
      lines = taken.lines;
      begun = taken.begun;
      split = taken.split;
      answers = taken.answers;
      last = taken.last;
      answered = taken.answered;
      written = subst (Appends old new) (append_assoc first taken.answers ending)
          (Appends-trans old mid new (first ++ taken.answers) ending taken.written written);
      safe = taken.safe;
    }

-- a fault of the writer comes after some of the text, and says after how much
pub written_fault : (old new : Option (List ℕ)) (text : List ℕ) (fault : DeskFault) → IsWritingFault old new text fault
    → (count : ℕ) × Appends old new (take count text) × SaysCount count fault
written_fault old new text fault is =
    by_writing old new text (λ told. (count : ℕ) × Appends old new (take count text) × SaysCount count told) (λ written front. (written, front.1, λ small. refl))
    fault is

-- every file that a crash leaves stands for the store's lines, which are the journal's text
pub opens_store : {D : Type 0} {g : Ghosts D} (store : Store D g) (journal : Option JournalContent) → ReadsBack journal
    → (IsTrue (g.is_clean (disk_of store)) → text_of (held_lines store) ≡ desk_journal_text journal)
    → (IsTrue (g.is_clean (disk_of store)) → IsSafe store) → (file : List ℕ)
    → IsTrue (g.is_clean (disk_of store)) × g.may_leave (disk_of store) file → OpensTo journal file
opens_store store journal reads text safe file may = (held_lines store, (safe may.0).crash file may.1, text may.0, reads)

opens_one : (lines batch : List (List ℕ)) (before after : Option JournalContent) (file : List ℕ) → ReadsBack before → ReadsBack after → text_of lines ≡ desk_journal_text before
    → text_of (lines ++ batch) ≡ desk_journal_text after → StandsForEither lines batch file → OpensTo before file ⊎ OpensTo after file
opens_one lines batch before after file reads also old new (inl stands) = inl (lines, stands, old, reads)
opens_one lines batch before after file reads also old new (inr stands) = inr (lines ++ batch, stands, new, also)

-- the text of the lines with those of a batch
pub with_batch : (lines batch : List (List ℕ)) (entered : List ℕ) (before after : Option JournalContent) → text_of lines ≡ desk_journal_text before
    → text_of batch ≡ entered → desk_journal_text before ++ entered ≡ desk_journal_text after → text_of (lines ++ batch) ≡ desk_journal_text after
with_batch lines batch entered before after old new is =
    text_more lines batch ∙ ap (λ (t : List ℕ). t ++ text_of batch) old ∙ ap (λ (t : List ℕ). desk_journal_text before ++ t) new ∙ is

-- the store's lines are the old ones, and maybe those of the batch
pub opens_either : {D : Type 0} {g : Ghosts D} (old new : Store D g) (batch : List (List ℕ)) (entered : List ℕ) (before after : Option JournalContent)
    → ReadsBack before → ReadsBack after
    → g.is_clean (disk_of new) ≡ g.is_clean (disk_of old) → (IsTrue (g.is_clean (disk_of old)) → text_of (held_lines old) ≡ desk_journal_text before)
    → text_of batch ≡ entered → desk_journal_text before ++ entered ≡ desk_journal_text after
    → (IsTrue (g.is_clean (disk_of new)) → (file : List ℕ) → g.may_leave (disk_of new) file → StandsForEither (held_lines old) batch file)
    → (file : List ℕ) → IsTrue (g.is_clean (disk_of new)) × g.may_leave (disk_of new) file → OpensTo before file ⊎ OpensTo after file
opens_either old new batch entered before after reads also same text is grown stands file may =
    let was = text (sym same ∙ may.0) in
    opens_one (held_lines old) batch before after file reads also was (with_batch (held_lines old) batch entered before after was is grown)
    (stands may.0 file may.1)

-- the store's lines have grown by the batch
pub store_grown : {D : Type 0} {g : Ghosts D} (old new : Store D g) (batch : List (List ℕ)) (entered : List ℕ) (before after : Option JournalContent)
    → g.is_clean (disk_of new) ≡ g.is_clean (disk_of old) → (IsTrue (g.is_clean (disk_of old)) → text_of (held_lines old) ≡ desk_journal_text before)
    → text_of batch ≡ entered → desk_journal_text before ++ entered ≡ desk_journal_text after
    → (IsTrue (g.is_clean (disk_of new)) → held_lines new ≡ held_lines old ++ batch)
    → IsTrue (g.is_clean (disk_of new)) → text_of (held_lines new) ≡ desk_journal_text after
store_grown old new batch entered before after same text is grown appended clean =
    ap text_of (appended clean) ∙ with_batch (held_lines old) batch entered before after (text (sym same ∙ clean)) is grown

-- a read of no bytes at the end of the input
pub nothing_more : (old mid new : Option (List ℕ)) (given buffer : List ℕ) (count : ℕ) → Consumes old mid given → Consumes mid new (take count buffer)
    → count ≡ 0 → Consumes old new given
nothing_more old mid new given buffer count before last none =
    subst (λ (bytes : List ℕ). Consumes old new bytes) (append-nil given)
    (Consumes-trans old mid new given (take 0 buffer) before (subst (λ (n : ℕ). Consumes mid new (take n buffer)) none last))

pub all_given : (old mid new : Option (List ℕ)) (given buffer : List ℕ) (count : ℕ) → Consumes old mid given → Consumes mid new (take count buffer)
    → count ≡ 0 → IsAtEnd new → IfSome old (λ bytes. bytes ≡ given)
all_given old mid new given buffer count before last none ended =
    Consumes-whole old new given (λ (bytes : List ℕ). bytes ≡ given) (nothing_more old mid new given buffer count before last none) ended refl
