-- No history loses a line that is sure.
use Rattle.std.proofs.Common.{◌≡◌, inl, inr, List, ℕ, [], ◌∷◌, ◌++◌, refl, sym, ap, ◌∙◌, append_assoc}
use Rattle.std.proofs.lemmas.List.{append-nil}
use Rattle.dam_store.specs.StoreHistory.{Known, Event, Opened, Unopened, Appended, Unfinished, IsStoreHistory, IsPossible, AreGiven}

-- the lines that are sure in the end: those that were possible at first, and then lines that were given
pub record IsKept (known : Known) (events : List Event) (lines : List (List ℕ)) : Type 0 where
  pub first : List (List ℕ)
  pub more : List (List ℕ)
  pub possible : IsPossible known first
  pub split : lines ≡ first ++ more
  pub given : AreGiven events more

-- from one state of the store to the next
only_sure : (lines first : List (List ℕ)) → IsPossible (record { sure = lines; pending = [] }) first → first ≡ lines
only_sure lines first (inl is) = is
only_sure lines first (inr is) = is ∙ append-nil lines

pub history_keeps : (events : List Event) (known last : Known) → IsStoreHistory known events last → IsKept known events last.sure
history_keeps [] known last history = record {
  first = known.sure;
  more = [];
  possible = inl refl;
  split = ap
      (λ (k : Known). k.sure) history ∙ sym (append-nil known.sure);
  given = refl;
}
history_keeps (Opened lines ∷ events) known last history =
    let kept = history_keeps events (record { sure = lines; pending = [] }) last history.1 in
    let is = only_sure lines kept.first kept.possible in
    record {
      first = lines;
      more = kept.more;
      possible = history.0;
      split = kept.split
          ∙ ap (λ (ls : List (List ℕ)). ls ++ kept.more) is;
      given = kept.given;
    }
history_keeps (Unopened ∷ events) known last history =
    let kept = history_keeps events known last history in
    record { first = kept.first; more = kept.more; possible = kept.possible; split = kept.split; given = kept.given }
history_keeps (Appended batch ∷ events) known last history =
    let kept = history_keeps events (record { sure = known.sure ++ batch; pending = [] }) last history.1 in
    let is = only_sure (known.sure ++ batch) kept.first kept.possible in
    record {
      first = known.sure;
      more = batch ++ kept.more;
      possible = inl refl;
      split = kept.split ∙ ap (λ (ls : List (List ℕ)). ls ++ kept.more) is ∙ append_assoc known.sure batch kept.more;
      given = (kept.more, refl, kept.given);
    }
history_keeps (Unfinished batch ∷ events) known last history =
    let kept = history_keeps events (record { sure = known.sure; pending = batch }) last history.1 in
    unfinished batch events known last kept.first kept.more kept.possible kept.split kept.given
  where
    unfinished : (batch : List (List ℕ)) (events : List Event) (known last : Known) (first more : List (List ℕ))
        → IsPossible (record { sure = known.sure; pending = batch }) first → last.sure ≡ first ++ more → AreGiven events more
        → IsKept known (Unfinished batch ∷ events) last.sure
    unfinished batch events known last first more (inl is) split given = record { first = known.sure; more = more; possible = inl refl; split = split ∙ ap (λ (ls : List (List ℕ)). ls ++ more) is; given = inl given }
    unfinished batch events known last first more (inr is) split given = record {
      first = known.sure;
      more = batch ++ more;
      possible = inl refl;
      split = split ∙ ap (λ (ls : List (List ℕ)). ls ++ more) is ∙ append_assoc known.sure batch more;
      given = inr (more, refl, given);
    }

pub nothing_lost : (events : List Event) (known last : Known) → known.pending ≡ [] → IsStoreHistory known events last
    → (more : List (List ℕ)) × (last.sure ≡ known.sure ++ more) × AreGiven events more
nothing_lost events known last none history =
    let kept = history_keeps events known last history in
    (kept.more, kept.split ∙ ap (λ (ls : List (List ℕ)). ls ++ kept.more) (first_is known kept.first none kept.possible), kept.given)
  where
    first_is : (known : Known) (first : List (List ℕ)) → known.pending ≡ [] → IsPossible known first → first ≡ known.sure
    first_is known first none (inl is) = is
    first_is known first none (inr is) = is ∙ ap (λ (ls : List (List ℕ)). known.sure ++ ls) none ∙ append-nil known.sure
