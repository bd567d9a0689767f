-- How the books of a keeper go on by an entry.
use Rattle.std.proofs.Common.{◌≡◌, ◌++◌, ◌∷◌, [], ℕ, List, length, Option, None, Some, IfSome, slice_get, refl, sym, subst}
use Rattle.std.proofs.lemmas.Option.{IfSome_then}
use Rattle.dam_book.specs.Book.{BookState, book_after, refusal, reply_of}
use Rattle.dam_book.specs.declared.command.Entry.{Entry}
use Rattle.dam_book.specs.declared.reason.Reason.{Reason}
use Rattle.dam_gate.specs.inside.Books.{AreSteps, BooksState, LeadsTo, EarlierState}
use Rattle.dam_gate.proofs.Beginnings.{prefix_get}

pub slice_get-last : (es : List Entry) (e : Entry) → slice_get (es ++ e ∷ []) (length es) ≡ Some e
slice_get-last [] e = refl
slice_get-last (x ∷ es) e = slice_get-last es e

LeadsTo-more : (es : List Entry) (e : Entry) (s : EarlierState) (after : BookState) → LeadsTo es s after → LeadsTo (es ++ e ∷ []) s after
LeadsTo-more es e s after leads =
    record {
      entry = leads.entry;
      stands = prefix_get es (es ++ e ∷ []) s.place leads.entry (e ∷ [], refl) leads.stands;
      decided = leads.decided;
      made = leads.made;
    }

-- the books stay if an entry is added
pub AreSteps-more : (es : List Entry) (e : Entry) (b : BooksState) → AreSteps es b → AreSteps (es ++ e ∷ []) b
AreSteps-more es e b are = IfSome_then b.before are (λ s leads. LeadsTo-more es e s b.book leads)

-- they go on to the book after its command
pub AreSteps-next : (es : List Entry) (e : Entry) (b now : BooksState) (place : ℕ) (outcome : Option Reason) → length es ≡ place
    → outcome ≡ refusal b.book e.command → now.book ≡ book_after b.book e.command
    → now.before ≡ Some (record { book = b.book; place = place; outcome = outcome }) → AreSteps (es ++ e ∷ []) now
AreSteps-next es e b now place outcome at decided made before =
    let all = es ++ e ∷ [] in
    let earlier : EarlierState = record { book = b.book; place = place; outcome = outcome } in
    let last : slice_get all place ≡ Some e = subst (λ (n : ℕ). slice_get all n ≡ Some e) at (slice_get-last es e) in
    let to_now : LeadsTo all earlier now.book = record { entry = e; stands = last; decided = decided; made = sym made } in
    subst (λ (o : Option EarlierState). IfSome o (λ s. LeadsTo all s now.book)) (sym before) to_now

-- one reply comes of one reason
pub same_reason : (a b : Option Reason) → reply_of a ≡ reply_of b → a ≡ b
same_reason None None e = refl
same_reason None (Some b) e = absurd (cc)
same_reason (Some a) None e = absurd (cc)
same_reason (Some a) (Some b) e = cc
