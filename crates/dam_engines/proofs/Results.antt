-- A book has one results text, as it is cleared in one way.
use Rattle.std.proofs.Common.{◌≡◌, ℕ, List, ap, ◌∙◌, sym}
use Rattle.dam_book.specs.Book.{BookState}
use Rattle.dam_results.specs.declared.published.PeriodResult.{PeriodResult}
use Rattle.dam_results.specs.declared.published.RowResult.{RowResult}
use Rattle.dam_results.specs.Published.{results_text}
use Rattle.dam_results.specs.Clearing.{IsClearing, IsResultsText}

same_text : (v w : ℕ) (periods days : List PeriodResult) (rows others : List RowResult) → v ≡ w → periods ≡ days → rows ≡ others
    → results_text v periods rows ≡ results_text w days others
same_text v w periods days rows others welfare day book =
    ap (λ n. results_text n periods rows) welfare ∙ ap (λ ps. results_text w ps rows) day ∙ ap (λ rs. results_text w days rs) book

pub cleared-one : ((book : BookState) (welfare other : ℕ) (periods days : List PeriodResult) (rows others : List RowResult)
    → IsClearing book welfare periods rows → IsClearing book other days others → (welfare ≡ other) × (periods ≡ days) × (rows ≡ others))
    → (book : BookState) (text other : List ℕ) → IsResultsText book text → IsResultsText book other → text ≡ other
cleared-one law book text other a b =
    let parts = law book a.0 b.0 a.1 b.1 a.2 b.2 a.3 b.3 in
    a.4 ∙ same_text a.0 b.0 a.1 b.1 a.2 b.2 parts.0 parts.1 parts.2 ∙ sym b.4
