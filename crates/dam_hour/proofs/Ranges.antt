-- Steps in range, one by one.
use Rattle.dam_hour.proofs.Common.{List, [], ◌∷◌, ◌++◌, IsPrice, Step, AreInRange}
use Rattle.dam_book.specs.Quantity.{IsQuantity}

pub in_range_push : (ss : List Step) (s : Step) → AreInRange ss → IsPrice s.price → IsQuantity s.qty → AreInRange (ss ++ s ∷ [])
in_range_push [] s r p q = (p, q, tt)
in_range_push (t ∷ ss) s r p q = (r.0, r.1, in_range_push ss s r.2 p q)
