-- The execution that a price supports and that comes last in book order: the better steps have their whole volume, and
-- the steps at the price are filled in book order.
use Rattle.dam_hour.proofs.Common.{◌≡◌, ℕ, zero, suc, min, ◌+◌, ◌-◌, ◌<◌, ◌≤◌, ℤ, pos, negsuc, ◌<ℤ◌, List, [], ◌∷◌, Some, None, take, ap, ◌∙◌, refl, arith}
use Rattle.dam_hour.proofs.Common.{slice_get, ints, Side, Buy, Sell, Step, IsExecution, executed_volume, offered_volume, volume_on, AtMostInOrder, Supports}
use Rattle.dam_hour.proofs.Common.{margin_of, if_better, if_at, better_volume, at_volume, share, volumes_in_turn}
use Rattle.dam_hour.proofs.Numbers.{margin_better, margin_worse, better_margin, worse_margin}

-- the executed volume of one side at the price
abbrev pub taken : Side → ℤ → List Step → List ℕ → ℕ
taken side p (s ∷ ss) (x ∷ xs) = volume_on side s.side (if_at (margin_of s.side s.price p) x) + taken side p ss xs
taken side p _ _ = 0

-- ---- one side's volumes
pub volume_on_sum : (side own : Side) (x y z : ℕ) → x ≡ y + z → volume_on side own x ≡ volume_on side own y + volume_on side own z
volume_on_sum Buy Buy x y z e = e
volume_on_sum Sell Sell x y z e = e
volume_on_sum Buy Sell x y z e = omega arith
volume_on_sum Sell Buy x y z e = omega arith

pub volume_on_le : (side own : Side) (x y : ℕ) → x ≤ y → volume_on side own x ≤ volume_on side own y
volume_on_le Buy Buy x y h = h
volume_on_le Sell Sell x y h = h
volume_on_le Buy Sell x y h = omega arith
volume_on_le Sell Buy x y h = omega arith

-- ---- any execution that the price supports
part_of : (m : ℤ) (x q : ℕ) → (pos 0 <ℤ m → x ≡ q) → (m <ℤ pos 0 → x ≡ 0) → x ≡ if_better m q + if_at m x
part_of (pos zero) x q f g = omega arith
part_of (pos (suc n)) x q f g = let e = f (omega (arith, ints)) in omega arith
part_of (negsuc n) x q f g = let e = g (omega (arith, ints)) in omega arith

pub supported_split : (side : Side) (p : ℤ) (ss : List Step) (xs : List ℕ) → IsExecution ss xs → Supports p ss xs
    → executed_volume side ss xs ≡ better_volume side p ss + taken side p ss xs
supported_split side p [] [] e h = refl
supported_split side p [] (x ∷ xs) e h = absurd e
supported_split side p (s ∷ ss) [] e h = absurd e
supported_split side p (s ∷ ss) (x ∷ xs) e h =
    let m = margin_of s.side s.price p in
    let part = part_of m x s.qty (λ l. h.0 (better_margin s.side s.price p l)) (λ l. h.1 (worse_margin s.side s.price p l)) in
    let here = volume_on_sum side s.side x (if_better m s.qty) (if_at m x) part in
    let rest = supported_split side p ss xs e.1 h.2 in
    omega (arith, here, rest)

if_at_le : (m : ℤ) (x q : ℕ) → x ≤ q → if_at m x ≤ if_at m q
if_at_le (pos zero) x q h = h
if_at_le (pos (suc n)) x q h = omega arith
if_at_le (negsuc n) x q h = omega arith

pub taken_at_most : (side : Side) (p : ℤ) (ss : List Step) (xs : List ℕ) → IsExecution ss xs → taken side p ss xs ≤ at_volume side p ss
taken_at_most side p [] [] e = omega arith
taken_at_most side p [] (x ∷ xs) e = absurd e
taken_at_most side p (s ∷ ss) [] e = absurd e
taken_at_most side p (s ∷ ss) (x ∷ xs) e =
    let m = margin_of s.side s.price p in
    let here = volume_on_le side s.side (if_at m x) (if_at m s.qty) (if_at_le m x s.qty e.0) in
    let rest = taken_at_most side p ss xs e.1 in
    omega (arith, here, rest)

pub executed_at_most : (side : Side) (ss : List Step) (xs : List ℕ) → IsExecution ss xs
    → executed_volume side ss xs ≤ offered_volume side ss
executed_at_most side [] [] e = omega arith
executed_at_most side [] (x ∷ xs) e = absurd e
executed_at_most side (s ∷ ss) [] e = absurd e
executed_at_most side (s ∷ ss) (x ∷ xs) e =
    let here = volume_on_le side s.side x s.qty e.0 in
    let rest = executed_at_most side ss xs e.1 in
    omega (arith, here, rest)

-- ---- the filled execution
share_fits : (m : ℤ) (q left : ℕ) → share m q left ≤ q
share_fits (pos zero) q left = omega arith
share_fits (pos (suc n)) q left = omega arith
share_fits (negsuc n) q left = omega arith

pub fill_fits : (p : ℤ) (ss : List Step) (left : Side → ℕ) → IsExecution ss (volumes_in_turn p ss left)
fill_fits p [] left = tt
fill_fits p (s ∷ ss) left = (share_fits (margin_of s.side s.price p) s.qty (left s.side), fill_fits p ss _)

share_better : (m : ℤ) (q left : ℕ) → pos 0 <ℤ m → share m q left ≡ q
share_better (pos zero) q left l = let no : 0 < 0 = omega (arith, ints) in omega (arith, no)
share_better (pos (suc n)) q left l = refl
share_better (negsuc n) q left l = let no : 0 < 0 = omega (arith, ints) in omega (arith, no)

share_worse : (m : ℤ) (q left : ℕ) → m <ℤ pos 0 → share m q left ≡ 0
share_worse (pos n) q left l = let no : 0 < 0 = omega (arith, ints) in omega (arith, no)
share_worse (negsuc n) q left l = refl

pub fill_supported : (p : ℤ) (ss : List Step) (left : Side → ℕ) → Supports p ss (volumes_in_turn p ss left)
fill_supported p [] left = tt
fill_supported p (s ∷ ss) left = (
  (λ b. share_better (margin_of s.side s.price p) s.qty (left s.side) (margin_better s.side s.price p b)),
  (λ w. share_worse (margin_of s.side s.price p) s.qty (left s.side) (margin_worse s.side s.price p w)),
  fill_supported p ss _,
)

-- the volume that is left pays the shares in turn
share_total : (m : ℤ) (q left a b e : ℕ) → e ≡ b + min a (left - if_at m q)
    → share m q left + e ≡ (if_better m q + b) + min (if_at m q + a) left
share_total (pos zero) q left a b e h = omega arith
share_total (pos (suc n)) q left a b e h = omega arith
share_total (negsuc n) q left a b e h = omega arith

pub fill_total_step : (side own : Side) (m : ℤ) (q a b e : ℕ) (left : Side → ℕ) → e ≡ b + min a (left side - volume_on side own (if_at m q))
    → volume_on side own (share m q (left own)) + e ≡ (volume_on side own (if_better m q) + b)
    + min (volume_on side own (if_at m q) + a) (left side)
fill_total_step Buy Buy m q a b e left h = share_total m q (left Buy) a b e h
fill_total_step Sell Sell m q a b e left h = share_total m q (left Sell) a b e h
fill_total_step Buy Sell m q a b e left h = omega arith
fill_total_step Sell Buy m q a b e left h = omega arith

pub fill_total : (side : Side) (p : ℤ) (ss : List Step) (left : Side → ℕ)
    → executed_volume side ss (volumes_in_turn p ss left) ≡ better_volume side p ss + min (at_volume side p ss) (left side)
fill_total side p [] left = omega arith
fill_total side p (s ∷ ss) left =
    let m = margin_of s.side s.price p in
    let next : Side → ℕ = λ side. left side - volume_on side s.side (if_at m s.qty) in
    fill_total_step side s.side m s.qty (at_volume side p ss) (better_volume side p ss) (executed_volume side ss (volumes_in_turn p ss next)) left
    (fill_total side p ss next)

-- no supported execution that takes at most the volume that is left comes after it in order
share_greatest : (m : ℤ) (x q t left : ℕ) → x ≤ q → (pos 0 <ℤ m → x ≡ q) → (m <ℤ pos 0 → x ≡ 0) → if_at m x + t ≤ left → x ≤ share m q left
share_greatest (pos zero) x q t left h f g l = omega arith
share_greatest (pos (suc n)) x q t left h f g l = h
share_greatest (negsuc n) x q t left h f g l = let e = g (omega (arith, ints)) in omega arith

share_leaves : (m : ℤ) (x q t left : ℕ) → x ≡ share m q left → if_at m x + t ≤ left → t ≤ left - if_at m q
share_leaves (pos zero) x q t left e l = omega arith
share_leaves (pos (suc n)) x q t left e l = omega arith
share_leaves (negsuc n) x q t left e l = omega arith

fill_leaves : (side own : Side) (m : ℤ) (x q t : ℕ) (left : Side → ℕ) → x ≡ share m q (left own)
    → volume_on side own (if_at m x) + t ≤ left side
    → t ≤ left side - volume_on side own (if_at m q)
fill_leaves Buy Buy m x q t left e l = share_leaves m x q t (left Buy) e l
fill_leaves Sell Sell m x q t left e l = share_leaves m x q t (left Sell) e l
fill_leaves Buy Sell m x q t left e l = omega arith
fill_leaves Sell Buy m x q t left e l = omega arith

own_leaves : (own : Side) (m : ℤ) (x t : ℕ) (left : Side → ℕ) → volume_on own own (if_at m x) + t ≤ left own → if_at m x + t ≤ left own
own_leaves Buy m x t left l = l
own_leaves Sell m x t left l = l

pub fill_last : (p : ℤ) (ss : List Step) (xs : List ℕ) (left : Side → ℕ) → IsExecution ss xs → Supports p ss xs
    → ((side : Side) → taken side p ss xs ≤ left side) → AtMostInOrder xs (volumes_in_turn p ss left)
fill_last p [] [] left e h l = tt
fill_last p [] (x ∷ xs) left e h l = absurd e
fill_last p (s ∷ ss) [] left e h l = absurd e
fill_last p (s ∷ ss) (x ∷ xs) left e h l =
    let m = margin_of s.side s.price p in (
      share_greatest m x s.qty (taken s.side p ss xs) (left s.side) e.0 (λ b. h.0 (better_margin s.side s.price p b))
          (λ w. h.1 (worse_margin s.side s.price p w))
          (own_leaves s.side m x (taken s.side p ss xs) left (l s.side)),
      λ same. fill_last p ss xs (λ side. left side - volume_on side s.side (if_at m s.qty)) e.1 h.2
          (λ side. fill_leaves side s.side m x s.qty (taken side p ss xs) left same (l side)),
    )

-- a step's share: the volume that the earlier ones of its side at the price leave
less_twice : (side own : Side) (m : ℤ) (q t : ℕ) (left : Side → ℕ)
    → (left side - volume_on side own (if_at m q)) - t ≡ left side - (volume_on side own (if_at m q) + t)
less_twice side own m q t left = omega arith

pub fill_place : (p : ℤ) (ss : List Step) (i : ℕ) (s : Step) (left : Side → ℕ) → slice_get ss i ≡ Some s
    → slice_get (volumes_in_turn p ss left) i ≡ Some (share (margin_of s.side s.price p) s.qty (left s.side - at_volume s.side p (take i ss)))
fill_place p [] i s left e = cc
fill_place p (t ∷ ss) zero s left e =
    let same : t ≡ s = cc in
    let none : left s.side ≡ left s.side - 0 = omega arith in
    ap (λ (u : Step). Some (share (margin_of u.side u.price p) u.qty (left u.side))) same
    ∙ ap (λ (n : ℕ). Some (share (margin_of s.side s.price p) s.qty n)) none
fill_place p (t ∷ ss) (suc i) s left e =
    let m = margin_of t.side t.price p in
    fill_place p ss i s (λ side. left side - volume_on side t.side (if_at m t.qty)) e
    ∙ ap (λ (n : ℕ). Some (share (margin_of s.side s.price p) s.qty n))
    (less_twice s.side t.side m t.qty (at_volume s.side p (take i ss)) left)

-- past the last step an execution has no volume
pub execution_past : (ss : List Step) (xs : List ℕ) (i : ℕ) → IsExecution ss xs → slice_get ss i ≡ None → slice_get xs i ≡ None
execution_past [] [] i e h = refl
execution_past [] (x ∷ xs) i e h = absurd e
execution_past (s ∷ ss) [] i e h = absurd e
execution_past (s ∷ ss) (x ∷ xs) zero e h = cc
execution_past (s ∷ ss) (x ∷ xs) (suc i) e h = execution_past ss xs i e.1 h
