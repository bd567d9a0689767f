-- One step as supply: the part of it that is taken, at a height of the price.
use Rattle.std.proofs.Common.{◌≡◌, ℕ, zero, suc, ◌+◌, ◌-◌, ◌*◌, ◌<◌, ◌≤◌, ℤ, pos, ◌+ℤ◌, ◌-ℤ◌, ◌*ℤ◌, inl, inr, ap, refl, arith}
use Rattle.std.proofs.lemmas.Int.{ints}
use Rattle.std.proofs.lemmas.Bool.{cases_lt}
use borrow.Author.Differences.{up, down}
use Rattle.dam_book.specs.declared.order.Side.{Side}
use Rattle.dam_book.specs.declared.order.Side.TheVariants.{Buy, Sell}
use Rattle.dam_hour.specs.Execution.{volume_on}
use Rattle.dam_hour.specs.Price.{IsBetter, IsWorse}
use Rattle.dam_hour.specs.Best.{signed}
use Rattle.dam_curve.proofs.Units.{if_any}

-- ---- the volume of a step, if it stands under a height or up to it
any_full : (g q : ℕ) → 0 < g → if_any g q ≡ q
any_full zero q h = absurd (omega (arith, h))
any_full (suc g) q h = refl

any_none : (g q : ℕ) → g ≡ 0 → if_any g q ≡ 0
any_none zero q h = refl
any_none (suc g) q h = absurd (omega (arith, h))

pub under_full : (a h q : ℕ) → a < h → if_any (h - a) q ≡ q
under_full a h q l = any_full (h - a) q (omega arith)

pub under_none : (a h q : ℕ) → h ≤ a → if_any (h - a) q ≡ 0
under_none a h q l = any_none (h - a) q (omega arith)

pub up_to_full : (a h q : ℕ) → a ≤ h → if_any (suc h - a) q ≡ q
up_to_full a h q l = any_full (suc h - a) q (omega arith)

pub up_to_none : (a h q : ℕ) → h < a → if_any (suc h - a) q ≡ 0
up_to_none a h q l = any_none (suc h - a) q (omega arith)

pub under_up_to : (a h q : ℕ) → if_any (h - a) q ≤ if_any (suc h - a) q
under_up_to a h q = elim (cases_lt a h) [
  | inl l ↦ (let u = under_full a h q l in let v = up_to_full a h q (omega arith) in omega (arith, u, v))
  | inr m ↦ (let u = under_none a h q m in omega (arith, u))
]

pub part_most : (g q : ℕ) → if_any g q ≤ q
part_most zero q = omega arith
part_most (suc g) q = omega arith

any_rises : (g k q : ℕ) → g ≤ k → if_any g q ≤ if_any k q
any_rises zero k q l = omega arith
any_rises (suc g) zero q l = absurd (omega (arith, l))
any_rises (suc g) (suc k) q l = omega arith

pub under_rises : (a h k q : ℕ) → h ≤ k → if_any (h - a) q ≤ if_any (k - a) q
under_rises a h k q l = any_rises (h - a) (k - a) q (omega (arith, l))

-- a part that is whole under the height, and none over it
pub part_reached : (a h q y : ℕ) → y ≤ q → (a < h → y ≡ q) → (h < a → y ≡ 0) → (if_any (h - a) q ≤ y) × (y ≤ if_any (suc h - a) q)
part_reached a h q y f b w = elim (cases_lt a h) [
  | inl l ↦
      (let u = under_full a h q l in let v = up_to_full a h q (omega (arith, l)) in let e = b l in
      (omega (arith, u, e), omega (arith, v, e)))
  | inr m ↦ elim (cases_lt h a) [
    | inl l ↦ (let u = under_none a h q m in let e = w l in (omega (arith, u), omega (arith, e)))
    | inr n ↦ (let u = under_none a h q m in let v = up_to_full a h q n in (omega (arith, u), omega (arith, v, f)))
  ]
]

-- ---- the part taken of a step as supply
abbrev pub taken_of : Side → ℕ → ℕ → ℕ
taken_of Buy q x = q - x
taken_of Sell q x = x

-- the executed volume, if this much is taken
pub taken_back : (side : Side) (q y : ℕ) → y ≤ q → taken_of side q (taken_of side q y) ≡ y
taken_back Buy q y l = omega arith
taken_back Sell q y l = refl

pub taken_fits : (side : Side) (q y : ℕ) → y ≤ q → taken_of side q y ≤ q
taken_fits Buy q y l = omega arith
taken_fits Sell q y l = l

-- the limits as heights over the least price
pub taken_full : (side : Side) (limit p c : ℤ) (a h q x : ℕ) → limit ≡ c +ℤ pos a → p ≡ c +ℤ pos h → x ≤ q
    → (IsBetter side limit p → x ≡ q) → (IsWorse side limit p → x ≡ 0) → a < h → taken_of side q x ≡ q
taken_full Buy limit p c a h q x el ep f b w l = let e = w (omega (arith, ints)) in omega (arith, e)
taken_full Sell limit p c a h q x el ep f b w l = b (omega (arith, ints))

pub taken_none : (side : Side) (limit p c : ℤ) (a h q x : ℕ) → limit ≡ c +ℤ pos a → p ≡ c +ℤ pos h → x ≤ q
    → (IsBetter side limit p → x ≡ q) → (IsWorse side limit p → x ≡ 0) → h < a → taken_of side q x ≡ 0
taken_none Buy limit p c a h q x el ep f b w l = let e = b (omega (arith, ints)) in omega (arith, e)
taken_none Sell limit p c a h q x el ep f b w l = w (omega (arith, ints))

-- and the other way round
pub better_full : (side : Side) (limit p c : ℤ) (a h q y : ℕ) → limit ≡ c +ℤ pos a → p ≡ c +ℤ pos h → y ≤ q
    → (a < h → y ≡ q) → (h < a → y ≡ 0) → IsBetter side limit p → taken_of side q y ≡ q
better_full Buy limit p c a h q y el ep f b w l = let e = w (omega (arith, ints)) in omega (arith, e)
better_full Sell limit p c a h q y el ep f b w l = b (omega (arith, ints))

pub worse_none : (side : Side) (limit p c : ℤ) (a h q y : ℕ) → limit ≡ c +ℤ pos a → p ≡ c +ℤ pos h → y ≤ q
    → (a < h → y ≡ q) → (h < a → y ≡ 0) → IsWorse side limit p → taken_of side q y ≡ 0
worse_none Buy limit p c a h q y el ep f b w l = let e = b (omega (arith, ints)) in omega (arith, e)
worse_none Sell limit p c a h q y el ep f b w l = w (omega (arith, ints))

-- ---- the cost of the part that is taken, and its gain
pub part_cost : (a h q y : ℕ) → (a < h → y ≡ q) → (h < a → y ≡ 0) → a * y + (h - a) * q ≡ h * y
part_cost a h q y b w = elim (cases_lt a h) [
  | inl l ↦
      (let e = ap (λ n. a * n) (b l) in let k = ap (λ n. h * n) (b l) in
      let m = ap (λ n. n * q) (let s : a + (h - a) ≡ h = omega arith in s) in
      omega (arith, e, k, m))
  | inr m ↦ elim (cases_lt h a) [
    | inl l ↦
        (let none : h - a ≡ 0 = omega arith in
        let z = ap (λ n. n * q) none in
        let e = ap (λ n. a * n) (w l) in let k = ap (λ n. h * n) (w l) in
        omega (arith, z, e, k))
    | inr n ↦
        (let none : h - a ≡ 0 = omega arith in
        let z = ap (λ n. n * q) none in
        let s : a ≡ h = omega arith in
        let k = ap (λ n. n * y) s in
        omega (arith, z, k))
  ]
]

minus_times : (a b : ℤ) (x : ℕ) → (a -ℤ b) *ℤ pos x +ℤ b *ℤ pos x ≡ a *ℤ pos x
minus_times a b x =
    let e : up (a -ℤ b) + down a + up b ≡ down (a -ℤ b) + up a + down b = omega (arith, ints) in
    let m = ap (λ (n : ℕ). n * x) e in
    omega (arith, ints, m)

-- a limit times a volume, by the limit's height
limit_times : (limit c : ℤ) (a x : ℕ) → limit ≡ c +ℤ pos a → limit *ℤ pos x ≡ c *ℤ pos x +ℤ pos (a * x)
limit_times limit c a x e =
    let d : limit -ℤ c ≡ pos a = omega (arith, ints) in
    let t = ap (λ (z : ℤ). z *ℤ pos x) d in
    let m = minus_times limit c x in
    omega (arith, ints, t, m)

-- the executed part of a buy and the part taken of it as supply
served_cost : (a q x : ℕ) → x ≤ q → a * x + a * (q - x) ≡ a * q
served_cost a q x l =
    let s : x + (q - x) ≡ q = omega arith in
    let m = ap (λ n. a * n) s in
    omega (arith, m)

pub part_welfare : (side : Side) (limit c : ℤ) (a q x b s t w v : ℕ) (u : ℤ) → limit ≡ c +ℤ pos a → x ≤ q
    → (u +ℤ pos t) +ℤ c *ℤ pos s ≡ pos w +ℤ c *ℤ pos b
    → ((signed side (limit *ℤ pos x) +ℤ u) +ℤ pos (a * taken_of side q x + t)) +ℤ c *ℤ pos (volume_on Sell side x + s)
    ≡ pos (volume_on Buy side (a * q) + w) +ℤ c *ℤ pos (volume_on Buy side x + b)
part_welfare Buy limit c a q x b s t w v u el f e =
    let m = limit_times limit c a x el in
    let k = served_cost a q x f in
    omega (arith, ints, m, k, e)
part_welfare Sell limit c a q x b s t w v u el f e =
    let m = limit_times limit c a x el in
    omega (arith, ints, m, e)

pub times_net : (p net : ℤ) (b s : ℕ) → pos s +ℤ net ≡ pos b → p *ℤ pos b ≡ p *ℤ pos s +ℤ p *ℤ net
times_net p net b s e =
    let k : s + up net ≡ b + down net = omega (arith, ints) in
    let m = ap (λ (n : ℕ). up p * n) k in
    let n = ap (λ (n : ℕ). down p * n) k in
    omega (arith, ints, m, n)
