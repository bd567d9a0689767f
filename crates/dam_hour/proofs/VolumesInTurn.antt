-- The volumes that the loop of `volumes_in_turn` has pushed, and those that are still to come.
use Rattle.dam_hour.proofs.Common.{◌≡◌, ℕ, ◌+◌, ◌-◌, ◌<◌, ℤ, List, [], ◌∷◌, ◌++◌, length, drop, get_or, ap, ap₂, ◌∙◌, sym, refl, drop_more, Side, Buy, Sell}
use Rattle.dam_hour.proofs.Common.{Step, volume_on, margin_of, if_at, better_volume, share, volumes_in_turn, total_on}
use Rattle.std.proofs.lemmas.List.{append_assoc}
use Rattle.dam_hour.proofs.Totals.{best_at, left_at}

-- if as much is left for each side, the volumes are the same
pub fill_same : (p : ℤ) (ss : List Step) (left other : Side → ℕ) → ((side : Side) → left side ≡ other side)
    → volumes_in_turn p ss left ≡ volumes_in_turn p ss other
fill_same p [] left other same = refl
fill_same p (s ∷ ss) left other same =
    let m = margin_of s.side s.price p in
    ap₂ (λ (x : ℕ) (xs : List ℕ). x ∷ xs) (ap (λ (n : ℕ). share m s.qty n) (same s.side))
    (fill_same p ss (λ side. left side - volume_on side s.side (if_at m s.qty)) (λ side. other side - volume_on side s.side (if_at m s.qty))
    (λ side. ap (λ (n : ℕ). n - volume_on side s.side (if_at m s.qty)) (same side)))

left_of : (p : ℤ) (ss : List Step) (bought sold buys sells : ℕ) → buys ≡ bought - better_volume Buy p ss
    → sells ≡ sold - better_volume Sell p ss
    → (side : Side) → total_on side buys sells ≡ left_at p ss bought sold side
left_of p ss bought sold buys sells b s Buy = b
left_of p ss bought sold buys sells b s Sell = s

left_after : (own : Side) (taken buys sells buys' sells' : ℕ) → buys' ≡ buys - volume_on Buy own taken
    → sells' ≡ sells - volume_on Sell own taken
    → (side : Side) → total_on side buys' sells' ≡ total_on side buys sells - volume_on side own taken
left_after own taken buys sells buys' sells' b s Buy = b
left_after own taken buys sells buys' sells' b s Sell = s

-- the volume that the totals leave for each side
pub fill_from_totals : (p : ℤ) (ss : List Step) (bought sold buys sells : ℕ) (out : List ℕ) → buys ≡ bought - better_volume Buy p ss
    → sells ≡ sold - better_volume Sell p ss
    → out ≡ volumes_in_turn p ss (λ side. total_on side buys sells) → out ≡ best_at p ss bought sold
fill_from_totals p ss bought sold buys sells out b s filled =
    filled ∙ fill_same p ss (λ side. total_on side buys sells) (left_at p ss bought sold) (left_of p ss bought sold buys sells b s)

-- one step more
pub fill_more : (p : ℤ) (ss : List Step) (i : ℕ) (s : Step) (out pushed all : List ℕ) (x left buys sells buys' sells' : ℕ)
    → out ++ volumes_in_turn p (drop i ss) (λ side. total_on side buys sells) ≡ all
    → pushed ≡ out ++ x ∷ []
    → i < length ss → s ≡ get_or ss i s
    → left ≡ total_on s.side buys sells → x ≡ share (margin_of s.side s.price p) s.qty left
    → buys' ≡ buys - volume_on Buy s.side (if_at (margin_of s.side s.price p) s.qty)
    → sells' ≡ sells - volume_on Sell s.side (if_at (margin_of s.side s.price p) s.qty)
    → pushed ++ volumes_in_turn p (drop (i + 1) ss) (λ side. total_on side buys' sells') ≡ all
fill_more p ss i s out pushed all x left buys sells buys' sells' so_far push within is own volume b t =
    let taken = if_at (margin_of s.side s.price p) s.qty in
    let rest = drop (i + 1) ss in
    let next : Side → ℕ = λ side. total_on side buys sells - volume_on side s.side taken in
    let opened : drop i ss ≡ s ∷ rest = drop_more ss i s within ∙ ap (λ (u : Step). u ∷ rest) (sym is) in
    let later : volumes_in_turn p rest (λ side. total_on side buys' sells') ≡ volumes_in_turn p rest next =
    fill_same p rest (λ side. total_on side buys' sells') next (left_after s.side taken buys sells buys' sells' b t) in
    ap (λ (ys : List ℕ). ys ++ volumes_in_turn p rest (λ side. total_on side buys' sells')) push
    ∙ append_assoc out (x ∷ []) (volumes_in_turn p rest (λ side. total_on side buys' sells'))
    ∙ ap₂ (λ (n : ℕ) (ys : List ℕ). out ++ n ∷ ys) (volume ∙ ap (λ (n : ℕ). share (margin_of s.side s.price p) s.qty n) own) later
    ∙ sym (ap (λ (us : List Step). out ++ volumes_in_turn p us (λ side. total_on side buys sells)) opened)
    ∙ so_far
