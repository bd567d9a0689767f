-- The levels of a period, block by block.
use Rattle.dam_bound.proofs.Common.{◌≡◌, ℕ, zero, suc, ◌+◌, ◌-◌, ◌<◌, ◌≤◌, ◌==◌, cond, true, false, Some, List, [], ◌∷◌, ◌++◌, length, drop, ap, ◌∙◌, sym, inl}
use Rattle.dam_bound.proofs.Common.{inr, subst, refl, arith, slice_get, cases_lt, nat_tests, drop_all, get_or_from_slice_get, Step, Block, volume_in, step_of}
use Rattle.dam_bound.proofs.Common.{as_steps, last_steps}
use Rattle.std.proofs.Common.{length-append}
use Rattle.std.specs.List.{remove}
use Rattle.std.proofs.lemmas.List.{append-nil}
use Rattle.std.proofs.lemmas.List.Edits.{remove-append_right}
use Rattle.dam_bound.specs.inside.Levels.{IsAtDepth}

-- ---- lists that grow
kept : {X : Type 0} (xs : List X) (y : X) (i : ℕ) (x : X) → slice_get xs i ≡ Some x → slice_get (xs ++ y ∷ []) i ≡ Some x
kept [] y i x e = absurd (cc)
kept (z ∷ xs) y zero x e = e
kept (z ∷ xs) y (suc i) x e = kept xs y i x e

pushed : {X : Type 0} (xs : List X) (y : X) → slice_get (xs ++ y ∷ []) (length xs) ≡ Some y
pushed [] y = refl
pushed (x ∷ xs) y = pushed xs y

-- the steps of a period, and after them the blocks from a place on as steps
abbrev pub relaxed_at : List Step → ℕ → List Block → ℕ → List Step
relaxed_at ss t blocks k = ss ++ as_steps t (drop k blocks)

length_one : {X : Type 0} (xs : List X) (y : X) → length (xs ++ y ∷ []) ≡ length xs + 1
length_one xs y = length-append xs (y ∷ [])

-- ---- the blocks from a place on
drop_next : {X : Type 0} (xs : List X) (i : ℕ) (x : X) → slice_get xs i ≡ Some x → drop i xs ≡ x ∷ drop (suc i) xs
drop_next [] i x e = absurd (cc)
drop_next (y ∷ xs) zero x e = let same : y ≡ x = cc in ap (λ (z : _). z ∷ xs) same
drop_next (y ∷ xs) (suc i) x e = drop_next xs i x e

pub drop_at : {X : Type 0} (xs : List X) (i : ℕ) (x : X) → slice_get xs i ≡ Some x → drop i xs ≡ x ∷ drop (i + 1) xs
drop_at xs i x e = let next : suc i ≡ i + 1 = omega arith in drop_next xs i x e ∙ ap (λ (n : ℕ). x ∷ drop n xs) next

pub no_step : (t : ℕ) (b : Block) (bs : List Block) → volume_in b.order.volumes t ≡ 0 → as_steps t (b ∷ bs) ≡ as_steps t bs
no_step t b bs e =
    let none : (volume_in b.order.volumes t == 0) ≡ true = grind (arith, nat_tests) in
    ap (λ (c : _). cond c (as_steps t bs) (step_of t b.order ∷ as_steps t bs)) none

pub some_step : (t : ℕ) (b : Block) (bs : List Block) → 0 < volume_in b.order.volumes t
    → as_steps t (b ∷ bs) ≡ step_of t b.order ∷ as_steps t bs
some_step t b bs l =
    let some : (volume_in b.order.volumes t == 0) ≡ false = grind (arith, nat_tests) in
    ap (λ (c : _). cond c (as_steps t bs) (step_of t b.order ∷ as_steps t bs)) some

-- a block with a volume in the period stands right after the hourly orders, and without it the later blocks do
pub level_below : (t : ℕ) (ss : List Step) (blocks : List Block) (count : ℕ) (b : Block) (above : List Step)
    → slice_get blocks count ≡ Some b
    → 0 < volume_in b.order.volumes t → above ≡ ss ++ as_steps t (drop count blocks)
    → (length ss < length above) × (remove above (length ss) ≡ ss ++ as_steps t (drop (count + 1) blocks))
level_below t ss blocks count b above at some is =
    let left = as_steps t (drop (count + 1) blocks) in
    let steps = is ∙ ap (λ (bs : List Block). ss ++ as_steps t bs) (drop_at blocks count b at)
    ∙ ap (λ (ts : List Step). ss ++ ts) (some_step t b (drop (count + 1) blocks) some) in
    let long = ap length steps in let both = length-append ss (step_of t b.order ∷ left) in
    let first : length ss - length ss ≡ 0 = omega arith in (
      omega (arith, long, both),
      ap (λ (ts : List Step). remove ts (length ss)) steps
          ∙ remove-append_right ss (step_of t b.order ∷ left) (length ss) (length ss) refl (omega arith)
          ∙ ap (λ (n : ℕ). ss ++ remove (step_of t b.order ∷ left) n) first,
    )

-- ---- the levels so far
pub record AreLevelsSoFar (t : ℕ) (ss : List Step) (blocks : List Block) (count : ℕ) (hours : List (List Step)) (places : List ℕ)
    : Type 0 where
  pub some : 1 ≤ length hours
  pub long : length places ≡ count + 1
  pub last : slice_get hours (length hours - 1) ≡ Some (ss ++ as_steps t (drop count blocks))
  pub each : (depth : ℕ) → depth ≤ count → IsAtDepth (record { hours = hours; places = places }) depth
      (ss ++ as_steps t (drop depth blocks))

pub first_level : (t : ℕ) (ss : List Step) (blocks : List Block) (hour : List Step) → hour ≡ ss ++ as_steps t blocks
    → AreLevelsSoFar t ss blocks 0 (hour ∷ []) (0 ∷ [])
first_level t ss blocks hour e = record {
  some = omega arith;
  long = refl;
  last = ap (λ (h : List Step). Some h) e;
  each = λ depth l.
      (let none : depth ≡ 0 = omega (arith, l) in
      subst (λ (d : ℕ). IsAtDepth (record { hours = hour ∷ []; places = 0 ∷ [] }) d (ss ++ as_steps t (drop d blocks))) (sym none)
      (record { place = 0; place_is = refl; hour_is = ap (λ (h : List Step). Some h) e }));
}

-- a depth more, whose hour is the last
one_level : (t : ℕ) (ss : List Step) (blocks : List Block) (count : ℕ) (hours hours' : List (List Step)) (places : List ℕ) (place : ℕ)
    → ((i : ℕ) (h : List Step) → slice_get hours i ≡ Some h → slice_get hours' i ≡ Some h) → 1 ≤ length hours' → place ≡ length hours' - 1
    → slice_get hours' (length hours' - 1) ≡ Some (ss ++ as_steps t (drop (count + 1) blocks))
    → AreLevelsSoFar t ss blocks count hours places → AreLevelsSoFar t ss blocks (count + 1) hours' (places ++ place ∷ [])
one_level t ss blocks count hours hours' places place keeps some is last so_far =
    let long = so_far.long in
    record {
      some = some;
      long = omega (arith, length_one places place, long);
      last = last;
      each = λ depth l. elim (cases_lt depth (count + 1)) [
        | inl less ↦
            (let old = so_far.each depth (omega (arith, less)) in
            record {
              place = old.place;
              place_is = kept places place depth old.place old.place_is;
              hour_is =
                  keeps old.place _ old.hour_is;
            })
        | inr more ↦
            (let same : depth ≡ count + 1 = omega (arith, l, more) in
            let at : length places ≡ depth = omega (arith, long, same) in
            record {
              place = place;
              place_is = ap (slice_get (places ++ place ∷ [])) (sym at) ∙ pushed places place;
              hour_is = ap (slice_get hours') is ∙ last ∙ ap (λ (d : ℕ). Some (ss ++ as_steps t (drop d blocks))) (sym same);
            })
      ];
    }

pub new_level : (t : ℕ) (ss : List Step) (blocks : List Block) (count : ℕ) (hours : List (List Step)) (places : List ℕ) (hour : List Step)
    (place : ℕ)
    → hour ≡ ss ++ as_steps t (drop (count + 1) blocks) → place ≡ length (hours ++ hour ∷ []) - 1
    → AreLevelsSoFar t ss blocks count hours places → AreLevelsSoFar t ss blocks (count + 1) (hours ++ hour ∷ []) (places ++ place ∷ [])
new_level t ss blocks count hours places hour place e is so_far =
    let at : length hours ≡ length (hours ++ hour ∷ []) - 1 = omega (arith, length_one hours hour) in
    one_level t ss blocks count hours (hours ++ hour ∷ []) places place (λ i h. kept hours hour i h) (omega (arith, length_one hours hour))
    is
    (ap (slice_get (hours ++ hour ∷ [])) (sym at) ∙ pushed hours hour ∙ ap (λ (h : List Step). Some h) e) so_far

pub same_level : (t : ℕ) (ss : List Step) (blocks : List Block) (count : ℕ) (hours : List (List Step)) (places : List ℕ) (b : Block)
    (place : ℕ)
    → slice_get blocks count ≡ Some b → volume_in b.order.volumes t ≡ 0 → place ≡ length hours - 1
    → AreLevelsSoFar t ss blocks count hours places → AreLevelsSoFar t ss blocks (count + 1) hours (places ++ place ∷ [])
same_level t ss blocks count hours places b place at none is so_far =
    let steps : as_steps t (drop count blocks) ≡ as_steps t (drop (count + 1) blocks) =
    ap (as_steps t) (drop_at blocks count b at) ∙ no_step t b (drop (count + 1) blocks) none in
    one_level t ss blocks count hours hours places place (λ i h e. e) so_far.some is
    (so_far.last ∙ ap (λ (ts : List Step). Some (ss ++ ts)) steps) so_far

pub last_level : (t : ℕ) (ss : List Step) (blocks : List Block) (count : ℕ) (hours : List (List Step)) (places : List ℕ)
    → length blocks ≤ count
    → AreLevelsSoFar t ss blocks count hours places → last_steps (record { hours = hours; places = places }) ≡ ss
last_level t ss blocks count hours places all so_far =
    get_or_from_slice_get hours (length hours - 1) (ss ++ as_steps t (drop count blocks)) [] so_far.last
    ∙ ap (λ (bs : List Block). ss ++ as_steps t bs) (drop_all count blocks all) ∙ append-nil ss

pub moved : {t : ℕ} {ss : List Step} {blocks : List Block} {count : ℕ} {hours hours' : List (List Step)} {places places' : List ℕ}
    → hours' ≡ hours → places' ≡ places → AreLevelsSoFar t ss blocks count hours places → AreLevelsSoFar t ss blocks count hours' places'
moved {t} {ss} {blocks} {count} {hours} {hours'} {places} {places'} e f so_far =
    subst (λ (hs : List (List Step)). AreLevelsSoFar t ss blocks count hs places') (sym e)
    (subst (λ (ps : List ℕ). AreLevelsSoFar t ss blocks count hours ps) (sym f) so_far)
