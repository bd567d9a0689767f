-- The slack that decisions leave under limits, by the places that are open.
use Rattle.dam_search.proofs.Common.{◌≡◌, ◌≢◌, ℕ, zero, suc, ◌≤◌, ℤ, pos, neg_ℤ, ◌+ℤ◌, ◌≤ℤ◌, Bool, true, false, not, ◌||◌, List, ◌∷◌, length, ◌+◌, get_or, ap}
use Rattle.dam_search.proofs.Common.{sym, subst, refl, arith, nat_lt, None, ints, ne_eqb, nat_tests, most_blocks, ProblemState, accepts, padded, choice}
use Rattle.dam_search.proofs.Common.{IsEligible, NetLimit, limit_in, AreLimits, HasSlack, is_among, IsOpen, IsSound, AreDecisions, with_place_if}
use Rattle.std.proofs.lemmas.Int.{int_max_is}
use Rattle.dam_bound.specs.declared.net_limits.Slack.{Slack}
use Rattle.dam_bound.specs.NetLimits.{slack_taken, if_open, taken_under, AreSlacks}
use Rattle.dam_search.specs.inside.PriceWalk.{AgreesUnder, IsDecisionOrder, IsSlack}
use Rattle.dam_search.proofs.FirstNode.{not_among_before, piece_sound}
use Rattle.dam_search.proofs.Opens.{finds_none, open_any, open_here}
use Rattle.dam_search.proofs.Places.{among_first}

-- ---- fewer places are open
taken_positive : (accept : Bool) (z : ℤ) → pos 0 ≤ℤ slack_taken accept z
taken_positive true z = let is = int_max_is z (pos 0) in omega (arith, ints, is)
taken_positive false z = let is = int_max_is (neg_ℤ z) (pos 0) in omega (arith, ints, is)

fewer_taken : (nets : List ℤ) (selection : List Bool) (f g : ℕ → Bool) (n : ℕ) → ((place : ℕ) → g place ≡ true → f place ≡ true)
    → taken_under nets selection g n ≤ℤ taken_under nets selection f n
fewer_taken nets selection f g zero subset = omega (arith, ints)
fewer_taken nets selection f g (suc n) subset =
    let r = slack_taken (accepts selection n) (get_or nets n (pos 0)) in
    let rest = fewer_taken nets selection f g n subset in
    let some = taken_positive (accepts selection n) (get_or nets n (pos 0)) in
    elim (g n) as (λ b. g n ≡ b
    → (taken_under nets selection g n +ℤ if_open b r) ≤ℤ (taken_under nets selection f n +ℤ if_open (f n) r)) [
      | true ↦ λ e. (let on = ap (λ (o : Bool). if_open o r) (subset n e) in omega (arith, ints, rest, on))
      | false ↦ λ e. elim (f n) as (λ b. (taken_under nets selection g n +ℤ pos 0) ≤ℤ (taken_under nets selection f n +ℤ if_open b r)) [
        | true ↦ omega (arith, ints, rest, some)
        | false ↦ omega (arith, ints, rest)
      ]
    ] refl

pub less_open : (limits : List NetLimit) (selection : List Bool) (f g : ℕ → Bool) (slacks : List ℤ) → ((place : ℕ) → g place ≡ true → f place ≡ true)
    → HasSlack limits selection f slacks → HasSlack limits selection g slacks
less_open limits selection f g slacks subset has k l =
    let most = has k l in let fewer = fewer_taken (limit_in limits k).nets selection f g most_blocks subset in
    omega (arith, ints, most, fewer)

-- ---- the first places, one more of them decided
pub open_at : (at : ℕ) → not (nat_lt at at) ≡ true
open_at at = grind (arith, nat_tests)

pub decided_at : (at : ℕ) → not (nat_lt at (at + 1)) ≡ false
decided_at at = grind (arith, nat_tests)

pub others_open : (at p : ℕ) → p ≢ at → not (nat_lt p (at + 1)) ≡ not (nat_lt p at)
others_open at p apart = grind (arith, nat_tests, apart)

pub agrees_less : (at : ℕ) (accepted selection : List Bool) → AgreesUnder (at + 1) accepted selection → AgreesUnder at accepted selection
agrees_less at accepted selection agrees place l = agrees place (omega (arith, l))

pub agrees_here : (at : ℕ) (accepted selection : List Bool) → AgreesUnder (at + 1) accepted selection → accepts selection at ≡ accepts accepted at
agrees_here at accepted selection agrees = agrees at (omega arith)

-- ---- the slack of a node
pub others_among : (place p : ℕ) (undecided : List ℕ) → p ≢ place → is_among p undecided ≡ is_among p (place ∷ undecided)
others_among place p undecided apart = sym (ap (λ (b : Bool). b || is_among p undecided) (ne_eqb p place apart))

-- how a call lowers the slack
abbrev pub Lowers : List NetLimit → Slack → ℕ → Bool → Slack → Type 0
Lowers limits slack place accept next = (selection : List Bool) (before after : ℕ → Bool) → HasSlack limits selection before slack.slacks
    → before place ≡ true → after place ≡ false → ((p : ℕ) → p ≢ place → after p ≡ before p) → accepts selection place ≡ accept
    → HasSlack limits selection after next.slacks

slack_next : {problem : ProblemState} {limits : List NetLimit} {accept : Bool} {accepted rejected : List Bool} {place : ℕ} {undecided : List ℕ} {slack next : Slack}
    → AreDecisions accepted rejected (place ∷ undecided) → AreSlacks next.slacks → Lowers limits slack place accept next
    → IsSlack problem limits accepted (place ∷ undecided) slack → IsSlack problem limits (with_place_if accept accepted place) undecided next
slack_next {problem} {limits} {accept} {accepted} {rejected} {place} {undecided} {slack} {next} node are lowers is = record {
  slacks = are;
  has = λ selection welfare opened e.
      lowers selection (λ p. is_among p (place ∷ undecided)) (λ p. is_among p undecided)
      (is.has selection welfare (open_any accept accepted place undecided selection opened) e) (among_first place undecided) node.free.2
      (λ p apart. others_among place p undecided apart) (open_here accept accepted rejected place undecided selection node opened);
}

pub slack_after_is : {problem : ProblemState} {limits : List NetLimit} {accept : Bool} {accepted rejected accepted' : List Bool} {place : ℕ} {undecided undecided' : List ℕ}
    {slack next : Slack} → accepted' ≡ with_place_if accept accepted place → undecided' ≡ undecided
    → AreDecisions accepted rejected (place ∷ undecided) → AreSlacks next.slacks → Lowers limits slack place accept next
    → IsSlack problem limits accepted (place ∷ undecided) slack → IsSlack problem limits accepted' undecided' next
slack_after_is {problem} {limits} {accept} {accepted} {rejected} {accepted'} {place} {undecided} {undecided'} {slack} {next} e f node are lowers is =
    subst (λ (xs : List Bool). IsSlack problem limits xs undecided' next) (sym e)
    (subst (λ (xs : List ℕ). IsSlack problem limits (with_place_if accept accepted place) xs next) (sym f)
    (slack_next node are lowers is))

-- no eligible selection has a decision that takes too much
pub no_slack : {problem : ProblemState} {limits : List NetLimit} {accept : Bool} {accepted rejected : List Bool} {place : ℕ} {undecided : List ℕ} {slack : Slack}
    {selection : List Bool} {welfare : ℤ} → AreDecisions accepted rejected (place ∷ undecided) → IsSlack problem limits accepted (place ∷ undecided) slack
    → ((other : List Bool) (free : ℕ → Bool) → HasSlack limits other free slack.slacks → free place ≡ true
    → accepts other place ≡ accept → ⊥)
    → IsOpen (with_place_if accept accepted place) undecided selection → IsEligible problem selection welfare → ⊥
no_slack {problem} {limits} {accept} {accepted} {rejected} {place} {undecided} {slack} {selection} {welfare} node is none opened e =
    none selection (λ p. is_among p (place ∷ undecided)) (is.has selection welfare (open_any accept accepted place undecided selection opened) e) (among_first place undecided)
    (open_here accept accepted rejected place undecided selection node opened)

-- ---- the slack of a piece
agrees_open : (depth count : ℕ) (accepted selection : List Bool) (order : List ℕ) → IsDecisionOrder depth count order → IsOpen accepted order selection
    → AgreesUnder depth accepted selection
agrees_open depth count accepted selection order is opened place l = opened.agrees place (not_among_before depth count order place is l)

past_depth : (depth p : ℕ) → depth ≤ p → not (nat_lt p depth) ≡ true
past_depth depth p l = grind (arith, nat_tests, l)

pub piece_slack : (problem : ProblemState) (limits : List NetLimit) (depth count : ℕ) (accepted : List Bool) (order : List ℕ) (slack : Slack)
    → IsDecisionOrder depth count order → AreLimits problem limits → AreSlacks slack.slacks
    → ((problem : ProblemState) (selection : List Bool) (welfare : ℤ) → AreLimits problem limits → IsEligible problem selection welfare → AgreesUnder depth accepted selection
    → HasSlack limits selection (λ p. not (nat_lt p depth)) slack.slacks)
    → IsSlack problem limits accepted order slack
piece_slack problem limits depth count accepted order slack is are slacks has = record {
  slacks = slacks;
  has = λ selection welfare opened e.
      less_open limits selection (λ p. not (nat_lt p depth)) (λ p. is_among p order) slack.slacks
      (λ p on. past_depth depth p (is.within p on).0)
      (has problem selection welfare are e (agrees_open depth count accepted selection order is opened));
}

pub nothing_sound : (problem : ProblemState) (limits : List NetLimit) (depth piece : ℕ) (accepted : List Bool) (order : List ℕ)
    → accepted ≡ padded (choice depth piece) → depth ≤ most_blocks → IsDecisionOrder depth (length problem.blocks) order → AreLimits problem limits
    → ((problem : ProblemState) (selection : List Bool) (welfare : ℤ) → AreLimits problem limits → IsEligible problem selection welfare → AgreesUnder depth accepted selection → ⊥)
    → IsSound problem (choice depth piece) None 0 true
nothing_sound problem limits depth piece accepted order is few ordered are none =
    piece_sound problem depth piece accepted order None 0 is few ordered (finds_none problem accepted order None)
    (λ selection welfare opened e. absurd (none problem selection welfare are e (agrees_open depth (length problem.blocks) accepted selection order ordered opened)))
