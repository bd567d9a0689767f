-- One node, and the walks from its two extensions.
use Rattle.dam_search.proofs.Common.{◌≡◌, ◌≢◌, inl, inr, ℕ, ◌+◌, ◌-◌, ◌≤◌, ◌<◌, true, false, not, List, Bool, [], ◌∷◌, ◌++◌, ◌∙◌, length, sym, subst, refl}
use Rattle.dam_search.proofs.Common.{Option, ℤ, arith, false≢true, most_blocks, ProblemState}
use Rattle.dam_bound.specs.Relaxed.{relaxed_welfare, reaches}
use Rattle.dam_search.specs.declared.walk_state.WalkState.{WalkState}
use Rattle.dam_search.specs.inside.PrefixWalk.{Spends, ReadsIncumbent, IsWalked}
use Rattle.dam_search.proofs.Ranks.{finds_nothing, finds_shorter, finds_twice, covers_both, welfare_rises}
use Rattle.dam_search.proofs.Walks.{spends_none, spends_nothing, spends_one, spends_first, spends_both, reads_nothing, reads_asked}
use Rattle.dam_search.proofs.Walks.{unreached, less, needed_one, needed_both}
use Rattle.dam_search.proofs.prefix_walk.PrefixWalk.+visit.Goals as goal

-- a prefix that isn't full leaves some block undecided
some_undecided : (prefix : List Bool) (depth count n : ℕ) → depth ≡ length prefix → count ≡ n
    → length prefix ≤ n → depth ≢ count → length prefix < n
some_undecided prefix depth count n e f h more = omega (arith, more)

unmet : (visited node_limit : ℕ) → visited ≤ node_limit → visited ≢ node_limit → visited < node_limit
unmet visited node_limit h more = omega (arith, more)

pub returns-then-not-is_admissible-clause-walked : goal.returns-then-not-is_admissible-clause-walked
returns-then-not-is_admissible-clause-walked g t c =
    let problem = c.args.self.now.problem.now in let prefix = c.args.prefix.now in let state = c.args.state.now in
    let going = c.requires.going in
    record {
      finds = finds_nothing problem prefix state.best;
      covers = λ done selection welfare whole e.
          absurd (c.is_admissible.ensures.completions c.if-not-is_admissible.true selection whole e.admissible);
      spends = spends_nothing going.within;
      needed = λ done admissible. absurd
          (false≢true (sym c.if-not-is_admissible.true ∙ c.is_admissible.ensures.value.1 admissible));
      reads = reads_nothing going.read refl (inl refl);
      offered = let offered = going.offered in omega (arith, offered);
    }

pub returns-then-state-node_limit-clause-walked : goal.returns-then-state-node_limit-clause-walked
returns-then-state-node_limit-clause-walked g t c =
    let problem = c.args.self.now.problem.now in let prefix = c.args.prefix.now in let state = c.args.state.now in
    let going = c.requires.going in
    record {
      finds = finds_nothing problem prefix state.best;
      covers = λ done. absurd (cc);
      spends = spends_none c.if-state-node_limit.true;
      needed = λ done. absurd (cc);
      reads = reads_nothing going.read refl (inl refl);
      offered = let offered = going.offered in omega (arith, offered);
    }

pub returns-then-depth-block_count-clause-walked : goal.returns-then-depth-block_count-clause-walked
returns-then-depth-block_count-clause-walked g t c =
    let problem = c.args.self.now.problem.now in let prefix = c.args.prefix.now in let state = c.args.state.now in
    let undecided_count = length problem.blocks - length prefix in let greatest_read = g.I.Incumbent.greatest_read in
    let going = c.requires.going in let after = c.offer_if_best.new.state in
    let visited : after.visited ≡ state.visited + 1 = c.offer_if_best.ensures.visited in
    let full : undecided_count ≡ 0 = omega (arith, c.depth.ensures.value, c.block_count.ensures.value, c.if-depth-block_count.true) in
    let within = unmet state.visited c.args.node_limit going.within c.if-state-node_limit.false in
    record {
      finds = c.offer_if_best.ensures.finds;
      covers = λ done. c.offer_if_best.ensures.covers;
      spends =
          subst (λ (n : ℕ). Spends problem prefix undecided_count (greatest_read c.args.incumbent.now) c.args.node_limit state.visited n true) (sym visited)
          (spends_one within);
      needed = λ done. needed_one problem prefix undecided_count after.incumbent_read state.visited after.visited visited (inl full);
      reads =
          subst (λ (n : ℕ). ReadsIncumbent undecided_count state.visited after.visited state.incumbent_read n (greatest_read c.args.incumbent.now)
          (greatest_read c.offer_if_best.new.incumbent))
          (sym c.offer_if_best.ensures.read)
          (reads_nothing going.read c.offer_if_best.ensures.greatest_read (inr full));
      offered = c.offer_if_best.ensures.offered;
    }

pub returns-in_default-clause-walked : goal.returns-in_default-clause-walked
returns-in_default-clause-walked g t c =
    let problem = c.args.self.now.problem.now in let prefix = c.args.prefix.now in let state = c.args.state.now in
    let undecided_count = length problem.blocks - length prefix in
    let going = c.requires.going in let read = going.read in let offered = going.offered in let least = c.read-state.result in
    let inside =
    some_undecided prefix c.depth.result c.block_count.result (length problem.blocks) c.depth.ensures.value c.block_count.ensures.value
    c.requires.depth c.if-depth-block_count.false in
    let none : reaches (relaxed_welfare problem prefix) least ≡ false = c.in_default.ensures in
    record {
      finds = finds_nothing problem prefix state.best;
      covers = λ done selection welfare whole e.
          (let most = c.relaxed_welfare_bounds_completions.ensures.most problem prefix selection welfare whole e.welfare_is in
          inl (less welfare most.0 least most.2 (subst (λ (bound : Option ℤ). reaches bound least ≡ false) most.1 none)));
      spends = spends_one (unmet state.visited c.args.node_limit going.within c.if-state-node_limit.false);
      needed = λ done. needed_one problem prefix undecided_count least state.visited (state.visited + 1) refl
          (inr (λ value le. unreached (relaxed_welfare problem prefix) value least none le));
      reads =
          reads_asked (omega (arith, inside)) (omega arith) read c.read-state.ensures.rises c.read-state.ensures.greatest_read;
      offered = omega (arith, offered, c.read-state.ensures.greatest_offer);
    }

-- ---- its two extensions

-- the walk from the prefix with a decision more
from_next : {problem : ProblemState} {next prefix : List Bool} {node_limit greatest_read greatest_offer greatest_read_after greatest_offer_after : ℕ}
    {before after : WalkState} {done seen : Bool} → next ≡ prefix → done ≡ seen
    → IsWalked problem next node_limit greatest_read greatest_offer greatest_read_after greatest_offer_after before after done
    → IsWalked problem prefix node_limit greatest_read greatest_offer greatest_read_after greatest_offer_after before after seen
from_next {problem} {next} {prefix} {node_limit} {greatest_read} {greatest_offer} {greatest_read_after} {greatest_offer_after} {before} {after} {done} {seen} e f walked =
    subst (λ (b : Bool). IsWalked problem prefix node_limit greatest_read greatest_offer greatest_read_after greatest_offer_after before after b) f
    (subst (λ (xs : List Bool). IsWalked problem xs node_limit greatest_read greatest_offer greatest_read_after greatest_offer_after before after done) e walked)

pub returns-then-not-visit-clause-walked : goal.returns-then-not-visit-clause-walked
returns-then-not-visit-clause-walked g t c =
    let problem = c.args.self.now.problem.now in let prefix = c.args.prefix.now in let n = length problem.blocks in
    let first = c.bound_equals-accept.result in let node_limit = c.args.node_limit in
    let inside =
    some_undecided prefix c.depth.result c.block_count.result n c.depth.ensures.value c.block_count.ensures.value
    c.requires.depth c.if-depth-block_count.false in
    let before = c.args.state.now.visited in let after = c.visit.new.state.visited in
    let walked = from_next c.extended.ensures c.if-not-visit.true c.visit.ensures.walked in
    let spent =
    subst (λ (value : ℕ). Spends problem (prefix ++ first ∷ []) (n - length (prefix ++ first ∷ [])) value node_limit (before + 1) after false)
    c.read-state.ensures.greatest_read walked.spends in
    let at_start = c.args.state.now.best in let between = c.visit.new.state.best in
    let offered = walked.offered in let grows = walked.reads.grows in let reads = walked.reads.greatest_read in
    let more = walked.spends.grows in
    record {
      finds = finds_shorter problem prefix (first ∷ []) at_start between walked.finds;
      covers = λ done. absurd (cc);
      spends = spends_first first inside c.read-state.ensures.rises c.in-Some.ensures.1 spent;
      needed = λ done. absurd (cc);
      reads =
          reads_asked (omega (arith, inside)) (omega (arith, more)) c.requires.going.read
          (omega (arith, c.read-state.ensures.rises, grows)) (omega (arith, c.read-state.ensures.greatest_read, grows, reads));
      offered = omega (arith, offered, c.read-state.ensures.greatest_offer);
    }

pub returns-clause-walked : goal.returns-clause-walked
returns-clause-walked g t c =
    let problem = c.args.self.now.problem.now in let prefix = c.args.prefix.now in let n = length problem.blocks in
    let first = c.bound_equals-accept.result in let node_limit = c.args.node_limit in
    let inside =
    some_undecided prefix c.depth.result c.block_count.result n c.depth.ensures.value c.block_count.ensures.value
    c.requires.depth c.if-depth-block_count.false in
    let before = c.args.state.now.visited in let middle = c.visit.new.state.visited in let after = c.visit-2.new.state.visited in
    let walked = from_next c.extended.ensures c.if-not-visit.false c.visit.ensures.walked in
    let walked_on = from_next c.extended-2.ensures refl c.visit-2.ensures.walked in
    let asked = c.read-state.ensures.greatest_read in let raised = walked.reads.greatest_read in
    let spent =
    subst (λ (value : ℕ). Spends problem (prefix ++ first ∷ []) (n - length (prefix ++ first ∷ [])) value node_limit (before + 1) middle true)
    asked walked.spends in
    let at_start = c.args.state.now.best in let between = c.visit.new.state.best in let at_end = c.visit-2.new.state.best in
    let few : length prefix < most_blocks = omega (arith, inside, c.block_count.ensures.valid.few_blocks) in
    let grows = walked.reads.grows in let grows' = walked_on.reads.grows in let raised' = walked_on.reads.greatest_read in
    let more = walked.spends.grows in let more' = walked_on.spends.grows in
    let greatest_offer = walked.offered in let greatest_offer_after = walked_on.offered in
    record {
      finds =
          finds_twice problem prefix at_start between at_end c.ranking_is_total.ensures.transitive c.requires.going.best
          (finds_shorter problem prefix (first ∷ []) at_start between walked.finds)
          (finds_shorter problem prefix (not first ∷ []) between at_end walked_on.finds);
      covers = λ done.
          covers_both problem prefix first at_start between at_end c.visit.new.state.incumbent_read c.visit-2.new.state.incumbent_read c.ranking_is_total.ensures.transitive
          c.completions_split.ensures.extended few c.requires.going.best walked.finds
          (walked.covers refl) walked_on.finds (walked_on.covers done) grows';
      spends =
          spends_both first inside c.read-state.ensures.rises (omega (arith, asked, raised)) c.in-Some.ensures.1 spent walked_on.spends;
      needed = λ done. needed_both problem prefix first n c.visit.new.state.incumbent_read c.visit-2.new.state.incumbent_read before middle after
          inside few more more' grows' (walked.needed refl) (walked_on.needed done);
      reads =
          reads_asked (omega (arith, inside)) (omega (arith, more, more')) c.requires.going.read
          (omega (arith, c.read-state.ensures.rises, grows, grows')) (omega (arith, asked, raised, raised', grows, grows'));
      offered =
          let rises = welfare_rises between at_end walked_on.finds.rises in
          omega (arith, rises, greatest_offer, greatest_offer_after, c.requires.going.offered, c.read-state.ensures.greatest_offer);
    }
