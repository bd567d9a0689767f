-- The text is the written journal of what was read, or it isn't.
use Rattle.std.proofs.Common.{◌≡◌, Some, sym, ◌∙◌, subst}
use Rattle.dam_results.specs.Journal.{ReadsAs}
use Rattle.dam_results.specs.Written.{written}
use Rattle.dam_desk.proofs.Texts.{other_text, same_text}
use Rattle.dam_desk.proofs.replay.replay_stored_text.Goals as goal

pub returns-clause-journal : goal.returns-clause-journal
returns-clause-journal c =
    let made = c.in_ok-replay.ensures.ok in
    let periods = made.0 in
    let commands = made.1 in
    let of = made.3 in
    let is : c.args.text.now ≡ written periods commands =
    sym (same_text c.as_slice.result.now c.args.text.now c.ne.result c.ne.ensures c.if-ne.false) ∙ c.as_slice.ensures.value
    ∙ c.in_ok-records.ensures (written periods commands) of.1 in
    record {
      journal = Some (record { periods = periods; commands = commands });
      reads = subst (λ t. ReadsAs t periods commands) is made.2;
      same_text = is;
      has = of.0;
      same_replies = of.2;
    }

pub returns-then-ne-clause-fault : goal.returns-then-ne-clause-fault
returns-then-ne-clause-fault c =
    let made = c.in_ok-replay.ensures.ok in (
      made.0,
      made.1,
      made.2,
      λ same. other_text c.as_slice.result.now c.args.text.now c.ne.result c.ne.ensures c.if-ne.true
          (c.as_slice.ensures.value ∙ c.in_ok-records.ensures (written made.0 made.1) made.3.1 ∙ sym same),
    )
