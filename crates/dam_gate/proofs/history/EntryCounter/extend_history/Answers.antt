-- The exchange keeps the rule of the word.
use Rattle.std.proofs.Common.{sym, ◌∙◌, ap}
use Rattle.dam_gate.proofs.Adding.{adds_moves}
use Rattle.dam_gate.proofs.history.EntryCounter.extend_history.Goals as goal

pub compare_exchange-found-requires : goal.compare_exchange-found-requires
compare_exchange-found-requires g c =
    let h = c.args.self.now.count_is in
    let offer = c.plain-offer.ensures in
    let pen = c.no_pen-pen.ensures in
    let book = c.learn-2.ensures.0 ∙ (c.learn.ensures.0 ∙ (ap (λ s. s.book) c.again-all.ensures ∙ c.history.invariant.1)) in (
      ap (λ w. w.tracked) h,
      book ∙ sym (ap (λ w. w.book) h),
      pen.0 ∙ (book ∙ sym (ap (λ w. w.book) h)),
      offer.0,
      rw (ap (λ w. w.key) h, pen.1, offer.1, offer.3) (adds_moves c.learn-2.new.self.log c.args.entry.now c.history.inside.held),
    )
