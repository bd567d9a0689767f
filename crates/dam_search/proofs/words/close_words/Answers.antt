-- The last state of the words met the rule, and this seat's view was the only one that isn't spent.
use Rattle.dam_search.proofs.Common.{ℕ, List, subst, AreClosedWords}
use Rattle.dam_search.proofs.Rule.{closes, closed_words}
use Rattle.dam_search.proofs.words.close_words.Goals as goal

pub returns : goal.returns
returns c =
    let last = c.close_with-closed.ensures.values.2 in let pieces = c.args.words.shared.key in let view = c.args.seat.me.0 in
    let closed = subst (λ (ws : List ℕ). AreClosedWords pieces ws view) last.2
    (closes pieces last.0 c.args.seat.id view last.1.0 last.1.1 c.requires.all) in
    closed_words pieces c.word-draws.result c.word-offered.result _ view closed c.word-draws.ensures c.word-offered.ensures
