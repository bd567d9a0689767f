use Rattle.std.proofs.Common.{◌≡◌, List, ℕ, ◌+◌, ◌-◌, ◌++◌, [], ◌∷◌, take, drop, length, sym, ap, ◌∙◌, subst}
use Rattle.std.proofs.lemmas.List.{take_rest}
use Rattle.dam_store.specs.inside.Shape.{AreRead}
use Rattle.dam_store.proofs.Lines.{read_more, all_read, line_bytes}
use Rattle.dam_store.proofs.marked_lines.read_marked_lines.Goals as goal

pub loop-len-preserved : goal.loop-len-preserved
loop-len-preserved c =
    let bytes = c.args.bytes.now in
    let rest = c.loop-len.rest.now in
    let len = c.in-Some.len in
    let first = c.in-Some.ensures in
    let text : c.extend_from_slice.new.self.items ≡ c.loop-len.text.items ++ (first.line ++ 10 ∷ []) = c.in_ok-extend_from_slice.ensures.items ∙ ap (λ (l : List ℕ). c.loop-len.text.items ++ l) (line_bytes rest len first) in
    let more = read_more bytes rest c.loop-len.text.items c.loop-len.end len c.loop-len.invariant first in
    subst (λ (l : List ℕ). AreRead bytes (take (length rest - len) (drop len rest)) l (c.loop-len.end + len)) (sym text)
    (subst (λ (l : List ℕ). AreRead bytes l (c.loop-len.text.items ++ (first.line ++ 10 ∷ [])) (c.loop-len.end + len))
    (sym (take_rest rest len)) more)

pub returns-clause-text : goal.returns-clause-text
returns-clause-text c = (all_read c.args.bytes.now c.loop-len.rest.now c.loop-len.text.items c.loop-len.end c.loop-len.invariant c.in_default.ensures).1

pub returns-clause-end : goal.returns-clause-end
returns-clause-end c = (all_read c.args.bytes.now c.loop-len.rest.now c.loop-len.text.items c.loop-len.end c.loop-len.invariant c.in_default.ensures).0
