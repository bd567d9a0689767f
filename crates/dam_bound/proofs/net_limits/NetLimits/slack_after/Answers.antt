-- Some slack is below 0, or none is.
use Rattle.dam_bound.proofs.Common.{arith, ints}
use Rattle.std.specs.Prelude.{pos}
use Rattle.dam_bound.proofs.Limiting.{AreLowered, none_fits, still_slacks, still_has}
use Rattle.dam_bound.proofs.net_limits.NetLimits.slack_after.Goals as goal

pub returns-then-least-lt0-clause-none : goal.returns-then-least-lt0-clause-none
returns-then-least-lt0-clause-none c e sel free has on decided =
    let lowered : AreLowered c.args.self.now.limits c.args.accept c.args.place c.args.slack.now.slacks c.lowered-next.result.slacks =
    record { many = c.lowered-next.ensures.small.many; each = c.lowered-next.ensures.lowered } in
    let test = c.if-least-lt0.true in
    none_fits c.requires.limits.0 c.args.self.now.limits c.args.accept c.args.place c.args.slack.now.slacks c.lowered-next.result.slacks c.least.result
    sel free c.requires.limits.1 c.requires.place lowered c.least.ensures.reached (omega (arith, ints, test)) has on decided

pub returns-else-least-lt0-clause-slacks : goal.returns-else-least-lt0-clause-slacks
returns-else-least-lt0-clause-slacks c =
    let lowered : AreLowered c.args.self.now.limits c.args.accept c.args.place c.args.slack.now.slacks c.lowered-next.result.slacks =
    record { many = c.lowered-next.ensures.small.many; each = c.lowered-next.ensures.lowered } in
    let test = c.if-least-lt0.false in
    still_slacks c.requires.limits.0 c.args.self.now.limits c.args.accept c.args.place c.args.slack.now.slacks c.lowered-next.result.slacks c.least.result
    c.requires.limits.1 c.requires.place c.requires.slacks lowered c.least.ensures.under (omega (arith, ints, test))

pub returns-else-least-lt0-clause-some : goal.returns-else-least-lt0-clause-some
returns-else-least-lt0-clause-some c sel before after has on off same decided =
    let lowered : AreLowered c.args.self.now.limits c.args.accept c.args.place c.args.slack.now.slacks c.lowered-next.result.slacks =
    record { many = c.lowered-next.ensures.small.many; each = c.lowered-next.ensures.lowered } in
    still_has c.requires.limits.0 c.args.self.now.limits c.args.accept c.args.place c.args.slack.now.slacks c.lowered-next.result.slacks sel before after
    c.requires.place lowered has on off same decided

pub returns-else-least-lt0-clause-lowered : goal.returns-else-least-lt0-clause-lowered
returns-else-least-lt0-clause-lowered c k d below = c.lowered-next.ensures.lowered k d below

pub returns-else-least-lt0-clause-left : goal.returns-else-least-lt0-clause-left
returns-else-least-lt0-clause-left c k below =
    let under = c.least.ensures.under k below in
    let test = c.if-least-lt0.false in
    omega (arith, ints, under, test)

pub returns-then-least-lt0-clause-lacking : goal.returns-then-least-lt0-clause-lacking
returns-then-least-lt0-clause-lacking c e =
    let found = c.least.ensures.reached in
    let here = c.lowered-next.ensures.lowered found.0 (pos 0) found.1 in
    let least = found.2 in
    let test = c.if-least-lt0.true in
    (found.0, found.1, omega (arith, ints, here, least, test))
