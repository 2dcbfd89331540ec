use Rattle.std.proofs.Common.{Ok, Err}
use Rattle.std.proofs.lemmas.Result.{err_from_is_err_and}
use Rattle.mi_outside.specs.Holding.{BeginsRead}
use Rattle.mi_outside.specs.declared.traits.Failed.{Failed}
use Rattle.mi_commands.specs.declared.reading.ReadProblem.TheVariants.{Missing, Fault}
use Rattle.mi_commands.specs.Reading.{ReadsSource}
use Rattle.mi_commands.specs.Pieces.{ReadsRest}
use Rattle.mi_commands.proofs.Told.{while_then, while_so}
use Rattle.mi_commands.proofs.ReadingSteps.{begun_rest, begun_none, begun_failed, is_begun}
use Rattle.mi_commands.proofs.reading.read_whole.Goals as goal

pub returns-in_err-begin_read-clause-read : goal.returns-in_err-begin_read-clause-read
returns-in_err-begin_read-clause-read g c =
    let p = err_from_is_err_and c.from_residual-in_err-begin_read.result c.from_residual-in_err-begin_read.ensures.1 in
    let name = c.args.name.now in
    let failed = c.in_err-begin_read.field-0.0 in
    rw (p.1, p.2)
    (while_so (BeginsRead {E = Failed} (Err failed) name) (ReadsSource (Err Fault) name) (begun_failed failed name)
    _ _ c.in_err-begin_read.ensures.begun)

pub returns-then-not-branch-clause-read : goal.returns-then-not-branch-clause-read
returns-then-not-branch-clause-read g c =
    let name = c.args.name.now in
    let begun = c.in_ok-begin_read.field-0 in
    while_so (BeginsRead {E = Failed} (Ok begun) name) (ReadsSource (Err Missing) name)
    (λ x y. begun_none begun name x y c.if-not-branch.true) _ _ c.in_ok-begin_read.ensures.begun

pub returns-clause-read : goal.returns-clause-read
returns-clause-read g c =
    let name = c.args.name.now in
    let begun = c.in_ok-begin_read.field-0 in
    let answer = c.read_rest.result in
    while_then (BeginsRead {E = Failed} (Ok begun) name) (ReadsRest answer) (ReadsSource answer name)
    (λ x y z r. begun_rest answer name x y z (is_begun begun name x y c.if-not-branch.false r))
    _ _ _ c.in_ok-begin_read.ensures.begun c.read_rest.ensures.read
