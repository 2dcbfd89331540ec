use Rattle.std.proofs.Common.{Ok, Err}
use Rattle.std.proofs.lemmas.Result.{err_from_is_err_and}
use Rattle.mi_outside.specs.Holding.{Creates, Appends, EndsWrite}
use Rattle.mi_outside.specs.declared.traits.Failed.{Failed}
use Rattle.mi_commands.specs.Writing.{WritesPart}
use Rattle.mi_commands.proofs.Told.{still_then, still_so}
use Rattle.mi_commands.proofs.WritingSteps.{IsFilled, filled_part, failed_part, ended_part}
use Rattle.mi_commands.proofs.writing.write_part.Goals as goal

pub returns-in_err-append-clause-written : goal.returns-in_err-append-clause-written
returns-in_err-append-clause-written g c =
    let p = err_from_is_err_and c.from_residual-in_err-append.result c.from_residual-in_err-append.ensures.1 in
    let part = c.args.part.now in
    let bytes = c.args.bytes.now in
    let u = c.in_ok-create.field-0 in
    let e = c.in_err-append.field-0.0 in
    rw p.1
    (still_so (IsFilled {T = Unit {0}} {E = Failed} (Err e) part bytes) (WritesPart {T = Unit {0}} {E = Failed} (Err p.0) part bytes)
    (failed_part e p.0 part bytes) _ _
    (still_then (Creates {T = Unit {0}} {E = Failed} (Ok u) part) (Appends {T = Unit {0}} {E = Failed} (Err e) bytes)
    (IsFilled {T = Unit {0}} {E = Failed} (Err e) part bytes)
    (filled_part {U = Unit {0}} u (Err e) part bytes) _ _ _ c.in_ok-create.ensures.created c.in_err-append.ensures.appended))

pub returns-clause-written : goal.returns-clause-written
returns-clause-written g c =
    let part = c.args.part.now in
    let bytes = c.args.bytes.now in
    let u = c.in_ok-create.field-0 in
    let v = c.in_ok-append.field-0 in
    let r = c.end_write.result in
    still_then (IsFilled {T = Unit {0}} {E = Failed} (Ok v) part bytes) (EndsWrite r) (WritesPart r part bytes)
    (ended_part v r part bytes) _ _ _
    (still_then (Creates {T = Unit {0}} {E = Failed} (Ok u) part) (Appends {T = Unit {0}} {E = Failed} (Ok v) bytes)
    (IsFilled {T = Unit {0}} {E = Failed} (Ok v) part bytes)
    (filled_part {U = Unit {0}} u (Ok v) part bytes) _ _ _ c.in_ok-create.ensures.created c.in_ok-append.ensures.appended)
    c.end_write.ensures.ended
