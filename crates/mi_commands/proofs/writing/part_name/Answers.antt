use Rattle.std.proofs.Common.{◌≡◌, ◌≢◌, string_bytes, String}
use Rattle.std.specs.declared.alloc.Global.{Global}
use Rattle.std.proofs.lemmas.Result.{IfOk-weaker}
use Rattle.mi_commands.specs.Writing.{part_of}
use Rattle.mi_commands.proofs.WritingSteps.{part_differs}
use Rattle.mi_commands.proofs.writing.part_name.Goals as goal

pub returns-clause-differs : goal.returns-clause-differs
returns-clause-differs c =
    IfOk-weaker c.format.result (λ (part : String Global). string_bytes part ≡ part_of c.args.out.now)
    (λ (part : String Global). string_bytes part ≢ c.args.out.now)
    (λ part is. part_differs c.args.out.now (string_bytes part) is) c.format.ensures.ok
