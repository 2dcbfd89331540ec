use Rattle.std.proofs.Common.{ℕ, []}
use Rattle.mi_build.proofs.PutLemmas.{failed_puts}
use Rattle.mi_build.proofs.course.run_line.Goals as goal

pub returns-in-Err-clause-puts : goal.returns-in-Err-clause-puts
returns-in-Err-clause-puts g c = failed_puts ℕ ℕ c.in-Err.fault _ _ [] _ c.in-Err.ensures.fault.0 c.in-Err.ensures.puts
