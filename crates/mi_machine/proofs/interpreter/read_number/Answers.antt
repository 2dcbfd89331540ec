-- The next text is the one before it and the byte.
use Rattle.std.proofs.Common.{◌≡◌, [], ◌∷◌, ◌++◌, ◌+◌, ◌-◌, sym, ◌∙◌, arith}
use Rattle.mi_model.specs.Outcome.{outcome_of}
use Rattle.mi_model.specs.Parsing.{read_on}
use Rattle.mi_machine.proofs.Reading.{read_one, name_read}
use Rattle.mi_machine.proofs.interpreter.read_number.Goals as goal

-- src/interpreter.rt:97:5
pub bytes-preserved : goal.bytes-preserved
bytes-preserved g c =
    let before = c.bytes.invariant.read in
    let ops = g.A.Arith.ops c.args.state.now.arith in
    let name = c.args.name in
    let m = c.args.state.now.machine in
    let next = before.0 ++ c.in_ok-fetch_byte_at.field-0 ∷ [] in
    let step : outcome_of ops (read_on (name.length - c.bytes.i) (name.place + c.bytes.i) before.0) m [] ≡ outcome_of ops (read_on (name.length - (c.bytes.i + 1)) (name.place + (c.bytes.i + 1)) next) m [] =
    read_one ops name.length c.bytes.i name.place before.0 m c.in_ok-fetch_byte_at.field-0 (omega arith) (sym c.fetch_byte_at.ensures ∙ c.in_ok-fetch_byte_at.was) in
    record {
      within = omega arith;
      read = (next, c.feed.ensures c.args.base before.0 before.1, sym step ∙ before.2);
    }

-- src/interpreter.rt:85:1
pub returns : goal.returns
returns g c =
    let before = c.bytes.invariant.read in
    name_read (g.A.Arith.ops c.args.state.now.arith) c.args.base c.args.name c.bytes.i before.0 c.args.state.now.machine c.end.result (omega arith) before.2 (c.end.ensures c.args.base before.0 before.1)
