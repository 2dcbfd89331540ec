-- The answer of a run is what its image and its input come to.
use Rattle.std.proofs.Common.{◌∙◌, sym}
use Rattle.mi_commands.proofs.RunLemmas.{answer_comes, answer_front, answer_whole, answer_last, memory_refused, read_failed, write_failed}
use Rattle.mi_commands.proofs.PossibleLemmas.{answer_may_end}
use Rattle.mi_commands.proofs.commands.run.run_at.Goals as goal

pub returns-clause-cause : goal.returns-clause-cause
returns-clause-cause g c =
    answer_comes c.run_gathered.result c.args.image.now c.args.pair c.args.turns (g.I.Source.left c.args.input.now) c.outcome_of.result c.outcome_of.ensures c.run_gathered.ensures.pair_not_allowed c.run_gathered.ensures.made_for c.run_gathered.ensures.ends

pub returns-clause-possible : goal.returns-clause-possible
returns-clause-possible g c = answer_may_end c.run_gathered.result c.args.pair c.outcome_of.result c.outcome_of.ensures

pub returns-clause-front : goal.returns-clause-front
returns-clause-front g c =
    answer_front c.run_gathered.result c.args.image.now c.args.pair c.args.turns (g.I.Source.left c.args.input.now) (g.O.Sink.written c.args.output.now) (g.O.Sink.written c.run_gathered.new.output) c.run_gathered.ensures.pair_not_allowed c.run_gathered.ensures.made_for c.run_gathered.ensures.writes

pub returns-clause-whole : goal.returns-clause-whole
returns-clause-whole g c =
    answer_whole c.run_gathered.result c.args.image.now c.args.pair c.args.turns (g.I.Source.left c.args.input.now) (g.O.Sink.written c.args.output.now) (g.O.Sink.written c.run_gathered.new.output) c.outcome_of.result c.outcome_of.ensures c.run_gathered.ensures.pair_not_allowed c.run_gathered.ensures.made_for c.run_gathered.ensures.writes

pub returns-clause-last : goal.returns-clause-last
returns-clause-last g c =
    answer_last c.run_gathered.result c.args.image.now c.args.pair c.args.turns (g.I.Source.left c.args.input.now) c.args.gathered.now.last c.run_gathered.new.gathered.last c.outcome_of.result c.outcome_of.ensures c.run_gathered.ensures.pair_not_allowed c.run_gathered.ensures.made_for c.run_gathered.ensures.last

pub returns-clause-untouched : goal.returns-clause-untouched
returns-clause-untouched g c e = c.run_gathered.ensures.untouched (memory_refused c.run_gathered.result c.args.pair (sym c.outcome_of.ensures ∙ e))

pub returns-clause-read_fault : goal.returns-clause-read_fault
returns-clause-read_fault g c e = c.run_gathered.ensures.read_fault (read_failed c.run_gathered.result c.args.pair (sym c.outcome_of.ensures ∙ e))

pub returns-clause-write_fault : goal.returns-clause-write_fault
returns-clause-write_fault g c e = c.run_gathered.ensures.write_fault (write_failed c.run_gathered.result c.args.pair (sym c.outcome_of.ensures ∙ e))

pub returns-clause-stops : goal.returns-clause-stops
returns-clause-stops g c e = c.run_gathered.ensures.wait (read_failed c.run_gathered.result c.args.pair (sym c.outcome_of.ensures ∙ e))
