use Rattle.mi_reloc.proofs.Eight.{eight_small}
use Rattle.mi_reloc.proofs.fixed.cell_at.Goals as goal

pub returns-clause-bytes : goal.returns-clause-bytes
returns-clause-bytes c =
    eight_small c.args.state.now.machine.bytes c.args.offset c.byte_at.ensures.small c.byte_at-2.ensures.small c.byte_at-3.ensures.small c.byte_at-4.ensures.small
    c.byte_at-5.ensures.small c.byte_at-6.ensures.small c.byte_at-7.ensures.small c.byte_at-8.ensures.small
