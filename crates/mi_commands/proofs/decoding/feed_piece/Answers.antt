-- What was fed to the decoder is no longer left of the file.
use Rattle.std.proofs.Common.{rules, refl}
use Rattle.mi_commands.specs.Decoding.{fed}
use Rattle.mi_commands.proofs.DecodingSteps.{piece_told, refusal_told, taken_grows, taken_most}
use Rattle.mi_commands.proofs.decoding.feed_piece.Goals as goal

pub returns-in-Ok-feed-clause-read : goal.returns-in-Ok-feed-clause-read
returns-in-Ok-feed-clause-read g c =
    piece_told c.args.decoder.now c.feed.new.self c.in-Ok.count c.args.buffer.now c.read.new.into _ _ _ refl c.in-Ok-feed.ensures.taken c.in-Ok.ensures.bytes

pub returns-in-Ok-feed-clause-grown : goal.returns-in-Ok-feed-clause-grown
returns-in-Ok-feed-clause-grown g c more = taken_grows c.args.decoder.now c.feed.new.self _ (search rules) c.in-Ok-feed.ensures.taken

pub returns-in-Ok-feed-clause-most : goal.returns-in-Ok-feed-clause-most
returns-in-Ok-feed-clause-most g c more = taken_most c.args.decoder.now c.feed.new.self _ c.in-Ok-feed.ensures.taken

pub returns-in-Err-feed-clause-read : goal.returns-in-Err-feed-clause-read
returns-in-Err-feed-clause-read g c =
    refusal_told c.args.decoder.now (fed c.feed.new.self) c.in-Err-feed.fault c.outcome_of.result c.in-Ok.count c.args.buffer.now c.read.new.into _ _ _ c.requires.feeding c.outcome_of.ensures.outcome refl c.in-Err-feed.ensures.refused c.in-Ok.ensures.bytes
