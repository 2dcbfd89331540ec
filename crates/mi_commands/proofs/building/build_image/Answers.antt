-- The answer of the build, in the words of the program.
use Rattle.mi_commands.proofs.BuildAnswers.{serves, means, makes, comes, claims, emits, front, whole, last, last_refused}
use Rattle.mi_commands.proofs.building.build_image.Goals as goal

pub returns-clause-serves : goal.returns-clause-serves
returns-clause-serves g c = serves c.build_gathered.result c.args.settings.now c.args.sources.now c.build_gathered.ensures.answers c.build_gathered.ensures.image c.build_gathered.ensures.every_pair

pub returns-clause-meant : goal.returns-clause-meant
returns-clause-meant g c = means c.build_gathered.result c.args.settings.now c.args.sources.now c.build_gathered.ensures.answers

pub returns-clause-image : goal.returns-clause-image
returns-clause-image g c = makes c.build_gathered.result c.args.settings.now c.args.sources.now c.build_gathered.ensures.answers

pub returns-clause-cause : goal.returns-clause-cause
returns-clause-cause g c = comes c.build_gathered.result c.args.settings.now c.args.sources.now c.build_gathered.ensures.answers

pub returns-clause-claims : goal.returns-clause-claims
returns-clause-claims g c = claims c.build_gathered.result c.args.settings.now c.args.sources.now c.build_gathered.ensures.every_pair c.build_gathered.ensures.no_image c.build_gathered.ensures.reached

pub returns-clause-emits : goal.returns-clause-emits
returns-clause-emits g c = emits c.build_gathered.result c.args.settings.now c.args.sources.now _ _ c.build_gathered.ensures.emits

pub returns-clause-front : goal.returns-clause-front
returns-clause-front g c = front c.build_gathered.result c.args.settings.now c.args.sources.now _ _ c.build_gathered.ensures.emits

pub returns-clause-whole : goal.returns-clause-whole
returns-clause-whole g c = whole c.build_gathered.result c.args.settings.now c.args.sources.now _ _ c.build_gathered.ensures.emits

pub returns-clause-last : goal.returns-clause-last
returns-clause-last g c = last c.build_gathered.result c.args.settings.now c.args.sources.now c.args.gathered.now.last c.build_gathered.new.gathered.last c.build_gathered.ensures.last

pub returns-clause-last_refused : goal.returns-clause-last_refused
returns-clause-last_refused g c = last_refused c.build_gathered.result c.args.settings.now c.args.sources.now c.args.gathered.now.last c.build_gathered.new.gathered.last c.build_gathered.ensures.last
