use Rattle.std.proofs.Common.{◌≡◌, ℕ, IfOk, IfErr, ap, subst}
use Rattle.mi_model.specs.OriginOps.{origin_ops}
use Rattle.mi_model.specs.Explained.{first_unexplained}
use Rattle.mi_machine.specs.Ready.{IsTidy}
use Rattle.mi_build.specs.Builds.{origin_build, plain_build}
use Rattle.mi_build.specs.Made.{CellIsTold}
use Rattle.mi_build.proofs.EveryPairLemmas.{agrees_at, ends_at, fault_at_pair, image_kind, IsMade, region_of, regions_stand, done_region}
use Rattle.mi_build.proofs.Reached.{reached}
use Rattle.mi_build.proofs.origin.build_gathered.Goals as goal

pub returns-in-Ok-clause-image : goal.returns-in-Ok-clause-image
returns-in-Ok-clause-image g c = image_kind c.image_made.result c.in-Ok.machine.state.arith.size c.in-Ok.machine.state.machine c.in-Ok.used c.in-Ok.turns c.image_made.ensures.image

pub returns-in-Ok-clause-every_pair : goal.returns-in-Ok-clause-every_pair
returns-in-Ok-clause-every_pair g c pair allowed =
    let settings = c.args.settings.now in
    let m = c.in-Ok.machine.state.machine in
    let r = c.image_made.result in
    let size : c.in-Ok.machine.state.arith.size ≡ settings.size = ap (λ (a : _). a.size) c.in-Ok.ensures.arith in
    let is : IfOk r (λ made. IsMade made settings.size m c.in-Ok.used c.in-Ok.turns) = subst (λ (n : ℕ). IfOk r (λ made. IsMade made n m c.in-Ok.used c.in-Ok.turns)) size c.image_made.ensures.image in
    let cell : IfErr r (λ e. CellIsTold e (first_unexplained settings.size m.bytes c.in-Ok.used)) = subst (λ (n : ℕ). IfErr r (λ e. CellIsTold e (first_unexplained n m.bytes c.in-Ok.used))) size c.image_made.ensures.cell in
    ends_at r settings.size m c.in-Ok.used c.in-Ok.turns pair (origin_build settings c.args.sources.now) (plain_build pair settings c.args.sources.now) allowed
    (agrees_at settings c.args.sources.now pair c.requires.size allowed) c.in-Ok.ensures.ends c.in-Ok.ensures.tidy is cell c.image_made.ensures.loaded

pub returns-in-Ok-clause-no_image : goal.returns-in-Ok-clause-no_image
returns-in-Ok-clause-no_image g c offset x is r within hyp =
    let settings = c.args.settings.now in
    let m = c.in-Ok.machine.state.machine in
    c.image_made.ensures.no_image offset x is (λ pair. region_of (plain_build pair settings c.args.sources.now).end)
    (λ pair allowed. regions_stand pair (origin_build settings c.args.sources.now) (plain_build pair settings c.args.sources.now) m c.in-Ok.used c.in-Ok.turns
    (agrees_at settings c.args.sources.now pair c.requires.size allowed) c.in-Ok.ensures.ends)
    r within (λ pair allowed. done_region (plain_build pair settings c.args.sources.now).end _ (hyp pair allowed))

pub returns-in-Err-clause-every_pair : goal.returns-in-Err-clause-every_pair
returns-in-Err-clause-every_pair g c pair allowed =
    let settings = c.args.settings.now in
    fault_at_pair c.in-Err.fault pair (origin_build settings c.args.sources.now) (plain_build pair settings c.args.sources.now) (agrees_at settings c.args.sources.now pair c.requires.size allowed) c.in-Err.ensures.ends

pub returns-in-Ok-clause-reached : goal.returns-in-Ok-clause-reached
returns-in-Ok-clause-reached g c pair s allowed = reached c.args.settings.now c.args.sources.now pair s c.requires.size allowed

pub returns-in-Err-clause-reached : goal.returns-in-Err-clause-reached
returns-in-Err-clause-reached g c pair s allowed = reached c.args.settings.now c.args.sources.now pair s c.requires.size allowed
