-- What was written: by a build that made no image, by one whose image wasn't stored, and by one that was.
use Rattle.std.proofs.Common.{◌≡◌, ◌≢◌, ℕ, arith, ap, sym, subst, ◌∙◌, Result, Err}
use Rattle.mi_reloc.specs.declared.building.Made.{Made}
use Rattle.mi_commands.specs.declared.outcome.Outcome.{Outcome}
use Rattle.mi_commands.specs.declared.outcome.Outcome.TheVariants.{Built, NoMemory, ReadFault, WriteFault}
use Rattle.mi_commands.specs.Contract.{ServesEveryPair}
use Rattle.mi_commands.specs.Settings.{settings_in_bytes}
use Rattle.mi_commands.specs.Options.{words_of}
use Rattle.mi_commands.proofs.OutputLemmas.{emits_then, unmade_writes, unmade_writes_all, unstored_writes, stored_writes, stored_writes_all}
use Rattle.mi_commands.proofs.RunOutput.{told_outcome}
use Rattle.mi_commands.proofs.CauseLemmas.{sources_image}
use Rattle.mi_commands.proofs.SourceLemmas.{have_texts}
use Rattle.mi_commands.proofs.Told.{still_then}
use Rattle.mi_commands.proofs.WritingSteps.{in_place_then}
use Rattle.mi_model.specs.Image.{image_bytes}
use Rattle.mi_outside.specs.Holding.{SameFiles}
use Rattle.mi_commands.specs.Writing.{part_of, IsInPlace}
use Rattle.mi_commands.proofs.PossibleLemmas.{unbuilt_fails, unstored_fails}
use Rattle.mi_commands.proofs.PartLemmas.{part_kept, part_then, part_placed, unstored_keeps}
use Rattle.mi_commands.proofs.commands.build.build_sources.Goals as goal

pub returns-in-Err-clause-writes : goal.returns-in-Err-clause-writes
returns-in-Err-clause-writes g c =
    unmade_writes (g.F.Files.held c.args.files.now) c.args.out.now (words_of c.args.sources.now) (settings_in_bytes c.args.settings.now) c.refuse.result _ _ _ c.in-Err.ensures.cut c.refuse.ensures.front

abbrev refused : Outcome → Result Made Outcome
refused outcome = Err outcome

pub returns-in-Err-clause-writes_all : goal.returns-in-Err-clause-writes_all
returns-in-Err-clause-writes_all g c memory files output =
    let same : c.refuse.result ≡ c.in-Err.outcome = told_outcome c.refuse.result c.in-Err.outcome c.refuse.ensures.same memory in
    let m : c.in-Err.outcome ≢ NoMemory = λ e. memory (same ∙ e) in
    let r : c.in-Err.outcome ≢ ReadFault = λ e. files (c.in-Err.ensures.read_fault (ap (λ (o : Outcome). refused o) e)) in
    let w : c.in-Err.outcome ≢ WriteFault = λ e. output (omega (arith, c.in-Err.ensures.write_fault (ap (λ (o : Outcome). refused o) e), c.refuse.ensures.later)) in
    unmade_writes_all (g.F.Files.held c.args.files.now) c.args.out.now (words_of c.args.sources.now) (settings_in_bytes c.args.settings.now) c.in-Err.outcome c.refuse.result _ _ _ same c.in-Err.ensures.cause m r w
    (c.in-Err.ensures.whole m r w) (c.refuse.ensures.whole (λ e. output (omega (arith, e, c.in-Err.ensures.output_later))))

pub returns-in-Err-store-clause-writes : goal.returns-in-Err-store-clause-writes
returns-in-Err-store-clause-writes g c =
    let made = c.in-Ok.ensures.made in
    let meant = made.1.meant ∙ ap (λ (u : ℕ). Built u c.in-Ok.made.turns) (sym c.used.ensures) in
    unstored_writes (g.F.Files.held c.args.files.now) c.args.out.now (words_of c.args.sources.now) made.0 (settings_in_bytes c.args.settings.now) (Built c.used.result c.in-Ok.made.turns) c.refuse-in-Err-store.result _ _ _ _ made.1.read meant made.1.emitted c.in-Err-store.ensures.front c.refuse-in-Err-store.ensures.front

pub returns-clause-writes : goal.returns-clause-writes
returns-clause-writes g c =
    let made = c.in-Ok.ensures.made in
    let meant = made.1.meant ∙ ap (λ (u : ℕ). Built u c.in-Ok.made.turns) (sym c.used.ensures) in
    let all = stored_writes_all (g.F.Files.held c.args.files.now) c.args.out.now (words_of c.args.sources.now) made.0 (settings_in_bytes c.args.settings.now) (Built c.used.result c.in-Ok.made.turns) _ _ made.1.read meant
    (emits_then _ _ _ _ _ made.1.emitted c.in-Ok-store.ensures.reported) in
    stored_writes (g.F.Files.held c.args.files.now) c.args.out.now (words_of c.args.sources.now) (settings_in_bytes c.args.settings.now) (Built c.used.result c.in-Ok.made.turns) _ _ all

pub returns-clause-does : goal.returns-clause-does
returns-clause-does g c =
    let made = c.in-Ok.ensures.made in
    let out = c.args.out.now in
    let image = c.in-Ok.made.image in (
      made.0,
      image,
      record {
        read = have_texts (words_of c.args.sources.now) made.0 (g.F.Files.held c.args.files.now) made.1.read;
        of_sources = sources_image (words_of c.args.sources.now) made.0 (settings_in_bytes c.args.settings.now) image (g.F.Files.held c.args.files.now) made.1.read made.1.of_texts;
        serves = subst (λ (u : ℕ). ServesEveryPair image u c.in-Ok.made.turns (settings_in_bytes c.args.settings.now) made.0) (sym c.used.ensures) made.1.serves;
        stored = still_then SameFiles (IsInPlace (part_of out) out (image_bytes image)) (IsInPlace (part_of out) out (image_bytes image)) (in_place_then (part_of out) out (image_bytes image)) _ _ _ c.in-Ok.ensures.kept c.in-Ok-store.ensures.stored;
        reported = emits_then _ _ _ _ _ made.1.emitted c.in-Ok-store.ensures.reported;
      },
    )

pub returns-in-Err-clause-written : goal.returns-in-Err-clause-written
returns-in-Err-clause-written g c zero = absurd (unbuilt_fails c.in-Err.outcome c.refuse.result _ c.refuse.ensures.same c.in-Err.ensures.unbuilt c.in-Err.ensures.possible zero)

pub returns-in-Err-store-clause-written : goal.returns-in-Err-store-clause-written
returns-in-Err-store-clause-written g c zero = absurd (unstored_fails c.outcome_unstored.result c.refuse-in-Err-store.result c.refuse-in-Err-store.ensures.same c.outcome_unstored.ensures.refusal zero)

pub returns-clause-written : goal.returns-clause-written
returns-clause-written g c zero =
    let made = c.in-Ok.ensures.made in
    let meant = made.1.meant ∙ ap (λ (u : ℕ). Built u c.in-Ok.made.turns) (sym c.used.ensures) in
    stored_writes_all (g.F.Files.held c.args.files.now) c.args.out.now (words_of c.args.sources.now) made.0 (settings_in_bytes c.args.settings.now) (Built c.used.result c.in-Ok.made.turns) _ _ made.1.read meant
    (emits_then _ _ _ _ _ made.1.emitted c.in-Ok-store.ensures.reported)

pub returns-in-Err-clause-part : goal.returns-in-Err-clause-part
returns-in-Err-clause-part g c calm = part_kept (part_of c.args.out.now) _ _ c.in-Err.ensures.kept

pub returns-in-Err-store-clause-part : goal.returns-in-Err-store-clause-part
returns-in-Err-store-clause-part g c calm =
    part_then (part_of c.args.out.now) _ _ _ c.in-Ok.ensures.kept (c.in-Err-store.ensures.part (λ rose. calm (omega (arith, rose, c.in-Ok.ensures.later))))

pub returns-clause-part : goal.returns-clause-part
returns-clause-part g c calm =
    part_then (part_of c.args.out.now) _ _ _ c.in-Ok.ensures.kept (part_placed (part_of c.args.out.now) c.args.out.now (image_bytes c.in-Ok.made.image) _ _ c.in-Ok-store.ensures.stored)

pub returns-in-Err-store-clause-does : goal.returns-in-Err-store-clause-does
returns-in-Err-store-clause-does g c =
    unstored_keeps c.outcome_unstored.result c.refuse-in-Err-store.result c.args.out.now (words_of c.args.sources.now) (settings_in_bytes c.args.settings.now) _ _ _ _ _ c.refuse-in-Err-store.ensures.same c.outcome_unstored.ensures.refusal c.in-Ok.ensures.kept c.in-Err-store.ensures.kept
