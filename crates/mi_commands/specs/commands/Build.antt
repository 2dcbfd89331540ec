-- What a build means to do: what its sources come to, where no memory is refused and nothing outside fails.
use Rattle.std.specs.Prelude.{ℕ, ◌+◌, ◌++◌, cond, nat_lt, false, List, [], ◌∷◌, length, map, Option, None, Some, option_map, Result, Ok, Err}
use Rattle.mi_model.specs.declared.Form.{Form}
use Rattle.mi_model.specs.declared.OriginByte.{OriginByte}
use Rattle.mi_model.specs.Build.{BuildEnd}
use Rattle.mi_model.specs.Build.BuildEnd.{Done, Failed, Refused, EntryMissing, Spent as OutOfTurns}
use Rattle.mi_model.specs.Explained.{UnexplainedCell, first_unexplained, image_of}
use Rattle.mi_model.specs.Image.{ImageRecord, image_bytes}
use Rattle.mi_outside.specs.Holding.{Holding}
use Rattle.mi_reloc.specs.declared.building.BuildFault.{BuildFault}
use Rattle.mi_reloc.specs.declared.building.BuildFault.TheVariants.{Thrown as FaultThrown, Spent as FaultSpent, Step as FaultStep, NoEntry as FaultNoEntry, Cell as FaultCell, WriteFault as FaultWrite, NoMemory as FaultNoMemory}
use Rattle.mi_build.specs.Faults.{fault_of_end}
use Rattle.mi_commands.specs.declared.outcome.Outcome.{Outcome}
use Rattle.mi_commands.specs.declared.outcome.Outcome.TheVariants.{Built, NoMemory, NoFile, WriteFault, TooManySources, SourceTooLong, Thrown, Spent, NoEntry, Step, Cell}
use Rattle.mi_commands.specs.Limits.{source_limit, source_count}
use Rattle.mi_commands.specs.Meant.{Meant, StoredFile}
use Rattle.mi_commands.specs.Output.{in_lines}
use Rattle.mi_commands.specs.Report.{report_of}
use Rattle.mi_commands.specs.Settings.{Settings}
use Rattle.mi_commands.specs.Builds.{build_over_origins}

-- the outcome of a build that answers this
abbrev pub outcome_of_fault : BuildFault → Outcome
outcome_of_fault (FaultThrown code file line) = Thrown code file line
outcome_of_fault (FaultSpent turns) = Spent turns
outcome_of_fault (FaultStep number offset tag first second why file line) = Step number offset tag first second why file line
outcome_of_fault FaultNoEntry = NoEntry
outcome_of_fault (FaultCell offset found) = Cell offset found
outcome_of_fault FaultWrite = WriteFault
outcome_of_fault FaultNoMemory = NoMemory

-- the same of the answer to a build that isn't done; an end that has none doesn't come
abbrev pub outcome_undone : Option BuildFault → Outcome
outcome_undone None = NoMemory
outcome_undone (Some fault) = outcome_of_fault fault

-- the outcome of a build that is done: the first cell in use that no cell of an image gives at every pair, or none
abbrev pub outcome_of_cells : Option UnexplainedCell → (used turns : ℕ) → Outcome
outcome_of_cells None used turns = Built used turns
outcome_of_cells (Some c) used turns = Cell c.offset c.found

-- how a build over origins in a region of that size ends
abbrev pub outcome_of_end : (size : ℕ) → BuildEnd Form OriginByte → Outcome
outcome_of_end size (Done m used turns) = outcome_of_cells (first_unexplained size m.bytes used) used turns
outcome_of_end size (Failed fault file line) = outcome_undone (fault_of_end {C = Form} {B = OriginByte} (Failed fault file line))
outcome_of_end size (Refused step) = outcome_undone (fault_of_end {C = Form} {B = OriginByte} (Refused step))
outcome_of_end size EntryMissing = outcome_undone (fault_of_end {C = Form} {B = OriginByte} EntryMissing)
outcome_of_end size (OutOfTurns budget) = outcome_undone (fault_of_end {C = Form} {B = OriginByte} (OutOfTurns budget))

-- the texts of the sources
unfoldable pub outcome_of_texts : Settings → (texts : List (List ℕ)) → Outcome
outcome_of_texts settings texts = outcome_of_end settings.size (build_over_origins settings texts).end

-- the image that is made: that of the region of a build that is done, where each cell in use is explained
abbrev pub image_of_cells : Option UnexplainedCell → ImageRecord → Option ImageRecord
image_of_cells None image = Some image
image_of_cells (Some c) image = None

abbrev pub image_of_end : (size : ℕ) → BuildEnd Form OriginByte → Option ImageRecord
image_of_end size (Done m used turns) = image_of_cells (first_unexplained size m.bytes used) (image_of size m.bytes used)
image_of_end size (Failed fault file line) = None
image_of_end size (Refused step) = None
image_of_end size EntryMissing = None
image_of_end size (OutOfTurns budget) = None

unfoldable pub image_of_texts : Settings → (texts : List (List ℕ)) → Option ImageRecord
image_of_texts settings texts = image_of_end settings.size (build_over_origins settings texts).end

-- a text, and those behind it
abbrev pub with_text : (text : List ℕ) → Result (List (List ℕ)) Outcome → Result (List (List ℕ)) Outcome
with_text text (Ok texts) = Ok (text ∷ texts)
with_text text (Err outcome) = Err outcome

-- the texts of the sources with these contents, the first of which is this file, or the outcome of the first source that is
-- missing or too long
abbrev pub read_from : (file : ℕ) → (contents : List (Option (List ℕ))) → Result (List (List ℕ)) Outcome
read_from file [] = Ok []
read_from file (None ∷ contents) = Err (NoFile file)
read_from file (Some text ∷ contents) = cond (nat_lt source_limit (length text)) (Err (SourceTooLong file)) (with_text text (read_from (file + 1) contents))

-- the same, of not too many sources; files count from 1
abbrev pub sources_read : (contents : List (Option (List ℕ))) → Result (List (List ℕ)) Outcome
sources_read contents = cond (nat_lt source_count (length contents)) (Err (TooManySources (length contents))) (read_from 1 contents)

-- what the files of these names hold
abbrev pub contents_of : Holding → (names : List (List ℕ)) → List (Option (List ℕ))
contents_of held names = map (λ name. held.file name) names

abbrev pub outcome_of_read : Settings → Result (List (List ℕ)) Outcome → Outcome
outcome_of_read settings (Ok texts) = outcome_of_texts settings texts
outcome_of_read settings (Err outcome) = outcome

-- the contents of the files of the sources, each none where there is no such file
abbrev pub outcome_of_sources : Settings → (contents : List (Option (List ℕ))) → Outcome
outcome_of_sources settings contents = outcome_of_read settings (sources_read contents)

-- what the sources with these contents emit
abbrev pub output_of_read : Settings → Result (List (List ℕ)) Outcome → List ℕ
output_of_read settings (Ok texts) = (build_over_origins settings texts).output
output_of_read settings (Err outcome) = []

abbrev pub output_of_sources : Settings → (contents : List (Option (List ℕ))) → List ℕ
output_of_sources settings contents = output_of_read settings (sources_read contents)

-- the image that the sources with these contents make
abbrev pub image_of_read : Settings → Result (List (List ℕ)) Outcome → Option ImageRecord
image_of_read settings (Ok texts) = image_of_texts settings texts
image_of_read settings (Err outcome) = None

abbrev pub image_of_sources : Settings → (contents : List (Option (List ℕ))) → Option ImageRecord
image_of_sources settings contents = image_of_read settings (sources_read contents)

-- what is to be written for them: that, in whole lines, and the report
abbrev pub build_bytes : (out : List ℕ) → (sources : List (List ℕ)) → Settings → (contents : List (Option (List ℕ))) → List ℕ
build_bytes out sources settings contents = in_lines (output_of_sources settings contents) ++ report_of out sources (outcome_of_sources settings contents)

-- the file of an image
abbrev pub file_of : (out : List ℕ) → ImageRecord → StoredFile
file_of out image = record { name = out; bytes = image_bytes image }

-- `build OUT SRC..`, where the sources have these contents
abbrev pub build_meant : (out : List ℕ) → (sources : List (List ℕ)) → Settings → (contents : List (Option (List ℕ))) → Meant
build_meant out sources settings contents = record {
  outcome = outcome_of_sources settings contents;
  emitted = output_of_sources settings contents;
  report = report_of out sources;
  stored = option_map (file_of out) (image_of_sources settings contents);
  reads_input = false;
}
