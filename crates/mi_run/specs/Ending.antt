-- What a run of an image answers and writes.
use Rattle.std.specs.Prelude.{ℕ, ◌≡◌, List, [], Option}
use Rattle.mi_model.specs.declared.Pair.{Pair}
use Rattle.mi_model.specs.Image.{ImageRecord, loaded}
use Rattle.mi_model.specs.Plain.{plain_ops}
use Rattle.mi_model.specs.Kernel.{whole_kernel}
use Rattle.mi_model.specs.Ops.{Ops}
use Rattle.mi_model.specs.Machine.{Machine}
use Rattle.mi_model.specs.Run.{Run, run, machine_on, RunEnd as ModelEnd}
use Rattle.mi_model.specs.Run.RunEnd.{Bye as ModelBye, Thrown as ModelThrown, Spent as ModelSpent, InputTooLong as ModelTooLong}
use Rattle.mi_outside.specs.Gathered.{last_of}
use Rattle.mi_outside.specs.Written.{Emits, EmitsFront}
use Rattle.mi_reloc.specs.declared.ending.RunEnd.{RunEnd}
use Rattle.mi_reloc.specs.declared.ending.RunEnd.TheVariants.{Bye, Thrown, Spent, ReadFault, WriteFault, InputTooLong, PairNotAllowed, MadeFor, NoMemory}

-- the run of an image that is loaded at a pair
abbrev pub run_of : ImageRecord → Pair → (input : List ℕ) → (turns : ℕ) → Run
run_of image pair input turns = run whole_kernel (plain_ops pair image.size) (loaded image pair) input turns

-- a machine on a region that stands where a machine begins
abbrev pub at_start : Ops ℕ ℕ → (region : List ℕ) → Machine ℕ ℕ
at_start ops region = record (machine_on ops region) { ip = ops.region_cell 264 }

-- a run that ends so is answered so, unless the input or the output failed or it wasn't begun
abbrev pub EndsAs : RunEnd → (turns : ℕ) → ModelEnd → Type 0
EndsAs Bye turns told = told ≡ ModelBye
EndsAs (Thrown code) turns told = told ≡ ModelThrown code
EndsAs (Spent taken) turns told = (told ≡ ModelSpent) × (taken ≡ turns)
EndsAs InputTooLong turns told = told ≡ ModelTooLong
EndsAs ReadFault turns told = Unit {0}
EndsAs WriteFault turns told = Unit {0}
EndsAs PairNotAllowed turns told = Unit {0}
EndsAs (MadeFor pair) turns told = Unit {0}
EndsAs NoMemory turns told = Unit {0}

-- what it emits was written, or a front of that where the input or the output failed
abbrev pub WritesAs : RunEnd → Option (List ℕ) → Option (List ℕ) → List ℕ → Type 0
WritesAs Bye old new bytes = Emits old new bytes
WritesAs (Thrown code) old new bytes = Emits old new bytes
WritesAs (Spent taken) old new bytes = Emits old new bytes
WritesAs InputTooLong old new bytes = Emits old new bytes
WritesAs ReadFault old new bytes = EmitsFront old new bytes
WritesAs WriteFault old new bytes = EmitsFront old new bytes
WritesAs PairNotAllowed old new bytes = Emits old new []
WritesAs (MadeFor pair) old new bytes = Emits old new []
WritesAs NoMemory old new bytes = Emits old new []

-- where all that it emits was written, this is the last byte of that, or the one before where it emits nothing
abbrev pub KeepsLast : RunEnd → (before now : ℕ) → List ℕ → Type 0
KeepsLast Bye before now bytes = now ≡ last_of before bytes
KeepsLast (Thrown code) before now bytes = now ≡ last_of before bytes
KeepsLast (Spent taken) before now bytes = now ≡ last_of before bytes
KeepsLast InputTooLong before now bytes = now ≡ last_of before bytes
KeepsLast ReadFault before now bytes = Unit {0}
KeepsLast WriteFault before now bytes = Unit {0}
KeepsLast PairNotAllowed before now bytes = now ≡ before
KeepsLast (MadeFor pair) before now bytes = now ≡ before
KeepsLast NoMemory before now bytes = now ≡ before

-- it wasn't begun: the pair is refused, or there is no memory
abbrev pub IsRefusal : RunEnd → Type 0
IsRefusal Bye = ⊥
IsRefusal (Thrown code) = ⊥
IsRefusal (Spent taken) = ⊥
IsRefusal InputTooLong = ⊥
IsRefusal ReadFault = ⊥
IsRefusal WriteFault = ⊥
IsRefusal PairNotAllowed = Unit {0}
IsRefusal (MadeFor pair) = Unit {0}
IsRefusal NoMemory = Unit {0}
