-- What the calls of reading do together.
use Rattle.std.proofs.Common.{◌≡◌, ℕ, List, ◌++◌, length, Some, None, Ok, Err, true, false, Bool, sym, ◌∙◌, ap, subst, arith}
use Rattle.std.specs.Prelude.{Vec, Option, IfSome}
use Rattle.std.specs.declared.alloc.Global.{Global}
use Rattle.mi_outside.specs.Holding.{Holding, SameFiles, BeginsRead, EndsRead}
use Rattle.mi_outside.specs.Telling.{WhileTold}
use Rattle.mi_outside.specs.declared.traits.Failed.{Failed}
use Rattle.mi_commands.specs.declared.reading.ReadProblem.{ReadProblem}
use Rattle.mi_commands.specs.declared.reading.ReadProblem.TheVariants.{Missing, TooLong, Fault, NoMemory}
use Rattle.mi_commands.specs.Reading.{Answer, AnswersFor, HasNoText, ReadsSource}
use Rattle.mi_commands.specs.Pieces.{PieceFits, ReadsPiece, ReadsRest}

-- what was left of the file being read at first is the text and what is left now
pub record IsReadTo (text : List ℕ) (old new : Holding) : Type 0 where
  pub rest : (rest : List ℕ) → old.reading ≡ Some rest → (left : List ℕ) × ((new.reading ≡ Some left) × (rest ≡ text ++ left))
  pub files : SameFiles old new
  pub writing : new.writing ≡ old.writing

-- after one more piece
pub read_to_more : (text after : List ℕ) (x y z : Holding) → IsReadTo text x y → ReadsPiece (Ok true) text after y z → IsReadTo after x z
read_to_more text after x y z r s =
    record {
      rest = λ rest e.
          let at = r.rest rest e in
          let piece : PieceFits (Ok true) text after at.0 z.reading = s.piece at.0 at.1.0 in
          (piece.0, (piece.1, at.1.1 ∙ piece.2));
      files = λ name. s.files name ∙ r.files name;
      writing = s.writing ∙ r.writing;
    }

-- at the end
pub read_to_end : (text : List ℕ) (v : Vec ℕ Global) (x y z : Holding) → IsReadTo text x y → ReadsPiece (Ok false) text v.items y z → ReadsRest (Ok v) x z
read_to_end text v x y z r s =
    record {
      answer = λ rest e.
          let at = r.rest rest e in
          ap (λ (bytes : List ℕ). Some bytes) (at.1.1 ∙ s.piece at.0 at.1.0);
      files = λ name. s.files name ∙ r.files name;
      writing = s.writing ∙ r.writing;
    }

-- a refusal
pub refused_rest : (problem : ReadProblem) (text after rest left : List ℕ) (reading : Option (List ℕ)) → rest ≡ text ++ left → PieceFits (Err problem) text after left reading → AnswersFor (Err problem) (Some rest)
refused_rest Missing text after rest left reading is fits = absurd fits
refused_rest TooLong text after rest left reading is fits = let e : length rest ≡ length (text ++ left) = ap length is in omega (arith, e, fits)
refused_rest Fault text after rest left reading is fits = tt
refused_rest NoMemory text after rest left reading is fits = tt

pub read_to_refusal : (problem : ReadProblem) (text after : List ℕ) (x y z : Holding) → IsReadTo text x y → ReadsPiece (Err problem) text after y z → ReadsRest (Err problem) x z
read_to_refusal problem text after x y z r s =
    record {
      answer = λ rest e.
          let at = r.rest rest e in
          refused_rest problem text after rest at.0 z.reading at.1.1 (s.piece at.0 at.1.0);
      files = λ name. s.files name ∙ r.files name;
      writing = s.writing ∙ r.writing;
    }

-- the file that was begun was read to its end, or a refusal came
pub begun_rest : (answer : Answer) (name : List ℕ) (x y z : Holding) → BeginsRead {E = Failed} (Ok true) name x y → ReadsRest answer y z → ReadsSource answer name x z
begun_rest answer name x y z r s =
    record {
      answer = subst (AnswersFor answer) (sym r.begun.1) (s.answer r.begun.0 r.begun.2);
      files = λ q. s.files q ∙ r.files q;
      writing = s.writing ∙ r.writing;
    }

-- there is no file to begin, or the call failed
pub begun_none : (begun : Bool) (name : List ℕ) (x y : Holding) → begun ≡ false → BeginsRead {E = Failed} (Ok begun) name x y → ReadsSource (Err Missing) name x y
begun_none false name x y is r = record { answer = r.begun.0; files = r.files; writing = r.writing }
begun_none true name x y is r = let no : ⊥ = cc in absurd no

pub begun_failed : (failed : Failed) (name : List ℕ) (x y : Holding) → BeginsRead {E = Failed} (Err failed) name x y → ReadsSource (Err Fault) name x y
begun_failed failed name x y r = record { answer = tt; files = r.files; writing = r.writing }

pub is_begun : (begun : Bool) (name : List ℕ) (x y : Holding) → begun ≡ true → BeginsRead {E = Failed} (Ok begun) name x y → BeginsRead {E = Failed} (Ok true) name x y
is_begun true name x y is r = r
is_begun false name x y is r = let no : ⊥ = cc in absurd no

-- the end of reading changes no file
pub source_ended : (answer : Answer) (name : List ℕ) (x y z : Holding) → ReadsSource answer name x y → EndsRead y z → ReadsSource answer name x z
source_ended answer name x y z r s =
    record {
      answer = r.answer;
      files = λ q. s.files q ∙ r.files q;
      writing = s.writing ∙ r.writing;
    }

-- and then no file is being read
pub ended_reading : (a b : Option Holding) → WhileTold a b EndsRead → IfSome b (λ now. now.reading ≡ None)
ended_reading a None r = tt
ended_reading None (Some y) r = let no : ⊥ = cc in absurd no
ended_reading (Some x) (Some y) r = r.reading

-- a file that is not there gives no text
pub no_text : (answer : Answer) → AnswersFor answer None → HasNoText answer
no_text (Ok text) e = let no : ⊥ = cc in no
no_text (Err Missing) e = tt
no_text (Err TooLong) e = e
no_text (Err Fault) e = tt
no_text (Err NoMemory) e = tt

pub missing_no_text : (answer : Answer) (name : List ℕ) (a b : Option Holding) → WhileTold a b (ReadsSource answer name) → IfSome a (λ old. old.file name ≡ None → HasNoText answer)
missing_no_text answer name None b r = tt
missing_no_text answer name (Some x) None r = absurd r
missing_no_text answer name (Some x) (Some y) r = λ gone. no_text answer (subst (AnswersFor answer) gone r.answer)
