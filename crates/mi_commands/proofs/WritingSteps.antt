-- What the calls of writing do together.
use Rattle.std.proofs.Common.{◌≡◌, ◌≢◌, ℕ, List, [], length, Some, Ok, Err, Result, OnOk, ◌∙◌, ap, arith, length-append}
use Rattle.std.proofs.lemmas.Result.{on_ok_weaker}
use Rattle.std.specs.Prelude.{codes}
use Rattle.mi_outside.specs.Holding.{Holding, SameFiles, SameFilesBut, Creates, Appends, EndsWrite}
use Rattle.mi_commands.specs.Writing.{part_of, WritesPart, IsInPlace}

-- a part has another name than its file
pub part_differs : (out part : List ℕ) → part ≡ part_of out → part ≢ out
part_differs out part is same =
    let longer : length part ≡ length (part_of out) = ap length is in
    let alike : length part ≡ length out = ap length same in
    omega (arith, longer, alike, length-append out (codes ".part"))

-- no file but one changed, twice
pub same_but_then : (one : List ℕ) (x y z : Holding) → SameFilesBut one x y → SameFilesBut one y z → SameFilesBut one x z
same_but_then one x y z r s name differs = s name differs ∙ r name differs

-- a file that is begun and gains a piece
pub record IsFilled {T E : Type 0} (result : Result T E) (part bytes : List ℕ) (old new : Holding) : Type 0 where
  pub filled : OnOk result (new.file part ≡ Some bytes)
  pub others : SameFilesBut part old new
  pub writing : new.writing ≡ Some part

pub filled_part : {T E U : Type 0} (u : T) (result : Result U E) (part bytes : List ℕ) (x y z : Holding) → Creates {T = T} {E = E} (Ok u) part x y → Appends result bytes y z → IsFilled result part bytes x z
filled_part u result part bytes x y z r s =
    record {
      filled = on_ok_weaker result (λ f. f part r.created.1 [] r.created.0) s.appended;
      others = same_but_then part x y z r.others (s.others part r.created.1);
      writing = s.writing ∙ r.created.1;
    }

pub failed_part : {T E U : Type 0} (e f : E) (part bytes : List ℕ) (x y : Holding) → IsFilled {T = U} {E = E} (Err e) part bytes x y → WritesPart {T = T} {E = E} (Err f) part bytes x y
failed_part e f part bytes x y r = record { written = tt; ended = tt; others = r.others }

pub ended_part : {T E U : Type 0} (u : T) (result : Result U E) (part bytes : List ℕ) (x y z : Holding) → IsFilled {T = T} {E = E} (Ok u) part bytes x y → EndsWrite result y z → WritesPart result part bytes x z
ended_part u result part bytes x y z r s =
    record {
      written = on_ok_weaker result (λ h. h.0 part ∙ r.filled) s.ended;
      ended = on_ok_weaker result (λ h. h.1) s.ended;
      others = same_but_then part x y z r.others (s.others part r.writing);
    }

-- a file put in place after a call that changed none
pub in_place_then : (part out bytes : List ℕ) (x y z : Holding) → SameFiles x y → IsInPlace part out bytes y z → IsInPlace part out bytes x z
in_place_then part out bytes x y z r s =
    record {
      placed = s.placed;
      gone = s.gone;
      others = λ name d e. s.others name d e ∙ r name;
    }
