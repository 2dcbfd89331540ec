use Rattle.std.proofs.Common.{◌≡◌, ◌++◌, ◌+◌, ◌-◌, min, List, ℕ, Ok, None, take, length, sym, ap, ◌∙◌, arith}
use Rattle.std.proofs.lemmas.List.{length-append}
use Rattle.std.proofs.lemmas.Result.{err_from_is_err_and}
use Rattle.mi_image.specs.Grammar.{file_length, first_broken}
use Rattle.mi_image.proofs.Later.{file_length-more}
use Rattle.mi_image.proofs.Sound.{within_file}
use Rattle.mi_image.proofs.Fed.{broken_with_front, used_most, taken_whole}
use Rattle.mi_image.proofs.decoder.fed_body.Goals as goal

pub whole_length-requires-clause-most : goal.whole_length-requires-clause-most
whole_length-requires-clause-most c = rw c.deref.ensures.value (used_most c.args.bytes.items c.requires.judged c.requires.allowed)

pub overflow_sub-room : goal.overflow_sub-room
overflow_sub-room c =
    let within = within_file c.args.bytes.items c.requires.allowed in
    let file = ap file_length c.deref.ensures.value in
    let len = ap length c.deref.ensures.value in
    omega arith

pub returns-in_err-judge-clause-refused : goal.returns-in_err-judge-clause-refused
returns-in_err-judge-clause-refused c =
    let p = err_from_is_err_and c.from_residual.result c.from_residual.ensures.1 in
    let items : c.extend_from_slice.new.self.items ≡ c.args.bytes.items ++ take c.min.result c.args.piece.now =
    (rw c.unwrap.ensures at c.extend_from_slice.ensures.items) ∙ ap (λ (xs : List ℕ). c.args.bytes.items ++ xs) c.split_at.ensures.front in
    rw (p.1, p.2) (broken_with_front c.args.bytes.items c.args.piece.now c.min.result c.in_err-judge.field-0.0
    (ap first_broken (sym (c.deref-2.ensures.value ∙ items)) ∙ c.in_err-judge.ensures))

pub returns-clause-taken : goal.returns-clause-taken
returns-clause-taken c =
    let file = ap file_length c.deref.ensures.value in
    let len = ap length c.deref.ensures.value in
    let items : c.extend_from_slice.new.self.items ≡ c.args.bytes.items ++ take c.min.result c.args.piece.now =
    (rw c.unwrap.ensures at c.extend_from_slice.ensures.items) ∙ ap (λ (xs : List ℕ). c.args.bytes.items ++ xs) c.split_at.ensures.front in
    let none : first_broken (c.args.bytes.items ++ take c.min.result c.args.piece.now) ≡ None = ap first_broken (sym (c.deref-2.ensures.value ∙ items)) ∙ c.in_ok-judge.ensures in
    let count : c.min.result ≡ min (length c.args.piece.now) (file_length c.args.bytes.items + 1 - length c.args.bytes.items) = omega arith in
    let whole : c.args.bytes.items ++ take c.min.result c.args.piece.now ≡ c.args.bytes.items ++ c.args.piece.now =
    ap (λ (xs : List ℕ). c.args.bytes.items ++ xs) (taken_whole c.args.bytes.items c.args.piece.now c.min.result c.requires.judged c.requires.allowed count none) in
    (ap Ok (items ∙ whole), ap first_broken (sym whole) ∙ none)

pub returns-clause-holds : goal.returns-clause-holds
returns-clause-holds c =
    let items : c.extend_from_slice.new.self.items ≡ c.args.bytes.items ++ take c.min.result c.args.piece.now =
    (rw c.unwrap.ensures at c.extend_from_slice.ensures.items) ∙ ap (λ (xs : List ℕ). c.args.bytes.items ++ xs) c.split_at.ensures.front in
    let file : file_length c.extend_from_slice.new.self.items ≡ file_length c.args.bytes.items =
    ap file_length items ∙ file_length-more c.args.bytes.items (take c.min.result c.args.piece.now) c.requires.judged in
    let capacity = c.extend_from_slice.ensures.capacity in
    let room = c.requires.room in
    let judged = c.requires.judged in
    record {
      judged = omega (arith, ap length items, length-append c.args.bytes.items (take c.min.result c.args.piece.now));
      allowed = ap first_broken (sym c.deref-2.ensures.value) ∙ c.in_ok-judge.ensures;
      room = omega arith;
    }
