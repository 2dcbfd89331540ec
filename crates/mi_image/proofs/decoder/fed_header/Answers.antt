use Rattle.std.proofs.Common.{◌≡◌, inl, inr, ◌++◌, ◌+◌, ◌≤◌, ◌^◌, List, ℕ, take, length, sym, ap, ◌∙◌, arith}
use Rattle.std.proofs.lemmas.List.{take_all, length-take-le, length-append}
use Rattle.std.proofs.lemmas.Result.{err_from_is_err_and}
use Rattle.mi_image.specs.Grammar.{number_at, first_broken}
use Rattle.mi_image.proofs.Sound.{header_within}
use Rattle.mi_image.proofs.Fed.{broken_with_front, used_most, file_length-most, first_forty}
use Rattle.mi_image.proofs.decoder.fed_header.Goals as goal

pub returns-in_err-judge-clause-refused : goal.returns-in_err-judge-clause-refused
returns-in_err-judge-clause-refused c =
    let p = err_from_is_err_and c.from_residual.result c.from_residual.ensures.1 in
    let front : take (c.args.count + length c.split_at.result.0.now) c.with_front-bytes.result ≡ take c.args.count c.args.bytes ++ take c.min.result c.args.piece.now =
    c.with_front-bytes.ensures ∙ ap (λ (xs : List ℕ). take c.args.count c.args.bytes ++ xs) c.split_at.ensures.front in
    rw (p.1, p.2) (inl (broken_with_front (take c.args.count c.args.bytes) c.args.piece.now c.min.result c.in_err-judge.field-0.0 (ap first_broken (sym front) ∙ c.in_err-judge.ensures)))

pub whole_length-requires-clause-most : goal.whole_length-requires-clause-most
whole_length-requires-clause-most c =
    let all = take_all (c.args.count + length c.split_at.result.0.now) c.with_front-bytes.result (omega arith) in
    used_most c.with_front-bytes.result (omega arith) (ap first_broken (sym all) ∙ c.in_ok-judge.ensures)

pub overflow_add-whole_length : goal.overflow_add-whole_length
overflow_add-whole_length c =
    let all = take_all (c.args.count + length c.split_at.result.0.now) c.with_front-bytes.result (omega arith) in
    let used : number_at c.with_front-bytes.result 32 ≤ 2 ^ 23 = used_most c.with_front-bytes.result (omega arith) (ap first_broken (sym all) ∙ c.in_ok-judge.ensures) in
    let most = file_length-most c.with_front-bytes.result used in
    omega arith

pub unwrap-requires : goal.unwrap-requires
unwrap-requires c =
    let capacity = c.in_ok-all.ensures.exact in
    let len = c.in_ok-all.ensures.len in
    let within = header_within c.with_front-bytes.result in
    c.extend_from_slice.ensures.succeeds (omega arith)

pub returns-in_err-all-clause-refused : goal.returns-in_err-all-clause-refused
returns-in_err-all-clause-refused c =
    let p = err_from_is_err_and c.from_residual-in_err-all.result c.from_residual-in_err-all.ensures.1 in
    let enough = c.if-end-lt-LENGTH_KNOWN.false in
    let old : length (take c.args.count c.args.bytes) ≡ c.args.count = length-take-le c.args.count c.args.bytes (omega arith) in
    let front : take (c.args.count + length c.split_at.result.0.now) c.with_front-bytes.result ≡ take c.args.count c.args.bytes ++ take c.min.result c.args.piece.now =
    c.with_front-bytes.ensures ∙ ap (λ (xs : List ℕ). take c.args.count c.args.bytes ++ xs) c.split_at.ensures.front in
    let forty : take 40 (take c.args.count c.args.bytes ++ c.args.piece.now) ≡ take c.args.count c.args.bytes ++ take c.min.result c.args.piece.now =
    first_forty (take c.args.count c.args.bytes) c.args.piece.now c.min.result (omega arith) in
    rw p.1 (inr (record {
      memory = p.2;
      before = omega arith;
      judged = omega (arith, length-append (take c.args.count c.args.bytes) c.args.piece.now);
      allowed = ap first_broken (forty ∙ sym front) ∙ c.in_ok-judge.ensures;
    }))
