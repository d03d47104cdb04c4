use Rattle.std.proofs.Common.{ℕ, List, ◌≡◌, ◌==◌, ◌++◌, ◌-◌, ◌%◌, ◌<◌, true, false, take, drop, length, sym, ap, ◌∙◌, arith}
use Rattle.std.specs.List.{list_all}
use Rattle.std.proofs.lemmas.List.{take-append-drop}
use Rattle.std.proofs.lemmas.Option.{get_or_from_slice_get}
use Rattle.cx_cbc.proofs.Padding.{parts, found}
use Rattle.cx_cbc.proofs.envelope.without_padding.Goals as goal

pub returns-in_err-last-clause-none : goal.returns-in_err-last-clause-none
returns-in_err-last-clause-none c = rw c.from_residual.ensures (λ bytes e.
    let p = parts c.args.plain.now bytes e in
    let len = p.len in
    let least = p.least in
    let none = c.in_err-last.ensures.item.3 in
    omega arith)

pub returns-then-missing-lt-FEWEST-clause-none : goal.returns-then-missing-lt-FEWEST-clause-none
returns-then-missing-lt-FEWEST-clause-none c = λ bytes e.
    let p = parts c.args.plain.now bytes e in
    let same = get_or_from_slice_get c.args.plain.now (length c.args.plain.now - 1) c.in_ok-last.field-0.now 0 (sym c.in_ok-last.ensures.value) in
    let last = p.last in
    let least = p.least in
    omega arith

pub returns-then-missing-gt-MOST-clause-none : goal.returns-then-missing-gt-MOST-clause-none
returns-then-missing-gt-MOST-clause-none c = λ bytes e.
    let p = parts c.args.plain.now bytes e in
    let same = get_or_from_slice_get c.args.plain.now (length c.args.plain.now - 1) c.in_ok-last.field-0.now 0 (sym c.in_ok-last.ensures.value) in
    let last = p.last in
    let most = p.most in
    omega arith

pub returns-then-is_filled-clause-found : goal.returns-then-is_filled-clause-found
returns-then-is_filled-clause-found c =
    let plain : List ℕ = c.args.plain.now in
    let missing : ℕ = c.in_ok-last.field-0.now in
    let bytes : List ℕ = c.split_at.result.0.now in
    let fill : List ℕ = c.split_at.result.1.now in
    let place : ℕ = length plain - missing in
    let some : 0 < length plain = c.in_ok-last.ensures.item.3.0 in
    let whole : bytes ++ fill ≡ plain =
    ap (λ xs. xs ++ fill) c.split_at.ensures.front ∙ ap (λ xs. take place plain ++ xs) c.split_at.ensures.back ∙ take-append-drop place plain in
    let all : list_all (λ b. b == missing) fill ≡ true = sym c.is_filled.ensures ∙ c.if-is_filled.true in
    sym whole ∙ found bytes fill missing (omega arith) (omega arith) (omega arith) (omega arith) all

pub returns-else-is_filled-clause-none : goal.returns-else-is_filled-clause-none
returns-else-is_filled-clause-none c = λ bytes e.
    let plain : List ℕ = c.args.plain.now in
    let missing : ℕ = c.in_ok-last.field-0.now in
    let p = parts plain bytes e in
    let last = p.last in
    let len = p.len in
    let same : 16 - length bytes % 16 ≡ missing =
    sym p.last ∙ get_or_from_slice_get plain (length plain - 1) missing 0 (sym c.in_ok-last.ensures.value) in
    let place : length bytes ≡ length plain - missing = omega arith in
    let all : list_all (λ b. b == missing) c.split_at.result.1.now ≡ true =
    ap (list_all (λ b. b == missing)) c.split_at.ensures.back
    ∙ ap (λ n. list_all (λ b. b == missing) (drop n plain)) (sym place)
    ∙ ap (λ m. list_all (λ b. b == m) (drop (length bytes) plain)) (sym same) ∙ p.back in
    let no : false ≡ true = sym c.if-is_filled.false ∙ c.is_filled.ensures ∙ all in
    cc
