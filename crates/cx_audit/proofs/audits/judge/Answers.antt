use Rattle.std.proofs.Common.{◌≡◌, ℕ, List, length, Some, refl, sym, ap, ◌∙◌, arith}
use Rattle.std.specs.List.{slice_get}
use Rattle.std.proofs.lemmas.Option.{slice_get_read}
use Rattle.cx_audit.proofs.Within.{has_line, of_breach}
use Rattle.cx_audit.proofs.audits.judge.Goals as goal

pub index-requires : goal.index-requires
index-requires c =
    let said = c.args.said.now in
    let first = of_breach said c.in_ok-numbered.numbered.entries.items c.as_slice.result.now c.in_ok-first_breach.field-0 c.in-Some.breach c.in_ok-first_breach.ensures c.in-Some.is c.as_slice.ensures.value c.in_ok-numbered.ensures.entries in
    let low = has_line said c.in-Some.breach c.in_ok-numbered.numbered.numbers.items first c.in_ok-numbered.ensures.numbers in
    omega (arith, low)

pub returns : goal.returns
returns c =
    let said = c.args.said.now in
    let first = of_breach said c.in_ok-numbered.numbered.entries.items c.as_slice.result.now c.in_ok-first_breach.field-0 c.in-Some.breach c.in_ok-first_breach.ensures c.in-Some.is c.as_slice.ensures.value c.in_ok-numbered.ensures.entries in
    let numbers = c.in_ok-numbered.numbered.numbers.items in
    let low = has_line said c.in-Some.breach numbers first c.in_ok-numbered.ensures.numbers in
    let stands : slice_get numbers c.in-Some.breach.place ≡ Some c.index.result.now = slice_get_read numbers (length numbers) c.in-Some.breach.place c.index.result.now refl low c.index.ensures in
    (c.in-Some.breach, first, refl, ap (λ (ns : List ℕ). slice_get ns c.in-Some.breach.place) (sym c.in_ok-numbered.ensures.numbers) ∙ stands)
