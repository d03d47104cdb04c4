-- A state is spelled by all of the bytes exactly where it is read and nothing is left.
use Rattle.std.proofs.Common.{Ok, refl, sym, ap, ◌∙◌, arith}
use Rattle.std.proofs.lemmas.Result.{err_from_is_err_and}
use Rattle.cx_enc.specs.Reading.{spot}
use Rattle.cx_enc.specs.Whole.{part_at, start}
use Rattle.cx_enc.specs.declared.faults.Misspelling.TheVariants.{Fault, LeftOver}
use Rattle.cx_enc.proofs.Wholes.{spelled_whole, nothing_left, none_left_over, left_over, whole_of, part_fault, no_fault}
use Rattle.cx_keep.specs.Formats.{state_of, stored_layout}
use Rattle.cx_keep.proofs.Fitting.{kept_state}
use Rattle.cx_keep.proofs.format.decode_state.Goals as goal

pub returns-in_err-state-clause-only : goal.returns-in_err-state-clause-only
returns-in_err-state-clause-only c = λ state spelled.
    let fault = part_fault stored_layout.form (state_of (c.args.life, c.args.auth_life)) (start c.args.bytes.now) c.in_err-state.field-0.0 (ap (part_at (state_of (c.args.life, c.args.auth_life)) stored_layout.form) (sym c.new-cut.ensures) ∙ c.in_err-state.ensures) in
    absurd (no_fault stored_layout.form stored_layout.lawful c.args.bytes.now spelled.0 c.in_err-state.field-0.0 spelled.1 fault)

pub returns-in_err-state-clause-refused : goal.returns-in_err-state-clause-refused
returns-in_err-state-clause-refused c =
    let p = err_from_is_err_and c.from_residual.result c.from_residual.ensures.1 in
    let fault = part_fault stored_layout.form (state_of (c.args.life, c.args.auth_life)) (start c.args.bytes.now) c.in_err-state.field-0.0 (ap (part_at (state_of (c.args.life, c.args.auth_life)) stored_layout.form) (sym c.new-cut.ensures) ∙ c.in_err-state.ensures) in
    rw p.1 (Fault c.in_err-state.field-0.0, fault, p.2)

pub returns-then-left-gt0-clause-only : goal.returns-then-left-gt0-clause-only
returns-then-left-gt0-clause-only c = λ state spelled.
    let w = whole_of stored_layout.form (state_of (c.args.life, c.args.auth_life)) (start c.args.bytes.now) c.in_ok-state.state (spot c.read_state.new.cut) (ap (part_at (state_of (c.args.life, c.args.auth_life)) stored_layout.form) (sym c.new-cut.ensures) ∙ c.in_ok-state.ensures) in
    absurd (none_left_over stored_layout.form stored_layout.lawful c.args.bytes.now spelled.0 w.0 (spot c.read_state.new.cut) spelled.1 w.1 (omega arith))

pub returns-then-left-gt0-clause-refused : goal.returns-then-left-gt0-clause-refused
returns-then-left-gt0-clause-refused c =
    let w = whole_of stored_layout.form (state_of (c.args.life, c.args.auth_life)) (start c.args.bytes.now) c.in_ok-state.state (spot c.read_state.new.cut) (ap (part_at (state_of (c.args.life, c.args.auth_life)) stored_layout.form) (sym c.new-cut.ensures) ∙ c.in_ok-state.ensures) in
    (LeftOver c.place.result, left_over stored_layout.form c.args.bytes.now w.0 (spot c.read_state.new.cut) c.place.result w.1 (omega arith) c.place.ensures, refl)

pub returns-clause-found : goal.returns-clause-found
returns-clause-found c =
    let w = whole_of stored_layout.form (state_of (c.args.life, c.args.auth_life)) (start c.args.bytes.now) c.in_ok-state.state (spot c.read_state.new.cut) (ap (part_at (state_of (c.args.life, c.args.auth_life)) stored_layout.form) (sym c.new-cut.ensures) ∙ c.in_ok-state.ensures) in
    (w.0, spelled_whole stored_layout.form stored_layout.lawful c.args.bytes.now w.0 (spot c.read_state.new.cut) (λ i. omega (arith, c.type_inv.bytes i)) w.1 (omega arith), w.2)

pub returns-clause-only : goal.returns-clause-only
returns-clause-only c = λ state spelled.
    let w = whole_of stored_layout.form (state_of (c.args.life, c.args.auth_life)) (start c.args.bytes.now) c.in_ok-state.state (spot c.read_state.new.cut) (ap (part_at (state_of (c.args.life, c.args.auth_life)) stored_layout.form) (sym c.new-cut.ensures) ∙ c.in_ok-state.ensures) in
    let same = nothing_left stored_layout.form stored_layout.lawful c.args.bytes.now spelled.0 w.0 (spot c.read_state.new.cut) spelled.1 w.1 in
    ap Ok (sym w.2 ∙ ap (state_of (c.args.life, c.args.auth_life)) same.0 ∙ spelled.2)

pub returns-clause-kept : goal.returns-clause-kept
returns-clause-kept c =
    let w = whole_of stored_layout.form (state_of (c.args.life, c.args.auth_life)) (start c.args.bytes.now) c.in_ok-state.state (spot c.read_state.new.cut) (ap (part_at (state_of (c.args.life, c.args.auth_life)) stored_layout.form) (sym c.new-cut.ensures) ∙ c.in_ok-state.ensures) in
    let whole = spelled_whole stored_layout.form stored_layout.lawful c.args.bytes.now w.0 (spot c.read_state.new.cut) (λ i. omega (arith, c.type_inv.bytes i)) w.1 (omega arith) in
    rw (← w.2) (kept_state c.args.life c.args.auth_life w.0 c.requires.life c.requires.auth_life whole.0)
