-- What reads and writes an operation as a payload reads and writes the operation.
use Rattle.std.proofs.Common.{◌≡◌, ℕ, List, Result, Ok, Err, refl, ◌∙◌}
use Rattle.cx_base.specs.declared.operations.Operation.{Operation}
use Rattle.cx_enc.specs.declared.faults.ReadFault.{ReadFault}
use Rattle.cx_enc.specs.Forms.{Spot, ◌>>=◌}
use Rattle.cx_enc.specs.Whole.{start, IsReadAgain}
use Rattle.cx_control.specs.Calls.{stop_of, IsReadBy}
use Rattle.cx_control.specs.declared.refusals.WireRefusal.{WireRefusal}
use Rattle.cx_control.specs.declared.refusals.WireRefusal.TheVariants.{Malformed, OutOfMemory}
use Rattle.cx_wire.specs.Asked.{asked_layout}
use Rattle.cx_wire.specs.Operations.{operation_layout}
use Rattle.cx_wire.specs.declared.operations.Asked.{Asked}

-- where the reading of a payload stops, that of what it holds does
same_stop : {A X : Type 0} (made : A → X) (read : Result (A × Spot) ReadFault) → let seen : Result (X × Spot) ReadFault = read >>= λ a. Ok (made a.0, a.1) in stop_of seen ≡ stop_of read
same_stop made (Ok a) = refl
same_stop made (Err fault) = refl

pub asked_ok : (bytes : List ℕ) (asked : Asked) → IsReadBy asked_layout.form bytes (Ok asked) → IsReadBy operation_layout.form bytes (Ok asked.ask)
asked_ok bytes asked read = record { found = read.found; only = λ x spells. let same = read.only (record { ask = x }) spells in cc; refused = tt }

pub asked_err : (bytes : List ℕ) (refusal : WireRefusal) → IsReadBy asked_layout.form bytes (Err refusal) → IsReadBy operation_layout.form bytes (Err refusal)
asked_err bytes (Malformed place) read = record {
  found = tt;
  only = λ x spells. absurd (read.refused.0 (record { ask = x }) spells);
  refused = (λ x spells. read.refused.0 (record { ask = x }) spells, read.refused.1 ∙ same_stop (λ (ask : Operation). let asked : Asked = record { ask = ask } in asked) (operation_layout.form.at (start bytes)));
}
asked_err bytes OutOfMemory read = record { found = tt; only = λ x spells. refl; refused = tt }

pub operation_again : (x : Operation) → operation_layout.form.Fits x → IsReadAgain operation_layout.form (operation_layout.form.text x) x
operation_again x fits place more = operation_layout.lawful.again x place more fits
