-- Where a field begins that can't be read.
use Rattle.std.specs.Prelude.{ℕ}
use Rattle.cx_enc.specs.declared.faults.ReadFault.{ReadFault}
use Rattle.cx_enc.specs.declared.faults.ReadFault.TheVariants.{Short, BadField}

-- the place at which the field begins that can't be read
abbrev pub fault_place : ReadFault → ℕ
fault_place (Short place) = place
fault_place (BadField place) = place
