-- Payloads of which a part is kept.
use Rattle.std.specs.Prelude.{Result, Ok, Err}
use Rattle.cx_journal.specs.declared.faults.BytesFault.{BytesFault}

abbrev pub part_of : {V X : Type 0} → (V → X) → Result V BytesFault → Result X BytesFault
part_of kept (Ok whole) = Ok (kept whole)
part_of kept (Err why) = Err why
