-- The refusal of a payload, from what its fields were refused for.
use Rattle.cx_enc.specs.declared.faults.ReadRefusal.{ReadRefusal}
use Rattle.cx_enc.specs.declared.faults.ReadRefusal.TheVariants as reading
use Rattle.cx_enc.specs.Faults.{fault_place}
use Rattle.cx_control.specs.declared.refusals.WireRefusal.{WireRefusal}
use Rattle.cx_control.specs.declared.refusals.WireRefusal.TheVariants.{Malformed, OutOfMemory}

abbrev pub refusal_of : ReadRefusal → WireRefusal
refusal_of (reading.Fault fault) = Malformed (fault_place fault)
refusal_of (reading.LeftOver place) = Malformed place
refusal_of reading.OutOfMemory = OutOfMemory
