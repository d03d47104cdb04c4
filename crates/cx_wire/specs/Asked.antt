-- An operation as a payload.
use Rattle.std.specs.Prelude.{refl}
use Rattle.cx_enc.specs.Layouts.{Layout, seen_as}
use Rattle.cx_wire.specs.Operations.{operation_layout}
use Rattle.cx_wire.specs.declared.operations.Asked.{Asked}

abbrev pub asked_layout : Layout Asked
asked_layout = seen_as operation_layout (λ ask. record { ask = ask }) (λ asked. asked.ask) (λ _ _. refl) (λ _ _. refl)
