-- What a key holds that stands ready.
use Rattle.std.specs.Prelude.{◌≡◌}
use Rattle.cx_aes.specs.KeyOf.{key_of}
use Rattle.cx_aes.specs.declared.schedule.Schedule.{Schedule}
use Rattle.cx_gcm.specs.Base.{base_of}
use Rattle.cx_gcm.specs.declared.powers.Powers.{Powers}
use Rattle.cx_gcm.specs.Gcm.{subkey}

-- the powers are those of the key's hash subkey
abbrev pub IsPrepared : Schedule → Powers → Type 0
IsPrepared schedule powers = base_of powers ≡ subkey (key_of schedule)
