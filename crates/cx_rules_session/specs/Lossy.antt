-- Whether a session ends with its link ("msgr2 protocol", CLIENT_IDENT and SERVER_IDENT): bit 0 of their flags.
use Rattle.std.specs.Prelude.{ℕ, ◌==◌, ◌%◌, Bool, true, false}

abbrev pub is_lossy : ℕ → Bool
is_lossy flags = flags % 2 == 1

abbrev pub lossy_flags : Bool → ℕ
lossy_flags true = 1
lossy_flags false = 0
