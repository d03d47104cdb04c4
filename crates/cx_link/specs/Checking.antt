-- Whether the peer's AUTH_SIGNATURE is the one over what was sent to it.
use Rattle.std.specs.Prelude.{ℕ, ◌≡◌, true, false, List, Option, Some, None}
use Rattle.cx_rules.specs.Secured.{is_signed, signature_found}
use Rattle.cx_link.specs.Sending.{secured_of}
use Rattle.cx_link.specs.declared.links.Checked.{Checked}
use Rattle.cx_link.specs.declared.links.Signing.{Signing}

-- the link goes on exactly where it is
abbrev pub IsChecked : Signing → List ℕ → Option Checked → Type 0
IsChecked s found (Some c) =
    (is_signed (secured_of s) found ≡ true) × (c ≡ record { link = s.link; entry = signature_found (secured_of s) })
IsChecked s found None = is_signed (secured_of s) found ≡ false
