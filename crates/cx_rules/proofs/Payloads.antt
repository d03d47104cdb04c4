-- What a reader of cx_control reads is what the rules read.
use Rattle.std.proofs.Common.{◌≡◌, ℕ, List, [], ◌∷◌, Result, Ok, Err, refl, sym, ap, subst, ◌∙◌}
use Rattle.cx_login.specs.cx_control.specs.Calls.{IsReadBy, IsRefusedFor, stop_of}
use Rattle.cx_login.specs.cx_control.specs.declared.refusals.WireRefusal.TheVariants.{Malformed}
use Rattle.cx_login.specs.cx_enc.specs.Forms.{Spot, Form, IsBytes}
use Rattle.cx_login.specs.cx_enc.specs.Layouts.{Layout}
use Rattle.cx_login.specs.cx_enc.specs.Faults.{fault_place}
use Rattle.cx_login.specs.cx_enc.specs.Whole.{start, Spells}
use Rattle.cx_login.specs.cx_enc.specs.declared.faults.ReadFault.{ReadFault}
use Rattle.cx_login.specs.cx_enc.proofs.Wholes.{read_again, spelled}
use Rattle.cx_login.specs.cx_journal.specs.declared.faults.BytesFault.{BytesFault}
use Rattle.cx_login.specs.cx_journal.specs.declared.faults.BytesFault.TheVariants as bytes_fault
use Rattle.cx_rules.specs.Payloads.{to_end, unless_left, whole}

-- what all of the bytes spell is what is read
pub spelled_is : {X : Type 0} (layout : Layout X) (bytes : List ℕ) (x : X) → Spells layout.form bytes x → whole layout.form bytes ≡ Ok x
spelled_is layout bytes x spells = ap to_end (read_again layout.form layout.lawful bytes x spells)

-- bytes that are refused are refused at the same place
pub refused_is : {X : Type 0} (layout : Layout X) (bytes : List ℕ) (place : ℕ) → IsBytes bytes → IsRefusedFor layout.form bytes (Malformed place)
    → whole layout.form bytes ≡ Err (bytes_fault.Malformed place)
refused_is {X} layout bytes place octets (none, at) = by_read (layout.form.at (start bytes)) refl
  where
    by_left : (x : X) (behind : Spot) (left : List ℕ) → behind.left ≡ left → layout.form.at (start bytes) ≡ Ok (x, behind) → place ≡ behind.place
        → unless_left x behind.place left ≡ Err (bytes_fault.Malformed place)
    by_left x behind [] empty read e = absurd (none x (spelled layout.form layout.lawful bytes x behind octets read empty))
    by_left x behind (b ∷ left) some read e = ap (λ p. Err (bytes_fault.Malformed p)) (sym e)

    by_read : (r : Result (X × Spot) ReadFault) → layout.form.at (start bytes) ≡ r → to_end r ≡ Err (bytes_fault.Malformed place)
    by_read (Ok x) is = by_left x.0 x.1 x.1.left refl is (at ∙ ap stop_of is)
    by_read (Err fault) is = ap (λ p. Err (bytes_fault.Malformed p)) (sym (at ∙ ap stop_of is))

-- what a reader read, and why it read nothing
pub read_is : {X : Type 0} (layout : Layout X) (bytes : List ℕ) (x : X) → IsReadBy layout.form bytes (Ok x) → whole layout.form bytes ≡ Ok x
read_is layout bytes x read = spelled_is layout bytes x read.found

pub unread_is : {X : Type 0} (layout : Layout X) (bytes : List ℕ) (place : ℕ) → IsBytes bytes → IsReadBy layout.form bytes (Err (Malformed place))
    → whole layout.form bytes ≡ Err (bytes_fault.Malformed place)
unread_is layout bytes place octets read = refused_is layout bytes place octets read.refused
