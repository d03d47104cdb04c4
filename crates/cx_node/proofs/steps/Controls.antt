-- Control frames: each has one segment, and a payload that spells a value is read as it.
use Rattle.std.proofs.Common.{◌≡◌, ◌≤◌, ℕ, List, Ok, ap, refl, subst, sym}
use Rattle.cx_enc.specs.Forms.{Form, IsLawful}
use Rattle.cx_enc.specs.Whole.{Spells}
use Rattle.cx_enc.proofs.Wholes.{read_again}
use Rattle.cx_frame.specs.declared.frame.Frame.{Frame}
use Rattle.cx_link.specs.Sending.{IsControl}
use Rattle.cx_node.specs.cx_rules.specs.Payloads.{control, to_end, whole}

pub control_frame : {X : Type 0} (f : Frame) (tag : ℕ) (form : Form X) (x : X) → f ≡ control tag form x → 1 ≤ tag → tag ≤ 20 → IsControl f
control_frame f tag form x e low high =
    subst (λ (g : Frame). IsControl g) (sym e) (record { tag_low = low; tag_high = high; one = refl })

pub whole_spelled : {X : Type 0} (form : Form X) → IsLawful form → (bytes : List ℕ) (x : X) → Spells form bytes x → whole form bytes ≡ Ok x
whole_spelled form lawful bytes x spells = ap to_end (read_again form lawful bytes x spells)
