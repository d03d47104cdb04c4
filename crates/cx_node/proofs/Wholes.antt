-- Payloads that spell a value are read as it.
use Rattle.std.proofs.Common.{ℕ, ◌≡◌, List, Ok, ap, ◌∙◌}
use Rattle.cx_enc.specs.Forms.{Form, IsLawful}
use Rattle.cx_enc.specs.Whole.{Spells, SpellsPart}
use Rattle.cx_enc.proofs.Wholes.{read_again}
use Rattle.cx_rules.specs.Payloads.{whole, to_end}
use Rattle.cx_node.specs.Parts.{part_of}

pub whole_spelled : {X : Type 0} (form : Form X) → IsLawful form → (bytes : List ℕ) (x : X) → Spells form bytes x → whole form bytes ≡ Ok x
whole_spelled form lawful bytes x spells = ap to_end (read_again form lawful bytes x spells)

pub part_spelled : {V X : Type 0} (form : Form V) → IsLawful form → (kept : V → X) (bytes : List ℕ) (x : X) → SpellsPart form kept bytes x → part_of kept (whole form bytes) ≡ Ok x
part_spelled form lawful kept bytes x (v, spells, is) = ap (part_of kept) (whole_spelled form lawful bytes v spells) ∙ ap Ok is
