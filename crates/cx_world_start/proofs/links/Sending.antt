-- Pieces are sent, and links are shut, one after another.
use Rattle.std.proofs.Common.{◌≡◌, ℕ, ◌+◌, ◌<◌, List, [], ◌∷◌, ◌++◌, length, get_or, take, Result, Ok, Err, refl, ap, ◌∙◌}
use Rattle.std.specs.Prelude.{OnErr}
use Rattle.std.proofs.lemmas.List.{take_more}
use Rattle.cx_base.specs.declared.nodes.NodeName.{NodeName}
use Rattle.cx_run.specs.Wires.{Wire, wire_of}
use Rattle.cx_run.specs.Worlds.{sends_all, sends_piece, shuts_all, shuts_link}
use Rattle.cx_steps.specs.declared.effects.Piece.{Piece}

pub on_err : {X E A : Type 0} (r : Result X E) → A → OnErr r A
on_err (Ok x) a = tt
on_err (Err e) a = a

pub sends_behind : (who : NodeName) (wires : List Wire) (pieces : List Piece) (piece : Piece)
    → sends_all who wires (pieces ++ piece ∷ []) ≡ sends_piece who (sends_all who wires pieces) piece (wire_of piece.link (sends_all who wires pieces))
sends_behind who wires [] piece = refl
sends_behind who wires (p ∷ pieces) piece = sends_behind who (sends_piece who wires p (wire_of p.link wires)) pieces piece

shuts_behind : (who : NodeName) (wires : List Wire) (numbers : List ℕ) (number : ℕ)
    → shuts_all who wires (numbers ++ number ∷ []) ≡ shuts_link who (shuts_all who wires numbers) (wire_of number (shuts_all who wires numbers))
shuts_behind who wires [] number = refl
shuts_behind who wires (n ∷ numbers) number = shuts_behind who (shuts_link who wires (wire_of n wires)) numbers number

pub shuts_more : (who : NodeName) (wires : List Wire) (numbers : List ℕ) (i d : ℕ) → i < length numbers
    → shuts_all who wires (take (i + 1) numbers) ≡ shuts_link who (shuts_all who wires (take i numbers)) (wire_of (get_or numbers i d) (shuts_all who wires (take i numbers)))
shuts_more who wires numbers i d h =
    ap (λ (ns : List ℕ). shuts_all who wires ns) (take_more numbers i d h) ∙ shuts_behind who wires (take i numbers) (get_or numbers i d)
