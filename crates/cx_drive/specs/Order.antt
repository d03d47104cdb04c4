-- In which order a node saves and sends.
use Rattle.std.specs.Prelude.{◌≡◌, Bool, true, false, List, [], ◌∷◌}
use Rattle.cx_outside.specs.linking.Acts.{Listened, Opened, Gave, Broke, Sent, Shut, Regarded}
use Rattle.cx_outside.specs.site.Acts.{Act, Linked, Read, Rolled, Saved}

-- behind a send no save comes before the next step begins, with its roll
abbrev pub SavesFirst : Bool → List Act → Type 0
SavesFirst sent [] = Unit {0}
SavesFirst sent (Rolled draw ∷ acts) = SavesFirst false acts
SavesFirst sent (Saved state ok ∷ acts) = (sent ≡ false) × SavesFirst sent acts
SavesFirst sent (Linked (Sent link bytes ok) ∷ acts) = SavesFirst true acts
SavesFirst sent (Linked (Listened at ok) ∷ acts) = SavesFirst sent acts
SavesFirst sent (Linked (Opened at number) ∷ acts) = SavesFirst sent acts
SavesFirst sent (Linked (Gave event bytes) ∷ acts) = SavesFirst sent acts
SavesFirst sent (Linked Broke ∷ acts) = SavesFirst sent acts
SavesFirst sent (Linked (Shut link) ∷ acts) = SavesFirst sent acts
SavesFirst sent (Linked (Regarded link regard) ∷ acts) = SavesFirst sent acts
SavesFirst sent (Read reading ∷ acts) = SavesFirst sent acts
