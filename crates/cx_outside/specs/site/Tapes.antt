-- What a tape keeps of acts.
use Rattle.std.specs.Prelude.{◌≡◌, Bool, false, List, [], ◌∷◌, ◌++◌, map, length}
use Rattle.std.proofs.Common.{refl, ap, sym, ◌∙◌, append_assoc, append-nil}
use Rattle.cx_outside.specs.linking.Acts.{Listened, Opened, Gave, Broke, Sent, Shut, Regarded}
use Rattle.cx_outside.specs.site.Acts.{Act, Linked, Read, Rolled, Saved}
use Rattle.cx_outside.specs.site.Telling.{is_there}
use Rattle.cx_outside.specs.declared.taped.Did.{Did}
use Rattle.cx_outside.specs.declared.taped.Did.TheVariants as did

-- an act in few words
abbrev pub did_of : Act → Did
did_of (Linked (Listened at ok)) = did.Listened ok
did_of (Linked (Opened at number)) = did.Opened number
did_of (Linked (Gave event bytes)) = did.Came event
did_of (Linked Broke) = did.Broke
did_of (Linked (Sent link bytes ok)) = did.Sent link (length bytes) ok
did_of (Linked (Shut link)) = did.Shut link
did_of (Linked (Regarded link regard)) = did.Regarded link regard
did_of (Read reading) = did.Read reading
did_of (Rolled draw) = did.Rolled (is_there draw)
did_of (Saved state ok) = did.Saved ok

-- a tape that isn't full wasn't before, and keeps this besides
abbrev pub Notes : List Did → Bool → List Did → Bool → Did → Type 0
Notes tape full tape' full' done = full' ≡ false → (full ≡ false) × (tape' ≡ tape ++ done ∷ [])

-- and of these acts
abbrev pub TapeTells : List Did → Bool → List Did → Bool → List Act → Type 0
TapeTells tape full tape' full' acts = full' ≡ false → (full ≡ false) × (tape' ≡ tape ++ map did_of acts)

pub tape_stays : (tape : List Did) (full : Bool) → TapeTells tape full tape full []
tape_stays tape full = λ h. (h, sym (append-nil tape))

dids_on : (xs ys : List Act) → map did_of (xs ++ ys) ≡ map did_of xs ++ map did_of ys
dids_on [] ys = refl
dids_on (x ∷ xs) ys = ap (λ dids. did_of x ∷ dids) (dids_on xs ys)

pub tape_goes_on : (a b c : List Did) (l m n : Bool) (xs ys : List Act) → TapeTells a l b m xs → TapeTells b m c n ys → TapeTells a l c n (xs ++ ys)
tape_goes_on a b c l m n xs ys p q = λ h.
    let second : (m ≡ false) × (c ≡ b ++ map did_of ys) = q h in
    let first : (l ≡ false) × (b ≡ a ++ map did_of xs) = p second.0 in (
      first.0,
      second.1 ∙ ap (λ dids. dids ++ map did_of ys) first.1 ∙ append_assoc a (map did_of xs) (map did_of ys)
          ∙ ap (λ dids. a ++ dids) (sym (dids_on xs ys)),
    )
