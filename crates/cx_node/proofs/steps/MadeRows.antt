-- Rows that are made as one of the rules, or behind what was logged before.
use Rattle.std.proofs.Common.{◌≡◌, ◌∙◌, Bool, true, false, List, [], ◌∷◌, Option, Some, None, Result, Ok, Err, refl, sym, ap, append-nil}
use Rattle.std.specs.Prelude.{if◌then◌else◌}
use Rattle.cx_control.specs.declared.auth.AuthSignature.{AuthSignature}
use Rattle.cx_journal.specs.declared.entries.Entry.{Entry}
use Rattle.cx_journal.specs.declared.faults.BytesFault.{BytesFault}
use Rattle.cx_journal.specs.declared.faults.LoginFault.TheVariants.{SignatureWrong}
use Rattle.cx_journal.specs.declared.outcomes.Reason.{Reason}
use Rattle.cx_journal.specs.declared.outcomes.Reason.TheVariants.{Bytes, Login}
use Rattle.cx_node.specs.cx_rules.specs.Links.{Link}
use Rattle.cx_node.specs.cx_rules.specs.Rows.{Arrival, Row, refuses, unless_refused, with_opened}
use Rattle.cx_node.specs.cx_rules.specs.Secured.{Secured, is_signed}
use Rattle.cx_steps.specs.declared.seals.SealEntry.{SealEntry}
use Rattle.cx_node.specs.steps.Making.{IsRow, IsRowOf, Makes, entering, own_behind, row_due}
use Rattle.cx_node.specs.steps.Signatures.{signature_refusal}
use Rattle.cx_node.specs.declared.steps_rows.NoRow.{NoRow}
use Rattle.cx_node.specs.declared.steps_rows.NoRow.TheVariants.{Refused, OutOfMemory}
use Rattle.cx_node.specs.declared.steps_rows.NodeRow.{NodeRow}

-- ---- a row of the rules, behind what was logged before

-- what is refused is so behind it too
pub unless_behind : {Own Stage X : Type 0} (a : Arrival Own Stage) (opened : List SealEntry) (read : Result X BytesFault) (next : X → Row Own Stage)
    → with_opened opened (unless_refused a [] read next) ≡ unless_refused a opened read (λ x. with_opened opened (next x))
unless_behind a opened (Ok x) next = refl
unless_behind a opened (Err why) next = ap (λ (seals : List SealEntry). refuses a (Bytes why) seals) (append-nil opened)

-- ---- a row that was made

module _ {Own Stage Change : Type 0} (abridged : Link Stage → Link Stage) (changed : Own → Change → Own) where
  -- the row that is due is this one, which is to be made as that one
  pub makes_as : (a : Arrival Own Stage) (R S : Row Own Stage) (r : Result (NodeRow (Link Stage) Change) NoRow) → row_due abridged S ≡ row_due abridged R
      → Makes abridged changed a R r → Makes abridged changed a S r
  makes_as a R S (Ok made) e m = record { row = m.row ∙ sym e; number_is = m.number_is }
  makes_as a R S (Err (Refused why)) e m = m ∙ sym e
  makes_as a R S (Err OutOfMemory) e m = tt

  -- the row of what was made, behind what opened before it
  pub behind_due : (a : Arrival Own Stage) (opened : List SealEntry) (R : Row Own Stage) (r : Result (NodeRow (Link Stage) Change) NoRow)
      (back : NodeRow (Link Stage) Change) → Makes abridged changed a R r → IsRowOf a.me a.link.number opened r back
      → IsRow abridged a.link.number (own_behind changed a.own back.change) (with_opened opened R) back.row
  behind_due a opened R (Ok made) back m is =
      let behind : Row Own Stage → Row Own Stage = λ row. with_opened opened row in
      rw is (record { row = ap behind m.row; number_is = m.number_is })
  behind_due a opened R (Err (Refused why)) back m is =
      let behind : Row Own Stage → Row Own Stage = λ row. with_opened opened row in
      rw is (record { row = ap behind m; number_is = tt })
  behind_due a opened R (Err OutOfMemory) back m is = absurd is

  -- the same where the row that is due is logged so
  pub behind_as : (a : Arrival Own Stage) (opened : List SealEntry) (R S : Row Own Stage) (r : Result (NodeRow (Link Stage) Change) NoRow)
      (back : NodeRow (Link Stage) Change) → with_opened opened R ≡ S → Makes abridged changed a R r → IsRowOf a.me a.link.number opened r back
      → Makes abridged changed a S (let made : Result (NodeRow (Link Stage) Change) NoRow = Ok back in made)
  behind_as a opened R S r back e m is =
      let whole = behind_due a opened R r back m is in
      record { row = whole.row ∙ ap (row_due abridged) e; number_is = whole.number_is }

  -- the row of what was made, behind what is entered first
  pub entered_as : (a : Arrival Own Stage) (first : Entry) (R : Row Own Stage) (back : NodeRow (Link Stage) Change)
      → IsRow abridged a.link.number (own_behind changed a.own back.change) R back.row
      → Makes abridged changed a (record R { entries = first ∷ R.entries }) (let made : Result (NodeRow (Link Stage) Change) NoRow = Ok (entering first back) in made)
  entered_as a first R back m =
      record { row = ap (λ (row : Row Own Stage). record row { entries = first ∷ row.entries }) m.row; number_is = m.number_is }

  -- ---- the peer's signature

  -- what the rules have of it, with the row where it is right
  abbrev pub signed_row : Arrival Own Stage → Secured → Result AuthSignature BytesFault → Row Own Stage → Row Own Stage
  signed_row a s read next = unless_refused a [] read (λ found. if is_signed s found.signature then next else refuses a (Login SignatureWrong) [])

  found_right : (a : Arrival Own Stage) (next : Row Own Stage) (b : Bool) → (let none : Option Reason = if b then None else Some (Login SignatureWrong) in none) ≡ None
      → (if b then next else refuses a (Login SignatureWrong) []) ≡ next
  found_right a next true e = refl
  found_right a next false e = absurd (cc)

  pub signature_right : (a : Arrival Own Stage) (s : Secured) (read : Result AuthSignature BytesFault) (next : Row Own Stage) → signature_refusal s read ≡ None
      → signed_row a s read next ≡ next
  signature_right a s (Ok found) next e = found_right a next (is_signed s found.signature) e
  signature_right a s (Err why) next e = absurd (cc)
