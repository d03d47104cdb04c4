-- What the readers of bodies read is what the rules read.
use Rattle.std.proofs.Common.{◌≡◌, ℕ, List, Option, Some, None, Ok, Err, refl, ap, ◌∙◌}
use Rattle.cx_control.specs.Calls.{stop_of}
use Rattle.cx_control.specs.cx_enc.specs.Forms.{IsBytes}
use Rattle.cx_control.specs.cx_enc.specs.Layouts.{Layout}
use Rattle.cx_control.specs.cx_enc.specs.Whole.{start}
use Rattle.cx_journal.specs.declared.faults.BytesFault.TheVariants.{Malformed}
use Rattle.cx_node.specs.cx_rules.proofs.Payloads.{refused_is, spelled_is}
use Rattle.cx_node.specs.cx_rules.specs.Messages.{body_as, body_by}
use Rattle.cx_node.specs.cx_rules.specs.declared.messages.Body.TheVariants.{Spelled, OtherCode, Misspelled}
use Rattle.cx_wire.specs.BodyCalls.{IsBodyReadBy}
use Rattle.cx_wire.specs.Codes.{other_code}
use Rattle.cx_wire.specs.declared.refusals.BodyRefusal.TheVariants as refusal

spelled_by : {X : Type 0} (code : Option ℕ) (x : X) → body_by code (Ok x) ≡ Spelled x
spelled_by None x = refl
spelled_by (Some code) x = refl

pub spelled_as : {X : Type 0} (layout : Layout X) (bytes : List ℕ) (x : X) → IsBodyReadBy layout.form bytes (Ok x) → body_as layout.form bytes ≡ Spelled x
spelled_as layout bytes x read = ap (body_by (other_code bytes)) (spelled_is layout bytes x read.found) ∙ spelled_by (other_code bytes) x

pub other_as : {X : Type 0} (layout : Layout X) (bytes : List ℕ) (code : ℕ) → IsBytes bytes → IsBodyReadBy layout.form bytes (Err (refusal.OtherCode code))
    → body_as layout.form bytes ≡ OtherCode
other_as layout bytes code octets read =
    let refused = read.refused in
    let none = refused_is layout bytes (stop_of (layout.form.at (start bytes))) octets (refused.0, refl) in
    ap (body_by (other_code bytes)) none ∙ ap (λ c. body_by c (Err (Malformed (stop_of (layout.form.at (start bytes)))))) refused.1

pub misspelled_as : {X : Type 0} (layout : Layout X) (bytes : List ℕ) (place : ℕ) → IsBytes bytes → IsBodyReadBy layout.form bytes (Err (refusal.Malformed place))
    → body_as layout.form bytes ≡ Misspelled (Malformed place)
misspelled_as layout bytes place octets read =
    let refused = read.refused in
    let none = refused_is layout bytes place octets (refused.0, refused.2) in
    ap (body_by (other_code bytes)) none ∙ ap (λ c. body_by c (Err (Malformed place))) refused.1
