-- What the blob of a body holds, and what follows from how all of it is read.
use Rattle.std.proofs.Common.{◌≡◌, ℕ, ◌-◌, ◌^◌, ◌<◌, ◌≤◌, List, [], ◌∷◌, ◌++◌, length, take, Result, Ok, Err, OnOk, OnErr, refl, sym, ap, subst, ◌∙◌, arith}
use Rattle.std.specs.Int.{w32}
use Rattle.std.specs.declared.alloc.AllocError.{AllocError}
use Rattle.std.proofs.lemmas.List.{length-append, take_at}
use Rattle.cx_enc.specs.declared.faults.ReadFault.{ReadFault}
use Rattle.cx_enc.specs.declared.faults.ReadFault.TheVariants.{BadField}
use Rattle.cx_enc.specs.declared.faults.ReadRefusal.{ReadRefusal}
use Rattle.cx_enc.specs.declared.faults.ReadRefusal.TheVariants as reading
use Rattle.cx_enc.specs.Forms.{Spot, Form, ◌>>=◌, little, u32_form, blob_form, IsBytes}
use Rattle.cx_enc.specs.FormLaws.{u32-lawful, blob-lawful}
use Rattle.cx_enc.specs.Layouts.{Layout}
use Rattle.cx_enc.specs.Faults.{fault_place}
use Rattle.cx_enc.specs.Whole.{start, Gives, IsReadAgain}
use Rattle.cx_enc.proofs.Wholes.{no_fault, none_left_over, nothing_left, spelled_whole}
use Rattle.cx_control.specs.Calls.{stop_of, IsReadBy, IsPutBy}
use Rattle.cx_control.specs.Refusing.{refusal_of}
use Rattle.cx_wire.specs.Codes.{ended, inside_form}
use Rattle.cx_wire.specs.CodeLaws.{inside}
use Rattle.cx_control.specs.declared.refusals.WireRefusal.TheVariants.{Malformed}

-- the front of some bytes up to the end of their blob is read as the length of the blob, and what the blob holds is left
pub front_of : (bytes content : List ℕ) (behind : Spot) → IsBytes bytes → blob_form.at (start bytes) ≡ Ok (content, behind)
    → u32_form.at (start (take (length bytes - length behind.left) bytes)) ≡ Ok (length content, record { place = 4; left = content })
unfolding little
front_of bytes content behind fits e =
    let taken = blob-lawful.takes (start bytes) (content, behind) fits e in
    let text : List ℕ = little w32 (length content) ++ content in
    let whole : bytes ≡ text ++ behind.left = taken.0.whole in
    let count : length bytes - length behind.left ≡ length text = omega (arith, ap length whole, length-append text behind.left) in
    let front : take (length bytes - length behind.left) bytes ≡ text = ap (λ (n : ℕ). take n bytes) count ∙ ap (take (length text)) whole ∙ take_at text behind.left (length text) refl in
    ap (λ (b : List ℕ). u32_form.at (start b)) front ∙ u32-lawful.again (length content) 0 content taken.1

pub whole_fault : {X : Type 0} (layout : Layout X) (bytes : List ℕ) (fault : ReadFault) → layout.form.at (start bytes) ≡ Err fault → IsReadBy layout.form bytes (Err (Malformed (fault_place fault)))
whole_fault {X} layout bytes fault e = record {
  found = tt;
  only = λ x spells. absurd (no_fault layout.form layout.lawful bytes x fault spells e);
  refused = (λ x spells. no_fault layout.form layout.lawful bytes x fault spells e, sym (ap (λ (r : Result (X × Spot) ReadFault). stop_of r) e));
}

pub whole_over : {X : Type 0} (layout : Layout X) (bytes : List ℕ) (x : X) (next : Spot) → layout.form.at (start bytes) ≡ Ok (x, next) → 0 < length next.left → IsReadBy layout.form bytes (Err (Malformed next.place))
whole_over {X} layout bytes x next e some = record {
  found = tt;
  only = λ y spells. absurd (none_left_over layout.form layout.lawful bytes y x next spells e some);
  refused = (λ y spells. none_left_over layout.form layout.lawful bytes y x next spells e some, sym (ap (λ (r : Result (X × Spot) ReadFault). stop_of r) e));
}

pub whole_ok : {X : Type 0} (layout : Layout X) (bytes : List ℕ) (x : X) (next : Spot) → IsBytes bytes → layout.form.at (start bytes) ≡ Ok (x, next) → length next.left ≤ 0 → IsReadBy layout.form bytes (Ok x)
whole_ok layout bytes x next fits e none = record {
  found = spelled_whole layout.form layout.lawful bytes x next fits e none;
  only = λ y spells. (nothing_left layout.form layout.lawful bytes y x next spells e).0;
  refused = tt;
}

-- what is left behind a blob are not more bytes than there are
pub left_le : (bytes content : List ℕ) (behind : Spot) → IsBytes bytes → blob_form.at (start bytes) ≡ Ok (content, behind) → length behind.left ≤ length bytes
left_le bytes content behind fits e =
    let taken = blob-lawful.takes (start bytes) (content, behind) fits e in
    omega (arith, ap length taken.0.whole, length-append (blob_form.text content) behind.left)

both_ok : {X : Type 0} (r : Result (X × Spot) ReadFault) (x y : X) (next end : Spot) → r ≡ Ok (x, next) → r ≡ Ok (y, end) → next ≡ end
both_ok {X} r x y next end first second =
    let pairs : (x, next) ≡ (y, end) = one r (x, next) (y, end) first second in ap (λ (p : X × Spot). p.1) pairs
  where
    one : {Y : Type 0} (r : Result Y ReadFault) (a b : Y) → r ≡ Ok a → r ≡ Ok b → a ≡ b
    one r a b p q = cc

pub no_front_fault : (bytes content : List ℕ) (behind : Spot) (fault : ReadFault) → IsBytes bytes → blob_form.at (start bytes) ≡ Ok (content, behind)
    → u32_form.at (start (take (length bytes - length behind.left) bytes)) ≡ Err fault → ⊥
no_front_fault bytes content behind fault fits e bad = both _ _ fault (front_of bytes content behind fits e) bad
  where
    both : (r : Result (ℕ × Spot) ReadFault) (x : ℕ × Spot) (e : ReadFault) → r ≡ Ok x → r ≡ Err e → ⊥
    both r x e good bad = cc

pub is_opened : (bytes content : List ℕ) (behind : Spot) (n : ℕ) (new : Spot) → IsBytes bytes → blob_form.at (start bytes) ≡ Ok (content, behind)
    → u32_form.at (start (take (length bytes - length behind.left) bytes)) ≡ Ok (n, new) → (blob_form.at (start bytes) ≡ Ok (new.left, behind)) × (new.place ≡ 4)
is_opened bytes content behind n new fits e read =
    let same : new ≡ record { place = 4; left = content } = both_ok _ n (length content) new (record { place = 4; left = content }) read (front_of bytes content behind fits e) in
    (subst (λ (s : Spot). blob_form.at (start bytes) ≡ Ok (s.left, behind)) (sym same) e, ap (λ (s : Spot). s.place) same)

-- ---- a body whose blob was opened

same_spot : (s : Spot) → s.place ≡ 4 → let opened : Spot = record { place = 4; left = s.left } in opened ≡ s
same_spot s is = let by : ℕ → Spot = λ p. record { place = p; left = s.left } in ap by (sym is)

inside_is : {X : Type 0} (f : Form X) (bytes : List ℕ) (content behind : Spot) → blob_form.at (start bytes) ≡ Ok (content.left, behind) → content.place ≡ 4
    → (inside_form f).at (start bytes) ≡ (f.at content >>= λ x. ended x.0 x.1.place x.1.left behind)
inside_is {X} f bytes content behind opens is =
    rw opens (ap (λ (s : Spot). f.at s >>= λ (x : X × Spot). ended x.0 x.1.place x.1.left behind) (same_spot content is))

ended_over : {X : Type 0} (x : X) (place : ℕ) (left : List ℕ) (behind : Spot) → 0 < length left → ended x place left behind ≡ Err (BadField place)
ended_over x place [] behind some = absurd (omega arith)
ended_over x place (_ ∷ _) behind some = refl

ended_none : {X : Type 0} (x : X) (place : ℕ) (left : List ℕ) (behind : Spot) → length left ≤ 0 → ended x place left behind ≡ Ok (x, behind)
ended_none x place [] behind none = refl
ended_none x place (_ ∷ _) behind none = absurd (omega arith)

pub unopened : {X : Type 0} (layout : Layout X) (bytes : List ℕ) (fault : ReadFault) → blob_form.at (start bytes) ≡ Err fault → IsReadBy (inside layout).form bytes (Err (Malformed (fault_place fault)))
unopened layout bytes fault bad = whole_fault (inside layout) bytes fault (rw bad refl)

pub content_refused : {X : Type 0} (layout : Layout X) (bytes : List ℕ) (content behind : Spot) (refusal : ReadRefusal) (new : Spot) → blob_form.at (start bytes) ≡ Ok (content.left, behind) → content.place ≡ 4
    → Gives new (Err refusal) (layout.form.at content) → IsReadBy (inside layout).form bytes (Err (refusal_of refusal))
content_refused layout bytes content behind (reading.Fault fault) new opens is bad = whole_fault (inside layout) bytes fault (inside_is layout.form bytes content behind opens is ∙ rw bad refl)
content_refused layout bytes content behind (reading.LeftOver place) new opens is bad = absurd bad
content_refused layout bytes content behind reading.OutOfMemory new opens is bad = record { found = tt; only = λ x spells. refl; refused = tt }

pub content_over : {X : Type 0} (layout : Layout X) (bytes : List ℕ) (content behind : Spot) (x : X) (next : Spot) → blob_form.at (start bytes) ≡ Ok (content.left, behind) → content.place ≡ 4
    → layout.form.at content ≡ Ok (x, next) → 0 < length next.left → IsReadBy (inside layout).form bytes (Err (Malformed next.place))
content_over layout bytes content behind x next opens is read some =
    whole_fault (inside layout) bytes (BadField next.place) (inside_is layout.form bytes content behind opens is ∙ (rw read (ended_over x next.place next.left behind some)))

pub body_over : {X : Type 0} (layout : Layout X) (bytes : List ℕ) (content behind : Spot) (x : X) (next : Spot) → blob_form.at (start bytes) ≡ Ok (content.left, behind) → content.place ≡ 4
    → layout.form.at content ≡ Ok (x, next) → length next.left ≤ 0 → 0 < length behind.left → IsReadBy (inside layout).form bytes (Err (Malformed behind.place))
body_over layout bytes content behind x next opens is read none some =
    whole_over (inside layout) bytes x behind (inside_is layout.form bytes content behind opens is ∙ (rw read (ended_none x next.place next.left behind none))) some

pub body_ok : {X : Type 0} (layout : Layout X) (bytes : List ℕ) (content behind : Spot) (x : X) (next : Spot) → IsBytes bytes → blob_form.at (start bytes) ≡ Ok (content.left, behind) → content.place ≡ 4
    → layout.form.at content ≡ Ok (x, next) → length next.left ≤ 0 → length behind.left ≤ 0 → IsReadBy (inside layout).form bytes (Ok x)
body_ok layout bytes content behind x next fits opens is read none last =
    whole_ok (inside layout) bytes x behind fits (inside_is layout.form bytes content behind opens is ∙ (rw read (ended_none x next.place next.left behind none))) last

-- ---- what is written

layout_again : {X : Type 0} (layout : Layout X) (x : X) → layout.form.Fits x → IsReadAgain layout.form (layout.form.text x) x
layout_again layout x fits place more = layout.lawful.again x place more fits

pub put_inside : {X : Type 0} (layout : Layout X) (x : X) (content old new : List ℕ) (result : Result (Unit {0}) AllocError) → content ≡ layout.form.text x → layout.form.Fits x → length content < 2 ^ 32
    → OnOk result (new ≡ old ++ blob_form.text content) → OnErr result (new ≡ old) → IsPutBy (inside layout).form x old new result
put_inside layout x content old new (Ok _) is fits short ok err =
    let small : length (layout.form.text x) < 2 ^ 32 = subst (λ (t : List ℕ). length t < 2 ^ 32) is short in
    record {
      ok = subst (λ (t : List ℕ). new ≡ old ++ blob_form.text t) is ok;
      spells = ((fits, small), refl);
      again = layout_again (inside layout) x (fits, small);
      err = tt;
    }
put_inside layout x content old new (Err _) is fits short ok err = record { ok = tt; spells = tt; again = tt; err = err }
