-- What reads all of some bytes.
use Rattle.std.proofs.Common.{◌≡◌, ◌≢◌, ℕ, ◌+◌, ◌<◌, ◌≤◌, List, [], ◌++◌, length, Result, Ok, Err, refl, sym, ap, ◌∙◌, arith}
use Rattle.std.proofs.lemmas.List.{append-nil, nil_from_length}
use Rattle.cx_enc.specs.declared.faults.ReadFault.{ReadFault}
use Rattle.cx_enc.specs.Forms.{Spot, ◌>>=◌, Form, IsBytes, IsLawful}
use Rattle.cx_enc.specs.declared.faults.ReadRefusal.{ReadRefusal}
use Rattle.cx_enc.specs.declared.faults.ReadRefusal.TheVariants as refusals
use Rattle.cx_enc.specs.Whole.{start, Spells, Gives, part_at, IsLeftOver, IsRefusedBy, IsReadAgain}

-- a value behind which nothing is left is spelled by all of the bytes
pub spelled : {X : Type 0} (form : Form X) → IsLawful form → (bytes : List ℕ) (x : X) (next : Spot) → IsBytes bytes → form.at (start bytes) ≡ Ok (x, next) → next.left ≡ [] → Spells form bytes x
spelled form lawful bytes x next fits read none =
    let taken = lawful.takes (start bytes) (x, next) fits read in
    (taken.1, taken.0.whole ∙ ap (λ (rest : List ℕ). form.text x ++ rest) none ∙ append-nil (form.text x))

-- what is spelled is read again, at any place and whatever follows it
pub read_behind : {X : Type 0} (form : Form X) → IsLawful form → (bytes : List ℕ) (x : X) → Spells form bytes x → IsReadAgain form bytes x
read_behind form lawful bytes x (fits, is) place more = rw is (lawful.again x place more fits)

-- what all of the bytes spell is read, and nothing is left
pub read_again : {X : Type 0} (form : Form X) → IsLawful form → (bytes : List ℕ) (x : X) → Spells form bytes x → form.at (start bytes) ≡ Ok (x, record { place = 0 + length (form.text x); left = [] })
read_again form lawful bytes x (fits, is) =
    let whole : bytes ≡ form.text x ++ [] = is ∙ sym (append-nil (form.text x)) in
    ap (λ (b : List ℕ). form.at (start b)) whole ∙ lawful.again x 0 [] fits

-- where all of the bytes spell a value, that value is what is read, and nothing is left
pub nothing_left : {X : Type 0} (form : Form X) → IsLawful form → (bytes : List ℕ) (x y : X) (next : Spot) → Spells form bytes x → form.at (start bytes) ≡ Ok (y, next) → (y ≡ x) × (next.left ≡ [])
nothing_left {X} form lawful bytes x y next spells read =
    let again = read_again form lawful bytes x spells in
    let same = both_ok y x next (record { place = 0 + length (form.text x); left = [] }) (sym read ∙ again) in
    (same.0, ap (λ (s : Spot). s.left) same.1)
  where
    done : {X : Type 0} → X × Spot → Result (X × Spot) ReadFault
    done x = Ok x

    ok_is : {X : Type 0} (p q : X × Spot) → done p ≡ done q → p ≡ q
    ok_is p q e = cc

    both_ok : {X : Type 0} (y x : X) (next end : Spot) → done (y, next) ≡ done (x, end) → (y ≡ x) × (next ≡ end)
    both_ok {X} y x next end e =
        let pairs : (y, next) ≡ (x, end) = ok_is (y, next) (x, end) e in
        (ap (λ (p : X × Spot). p.0) pairs, ap (λ (p : X × Spot). p.1) pairs)

-- where all of the bytes spell a value, a reader that refuses wants memory
pub wants_memory : {X : Type 0} (form : Form X) → IsLawful form → (bytes : List ℕ) (x : X) (e : ReadRefusal) (old new : Spot) → Spells form bytes x → old ≡ start bytes → Gives new (Err e) (form.at old) → e ≡ refusals.OutOfMemory
wants_memory form lawful bytes x (refusals.Fault fault) old new spells is refused = absurd (no_fault (form.at old) _ fault (ap form.at is ∙ read_again form lawful bytes x spells) refused)
  where
    no_fault : {X : Type 0} (r : Result X ReadFault) (x : X) (e : ReadFault) → r ≡ Ok x → r ≡ Err e → ⊥
    no_fault r x e good bad = cc
wants_memory form lawful bytes x (refusals.LeftOver place) old new spells is refused = absurd refused
wants_memory form lawful bytes x refusals.OutOfMemory old new spells is refused = refl

-- where all of the bytes spell a value, no fault is found
pub no_fault : {X : Type 0} (form : Form X) → IsLawful form → (bytes : List ℕ) (x : X) (fault : ReadFault) → Spells form bytes x → form.at (start bytes) ≡ Err fault → ⊥
no_fault form lawful bytes x fault spells bad = both (form.at (start bytes)) _ fault (read_again form lawful bytes x spells) bad
  where
    both : {X : Type 0} (r : Result X ReadFault) (x : X) (e : ReadFault) → r ≡ Ok x → r ≡ Err e → ⊥
    both r x e good bad = cc

-- where something is left behind a value, all of the bytes spell none
pub none_left_over : {X : Type 0} (form : Form X) → IsLawful form → (bytes : List ℕ) (x y : X) (next : Spot) → Spells form bytes x → form.at (start bytes) ≡ Ok (y, next) → 0 < length next.left → ⊥
none_left_over form lawful bytes x y next spells read some =
    let none = nothing_left form lawful bytes x y next spells read in
    let empty : length next.left ≡ 0 = ap length none.1 in
    omega (arith, empty)

-- where something is left, that is why the bytes are refused
pub left_over : {X : Type 0} (form : Form X) (bytes : List ℕ) (x : X) (next : Spot) (place : ℕ) → form.at (start bytes) ≡ Ok (x, next) → 0 < length next.left → place ≡ next.place → IsLeftOver form bytes place
left_over form bytes x next place read some is =
    let behind : next.left ≢ [] = λ none. (let empty : length next.left ≡ 0 = ap length none in omega (arith, empty)) in
    (x, next, read, behind, is)

-- where nothing is left, all of the bytes spell the value
pub spelled_whole : {X : Type 0} (form : Form X) → IsLawful form → (bytes : List ℕ) (x : X) (next : Spot) → IsBytes bytes → form.at (start bytes) ≡ Ok (x, next) → length next.left ≤ 0 → Spells form bytes x
spelled_whole form lawful bytes x next fits read none = spelled form lawful bytes x next fits read (nil_from_length next.left (omega arith))

-- the whole of which a part was read
pub whole_of : {V X : Type 0} (whole : Form V) (kept : V → X) (s : Spot) (x : X) (next : Spot) → part_at kept whole s ≡ Ok (x, next) → (v : V) × (whole.at s ≡ Ok (v, next)) × (kept v ≡ x)
whole_of {V} {X} whole kept s x next e = by_answer kept (whole.at s) x next e
  where
    made : {X : Type 0} → X × Spot → Result (X × Spot) ReadFault
    made p = Ok p

    pair_is : {X : Type 0} (p q : X × Spot) → made p ≡ made q → p ≡ q
    pair_is p q e = cc

    by_answer : {V X : Type 0} (kept : V → X) (r : Result (V × Spot) ReadFault) (x : X) (next : Spot) → ◌>>=◌ {B = X × Spot} r (λ a. Ok (kept a.0, a.1)) ≡ Ok (x, next) → (v : V) × (r ≡ Ok (v, next)) × (kept v ≡ x)
    by_answer {V} {X} kept (Ok a) x next e =
        let both : (kept a.0, a.1) ≡ (x, next) = pair_is (kept a.0, a.1) (x, next) e in
        (a.0, ap (λ (s : Spot). made (a.0, s)) (ap (λ (p : X × Spot). p.1) both), ap (λ (p : X × Spot). p.0) both)
    by_answer kept (Err d) x next e = absurd cc

-- a fault of the part is one of the whole
pub part_fault : {V X : Type 0} (whole : Form V) (kept : V → X) (s : Spot) (fault : ReadFault) → part_at kept whole s ≡ Err fault → whole.at s ≡ Err fault
part_fault whole kept s fault e = by_answer kept (whole.at s) fault e
  where
    by_answer : {V X : Type 0} (kept : V → X) (r : Result (V × Spot) ReadFault) (fault : ReadFault) → ◌>>=◌ {B = X × Spot} r (λ a. Ok (kept a.0, a.1)) ≡ Err fault → r ≡ Err fault
    by_answer kept (Ok a) fault e = absurd cc
    by_answer kept (Err d) fault e = let same : d ≡ fault = cc in ap (λ (f : ReadFault). Err f) same

-- why a reader of a part refuses
pub part_refused : {V X : Type 0} (whole : Form V) (kept : V → X) (bytes : List ℕ) (e : ReadRefusal) (old new : Spot) → old ≡ start bytes → Gives new (Err e) (part_at kept whole old) → IsRefusedBy whole bytes e
part_refused whole kept bytes (refusals.Fault fault) old new is refused = part_fault whole kept (start bytes) fault (ap (part_at kept whole) (sym is) ∙ refused)
part_refused whole kept bytes (refusals.LeftOver place) old new is refused = absurd refused
part_refused whole kept bytes refusals.OutOfMemory old new is refused = tt

-- where all of the bytes spell a whole, a reader of a part of it that refuses wants memory
pub part_wants_memory : {V X : Type 0} (whole : Form V) → IsLawful whole → (kept : V → X) (bytes : List ℕ) (v : V) (e : ReadRefusal) (old new : Spot) → Spells whole bytes v → old ≡ start bytes → Gives new (Err e) (part_at kept whole old) → e ≡ refusals.OutOfMemory
part_wants_memory whole lawful kept bytes v (refusals.Fault fault) old new spells is refused = absurd (no_fault whole lawful bytes v fault spells (part_fault whole kept (start bytes) fault (ap (part_at kept whole) (sym is) ∙ refused)))
part_wants_memory whole lawful kept bytes v (refusals.LeftOver place) old new spells is refused = absurd refused
part_wants_memory whole lawful kept bytes v refusals.OutOfMemory old new spells is refused = refl
