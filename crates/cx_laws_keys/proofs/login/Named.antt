-- Names: of a LoginHello, which can be written again, and of the keyring.
use Rattle.std.proofs.Common.{◌≡◌, ℕ, Bool, true, false, cond, List, [], ◌∷◌, Option, Some, None, Result, Ok, Err, refl, sym, ap, ◌∙◌, subst}
use Rattle.std.specs.Prelude.{find}
use Rattle.cx_base.proofs.Names.{same_name_is}
use Rattle.cx_base.specs.Names.{Name, is_id, with_id}
use Rattle.cx_base.specs.declared.kinds.EntityType.{EntityType}
use Rattle.cx_laws_keys.specs.cx_enc.proofs.Fitting.{name_fits}
use Rattle.cx_laws_keys.specs.cx_enc.specs.Forms.{Spot, Form, blob_form, field, or_bad, pair, seen, u32_form, u64_form, u8_form}
use Rattle.cx_laws_keys.specs.cx_enc.specs.Values.{fixed, kind_of, name_form, name_of}
use Rattle.cx_laws_keys.specs.cx_enc.specs.Whole.{start}
use Rattle.cx_laws_keys.specs.cx_enc.specs.declared.faults.ReadFault.{ReadFault}
use Rattle.cx_rules.specs.cx_keyring.specs.Entries.{is_named}
use Rattle.cx_rules.specs.cx_keyring.specs.declared.entries.Entry.{Entry as Principal}
use Rattle.cx_rules.specs.Payloads.{to_end, unless_left, whole}
use Rattle.cx_rules.specs.cx_wire.specs.Logins.{login_hello_layout}
use Rattle.cx_rules.specs.cx_wire.specs.declared.logins.LoginHello.{LoginHello}
use Rattle.cx_laws_keys.proofs.keys.Lists.{found_all, found_passes}
use Rattle.cx_laws_keys.proofs.keys.Reading.{bind_ok, pair_parts, unseen}
use Rattle.cx_laws_keys.proofs.keys.Uses.{Means, Secret, Uses}
use Rattle.cx_laws_keys.proofs.login.Facts.{AreSecrets}

-- ---- the keyring

-- the secret of an entity that the keyring has is its own
pub found_secret : (us : Uses) (name : Name) (ring : List Principal) (p : Principal) → AreSecrets us ring → find (is_named name) ring ≡ Some p → Means us p.key.secret (Secret name)
found_secret us name ring p secrets found =
    let same : name ≡ p.name = same_name_is name p.name (found_passes (is_named name) ring p found) in
    subst (λ (n : Name). Means us p.key.secret (Secret n)) (sym same)
    (found_all (λ (q : Principal). Means us q.key.secret (Secret q.name)) (is_named name) ring p secrets found)

-- ---- the name of a LoginHello

whole_read : {X : Type 0} (form : Form X) (bytes : List ℕ) (x : X) → whole form bytes ≡ Ok x → (next : Spot) × (form.at (start bytes) ≡ Ok (x, next))
whole_read {X} form bytes x e = by_read (form.at (start bytes)) e
  where
    read : X → Spot → Result (X × Spot) ReadFault
    read y next = Ok (y, next)

    by_left : (y : X) (next : Spot) (place : ℕ) (left : List ℕ) → unless_left y place left ≡ Ok x → y ≡ x
    by_left y next place [] is = cc
    by_left y next place (b ∷ left) is = absurd cc

    by_read : (r : Result (X × Spot) ReadFault) → to_end r ≡ Ok x → (next : Spot) × (r ≡ Ok (x, next))
    by_read (Ok (y, next)) is = (next, ap (λ (z : X). read z next) (by_left y next next.place next.left is))
    by_read (Err fault) is = absurd cc

abbrev read_of : {X : Type 0} → X × Spot → Result (X × Spot) ReadFault
read_of p = Ok p

read_is : {X : Type 0} (p q : X × Spot) → read_of p ≡ read_of q → p ≡ q
read_is p q e = cc

or_bad_is : {X : Type 0} (place : ℕ) (o : Option X) (s next : Spot) (x : X) → or_bad place o s ≡ Ok (x, next) → o ≡ Some x
or_bad_is {X} place (Some y) s next x e = let same : (y, s) ≡ (x, next) = read_is (y, s) (x, next) e in ap (λ (p : X × Spot). Some p.0) same
or_bad_is place None s next x e = absurd cc

id_good : (id : List ℕ) (o : Option EntityType) (name : Name) → with_id id o ≡ Some name → is_id name.kind name.id ≡ true
id_good id None name e = absurd cc
id_good id (Some kind) name e = by_test (is_id kind id) refl e
  where
    by_test : (t : Bool) → is_id kind id ≡ t → cond t (Some (record { kind = kind; id = id })) None ≡ Some name → is_id name.kind name.id ≡ true
    by_test true is found =
        let same : record { kind = kind; id = id } ≡ name = cc in
        subst (λ (n : Name). is_id n.kind n.id ≡ true) same is
    by_test false is found = absurd cc

name_read : (s next : Spot) (name : Name) → name_form.at s ≡ Ok (name, next) → is_id name.kind name.id ≡ true
unfolding name_form
name_read s next name e =
    let f : Form (ℕ × List ℕ) = field (pair u32_form blob_form) in
    let a = bind_ok (f.at s) (λ a. or_bad s.place (name_of a.0) a.1) (name, next) e in
    id_good a.0.0.1 (kind_of a.0.0.0) name (or_bad_is s.place (name_of a.0.0) a.0.1 next name a.2)

pub hello_named : (bytes : List ℕ) (hello : LoginHello) → whole login_hello_layout.form bytes ≡ Ok hello → name_form.Fits hello.name
hello_named bytes hello e =
    let rest : Form (Name × ℕ) = pair name_form u64_form in
    let front : Form (Unit {0} × (Name × ℕ)) = pair (fixed 10 u8_form) rest in
    let inner : Form (Name × ℕ) = seen (λ (a : Unit {0} × (Name × ℕ)). a.1) (λ x. (tt, x)) front in
    let made : Name × ℕ → LoginHello = λ (name, gid). record { name = name; gid = gid } in
    let read = whole_read login_hello_layout.form bytes hello e in
    let a = unseen made (λ (h : LoginHello). (h.name, h.gid)) inner (start bytes) hello read.0 read.1 in
    let b = unseen (λ (a : Unit {0} × (Name × ℕ)). a.1) (λ x. (tt, x)) front (start bytes) a.0 read.0 a.2 in
    let c = pair_parts (fixed 10 u8_form) rest (start bytes) b.0 read.0 b.2 in
    let d = pair_parts name_form u64_form c.0 b.0.1 read.0 c.2 in
    let name : b.0.1.0 ≡ hello.name = ap (λ (x : Name × ℕ). x.0) b.1 ∙ ap (λ (h : LoginHello). h.name) a.1 in
    let good : is_id b.0.1.0.kind b.0.1.0.id ≡ true = name_read c.0 d.0 b.0.1.0 d.1 in
    let good_name : is_id hello.name.kind hello.name.id ≡ true = subst (λ (n : Name). is_id n.kind n.id ≡ true) name good in
    name_fits hello.name good_name
