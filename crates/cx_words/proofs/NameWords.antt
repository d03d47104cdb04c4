-- Types, services, accesses and names: what is read was spelled so, and what is spelled is read again.
use Rattle.std.proofs.Common.{◌≡◌, ℕ, ◌+◌, Bool, true, false, cond, List, [], ◌∷◌, ◌++◌, take, drop, Option, Some, None, IsTrue, IfSome, IfOk, Result, Ok, Err, length, ◌-◌, refl, sym, ap, ◌∙◌, arith}
use Rattle.std.specs.Prelude.{codes, find}
use Rattle.std.specs.List.{position_from, position}
use Rattle.std.proofs.lemmas.Bool.Decides.{nat_tests}
use Rattle.std.proofs.lemmas.Slice.Eq.{bytes_eq-Decides}
use Rattle.cx_base.specs.Joined.{◌<>◌}
use Rattle.cx_base.specs.Names.{Name, access_word, is_daemon_type, is_id, name_text, type_word, with_id}
use Rattle.cx_base.specs.declared.kinds.EntityType.{EntityType}
use Rattle.cx_base.specs.declared.kinds.EntityType.TheVariants.{Mon, Mds, Osd, Client, Mgr, Auth}
use Rattle.cx_base.specs.declared.kinds.Access.{Access}
use Rattle.cx_base.specs.declared.kinds.Access.TheVariants.{Read, Write, Exec}
use Rattle.cx_words.specs.Words.{access_of, is_access_word, is_point, is_service, is_type_word, kept, name_at, name_of, service_of, ticket_service_of, type_of}
use Rattle.cx_base.specs.Owners.{is_above_ascii}
use Rattle.cx_base.proofs.AsciiTexts.{ascii_id}
use Rattle.cx_words.proofs.FirstPlace.{cut, take_rest}

-- what is found passes the test
passes_step : {X : Type 0} (test : X → Bool) (y : X) (ys : List X) (x : X) (b : Bool) → test y ≡ b
    → (find test ys ≡ Some x → test x ≡ true) → cond b (Some y) (find test ys) ≡ Some x → test x ≡ true
passes_step test y ys x true hit more e = let same : y ≡ x = cc in ap test (sym same) ∙ hit
passes_step test y ys x false miss more e = more e

found_passes : {X : Type 0} (test : X → Bool) (xs : List X) (x : X) → find test xs ≡ Some x → test x ≡ true
found_passes test [] x e = absurd (let p : None ≡ Some x = e in cc)
found_passes test (y ∷ ys) x e = passes_step test y ys x (test y) refl (found_passes test ys x) e

-- ---- types

pub type_of-is : (word : List ℕ) (kind : EntityType) → type_of word ≡ Some kind → word ≡ type_word kind
unfolding type_of
type_of-is word kind e =
    (bytes_eq-Decides word (type_word kind)).0
    (found_passes (is_type_word word) (Mon ∷ Mds ∷ Osd ∷ Client ∷ Mgr ∷ Auth ∷ []) kind e)

pub type_of-word : (kind : EntityType) → type_of (type_word kind) ≡ Some kind
unfolding type_of
type_of-word Mon = refl
type_of-word Mds = refl
type_of-word Osd = refl
type_of-word Client = refl
type_of-word Mgr = refl
type_of-word Auth = refl

-- ---- services

kept_cases : (test : EntityType → Bool) (kind found : EntityType) (b : Bool) → test found ≡ b → cond b (Some found) None ≡ Some kind
    → (found ≡ kind) × (test kind ≡ true)
kept_cases test kind found true hit e = let same : found ≡ kind = cc in (same, ap test (sym same) ∙ hit)
kept_cases test kind found false miss e = absurd (let p : None ≡ Some kind = e in cc)

kept_is : (test : EntityType → Bool) (word : List ℕ) (kind : EntityType) (found : Option EntityType) → type_of word ≡ found
    → kept test found ≡ Some kind → (test kind ≡ true) × (word ≡ type_word kind)
kept_is test word kind None t e = absurd (let p : None ≡ Some kind = e in cc)
kept_is test word kind (Some found) t e =
    let same = kept_cases test kind found (test found) refl e in
    (same.1, type_of-is word found t ∙ ap type_word same.0)

pub service_of-is : (word : List ℕ) (kind : EntityType) → service_of word ≡ Some kind → IsTrue (is_service kind) × (word ≡ type_word kind)
unfolding service_of
service_of-is word kind e = kept_is is_service word kind (type_of word) refl e

pub service_of-word : (kind : EntityType) → IsTrue (is_service kind) → service_of (type_word kind) ≡ Some kind
unfolding service_of
service_of-word kind h = rw (type_of-word kind, h) refl

pub ticket_service_of-is : (word : List ℕ) (kind : EntityType) → ticket_service_of word ≡ Some kind
    → IsTrue (is_daemon_type kind) × (word ≡ type_word kind)
unfolding ticket_service_of
ticket_service_of-is word kind e = kept_is is_daemon_type word kind (type_of word) refl e

pub ticket_service_of-word : (kind : EntityType) → IsTrue (is_daemon_type kind) → ticket_service_of (type_word kind) ≡ Some kind
unfolding ticket_service_of
ticket_service_of-word kind h = rw (type_of-word kind, h) refl

-- ---- accesses

pub access_of-is : (word : List ℕ) (access : Access) → access_of word ≡ Some access → word ≡ access_word access
unfolding access_of
access_of-is word access e =
    (bytes_eq-Decides word (access_word access)).0 (found_passes (is_access_word word) (Read ∷ Write ∷ Exec ∷ []) access e)

pub access_of-word : (access : Access) → access_of (access_word access) ≡ Some access
unfolding access_of
access_of-word Read = refl
access_of-word Write = refl
access_of-word Exec = refl

-- ---- names

id_cases : (id : List ℕ) (kind : EntityType) (name : Name) (b : Bool) → is_id kind id ≡ b
    → cond b (Some (record { kind = kind; id = id })) None ≡ Some name → (kind ≡ name.kind) × (id ≡ name.id) × (is_id kind id ≡ true)
id_cases id kind name true hit e = (cc, cc, hit)
id_cases id kind name false miss e = absurd (let p : None ≡ Some name = e in cc)

with_id_is : (word front id : List ℕ) (name : Name) (kind : Option EntityType) → word ≡ front <> codes "." <> id
    → type_of front ≡ kind → with_id id kind ≡ Some name → IsTrue (is_id name.kind name.id) × (word ≡ name_text name)
with_id_is word front id name None is_word t e = absurd (let p : None ≡ Some name = e in cc)
with_id_is word front id name (Some kind) is_word t e =
    let same = id_cases id kind name (is_id kind id) refl e in (
      rw (sym same.0, sym same.1) same.2,
      is_word ∙ ap (λ f. f <> codes "." <> id) (type_of-is front kind t ∙ ap type_word same.0) ∙ ap (λ i. type_word name.kind <> codes "." <> i) same.1,
    )

name_is : (word : List ℕ) (name : Name) (place : Option ℕ) → position_from is_point 0 word ≡ place → name_at word place ≡ Some name
    → IsTrue (is_id name.kind name.id) × (word ≡ name_text name)
name_is word name None here e = absurd (let p : None ≡ Some name = e in cc)
name_is word name (Some place) here e =
    let c = cut is_point word place here in
    let point : c.item ≡ 46 = grind (arith, nat_tests, c.passes) in
    with_id_is word (take place word) (drop (place + 1) word) name (type_of (take place word))
    (c.whole ∙ ap (λ p. take place word ++ p ∷ drop (place + 1) word) point) refl e

pub name_of-is : (word : List ℕ) (name : Name) → name_of word ≡ Some name → IsTrue (is_id name.kind name.id) × (word ≡ name_text name)
unfolding name_of
name_of-is word name e = name_is word name (position_from is_point 0 word) refl e

name_of_parts : (kind : EntityType) (id : List ℕ) → IsTrue (is_id kind id)
    → name_of (type_word kind <> codes "." <> id) ≡ Some (record { kind = kind; id = id })
unfolding name_of type_of
name_of_parts Mon id h = rw h refl
name_of_parts Mds id h = rw h refl
name_of_parts Osd id h = rw h refl
name_of_parts Client id h = rw h refl
name_of_parts Mgr id h = rw h refl
name_of_parts Auth id h = rw h refl

pub name_of-text : (name : Name) → IsTrue (is_id name.kind name.id) → name_of (name_text name) ≡ Some name
name_of-text name h = name_of_parts name.kind name.id h

-- ---- what the readers of words say

not_ascii_step : (id : List ℕ) (kind : EntityType) (place : ℕ) → position is_above_ascii id ≡ Some place
    → (b : Bool) → is_id kind id ≡ b → let name : Name = record { kind = kind; id = id } in None ≡ cond b (Some name) None
not_ascii_step id kind place above false miss = refl
not_ascii_step id kind place above true hit = absurd (let p : None ≡ Some place = sym (ascii_id kind id hit) ∙ above in cc)

pub service_spelled : (word : List ℕ) (read : Option EntityType) → read ≡ service_of word
    → IfSome read (λ kind. IsTrue (is_service kind) × (word ≡ type_word kind))
service_spelled word None e = tt
service_spelled word (Some kind) e = service_of-is word kind (sym e)

pub ticket_service_spelled : (word : List ℕ) (read : Option EntityType) → read ≡ ticket_service_of word
    → IfSome read (λ kind. IsTrue (is_daemon_type kind) × (word ≡ type_word kind))
ticket_service_spelled word None e = tt
ticket_service_spelled word (Some kind) e = ticket_service_of-is word kind (sym e)

pub name_spelled : {E : Type 0} (word : List ℕ) (read : Result (Option Name) E) → IfOk read (λ found. found ≡ name_of word)
    → IfOk read (λ found. IfSome found (λ name. IsTrue (is_id name.kind name.id) × (word ≡ name_text name)))
name_spelled word (Ok None) e = tt
name_spelled word (Ok (Some name)) e = name_of-is word name (sym e)
name_spelled word (Err f) e = tt

pub point_name : {E : Type 0} (word : List ℕ) (place : ℕ) (kind : Option EntityType) (read : Result (Option Name) E)
    → position_from is_point 0 word ≡ Some place → kind ≡ type_of (take place word)
    → IfOk read (λ found. found ≡ with_id (take (length word - (place + 1)) (drop (place + 1) word)) kind)
    → IfOk read (λ found. found ≡ name_of word)
unfolding name_of
point_name word place kind (Ok found) here is_kind is_read = rw (is_read, take_rest (place + 1) word, here, is_kind) refl
point_name word place kind (Err f) here is_kind is_read = tt

-- an id that isn't ASCII is none
pub not_ascii : (id : List ℕ) (kind : EntityType) (place : ℕ) → position is_above_ascii id ≡ Some place → None ≡ with_id id (Some kind)
not_ascii id kind place above = not_ascii_step id kind place above (is_id kind id) refl
