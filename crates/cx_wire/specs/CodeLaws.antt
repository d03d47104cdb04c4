-- The laws of a blob that holds one value, and of two forms by their codes.
use Rattle.std.proofs.Common.{◌≡◌, ℕ, ◌+◌, ◌^◌, ◌<◌, ◌⊎◌, Bool, true, false, List, [], ◌∷◌, ◌++◌, length, take, drop, Result, Ok, Err, refl, sym, ap, subst, ◌∙◌, append_assoc, arith, inl, inr}
use Rattle.std.specs.Prelude.{◌==◌}
use Rattle.std.specs.Int.{w16, w32}
use Rattle.std.proofs.lemmas.Bool.{cases_lt, eqb-true}
use Rattle.std.proofs.lemmas.List.{append-nil, length-append, get_or-take, get_or_past, length-take, take_at, drop_at}
use Rattle.cx_enc.specs.declared.faults.ReadFault.{ReadFault}
use Rattle.cx_enc.specs.Forms.{Spot, Form, ◌>>=◌, little, u16_form, blob_form, pair, IsBytes, Took, IsLawful}
use Rattle.cx_enc.specs.FormLaws.{u16-lawful, blob-lawful, pair-lawful, IsBytes-drop}
use Rattle.cx_enc.specs.Layouts.{Layout}
use Rattle.cx_wire.specs.Codes.{tickets_code, rotating_code, chosen, coded_text, CodedFits, coded_form, ended, inside_form}

-- the value of a step that did not fail
bind_ok : {A B : Type 0} (r : Result A ReadFault) (f : A → Result B ReadFault) (y : B) → (r >>= f) ≡ Ok y → (x : A) × (r ≡ Ok x) × (f x ≡ Ok y)
bind_ok (Ok x) f y e = (x, refl, e)
bind_ok (Err d) f y e = absurd cc

abbrev done : {A : Type 0} → A → Result A ReadFault
done x = Ok x

ok_is : {A : Type 0} (x y : A) → done x ≡ done y → x ≡ y
ok_is x y e = cc

-- ---- two forms by their codes

both_at : {A B : Type 0} (f : Form A) (g : Form B) (s : Spot) (a : A) (next : Spot) (b : B) (end : Spot) → f.at s ≡ Ok (a, next) → g.at next ≡ Ok (b, end) → (pair f g).at s ≡ Ok ((a, b), end)
both_at f g s a next b end first second = rw (first, second) refl

coded_takes : {A B : Type 0} (f : Form A) (g : Form B) → IsLawful f → IsLawful g → (s : Spot) (code : ℕ) (next : Spot) (first second : Bool) (x : (A ⊎ B) × Spot)
    → IsBytes s.left → u16_form.at s ≡ Ok (code, next) → (first ≡ true → code ≡ tickets_code) → (second ≡ true → code ≡ rotating_code)
    → chosen first second s.place (f.at next) (g.at next) ≡ Ok x → Took s (coded_text f.text g.text x.0) x.1 × CodedFits f.Fits g.Fits x.0
coded_takes {A} {B} f g hf hg s code next true second x fits read is_first is_second e =
    let a = bind_ok (f.at next) (λ (y : A × Spot). done (inl y.0, y.1)) x e in
    let both : (pair u16_form f).at s ≡ Ok ((code, a.0.0), a.0.1) = both_at u16_form f s code next a.0.0 a.0.1 read a.1 in
    let t = (pair-lawful u16_form f u16-lawful hf).takes s ((code, a.0.0), a.0.1) fits both in
    let named = subst (λ (n : ℕ). Took s (little w16 n ++ f.text a.0.0) a.0.1) (is_first refl) t.0 in
    subst (λ (y : (A ⊎ B) × Spot). Took s (coded_text f.text g.text y.0) y.1 × CodedFits f.Fits g.Fits y.0) (ok_is (inl a.0.0, a.0.1) x a.2) (named, t.1.1)
coded_takes {A} {B} f g hf hg s code next false true x fits read is_first is_second e =
    let a = bind_ok (g.at next) (λ (y : B × Spot). done (inr y.0, y.1)) x e in
    let both : (pair u16_form g).at s ≡ Ok ((code, a.0.0), a.0.1) = both_at u16_form g s code next a.0.0 a.0.1 read a.1 in
    let t = (pair-lawful u16_form g u16-lawful hg).takes s ((code, a.0.0), a.0.1) fits both in
    let named = subst (λ (n : ℕ). Took s (little w16 n ++ g.text a.0.0) a.0.1) (is_second refl) t.0 in
    subst (λ (y : (A ⊎ B) × Spot). Took s (coded_text f.text g.text y.0) y.1 × CodedFits f.Fits g.Fits y.0) (ok_is (inr a.0.0, a.0.1) x a.2) (named, t.1.1)
coded_takes f g hf hg s code next false false x fits read is_first is_second e = absurd cc

coded_again : {A B : Type 0} (f : Form A) (g : Form B) → IsLawful f → IsLawful g → (x : A ⊎ B) (place : ℕ) (more : List ℕ) → CodedFits f.Fits g.Fits x
    → (coded_form f g).at (record { place = place; left = coded_text f.text g.text x ++ more }) ≡ Ok (x, record { place = place + length (coded_text f.text g.text x); left = more })
coded_again f g hf hg (inl a) place more fits =
    let code : List ℕ = little w16 tickets_code in
    let end : place + length code + length (f.text a) ≡ place + length (code ++ f.text a) = omega (arith, length-append code (f.text a)) in
    rw (append_assoc code (f.text a) more, u16-lawful.again tickets_code place (f.text a ++ more) (omega arith), hf.again a (place + length code) more fits, end) refl
coded_again f g hf hg (inr b) place more fits =
    let code : List ℕ = little w16 rotating_code in
    let end : place + length code + length (g.text b) ≡ place + length (code ++ g.text b) = omega (arith, length-append code (g.text b)) in
    rw (append_assoc code (g.text b) more, u16-lawful.again rotating_code place (g.text b ++ more) (omega arith), hg.again b (place + length code) more fits, end) refl

pub coded-lawful : {A B : Type 0} (f : Form A) (g : Form B) → IsLawful f → IsLawful g → IsLawful (coded_form f g)
coded-lawful {A} {B} f g hf hg = record {
  takes = λ s x fits e.
      let c = bind_ok (u16_form.at s) (λ code. chosen (code.0 == tickets_code) (code.0 == rotating_code) s.place (f.at code.1) (g.at code.1)) x e in
      coded_takes f g hf hg s c.0.0 c.0.1 (c.0.0 == tickets_code) (c.0.0 == rotating_code) x fits c.1 (eqb-true c.0.0 tickets_code) (eqb-true c.0.0 rotating_code) c.2;
  again = coded_again f g hf hg;
}

-- ---- a blob that holds one value

IsBytes-front : (n : ℕ) (bytes : List ℕ) → IsBytes bytes → IsBytes (take n bytes)
IsBytes-front n bytes h i =
    elim (cases_lt i n) [
      | inl lt ↦ rw (get_or-take n bytes i 0 lt) (h i)
      | inr le ↦ rw (get_or_past (take n bytes) i 0 (omega (arith, length-take n bytes))) (omega arith)
    ]

-- the bytes between two parts of some
IsBytes-middle : (a c rest whole : List ℕ) → IsBytes whole → whole ≡ (a ++ c) ++ rest → IsBytes c
IsBytes-middle a c rest whole fits e =
    let behind : drop (length a) whole ≡ c ++ rest = ap (drop (length a)) e ∙ ap (drop (length a)) (append_assoc a c rest) ∙ drop_at a (c ++ rest) (length a) refl in
    let middle : take (length c) (drop (length a) whole) ≡ c = ap (take (length c)) behind ∙ take_at c rest (length c) refl in
    subst IsBytes middle (IsBytes-front (length c) (drop (length a) whole) (IsBytes-drop (length a) whole fits))

ended_ok : {X : Type 0} (value : X) (place : ℕ) (left : List ℕ) (behind : Spot) (x : X × Spot) → ended value place left behind ≡ Ok x → (left ≡ []) × ((value, behind) ≡ x)
ended_ok value place [] behind x e = (refl, ok_is (value, behind) x e)
ended_ok value place (_ ∷ _) behind x e = absurd cc

inside_takes : {X : Type 0} (f : Form X) → IsLawful f → (s : Spot) (x : X × Spot) → IsBytes s.left → (inside_form f).at s ≡ Ok x
    → Took s ((inside_form f).text x.0) x.1 × (inside_form f).Fits x.0
inside_takes {X} f h s x fits e =
    let b = bind_ok (blob_form.at s) (λ (blob : List ℕ × Spot). f.at (record { place = s.place + 4; left = blob.0 }) >>= λ y. ended y.0 y.1.place y.1.left blob.1) x e in
    let v = bind_ok (f.at (record { place = s.place + 4; left = b.0.0 })) (λ (y : X × Spot). ended y.0 y.1.place y.1.left b.0.1) x b.2 in
    let taken = blob-lawful.takes s b.0 fits b.1 in
    let small : IsBytes b.0.0 = IsBytes-middle (little w32 (length b.0.0)) b.0.0 b.0.1.left s.left fits taken.0.whole in
    let inner = h.takes (record { place = s.place + 4; left = b.0.0 }) v.0 small v.1 in
    let last = ended_ok v.0.0 v.0.1.place v.0.1.left b.0.1 x v.2 in
    let is : b.0.0 ≡ f.text v.0.0 = inner.0.whole ∙ ap (λ (rest : List ℕ). f.text v.0.0 ++ rest) last.0 ∙ append-nil (f.text v.0.0) in
    let named = subst (λ (text : List ℕ). Took s (blob_form.text text) b.0.1 × (length text < 2 ^ 32)) is taken in
    subst (λ (y : X × Spot). Took s ((inside_form f).text y.0) y.1 × (inside_form f).Fits y.0) last.1 (named.0, (inner.1, named.1))

pub inside-lawful : {X : Type 0} (f : Form X) → IsLawful f → IsLawful (inside_form f)
inside-lawful {X} f h = record {
  takes = inside_takes f h;
  again = λ x place more fits.
      let inner : f.at (record { place = place + 4; left = f.text x }) ≡ Ok (x, record { place = place + 4 + length (f.text x); left = [] }) =
      ap (λ (text : List ℕ). f.at (record { place = place + 4; left = text })) (sym (append-nil (f.text x))) ∙ h.again x (place + 4) [] fits.0 in
      rw (blob-lawful.again (f.text x) place more fits.1, inner) refl;
}

-- ---- as layouts

abbrev pub coded : {A B : Type 0} → Layout A → Layout B → Layout (A ⊎ B)
coded f g = record { form = coded_form f.form g.form; lawful = coded-lawful f.form g.form f.lawful g.lawful }

abbrev pub inside : {X : Type 0} → Layout X → Layout X
inside f = record { form = inside_form f.form; lawful = inside-lawful f.form f.lawful }
