-- What is read again of generations that were told: their ids and keys, also where an expiry has no spelling.
use Rattle.std.proofs.Common.{◌≡◌, ℕ, ◌+◌, ◌<◌, ◌≤◌, ◌^◌, Bool, true, false, cond, List, [], ◌∷◌, ◌++◌, length, Some, None, Ok, refl, sym, ap, ◌∙◌, subst, arith, append_assoc}
use Rattle.std.specs.List.{AllByRecursion, flat_map}
use Rattle.std.proofs.lemmas.List.Concat.{flat_map-cons}
use Rattle.cx_sealed.specs.cx_enc.specs.FieldLaws.{kind_fits, kind-lawful, reading-lawful, secret-lawful}
use Rattle.cx_sealed.specs.cx_enc.specs.FormLaws.{u32-lawful, u64-lawful}
use Rattle.cx_sealed.specs.cx_enc.specs.Forms.{Spot, ◌>>=◌, Form, after, judged, or_bad, pair, passed, times, times_at, u32_form, u64_form, with_count}
use Rattle.cx_sealed.specs.cx_enc.specs.Values.{kind_form, reading_form, secret_form}
use Rattle.cx_sealed.specs.cx_rotate.specs.declared.generations.Generation.{Generation}
use Rattle.cx_sealed.specs.Records.{generation_layout, generations_layout, is_none_or_three, is_rising, rotating_reply_layout}
use Rattle.cx_sealed.specs.Unsealing.{spelled_by}
use Rattle.cx_sealed.specs.declared.rotating_reply.RotatingReply.{RotatingReply}
use Rattle.cx_laws_keys.proofs.keys.Reading.{behind_kind, bind_ok, clipped, clipped-fits, clipped-text, done, front, ok_is, rotating_made, secret_fits, unseen}

-- its id and its key can be written
abbrev pub IsSized : Generation → Type 0
IsSized g = (length g.key ≡ 16) × (g.id < 2 ^ 64)

-- these were read of those: with the same ids and keys
abbrev pub AreRead : List Generation → List Generation → Type 0
AreRead [] [] = Unit {0}
AreRead (g ∷ gs) (x ∷ xs) = ((x.id ≡ g.id) × (x.key ≡ g.key)) × AreRead gs xs
AreRead _ _ = ⊥

-- what is said by id and key is said of what was read too
pub all-read : (P : Generation → Type 0) → ((g x : Generation) → x.id ≡ g.id → x.key ≡ g.key → P g → P x) → (gs xs : List Generation) → AreRead gs xs → AllByRecursion P gs
    → AllByRecursion P xs
all-read P same [] [] r h = tt
all-read P same (g ∷ gs) (x ∷ xs) r h = (same g x r.0.0 r.0.1 h.0, all-read P same gs xs r.1 h.1)
all-read P same [] (x ∷ xs) r h = absurd r
all-read P same (g ∷ gs) [] r h = absurd r

-- ---- one

-- behind a reading stands what follows it
behind_reading : (r place : ℕ) (rest : List ℕ) (y : ℕ) (next : Spot) → reading_form.at (record { place = place; left = reading_form.text r ++ rest }) ≡ Ok (y, next)
    → (at : ℕ) × (next ≡ record { place = at; left = rest })
behind_reading r place rest y next e =
    let behind : Spot = record { place = place + length (reading_form.text (clipped r)); left = rest } in
    let moved : reading_form.at (record { place = place; left = reading_form.text (clipped r) ++ rest }) ≡ Ok (y, next) =
    ap (λ (t : List ℕ). reading_form.at (record { place = place; left = t ++ rest })) (sym (clipped-text r)) ∙ e in
    let same : (clipped r, behind) ≡ (y, next) = ok_is (clipped r, behind) (y, next) (sym (reading-lawful.again (clipped r) place rest (clipped-fits r)) ∙ moved) in
    (place + length (reading_form.text (clipped r)), sym (ap (λ (p : ℕ × Spot). p.1) same))

abbrev keyed_form : Form (List ℕ × ℕ)
keyed_form = pair secret_form reading_form

abbrev id_form : Form (ℕ × (List ℕ × ℕ))
id_form = pair u64_form keyed_form

abbrev made_of : ℕ × (List ℕ × ℕ) → Generation
made_of (id, (key, expires)) = record { id = id; key = key; expires = expires }

abbrev parts_of : Generation → ℕ × (List ℕ × ℕ)
parts_of g = (g.id, (g.key, g.expires))

-- what is read of one, and that what follows it stands behind it
record IsReadAs (g x : Generation) (rest : List ℕ) (next : Spot) : Type 0 where
  id : x.id ≡ g.id
  key : x.key ≡ g.key
  at : ℕ
  behind : next ≡ record { place = at; left = rest }

one_read : (g x : Generation) (place : ℕ) (rest : List ℕ) (next : Spot) → IsSized g
    → generation_layout.form.at (record { place = place; left = generation_layout.form.text g ++ rest }) ≡ Ok (x, next) → IsReadAs g x rest next
one_read g x place rest next sized e =
    let id : List ℕ = u64_form.text g.id in
    let key : List ℕ = secret_form.text g.key in
    let expires : List ℕ = reading_form.text g.expires in
    let a = unseen made_of parts_of id_form (record { place = place; left = (id ++ (key ++ expires)) ++ rest }) x next e in
    let moved : id_form.at (record { place = place; left = id ++ (key ++ (expires ++ rest)) }) ≡ Ok (a.0, next) =
    ap (λ (t : List ℕ). id_form.at (record { place = place; left = t })) (sym (append_assoc id (key ++ expires) rest ∙ ap (λ (t : List ℕ). id ++ t) (append_assoc key expires rest))) ∙ a.2 in
    let p1 = front u64_form keyed_form u64-lawful g.id place (key ++ (expires ++ rest)) a.0 next sized.1 moved in
    let p2 = front secret_form reading_form secret-lawful g.key _ (expires ++ rest) a.0.1 next (secret_fits g.key sized.0) p1.1 in
    let r = behind_reading g.expires _ rest a.0.1.1 next p2.1 in
    record {
      id = sym (ap (λ (h : Generation). h.id) a.1) ∙ p1.0;
      key = sym (ap (λ (h : Generation). h.key) a.1) ∙ p2.0;
      at = r.0;
      behind = r.1;
    }

-- ---- a list

times_read : (gs ys : List Generation) (place : ℕ) (next : Spot) → AllByRecursion IsSized gs
    → times_at generation_layout.form.at (length gs) (record { place = place; left = flat_map generation_layout.form.text gs }) ≡ Ok (ys, next) → AreRead gs ys
unfolding times_at
times_read [] ys place next sized e =
    let spot : Spot = record { place = place; left = [] } in
    let same : ([], spot) ≡ (ys, next) = ok_is ([], spot) (ys, next) e in
    subst (λ (l : List Generation). AreRead [] l) (ap (λ (p : List Generation × Spot). p.0) same) tt
times_read (g ∷ gs) ys place next sized e =
    let one : Form Generation = generation_layout.form in
    let rest : List ℕ = flat_map one.text gs in
    let spot : Spot = record { place = place; left = one.text g ++ rest } in
    let moved : (one.at spot >>= λ x. times_at one.at (length gs) x.1 >>= λ xs. Ok (x.0 ∷ xs.0, xs.1)) ≡ Ok (ys, next) =
    ap (λ (t : List ℕ). one.at (record { place = place; left = t }) >>= λ x. times_at one.at (length gs) x.1 >>= λ xs. Ok (x.0 ∷ xs.0, xs.1)) (sym (flat_map-cons one.text g gs)) ∙ e in
    let a = bind_ok (one.at spot) (λ x. times_at one.at (length gs) x.1 >>= λ xs. Ok (x.0 ∷ xs.0, xs.1)) (ys, next) moved in
    let b = bind_ok (times_at one.at (length gs) a.0.1) (λ xs. Ok (a.0.0 ∷ xs.0, xs.1)) (ys, next) a.2 in
    let r : IsReadAs g a.0.0 rest a.0.1 = one_read g a.0.0 place rest a.0.1 sized.0 a.1 in
    let there : times_at one.at (length gs) (record { place = r.at; left = rest }) ≡ Ok (b.0.0, b.0.1) =
    ap (λ (s : Spot). times_at one.at (length gs) s) (sym r.behind) ∙ b.1 in
    let more : AreRead gs b.0.0 = times_read gs b.0.0 r.at b.0.1 sized.1 there in
    let same : (a.0.0 ∷ b.0.0, b.0.1) ≡ (ys, next) = ok_is (a.0.0 ∷ b.0.0, b.0.1) (ys, next) b.2 in
    subst (λ (l : List Generation). AreRead (g ∷ gs) l) (ap (λ (p : List Generation × Spot). p.0) same) ((r.id, r.key), more)

-- what is judged was read first
judged_inner : {A : Type 0} (good : A → Bool) (f : Form A) (s : Spot) (x : A) (next : Spot) → (judged good f).at s ≡ Ok (x, next) → f.at s ≡ Ok (x, next)
judged_inner {A} good f s x next e =
    let a = bind_ok (f.at s) (λ a. or_bad s.place (passed good a.0) a.1) (x, next) e in
    a.1 ∙ by_test a.0.0 a.0.1 (good a.0.0) a.2
  where
    by_test : (y : A) (there : Spot) (t : Bool) → or_bad s.place (cond t (Some y) None) there ≡ Ok (x, next) → done {A = A × Spot} (y, there) ≡ Ok (x, next)
    by_test y there true is = is
    by_test y there false is = absurd cc

abbrev count_form : Form ℕ
count_form = judged is_none_or_three u32_form

abbrev list_form : Form (List Generation)
list_form = with_count count_form (λ n. times n generation_layout.form)

list_read : (gs ys : List Generation) (place : ℕ) (next : Spot) → length gs ≤ 3 → AllByRecursion IsSized gs
    → list_form.at (record { place = place; left = list_form.text gs }) ≡ Ok (ys, next) → AreRead gs ys
list_read gs ys place next few sized e =
    let one : Form Generation = generation_layout.form in
    let texts : List ℕ = flat_map one.text gs in
    let s : Spot = record { place = place; left = u32_form.text (length gs) ++ texts } in
    let a = unseen (λ (p : ℕ × List Generation). p.1) (λ (l : List Generation). (length l, l)) (after count_form (λ n. times n one)) s ys next e in
    let b = bind_ok (count_form.at s) (λ c. (times c.0 one).at c.1 >>= λ d. Ok ((c.0, d.0), d.1)) (a.0, next) a.2 in
    let counted : u32_form.at s ≡ Ok b.0 = judged_inner is_none_or_three u32_form s b.0.0 b.0.1 b.1 in
    let behind : Spot = record { place = place + length (u32_form.text (length gs)); left = texts } in
    let count : b.0 ≡ (length gs, behind) = ok_is b.0 (length gs, behind) (sym counted ∙ u32-lawful.again (length gs) place texts (omega arith)) in
    let d = bind_ok ((times b.0.0 one).at b.0.1) (λ d. Ok ((b.0.0, d.0), d.1)) (a.0, next) b.2 in
    let there : times_at one.at (length gs) behind ≡ Ok (d.0.0, d.0.1) =
    subst (λ (c : ℕ × Spot). times_at one.at c.0 c.1 ≡ Ok (d.0.0, d.0.1)) count d.1 in
    let same : ((b.0.0, d.0.0), d.0.1) ≡ (a.0, next) = ok_is ((b.0.0, d.0.0), d.0.1) (a.0, next) d.2 in
    let list : d.0.0 ≡ ys = ap (λ (p : (ℕ × List Generation) × Spot). p.0.1) same ∙ a.1 in
    subst (λ (l : List Generation). AreRead gs l) list (times_read gs d.0.0 _ d.0.1 sized there)

-- ---- a reply

-- the generations of a reply that is read are those that were told
pub rotating_read : (t x : RotatingReply) → length t.generations ≤ 3 → AllByRecursion IsSized t.generations
    → spelled_by rotating_reply_layout.form (rotating_reply_layout.form.text t) ≡ Some x → (x.service ≡ t.service) × AreRead t.generations x.generations
rotating_read t x few sized e =
    let b = behind_kind 6 rotating_made (λ (r : RotatingReply). (r.service, r.generations)) (pair kind_form generations_layout.form) t x (omega arith) refl e in
    let p = front kind_form generations_layout.form kind-lawful t.service _ (generations_layout.form.text t.generations) b.0 b.3 (kind_fits t.service) b.4 in
    let list = list_read t.generations b.0.1 _ b.3 few sized (judged_inner is_rising list_form _ b.0.1 b.3 p.1) in
    (ap (λ (r : RotatingReply). r.service) (sym b.1) ∙ p.0, subst (λ (l : List Generation). AreRead t.generations l) (ap (λ (r : RotatingReply). r.generations) b.1) list)
