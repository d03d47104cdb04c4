-- Cookies that are drawn: what a log has of them, and that none is drawn twice where draws are fresh.
use Rattle.std.proofs.Common.{◌≡◌, inl, inr, ℕ, List, [], ◌∷◌, ◌++◌, map, sym, ◌∙◌}
use Rattle.cx_laws_sessions.proofs.session.Lists.{some-map}
use Rattle.cx_laws_sessions.specs.cx_run.specs.Happenings.{Happening, logged_by}
use Rattle.cx_laws_sessions.specs.cx_run.specs.Points.{onto}
use Rattle.cx_laws_sessions.specs.cx_steps.specs.Draws.{Repeats}
use Rattle.cx_laws_sessions.specs.cx_steps.specs.Onto.{EachOnto, SomeOf}
use Rattle.cx_laws_sessions.specs.cx_steps.specs.Premises.{IsNew, RepeatsIn}
use Rattle.cx_laws_sessions.specs.cx_steps.specs.declared.effects.Effects.{Effects}
use Rattle.cx_laws_sessions.specs.cx_steps.specs.declared.seals.DrawMark.{DrawMark}
use Rattle.cx_laws_sessions.specs.cx_steps.specs.declared.seals.DrawMark.TheVariants as draw
use Rattle.cx_laws_sessions.specs.cx_steps.specs.declared.seals.Logged.{Logged}
use Rattle.cx_laws_sessions.specs.cx_steps.specs.declared.seals.SealEntry.{SealEntry}
use Rattle.cx_laws_sessions.specs.cx_steps.specs.declared.seals.SealEntry.TheVariants as seal

-- ---- which entries draw a cookie

abbrev pub IsCookie : ℕ → DrawMark → Type 0
IsCookie cookie (draw.Cookie drawn) = drawn ≡ cookie
IsCookie cookie _ = ⊥

abbrev pub DrawsCookie : ℕ → SealEntry → Type 0
DrawsCookie cookie (seal.Drawn mark) = IsCookie cookie mark
DrawsCookie cookie _ = ⊥

abbrev pub DrawsAt : ℕ → Logged → Type 0
DrawsAt cookie at = DrawsCookie cookie at.entry

-- the log has it drawn
abbrev pub WasDrawn : List Logged → ℕ → Type 0
WasDrawn log cookie = SomeOf (DrawsAt cookie) log

-- two draws of one cookie repeat
marks-repeat : (cookie : ℕ) (other mark : DrawMark) → IsCookie cookie other → IsCookie cookie mark → Repeats other mark
marks-repeat cookie (draw.Cookie a) (draw.Cookie b) p q = p ∙ sym q
marks-repeat cookie (draw.Cookie a) _ p q = absurd q
marks-repeat cookie _ mark p q = absurd p

draws-repeat : (cookie : ℕ) (mark : DrawMark) (e : SealEntry) → IsCookie cookie mark → DrawsCookie cookie e → RepeatsIn mark e
draws-repeat cookie mark (seal.Drawn other) p d = marks-repeat cookie other mark d p
draws-repeat cookie mark _ p d = absurd d

-- a cookie that is drawn newly was drawn nowhere before
drawn-new : (cookie : ℕ) (earlier : List Logged) (e : SealEntry) → IsNew earlier e → DrawsCookie cookie e → WasDrawn earlier cookie → ⊥
drawn-new cookie earlier (seal.Drawn mark) new d before =
    new (some-map (DrawsAt cookie) (λ (at : Logged). RepeatsIn mark at.entry) (λ at h. draws-repeat cookie mark at.entry d h) earlier before)
drawn-new cookie earlier _ new d before = absurd d

-- ---- a log that grows

abbrev pub IsNewAt : List Logged → Logged → Type 0
IsNewAt earlier at = IsNew earlier at.entry

pub some-right : {X : Type 0} (P : X → Type 0) (xs ys : List X) → SomeOf P ys → SomeOf P (xs ++ ys)
some-right P [] ys h = h
some-right P (x ∷ xs) ys h = inr (some-right P xs ys h)

pub onto-split : (log xs ys : List Logged) → EachOnto IsNewAt log (xs ++ ys) → EachOnto IsNewAt log xs × EachOnto IsNewAt (onto xs log) ys
onto-split log [] ys h = (tt, h)
onto-split log (x ∷ xs) ys h = let more = onto-split (x ∷ log) xs ys h.1 in ((h.0, more.0), more.1)

onto-keeps : (P : Logged → Type 0) (xs log : List Logged) → SomeOf P log → SomeOf P (onto xs log)
onto-keeps P [] log h = h
onto-keeps P (x ∷ xs) log h = onto-keeps P xs (x ∷ log) (inr h)

onto-has : (P : Logged → Type 0) (xs log : List Logged) → SomeOf P xs → SomeOf P (onto xs log)
onto-has P [] log h = absurd h
onto-has P (x ∷ xs) log (inl here) = onto-keeps P xs (x ∷ log) (inl here)
onto-has P (x ∷ xs) log (inr later) = onto-has P xs (x ∷ log) later

none-before : (cookie : ℕ) (xs log : List Logged) → EachOnto IsNewAt log xs → SomeOf (DrawsAt cookie) xs → WasDrawn log cookie → ⊥
none-before cookie [] log new h before = absurd h
none-before cookie (x ∷ xs) log new (inl here) before = drawn-new cookie log x.entry new.0 here before
none-before cookie (x ∷ xs) log new (inr later) before = none-before cookie xs (x ∷ log) new.1 later (inr before)

-- ---- a step

-- What the draws of a step make of the cookies that were drawn before it, and of those that are drawn behind it: what was drawn is so; what is drawn here
-- wasn't before, and is so behind it.
pub record Draws (was is : ℕ → Type 0) (seals : List SealEntry) : Type 0 where
  pub grows : (cookie : ℕ) → was cookie → is cookie
  pub new : (cookie : ℕ) → SomeOf (DrawsCookie cookie) seals → was cookie → ⊥
  pub drawn : (cookie : ℕ) → SomeOf (DrawsCookie cookie) seals → is cookie

abbrev logged_at : Happening → SealEntry → Logged
logged_at h e = record { node = h.node; line = h.line; entry = e }

some-logged : (h : Happening) (cookie : ℕ) (es : List SealEntry) → SomeOf (DrawsCookie cookie) es → SomeOf (DrawsAt cookie) (map (logged_at h) es)
some-logged h cookie [] s = absurd s
some-logged h cookie (e ∷ es) (inl here) = inl here
some-logged h cookie (e ∷ es) (inr later) = inr (some-logged h cookie es later)

pub step-draws : (h : Happening) (out : Effects) (log : List Logged) → EachOnto IsNewAt log (logged_by h out) → Draws (WasDrawn log) (WasDrawn (onto (logged_by h out) log)) out.seals
step-draws h out log new = record {
  grows = λ cookie before. onto-keeps (DrawsAt cookie) (logged_by h out) log before;
  new = λ cookie here before. none-before cookie (logged_by h out) log new (some-logged h cookie out.seals here) before;
  drawn = λ cookie here. onto-has (DrawsAt cookie) (logged_by h out) log (some-logged h cookie out.seals here);
}
