-- The challenges that links to the monitor draw: each is drawn at one point of a run, so by one node and on one link. Behind its draw nothing was said under a key of
-- it, and what other links say is said under keys of other challenges.
use Rattle.std.proofs.Common.{◌≡◌, ℕ, Bool, true, false, List, [], ◌∷◌, inl, inr, refl, sym, ap, ◌∙◌, subst}
use Rattle.std.proofs.lemmas.Slice.Eq.{bytes_eq-Decides}
use Rattle.std.specs.Str.{bytes_eq}
use Rattle.cx_base.specs.Names.{Name}
use Rattle.cx_base.specs.declared.nodes.NodeName.{NodeName}
use Rattle.cx_base.specs.declared.nodes.NodeName.TheVariants as node
use Rattle.cx_frame.specs.Frames.{frame_text}
use Rattle.cx_frame.specs.Preambles.{front_text, preamble_text}
use Rattle.cx_frame.specs.declared.frame.Frame.{Frame}
use Rattle.cx_laws_tickets.specs.cx_laws_keys.proofs.keys.Premises.{AreGranted, behind, logged}
use Rattle.cx_laws_tickets.specs.cx_laws_keys.proofs.keys.Uses.{Grows, Means, Use, Uses, WholeRun}
use Rattle.cx_laws_tickets.specs.cx_rules_session.specs.cx_rules.specs.Judged.{LogsDraw}
use Rattle.cx_laws_tickets.specs.cx_rules_session.specs.cx_rules.specs.Rows.{piece}
use Rattle.cx_laws_tickets.specs.cx_run.specs.Points.{Before, EachPoint, Point, seals_at}
use Rattle.cx_steps.specs.Onto.{SomeOf}
use Rattle.cx_steps.specs.Premises.{IsNew, RepeatsIn}
use Rattle.cx_steps.specs.declared.effects.Piece.{Piece}
use Rattle.cx_steps.specs.declared.seals.DrawMark.{DrawMark}
use Rattle.cx_steps.specs.declared.seals.DrawMark.TheVariants as draw
use Rattle.cx_steps.specs.declared.seals.Logged.{Logged}
use Rattle.cx_steps.specs.declared.seals.SealEntry.{SealEntry}
use Rattle.cx_steps.specs.declared.seals.SealEntry.TheVariants as entry
use Rattle.cx_laws_tickets.proofs.fetch.AllTold.{IsChallenging, WasDrawn}
use Rattle.cx_laws_tickets.proofs.fetch.AskedKnown.{AreTold, Events, IsLoginKey, IsSaid, IsTrueAsked, IsUnsaid, Told}
use Rattle.cx_laws_tickets.proofs.fetch.AskedLifting.{login-grows, login-one}
use Rattle.cx_laws_tickets.proofs.fetch.AskedWords.{Asked, asked_frame}
use Rattle.cx_laws_tickets.proofs.fetch.Later.{of_connector}
use Rattle.cx_laws_tickets.proofs.fetch.PointEvents.{events_of}
use Rattle.cx_laws_tickets.proofs.fetch.Words.{said-has, said_under}

-- ---- in the log

-- this draw is logged
abbrev pub HasDraw : List Logged → DrawMark → Type 0
HasDraw log mark = SomeOf (λ (at : Logged). at.entry ≡ entry.Drawn mark) log

-- what these points logged is in the log
abbrev pub AreLogged : List Point → List Logged → Type 0
AreLogged past log = (mark : DrawMark) → Before (λ (_ : List Point) (q : Point). LogsDraw mark (seals_at q)) past → HasDraw log mark

draw-before : (n : NodeName) (line : ℕ) (mark : DrawMark) (es : List SealEntry) (log : List Logged) → HasDraw log mark → HasDraw (behind n line es log) mark
draw-before n line mark [] log h = h
draw-before n line mark (e ∷ es) log h = draw-before n line mark es (logged n line e ∷ log) (inr h)

draw-here : (n : NodeName) (line : ℕ) (mark : DrawMark) (es : List SealEntry) (log : List Logged) → LogsDraw mark es → HasDraw (behind n line es log) mark
draw-here n line mark [] log h = absurd h
draw-here n line mark (e ∷ es) log (inl is) = draw-before n line mark es (logged n line e ∷ log) (inl is)
draw-here n line mark (e ∷ es) log (inr h) = draw-here n line mark es (logged n line e ∷ log) h

-- so it is with one point more
pub logged-more : (p : Point) (past : List Point) (log : List Logged) (n : NodeName) (line : ℕ) → AreLogged past log → AreLogged (p ∷ past) (behind n line (seals_at p) log)
logged-more p past log n line all mark (inl here) = draw-here n line mark (seals_at p) log here
logged-more p past log n line all mark (inr before) = draw-before n line mark (seals_at p) log (all mark before)

-- what is drawn now was not drawn before
draws-new : (leaked : List Name) (whole : List Logged) (n : NodeName) (line challenge : ℕ) (es : List SealEntry) (log : List Logged) → AreGranted leaked whole n line log es
    → LogsDraw (draw.Challenge challenge) es → SomeOf (λ (at : Logged). RepeatsIn (draw.Challenge challenge) at.entry) log → ⊥
draws-new leaked whole n line challenge [] log g h before = h
draws-new leaked whole n line challenge (e ∷ es) log g (inl is) before = subst (IsNew log) is g.0.new before
draws-new leaked whole n line challenge (e ∷ es) log g (inr h) before = draws-new leaked whole n line challenge es (logged n line e ∷ log) g.1 h (inr before)

repeats-in : (challenge : ℕ) (log : List Logged) → HasDraw log (draw.Challenge challenge) → SomeOf (λ (at : Logged). RepeatsIn (draw.Challenge challenge) at.entry) log
repeats-in challenge [] h = absurd h
repeats-in challenge (at ∷ log) (inl is) = inl (subst (RepeatsIn (draw.Challenge challenge)) (sym is) refl)
repeats-in challenge (at ∷ log) (inr h) = inr (repeats-in challenge log h)

-- ---- at points

-- no challenge that is drawn at this point was drawn at an earlier one
abbrev pub DrawsNew : List Point → Point → Type 0
DrawsNew older p = (challenge : ℕ) → LogsDraw (draw.Challenge challenge) (seals_at p) → Before (λ (_ : List Point) (q : Point). LogsDraw (draw.Challenge challenge) (seals_at q)) older → ⊥

pub new-here : (leaked : List Name) (whole : List Logged) (n : NodeName) (line : ℕ) (past : List Point) (p : Point) (log : List Logged) → AreGranted leaked whole n line log (seals_at p)
    → AreLogged past log → DrawsNew past p
new-here leaked whole n line past p log g all challenge here before =
    draws-new leaked whole n line challenge (seals_at p) log g here (repeats-in challenge log (all (draw.Challenge challenge) before))

drew-logged : (name : Name) (link challenge : ℕ) (f : Frame) (past : List Point) → WasDrawn past name link challenge f
    → Before (λ (_ : List Point) (q : Point). LogsDraw (draw.Challenge challenge) (seals_at q)) past
drew-logged name link challenge f [] h = absurd h
drew-logged name link challenge f (p ∷ past) (inl is) = inl is.drew
drew-logged name link challenge f (p ∷ past) (inr h) = inr (drew-logged name link challenge f past h)

same-name : (a b : Name) → node.Entity a ≡ node.Entity b → a ≡ b
same-name a b e = cc

-- ---- a frame has bytes

text-some : (f : Frame) → frame_text f ≡ [] → ⊥
unfolding frame_text preamble_text front_text
text-some f e = cc

abbrev number_or : ℕ → List Piece → ℕ
number_or number [] = number
number_or number (p ∷ pieces) = p.link

same-link : (a b : ℕ) (xs ys : List ℕ) → (xs ≡ [] → ⊥) → (ys ≡ [] → ⊥) → piece a xs ≡ piece b ys → a ≡ b
same-link a b [] ys some other e = absurd (some refl)
same-link a b (x ∷ xs) [] some other e = absurd (other refl)
same-link a b (x ∷ xs) (y ∷ ys) some other e = ap (number_or a) e

-- one point draws a challenge on one link of one node
one-point : (n m : Name) (link other challenge : ℕ) (f g : Frame) (p : Point) → IsChallenging n link challenge f p → IsChallenging m other challenge g p → (n ≡ m) × (link ≡ other)
one-point n m link other challenge f g p a b =
    (same-name n m (sym a.node_is ∙ b.node_is), same-link link other (frame_text f) (frame_text g) (text-some f) (text-some g) (sym a.sent ∙ b.sent))

pub drawn-once : (n m : Name) (link other challenge : ℕ) (f g : Frame) (past : List Point) → EachPoint DrawsNew past → WasDrawn past n link challenge f → WasDrawn past m other challenge g
    → (n ≡ m) × (link ≡ other)
drawn-once n m link other challenge f g [] fresh a b = absurd a
drawn-once n m link other challenge f g (p ∷ past) fresh (inl a) (inl b) = one-point n m link other challenge f g p a b
drawn-once n m link other challenge f g (p ∷ past) fresh (inl a) (inr b) = absurd (fresh.0 challenge a.drew (drew-logged m other challenge g past b))
drawn-once n m link other challenge f g (p ∷ past) fresh (inr a) (inl b) = absurd (fresh.0 challenge b.drew (drew-logged n link challenge f past a))
drawn-once n m link other challenge f g (p ∷ past) fresh (inr a) (inr b) = drawn-once n m link other challenge f g past fresh.1 a b

-- two links that drew one challenge are one link
pub drew-once : (past : List Point) → EachPoint DrawsNew past → (n m : Name) (link other challenge : ℕ) → (events_of past).drew n link challenge → (events_of past).drew m other challenge
    → (n ≡ m) × (link ≡ other)
drew-once past fresh n m link other challenge a b = drawn-once n m link other challenge a.0 b.0 past fresh a.1 b.1

-- one that is drawn now was drawn by none before
pub never-drew : (past : List Point) (p : Point) → DrawsNew past p → (name m : Name) (link other challenge : ℕ) (f : Frame) → IsChallenging name link challenge f p
    → (events_of past).drew m other challenge → ⊥
never-drew past p fresh name m link other challenge f here b = fresh challenge here.drew (drew-logged m other challenge b.0 past b.1)

-- ---- under which keys nothing was said

module _ (run : WholeRun) (us vs : Uses) (one : (k : List ℕ) (u v : Use) → Means vs k u → Means vs k v → u ≡ v) (f : Grows us vs) (E F : Events) (told : Told) (log : List Logged)
    (t : AreTold run E us told log) where
  -- whose challenge the key is of, under which a word was said
  said-drew : (key : List ℕ) (name : Name) (challenge : ℕ) → IsLoginKey vs key name challenge → (x : Asked) (xs : List Asked) → said_under key told.asked ≡ x ∷ xs
      → (link : ℕ) × E.drew name link challenge
  said-drew key name challenge is x xs e =
      let h : IsSaid asked_frame of_connector (IsTrueAsked E) us told.asked log key = t.asked.spoken key x (said-has key told.asked x xs e) in
      let same = login-one vs one key h.name name h.challenge challenge (login-grows us vs key h.name h.challenge f h.is) is in
      (h.holds.link, subst (λ (c : ℕ). E.drew name h.holds.link c) same.1 (subst (λ (m : Name). E.drew m h.holds.link h.challenge) same.0 h.holds.drew))

  -- a challenge that nobody drew before
  pub unsaid-begins : (name : Name) (link challenge : ℕ) → F.drew name link challenge → ((other : ℕ) → E.drew name other challenge → ⊥) → IsUnsaid F vs told name link challenge
  unsaid-begins name link challenge drew fresh = record { drew = drew; silent = λ key is. by_said key is (said_under key told.asked) refl }
    where
      by_said : (key : List ℕ) → IsLoginKey vs key name challenge → (xs : List Asked) → said_under key told.asked ≡ xs → said_under key told.asked ≡ []
      by_said key is [] e = e
      by_said key is (x ∷ xs) e = let d = said-drew key name challenge is x xs e in absurd (fresh d.0 d.1)

-- keys of the challenges of two links are two keys
pub keys-apart : (vs : Uses) → ((k : List ℕ) (u v : Use) → Means vs k u → Means vs k v → u ≡ v) → (past : List Point) → EachPoint DrawsNew past → (name : Name) (link challenge : ℕ)
    → (events_of past).drew name link challenge → (key : List ℕ) → IsLoginKey vs key name challenge → (m : Name) (other : ℕ) → ((name ≡ m) × (link ≡ other) → ⊥) → (its : ℕ)
    → (events_of past).drew m other its → (second : List ℕ) → IsLoginKey vs second m its → bytes_eq key second ≡ false
keys-apart vs one past fresh name link challenge own key here m other apart its drew second is = by_test (bytes_eq key second) refl
  where
    by_test : (t : Bool) → bytes_eq key second ≡ t → bytes_eq key second ≡ false
    by_test false e = e
    by_test true e =
        let there : IsLoginKey vs second name challenge = subst (λ (k : List ℕ). IsLoginKey vs k name challenge) ((bytes_eq-Decides key second).0 e) here in
        let same = login-one vs one second name m challenge its there is in
        absurd (apart (drew-once past fresh name m link other its (subst (λ (c : ℕ). (events_of past).drew name link c) same.1 own) drew))

-- so it is behind the point at which a link draws its challenge
pub unsaid-now : (run : WholeRun) (us vs : Uses) → ((k : List ℕ) (u v : Use) → Means vs k u → Means vs k v → u ≡ v) → Grows us vs → (past : List Point) (p : Point) → DrawsNew past p
    → (told : Told) (log : List Logged) → AreTold run (events_of past) us told log → (name : Name) (link challenge : ℕ) (g : Frame) → IsChallenging name link challenge g p
    → IsUnsaid (events_of (p ∷ past)) vs told name link challenge
unsaid-now run us vs one f past p fresh told log t name link challenge g here =
    unsaid-begins run us vs one f (events_of past) (events_of (p ∷ past)) told log t name link challenge (g, inl here)
    (λ other drew. never-drew past p fresh name name link other challenge g here drew)
