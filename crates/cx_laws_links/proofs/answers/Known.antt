-- What is known of all that was given on links to daemons, by key: it is what the key's acceptor sealed, it fits into frames, and to an entity that didn't leak
-- each answer tells how an operation ended that was handled, in the session that was replied to last.
use Rattle.std.proofs.Common.{◌≡◌, ℕ, ◌<◌, ◌≤◌, ◌^◌, Bool, true, false, List, [], ◌∷◌, ◌++◌, length, Option, Some, None, inl, inr, ◌⊎◌, refl, sym, ap, ◌∙◌, subst, arith, append-nil, append_assoc}
use Rattle.std.proofs.lemmas.Slice.Eq.{bytes_eq-Decides}
use Rattle.std.specs.Prelude.{◌&&◌, Contains}
use Rattle.std.specs.List.{AllByRecursion, cons_option}
use Rattle.std.specs.Str.{bytes_eq}
use Rattle.cx_base.specs.Names.{Name}
use Rattle.cx_base.specs.declared.kinds.EntityType.{EntityType}
use Rattle.cx_journal.specs.declared.entries.Entry.{Entry}
use Rattle.cx_journal.specs.declared.entries.Entry.TheVariants as journal
use Rattle.cx_journal.specs.declared.entries.Handled.{Handled}
use Rattle.cx_journal.specs.declared.outcomes.Outcome.{Outcome}
use Rattle.cx_laws_links.specs.cx_laws_keys.proofs.keys.Journal.{entered}
use Rattle.cx_laws_links.specs.cx_laws_keys.proofs.keys.Known.{Inv, IsAllowed}
use Rattle.cx_laws_links.specs.cx_laws_keys.proofs.keys.Premises.{behind}
use Rattle.cx_laws_links.specs.cx_laws_keys.proofs.keys.Uses.{AtDaemon, Connected, Grows, Means, Use, Uses, WholeRun}
use Rattle.cx_laws_links.specs.cx_laws_keys.proofs.series.Contents.{content_of, content_where, contents-behind, contents_by, contents_in}
use Rattle.cx_laws_links.specs.cx_rules_session.specs.Hosting.{Instruction}
use Rattle.cx_secure.specs.Contents.{sealed_contents}
use Rattle.cx_secure.specs.Parts.{nonce_at}
use Rattle.cx_steps.specs.declared.seals.Logged.{Logged}
use Rattle.cx_laws_links.proofs.links.IncomingTakes.{IsServedIn}
use Rattle.cx_laws_links.proofs.links.Written.{IsLinkKey}
use Rattle.cx_laws_links.proofs.answers.Given.{Acks, Answers, FitFrames, Given, KeepsUp, Misses, Replies, Signs, given_parts, given_under, is_acceptors, served_after, served_behind}

-- ---- what is given is true

-- what is entered later stands behind what was entered before
pub record Continues (J K : List Entry) : Type 0 where
  pub more : List Entry
  pub is : K ≡ J ++ more

-- an operation was handled at this place, in a session of this entity
pub record WasServed (J : List Entry) (name : Name) (handled : Handled) : Type 0 where
  pub before : List Entry
  pub after : List Entry
  pub place : J ≡ before ++ journal.Handled handled ∷ after
  pub served : IsServedIn before name handled

-- an operation ended so: a daemon of this type handled it, in a session of this entity under this cookie; its seq is the tid
pub record IsTrueAnswer (J : List Entry) (service : EntityType) (name : Name) (cookie : ℕ) (i : Instruction) (outcome : Outcome) : Type 0 where
  pub handled : Handled
  pub kind : handled.daemon.kind ≡ service
  pub seq : handled.seq ≡ i.tid
  pub low : i.tid < 2 ^ 64
  pub ended : handled.outcome ≡ outcome
  pub cookie_is : handled.cookie ≡ cookie
  pub served : WasServed J name handled

-- an answer is given in the session that was replied to last, and is true
abbrev pub IsTrueGiven : List Entry → EntityType → Name → Option ℕ → Given → Type 0
IsTrueGiven J service name before (Answers cookie i outcome) = (before ≡ Some cookie) × IsTrueAnswer J service name cookie i outcome
IsTrueGiven J service name before (Signs code) = Unit {0}
IsTrueGiven J service name before (Replies cookie reply) = Unit {0}
IsTrueGiven J service name before (Misses features) = Unit {0}
IsTrueGiven J service name before (Acks seq) = Unit {0}
IsTrueGiven J service name before (KeepsUp ack) = Unit {0}

abbrev pub AreTrueGiven : List Entry → EntityType → Name → Option ℕ → List Given → Type 0
AreTrueGiven J service name before [] = Unit {0}
AreTrueGiven J service name before (x ∷ xs) = IsTrueGiven J service name before x × AreTrueGiven J service name (served_after before x) xs

pub served-grows : (J K : List Entry) (name : Name) (handled : Handled) → Continues J K → WasServed J name handled → WasServed K name handled
served-grows J K name handled w h = record {
  before = h.before;
  after = h.after ++ w.more;
  place = w.is ∙ ap (λ (l : List Entry). l ++ w.more) h.place ∙ append_assoc h.before (journal.Handled handled ∷ h.after) w.more;
  served = h.served;
}

answer-grows : (J K : List Entry) (service : EntityType) (name : Name) (cookie : ℕ) (i : Instruction) (outcome : Outcome) → Continues J K → IsTrueAnswer J service name cookie i outcome
    → IsTrueAnswer K service name cookie i outcome
answer-grows J K service name cookie i outcome w h = record {
  handled = h.handled;
  kind = h.kind;
  seq = h.seq;
  low = h.low;
  ended = h.ended;
  cookie_is = h.cookie_is;
  served = served-grows J K name h.handled w h.served;
}

entered-on : (es J : List Entry) → entered J es ≡ J ++ es
entered-on [] J = sym (append-nil J)
entered-on (e ∷ es) J = entered-on es (J ++ e ∷ []) ∙ append_assoc J (e ∷ []) es

-- so it is of what a step enters
pub continues : (J es : List Entry) → Continues J (entered J es)
continues J es = record { more = es; is = entered-on es J }

-- what is true stays so in a longer journal
pub true-grows : (J K : List Entry) (service : EntityType) (name : Name) → Continues J K → (before : Option ℕ) (xs : List Given) → AreTrueGiven J service name before xs
    → AreTrueGiven K service name before xs
true-grows J K service name w before [] h = tt
true-grows J K service name w before (x ∷ xs) h = (by_word x h.0, true-grows J K service name w (served_after before x) xs h.1)
  where
    by_word : (y : Given) → IsTrueGiven J service name before y → IsTrueGiven K service name before y
    by_word (Answers cookie i outcome) t = (t.0, answer-grows J K service name cookie i outcome w t.1)
    by_word (Signs code) t = tt
    by_word (Replies cookie reply) t = tt
    by_word (Misses features) t = tt
    by_word (Acks seq) t = tt
    by_word (KeepsUp ack) t = tt

pub true-append : (J : List Entry) (service : EntityType) (name : Name) (before : Option ℕ) (xs ys : List Given) → AreTrueGiven J service name before xs
    → AreTrueGiven J service name (served_behind before xs) ys → AreTrueGiven J service name before (xs ++ ys)
true-append J service name before [] ys h g = g
true-append J service name before (x ∷ xs) ys h g = (h.0, true-append J service name (served_after before x) xs ys h.1 g)

pub true-behind : (J : List Entry) (service : EntityType) (name : Name) (before : Option ℕ) (xs ys : List Given) → AreTrueGiven J service name before (xs ++ ys)
    → AreTrueGiven J service name (served_behind before xs) ys
true-behind J service name before [] ys h = h
true-behind J service name before (x ∷ xs) ys h = true-behind J service name (served_after before x) xs ys h.1

-- ---- what the log has

-- what was sealed under a key as by its acceptor is what was given there, numbered from 0 on, under one nonce
pub record WasSealed (log : List Logged) (given : List (List ℕ × Given)) (key : List ℕ) : Type 0 where
  pub fixed : List ℕ
  pub four : length fixed ≡ 4
  pub acceptor : (m : ℕ) (plain : List ℕ) → is_acceptors (nonce_at fixed m ++ plain) ≡ true
  pub contents : contents_in key is_acceptors log ≡ sealed_contents fixed 0 (given_parts (given_under key given))
  pub fits : length (given_parts (given_under key given)) ≤ 2 ^ 64

-- of the key of a link of a daemon of this type to this entity
pub record IsGiven (run : WholeRun) (given : List (List ℕ × Given)) (log : List Logged) (J : List Entry) (key : List ℕ) (name : Name) (service : EntityType) : Type 0 where
  pub there : WasSealed log given key
  pub words : (Contains run.leaked name → ⊥) → AreTrueGiven J service name None (given_under key given)
  pub frames : FitFrames (given_under key given)

-- of all that was given so far: it was given under keys of links, and of each of these what was given there is known
pub record AreGiven (run : WholeRun) (us : Uses) (given : List (List ℕ × Given)) (log : List Logged) (J : List Entry) : Type 0 where
  pub each : (key : List ℕ) (name : Name) (tie : ℕ) → (is : IsLinkKey us key name tie) → IsGiven run given log J key name is.service
  pub known : (key : List ℕ) (x : Given) → Contains given (key, x) → (name : Name) × (tie : ℕ) × IsLinkKey us key name tie
