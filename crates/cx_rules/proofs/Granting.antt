-- Rows of the monitor: each hands out nothing, or tickets, behind a proof that was found equal.
use Rattle.std.proofs.Common.{◌≡◌, ℕ, ◌==◌, ◌⊎◌, inl, inr, Bool, true, false, List, [], ◌∷◌, ◌++◌, Option, Some, None, Result, Ok, Err, refl, sym, ap, ◌∙◌, eqb-true, rules}
use Rattle.std.specs.Prelude.{◌&&◌, if◌then◌else◌}
use Rattle.std.specs.Str.{bytes_eq}
use Rattle.std.proofs.lemmas.Bool.{and_parts}
use Rattle.std.proofs.lemmas.Slice.Eq.{bytes_eq-Decides}
use Rattle.cx_login.specs.cx_enc.specs.declared.keys.Key.{Key}
use Rattle.cx_login.specs.cx_journal.specs.declared.faults.BytesFault.{BytesFault}
use Rattle.cx_login.specs.cx_journal.specs.declared.faults.LoginFault.{LoginFault}
use Rattle.cx_keyserver.specs.declared.tickets.Ticket.{Ticket}
use Rattle.cx_login.specs.Monitor.{Proven}
use Rattle.cx_rotate.specs.declared.generations.Generation.{Generation}
use Rattle.cx_rotate.specs.declared.states.KeptState.{KeptState}
use Rattle.cx_login.specs.cx_steps.specs.Onto.{SomeOf}
use Rattle.cx_login.specs.cx_steps.specs.declared.seals.SealEntry.{SealEntry}
use Rattle.cx_rules.specs.Acceptor.{Finished, denies}
use Rattle.cx_rules.specs.Judged.{IsEnvelopeSealed, IsProofFound, NoneOf}
use Rattle.cx_rules.specs.KeptStates.{changed, saved_behind, same_generation, same_generations, same_state}
use Rattle.cx_rules.specs.Links.{Link}
use Rattle.cx_rules.specs.Monitor.{MonitorArrival, MonitorRow, MonitorStage}
use Rattle.cx_rules.specs.MonitorLogin.{hands_over, occasion, row_of, with_server}
use Rattle.cx_rules.specs.Verdicts.{Entrant, Numbered, entrant, handed_out, issues, issues_to, key_of, numbers}
use Rattle.cx_rules.proofs.Quiet.{Quiet, quiet-refuses_bytes}

-- ---- the state that is saved

same_bytes : (xs ys : List ℕ) → bytes_eq xs ys ≡ true → xs ≡ ys
same_bytes xs ys e = search (rules, bytes_eq-Decides)

generation : ℕ → List ℕ → ℕ → Generation
generation id key expires = record { id = id; key = key; expires = expires }

generation_of : (g h : Generation) → g.id ≡ h.id → g.key ≡ h.key → g.expires ≡ h.expires → g ≡ h
unfolding generation
generation_of g h a b c =
    ap (λ (x : ℕ). generation x g.key g.expires) a ∙ ap (λ (x : List ℕ). generation h.id x g.expires) b ∙ ap (λ (x : ℕ). generation h.id h.key x) c

state : ℕ → ℕ → ℕ → List Generation → List Generation → List Generation → List Generation → KeptState
state gid life auth_life mds osd mgr auth = record { next_gid = gid; life = life; auth_life = auth_life; mds = mds; osd = osd; mgr = mgr; auth = auth }

state_of : (s t : KeptState) → s.next_gid ≡ t.next_gid → s.life ≡ t.life → s.auth_life ≡ t.auth_life → s.mds ≡ t.mds → s.osd ≡ t.osd → s.mgr ≡ t.mgr → s.auth ≡ t.auth → s ≡ t
unfolding state
state_of s t a b c d f g h =
    ap (λ (x : ℕ). state x s.life s.auth_life s.mds s.osd s.mgr s.auth) a
    ∙ ap (λ (x : ℕ). state t.next_gid x s.auth_life s.mds s.osd s.mgr s.auth) b
    ∙ ap (λ (x : ℕ). state t.next_gid t.life x s.mds s.osd s.mgr s.auth) c
    ∙ ap (λ (x : List Generation). state t.next_gid t.life t.auth_life x s.osd s.mgr s.auth) d
    ∙ ap (λ (x : List Generation). state t.next_gid t.life t.auth_life t.mds x s.mgr s.auth) f
    ∙ ap (λ (x : List Generation). state t.next_gid t.life t.auth_life t.mds t.osd x s.auth) g
    ∙ ap (λ (x : List Generation). state t.next_gid t.life t.auth_life t.mds t.osd t.mgr x) h

generation_is : (g h : Generation) → same_generation g h ≡ true → g ≡ h
generation_is g h e =
    let id = and_parts (g.id == h.id) (bytes_eq g.key h.key && (g.expires == h.expires)) e in
    let rest = and_parts (bytes_eq g.key h.key) (g.expires == h.expires) id.1 in
    generation_of g h (eqb-true g.id h.id id.0) (same_bytes g.key h.key rest.0) (eqb-true g.expires h.expires rest.1)

generations_are : (gs hs : List Generation) → same_generations gs hs ≡ true → gs ≡ hs
generations_are [] [] e = refl
generations_are [] (h ∷ hs) e = absurd cc
generations_are (g ∷ gs) [] e = absurd cc
generations_are (g ∷ gs) (h ∷ hs) e =
    let parts = and_parts (same_generation g h) (same_generations gs hs) e in
    let a : g ≡ h = generation_is g h parts.0 in
    let b : gs ≡ hs = generations_are gs hs parts.1 in
    cc

state_is : (s t : KeptState) → same_state s t ≡ true → s ≡ t
state_is s t e =
    let p1 = and_parts (s.next_gid == t.next_gid) _ e in
    let p2 = and_parts (s.life == t.life) _ p1.1 in
    let p3 = and_parts (s.auth_life == t.auth_life) _ p2.1 in
    let p4 = and_parts (same_generations s.mds t.mds) _ p3.1 in
    let p5 = and_parts (same_generations s.osd t.osd) _ p4.1 in
    let p6 = and_parts (same_generations s.mgr t.mgr) (same_generations s.auth t.auth) p5.1 in
    state_of s t (eqb-true s.next_gid t.next_gid p1.0) (eqb-true s.life t.life p2.0) (eqb-true s.auth_life t.auth_life p3.0)
    (generations_are s.mds t.mds p4.0) (generations_are s.osd t.osd p5.0) (generations_are s.mgr t.mgr p6.0) (generations_are s.auth t.auth p6.1)

saved_by : (test : Bool) (saved state : KeptState) → same_state state saved ≡ test
    → saved_behind saved (if test then None else Some state) ≡ state
saved_by true saved state e = sym (state_is state saved e)
saved_by false saved state e = refl

-- what was saved last, behind a step that saves what has changed, is what there is
pub saved-changed : (saved state : KeptState) → saved_behind saved (changed saved state) ≡ state
saved-changed saved state = saved_by (same_state state saved) saved state refl

-- ---- rows

-- a row that hands out tickets
pub record Grants (saved : KeptState) (row : MonitorRow) : Type 0 where
  pub proven : SomeOf IsProofFound row.seals
  pub link : Link MonitorStage
  pub goes : row.link ≡ Some link
  pub save : row.save ≡ changed saved row.own.server.state
  pub saved_is : row.own.saved ≡ row.own.server.state

abbrev pub Judged : KeptState → MonitorRow → Type 0
Judged saved row = Quiet saved row ⊎ Grants saved row

-- a row that replies to a request
pub record Replies (saved : KeptState) (row : MonitorRow) : Type 0 where
  pub link : Link MonitorStage
  pub goes : row.link ≡ Some link
  pub save : row.save ≡ changed saved row.own.server.state
  pub saved_is : row.own.saved ≡ row.own.server.state

-- a row that hands out nothing, or grants, or replies where it may
abbrev pub Rated : Type 0 → KeptState → MonitorRow → Type 0
Rated May saved row = Judged saved row ⊎ (May × Replies saved row)

pub some-append : {X : Type 0} (P : X → Type 0) (xs ys : List X) → SomeOf P xs → SomeOf P (xs ++ ys)
some-append P [] ys h = absurd h
some-append P (x ∷ xs) ys (inl h) = inl h
some-append P (x ∷ xs) ys (inr h) = inr (some-append P xs ys h)

pub quiet-denies : (a : MonitorArrival) (code : ℕ) (why : LoginFault) (seals : List SealEntry) → NoneOf IsEnvelopeSealed seals → Quiet a.own.saved (denies a code why seals)
quiet-denies a code why seals h = record { entries = (λ x. x, tt); seals = h; save = refl; saved_is = refl }

-- a proof was found equal, and no ticket is sealed yet
pub record Ready (seals : List SealEntry) : Type 0 where
  pub proven : SomeOf IsProofFound seals
  pub none : NoneOf IsEnvelopeSealed seals

hands_over-judged : (a : MonitorArrival) (e : Entrant) (own : List ℕ) (tickets : List Ticket) (done : Result Finished BytesFault)
    → Ready e.seals → Judged a.own.saved (hands_over a (handed_out (occasion a) a.own.server e own tickets) done)
hands_over-judged a e own tickets (Err why) r = inl (quiet-refuses_bytes a why e.seals r.none)
hands_over-judged a e own tickets (Ok done) r =
    let sealed : List SealEntry = (handed_out (occasion a) a.own.server e own tickets).sealed in
    inr (record {
      proven = some-append IsProofFound e.seals (sealed ++ done.seals) r.proven;
      link = _;
      goes = refl;
      save = refl;
      saved_is = saved-changed a.own.saved a.own.server.state;
    })

issues-judged : (a : MonitorArrival) (e : Entrant) (own : List ℕ) (tickets : Result (List Ticket) LoginFault)
    → Ready e.seals → Judged a.own.saved (row_of a (issues (occasion a) a.own.server e own tickets))
issues-judged a e own (Err why) r = inl (quiet-denies a 13 why e.seals r.none)
issues-judged a e own (Ok tickets) r = hands_over-judged a e own tickets _ r

issues_to-judged : (a : MonitorArrival) (e : Entrant) (own : Option Key) → Ready e.seals
    → Judged a.own.saved (row_of a (issues_to (occasion a) a.own.server e own))
issues_to-judged a e None r = inl (quiet-denies a 13 _ e.seals r.none)
issues_to-judged a e (Some own) r = issues-judged a e own.secret _ r

pub numbers-judged : (a : MonitorArrival) (proven : Proven) (seals : List SealEntry) (n : Result Numbered LoginFault)
    → Ready seals → Judged a.own.saved (row_of a (numbers (occasion a) a.own.server proven seals n))
numbers-judged a proven seals (Err why) r = inl (quiet-denies a 13 why seals r.none)
numbers-judged a proven seals (Ok n) r =
    issues_to-judged (with_server a n.server) (entrant proven.offer.name n.gid proven.ask.other_keys seals) (key_of n.server proven.offer.name) r
