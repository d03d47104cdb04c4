-- What is known before a step of a client, and of the draw that it has.
use Rattle.std.proofs.Common.{◌≡◌, ℕ, ◌<◌, ◌^◌, zero, suc, List, [], ◌∷◌, take, drop, slice_index, arith, subst}
use Rattle.std.specs.List.{AllByRecursion}
use Rattle.cx_base.specs.Names.{Name}
use Rattle.cx_dice.specs.Draws.{challenge_of, cookie_of}
use Rattle.cx_journal.specs.declared.entries.Entry.{Entry}
use Rattle.cx_laws_run.specs.cx_laws_keys.proofs.keys.Known.{Inv}
use Rattle.cx_laws_run.specs.cx_laws_keys.proofs.keys.Uses.{Grows, Means, Use, Uses, WholeRun}
use Rattle.cx_laws_run.specs.cx_laws_tickets.proofs.calling.Between.{ClientOk}
use Rattle.cx_laws_sessions.proofs.queues.Clients.{ClientQueues}
use Rattle.cx_laws_sessions.specs.cx_rules_session.specs.ClientRule.{WholeClientNode}
use Rattle.cx_steps.specs.declared.seals.Logged.{Logged}
use Rattle.cx_laws_links.proofs.links.IncomingWords.{AreSpelled}
use Rattle.cx_laws_links.proofs.links.Known.{AreTold, Told}
use Rattle.cx_laws_run.proofs.sent.State.{ClientKnown}

-- of a client of this name, with this draw: keys have one use, behind the step too
pub record ClientBefore (run : WholeRun) (whole : List Logged) (us vs : Uses) (told : Told) (log : List Logged) (J : List Entry) (name : Name) (c : WholeClientNode) (draw : List ℕ) : Type 0 where
  pub named : c.own.mon_client.name ≡ name
  pub inv : Inv run whole us log J
  pub grows : Grows us vs
  pub one : (key : List ℕ) (u v : Use) → Means vs key u → Means vs key v → u ≡ v
  pub all_told : AreTold run us told log J
  pub spelled : AreSpelled told
  pub known : ClientKnown us told log c
  pub ok : ClientOk run us c
  pub queues : ClientQueues J name c.own.sessions
  pub challenge : challenge_of draw < 2 ^ 64
  pub cookie : cookie_of draw < 2 ^ 64

-- ---- numbers of eight bytes

byte-small : (bytes : List ℕ) (n i : ℕ) → AllByRecursion (λ (b : ℕ). b < 256) bytes → slice_index (take n bytes) i < 256
byte-small bytes zero i h = omega arith
byte-small [] (suc n) i h = omega arith
byte-small (b ∷ bytes) (suc n) zero h = h.0
byte-small (b ∷ bytes) (suc n) (suc i) h = byte-small bytes n i h.1

drop-small : (n : ℕ) (bytes : List ℕ) → AllByRecursion (λ (b : ℕ). b < 256) bytes → AllByRecursion (λ (b : ℕ). b < 256) (drop n bytes)
drop-small zero bytes h = h
drop-small (suc n) [] h = tt
drop-small (suc n) (b ∷ bytes) h = drop-small n bytes h.1

pub challenge-small : (draw : List ℕ) → AllByRecursion (λ (b : ℕ). b < 256) draw → challenge_of draw < 2 ^ 64
challenge-small draw h =
    let a : slice_index (take 8 draw) 0 < 256 = byte-small draw 8 0 h in
    let b : slice_index (take 8 draw) 1 < 256 = byte-small draw 8 1 h in
    let c : slice_index (take 8 draw) 2 < 256 = byte-small draw 8 2 h in
    let d : slice_index (take 8 draw) 3 < 256 = byte-small draw 8 3 h in
    let e : slice_index (take 8 draw) 4 < 256 = byte-small draw 8 4 h in
    let f : slice_index (take 8 draw) 5 < 256 = byte-small draw 8 5 h in
    let g : slice_index (take 8 draw) 6 < 256 = byte-small draw 8 6 h in
    let i : slice_index (take 8 draw) 7 < 256 = byte-small draw 8 7 h in
    omega arith

pub cookie-small : (draw : List ℕ) → AllByRecursion (λ (b : ℕ). b < 256) draw → cookie_of draw < 2 ^ 64
cookie-small draw h =
    let later = drop-small 8 draw h in
    let a : slice_index (take 8 (drop 8 draw)) 0 < 256 = byte-small (drop 8 draw) 8 0 later in
    let b : slice_index (take 8 (drop 8 draw)) 1 < 256 = byte-small (drop 8 draw) 8 1 later in
    let c : slice_index (take 8 (drop 8 draw)) 2 < 256 = byte-small (drop 8 draw) 8 2 later in
    let d : slice_index (take 8 (drop 8 draw)) 3 < 256 = byte-small (drop 8 draw) 8 3 later in
    let e : slice_index (take 8 (drop 8 draw)) 4 < 256 = byte-small (drop 8 draw) 8 4 later in
    let f : slice_index (take 8 (drop 8 draw)) 5 < 256 = byte-small (drop 8 draw) 8 5 later in
    let g : slice_index (take 8 (drop 8 draw)) 6 < 256 = byte-small (drop 8 draw) 8 6 later in
    let i : slice_index (take 8 (drop 8 draw)) 7 < 256 = byte-small (drop 8 draw) 8 7 later in
    omega arith

-- where the draw is of bytes
pub before-of : (run : WholeRun) (whole : List Logged) (us vs : Uses) (told : Told) (log : List Logged) (J : List Entry) (name : Name) (c : WholeClientNode) (draw : List ℕ) → c.own.mon_client.name ≡ name
    → Inv run whole us log J → Grows us vs → ((key : List ℕ) (u v : Use) → Means vs key u → Means vs key v → u ≡ v) → AreTold run us told log J → AreSpelled told → ClientKnown us told log c
    → ClientOk run us c → ClientQueues J c.own.mon_client.name c.own.sessions → AllByRecursion (λ (b : ℕ). b < 256) draw → ClientBefore run whole us vs told log J name c draw
before-of run whole us vs told log J name c draw named inv grows one all_told spelled known ok queues bytes = record {
  named = named;
  inv = inv;
  grows = grows;
  one = one;
  all_told = all_told;
  spelled = spelled;
  known = known;
  ok = ok;
  queues = subst (λ (m : Name). ClientQueues J m c.own.sessions) named queues;
  challenge = challenge-small draw bytes;
  cookie = cookie-small draw bytes;
}
