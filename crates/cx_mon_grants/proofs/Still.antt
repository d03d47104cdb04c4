-- A second rotation at one reading and draw adds nothing.
use Rattle.std.proofs.Common.{◌≡◌, ◌==◌, ℕ, ◌+◌, ◌-◌, ◌^◌, ◌<◌, Bool, true, false, cond, List, [], ◌∷◌, length, Ok, Err, refl, sym, ap, subst, arith}
use Rattle.std.specs.Prelude.{IsTrue}
use Rattle.cx_base.specs.declared.kinds.EntityType.TheVariants.{Mds, Osd, Mgr, Auth}
use Rattle.cx_dice.specs.Draws.{rotation_of}
use Rattle.cx_journal.specs.declared.faults.LoginFault.TheVariants.{GidsSpent}
use Rattle.cx_keyserver.specs.Servers.{Server, rotated_server, rotated_state}
use Rattle.cx_login.specs.declared.monitor.Reclaim.{Reclaim}
use Rattle.cx_login.specs.declared.monitor.Reclaim.TheVariants.{Kept, Fresh, Denied}
use Rattle.cx_rotate.proofs.Determined.{computed}
use Rattle.cx_rotate.proofs.Lasting.{rises}
use Rattle.cx_rotate.proofs.Results.{kept, stands_current}
use Rattle.cx_rotate.specs.Held.{IsRising}
use Rattle.cx_rotate.specs.Keeping.{IsKeptState, IsLasting, IsLife}
use Rattle.cx_rotate.specs.Rotation.{rotated, is_current, is_full}
use Rattle.cx_rotate.specs.declared.generations.Generation.{Generation}
use Rattle.cx_rotate.specs.declared.states.KeptState.{KeptState}
use Rattle.cx_rules.specs.Verdicts.{Numbered, numbered}
use Rattle.cx_mon_grants.specs.Issuing.{IsRotated}

-- ---- the generations of a service

-- three stay that are at their bounds, or whose second is unexpired
three_stay : (a b c : Generation) (now life : ℕ) (keys : List (List ℕ)) → (is_full (a ∷ b ∷ c ∷ []) ≡ false → IsTrue (is_current now (a ∷ b ∷ c ∷ [])))
    → rotated now life keys (a ∷ b ∷ c ∷ []) ≡ a ∷ b ∷ c ∷ []
three_stay a b c now life keys stays = sym (computed (a ∷ b ∷ c ∷ []) now life keys (a ∷ b ∷ c ∷ []) 0 (kept a b c now life keys stays) (omega arith))

current_stay : (gs : List Generation) (now life : ℕ) (keys : List (List ℕ)) → IsRising gs → IsTrue (is_current now gs) → rotated now life keys gs ≡ gs
current_stay [] now life keys rising current = absurd cc
current_stay (a ∷ b ∷ c ∷ []) now life keys rising current = three_stay a b c now life keys (λ _. current)
current_stay (a ∷ b ∷ c ∷ d ∷ gs) now life keys rising current = absurd rising
current_stay (a ∷ b ∷ []) now life keys rising current = absurd rising
current_stay (a ∷ []) now life keys rising current = absurd rising

full_stay : (gs : List Generation) (now life : ℕ) (keys : List (List ℕ)) → IsRising gs → is_full gs ≡ true → rotated now life keys gs ≡ gs
full_stay [] now life keys rising full = absurd cc
full_stay (a ∷ b ∷ c ∷ []) now life keys rising full = three_stay a b c now life keys (λ room. absurd cc)
full_stay (a ∷ b ∷ c ∷ d ∷ gs) now life keys rising full = absurd rising
full_stay (a ∷ b ∷ []) now life keys rising full = absurd rising
full_stay (a ∷ []) now life keys rising full = absurd rising

again_by : (gs : List Generation) (now life : ℕ) (keys : List (List ℕ)) (full : Bool) → is_full gs ≡ full → IsRising gs → 0 < life → length keys ≡ 3
    → rotated now life keys (rotated now life keys gs) ≡ rotated now life keys gs
again_by gs now life keys true is rising some three = ap (λ (hs : List Generation). rotated now life keys hs) (full_stay gs now life keys rising is)
again_by gs now life keys false is rising some three =
    let stands = stands_current gs now life keys rising some three is in
    current_stay (rotated now life keys gs) now life keys stands.0 stands.2

again : (gs : List Generation) (now life : ℕ) (keys : List (List ℕ)) → IsLasting gs → IsLife life → length keys ≡ 3
    → rotated now life keys (rotated now life keys gs) ≡ rotated now life keys gs
again gs now life keys lasting (shortest, longest) three =
    let some : 0 < life = omega arith in
    again_by gs now life keys (is_full gs) refl (rises gs lasting) some three

-- ---- the server

state_by : KeptState → List Generation → List Generation → List Generation → List Generation → KeptState
state_by s mds osd mgr auth = record { next_gid = s.next_gid; life = s.life; auth_life = s.auth_life; mds = mds; osd = osd; mgr = mgr; auth = auth }

four_is : (s : KeptState) (a b c d e f g h : List Generation) → a ≡ e → b ≡ f → c ≡ g → d ≡ h → state_by s a b c d ≡ state_by s e f g h
four_is s a b c d e f g h p q r t = cc

state_again : (now : ℕ) (draw : List ℕ) (s : KeptState) → IsKeptState s → rotated_state now draw (rotated_state now draw s) ≡ rotated_state now draw s
unfolding state_by
state_again now draw s is =
    four_is s _ _ _ _ _ _ _ _
    (again s.mds now s.life (rotation_of Mds draw) is.mds is.life refl)
    (again s.osd now s.life (rotation_of Osd draw) is.osd is.life refl)
    (again s.mgr now s.life (rotation_of Mgr draw) is.mgr is.life refl)
    (again s.auth now s.auth_life (rotation_of Auth draw) is.auth is.auth_life refl)

-- a server that was rotated is rotated
pub rotated_again : (now : ℕ) (draw : List ℕ) (server : Server) → IsKeptState server.state → IsRotated now draw (rotated_server now draw server)
rotated_again now draw server is = ap (λ (s : KeptState). let t : Server = record { ring = server.ring; state = s } in t) (state_again now draw server.state is)

-- with another global id
abbrev with_gid : ℕ → Server → Server
with_gid gid server = record server { state = record server.state { next_gid = gid } }

gid_again : (now : ℕ) (draw : List ℕ) (server : Server) (gid : ℕ) → IsRotated now draw server → IsRotated now draw (with_gid gid server)
gid_again now draw server gid is = ap (with_gid gid) is

-- so it is behind a global id that was given out
pub numbered_again : (now : ℕ) (draw : List ℕ) (server : Server) (reclaim : Reclaim) (n : Numbered) → IsRotated now draw server → numbered server reclaim ≡ Ok n → IsRotated now draw n.server
numbered_again now draw server (Kept gid) n is e =
    let same : server ≡ n.server = cc in
    subst (IsRotated now draw) same is
numbered_again now draw server Fresh n is e = next_again (server.state.next_gid == 2 ^ 64 - 1) e
  where
    next_again : (spent : Bool) → cond spent (Err GidsSpent) (Ok (record { server = with_gid (server.state.next_gid + 1) server; gid = server.state.next_gid })) ≡ Ok n → IsRotated now draw n.server
    next_again true e = absurd cc
    next_again false e =
        let same : with_gid (server.state.next_gid + 1) server ≡ n.server = cc in
        subst (IsRotated now draw) same (gid_again now draw server (server.state.next_gid + 1) is)
numbered_again now draw server (Denied gid) n is e = absurd cc

-- and the keyring stays
pub numbered_ring : (server : Server) (reclaim : Reclaim) (n : Numbered) → numbered server reclaim ≡ Ok n → n.server.ring ≡ server.ring
numbered_ring server (Kept gid) n e =
    let same : server ≡ n.server = cc in
    ap (λ (s : Server). s.ring) (sym same)
numbered_ring server Fresh n e = next_ring (server.state.next_gid == 2 ^ 64 - 1) e
  where
    next_ring : (spent : Bool) → cond spent (Err GidsSpent) (Ok (record { server = with_gid (server.state.next_gid + 1) server; gid = server.state.next_gid })) ≡ Ok n → n.server.ring ≡ server.ring
    next_ring true e = absurd cc
    next_ring false e =
        let same : with_gid (server.state.next_gid + 1) server ≡ n.server = cc in
        ap (λ (s : Server). s.ring) (sym same)
numbered_ring server (Denied gid) n e = absurd cc
