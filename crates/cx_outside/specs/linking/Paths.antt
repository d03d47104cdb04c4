-- The paths of links in memory: what they do, act by act.
use Rattle.std.specs.Prelude.{ℕ, ◌≡◌, ◌<◌, true, false, List, [], ◌∷◌, ◌++◌, length}
use Rattle.std.proofs.Common.{subst}
use Rattle.cx_outside.specs.linking.Acts.{LinkAct, Listened, Opened, Gave, Broke, Sent, Shut, Regarded}
use Rattle.cx_outside.specs.linking.Events.{came}
use Rattle.cx_outside.specs.linking.Scripts.{Scripted, after_fault, after_listen, after_next, after_open, after_send, after_shut, event_next, fails_next, number_next, takes_next}

-- an act leads from one moment to the other
abbrev pub Leads : Scripted → LinkAct → Scripted → Type 0
Leads s (Listened at ok) t = (ok ≡ takes_next s 0) × (t ≡ after_listen at s)
Leads s (Opened to number) t = (number ≡ number_next s) × (t ≡ after_open to s)
Leads s (Gave event bytes) t = (fails_next s ≡ false) × (room : ℕ) × (0 < room) × (event ≡ event_next s room) × (bytes ≡ came event s.bytes) × (t ≡ after_next room s)
Leads s Broke t = (fails_next s ≡ true) × (t ≡ after_fault s)
Leads s (Sent link bytes ok) t = (ok ≡ takes_next s (length bytes)) × (t ≡ after_send link bytes s)
Leads s (Shut link) t = t ≡ after_shut link s
-- how a link is regarded changes nothing of what comes and nothing of what is kept
Leads s (Regarded link regard) t = t ≡ s

-- the acts lead from one moment to the other, one behind the other
abbrev pub Path : Scripted → List LinkAct → Scripted → Type 0
Path s [] t = t ≡ s
Path s (act ∷ acts) t = (between : Scripted) × Leads s act between × Path between acts t

pub path_on : (a b c : Scripted) (xs ys : List LinkAct) → Path a xs b → Path b ys c → Path a (xs ++ ys) c
path_on a b c [] ys p q = subst (λ s. Path s ys c) p q
path_on a b c (x ∷ xs) ys (between, leads, p) q = (between, leads, path_on between b c xs ys p q)
