-- What a step decides, from what the next one does.
use Rattle.std.proofs.Common.{◌≡◌, ℕ, List, [], ◌∷◌, ◌++◌, Option, Some, Result, Ok, sym, ap, subst, ◌∙◌}
use Rattle.std.specs.declared.alloc.AllocError.{AllocError}
use Rattle.cx_base.specs.Names.{Name}
use Rattle.cx_base.specs.declared.kinds.EntityType.{EntityType}
use Rattle.cx_base.specs.declared.kinds.EntityType.TheVariants.{Auth}
use Rattle.cx_dice.specs.Draws.{session_of}
use Rattle.cx_enc.specs.declared.keys.Key.{Key}
use Rattle.cx_journal.specs.declared.faults.LoginFault.{LoginFault}
use Rattle.cx_keyserver.specs.Issuing.{Asked, asking}
use Rattle.cx_keyserver.specs.Servers.{Server, rotated_server}
use Rattle.cx_keyserver.specs.declared.tickets.Ticket.{Ticket}
use Rattle.cx_login.specs.Monitor.{Proven, kept_gid, proof_found, reclaimed}
use Rattle.cx_login.specs.Unlocking.{Unlocked, old_ticket}
use Rattle.cx_login.specs.declared.monitor.Reclaim.{Reclaim}
use Rattle.cx_rotate.specs.declared.states.KeptState.{KeptState}
use Rattle.cx_rules.specs.Verdicts.{Decided, Numbered, Occasion, decided, entrant, issues, issues_to, key_of, numbered, numbers, reclaims, rotates}
use Rattle.cx_rules.specs.Tickets.{issued_for, rotation_drawn, services_for}
use Rattle.cx_sealed.specs.declared.service_ticket.ServiceTicket.{ServiceTicket}
use Rattle.cx_steps.specs.declared.seals.SealEntry.{SealEntry}
use Rattle.cx_mon_grants.specs.Deciding.{Decides}
use Rattle.cx_mon_grants.specs.Occasions.{asking_by, entrant_of, occasion_of}
use Rattle.cx_mon_grants.specs.declared.occasions.Entrant.{Entrant as EntrantRef}
use Rattle.cx_rules.specs.declared.verdicts.Verdict.{Verdict}

decides_as : (first second : Decided) (new : Server) (result : Result Verdict AllocError) → first ≡ second → Decides second new result → Decides first new result
decides_as first second new result is = subst (λ (d : Decided). Decides d new result) (sym is)

-- behind the tickets
pub issued_decides : (e : EntrantRef) (server new : Server) (seals : List SealEntry) (key : Option Key) (own : Key) (services : List EntityType)
    (tickets : Result (List Ticket) LoginFault) (verdict : Verdict) → e.session ≡ session_of Auth e.at.draw.now.bytes → key ≡ Some own
    → services ≡ services_for e.asked → tickets ≡ issued_for server (asking_by e) services → new ≡ server
    → issues (occasion_of e.at) server (entrant_of e seals) own.secret tickets ≡ decided server verdict
    → issues_to (occasion_of e.at) server (entrant_of e seals) key ≡ decided new verdict
issued_decides e server new seals key own services tickets verdict session key_is services_are tickets_are same made =
    let ask : List ℕ → EntityType → Asked = λ s service. asking e.name.now service e.gid s e.at.reading e.at.draw.now.bytes in
    let told : Result (List Ticket) LoginFault → Decided = issues (occasion_of e.at) server (entrant_of e seals) own.secret in
    ap (issues_to (occasion_of e.at) server (entrant_of e seals)) key_is
    ∙ ap (λ (s : List ℕ). told (issued_for server (ask s) (services_for e.asked))) (sym session)
    ∙ ap (λ (ss : List EntityType). told (issued_for server (asking_by e) ss)) (sym services_are)
    ∙ ap told (sym tickets_are) ∙ made ∙ ap (λ (s : Server). decided s verdict) (sym same)

-- behind a global id
pub numbers_decides : (at : Occasion) (server behind : Server) (proven : Proven) (seals : List SealEntry) (given : Result Numbered LoginFault) (name : Name) (gid asked : ℕ) (new : Server) (result : Result Verdict AllocError)
    → given ≡ Ok (record { server = behind; gid = gid }) → name ≡ proven.offer.name → asked ≡ proven.ask.other_keys
    → Decides (issues_to at behind (entrant name gid asked seals) (key_of behind name)) new result → Decides (numbers at server proven seals given) new result
numbers_decides at server behind proven seals given name gid asked new result is name_is asked_is =
    decides_as (numbers at server proven seals given) (issues_to at behind (entrant name gid asked seals) (key_of behind name)) new result
    (ap (numbers at server proven seals) is
    ∙ ap (λ (n : Name). issues_to at behind (entrant n gid proven.ask.other_keys seals) (key_of behind n)) (sym name_is)
    ∙ ap (λ (a : ℕ). issues_to at behind (entrant name gid a seals) (key_of behind name)) (sym asked_is))

-- behind the rotation and the old ticket
pub rotates_decides : (at : Occasion) (server rotated : Server) (state : KeptState) (hello_gid : ℕ) (proven : Proven) (found : SealEntry) (none one two three : List SealEntry) (reclaim : Reclaim) (new : Server) (result : Result Verdict AllocError)
    → none ≡ [] → found ≡ proof_found proven.offer proven.ask.client_challenge → one ≡ none ++ found ∷ []
    → rotated ≡ rotated_server at.reading at.draw server → two ≡ one ++ rotation_drawn at.reading at.draw server.state → state ≡ rotated.state
    → reclaim ≡ reclaimed hello_gid proven.ask.version (kept_gid proven.offer.name at.reading (old_ticket state.auth proven.ask.old_ticket).value)
    → three ≡ two ++ (old_ticket state.auth proven.ask.old_ticket).seals
    → Decides (numbers at rotated proven three (numbered rotated reclaim)) new result → Decides (rotates at server hello_gid proven) new result
rotates_decides at server rotated state hello_gid proven found none one two three reclaim new result none_is found_is one_is rotated_is two_is state_is reclaim_is three_is =
    let old : KeptState → Unlocked ServiceTicket = λ s. old_ticket s.auth proven.ask.old_ticket in
    let drawn : List SealEntry = rotation_drawn at.reading at.draw server.state in
    let first : one ≡ proof_found proven.offer proven.ask.client_challenge ∷ [] =
    one_is ∙ ap (λ (xs : List SealEntry). xs ++ found ∷ []) none_is ∙ ap (λ (x : SealEntry). x ∷ []) found_is in
    let before : three ≡ (proof_found proven.offer proven.ask.client_challenge ∷ drawn) ++ (old rotated.state).seals =
    three_is ∙ ap (λ (xs : List SealEntry). xs ++ (old state).seals) (two_is ∙ ap (λ (xs : List SealEntry). xs ++ drawn) first)
    ∙ ap (λ (s : KeptState). (proof_found proven.offer proven.ask.client_challenge ∷ drawn) ++ (old s).seals) state_is in
    let kept : reclaim ≡ reclaimed hello_gid proven.ask.version (kept_gid proven.offer.name at.reading (old rotated.state).value) =
    reclaim_is ∙ ap (λ (s : KeptState). reclaimed hello_gid proven.ask.version (kept_gid proven.offer.name at.reading (old s).value)) state_is in
    decides_as (rotates at server hello_gid proven) (numbers at rotated proven three (numbered rotated reclaim)) new result
    (sym (ap (λ (xs : List SealEntry). numbers at rotated proven xs (numbered rotated reclaim)) before
    ∙ ap (λ (r : Reclaim). numbers at rotated proven ((proof_found proven.offer proven.ask.client_challenge ∷ drawn) ++ (old rotated.state).seals) (numbered rotated r)) kept
    ∙ ap (λ (s : Server). reclaims at s hello_gid proven (proof_found proven.offer proven.ask.client_challenge ∷ drawn) (old s.state)) rotated_is))
