-- The tickets of a login stand in the order of a LoginDone, the one for AUTH first.
use Rattle.std.proofs.Common.{◌≡◌, ℕ, ◌<◌, Bool, true, false, cond, List, [], ◌∷◌, All, map, Option, Some, None, Result, Ok, Err, refl, sym, ap, subst, ◌∙◌, arith}
use Rattle.std.specs.Prelude.{IsTrue, filter, find}
use Rattle.std.proofs.lemmas.Bool.{lt-ltb}
use Rattle.std.proofs.lemmas.List.Elements.{All-head, All-tail}
use Rattle.cx_base.specs.declared.kinds.EntityType.{EntityType}
use Rattle.cx_base.specs.declared.kinds.EntityType.TheVariants.{Mds, Osd, Mgr, Auth}
use Rattle.cx_dice.specs.Draws.{has_keys}
use Rattle.cx_enc.specs.Forms.{passed}
use Rattle.cx_journal.specs.declared.faults.LoginFault.{LoginFault}
use Rattle.cx_keyserver.specs.cx_keyring.specs.Entries.{is_named}
use Rattle.cx_keyserver.specs.cx_keyring.specs.declared.entries.Entry.{Entry}
use Rattle.cx_keyserver.specs.Issuing.{Asked, caps_for, current_at, fields_of, issued, or_else, sealed_by, telling_key, ◌>>=◌}
use Rattle.cx_keyserver.specs.Servers.{Server, generations_of}
use Rattle.cx_keyserver.specs.declared.refusals.IssueRefusal.{IssueRefusal}
use Rattle.cx_keyserver.specs.declared.refusals.IssueRefusal.TheVariants.{UnknownEntity, NotAService, NoCaps, IdsSpent, OutOfMemory}
use Rattle.cx_keyserver.specs.declared.tickets.Ticket.{Ticket}
use Rattle.cx_rotate.specs.declared.generations.Generation.{Generation}
use Rattle.cx_rules.specs.Replies.{asking_of, others_for}
use Rattle.cx_rules.specs.Tickets.{and_first, is_asked, issued_before, issued_for, services_for, ticket_part}
use Rattle.cx_rules.specs.Verdicts.{Occasion}
use Rattle.cx_rules.specs.declared.responses.Bearer.{Bearer}
use Rattle.cx_wire.specs.Services.{AreTickets, IsNextTicket, follows, rank}
use Rattle.cx_mon_grants.specs.Handing.{CanBeHandedOut, CanBeTold, IsWhole}
use Rattle.cx_mon_grants.specs.Occasions.{asking_by}
use Rattle.cx_mon_grants.specs.declared.occasions.Entrant.{Entrant}

-- ---- one ticket

ok_is : {X : Type 0} (x y : X) → let p : Result X IssueRefusal = Ok x in p ≡ Ok y → x ≡ y
ok_is x y e = cc

-- a step went on where all of them gave a ticket
went_on : {A : Type 0} (why : IssueRefusal) (o : Option A) (next : A → Result Ticket IssueRefusal) (ticket : Ticket) (P : Type 0)
    → (or_else why o >>= next) ≡ Ok ticket → ((a : A) → o ≡ Some a → next a ≡ Ok ticket → P) → P
went_on why None next ticket P e then_so = absurd cc
went_on why (Some a) next ticket P e then_so = then_so a refl e

-- it is for the service that is asked
issued_service : (server : Server) (asked : Asked) (ticket : Ticket) → issued server asked ≡ Ok ticket → ticket.service ≡ asked.service
issued_service server asked ticket e =
    went_on UnknownEntity (find (is_named asked.name) server.ring) _ ticket _ e
    (λ entry _ e1. went_on NotAService (passed has_keys asked.service) _ ticket _ e1
    (λ service passes e2. went_on NoCaps (caps_for service entry) _ ticket _ e2
    (λ caps _ e3. went_on IdsSpent (current_at asked.reading (generations_of server.state service)) _ ticket _ e3
    (λ generation _ e4. ap (λ (t : Ticket). t.service) (sym (ok_is _ ticket e4))))))

-- ---- tickets for services whose ranks rise

abbrev Rises : EntityType → List EntityType → Type 0
Rises last [] = Unit {0}
Rises last (service ∷ services) = (rank last < rank service) × Rises service services

sooner : (last next : EntityType) (services : List EntityType) → rank last < rank next → Rises next services → Rises last services
sooner last next [] below rises = tt
sooner last next (service ∷ services) below (first, rest) = (omega arith, rest)

abbrev Ranked : EntityType → List Ticket → Type 0
Ranked last [] = Unit {0}
Ranked last (ticket ∷ tickets) = IsTrue (follows (Some last) ticket.service) × Ranked ticket.service tickets

list_is : (ts us : List Ticket) → let p : Result (List Ticket) LoginFault = Ok ts in p ≡ Ok us → ts ≡ us
list_is ts us e = cc

ranked_first : (last service : EntityType) (ticket : Ticket) (tickets : List Ticket) → rank last < rank service → ticket.service ≡ service → Ranked service tickets → Ranked last (ticket ∷ tickets)
ranked_first last service ticket tickets below is rest =
    let P : EntityType → Type 0 = λ s. IsTrue (follows (Some last) s) × Ranked s tickets in
    subst P (sym is) (lt-ltb (rank last) (rank service) below, rest)

-- the tickets for the others, where the first one is skipped and where it is issued
abbrev Others : Server → (EntityType → Asked) → List EntityType → Type 0
Others server ask services = (last : EntityType) (tickets : List Ticket) → Rises last services → issued_for server ask services ≡ Ok tickets → Ranked last tickets

ranked_by : (server : Server) (ask : EntityType → Asked) → ((s : EntityType) → (ask s).service ≡ s) → (last service : EntityType) (services : List EntityType) (tickets : List Ticket)
    → rank last < rank service → Rises service services → Others server ask services
    → (one : Result Ticket IssueRefusal) → issued server (ask service) ≡ one → (others : Result (List Ticket) LoginFault) → issued_for server ask services ≡ others
    → issued_before one others ≡ Ok tickets → Ranked last tickets
ranked_by server ask asks last service services tickets below rest others_rank (Ok ticket) one_is (Ok found) others_are made =
    subst (Ranked last) (list_is (ticket ∷ found) tickets made)
    (ranked_first last service ticket found below (issued_service server (ask service) ticket one_is ∙ asks service) (others_rank service found rest others_are))
ranked_by server ask asks last service services tickets below rest others_rank (Ok ticket) one_is (Err why) others_are made = absurd cc
ranked_by server ask asks last service services tickets below rest others_rank (Err NoCaps) one_is others others_are made = others_rank last tickets (sooner last service services below rest) (others_are ∙ made)
ranked_by server ask asks last service services tickets below rest others_rank (Err NotAService) one_is others others_are made = others_rank last tickets (sooner last service services below rest) (others_are ∙ made)
ranked_by server ask asks last service services tickets below rest others_rank (Err OutOfMemory) one_is others others_are made = others_rank last tickets (sooner last service services below rest) (others_are ∙ made)
ranked_by server ask asks last service services tickets below rest others_rank (Err IdsSpent) one_is others others_are made = absurd cc
ranked_by server ask asks last service services tickets below rest others_rank (Err UnknownEntity) one_is others others_are made = absurd cc

ranked : (server : Server) (ask : EntityType → Asked) → ((s : EntityType) → (ask s).service ≡ s) → (services : List EntityType) → Others server ask services
ranked server ask asks [] last tickets rises e = subst (Ranked last) (list_is [] tickets e) tt
ranked server ask asks (service ∷ services) last tickets (below, rest) e =
    ranked_by server ask asks last service services tickets below rest (ranked server ask asks services) (issued server (ask service)) refl (issued_for server ask services) refl e

rises_filtered : (p : EntityType → Bool) → Rises Auth (filter p (Mds ∷ Osd ∷ Mgr ∷ []))
rises_filtered p = by_tests (p Mds) (p Osd) (p Mgr)
  where
    by_tests : (a b c : Bool) → Rises Auth (cond a (Mds ∷ cond b (Osd ∷ cond c (Mgr ∷ []) []) (cond c (Mgr ∷ []) [])) (cond b (Osd ∷ cond c (Mgr ∷ []) []) (cond c (Mgr ∷ []) [])))
    by_tests true true true = (omega arith, (omega arith, (omega arith, tt)))
    by_tests true true false = (omega arith, (omega arith, tt))
    by_tests true false true = (omega arith, (omega arith, tt))
    by_tests true false false = (omega arith, tt)
    by_tests false true true = (omega arith, (omega arith, tt))
    by_tests false true false = (omega arith, tt)
    by_tests false false true = (omega arith, tt)
    by_tests false false false = tt

-- ---- the one for AUTH

-- it stands first, before the others
record Begins (others : Result (List Ticket) LoginFault) (tickets : List Ticket) : Type 0 where
  first : Ticket
  rest : List Ticket
  service : first.service ≡ Auth
  others_are : others ≡ Ok rest
  tickets_are : tickets ≡ first ∷ rest

begins : (first : Ticket) (others : Result (List Ticket) LoginFault) (tickets : List Ticket) → first.service ≡ Auth → and_first first others ≡ Ok tickets → Begins others tickets
begins first (Ok rest) tickets service e = record { first = first; rest = rest; service = service; others_are = refl; tickets_are = sym (list_is (first ∷ rest) tickets e) }
begins first (Err why) tickets service e = absurd cc

-- it is issued, or there are none at all
auth_by : (found : Option Entry) (current : Option Generation) (made : Entry → Generation → Ticket) → ((entry : Entry) (generation : Generation) → (made entry generation).service ≡ Auth)
    → (others : Result (List Ticket) LoginFault) (tickets : List Ticket)
    → issued_before (or_else UnknownEntity found >>= λ entry. or_else IdsSpent current >>= λ generation. Ok (made entry generation)) others ≡ Ok tickets
    → Begins others tickets
auth_by None current made for_auth others tickets e = absurd cc
auth_by (Some entry) None made for_auth others tickets e = absurd cc
auth_by (Some entry) (Some generation) made for_auth others tickets e = begins (made entry generation) others tickets (for_auth entry generation) e

auth_first : (server : Server) (entrant : Entrant) (others : Result (List Ticket) LoginFault) (tickets : List Ticket)
    → issued_before (issued server (asking_by entrant Auth)) others ≡ Ok tickets → Begins others tickets
auth_first server entrant others tickets e =
    let asked : Asked = asking_by entrant Auth in
    auth_by (find (is_named asked.name) server.ring) (current_at asked.reading server.state.auth)
    (λ entry generation. sealed_by generation.key (telling_key entry asked) (fields_of server.state asked [] generation))
    (λ entry generation. refl) others tickets e

-- ---- all of them

next_is : (last : Option EntityType) (ticket : Ticket) → IsTrue (follows last ticket.service) → IsWhole ticket → IsNextTicket last (ticket_part ticket)
next_is last ticket is whole = let info = whole.info in let blob = whole.blob in record { follows = is; info = omega arith; blob = omega arith }

in_order : (last : EntityType) (tickets : List Ticket) → Ranked last tickets → All IsWhole tickets → AreTickets (Some last) (map ticket_part tickets)
in_order last [] ranks whole = tt
in_order last (ticket ∷ tickets) (first, rest) whole =
    (next_is (Some last) ticket first (All-head IsWhole ticket tickets whole), in_order ticket.service tickets rest (All-tail IsWhole ticket tickets whole))

handed_by : (first : Ticket) (rest : List Ticket) → first.service ≡ Auth → Ranked Auth rest → All IsWhole (first ∷ rest) → CanBeHandedOut (first ∷ rest)
handed_by first rest service ranks whole =
    let auth : IsTrue (follows None first.service) = ap (λ (s : EntityType). follows None s) service in
    let behind : Ranked first.service rest = subst (λ (s : EntityType). Ranked s rest) (sym service) ranks in
    record {
      some = omega arith;
      ordered = (next_is None first auth (All-head IsWhole first rest whole), in_order first.service rest behind (All-tail IsWhole first rest whole));
      whole = whole;
    }

-- the tickets of a login can be handed out
pub can_be_handed_out : (server : Server) (entrant : Entrant) (asked : ℕ) (tickets : List Ticket)
    → issued_for server (asking_by entrant) (services_for asked) ≡ Ok tickets → All IsWhole tickets → CanBeHandedOut tickets
can_be_handed_out server entrant asked tickets e whole =
    let ask : EntityType → Asked = asking_by entrant in
    let b : Begins (issued_for server ask (others_for asked)) tickets = auth_first server entrant (issued_for server ask (others_for asked)) tickets e in
    let ranks : Ranked Auth b.rest = ranked server ask (λ _. refl) (others_for asked) Auth b.rest (rises_filtered (is_asked asked)) b.others_are in
    let all : All IsWhole (b.first ∷ b.rest) = subst (All IsWhole) b.tickets_are whole in
    subst CanBeHandedOut (sym b.tickets_are) (handed_by b.first b.rest b.service ranks all)

-- those of a request can be told
pub can_be_told : (server : Server) (at : Occasion) (bearer : Bearer) (asked : ℕ) (services : List EntityType) (tickets : List Ticket)
    → services ≡ others_for asked → Ok tickets ≡ issued_for server (asking_of at bearer) services → All IsWhole tickets → CanBeTold tickets
can_be_told server at bearer asked services tickets services_are e whole =
    let issued : issued_for server (asking_of at bearer) (others_for asked) ≡ Ok tickets = rw (← services_are) (sym e) in
    let ranks : Ranked Auth tickets = ranked server (asking_of at bearer) (λ _. refl) (others_for asked) Auth tickets (rises_filtered (is_asked asked)) issued in
    record { ordered = in_order Auth tickets ranks whole; whole = whole }
