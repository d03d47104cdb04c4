-- What one that logs in is told of its tickets: each session key is that of a ticket of its own.
use Rattle.std.proofs.Common.{◌≡◌, ℕ, List, [], ◌∷◌, Some, inr, refl, subst}
use Rattle.cx_base.specs.Names.{Name}
use Rattle.cx_base.specs.declared.nodes.NodeName.{NodeName}
use Rattle.cx_base.specs.declared.nodes.NodeName.TheVariants as node
use Rattle.cx_laws_keys.specs.cx_journal.specs.declared.entries.Entry.{Entry}
use Rattle.cx_laws_keys.specs.cx_journal.specs.declared.premises.KeyKind.TheVariants as kind
use Rattle.cx_laws_keys.specs.cx_login.specs.Held.{Held, held_as}
use Rattle.cx_laws_keys.specs.cx_login.specs.Unlocking.{Unlocked, ◌>>=◌, login_of_parts, made, told, told_each, unlocked}
use Rattle.cx_laws_keys.specs.cx_login.specs.declared.client.LoggedIn.{LoggedIn}
use Rattle.cx_laws_keys.specs.cx_sealed.specs.Records.{connection_secret_layout, ticket_info_layout}
use Rattle.cx_laws_keys.specs.cx_sealed.specs.declared.connection_secret.ConnectionSecret.{ConnectionSecret}
use Rattle.cx_laws_keys.specs.cx_sealed.specs.declared.ticket_info.TicketInfo.{TicketInfo}
use Rattle.cx_laws_keys.specs.cx_steps.specs.declared.seals.Logged.{Logged}
use Rattle.cx_laws_keys.specs.cx_wire.specs.declared.tickets.TicketPart.{TicketPart}
use Rattle.cx_laws_tickets.proofs.calling.Sessions.{AreSessions, IsLoginKey, IsSession}
use Rattle.cx_laws_keys.proofs.keys.Uses.{Login, Means, Secret, Ticketed, Uses, WholeRun}
use Rattle.cx_laws_keys.proofs.login.MonClientRows.{NeverExcepted, Tells, auth-tells, each-allowed, tells-then, told-allowed}
use Rattle.cx_laws_keys.proofs.login.Opens.{unlocked-allowed, unlocked_says}

module _ (run : WholeRun) (whole_log : List Logged) (n : NodeName) (line : ℕ) (us : Uses) (J : List Entry) (name : Name) (free : NeverExcepted run whole_log n us name) (here : n ≡ node.Entity name) where
  abbrev Says : {X : Type 0} → Unlocked X → (X → Type 0) → Type 0
  Says {X} u P = Tells run whole_log n line us J name free {X = X} u P

  -- a ticket that is told under the session key of the one for AUTH
  part-tells : (key : List ℕ) (part : TicketPart) → Means us key (Login name) → Says (told kind.Session key part) (λ held. IsSession us n held.session)
  part-tells key part means =
      tells-then run whole_log n line us J name free (unlocked ticket_info_layout.form kind.Session key part.info) (λ info. made (held_as part info))
      (λ info. Means us info.session (Ticketed name info.service)) (λ held. IsSession us n held.session)
      (unlocked-allowed run whole_log n line us [] J ticket_info_layout.form kind.Session key part.info)
      (λ log i g x e. let s = unlocked_says run whole_log n line us log J ticket_info_layout.form kind.Session key part.info (Login name) i means (free key (Login name) means refl) g x e in s.2.0 x s.1)
      (λ info m log i g x e. held_is info x m e)
    where
      held_is : (info : TicketInfo) (x : Held) → Means us info.session (Ticketed name info.service) → Some (held_as part info) ≡ Some x → IsSession us n x.session
      held_is info x m e =
          let same : held_as part info ≡ x = cc in
          subst (λ (h : Held). IsSession us n h.session) same (record { name = name; own = here; means = inr (info.service, m) })

  -- and all of them
  pub each-tells : (key : List ℕ) (parts : List TicketPart) → Means us key (Login name) → Says (told_each key parts) (λ held. AreSessions us n held)
  each-tells key [] means = λ log i g x e. none x e
    where
      none : (x : List Held) → (let nothing : List Held = [] in Some nothing ≡ Some x) → AreSessions us n x
      none x e = let nothing : List Held = [] in let same : nothing ≡ x = cc in subst (λ (h : List Held). AreSessions us n h) same tt
  each-tells key (part ∷ parts) means =
      tells-then run whole_log n line us J name free (told kind.Session key part) (λ held. told_each key parts >>= λ rest. made (held ∷ rest))
      (λ held. IsSession us n held.session) (λ held. AreSessions us n held)
      (told-allowed run whole_log n line us J name free kind.Session key part) (part-tells key part means)
      (λ held h. tells-then run whole_log n line us J name free (told_each key parts) (λ rest. made (held ∷ rest)) (λ rest. AreSessions us n rest) (λ all. AreSessions us n all)
      (each-allowed run whole_log n line us J name free key parts) (each-tells key parts means) (λ rest hs log i g x e. all_are held rest x h hs e))
    where
      all_are : (held : Held) (rest x : List Held) → IsSession us n held.session → AreSessions us n rest → Some (held ∷ rest) ≡ Some x → AreSessions us n x
      all_are held rest x h hs e = let same : held ∷ rest ≡ x = cc in subst (λ (l : List Held). AreSessions us n l) same (h, hs)

  -- a login that opened
  abbrev pub IsOurs : LoggedIn → Type 0
  IsOurs login = IsLoginKey us n login.auth.session × AreSessions us n login.tickets

  pub login-told : (secret : List ℕ) (parts : List TicketPart) (connection : List ℕ) → Means us secret (Secret name) → Says (login_of_parts secret parts connection) IsOurs
  login-told secret [] connection means = λ log i g x e. absurd cc
  login-told secret (first ∷ parts) connection means =
      tells-then run whole_log n line us J name free (told kind.Principal secret first)
      (λ auth. told_each auth.session parts >>= λ tickets. unlocked connection_secret_layout.form kind.Session auth.session connection >>= λ opened. made (record { auth = auth; tickets = tickets; secret = opened.secret }))
      (λ auth. Means us auth.session (Login name)) IsOurs (told-allowed run whole_log n line us J name free kind.Principal secret first) (auth-tells run whole_log n line us J name free secret first means)
      (λ auth m. tells-then run whole_log n line us J name free (told_each auth.session parts)
      (λ tickets. unlocked connection_secret_layout.form kind.Session auth.session connection >>= λ opened. made (record { auth = auth; tickets = tickets; secret = opened.secret }))
      (λ tickets. AreSessions us n tickets) IsOurs (each-allowed run whole_log n line us J name free auth.session parts) (each-tells auth.session parts m)
      (λ tickets ts. tells-then run whole_log n line us J name free (unlocked connection_secret_layout.form kind.Session auth.session connection)
      (λ opened. made (record { auth = auth; tickets = tickets; secret = opened.secret })) (λ opened. Unit {0}) IsOurs
      (unlocked-allowed run whole_log n line us [] J connection_secret_layout.form kind.Session auth.session connection) (λ log i g x e. tt)
      (λ opened _ log i g x e. ours auth tickets opened x m ts e)))
    where
      ours : (auth : Held) (tickets : List Held) (opened : ConnectionSecret) (x : LoggedIn) → Means us auth.session (Login name) → AreSessions us n tickets
          → Some (record { auth = auth; tickets = tickets; secret = opened.secret }) ≡ Some x → IsOurs x
      ours auth tickets opened x m ts e =
          let login : LoggedIn = record { auth = auth; tickets = tickets; secret = opened.secret } in
          let same : login ≡ x = cc in
          subst IsOurs same (record { name = name; own = here; means = m }, ts)
