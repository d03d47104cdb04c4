-- What a step of a client shows of its links to daemons: which of them are as they were, and of the one that it is on, what was read and said there.
use Rattle.std.proofs.Common.{◌≡◌, ℕ, ◌<◌, ◌^◌, List, [], ◌∷◌, ◌++◌, Option, Some, None, inl, inr, ◌⊎◌, refl, sym, ap, ◌∙◌}
use Rattle.std.specs.List.{AllByRecursion}
use Rattle.std.specs.Option.{option_map}
use Rattle.cx_laws_sessions.specs.cx_authorize.specs.Verdict.{raised}
use Rattle.cx_base.specs.Names.{Name}
use Rattle.cx_base.specs.declared.operations.Operation.{Operation}
use Rattle.cx_journal.specs.declared.entries.Entry.{Entry}
use Rattle.cx_laws_run.specs.cx_laws_keys.proofs.keys.Known.{HasReply}
use Rattle.cx_laws_run.specs.cx_laws_keys.proofs.keys.Lists.{all-map, some-map}
use Rattle.cx_laws_run.specs.cx_laws_keys.proofs.keys.Uses.{Uses}
use Rattle.cx_laws_sessions.specs.cx_rules.specs.Links.{Link, without_link}
use Rattle.cx_laws_sessions.specs.cx_rules.specs.Rows.{Outcome, links_behind}
use Rattle.cx_laws_sessions.specs.cx_rules.specs.Secured.{Secured, connector_keys}
use Rattle.cx_laws_sessions.specs.cx_rules_session.specs.ClientRule.{ClientStage, ToDaemon, ToMonitor, WholeClientNode}
use Rattle.cx_laws_sessions.specs.cx_rules_session.specs.Kinds.{of_kind}
use Rattle.cx_laws_sessions.specs.cx_rules_session.specs.Presenter as call
use Rattle.cx_laws_sessions.specs.cx_rules_session.specs.Presenter.{CallArrival, CallRow, CallStage}
use Rattle.cx_laws_sessions.specs.cx_rules_session.specs.Sessions.{Callee}
use Rattle.cx_laws_sessions.specs.cx_sealed.specs.declared.authorize_reply.AuthorizeReply.{AuthorizeReply}
use Rattle.cx_steps.specs.Onto.{SomeOf}
use Rattle.cx_steps.specs.declared.seals.Logged.{Logged}
use Rattle.cx_laws_sessions.specs.cx_wire.specs.Operations.{operation_layout}
use Rattle.cx_laws_links.proofs.links.CallSteps.{WasSent}
use Rattle.cx_laws_links.proofs.links.CallWords.{KeyedStage, Says}
use Rattle.cx_laws_links.proofs.links.Known.{IsShown, Told}
use Rattle.cx_laws_links.proofs.links.Spoken.{Orders, Spoken, tagged}
use Rattle.cx_laws_links.proofs.answers.CallSilent.{NoEnds}
use Rattle.cx_laws_links.proofs.answers.CallTurns.{TurnHears}
use Rattle.cx_laws_run.proofs.sent.ClientLinks.{all-put, all-without}

-- ---- what is sent

-- an operation that waits, and its seq, have a spelling
abbrev pub OrderFits : ℕ × Operation → Type 0
OrderFits order = (order.0 < 2 ^ 64) × operation_layout.form.Fits order.1

-- an operation was sent by this entity under a cookie, and has a spelling
abbrev pub SentFits : List Entry → Name → ℕ → ℕ × Operation → Type 0
SentFits J name cookie order = WasSent J name cookie order × OrderFits order

-- ---- a link

-- it has no key yet
abbrev pub IsUnkeyed : CallStage → Type 0
IsUnkeyed (call.AwaitsBanner called) = Unit {0}
IsUnkeyed (call.AwaitsHello called) = Unit {0}
IsUnkeyed (call.AwaitsChallenge callee p) = Unit {0}
IsUnkeyed (call.AwaitsDone callee answered) = Unit {0}
IsUnkeyed _ = ⊥

-- a row of a link to a daemon: one without a key stays so; or a reply gives it its key, and it says something under it; or it has one, and a frame was read
pub data RowShown (us : Uses) (told : Told) (log : List Logged) (K : List Entry) (name : Name) (number : ℕ) (a : CallArrival) (stage : CallStage) (row : CallRow) : Type 0 where
  Unkeyed : ((link : Link CallStage) → row.link ≡ Some link → IsUnkeyed link.stage) → NoEnds row.entries → RowShown us told log K name number a stage row
  Begun : (nonce : ℕ) (callee : Callee) (x : AuthorizeReply) (s : Secured) → IsShown told name number nonce → HasReply us name x → x.nonce_plus_one ≡ raised nonce
      → s.keys ≡ connector_keys x.secret → Says (SentFits K name) number callee s None row → NoEnds row.entries → RowShown us told log K name number a stage row
  Turned : (s : Secured) (before : Option ℕ) → KeyedStage stage s before → TurnHears (SentFits K name) a stage s before row → RowShown us told log K name number a stage row

-- what it says, where its link goes on
module _ (us : Uses) (told : Told) (log : List Logged) (K : List Entry) (name : Name) (number : ℕ) (a : CallArrival) (stage : CallStage) (row : CallRow) where
  abbrev pub more_of : RowShown us told log K name number a stage row → List (List ℕ × Spoken)
  more_of (Unkeyed keyless ends) = []
  more_of (Begun nonce callee x s showed reply answers keys says ends) = tagged s.keys.key says.words
  more_of (Turned s before keyed turn) = tagged s.keys.key turn.says.words

-- ---- the links of a client

-- one of this number was in this stage
abbrev pub WasAt : List (Link ClientStage) → ℕ → ClientStage → Type 0
WasAt links number stage = SomeOf (λ (l : Link ClientStage). (l.number ≡ number) × (l.stage ≡ stage)) links

-- a link has no key, or is as it was
abbrev pub StageFrom : List (Link ClientStage) → ℕ → ClientStage → Type 0
StageFrom links number (ToMonitor stage) = Unit {0}
StageFrom links number (ToDaemon stage) = IsUnkeyed stage ⊎ WasAt links number (ToDaemon stage)

-- a link of another number is so; and the one of this number is what is left of it
abbrev pub LeftFrom : List (Link ClientStage) → ℕ → Option (Link CallStage) → Link ClientStage → Type 0
LeftFrom links number left l = ((l.number ≡ number → ⊥) × StageFrom links l.number l.stage) ⊎ ((it : Link CallStage) × (left ≡ Some it) × (l.stage ≡ ToDaemon it.stage))

-- a step of a client says nothing, and its links are as they were; or it is a row of one of them; or an operation is said on one that is open
pub data ClientShows (us : Uses) (told : Told) (log : List Logged) (K : List Entry) (name : Name) (c : WholeClientNode) (number : ℕ) (o : Outcome WholeClientNode) (next : Told) : Type 0 where
  ShowsNone : next.said ≡ told.said → AllByRecursion (λ (l : Link ClientStage). StageFrom c.links l.number l.stage) o.state.links → NoEnds o.out.entries
      → ClientShows us told log K name c number o next
  ShowsRow : (a : CallArrival) (stage : CallStage) (row : CallRow) → WasAt c.links number (ToDaemon stage) → a.link.number ≡ number → a.own.mon_client.name ≡ name → o.out.entries ≡ row.entries
      → o.out.seals ≡ row.seals → (shown : RowShown us told log K name number a stage row)
      → ((link : Link CallStage) → row.link ≡ Some link → next.said ≡ told.said ++ more_of us told log K name number a stage row shown)
      → AllByRecursion (LeftFrom c.links number row.link) o.state.links → ClientShows us told log K name c number o next
  ShowsOrder : (s t : Secured) (callee : Callee) (cookie : ℕ) (order : ℕ × Operation) (left : Link CallStage) → WasAt c.links number (ToDaemon (call.Open s callee cookie))
      → left.stage ≡ call.Open t callee cookie → t.keys.key ≡ s.keys.key → t.keys.into ≡ s.keys.into → next.said ≡ told.said ++ tagged s.keys.key (Orders order ∷ [])
      → AllByRecursion (LeftFrom c.links number (Some left)) o.state.links → NoEnds o.out.entries → ClientShows us told log K name c number o next

-- ---- which links are as they were

-- each link is one of them
all-some : {X : Type 0} (xs : List X) → AllByRecursion (λ (x : X). SomeOf (λ (y : X). y ≡ x) xs) xs
all-some [] = tt
all-some {X} (x ∷ xs) = (inl refl, all-map (λ (z : X). SomeOf (λ (y : X). y ≡ z) xs) (λ (z : X). SomeOf (λ (y : X). y ≡ z) (x ∷ xs)) (λ z there. inr there) xs (all-some xs))

pub was-at : (links : List (Link ClientStage)) (link : Link ClientStage) (stage : ClientStage) → SomeOf (λ (l : Link ClientStage). l ≡ link) links → link.stage ≡ stage
    → WasAt links link.number stage
was-at links link stage there is =
    some-map (λ (l : Link ClientStage). l ≡ link) (λ (l : Link ClientStage). (l.number ≡ link.number) × (l.stage ≡ stage))
    (λ l same. (ap (λ (m : Link ClientStage). m.number) same, ap (λ (m : Link ClientStage). m.stage) same ∙ is)) links there

pub all-from : (links : List (Link ClientStage)) → AllByRecursion (λ (l : Link ClientStage). StageFrom links l.number l.stage) links
all-from links =
    all-map (λ (l : Link ClientStage). SomeOf (λ (m : Link ClientStage). m ≡ l) links) (λ (l : Link ClientStage). StageFrom links l.number l.stage) (λ l there. by_stage l there l.stage refl) links
    (all-some links)
  where
    by_stage : (l : Link ClientStage) → SomeOf (λ (m : Link ClientStage). m ≡ l) links → (stage : ClientStage) → l.stage ≡ stage → StageFrom links l.number stage
    by_stage l there (ToMonitor stage) is = tt
    by_stage l there (ToDaemon stage) is = inr (was-at links l (ToDaemon stage) there is)

-- where one is shut
pub without-from : (links : List (Link ClientStage)) (number : ℕ) → AllByRecursion (λ (l : Link ClientStage). StageFrom links l.number l.stage) (without_link number links)
without-from links number =
    all-without (λ (l : Link ClientStage). StageFrom links l.number l.stage) (λ (l : Link ClientStage). StageFrom links l.number l.stage) number (λ l apart h. h) links (all-from links)

-- behind a step on the link of this number, which is left so
pub left-from : (links : List (Link ClientStage)) (number : ℕ) (left : Option (Link CallStage)) (bytes : List ℕ) → ((it : Link CallStage) → left ≡ Some it → it.number ≡ number)
    → AllByRecursion (LeftFrom links number left) (links_behind links number bytes (option_map (of_kind ToDaemon) left))
left-from links number None bytes same =
    all-without (λ (l : Link ClientStage). StageFrom links l.number l.stage) (LeftFrom links number None) number (λ l apart h. inl (apart, h)) links (all-from links)
left-from links number (Some it) bytes same =
    all-put (λ (l : Link ClientStage). StageFrom links l.number l.stage) (LeftFrom links number (Some it)) (record (of_kind ToDaemon it) { sent = it.sent ++ bytes }) (inr (it, refl, refl))
    (λ l apart h. inl ((λ e. apart (e ∙ sym (same it refl))), h)) links (all-from links)
