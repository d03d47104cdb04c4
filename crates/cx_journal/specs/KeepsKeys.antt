-- The law of kept keys: a daemon says that it lacks the generation of an issued ticket, or can't open the ticket under it,
-- only where its view lacked it.
use Rattle.std.specs.Prelude.{ℕ, ◌≡◌, ◌==◌, ◌&&◌, Bool, true, false, List, [], ◌∷◌, ◌++◌, Contains}
use Rattle.std.specs.List.{list_any}
use Rattle.cx_base.specs.Names.{Name, same_name}
use Rattle.cx_rotate.specs.declared.generations.Generation.{Generation}
use Rattle.cx_journal.specs.Behind.{EachBehind}
use Rattle.cx_journal.specs.declared.entries.Entry.{Entry}
use Rattle.cx_journal.specs.declared.entries.Entry.TheVariants as entry
use Rattle.cx_journal.specs.declared.entries.Issued.{Issued}
use Rattle.cx_journal.specs.declared.entries.Looked.{Looked}
use Rattle.cx_base.specs.declared.nodes.NodeName.{NodeName}
use Rattle.cx_base.specs.declared.nodes.NodeName.TheVariants as node
use Rattle.cx_journal.specs.declared.outcomes.Reason.{Reason}
use Rattle.cx_journal.specs.declared.outcomes.Reason.TheVariants as reason
use Rattle.cx_journal.specs.declared.outcomes.TicketFault.{TicketFault}
use Rattle.cx_journal.specs.declared.outcomes.TicketFault.TheVariants as fault

-- one of the entries issued a ticket with this blob, for this daemon's type as its service, under this generation
pub record WasIssued (entries : List Entry) (daemon : Name) (generation : ℕ) (blob : List ℕ) : Type 0 where
  pub ticket : Issued
  pub issued : Contains entries (entry.Issued ticket)
  pub has_blob : ticket.blob ≡ blob
  pub service : ticket.service ≡ daemon.kind
  pub under : ticket.generation ≡ generation

-- whether the entry is a look of this daemon for this link
abbrev pub is_look : Name → ℕ → Entry → Bool
is_look daemon link (entry.Looked look) = same_name look.daemon daemon && look.link == link
is_look daemon link _ = false

-- whether one of the generations has this id
abbrev pub has_generation : List Generation → ℕ → Bool
has_generation generations id = list_any (λ g. g.id == id) generations

-- some entry is a look of this daemon for this link, and the latest of these doesn't list the generation
pub record LacksKey (entries : List Entry) (daemon : Name) (link : ℕ) (generation : ℕ) : Type 0 where
  pub before : List Entry
  pub look : Looked
  pub after : List Entry
  pub place : entries ≡ before ++ entry.Looked look ∷ after
  pub looked : is_look daemon link (entry.Looked look) ≡ true
  pub latest : list_any (is_look daemon link) after ≡ false
  pub lacks : has_generation look.view.generations generation ≡ false

-- where one of the entries issued the ticket of this blob for the daemon's service under this generation, the daemon's latest
-- look for this link doesn't list the generation
abbrev pub LacksIssued : List Entry → Name → ℕ → ℕ → List ℕ → Type 0
LacksIssued earlier daemon link generation blob = WasIssued earlier daemon generation blob → LacksKey earlier daemon link generation

-- what a refusal of the ticket of this blob for this fault needs: where the view is said to lack its generation, and where
-- the ticket is said not to open under it, the view lacks it
abbrev pub NeedsLook : List Entry → Name → ℕ → TicketFault → List ℕ → Type 0
NeedsLook earlier daemon link (fault.UnknownGeneration generation) blob = LacksIssued earlier daemon link generation blob
NeedsLook earlier daemon link (fault.TicketUnopened generation) blob = LacksIssued earlier daemon link generation blob
NeedsLook earlier daemon link _ blob = Unit {0}

-- what a refusal by this node for this reason needs: only daemons refuse tickets
abbrev pub NeedsFor : List Entry → NodeName → ℕ → Reason → Type 0
NeedsFor earlier (node.Entity daemon) link (reason.Ticket why blob) = NeedsLook earlier daemon link why blob
NeedsFor earlier _ link _ = Unit {0}

-- where the entry refuses a ticket for its generation, and one of the earlier entries issued that ticket, the daemon's latest
-- look for that link doesn't list the generation
abbrev pub KeepsKeysBy : List Entry → Entry → Type 0
KeepsKeysBy earlier (entry.Refused r) = NeedsFor earlier r.node r.link r.reason
KeepsKeysBy earlier _ = Unit {0}

-- each refusal of the journal for a generation keeps this law
abbrev pub KeepsKeys : List Entry → Type 0
KeepsKeys entries = EachBehind KeepsKeysBy [] entries
