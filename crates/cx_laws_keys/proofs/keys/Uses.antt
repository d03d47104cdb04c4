-- What each key of a run is for, and what else is known of a run that stands in no state.
use Rattle.std.proofs.Common.{◌≡◌, ℕ, Bool, List, [], ◌∷◌, ◌++◌, Option, Some, None, inr, refl, sym, ap, ◌∙◌, append_assoc}
use Rattle.std.specs.List.{AllByRecursion}
use Rattle.cx_base.specs.Names.{Name}
use Rattle.cx_base.specs.declared.kinds.EntityType.{EntityType}
use Rattle.cx_base.specs.declared.kinds.EntityType.TheVariants.{Auth}
use Rattle.cx_base.specs.declared.nodes.NodeName.{NodeName}
use Rattle.cx_sealed.specs.cx_rotate.specs.declared.generations.Generation.{Generation}
use Rattle.cx_steps.specs.Draws.{for_whom, key_of}
use Rattle.cx_steps.specs.Onto.{SomeOf}
use Rattle.cx_steps.specs.declared.seals.DrawMark.TheVariants as draw
use Rattle.cx_steps.specs.declared.seals.Logged.{Logged}
use Rattle.cx_steps.specs.declared.seals.SealEntry.{SealEntry}
use Rattle.cx_steps.specs.declared.seals.SealEntry.TheVariants as entry

-- what is fixed for a whole run: which clients leaked; of each service the generations that were ever saved, in whatever state; whether incoming links
-- come to daemons; and whether each of its tickets is known to open where it should
pub record WholeRun : Type 0 where
  pub leaked : List Name
  pub saved : List (EntityType × Generation)
  pub incoming_links : Bool
  pub good : Bool

-- the generation was saved as one of this service, with its id and its key
abbrev pub IsSavedIn : List (EntityType × Generation) → EntityType → Generation → Type 0
IsSavedIn saved service g = SomeOf (λ (p : EntityType × Generation). (p.0 ≡ service) × (p.1.id ≡ g.id) × (p.1.key ≡ g.key)) saved

-- what ties the key of a link to the one that connects: at the monitor the challenge of its proof; at a daemon the service, and the nonce of its
-- authorizers plus one, as the daemon's reply has it
pub data Tie : Type 0 where
  AtMonitor : ℕ → Tie
  AtDaemon : EntityType → ℕ → Tie

-- an entity's own secret; a generation of a service, by its id; the session key of an entity's ticket for AUTH, and of one for another service;
-- the key of a link of an acceptor to an entity, with what ties it
pub data Use : Type 0 where
  Secret : Name → Use
  Generated : EntityType → ℕ → Use
  Login : Name → Use
  Ticketed : Name → EntityType → Use
  Connected : NodeName → ℕ → Name → Tie → Use

-- the session key of a ticket
abbrev pub session_use : Name → EntityType → Use
session_use name Auth = Login name
session_use name service = Ticketed name service

-- whose key it is, if it is one of an entity
abbrev pub whose : Use → Option Name
whose (Secret name) = Some name
whose (Generated service id) = None
whose (Login name) = Some name
whose (Ticketed name service) = Some name
whose (Connected acceptor number name tie) = Some name

-- ---- what is known

-- what is known of a run and stands in no state: what each key is for, the newest first; and, of the whole run, the generations that were ever saved
pub record Uses : Type 0 where
  pub keys : List (List ℕ × Use)
  pub saved : List (EntityType × Generation)

-- nothing is known yet, but what was ever saved
abbrev pub no_uses : List (EntityType × Generation) → Uses
no_uses saved = record { keys = []; saved = saved }

-- a key with what it is for
abbrev pub with_key : Uses → List ℕ → Use → Uses
with_key us key u = record us { keys = (key, u) ∷ us.keys }

-- this key is for this use
abbrev pub Means : Uses → List ℕ → Use → Type 0
Means us key u = SomeOf (λ (p : List ℕ × Use). (p.0 ≡ key) × (p.1 ≡ u)) us.keys

-- the key of each of these generations of a service is for it
abbrev pub AreGenerated : Uses → EntityType → List Generation → Type 0
AreGenerated us service gs = AllByRecursion (λ (g : Generation). Means us g.key (Generated service g.id)) gs

-- the second list is the first with more in front of it
pub record Extends {X : Type 0} (xs ys : List X) : Type 0 where
  pub more : List X
  pub is : ys ≡ more ++ xs

pub extends-itself : {X : Type 0} (xs : List X) → Extends xs xs
extends-itself xs = record { more = []; is = refl }

pub extends-then : {X : Type 0} (xs ys zs : List X) → Extends xs ys → Extends ys zs → Extends xs zs
extends-then {X} xs ys zs f g =
    record { more = g.more ++ f.more; is = g.is ∙ ap (λ (l : List X). g.more ++ l) f.is ∙ sym (append_assoc g.more f.more xs) }

-- all that is known stays so
pub record Grows (us vs : Uses) : Type 0 where
  pub means : (key : List ℕ) (u : Use) → Means us key u → Means vs key u

pub stays : (us : Uses) → Grows us us
stays us = record { means = λ key u h. h }

pub grows-then : (us vs ws : Uses) → Grows us vs → Grows vs ws → Grows us ws
grows-then us vs ws f g = record { means = λ key u h. g.means key u (f.means key u h) }

pub grows-one : (us : Uses) (key : List ℕ) (u : Use) → Grows us (with_key us key u)
grows-one us key u = record { means = λ k v h. inr h }

-- whatever is said of what was saved
pub grows-saved : (us : Uses) (saved : List (EntityType × Generation)) → Grows us (record us { saved = saved })
grows-saved us saved = record { means = λ key u h. h }

-- what is known behind them, as that behind those of which something else was saved
pub grows-from : (us vs : Uses) (saved : List (EntityType × Generation)) → Grows (record us { saved = saved }) vs → Grows us vs
grows-from us vs saved f = record { means = f.means }

-- the key is the one of a link to this entity
pub record IsConnected (us : Uses) (key : List ℕ) (name : Name) : Type 0 where
  pub acceptor : NodeName
  pub number : ℕ
  pub tie : Tie
  pub means : Means us key (Connected acceptor number name tie)

pub connected-grows : (us vs : Uses) (key : List ℕ) (name : Name) → Grows us vs → IsConnected us key name → IsConnected vs key name
connected-grows us vs key name f h =
    record { acceptor = h.acceptor; number = h.number; tie = h.tie; means = f.means key (Connected h.acceptor h.number name h.tie) h.means }

-- the entry draws this key, for this entity or for none
abbrev pub DrawnAs : Option Name → List ℕ → SealEntry → Type 0
DrawnAs for key (entry.Drawn mark) = (key_of mark ≡ Some key) × (for_whom mark ≡ for)
DrawnAs for key _ = ⊥

abbrev pub HasDrawn : List Logged → Option Name → List ℕ → Type 0
HasDrawn log for key = SomeOf (λ (at : Logged). DrawnAs for key at.entry) log

-- the key was drawn as the secret of this entity
abbrev pub HasSecret : List Logged → Name → List ℕ → Type 0
HasSecret log name key = SomeOf (λ (at : Logged). at.entry ≡ entry.Drawn (draw.Principal key name)) log
