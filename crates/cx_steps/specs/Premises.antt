-- The two premises of a run, over its whole log: nothing opens that wasn't sealed, and no draw repeats. They stand in the place
-- of what no proof can say: that the ciphers resist and that draws are random. What opens under the keys of a leaked client is
-- excepted, where it opens at the monitor or at a daemon.
use Rattle.std.specs.Prelude.{ℕ, ◌≡◌, Bool, true, List, [], Some, IsTrue, Contains, ◌⊎◌}
use Rattle.cx_base.specs.Names.{Name}
use Rattle.cx_base.specs.Names.{is_daemon_type}
use Rattle.cx_base.specs.declared.nodes.NodeName.{NodeName}
use Rattle.cx_base.specs.declared.nodes.NodeName.TheVariants as node
use Rattle.cx_steps.specs.Draws.{key_of, for_whom, Repeats}
use Rattle.cx_steps.specs.Onto.{SomeOf, EachOnto}
use Rattle.cx_steps.specs.declared.seals.DrawMark.{DrawMark}
use Rattle.cx_steps.specs.declared.seals.Logged.{Logged}
use Rattle.cx_steps.specs.declared.seals.SealEntry.{SealEntry}
use Rattle.cx_steps.specs.declared.seals.SealEntry.TheVariants as entry
use Rattle.cx_steps.specs.declared.seals.SealMark.{SealMark}

-- ---- leaked keys

-- the entry draws this key for one of the leaked clients: its secret, a session key or the key of a connection
abbrev pub DrawsLeaked : List Name → List ℕ → SealEntry → Type 0
DrawsLeaked leaked key (entry.Drawn mark) = (key_of mark ≡ Some key) × (whose : Name) × (for_whom mark ≡ Some whose) × Contains leaked whose
DrawsLeaked leaked key _ = ⊥

-- the log has such an entry, at any place
abbrev pub IsLeakedKey : List Name → List Logged → List ℕ → Type 0
IsLeakedKey leaked log key = SomeOf (λ at. DrawsLeaked leaked key at.entry) log

-- whether the node is the monitor or a daemon
abbrev pub is_server : NodeName → Bool
is_server node.Monitor = true
is_server (node.Entity name) = is_daemon_type name.kind

-- what opens or is found equal at this node under this key owes nothing
pub record IsExcepted (leaked : List Name) (log : List Logged) (at : NodeName) (key : List ℕ) : Type 0 where
  pub server : IsTrue (is_server at)
  pub leak : IsLeakedKey leaked log key

-- ---- sealing

-- the two have one key and one content
pub record IsSame (first second : SealMark) : Type 0 where
  pub key : first.key ≡ second.key
  pub content : first.content ≡ second.content

abbrev pub Seals : SealMark → SealEntry → Type 0
Seals mark (entry.Sealed sealed) = IsSame sealed mark
Seals mark _ = ⊥

abbrev pub Signs : SealMark → SealEntry → Type 0
Signs mark (entry.Signed signed) = IsSame signed mark
Signs mark _ = ⊥

-- one of these entries sealed this, or signed it
abbrev pub HasSealed : List Logged → SealMark → Type 0
HasSealed earlier mark = SomeOf (λ at. Seals mark at.entry) earlier

abbrev pub HasSigned : List Logged → SealMark → Type 0
HasSigned earlier mark = SomeOf (λ at. Signs mark at.entry) earlier

-- what an entry at this node owes to the earlier ones: what opens was sealed, what is found equal was signed
abbrev pub Owes : List Name → List Logged → NodeName → List Logged → SealEntry → Type 0
Owes leaked log at earlier (entry.Opened mark) = IsExcepted leaked log at mark.key ⊎ HasSealed earlier mark
Owes leaked log at earlier (entry.Checked mark) = IsExcepted leaked log at mark.key ⊎ HasSigned earlier mark
Owes leaked log at earlier _ = Unit {0}

-- Each entry of the log has what it owes, where these clients leaked. No key has to be known, and no cipher broken, for a run to lack this: the envelope
-- in which cephx seals its records is AES-CBC with a fixed initial vector and no code over it, so where a byte of a middle block is changed it opens to
-- a content that nobody sealed. Envelopes stand in plain frames until authentication has ended; whoever changes bytes on the link till then, or has
-- a ticket of its own to change, can bring that about. Such a run isn't sound, and what is claimed of sound runs isn't claimed of it
-- (docs/security.md says what the nodes do then).
abbrev pub IsSound : List Name → List Logged → Type 0
IsSound leaked log = EachOnto (λ earlier at. Owes leaked log at.node earlier at.entry) [] log

-- ---- draws

abbrev pub RepeatsIn : DrawMark → SealEntry → Type 0
RepeatsIn mark (entry.Drawn other) = Repeats other mark
RepeatsIn mark _ = ⊥

-- what the entry draws, if it draws, none of the earlier ones drew
abbrev pub IsNew : List Logged → SealEntry → Type 0
IsNew earlier (entry.Drawn mark) = SomeOf (λ at. RepeatsIn mark at.entry) earlier → ⊥
IsNew earlier _ = Unit {0}

-- no draw of the log repeats an earlier one
abbrev pub IsFresh : List Logged → Type 0
IsFresh log = EachOnto (λ earlier at. IsNew earlier at.entry) [] log
