-- A declared entity is a client, or else a daemon.
use Rattle.std.proofs.Common.{◌≡◌, true, false, refl, IsTrue}
use Rattle.std.specs.Prelude.{◌||◌}
use Rattle.cx_base.specs.Names.{Name, is_daemon_type, same_kind}
use Rattle.cx_base.specs.declared.kinds.EntityType.{EntityType}
use Rattle.cx_base.specs.declared.kinds.EntityType.TheVariants.{Mon, Mds, Osd, Client, Mgr, Auth}
use Rattle.cx_words.specs.lines.Known.{is_declarable}

by-kind : (kind : EntityType) → (same_kind kind Client || (same_kind kind Mds || (same_kind kind Osd || same_kind kind Mgr))) ≡ true → is_daemon_type kind ≡ false → kind ≡ Client
by-kind Client declarable other = refl
by-kind Mds declarable other = absurd cc
by-kind Osd declarable other = absurd cc
by-kind Mgr declarable other = absurd cc
by-kind Mon declarable other = absurd cc
by-kind Auth declarable other = absurd cc

pub client_else : (name : Name) → IsTrue (is_declarable name) → is_daemon_type name.kind ≡ false → name.kind ≡ Client
client_else name = by-kind name.kind
