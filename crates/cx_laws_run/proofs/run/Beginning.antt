-- With what a schedule has a run begin.
use Rattle.std.proofs.Common.{◌≡◌, ℕ, ◌+◌, Bool, true, false, List, [], ◌∷◌, ◌++◌, map, inl, inr, refl, sym, subst}
use Rattle.std.specs.Prelude.{◌&&◌, IsTrue, if◌then◌else◌}
use Rattle.std.specs.List.{AllByRecursion}
use Rattle.cx_base.specs.Names.{Name, same_kind, same_name}
use Rattle.cx_base.specs.Texts.{is_caps}
use Rattle.cx_base.specs.declared.grants.Grant.{Grant}
use Rattle.cx_base.specs.declared.kinds.EntityType.{EntityType}
use Rattle.cx_base.specs.declared.kinds.EntityType.TheVariants.{Mon, Mds, Osd, Client, Mgr, Auth}
use Rattle.cx_base.specs.declared.nodes.NodeName.TheVariants as place
use Rattle.cx_desk.specs.Handlers.{Handlers}
use Rattle.cx_words.specs.lines.Named.{is_among, is_name}
use Rattle.cx_words.specs.lines.Values.{SpellsItems}
use Rattle.cx_words.specs.declared.known.Known.{Known}
use Rattle.cx_schedule.specs.cx_lines.specs.Knowing.{known_of}
use Rattle.cx_schedule.specs.cx_lines.specs.Lines.{Spells}
use Rattle.cx_schedule.specs.cx_lines.specs.Settings.{grant_items, setting_items}
use Rattle.cx_schedule.specs.cx_lines.specs.declared.lines.Line.{Line}
use Rattle.cx_schedule.specs.cx_lines.specs.declared.lines.Line.TheVariants as line
use Rattle.cx_schedule.specs.cx_lines.specs.declared.lines.Numbered.{Numbered}
use Rattle.cx_schedule.specs.cx_lines.specs.declared.settings.Setting.{Setting}
use Rattle.cx_schedule.specs.cx_lines.specs.declared.settings.Setting.TheVariants as setting
use Rattle.cx_laws_links.specs.cx_laws_tickets.specs.cx_run.specs.Opening.{Declared, Leak, Setup, changed, plain_setup, set_up, set_up_by, set_up_line}
use Rattle.cx_laws_links.specs.cx_laws_tickets.specs.cx_run.specs.Runs.{setup_of}
use Rattle.cx_schedule.specs.Files.{Adds, Lines, Said, numbered}
use Rattle.cx_schedule.specs.Grammars.{line_words}
use Rattle.cx_words.specs.Cutting.{lines_of}
use Rattle.cx_laws_links.specs.cx_laws_tickets.specs.cx_laws_keys.proofs.keys.Lists.{all-append}
use Rattle.cx_laws_run.specs.run.Laws.{MayBegin}

abbrev HasName : Declared → Type 0
HasName e = IsTrue (is_name e.name)

abbrev HasCaps : Declared → Type 0
HasCaps e = AllByRecursion (λ (g : Grant). IsTrue (is_caps g.caps)) e.grants

client-is : (kind : EntityType) (declared : Bool) → (same_kind kind Client && declared) ≡ true → kind ≡ Client
client-is Client declared e = refl
client-is Mon declared e = absurd cc
client-is Mds declared e = absurd cc
client-is Osd declared e = absurd cc
client-is Mgr declared e = absurd cc
client-is Auth declared e = absurd cc

-- what is so of each entity is so where one of them is changed
all-changed : (P : Declared → Type 0) (name : Name) (change : Declared → Declared) → ((e : Declared) → P e → P (change e)) → (es : List Declared) → AllByRecursion P es
    → AllByRecursion P (map (λ (e : Declared). if same_name e.name name then change e else e) es)
all-changed P name change keeps [] h = tt
all-changed P name change keeps (e ∷ es) h = (by_test (same_name e.name name), all-changed P name change keeps es h.1)
  where
    by_test : (t : Bool) → P (if t then change e else e)
    by_test true = keeps e h.0
    by_test false = h.0

may-changed : (name : Name) (change : Declared → Declared) (setup : Setup) → ((e : Declared) → HasName e → HasName (change e)) → ((e : Declared) → HasCaps e → HasCaps (change e))
    → MayBegin setup → MayBegin (changed name change setup)
may-changed name change setup names caps m = record {
  life = m.life;
  auth_life = m.auth_life;
  names = all-changed HasName name change names setup.entities m.names;
  caps = all-changed HasCaps name change caps setup.entities m.caps;
  clients = m.clients;
}

-- the caps that words spell can be written
caps-spelled : (known : Known) (words : List (List ℕ)) (grants : List Grant) (ws : List (List ℕ)) → SpellsItems known words (grant_items grants) ws
    → AllByRecursion (λ (g : Grant). IsTrue (is_caps g.caps)) grants
caps-spelled known words [] ws spells = tt
caps-spelled known words (grant ∷ grants) [] spells = absurd spells
caps-spelled known words (grant ∷ grants) (first ∷ []) spells = absurd spells.1
caps-spelled known words (grant ∷ grants) (first ∷ second ∷ ws) spells =
    (spells.1.0.0, caps-spelled known ((words ++ first ∷ []) ++ second ∷ []) grants ws spells.1.1)

-- ---- a line that words spell

setting-begins : (known : Known) (setup : Setup) (number : ℕ) (said : Setting) (ws : List (List ℕ)) → SpellsItems known [] (setting_items said) ws → MayBegin setup
    → MayBegin (set_up_by setup number said)
setting-begins known setup number (setting.Lifetime seconds) [] spells m = absurd spells
setting-begins known setup number (setting.Lifetime seconds) (w ∷ ws) spells m =
    record { life = spells.0.0; auth_life = m.auth_life; names = m.names; caps = m.caps; clients = m.clients }
setting-begins known setup number (setting.AuthLifetime seconds) [] spells m = absurd spells
setting-begins known setup number (setting.AuthLifetime seconds) (w ∷ ws) spells m =
    record { life = m.life; auth_life = spells.0.0; names = m.names; caps = m.caps; clients = m.clients }
setting-begins known setup number (setting.Entity name grants) [] spells m = absurd spells
setting-begins known setup number (setting.Entity name grants) (w ∷ ws) spells m = record {
  life = m.life;
  auth_life = m.auth_life;
  names = all-append HasName setup.entities _ m.names (spells.0.0, tt);
  caps = all-append HasCaps setup.entities _ m.caps (caps-spelled known (w ∷ []) grants ws spells.1, tt);
  clients = m.clients;
}
setting-begins known setup number (setting.Seed place.Monitor seed) ws spells m =
    record { life = m.life; auth_life = m.auth_life; names = m.names; caps = m.caps; clients = m.clients }
setting-begins known setup number (setting.Seed (place.Entity name) seed) ws spells m = may-changed name _ setup (λ e h. h) (λ e h. h) m
setting-begins known setup number (setting.Modes name modes) ws spells m = may-changed name _ setup (λ e h. h) (λ e h. h) m
setting-begins known setup number (setting.Leak name) [] spells m = absurd spells
setting-begins known setup number (setting.Leak name) (w ∷ ws) spells m = record {
  life = m.life;
  auth_life = m.auth_life;
  names = m.names;
  caps = m.caps;
  clients = all-append (λ (l : Leak). l.client.kind ≡ Client) setup.leaks _ m.clients (client-is name.kind (is_among known.declared name) spells.0.1, tt);
}

line-begins : (known : Known) (setup : Setup) (number : ℕ) (x : Line) (words : List (List ℕ)) → Spells known x words → MayBegin setup → MayBegin (set_up_line setup number x)
line-begins known setup number x [] spells m = absurd spells
line-begins known setup number (line.Setting said) (w ∷ ws) spells m = setting-begins known setup number said ws spells.1 m
line-begins known setup number (line.Submit command) (w ∷ ws) spells m = m
line-begins known setup number (line.Do command) (w ∷ ws) spells m = m
line-begins known setup number (line.Link step) (w ∷ ws) spells m = m
line-begins known setup number (line.Node step) (w ∷ ws) spells m = m

-- ---- all lines

set_up-push : (setup : Setup) (lines : List Numbered) (l : Numbered) → set_up setup (lines ++ l ∷ []) ≡ set_up_line (set_up setup lines) l.number l.line
set_up-push setup [] l = refl
set_up-push setup (x ∷ lines) l = set_up-push (set_up_line setup x.number x.line) lines l

added-begins : (handlers : Handlers) (number : ℕ) (earlier now : List Numbered) (l : List ℕ) → Adds number earlier l now → MayBegin (setup_of handlers earlier)
    → MayBegin (setup_of handlers now)
added-begins handlers number earlier now l (inl skipped) m = rw skipped.1 m
added-begins handlers number earlier now l (inr (kept, x, spelled, is)) m =
    rw is (subst MayBegin (sym (set_up-push (plain_setup handlers) earlier (numbered number x)))
    (line-begins (known_of earlier) (setup_of handlers earlier) number x (line_words l) spelled m))

said-begins : (handlers : Handlers) (number : ℕ) (earlier script : List Numbered) (lines : List (List ℕ)) → Said number earlier lines script → MayBegin (setup_of handlers earlier)
    → MayBegin (setup_of handlers script)
said-begins handlers number earlier script [] said m = rw said m
said-begins handlers number earlier script (l ∷ lines) (now, adds, said) m =
    said-begins handlers (number + 1) now script lines said (added-begins handlers number earlier now l adds m)

-- so it may begin
pub schedule-begins : (handlers : Handlers) (bytes : List ℕ) (script : List Numbered) → Lines bytes script → MayBegin (setup_of handlers script)
schedule-begins handlers bytes script said =
    said-begins handlers 1 [] script (lines_of bytes) said (record { life = refl; auth_life = refl; names = tt; caps = tt; clients = tt })
