-- The lines of a schedule may stand one behind the other.
use Rattle.std.proofs.Common.{◌≡◌, ℕ, ◌+◌, Bool, true, false, List, [], ◌∷◌, ◌++◌, refl, sym, ap, ◌∙◌, inl, inr, IsTrue}
use Rattle.std.specs.Prelude.{fold, map}
use Rattle.std.specs.List.{list_all, list_any}
use Rattle.std.specs.Str.{bytes_eq}
use Rattle.std.proofs.lemmas.Bool.{or_parts}
use Rattle.std.proofs.lemmas.List.{map-append}
use Rattle.std.proofs.lemmas.List.Folds.{list_any-append}
use Rattle.std.proofs.lemmas.Slice.Eq.{bytes_eq-Decides}
use Rattle.cx_base.specs.declared.kinds.EntityType.{EntityType}
use Rattle.cx_base.specs.Names.{Name, same_kind, same_name, type_word}
use Rattle.cx_base.proofs.Names.{same_kind_is}
use Rattle.cx_desk.specs.Handlers.{Handlers}
use Rattle.cx_keyring.specs.Entries.{are_grants, differ, has_service, is_grant, is_named}
use Rattle.cx_words.specs.Cutting.{lines_of}
use Rattle.cx_base.specs.declared.grants.Grant.{Grant}
use Rattle.cx_lines.specs.declared.lines.Line.{Line}
use Rattle.cx_lines.specs.declared.lines.Line.TheVariants as line
use Rattle.cx_lines.specs.declared.lines.Numbered.{Numbered}
use Rattle.cx_lines.specs.declared.settings.Setting.{Setting}
use Rattle.cx_lines.specs.declared.settings.Setting.TheVariants as setting
use Rattle.cx_lines.specs.Knowing.{known_of, knowing, knowing_numbered, setting_known}
use Rattle.cx_lines.specs.Lines.{Spells}
use Rattle.cx_lines.specs.Settings.{grant_items, setting_items}
use Rattle.cx_words.specs.declared.known.Known.{Known}
use Rattle.cx_base.specs.declared.nodes.NodeName.TheVariants as place
use Rattle.cx_words.specs.lines.Known.{nothing}
use Rattle.cx_words.specs.lines.Named.{is_among}
use Rattle.cx_words.specs.lines.Values.{SpellsItems}
use Rattle.cx_run.specs.Opening.{Declared, Setup, plain_setup, principal_of, set_up, set_up_by, set_up_line}
use Rattle.cx_schedule.specs.Files.{Adds, Lines, Said, numbered}
use Rattle.cx_schedule.specs.Grammars.{line_words}
use Rattle.cx_world_start.specs.head.Beginning.{MayFollow, MaySay}
use Rattle.cx_world_start.proofs.head.Changing.{changed_if}
use Rattle.cx_world_start.proofs.head.Naming.{same_name_sym}

-- each line may stand behind what those before it say
abbrev pub AllFollow : Setup → List Numbered → Type 0
AllFollow setup [] = Unit {0}
AllFollow setup (l ∷ lines) = MayFollow setup l.line × AllFollow (set_up_line setup l.number l.line) lines

follows_push : (setup : Setup) (lines : List Numbered) (l : Numbered) → AllFollow setup lines → MayFollow (set_up setup lines) l.line → AllFollow setup (lines ++ l ∷ [])
follows_push setup [] l all may = (may, tt)
follows_push setup (x ∷ lines) l all may = (all.0, follows_push (set_up_line setup x.number x.line) lines l all.1 may)

-- ---- what is known are the names of the entities

abbrev names_of : List Declared → List Name
names_of es = map (λ (e : Declared). e.name) es

one_kept : (name : Name) (change : Declared → Declared) (e : Declared) (b : Bool) → same_name e.name name ≡ b → (change e).name ≡ e.name → (changed_if name change e).name ≡ e.name
one_kept name change e true is keeps = rw is keeps
one_kept name change e false is keeps = rw is refl

names_kept : (name : Name) (change : Declared → Declared) → ((e : Declared) → (change e).name ≡ e.name) → (es : List Declared) → names_of (map (changed_if name change) es) ≡ names_of es
names_kept name change keeps [] = refl
names_kept name change keeps (e ∷ es) =
    ap (λ (n : Name). n ∷ names_of (map (changed_if name change) es)) (one_kept name change e (same_name e.name name) refl (keeps e))
    ∙ ap (λ (ns : List Name). e.name ∷ ns) (names_kept name change keeps es)

setting_names : (known : Known) (setup : Setup) (number : ℕ) (said : Setting) → known.declared ≡ names_of setup.entities → (setting_known known said).declared ≡ names_of (set_up_by setup number said).entities
setting_names known setup number (setting.Lifetime seconds) is = is
setting_names known setup number (setting.AuthLifetime seconds) is = is
setting_names known setup number (setting.Entity name grants) is = rw is (sym (map-append (λ (e : Declared). e.name) setup.entities _))
setting_names known setup number (setting.Seed place.Monitor seed) is = is
setting_names known setup number (setting.Seed (place.Entity name) seed) is = is ∙ sym (names_kept name _ (λ e. refl) setup.entities)
setting_names known setup number (setting.Modes name modes) is = is ∙ sym (names_kept name _ (λ e. refl) setup.entities)
setting_names known setup number (setting.Leak name) is = is

line_names : (known : Known) (setup : Setup) (l : Numbered) → known.declared ≡ names_of setup.entities → (knowing_numbered known l).declared ≡ names_of (set_up_line setup l.number l.line).entities
line_names known setup l is = by l.line
  where
    by : (x : Line) → (knowing known x).declared ≡ names_of (set_up_line setup l.number x).entities
    by (line.Setting said) = setting_names known setup l.number said is
    by (line.Submit command) = is
    by (line.Do command) = is
    by (line.Link step) = is
    by (line.Node step) = is

all_names : (known : Known) (setup : Setup) (lines : List Numbered) → known.declared ≡ names_of setup.entities → (fold knowing_numbered known lines).declared ≡ names_of (set_up setup lines).entities
all_names known setup [] is = is
all_names known setup (l ∷ lines) is = all_names (knowing_numbered known l) (set_up_line setup l.number l.line) lines (line_names known setup l is)

-- a name that isn't known isn't one of an entity
unnamed : (name : Name) (es : List Declared) → is_among (names_of es) name ≡ false → list_any (is_named name) (map principal_of es) ≡ false
unnamed name [] none = refl
unnamed name (e ∷ es) none =
    let parts = or_parts (same_name e.name name) (is_among (names_of es) name) none in
    let other : same_name name e.name ≡ false = same_name_sym name e.name ∙ parts.0 in
    rw (other, unnamed name es parts.1) refl

-- ---- the caps of an entity are such as one may have

-- each service that has caps stands among the words
abbrev Stand : List (List ℕ) → List Grant → Type 0
Stand words earlier = (service : EntityType) → list_any (bytes_eq (type_word service)) words ≡ false → has_service service earlier ≡ false

apart_by : (a b : EntityType) (x : Bool) → same_kind a b ≡ x → bytes_eq (type_word a) (type_word b) ≡ false → x ≡ false
apart_by a b true same apart =
    let is = same_kind_is a b same in
    let itself : bytes_eq (type_word a) (type_word b) ≡ true = (bytes_eq-Decides (type_word a) (type_word b)).1 (ap type_word is) in
    absurd (let e : true ≡ false = sym itself ∙ apart in cc)
apart_by a b false same apart = refl

stand_more : (words : List (List ℕ)) (earlier : List Grant) (grant : Grant) (first second : List ℕ) → Stand words earlier → first ≡ type_word grant.service
    → Stand ((words ++ first ∷ []) ++ second ∷ []) (earlier ++ grant ∷ [])
stand_more words earlier grant first second stand is = λ service none.
    let t = type_word service in
    let outer = or_parts (list_any (bytes_eq t) (words ++ first ∷ [])) (list_any (bytes_eq t) (second ∷ [])) (sym (list_any-append (bytes_eq t) (words ++ first ∷ []) (second ∷ [])) ∙ none) in
    let inner = or_parts (list_any (bytes_eq t) words) (list_any (bytes_eq t) (first ∷ [])) (sym (list_any-append (bytes_eq t) words (first ∷ [])) ∙ outer.0) in
    let mine = or_parts (bytes_eq t first) false inner.1 in
    let other : same_kind service grant.service ≡ false = apart_by service grant.service (same_kind service grant.service) refl (ap (bytes_eq t) (sym is) ∙ mine.0) in
    list_any-append (λ (caps : Grant). same_kind service caps.service) earlier (grant ∷ [])
    ∙ rw (stand service inner.0, other) refl

record AreFit (earlier : List Grant) (caps : List Grant) : Type 0 where
  good : list_all is_grant caps ≡ true
  apart : differ earlier caps ≡ true

fit_from : (known : Known) (words : List (List ℕ)) (earlier : List Grant) (grants : List Grant) (ws : List (List ℕ)) → Stand words earlier → SpellsItems known words (grant_items grants) ws → AreFit earlier grants
fit_from known words earlier [] ws stand spells = record { good = refl; apart = refl }
fit_from known words earlier (grant ∷ grants) [] stand spells = absurd spells
fit_from known words earlier (grant ∷ grants) (first ∷ []) stand spells = absurd spells.1
fit_from known words earlier (grant ∷ grants) (first ∷ second ∷ ws) stand spells =
    let is = spells.0.2 in
    let rest = fit_from known ((words ++ first ∷ []) ++ second ∷ []) (earlier ++ grant ∷ []) grants ws
    (stand_more words earlier grant first second stand is) spells.1.1 in
    let fresh : has_service grant.service earlier ≡ false = stand grant.service (ap (λ (w : List ℕ). list_any (bytes_eq w) words) (sym is) ∙ spells.0.1) in
    record {
      good = rw (spells.0.0, spells.1.0.0, rest.good) refl;
      apart = rw (fresh, rest.apart) refl;
    }

fit_caps : (known : Known) (name : List ℕ) (grants : List Grant) (ws : List (List ℕ)) → SpellsItems known (name ∷ []) (grant_items grants) ws → IsTrue (are_grants grants)
fit_caps known name grants ws spells =
    let fit = fit_from known (name ∷ []) [] grants ws (λ service none. refl) spells in
    rw (fit.good, fit.apart) refl

-- ---- a line that words spell

setting_follows : (known : Known) (setup : Setup) (said : Setting) (ws : List (List ℕ)) → known.declared ≡ names_of setup.entities → SpellsItems known [] (setting_items said) ws → MaySay setup said
setting_follows known setup (setting.Lifetime seconds) [] is spells = absurd spells
setting_follows known setup (setting.Lifetime seconds) (w ∷ ws) is spells = spells.0.0
setting_follows known setup (setting.AuthLifetime seconds) [] is spells = absurd spells
setting_follows known setup (setting.AuthLifetime seconds) (w ∷ ws) is spells = spells.0.0
setting_follows known setup (setting.Entity name grants) [] is spells = absurd spells
setting_follows known setup (setting.Entity name grants) (w ∷ ws) is spells =
    (unnamed name setup.entities (ap (λ (ns : List Name). is_among ns name) (sym is) ∙ spells.0.2), spells.0.1, fit_caps known w grants ws spells.1)
setting_follows known setup (setting.Seed node seed) ws is spells = tt
setting_follows known setup (setting.Modes name modes) ws is spells = tt
setting_follows known setup (setting.Leak name) ws is spells = tt

line_follows : (known : Known) (setup : Setup) (x : Line) (words : List (List ℕ)) → known.declared ≡ names_of setup.entities → Spells known x words → MayFollow setup x
line_follows known setup x [] is spells = absurd spells
line_follows known setup (line.Setting said) (w ∷ ws) is spells = setting_follows known setup said ws is spells.1
line_follows known setup (line.Submit command) (w ∷ ws) is spells = tt
line_follows known setup (line.Do command) (w ∷ ws) is spells = tt
line_follows known setup (line.Link step) (w ∷ ws) is spells = tt
line_follows known setup (line.Node step) (w ∷ ws) is spells = tt

-- ---- all lines

added_follows : (handlers : Handlers) (number : ℕ) (earlier now : List Numbered) (l : List ℕ) → Adds number earlier l now → AllFollow (plain_setup handlers) earlier → AllFollow (plain_setup handlers) now
added_follows handlers number earlier now l (inl skipped) all = rw skipped.1 all
added_follows handlers number earlier now l (inr (kept, x, spelled, is)) all =
    rw is (follows_push (plain_setup handlers) earlier (numbered number x) all
    (line_follows (known_of earlier) (set_up (plain_setup handlers) earlier) x (line_words l) (all_names nothing (plain_setup handlers) earlier refl) spelled))

said_follows : (handlers : Handlers) (number : ℕ) (earlier script : List Numbered) (lines : List (List ℕ)) → Said number earlier lines script → AllFollow (plain_setup handlers) earlier → AllFollow (plain_setup handlers) script
said_follows handlers number earlier script [] said all = rw said all
said_follows handlers number earlier script (l ∷ lines) (now, adds, said) all = said_follows handlers (number + 1) now script lines said (added_follows handlers number earlier now l adds all)

-- each line of a schedule may stand behind those before it
pub schedule_follows : (handlers : Handlers) (bytes : List ℕ) (script : List Numbered) → Lines bytes script → AllFollow (plain_setup handlers) script
schedule_follows handlers bytes script said = said_follows handlers 1 [] script (lines_of bytes) said tt
