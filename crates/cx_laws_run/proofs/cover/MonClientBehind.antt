-- What a step on a link to the monitor of one that logs in comes to: all stays known, with what was said on that link alone; and so is that link, where it goes on.
use Rattle.std.proofs.Common.{◌≡◌, ◌<◌, ℕ, false, List, [], ◌∷◌, ◌++◌, Option, inl, inr, ap, ◌∙◌}
use Rattle.std.specs.Prelude.{IfSome}
use Rattle.std.specs.List.{AllByRecursion}
use Rattle.std.specs.Str.{bytes_eq}
use Rattle.cx_base.specs.Names.{Name}
use Rattle.cx_base.specs.declared.nodes.NodeName.{NodeName}
use Rattle.cx_base.specs.declared.nodes.NodeName.TheVariants as node
use Rattle.cx_journal.specs.declared.entries.Entry.{Entry}
use Rattle.cx_laws_run.specs.cx_laws_tickets.proofs.fetch.AskedKnown.{AreTold, IsMonClient, IsLoginKey, Told}
use Rattle.cx_laws_run.specs.cx_laws_tickets.proofs.fetch.AskedLifting.{login-grows}
use Rattle.cx_laws_run.specs.cx_laws_tickets.proofs.fetch.AskedMoving.{IsNotAsked, IsNotGiven, Moved, Quiets, asks-alone, asks-apart}
use Rattle.cx_laws_run.specs.cx_laws_tickets.proofs.fetch.AskedWords.{Asked, asked_frame}
use Rattle.cx_laws_run.specs.cx_laws_tickets.proofs.fetch.MonClientMoves.{MonClientMoves, words_of}
use Rattle.cx_laws_run.specs.cx_laws_tickets.proofs.fetch.Handed.{AreHanded, IsPlain, handed-stays}
use Rattle.cx_laws_run.specs.cx_laws_tickets.proofs.fetch.HandedLogin.{SealsNothing}
use Rattle.cx_laws_run.specs.cx_laws_tickets.proofs.fetch.Later.{IsEnd, connectors-apart, of_acceptor, of_connector}
use Rattle.cx_laws_run.specs.cx_laws_tickets.proofs.fetch.MonitorMoves.{IsAnyLogin, both-none, if-some}
use Rattle.cx_laws_run.specs.cx_laws_tickets.proofs.fetch.OwnDraws.{DrawsNew, keys-apart}
use Rattle.cx_laws_run.specs.cx_laws_tickets.proofs.fetch.PointEvents.{events_of, more-events}
use Rattle.cx_laws_run.specs.cx_laws_tickets.proofs.fetch.Retied.{Handed}
use Rattle.cx_laws_run.specs.cx_laws_tickets.proofs.fetch.RowOthers.{row-others}
use Rattle.cx_laws_run.specs.cx_laws_tickets.proofs.fetch.RowWords.{AreQuiet, RowSays, quiet-none}
use Rattle.cx_laws_run.specs.cx_laws_tickets.proofs.fetch.ToldStays.{told-stays}
use Rattle.cx_laws_run.specs.cx_laws_tickets.proofs.fetch.Words.{said_under}
use Rattle.cx_laws_run.specs.cx_laws_keys.proofs.keys.Known.{Inv}
use Rattle.cx_laws_run.specs.cx_laws_keys.proofs.keys.Lists.{all-map}
use Rattle.cx_laws_run.specs.cx_laws_keys.proofs.keys.Premises.{AreGranted, behind}
use Rattle.cx_laws_run.specs.cx_laws_keys.proofs.keys.Uses.{AtMonitor, Connected, Grows, Means, Use, Uses, WholeRun}
use Rattle.cx_laws_run.specs.cx_laws_keys.proofs.login.MonClientRows.{NeverExcepted}
use Rattle.cx_laws_run.specs.cx_laws_keys.proofs.series.Contents.{contents_by, parts-others}
use Rattle.cx_laws_run.specs.cx_laws_keys.proofs.series.Frames.{frame-sealed}
use Rattle.cx_laws_run.specs.cx_rules.specs.Holdings.{MonClient}
use Rattle.cx_laws_run.specs.cx_rules.specs.Links.{Link}
use Rattle.cx_laws_run.specs.cx_rules.specs.Rows.{Row, piece}
use Rattle.cx_laws_run.specs.cx_rules.specs.Secured.{SealedFrame, Secured}
use Rattle.cx_laws_run.specs.cx_run.specs.Points.{EachPoint, Point, stepped_at}
use Rattle.cx_secure.specs.Plains.{plains}
use Rattle.cx_steps.specs.declared.seals.Logged.{Logged}
use Rattle.cx_steps.specs.declared.seals.SealEntry.{SealEntry}
use Rattle.cx_steps.specs.declared.seals.SealEntry.TheVariants as entry

-- ---- before it

-- what is known of the entity of this name, whose event the one at this point is
pub record MonClientReady (run : WholeRun) (whole : List Logged) (us vs : Uses) (logins : List Handed) (told : Told) (past : List Point) (p : Point) (name : Name) (log : List Logged) (J : List Entry)
    : Type 0 where
  pub here : p.happening.node ≡ node.Entity name
  pub one : (k : List ℕ) (u v : Use) → Means vs k u → Means vs k v → u ≡ v
  pub grows : Grows us vs
  pub inv : Inv run whole us log J
  pub known_of : AreTold run (events_of past) us told log
  pub handed : AreHanded us logins log
  pub fresh : EachPoint DrawsNew (p ∷ past)
  pub bytes : AllByRecursion (λ (b : ℕ). b < 256) p.happening.draw
  pub free : NeverExcepted run whole (node.Entity name) us name

-- a row on its link of this number is what the step comes to, and what it logs is granted
pub record IsRowAt (run : WholeRun) (whole : List Logged) (p : Point) (name : Name) (log : List Logged) (link : ℕ) (seals : List SealEntry) (sends : List ℕ) : Type 0 where
  pub seals_are : (stepped_at p).out.seals ≡ seals
  pub sends_are : (stepped_at p).out.sends ≡ piece link sends
  pub granted : AreGranted run.leaked whole (node.Entity name) p.happening.line log seals

-- ---- behind it

-- where this is said of the stage of the link behind it, by all that was said and sent
pub record MonClientBehind {S : Type 0} (H : Told → List Logged → List ℕ → S → Type 0) (run : WholeRun) (us vs : Uses) (logins : List Handed) (told : Told) (past : List Point) (p : Point)
    (name : Name) (log : List Logged) (link : ℕ) (row : Row MonClient S) : Type 0 where
  pub next : Told
  pub moved : Moved told next
  pub apart : (m : Name) (other : ℕ) → ((name ≡ m) × (link ≡ other) → ⊥) → (challenge : ℕ) → (events_of past).drew m other challenge → (key : List ℕ) → IsLoginKey vs key m challenge
      → IsNotAsked moved key × (contents_by key of_connector row.seals ≡ [])
  pub quiet : (key : List ℕ) (number : ℕ) (m : Name) (challenge : ℕ) → Means vs key (Connected node.Monitor number m (AtMonitor challenge))
      → IsNotGiven moved key × (contents_by key of_acceptor row.seals ≡ [])
  pub known_of : AreTold run (events_of (p ∷ past)) vs next (behind (node.Entity name) p.happening.line row.seals log)
  pub handed : AreHanded vs logins (behind (node.Entity name) p.happening.line row.seals log)
  pub link_has : IfSome row.link (λ (l : Link S). (l.number ≡ link) × H next (behind (node.Entity name) p.happening.line row.seals log) (l.sent ++ row.sends) l.stage)

-- ---- what has nothing to do with logins

is_plain-grows : (us vs : Uses) → Grows us vs → (e : SealEntry) → IsPlain us e → IsPlain vs e
is_plain-grows us vs f (entry.Signed mark) (inl (u, means, none)) = inl (u, f.means mark.key u means, none)
is_plain-grows us vs f (entry.Signed mark) (inr reply) = inr reply
is_plain-grows us vs f (entry.Sealed mark) (inl (u, means, none)) = inl (u, f.means mark.key u means, none)
is_plain-grows us vs f (entry.Sealed mark) (inr none) = inr none
is_plain-grows us vs f (entry.Opened mark) h = tt
is_plain-grows us vs f (entry.Checked mark) h = tt
is_plain-grows us vs f (entry.Drawn mark) h = tt

pub plain-grows : (us vs : Uses) → Grows us vs → (es : List SealEntry) → AllByRecursion (IsPlain us) es → AllByRecursion (IsPlain vs) es
plain-grows us vs f es h = all-map (IsPlain us) (IsPlain vs) (is_plain-grows us vs f) es h

pub quiet-nothing : (es : List SealEntry) → AreQuiet es → SealsNothing es
quiet-nothing es h key = (quiet-none key of_connector es h, quiet-none key of_acceptor es h)

-- what says at most one word as a connector seals nothing as an acceptor
row-connects : {Own Stage : Type 0} (P : List ℕ → Type 0) (Kept : Option Asked → Secured → Link Stage → Type 0) (Tells : Asked → Type 0) (s : Secured) (row : Row Own Stage)
    → RowSays asked_frame P Kept Tells s row → IsEnd of_connector s.keys.out.fixed → (key : List ℕ) → P key → contents_by key of_acceptor row.seals ≡ []
row-connects P Kept Tells s row (inl h) end key is = h.still key of_acceptor is
row-connects P Kept Tells s row (inr h) end key is =
    ap (λ (es : List SealEntry). contents_by key of_acceptor es) h.seals
    ∙ both-none key of_acceptor h.before h.sealed.seals (h.still key of_acceptor is)
    (ap (λ (x : SealedFrame). contents_by key of_acceptor x.seals) (frame-sealed s.keys (asked_frame h.word) h.sealed h.made).0
    ∙ parts-others key of_acceptor s.keys.key s.keys.out.fixed (inr (λ m plain. connectors-apart s.keys.out.fixed end m plain)) s.keys.out.counter (plains (asked_frame h.word)))

module _ (run : WholeRun) (whole : List Logged) (us vs : Uses) (logins : List Handed) (told : Told) (past : List Point) (p : Point) (name : Name) (log : List Logged) (J : List Entry)
    (r : MonClientReady run whole us vs logins told past p name log J) (link : ℕ) {S : Type 0} (H : Told → List Logged → List ℕ → S → Type 0) where
  abbrev n : NodeName
  n = node.Entity name

  abbrev line : ℕ
  line = p.happening.line

  abbrev Behind : Row MonClient S → Type 0
  Behind row = MonClientBehind H run us vs logins told past p name log link row

  -- a row that says nothing
  pub mon_client-still : (row : Row MonClient S) → SealsNothing row.seals → AllByRecursion (IsPlain vs) row.seals
      → IfSome row.link (λ (l : Link S). (l.number ≡ link) × H told (behind n line row.seals log) (l.sent ++ row.sends) l.stage) → Behind row
  mon_client-still row none plain has = record {
    next = told;
    moved = Quiets;
    apart = λ m other unlike challenge drew key is. (tt, (none key).0);
    quiet = λ key number m challenge means. (tt, (none key).1);
    known_of = told-stays run whole us vs log J n line row.seals r.one r.grows r.inv (events_of past) (events_of (p ∷ past)) (more-events p past) told r.known_of (λ key is. none key);
    handed = handed-stays run whole us vs log J n line row.seals r.one r.grows r.inv logins r.handed plain;
    link_has = has;
  }

  -- one that says at most one word, under a key of the challenge that this link drew
  pub mon_client-says : (Kept : Option Asked → Secured → Link S → Type 0) (Tells : Asked → Type 0) (s : Secured) (challenge : ℕ) → IsLoginKey us s.keys.key name challenge
      → (events_of past).drew name link challenge → IsEnd of_connector s.keys.out.fixed → (row : Row MonClient S) → RowSays asked_frame (IsAnyLogin vs) Kept Tells s row
      → (moves : MonClientMoves Kept run (events_of (p ∷ past)) vs told (behind n line row.seals log) name link s.keys.key row) → AllByRecursion (IsPlain vs) row.seals
      → ((l : Link S) (word : Option Asked) (u : Secured) → Kept word u l → IsMonClient (events_of (p ∷ past)) vs moves.next (behind n line row.seals log) name link u → u.keys.key ≡ s.keys.key
      → said_under s.keys.key moves.next.asked ≡ said_under s.keys.key told.asked ++ words_of word
      → (l.number ≡ link) × H moves.next (behind n line row.seals log) (l.sent ++ row.sends) l.stage)
      → Behind row
  mon_client-says Kept Tells s challenge is own end row says moves plain has = record {
    next = moves.next;
    moved = moves.moved;
    apart = λ m other unlike its drew key login.
        let there : bytes_eq s.keys.key key ≡ false =
        keys-apart vs r.one past r.fresh.1 name link challenge own s.keys.key (login-grows us vs s.keys.key name challenge r.grows is) m other unlike its drew key login in (
          asks-apart told moves.next moves.moved s.keys.key key moves.only there,
          row-others asked_frame (IsAnyLogin vs) Kept Tells s row says key (m, its, login) there of_connector,
        );
    quiet = λ key number m its means. (
      asks-alone told moves.next moves.moved s.keys.key key moves.only,
      row-connects (IsAnyLogin vs) Kept Tells s row says end key (m, its, record { number = number; means = means }),
    );
    known_of = moves.known;
    handed = handed-stays run whole us vs log J n line row.seals r.one r.grows r.inv logins r.handed plain;
    link_has = if-some (λ (l : Link S). (word : Option Asked) × (u : Secured) × Kept word u l × IsMonClient (events_of (p ∷ past)) vs moves.next (behind n line row.seals log) name link u
        × (u.keys.key ≡ s.keys.key) × (said_under s.keys.key moves.next.asked ≡ said_under s.keys.key told.asked ++ words_of word))
        (λ (l : Link S). (l.number ≡ link) × H moves.next (behind n line row.seals log) (l.sent ++ row.sends) l.stage) row.link
        (λ l x. has l x.0 x.1 x.2 x.3 x.4 x.5) moves.link_is;
  }
