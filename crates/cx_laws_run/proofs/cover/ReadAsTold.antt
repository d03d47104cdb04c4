-- Each reply for generations that the monitor made is read, by the daemon to which it was made, as what it tells: so generations that a daemon reads of one are those of
-- the point at which it was made.
use Rattle.std.proofs.Common.{◌≡◌, ◌≤◌, ◌<◌, ◌+◌, ◌*◌, ◌-◌, ◌^◌, ℕ, true, false, List, [], ◌∷◌, Some, inl, inr, refl, sym, ap, ◌∙◌, subst, arith}
use Rattle.std.specs.Prelude.{max, nat_le}
use Rattle.std.specs.List.{AllByRecursion}
use Rattle.std.proofs.lemmas.Bool.{or_parts}
use Rattle.std.proofs.lemmas.Bool.Decides.{nat_tests}
use Rattle.cx_aes.specs.Cipher.{IsBlock}
use Rattle.cx_base.specs.Names.{Name, is_daemon_type}
use Rattle.cx_base.specs.declared.kinds.EntityType.{EntityType}
use Rattle.cx_cbc.specs.Envelope.{sealed as enveloped}
use Rattle.cx_dice.specs.Rolls.{seed_draw}
use Rattle.cx_journal.specs.declared.entries.Fetched.{Fetched}
use Rattle.cx_journal.specs.declared.premises.KeyKind.TheVariants as kind
use Rattle.cx_laws_run.specs.cx_laws_tickets.proofs.chain.Points.{spaced-behind}
use Rattle.cx_laws_run.specs.cx_laws_tickets.specs.chain.Chain.{Added, AreSpaced, Chain, HasChain, IsChained, life_in, saved_past, three_newest}
use Rattle.cx_laws_run.specs.cx_laws_keys.proofs.keys.Uses.{Extends}
use Rattle.cx_laws_run.proofs.run.Draws.{bytes-seed, length-seed}
use Rattle.cx_laws_run.proofs.run.Good.{IsDraw, IsKnown, block-of, kept-blocks}
use Rattle.cx_laws_run.proofs.run.Happening.{all-known}
use Rattle.cx_laws_run.proofs.run.Whole.{run_of}
use Rattle.cx_laws_run.specs.run.Laws.{MayBegin, MayHappen}
use Rattle.cx_words.specs.lines.Values.{is_life}
use Rattle.cx_laws_run.specs.cx_login.specs.Unlocking.{unlocked}
use Rattle.cx_rotate.specs.Keeping.{IsLife}
use Rattle.cx_rotate.specs.Rotation.{is_full}
use Rattle.cx_rotate.specs.declared.generations.Generation.{Generation}
use Rattle.cx_laws_run.specs.cx_rules.specs.Replies.{told_content}
use Rattle.cx_laws_run.specs.cx_rules_session.specs.DaemonRule.{DaemonState}
use Rattle.cx_laws_run.specs.cx_run.proofs.PointsTell.{at-one}
use Rattle.cx_laws_run.specs.cx_run.specs.Happenings.{Happening, OfDaemon, entity_of}
use Rattle.cx_laws_run.specs.cx_run.specs.Opening.{Setup, first_state}
use Rattle.cx_laws_run.specs.cx_run.specs.Points.{Before, EachPoint, Point, points}
use Rattle.cx_laws_run.specs.cx_sealed.proofs.Rising.{rises}
use Rattle.cx_laws_run.specs.cx_sealed.specs.Records.{rotating_reply_layout}
use Rattle.cx_laws_run.specs.cx_sealed.specs.declared.rotating_reply.RotatingReply.{RotatingReply}
use Rattle.cx_laws_run.specs.cx_laws_tickets.proofs.fetch.AllCovered.{service-life}
use Rattle.cx_laws_run.specs.cx_laws_tickets.proofs.fetch.Arithmetic.{not-full}
use Rattle.cx_laws_run.specs.cx_laws_tickets.proofs.fetch.Kept.{MonitorUntil, kept-grows, kept-until}
use Rattle.cx_laws_run.specs.cx_laws_tickets.proofs.fetch.PointEvents.{IsTelling, RepliedAt, replied-tells}
use Rattle.cx_laws_run.specs.cx_laws_tickets.proofs.fetch.RepliedMoments.{AreOfPresent, IsOfPresent, WasReplied, all-present, told_at}
use Rattle.cx_laws_run.specs.cx_laws_tickets.specs.fetch.Fetches.{IsMoment}
use Rattle.cx_laws_run.proofs.cover.OwnSecrets.{HaveSecrets, IsSecretOf, all-have, told-secret}
use Rattle.cx_laws_run.proofs.cover.ToldReads.{AreWritten, told-opens}

-- ---- what is saved can be written

-- the latest reading of a run
abbrev last : ℕ
last = 3999999999999999999

abbrev AreBlocks : List Added → Type 0
AreBlocks xs = AllByRecursion (λ (x : Added). IsBlock x.generation.key) xs

none-written : AreWritten []
none-written = record { few = refl; short = omega arith; rising = refl; each = tt }

module _ (life : ℕ) where
  -- of three the bounds of the newest are those of all
  three-written : (a b c : Added) (older : List Added) → AreSpaced life (a ∷ b ∷ c ∷ older) → AreBlocks (a ∷ b ∷ c ∷ older) → a.generation.id < 2 ^ 64 → a.generation.expires < 4294967296000000000
      → AreWritten (c.generation ∷ b.generation ∷ a.generation ∷ [])
  three-written a b c older spaced blocks numbered early =
      let first : a.generation.id ≡ b.generation.id + 1 = spaced.0.0 in
      let second : b.generation.id ≡ c.generation.id + 1 = spaced.1.0.0 in
      let until : a.generation.expires ≡ max (a.reading + life) b.generation.expires + life = spaced.0.1 in
      let before : b.generation.expires ≡ max (b.reading + life) c.generation.expires + life = spaced.1.0.1 in
      record {
        few = refl;
        short = omega arith;
        rising = rises (c.generation ∷ b.generation ∷ a.generation ∷ []) (second, first);
        each = (
          record { block = blocks.1.1.0; numbered = omega arith; early = omega arith },
          (record { block = blocks.1.0; numbered = omega arith; early = omega arith }, (record { block = blocks.0; numbered = numbered; early = early }, tt)),
        );
      }

  low-of : (n m : ℕ) → nat_le m n ≡ false → n < m
  low-of n m test = grind (arith, nat_tests)

  newest-written : (xs : List Added) → AreSpaced life xs → AreBlocks xs → is_full (three_newest xs) ≡ false → AreWritten (three_newest xs)
  newest-written [] spaced blocks low = none-written
  newest-written (a ∷ []) spaced blocks low = none-written
  newest-written (a ∷ b ∷ []) spaced blocks low = none-written
  newest-written (a ∷ b ∷ c ∷ older) spaced blocks low =
      let both = or_parts (nat_le (2 ^ 64 - 4) a.generation.id) (nat_le 4200000000000000000 a.generation.expires) low in
      let numbered : a.generation.id < 2 ^ 64 - 4 = low-of a.generation.id (2 ^ 64 - 4) both.0 in
      let early : a.generation.expires < 4200000000000000000 = low-of a.generation.expires 4200000000000000000 both.1 in
      three-written a b c older spaced blocks (omega arith) (omega arith)

-- ---- at each point

module _ (setup : Setup) where
  -- a chain behind some points, of which what was ever saved is spaced
  record HasKept (service : EntityType) (past : List Point) : Type 0 where
    chain : Chain
    chained : IsChained setup service past chain
    spaced : AreSpaced (life_in setup service) chain.kept

  kept-before : (service : EntityType) (p : Point) (past : List Point) → HasKept service (p ∷ past) → HasKept service past
  kept-before service p past c = by_chain c.chain c.chained c.spaced
    where
      by_chain : (behind : Chain) → IsChained setup service (p ∷ past) behind → AreSpaced (life_in setup service) behind.kept → HasKept service past
      by_chain behind (before, earlier, m) spaced =
          let e : Extends before.kept behind.kept = kept-grows setup service p before behind m in
          record { chain = before; chained = earlier; spaced = spaced-behind (life_in setup service) e.more before.kept (subst (AreSpaced (life_in setup service)) e.is spaced) }

  abbrev pub IsEarly : List Point → Point → Type 0
  IsEarly older p = p.happening.reading < 4000000000000000000

  abbrev pub HasDraw : List Point → Point → Type 0
  HasDraw older p = IsDraw p.happening.draw

  early-until : (service : EntityType) (past : List Point) → EachPoint IsEarly past → MonitorUntil setup service last past
  early-until service [] early = tt
  early-until service (p ∷ past) early = ((λ monitor. let low : p.happening.reading < 4000000000000000000 = early.0 in omega arith), early-until service past early.1)

  -- what is saved behind it of a service can be written
  abbrev pub SavesWritten : List Point → Point → Type 0
  SavesWritten older p = (service : EntityType) → is_daemon_type service ≡ true → AreWritten (saved_past service p)

  saves-written : IsLife (first_state setup).life → (service : EntityType) → is_daemon_type service ≡ true → (older : List Point) (p : Point) → HasKept service (p ∷ older)
      → EachPoint IsEarly (p ∷ older) → EachPoint HasDraw (p ∷ older) → AreWritten (saved_past service p)
  saves-written is_life service of older p c early drawn = by_chain c.chain c.chained c.spaced
    where
      by_chain : (behind : Chain) → IsChained setup service (p ∷ older) behind → AreSpaced (life_in setup service) behind.kept → AreWritten (saved_past service p)
      by_chain behind (before, earlier, m) spaced =
          let life : ℕ = life_in setup service in
          let lives : IsLife life = subst IsLife (sym (service-life setup service of)) is_life in
          let until : AllByRecursion (λ (x : Added). x.reading ≤ last) behind.kept = kept-until setup service last (p ∷ older) behind (before, earlier, m) (early-until service (p ∷ older) early) in
          let low : is_full (three_newest behind.kept) ≡ false = not-full life last behind.kept spaced until (omega arith) lives.0 lives.1 in
          subst AreWritten (sym m.saved) (newest-written life behind.kept spaced (kept-blocks setup service (p ∷ older) behind (before, earlier, m) drawn) low)

  all-saves : IsLife (first_state setup).life → (past : List Point) → ((service : EntityType) → HasKept service past) → EachPoint IsEarly past → EachPoint HasDraw past → EachPoint SavesWritten past
  all-saves is_life [] chains early drawn = tt
  all-saves is_life (p ∷ past) chains early drawn = (
    λ service of. saves-written is_life service of past p (chains service) early drawn,
    all-saves is_life past (λ service. kept-before service p past (chains service)) early.1 drawn.1,
  )

-- ---- a reply

-- the secret of a declared entity is a block
secret-block : (setup : Setup) (name : Name) (secret : List ℕ) → IsSecretOf setup name secret → IsBlock secret
secret-block setup name secret s =
    let draw : List ℕ = seed_draw (2 ^ 63 + s.declared.number) 0 in
    subst IsBlock (sym s.same) (block-of 0 draw (record { long = length-seed (2 ^ 63 + s.declared.number) 0; bytes = bytes-seed (2 ^ 63 + s.declared.number) 0 }) (omega arith))

-- what is known of the point at which it was made
abbrev KnownAt : Setup → List Point → Point → Type 0
KnownAt setup older q = AreOfPresent older q × SavesWritten setup older q × HaveSecrets setup q.nodes

-- it is read as what it tells there
reply-read : (setup : Setup) (name : Name) (secret : List ℕ) → IsSecretOf setup name secret → (reading : ℕ) (blob : List ℕ) (older : List Point) (q : Point) → KnownAt setup older q
    → RepliedAt name reading blob older q → (told : RotatingReply) → (unlocked rotating_reply_layout.form kind.Principal secret blob).value ≡ Some told → told.generations ≡ told_at q name.kind
reply-read setup name secret s reading blob older q (present, saves, have) h told opens =
    let o : IsOfPresent q h.replies = present h.replies in
    let whose : h.replies.bearer.name.kind ≡ name.kind = ap (λ (n : Name). n.kind) h.to in
    let of : is_daemon_type name.kind ≡ true = subst (λ (k : EntityType). is_daemon_type k ≡ true) whose o.tells.kind in
    let moment : IsMoment name.kind (told_at q name.kind) q = subst (λ (k : EntityType). IsMoment k (told_at q k) q) whose o.moment in
    let gs : List Generation = told_at q name.kind in
    let written : AreWritten gs = subst AreWritten (sym moment.saved) (saves name.kind of) in
    let t : IsTelling name blob q = replied-tells name reading blob older q h in
    let same : t.own.secret ≡ secret = told-secret setup name secret s q.nodes have q.happening.reading q.happening.draw t.own t.key_is in
    let blob_is : blob ≡ enveloped secret (told_content name.kind gs) = t.blob_is ∙ ap (λ (key : List ℕ). enveloped key (told_content name.kind gs)) same in
    let read : (unlocked rotating_reply_layout.form kind.Principal secret blob).value ≡ Some (record { service = name.kind; generations = gs }) =
    ap (λ (b : List ℕ). (unlocked rotating_reply_layout.form kind.Principal secret b).value) blob_is ∙ told-opens name.kind gs secret written (secret-block setup name secret s) in
    ap (λ (x : RotatingReply). x.generations) (reply_is told (record { service = name.kind; generations = gs }) (sym opens ∙ read))
  where
    reply_is : (a b : RotatingReply) → Some a ≡ Some b → a ≡ b
    reply_is a b e = cc

-- ---- fetches

-- what a daemon reads so of a reply that was made to it behind its asking is what the monitor replied
abbrev pub AreReadAsTold : List Point → Point → Type 0
AreReadAsTold older p = (name : Name) (d : DaemonState) → entity_of name p.nodes ≡ Some (OfDaemon d) → (f : Fetched) → f.daemon ≡ name → (blob : List ℕ)
    → Before (RepliedAt name f.asked blob) older → (told : RotatingReply) → (unlocked rotating_reply_layout.form kind.Principal d.node.own.mon_client.secret blob).value ≡ Some told
    → told.generations ≡ f.generations → Before (WasReplied f) older

replied-so : (setup : Setup) (secret : List ℕ) (f : Fetched) → IsSecretOf setup f.daemon secret → (blob : List ℕ) (told : RotatingReply)
    → (unlocked rotating_reply_layout.form kind.Principal secret blob).value ≡ Some told → told.generations ≡ f.generations → (past : List Point)
    → Before (λ (older : List Point) (q : Point). RepliedAt f.daemon f.asked blob older q × KnownAt setup older q) past → Before (WasReplied f) past
replied-so setup secret f s blob told opens same [] h = absurd h
replied-so setup secret f s blob told opens same (q ∷ past) (inl h) =
    inl (record {
      replies = h.0.replies;
      to = h.0.to;
      told = sym same ∙ reply-read setup f.daemon secret s f.asked blob past q h.1 h.0 told opens;
      asked = h.0.asked_before;
    })
replied-so setup secret f s blob told opens same (q ∷ past) (inr h) = inr (replied-so setup secret f s blob told opens same past h)

known-at : (setup : Setup) (past : List Point) → EachPoint AreOfPresent past → EachPoint (SavesWritten setup) past → EachPoint (λ (older : List Point) (q : Point). HaveSecrets setup q.nodes) past
    → EachPoint (KnownAt setup) past
known-at setup [] present saves have = tt
known-at setup (q ∷ past) present saves have = ((present.0, saves.0, have.0), known-at setup past present.1 saves.1 have.1)

read-past : (setup : Setup) (past : List Point) → EachPoint (KnownAt setup) past → EachPoint AreReadAsTold past
read-past setup [] known = tt
read-past setup (p ∷ past) known = (
  λ name d found f named blob replied told opens same.
      let s : IsSecretOf setup f.daemon d.node.own.mon_client.secret = subst (λ (n : Name). IsSecretOf setup n d.node.own.mon_client.secret) (sym named) (known.0.2.daemons name d found) in
      replied-so setup d.node.own.mon_client.secret f s blob told opens same past
      (at-one (KnownAt setup) (RepliedAt f.daemon f.asked blob) past known.1 (subst (λ (n : Name). Before (RepliedAt n f.asked blob) past) (sym named) replied)),
  read-past setup past known.1,
)

-- the life with which a run may begin is one of a schedule
pub begins-life : (setup : Setup) → MayBegin setup → IsLife (first_state setup).life
begins-life setup begins = by_life setup.life begins.life
  where
    by_life : (seconds : ℕ) → is_life seconds ≡ true → IsLife (seconds * 1000000000)
    by_life seconds good = let low : seconds ≤ 31536000 = grind (arith, nat_tests) in let some : 1 ≤ seconds = grind (arith, nat_tests) in (omega arith, omega arith)

-- so it is at each event of every list of events that may happen
pub all-read-as_told : (setup : Setup) (hs : List Happening) → MayHappen setup hs → EachPoint AreReadAsTold (points setup hs)
all-read-as_told setup hs m =
    let known : IsKnown setup (run_of setup hs true) (points setup hs) = all-known setup hs true m in
    let is_life : IsLife (first_state setup).life = begins-life setup m.begins in
    let some : 0 < (first_state setup).life = let least : 1000000000 ≤ (first_state setup).life = is_life.0 in omega arith in
    let kept : (service : EntityType) → HasKept setup service (points setup hs) =
    λ service. let c : HasChain setup service (points setup hs) = known.chained service in
    record { chain = c.chain; chained = c.chained; spaced = spaced-behind (life_in setup service) c.chain.unsaved c.chain.kept c.spaced } in
    read-past setup (points setup hs)
    (known-at setup (points setup hs) (all-present setup some hs) (all-saves setup is_life (points setup hs) kept known.read known.drawn) (all-have setup hs))
