-- A turn of an incoming link behind authentication: all that is known of what was given stays known behind it, with what its row gives, and the link has it.
use Rattle.std.proofs.Common.{◌≡◌, ℕ, ◌≤◌, true, false, List, [], ◌∷◌, ◌++◌, length, map, Option, None, inl, refl, sym, ap, ◌∙◌, subst, arith, append-nil}
use Rattle.std.specs.Prelude.{Contains}
use Rattle.std.specs.List.{AllByRecursion, flat_map}
use Rattle.std.specs.Str.{bytes_eq}
use Rattle.cx_base.specs.Names.{Name}
use Rattle.cx_base.specs.declared.nodes.NodeName.{NodeName}
use Rattle.cx_frame.specs.Frames.{total}
use Rattle.cx_frame.specs.declared.frame.Frame.{Frame}
use Rattle.cx_journal.specs.declared.entries.Entry.{Entry}
use Rattle.cx_laws_links.specs.cx_laws_keys.proofs.keys.Journal.{entered}
use Rattle.cx_laws_links.specs.cx_laws_keys.proofs.keys.Known.{Inv, IsOfAcceptor, IsOfConnector}
use Rattle.cx_laws_links.specs.cx_laws_keys.proofs.keys.Premises.{AreGranted, behind, behind-append, granted-first}
use Rattle.cx_laws_links.specs.cx_laws_keys.proofs.keys.Uses.{AtDaemon, Connected, Means, Uses, WholeRun, stays}
use Rattle.cx_laws_links.specs.cx_laws_keys.proofs.series.Contents.{contents-behind, contents_by, contents_in}
use Rattle.cx_laws_links.specs.cx_laws_keys.proofs.series.Frames.{HasParts, frames-parts}
use Rattle.cx_laws_links.specs.cx_rules.specs.Fronts.{keys_behind}
use Rattle.cx_laws_links.specs.cx_rules.specs.Links.{Link}
use Rattle.cx_laws_links.specs.cx_rules.specs.Secured.{Keys, Secured, Way, under}
use Rattle.cx_laws_links.specs.cx_rules_session.specs.IncomingLinks.{IncomingRow, IncomingStage}
use Rattle.cx_secure.specs.Parts.{nonce_at}
use Rattle.cx_secure.specs.Plains.{plains}
use Rattle.cx_steps.specs.declared.seals.Logged.{Logged}
use Rattle.cx_steps.specs.declared.seals.SealEntry.{SealEntry}
use Rattle.cx_laws_links.proofs.links.CallTells.{AreSealed, are-sealed, by-append, quiet-none}
use Rattle.cx_laws_links.proofs.links.IncomingSteps.{entered-has}
use Rattle.cx_laws_links.proofs.links.Hearing.{IsSpelled, hears-ident, hears-reconnect}
use Rattle.cx_laws_links.proofs.links.Known.{Told}
use Rattle.cx_laws_links.proofs.links.Spoken.{Idents, KeepsUp, Orders, Reconnects, Signs, Spoken, asked, asked-append, asked_by, frame_of, said_under}
use Rattle.cx_laws_links.proofs.links.Written.{IsLinkKey}
use Rattle.cx_laws_links.proofs.answers.Given.{FitFrames, Given, given-append, given_frame, given_parts, given_under, gives_under, is_acceptors, replied, replied-append, served_behind}
use Rattle.cx_laws_links.proofs.answers.Growing.{Gives, given-gives}
use Rattle.cx_laws_links.proofs.answers.IncomingGives.{AsksWith, ByIdent, ByReconnect, RowGives}
use Rattle.cx_laws_links.proofs.answers.Heard.{passes-acceptor}
use Rattle.cx_laws_links.proofs.answers.Keyed.{given-own}
use Rattle.cx_laws_links.proofs.answers.Known.{Continues, continues, AreGiven, AreTrueGiven, IsTrueAnswer}
use Rattle.cx_laws_links.proofs.answers.Replied.{IncomingGiven, HasReplied, HasTakenSo, IsGiver, IsInStep, TakesNext, takes-next}

parts-are : (words : List Given) → flat_map plains (map given_frame words) ≡ given_parts words
parts-are [] = refl
parts-are (x ∷ words) = ap (λ (l : List (List ℕ)). plains (given_frame x) ++ l) (parts-are words)

words-fit : (words : List Given) → AllByRecursion (λ (f : Frame). total f ≤ 1048576) (map given_frame words) → FitFrames words
words-fit [] h = tt
words-fit (x ∷ words) h = (h.0, words-fit words h.1)

-- ---- what a row gives is known

module _ (run : WholeRun) (whole : List Logged) (us : Uses) (given : List (List ℕ × Given)) (log : List Logged) (J : List Entry) (n : NodeName) (line : ℕ) (i : Inv run whole us log J)
    (h : AreGiven run us given log J) (daemon : Name) (number : ℕ) (s : Secured) (name : Name) (k : IsGiver us given log n daemon number s name) (frame : Frame)
    (P : List Given → List Entry → Option (Link IncomingStage) → Type 0) (row : IncomingRow) (r : RowGives P number (under s (keys_behind s.keys frame)) row) where
  abbrev key : List ℕ
  key = s.keys.key

  abbrev next : List (List ℕ × Given)
  next = given ++ gives_under key r.words

  abbrev later : List Logged
  later = behind n line row.seals log

  abbrev K : List Entry
  K = entered J row.entries

  within : Continues J K
  within = continues J row.entries

  abbrev is-link : IsLinkKey us key name k.tie
  is-link = record { acceptor = n; number = number; service = daemon.kind; means = k.means }

  sealed-so : AreSealed key (keys_behind s.keys frame) (map given_frame r.words) r.sealed
  sealed-so = are-sealed key (keys_behind s.keys frame) (map given_frame r.words) r.sealed refl r.made

  passes : (m : ℕ) (plain : List ℕ) → is_acceptors (nonce_at s.keys.out.fixed m ++ plain) ≡ true
  passes = passes-acceptor s.keys.out.fixed k.out

  quiet-parts : HasParts is_acceptors (keys_behind s.keys frame) (given_parts (given_under key given)) (behind n line r.quiet log)
  quiet-parts = record {
    sealed = contents-behind key is_acceptors n line r.quiet log
        ∙ ap (λ (l : List (List ℕ)). contents_in key is_acceptors log ++ l) (quiet-none key is_acceptors r.quiet r.silent)
        ∙ append-nil (contents_in key is_acceptors log) ∙ k.parts.sealed;
    counter = k.parts.counter;
  }

  later-is : later ≡ behind n line r.sealed.seals (behind n line r.quiet log)
  later-is = ap (λ (es : List SealEntry). behind n line es log) r.seals ∙ behind-append n line r.quiet r.sealed.seals log

  parts-behind : HasParts is_acceptors r.sealed.keys (given_parts (given_under key given) ++ given_parts r.words) later
  parts-behind =
      subst (λ (l : List Logged). HasParts is_acceptors r.sealed.keys (given_parts (given_under key given) ++ given_parts r.words) l) (sym later-is)
      (subst (λ (l : List (List ℕ)). HasParts is_acceptors r.sealed.keys (given_parts (given_under key given) ++ l) (behind n line r.sealed.seals (behind n line r.quiet log))) (parts-are r.words)
      (frames-parts is_acceptors n line (map given_frame r.words) (behind n line r.quiet log) (keys_behind s.keys frame) r.sealed (given_parts (given_under key given)) passes r.made quiet-parts))

  -- and nothing under any other key
  pub row-others : (other : List ℕ) → bytes_eq key other ≡ false → contents_by other is_acceptors row.seals ≡ []
  row-others other apart =
      ap (λ (es : List SealEntry). contents_by other is_acceptors es) r.seals
      ∙ by-append other is_acceptors r.quiet r.sealed.seals (quiet-none other is_acceptors r.quiet r.silent) (sealed-so.others other is_acceptors apart)

  -- where they are true
  abbrev pub TrueHere : Type 0
  TrueHere = (Contains run.leaked name → ⊥) → AreTrueGiven K daemon.kind name (served_behind None (given_under key given)) r.words

  gives : TrueHere → Gives run us given later K row.seals name daemon.kind key r.words
  gives true_words = record {
    keys = r.sealed.keys;
    key_is = sealed-so.key_is;
    four = ap (λ (l : List ℕ). length l) sealed-so.fixed ∙ k.out_four;
    acceptor = subst (λ (l : List ℕ). (m : ℕ) (plain : List ℕ) → is_acceptors (nonce_at l m ++ plain) ≡ true) (sym sealed-so.fixed) passes;
    parts = parts-behind;
    fits = sealed-so.low k.fits;
    others = λ other whose tie is apart. row-others other apart;
    true_words = true_words;
    frames = words-fit r.words sealed-so.fit;
  }

  pub row-given : TrueHere → AreGiven run us next later K
  row-given true_words = given-gives run whole us us given log J K n line row.seals i.one (stays us) within i h key name k.tie is-link r.words (gives true_words)

  pub given-is : given_under key next ≡ given_under key given ++ r.words
  given-is = given-own key given r.words

  -- the link, where it goes on
  pub row-giver : (t : Secured) → t.keys ≡ r.sealed.keys → IsGiver us next later n daemon number t name
  row-giver t same =
      let same_key : t.keys.key ≡ key = ap (λ (x : Keys). x.key) same ∙ sealed-so.key_is in
      let same_out : t.keys.out.fixed ≡ s.keys.out.fixed = ap (λ (x : Keys). x.out.fixed) same ∙ sealed-so.fixed in
      let same_into : t.keys.into.fixed ≡ s.keys.into.fixed = ap (λ (x : Keys). x.into.fixed) same ∙ ap (λ (w : Way). w.fixed) sealed-so.into in
      let parts_is : given_parts (given_under key next) ≡ given_parts (given_under key given) ++ given_parts r.words =
      ap (λ (l : List Given). given_parts l) given-is ∙ given-append (given_under key given) r.words in
      let low = sealed-so.low k.fits in
      let counter : t.keys.out.counter ≡ r.sealed.keys.out.counter = ap (λ (x : Keys). x.out.counter) same in
      record {
        tie = k.tie;
        means = subst (λ (l : List ℕ). Means us l (Connected n number name (AtDaemon daemon.kind k.tie))) (sym same_key) k.means;
        parts = subst (λ (x : Keys). HasParts is_acceptors x (given_parts (given_under x.key next)) later) (sym same)
            (subst (λ (l : List ℕ). HasParts is_acceptors r.sealed.keys (given_parts (given_under l next)) later) (sym sealed-so.key_is)
            (subst (λ (l : List (List ℕ)). HasParts is_acceptors r.sealed.keys l later) (sym parts_is) parts-behind));
        out = subst IsOfAcceptor (sym same_out) k.out;
        out_four = ap (λ (l : List ℕ). length l) same_out ∙ k.out_four;
        into = subst IsOfConnector (sym same_into) k.into;
        into_four = ap (λ (l : List ℕ). length l) same_into ∙ k.into_four;
        fits = omega (arith, low, counter);
      }

  -- the keys of the link that goes on
  pub row-key : (t : Secured) → t.keys ≡ r.sealed.keys → t.keys.key ≡ key
  row-key t same = ap (λ (x : Keys). x.key) same ∙ sealed-so.key_is

  pub row-into : (t : Secured) → t.keys ≡ r.sealed.keys → t.keys.into ≡ (keys_behind s.keys frame).into
  row-into t same = ap (λ (x : Keys). x.into) same ∙ sealed-so.into

-- ---- what a word asks for

-- what is no ident asks for nothing
pub asks-none : (x : Spoken) (f : Frame) → f ≡ frame_of x → (f.tag ≡ 8 → ⊥) → (f.tag ≡ 11 → ⊥) → asked_by x ≡ []
asks-none x f is ident again = by_word x (λ t. ident (ap (λ (g : Frame). g.tag) is ∙ t)) (λ t. again (ap (λ (g : Frame). g.tag) is ∙ t))
  where
    by_word : (y : Spoken) → ((frame_of y).tag ≡ 8 → ⊥) → ((frame_of y).tag ≡ 11 → ⊥) → asked_by y ≡ []
    by_word (Signs code) a b = refl
    by_word (Idents mon_client gid flags cookie) a b = absurd (a refl)
    by_word (Reconnects mon_client session) a b = absurd (b refl)
    by_word (Orders order) a b = refl
    by_word (KeepsUp ack) a b = refl

-- an ident asks for the session of its cookie
pub asks-for : (x : Spoken) (f : Frame) (cookie : ℕ) → f ≡ frame_of x → IsSpelled x → AsksWith f cookie → asked_by x ≡ cookie ∷ []
asks-for x f cookie is spelled (ByIdent ident tag read same) =
    let w = hears-ident x f ident is tag spelled read in ap asked_by w.3 ∙ ap (λ (c : ℕ). c ∷ []) same
asks-for x f cookie is spelled (ByReconnect again tag read same) =
    let w = hears-reconnect x f again is tag spelled read in ap asked_by w.2 ∙ ap (λ (c : ℕ). c ∷ []) (w.3 ∙ same)

-- ---- by the stage of the link

-- what was taken and replied to behind a row that took this word and gave these
pub replied-more : (told : Told) (given next : List (List ℕ × Given)) (s t : Secured) (frame : Frame) (words : List Given) (k : HasReplied told given s) (w : TakesNext told s k.taken frame)
    → t.keys.key ≡ s.keys.key → t.keys.into ≡ (keys_behind s.keys frame).into → given_under s.keys.key next ≡ given_under s.keys.key given ++ words → replied words ≡ asked_by w.word
    → HasReplied told next t
replied-more told given next s t frame words k w key into more same = record {
  taken = k.taken ++ w.word ∷ [];
  so = record {
    rest = w.so.rest;
    front = ap (λ (l : List ℕ). said_under l told.said) key ∙ w.so.front;
    counter = ap (λ (x : Way). x.counter) into ∙ w.so.counter;
  };
  step = ap (λ (l : List ℕ). replied (given_under l next)) key ∙ ap (λ (l : List Given). replied l) more ∙ replied-append (given_under s.keys.key given) words
      ∙ ap (λ (l : List ℕ). l ++ replied words) k.step ∙ ap (λ (l : List ℕ). asked k.taken ++ l) (same ∙ sym (append-nil (asked_by w.word))) ∙ sym (asked-append k.taken (w.word ∷ []));
}

-- what is replied to is a front of what is asked for
pub in-step : (told : Told) (given : List (List ℕ × Given)) (s : Secured) → HasReplied told given s → IsInStep told given s.keys.key
in-step told given s k = (
  asked k.so.rest,
  ap (λ (l : List Spoken). asked l) k.so.front ∙ asked-append k.taken k.so.rest ∙ ap (λ (l : List ℕ). l ++ asked k.so.rest) (sym k.step),
)
