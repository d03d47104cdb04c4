-- A step of a client on a link to a daemon whose row says some words: all that is known stays known behind it, with these words, and the link has its key.
use Rattle.std.proofs.Common.{◌≡◌, ℕ, ◌+◌, ◌<◌, ◌≤◌, ◌^◌, Bool, true, false, nat_lt, List, [], ◌∷◌, ◌++◌, length, map, Option, Some, None, Result, Ok, Err, inl, inr, ◌⊎◌, refl, sym, ap, ◌∙◌, subst, arith, append-nil, append_assoc}
use Rattle.std.proofs.lemmas.Bool.Decides.{nat_tests}
use Rattle.std.proofs.lemmas.List.Elements.{Contains-append_left, Contains-push_cases}
use Rattle.std.specs.Prelude.{Contains, if◌then◌else◌}
use Rattle.std.specs.List.{AllByRecursion}
use Rattle.std.specs.Str.{bytes_eq}
use Rattle.cx_laws_tickets.specs.cx_run.specs.cx_authorize.specs.Verdict.{raised}
use Rattle.cx_base.specs.Names.{Name}
use Rattle.cx_base.specs.declared.nodes.NodeName.{NodeName}
use Rattle.cx_base.specs.declared.operations.Operation.{Operation}
use Rattle.cx_journal.specs.declared.entries.Admitted.{Admitted}
use Rattle.cx_journal.specs.declared.entries.Entry.{Entry}
use Rattle.cx_journal.specs.declared.entries.Entry.TheVariants as journal
use Rattle.cx_laws_keys.proofs.keys.Known.{Inv, IsOfConnector, Within}
use Rattle.cx_laws_keys.proofs.keys.Premises.{AreGranted, behind, behind-append}
use Rattle.cx_laws_keys.proofs.keys.Uses.{Grows, Means, Use, Uses, WholeRun}
use Rattle.cx_laws_keys.proofs.series.Contents.{contents-behind, contents_by, contents_in}
use Rattle.cx_laws_keys.proofs.series.Frames.{HasParts, frames-parts}
use Rattle.cx_laws_keys.specs.cx_rules.specs.Holdings.{MonClient}
use Rattle.cx_laws_keys.specs.cx_rules.specs.Links.{Link}
use Rattle.cx_laws_keys.specs.cx_rules.specs.Secured.{Keys, SealedFrame, Secured}
use Rattle.cx_laws_tickets.specs.cx_run.specs.cx_rules_session.specs.Presenter.{CallRow}
use Rattle.cx_laws_tickets.specs.cx_run.specs.cx_rules_session.specs.Sessions.{Callee}
use Rattle.cx_secure.specs.Parts.{nonce_at}
use Rattle.cx_steps.specs.Onto.{SomeOf}
use Rattle.cx_steps.specs.Premises.{RepeatsIn}
use Rattle.cx_steps.specs.declared.seals.DrawMark.TheVariants as draw
use Rattle.cx_steps.specs.declared.seals.Logged.{Logged}
use Rattle.cx_steps.specs.declared.seals.SealEntry.{SealEntry}
use Rattle.cx_steps.specs.declared.seals.SealEntry.TheVariants as entry
use Rattle.cx_laws_links.proofs.links.CallTells.{AreSealed, are-sealed, by-append, drawn-new, drawn-there, parts-are, quiet-none, words-fit}
use Rattle.cx_laws_links.proofs.links.CallWords.{AreWords, IsDrawnIn, KeyedStage, NoWord, OneWord, Says, SomeOrders}
use Rattle.cx_laws_links.proofs.links.Known.{AreTold, AreTrueWords, AsksFor, Bound, HasCookie, HasNonce, IsBound, IsKeyed, IsTrueWord, NoncePlace, Told, Unshown}
use Rattle.cx_laws_links.proofs.links.Lifting.{link-grows, some-behind}
use Rattle.cx_laws_links.proofs.links.Speaking.{NoncesMove, Speaks, cons-cases, said-append, said-own, speaking, told-speaks}
use Rattle.cx_laws_links.proofs.links.Spoken.{Idents, KeepsUp, Orders, Reconnects, Signs, Spoken, cookie-append, cookie_behind, frame_of, is_connectors, parts-append, parts_of, said_under, tagged}
use Rattle.cx_laws_links.proofs.links.Written.{IsLinkKey}

-- an operation was sent by this entity under a cookie, as the journal has it
abbrev pub WasSent : List Entry → Name → ℕ → ℕ × Operation → Type 0
WasSent J name cookie order =
    (daemon : Name) × Contains J (journal.Sent (record { client = name; daemon = daemon; cookie = cookie; seq = order.0; operation = order.1 }))

-- what begins with the nonce of a connector passes for its contents
pub passes-connector : (fixed : List ℕ) → IsOfConnector fixed → (m : ℕ) (plain : List ℕ) → is_connectors (nonce_at fixed m ++ plain) ≡ true
unfolding nonce_at
passes-connector [] h m plain = absurd h
passes-connector (b ∷ bytes) h m plain = grind (arith, nat_tests)

module _ (run : WholeRun) (whole : List Logged) (us vs : Uses) (told : Told) (log : List Logged) (J K : List Entry) (n : NodeName) (line : ℕ)
    (one_before : (k : List ℕ) (u v : Use) → Means us k u → Means us k v → u ≡ v) (one : (k : List ℕ) (u v : Use) → Means vs k u → Means vs k v → u ≡ v)
    (f : Grows us vs) (w : Within J K) (i : Inv run whole us log J) (none : (session : Admitted) → Contains K (journal.Admitted session) → Contains J (journal.Admitted session))
    (t : AreTold run us told log J) (name : Name) (number : ℕ) (callee : Callee) (s : Secured) (before : Option ℕ) (k : IsKeyed us told log name number s before) (row : CallRow)
    (h : Says (WasSent K name) number callee s before row) (g : AreGranted run.leaked whole n line log row.seals) where
  abbrev key : List ℕ
  key = s.keys.key

  abbrev next : Told
  next = speaking told told.nonces key h.words

  abbrev later : List Logged
  later = behind n line row.seals log

  sealed-so : AreSealed key s.keys (map frame_of h.words) h.sealed
  sealed-so = are-sealed key s.keys (map frame_of h.words) h.sealed refl h.made

  fixed-is : h.sealed.keys.out.fixed ≡ s.keys.out.fixed
  fixed-is = sealed-so.fixed

  passes : (m : ℕ) (plain : List ℕ) → is_connectors (nonce_at s.keys.out.fixed m ++ plain) ≡ true
  passes = passes-connector s.keys.out.fixed k.connector

  -- the parts behind it
  quiet-parts : HasParts is_connectors s.keys (parts_of (said_under key told.said)) (behind n line h.quiet log)
  quiet-parts = record {
    sealed = contents-behind key is_connectors n line h.quiet log
        ∙ ap (λ (l : List (List ℕ)). contents_in key is_connectors log ++ l) (quiet-none key is_connectors h.quiet h.silent)
        ∙ append-nil (contents_in key is_connectors log) ∙ k.parts.sealed;
    counter = k.parts.counter;
  }

  later-is : later ≡ behind n line h.sealed.seals (behind n line h.quiet log)
  later-is = ap (λ (es : List SealEntry). behind n line es log) h.seals ∙ behind-append n line h.quiet h.sealed.seals log

  parts-behind : HasParts is_connectors h.sealed.keys (parts_of (said_under key told.said) ++ parts_of h.words) later
  parts-behind =
      subst (λ (l : List Logged). HasParts is_connectors h.sealed.keys (parts_of (said_under key told.said) ++ parts_of h.words) l) (sym later-is)
      (subst (λ (l : List (List ℕ)). HasParts is_connectors h.sealed.keys (parts_of (said_under key told.said) ++ l) (behind n line h.sealed.seals (behind n line h.quiet log))) (parts-are h.words)
      (frames-parts is_connectors n line (map frame_of h.words) (behind n line h.quiet log) s.keys h.sealed (parts_of (said_under key told.said)) passes h.made quiet-parts))

  fits-behind : length (parts_of (said_under key told.said) ++ parts_of h.words) ≤ 2 ^ 64
  fits-behind = let low = sealed-so.low k.fits in omega (arith, low, parts-behind.counter)

  -- its words
  true-words : (words : List Spoken) → AreWords (WasSent K name) before h.quiet words → AreTrueWords K name before words
  true-words words NoWord = tt
  true-words words (OneWord x drawn) = (by_word x drawn, tt)
    where
      by_word : (y : Spoken) → IsDrawnIn h.quiet y → IsTrueWord K name before y
      by_word (Signs code) d = tt
      by_word (Idents mon_client gid flags cookie) d = tt
      by_word (Reconnects mon_client session) d = tt
      by_word (Orders order) d = absurd d
      by_word (KeepsUp ack) d = tt
  true-words words (SomeOrders cookie orders here were) = over orders were
    where
      over : (xs : List (ℕ × Operation)) → AllByRecursion (WasSent K name cookie) xs → AreTrueWords K name before (map Orders xs)
      over [] a = tt
      over (x ∷ xs) a = ((cookie, a.0.0, here, a.0.1), over xs a.1)

  ident-drawn : (words : List Spoken) → AreWords (WasSent K name) before h.quiet words → (mon_client : MonClient) (gid flags cookie : ℕ) → Contains words (Idents mon_client gid flags cookie)
      → Contains h.quiet (entry.Drawn (draw.Cookie cookie))
  ident-drawn words NoWord mon_client gid flags cookie has = absurd (omega (arith, has.1))
  ident-drawn words (OneWord x drawn) mon_client gid flags cookie has = by_one (Contains-push_cases [] x (Idents mon_client gid flags cookie) has)
    where
      by_one : Contains {X = Spoken} [] (Idents mon_client gid flags cookie) ⊎ (x ≡ Idents mon_client gid flags cookie) → Contains h.quiet (entry.Drawn (draw.Cookie cookie))
      by_one (inl none_there) = absurd (omega (arith, none_there.1))
      by_one (inr same) = subst (λ (y : Spoken). IsDrawnIn h.quiet y) same drawn
  ident-drawn words (SomeOrders other orders here were) mon_client gid flags cookie has = absurd (no-ident orders has)
    where
      no-ident : (xs : List (ℕ × Operation)) → Contains (map Orders xs) (Idents mon_client gid flags cookie) → ⊥
      no-ident [] c = omega (arith, c.1)
      no-ident (x ∷ xs) c = by_place (cons-cases (Orders x) (map Orders xs) (Idents mon_client gid flags cookie) c) (λ there. no-ident xs there)
        where
          by_place : (Orders x ≡ Idents mon_client gid flags cookie) ⊎ Contains (map Orders xs) (Idents mon_client gid flags cookie) → (Contains (map Orders xs) (Idents mon_client gid flags cookie) → ⊥) → ⊥
          by_place (inl same) rest = absurd cc
          by_place (inr there) rest = rest there

  all-seals : (cookie : ℕ) → Contains h.quiet (entry.Drawn (draw.Cookie cookie)) → Contains row.seals (entry.Drawn (draw.Cookie cookie))
  all-seals cookie has =
      subst (λ (es : List SealEntry). Contains es (entry.Drawn (draw.Cookie cookie))) (sym h.seals) (Contains-append_left h.quiet h.sealed.seals (entry.Drawn (draw.Cookie cookie)) has)

  repeats-cookie : (cookie : ℕ) (earlier : List Logged) → HasCookie earlier cookie → SomeOf (λ (at : Logged). RepeatsIn (draw.Cookie cookie) at.entry) earlier
  repeats-cookie cookie [] has = absurd has
  repeats-cookie cookie (at ∷ earlier) (inl here) = inl (subst (λ (e : SealEntry). RepeatsIn (draw.Cookie cookie) e) (sym here) refl)
  repeats-cookie cookie (at ∷ earlier) (inr rest) = inr (repeats-cookie cookie earlier rest)

  pub speaks : Speaks vs told log later K row.seals name key h.words
  speaks = record {
    before = s.keys;
    keys = h.sealed.keys;
    key_is = sealed-so.key_is;
    four = ap (λ (l : List ℕ). length l) fixed-is ∙ k.four;
    connector = subst (λ (l : List ℕ). (m : ℕ) (plain : List ℕ) → is_connectors (nonce_at l m ++ plain) ≡ true) (sym fixed-is) passes;
    parts = parts-behind;
    fits = fits-behind;
    others = λ other whose tie is apart.
        ap (λ (es : List SealEntry). contents_by other is_connectors es) h.seals
        ∙ by-append other is_connectors h.quiet h.sealed.seals (quiet-none other is_connectors h.quiet h.silent) (sealed-so.others other is_connectors apart);
    true_words = subst (λ (o : Option ℕ). AreTrueWords K name o h.words) (sym k.session) (true-words h.words h.said);
    frames = words-fit h.words sealed-so.fit;
    drawn = λ mon_client gid flags cookie has.
        drawn-there n line (draw.Cookie cookie) row.seals log (all-seals cookie (ident-drawn h.words h.said mon_client gid flags cookie has));
    fresh = λ mon_client gid flags cookie has other a.
        drawn-new run.leaked whole n line (draw.Cookie cookie) row.seals log g (all-seals cookie (ident-drawn h.words h.said mon_client gid flags cookie has))
        (repeats-cookie cookie log (t.cookies other cookie a));
  }

  same-nonces : NoncesMove told later told.nonces
  same-nonces = record {
    keeps = λ nonce whose other bound stands. stands;
    drawn = λ nonce shown. some-behind (λ (at : Logged). at.entry ≡ entry.Drawn (draw.Nonce nonce)) n line row.seals log (t.nonces nonce shown);
  }

  bound-here : IsBound next key name (raised k.nonce)
  bound-here = record { nonce = k.nonce; number = number; low = k.low; tied = refl; stands = k.stands }

  -- all that is known behind it
  pub row-told : AreTold run vs next later K
  row-told = told-speaks run whole us vs told log J K n line row.seals one_before one f w i none t name key (raised k.nonce) k.is h.words told.nonces speaks same-nonces bound-here

  -- and the link, where it goes on
  pub row-keyed : (r : Secured) → r.keys ≡ h.sealed.keys → IsKeyed vs next later name number r (cookie_behind before h.words)
  row-keyed r same =
      let same_key : r.keys.key ≡ key = ap (λ (x : Keys). x.key) same ∙ sealed-so.key_is in
      let same_fixed : r.keys.out.fixed ≡ s.keys.out.fixed = ap (λ (x : Keys). x.out.fixed) same ∙ fixed-is in
      let said_is : said_under key next.said ≡ said_under key told.said ++ h.words =
      said-append key told.said (tagged key h.words) ∙ ap (λ (l : List Spoken). said_under key told.said ++ l) (said-own key h.words) in
      let parts_is : parts_of (said_under key next.said) ≡ parts_of (said_under key told.said) ++ parts_of h.words =
      ap (λ (l : List Spoken). parts_of l) said_is ∙ parts-append (said_under key told.said) h.words in
      let low = sealed-so.low k.fits in
      let counter : r.keys.out.counter ≡ h.sealed.keys.out.counter = ap (λ (x : Keys). x.out.counter) same in
      record {
        nonce = k.nonce;
        low = k.low;
        is = subst (λ (l : List ℕ). IsLinkKey vs l name (raised k.nonce)) (sym same_key) (link-grows us vs key name (raised k.nonce) f k.is);
        stands = subst (λ (l : List ℕ). told.nonces k.nonce ≡ Bound name number l) (sym same_key) k.stands;
        parts = subst (λ (x : Keys). HasParts is_connectors x (parts_of (said_under x.key next.said)) later) (sym same)
            (subst (λ (l : List ℕ). HasParts is_connectors h.sealed.keys (parts_of (said_under l next.said)) later) (sym sealed-so.key_is)
            (subst (λ (l : List (List ℕ)). HasParts is_connectors h.sealed.keys l later) (sym parts_is) parts-behind));
        connector = subst IsOfConnector (sym same_fixed) k.connector;
        four = ap (λ (l : List ℕ). length l) same_fixed ∙ k.four;
        fits = omega (arith, low, counter);
        session = ap (λ (l : List ℕ). cookie_behind None (said_under l next.said)) same_key ∙ ap (λ (l : List Spoken). cookie_behind None l) said_is
            ∙ cookie-append None (said_under key told.said) h.words ∙ ap (λ (o : Option ℕ). cookie_behind o h.words) k.session;
      }
