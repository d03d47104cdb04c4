-- What a connector speaks on its link is known behind the step that seals it: it is the next of what its key's connector sealed.
use Rattle.std.proofs.Common.{◌≡◌, ℕ, ◌+◌, ◌≤◌, ◌^◌, Bool, true, false, List, [], ◌∷◌, ◌++◌, length, Option, Some, None, inl, inr, ◌⊎◌, refl, sym, ap, ◌∙◌, subst, arith, append-nil}
use Rattle.std.proofs.lemmas.List.Elements.{Contains-append_cases, Contains-append_left, Contains-append_right, Contains-push, Contains-push_cases}
use Rattle.std.proofs.lemmas.Slice.Eq.{bytes_eq-Decides}
use Rattle.std.specs.Prelude.{Contains, if◌then◌else◌}
use Rattle.std.specs.List.{AllByRecursion}
use Rattle.std.specs.Str.{bytes_eq}
use Rattle.cx_base.specs.Names.{Name}
use Rattle.cx_base.specs.declared.nodes.NodeName.{NodeName}
use Rattle.cx_frame.specs.Frames.{total}
use Rattle.cx_journal.specs.declared.entries.Admitted.{Admitted}
use Rattle.cx_journal.specs.declared.entries.Entry.{Entry}
use Rattle.cx_journal.specs.declared.entries.Entry.TheVariants as journal
use Rattle.cx_laws_keys.proofs.keys.Known.{Inv, Within}
use Rattle.cx_laws_keys.proofs.keys.Lists.{all-append}
use Rattle.cx_laws_keys.proofs.keys.Premises.{behind}
use Rattle.cx_laws_keys.proofs.keys.Uses.{AtDaemon, Connected, Grows, Means, Use, Uses, WholeRun}
use Rattle.cx_laws_keys.proofs.series.Contents.{contents-behind, contents_by, contents_in}
use Rattle.cx_laws_keys.proofs.series.Frames.{HasParts}
use Rattle.cx_laws_keys.specs.cx_rules.specs.Holdings.{MonClient}
use Rattle.cx_laws_keys.specs.cx_rules.specs.Secured.{Keys}
use Rattle.cx_secure.specs.Contents.{sealed_contents}
use Rattle.cx_secure.specs.Parts.{nonce_at}
use Rattle.cx_steps.specs.declared.seals.DrawMark.TheVariants as draw
use Rattle.cx_steps.specs.declared.seals.Logged.{Logged}
use Rattle.cx_steps.specs.declared.seals.SealEntry.{SealEntry}
use Rattle.cx_steps.specs.declared.seals.SealEntry.TheVariants as entry
use Rattle.cx_laws_links.proofs.links.Known.{AreTold, AreTrueWords, AsksFor, Bound, HasCookie, HasNonce, IsAsked, IsBound, IsJoined, IsSpoken, NoncePlace, Told, Unshown}
use Rattle.cx_laws_links.proofs.links.Lifting.{link-grows, silent-before, some-behind, words-grow}
use Rattle.cx_laws_links.proofs.links.Spoken.{Idents, Spoken, cookie_after, cookie_behind, frame_of, if_under, is_connectors, parts-append, parts_of, said_under, tagged}
use Rattle.cx_laws_links.proofs.links.Taking.{AreFrames}
use Rattle.cx_laws_links.proofs.links.Written.{IsLinkKey, IsWritten, written-stays}

-- ---- by key

pub itself : (key : List ℕ) → bytes_eq key key ≡ true
itself key = (bytes_eq-Decides key key).1 refl

pub said-append : (key : List ℕ) (xs ys : List (List ℕ × Spoken)) → said_under key (xs ++ ys) ≡ said_under key xs ++ said_under key ys
said-append key [] ys = refl
said-append key (p ∷ xs) ys = by_test (bytes_eq p.0 key) (said-append key xs ys)
  where
    by_test : (here : Bool) → said_under key (xs ++ ys) ≡ said_under key xs ++ said_under key ys
        → if_under here p.1 (said_under key (xs ++ ys)) ≡ if_under here p.1 (said_under key xs) ++ said_under key ys
    by_test true rest = ap (λ (l : List Spoken). p.1 ∷ l) rest
    by_test false rest = rest

pub said-own : (key : List ℕ) (xs : List Spoken) → said_under key (tagged key xs) ≡ xs
said-own key [] = refl
said-own key (x ∷ xs) = ap (λ (here : Bool). if_under here x (said_under key (tagged key xs))) (itself key) ∙ ap (λ (l : List Spoken). x ∷ l) (said-own key xs)

pub said-other : (key other : List ℕ) → bytes_eq other key ≡ false → (xs : List Spoken) → said_under key (tagged other xs) ≡ []
said-other key other apart [] = refl
said-other key other apart (x ∷ xs) = ap (λ (here : Bool). if_under here x (said_under key (tagged other xs))) apart ∙ said-other key other apart xs

-- what is said under a key is among all that is said
pub said-has : (key : List ℕ) (all : List (List ℕ × Spoken)) (x : Spoken) (xs : List Spoken) → said_under key all ≡ x ∷ xs → Contains all (key, x)
said-has key [] x xs is = absurd cc
said-has key (p ∷ all) x xs is = by_test (bytes_eq p.0 key) refl is (λ same. said-has key all x xs same)
  where
    by_test : (here : Bool) → bytes_eq p.0 key ≡ here → if_under here p.1 (said_under key all) ≡ x ∷ xs → (said_under key all ≡ x ∷ xs → Contains all (key, x)) → Contains (p ∷ all) (key, x)
    by_test true e is rest =
        let same : p.0 ≡ key = (bytes_eq-Decides p.0 key).0 e in
        let word : p.1 ≡ x = cc in
        let whole : p ≡ (key, x) = ap (λ (k : List ℕ). (k, p.1)) same ∙ ap (λ (w : Spoken). (key, w)) word in
        Contains-append_left (p ∷ []) all (key, x) (subst (λ (q : List ℕ × Spoken). Contains (p ∷ []) q) whole (Contains-push [] p))
    by_test false e is rest = Contains-append_right (p ∷ []) all (key, x) (rest is)

-- the first, or one of the others
pub cons-cases : {X : Type 0} (y : X) (ys : List X) (x : X) → Contains (y ∷ ys) x → (y ≡ x) ⊎ Contains ys x
cons-cases {X} y ys x has = by_place (Contains-append_cases (y ∷ []) ys x has)
  where
    none : Contains {X = X} [] x → ⊥
    none h = omega (arith, h.1)

    by_first : Contains {X = X} [] x ⊎ (y ≡ x) → (y ≡ x) ⊎ Contains ys x
    by_first (inl h) = absurd (none h)
    by_first (inr same) = inl same

    by_place : Contains (y ∷ []) x ⊎ Contains ys x → (y ≡ x) ⊎ Contains ys x
    by_place (inl here) = by_first (Contains-push_cases [] y x here)
    by_place (inr there) = inr there

tagged-key : (key other : List ℕ) (words : List Spoken) (x : Spoken) → Contains (tagged key words) (other, x) → (other ≡ key) × Contains words x
tagged-key key other [] x has = absurd (none has)
  where
    none : Contains {X = List ℕ × Spoken} [] (other, x) → ⊥
    none h = omega (arith, h.1)
tagged-key key other (v ∷ words) x has = by_place (cons-cases (key, v) (tagged key words) (other, x) has) (λ there. tagged-key key other words x there)
  where
    by_place : (let p : List ℕ × Spoken = (key, v) in let q : List ℕ × Spoken = (other, x) in p ≡ q) ⊎ Contains (tagged key words) (other, x) → (Contains (tagged key words) (other, x) → (other ≡ key) × Contains words x)
        → (other ≡ key) × Contains (v ∷ words) x
    by_place (inl here) rest = (
      ap (λ (p : List ℕ × Spoken). p.0) (sym here),
      Contains-append_left (v ∷ []) words x (subst (λ (q : Spoken). Contains (v ∷ []) q) (ap (λ (p : List ℕ × Spoken). p.1) here) (Contains-push [] v)),
    )
    by_place (inr there) rest = let both = rest there in (both.0, Contains-append_right (v ∷ []) words x both.1)

pub words-append : (J : List Entry) (name : Name) (before : Option ℕ) (xs ys : List Spoken) → AreTrueWords J name before xs → AreTrueWords J name (cookie_behind before xs) ys
    → AreTrueWords J name before (xs ++ ys)
words-append J name before [] ys h g = g
words-append J name before (x ∷ xs) ys h g = (h.0, words-append J name (cookie_after before x) xs ys h.1 g)

none-sealed : (fixed : List ℕ) → sealed_contents fixed 0 [] ≡ []
unfolding sealed_contents
none-sealed fixed = refl

-- all that was spoken under the key of a link of this entity is true, and fits into frames
module _ (run : WholeRun) (us : Uses) (told : Told) (log : List Logged) (J : List Entry) (one : (k : List ℕ) (u v : Use) → Means us k u → Means us k v → u ≡ v) (t : AreTold run us told log J)
    (key : List ℕ) (name : Name) (tie : ℕ) (is : IsLinkKey us key name tie) where
  abbrev name-of : Use → Name
  name-of (Connected acceptor number other bound) = other
  name-of _ = name

  so-far : AreTrueWords J name None (said_under key told.said) × AreFrames (said_under key told.said)
  so-far = by_said (said_under key told.said) refl
    where
      by_said : (xs : List Spoken) → said_under key told.said ≡ xs → AreTrueWords J name None xs × AreFrames xs
      by_said [] e = (tt, tt)
      by_said (x ∷ xs) e =
          let h : IsSpoken us told log J key = t.spoken key x (said-has key told.said x xs e) in
          let same : h.name ≡ name = ap name-of (one key (Connected h.is.acceptor h.is.number h.name (AtDaemon h.is.service h.tie)) (Connected is.acceptor is.number name (AtDaemon is.service tie)) h.is.means is.means) in (
            subst (λ (l : List Spoken). AreTrueWords J name None l) e (subst (λ (m : Name). AreTrueWords J m None (said_under key told.said)) same h.words),
            subst AreFrames e h.frames,
          )

-- ---- a step that speaks

-- what a step says on a link: these words, next under its key, each true where it is said; an ident's cookie is drawn and no other link asks for it
pub record Speaks (vs : Uses) (told : Told) (log : List Logged) (later : List Logged) (K : List Entry) (es : List SealEntry) (name : Name) (key : List ℕ) (words : List Spoken) : Type 0 where
  pub before : Keys
  pub keys : Keys
  pub key_is : keys.key ≡ key
  pub four : length keys.out.fixed ≡ 4
  pub connector : (m : ℕ) (plain : List ℕ) → is_connectors (nonce_at keys.out.fixed m ++ plain) ≡ true
  pub parts : HasParts is_connectors keys (parts_of (said_under key told.said) ++ parts_of words) later
  pub fits : length (parts_of (said_under key told.said) ++ parts_of words) ≤ 2 ^ 64
  pub others : (other : List ℕ) (whose : Name) (tie : ℕ) → IsLinkKey vs other whose tie → bytes_eq key other ≡ false → contents_by other is_connectors es ≡ []
  pub true_words : AreTrueWords K name (cookie_behind None (said_under key told.said)) words
  pub frames : AreFrames words
  pub drawn : (mon_client : MonClient) (gid flags cookie : ℕ) → Contains words (Idents mon_client gid flags cookie) → HasCookie later cookie
  pub fresh : (mon_client : MonClient) (gid flags cookie : ℕ) → Contains words (Idents mon_client gid flags cookie) → (other : List ℕ) → AsksFor told.said other cookie → ⊥

-- where nonces stand behind it: those that are bound stay so, and what is shown was drawn
pub record NoncesMove (told : Told) (later : List Logged) (nonces : ℕ → NoncePlace) : Type 0 where
  pub keeps : (nonce : ℕ) (name : Name) (number : ℕ) (key : List ℕ) → told.nonces nonce ≡ Bound name number key → nonces nonce ≡ Bound name number key
  pub drawn : (nonce : ℕ) → (nonces nonce ≡ Unshown → ⊥) → HasNonce later nonce

abbrev pub speaking : Told → (ℕ → NoncePlace) → List ℕ → List Spoken → Told
speaking told nonces key words = record told { said = told.said ++ tagged key words; nonces = nonces }

module _ (run : WholeRun) (whole : List Logged) (us vs : Uses) (told : Told) (log : List Logged) (J K : List Entry) (n : NodeName) (line : ℕ) (es : List SealEntry)
    (one_before : (k : List ℕ) (u v : Use) → Means us k u → Means us k v → u ≡ v) (one : (k : List ℕ) (u v : Use) → Means vs k u → Means vs k v → u ≡ v)
    (f : Grows us vs) (w : Within J K) (i : Inv run whole us log J) (none : (session : Admitted) → Contains K (journal.Admitted session) → Contains J (journal.Admitted session))
    (t : AreTold run us told log J) (name : Name) (key : List ℕ) (tie : ℕ) (is : IsLinkKey us key name tie) (words : List Spoken) (nonces : ℕ → NoncePlace)
    (s : Speaks vs told log (behind n line es log) K es name key words) (m : NoncesMove told (behind n line es log) nonces) (b : IsBound (speaking told nonces key words) key name tie) where
  abbrev next : Told
  next = speaking told nonces key words

  abbrev later : List Logged
  later = behind n line es log

  own-said : said_under key next.said ≡ said_under key told.said ++ words
  own-said = said-append key told.said (tagged key words) ∙ ap (λ (l : List Spoken). said_under key told.said ++ l) (said-own key words)

  own-parts : parts_of (said_under key next.said) ≡ parts_of (said_under key told.said) ++ parts_of words
  own-parts = ap parts_of own-said ∙ parts-append (said_under key told.said) words

  other-said : (other : List ℕ) → bytes_eq key other ≡ false → said_under other next.said ≡ said_under other told.said
  other-said other apart =
      said-append other told.said (tagged key words) ∙ ap (λ (l : List Spoken). said_under other told.said ++ l) (said-other other key apart words) ∙ append-nil (said_under other told.said)

  own-contents : contents_in key is_connectors later ≡ sealed_contents s.keys.out.fixed 0 (parts_of (said_under key next.said))
  own-contents = subst (λ (k : List ℕ). contents_in k is_connectors later ≡ sealed_contents s.keys.out.fixed 0 (parts_of (said_under key told.said) ++ parts_of words)) s.key_is s.parts.sealed
      ∙ ap (λ (l : List (List ℕ)). sealed_contents s.keys.out.fixed 0 l) (sym own-parts)

  own-written : IsWritten later next.said key
  own-written = record {
    fixed = s.keys.out.fixed;
    four = s.four;
    connector = s.connector;
    contents = own-contents;
    fits = subst (λ (l : List (List ℕ)). length l ≤ 2 ^ 64) (sym own-parts) s.fits;
  }

  own-spoken : IsSpoken vs next later K key
  own-spoken = let before = so-far run us told log J one_before t key name tie is in record {
    name = name;
    tie = tie;
    is = link-grows us vs key name tie f is;
    written = own-written;
    words = subst (λ (l : List Spoken). AreTrueWords K name None l) (sym own-said)
        (words-append K name None (said_under key told.said) words (words-grow J K name w None (said_under key told.said) before.0) s.true_words);
    frames = subst AreFrames (sym own-said) (all-append (λ (x : Spoken). total (frame_of x) ≤ 1048576) (said_under key told.said) words before.1 s.frames);
    bound = b;
  }

  bound-stays : (other : List ℕ) (whose : Name) (tied : ℕ) → IsBound told other whose tied → IsBound next other whose tied
  bound-stays other whose tied h = record { nonce = h.nonce; number = h.number; low = h.low; tied = h.tied; stands = m.keeps h.nonce whose h.number other h.stands }

  other-spoken : (other : List ℕ) → bytes_eq key other ≡ false → IsSpoken us told log J other → IsSpoken vs next later K other
  other-spoken other apart h = record {
    name = h.name;
    tie = h.tie;
    is = link-grows us vs other h.name h.tie f h.is;
    written = moved (written-stays n line es log told.said other (s.others other h.name h.tie (link-grows us vs other h.name h.tie f h.is) apart) h.written);
    words = subst (λ (l : List Spoken). AreTrueWords K h.name None l) (sym (other-said other apart)) (words-grow J K h.name w None (said_under other told.said) h.words);
    frames = subst AreFrames (sym (other-said other apart)) h.frames;
    bound = bound-stays other h.name h.tie h.bound;
  }
    where
      moved : IsWritten later told.said other → IsWritten later next.said other
      moved v = record {
        fixed = v.fixed;
        four = v.four;
        connector = v.connector;
        contents = v.contents ∙ ap (λ (l : List Spoken). sealed_contents v.fixed 0 (parts_of l)) (sym (other-said other apart));
        fits = subst (λ (l : List Spoken). length (parts_of l) ≤ 2 ^ 64) (sym (other-said other apart)) v.fits;
      }

  by-key : (other : List ℕ) → (same : Bool) → bytes_eq key other ≡ same → (bytes_eq key other ≡ false → IsSpoken us told log J other) → IsSpoken vs next later K other
  by-key other true e h = subst (λ (k : List ℕ). IsSpoken vs next later K k) ((bytes_eq-Decides key other).0 e) own-spoken
  by-key other false e h = other-spoken other e (h e)

  all-spoken : (other : List ℕ) (x : Spoken) → Contains next.said (other, x) → IsSpoken vs next later K other
  all-spoken other x has = by_place (Contains-append_cases told.said (tagged key words) (other, x) has)
    where
      by_place : Contains told.said (other, x) ⊎ Contains (tagged key words) (other, x) → IsSpoken vs next later K other
      by_place (inl was) = by-key other (bytes_eq key other) refl (λ apart. t.spoken other x was)
      by_place (inr now) = subst (λ (k : List ℕ). IsSpoken vs next later K k) (sym (tagged-key key other words x now).0) own-spoken

  all-silent : (other : List ℕ) (whose : Name) (tied : ℕ) → IsLinkKey vs other whose tied → said_under other next.said ≡ [] → contents_in other is_connectors later ≡ []
  all-silent other whose tied link empty = by_test (bytes_eq key other) refl
    where
      by_test : (same : Bool) → bytes_eq key other ≡ same → contents_in other is_connectors later ≡ []
      by_test true e =
          let same : key ≡ other = (bytes_eq-Decides key other).0 e in
          subst (λ (k : List ℕ). contents_in k is_connectors later ≡ []) same
          (own-contents ∙ ap (λ (l : List Spoken). sealed_contents s.keys.out.fixed 0 (parts_of l)) (ap (λ (k : List ℕ). said_under k next.said) same ∙ empty) ∙ none-sealed s.keys.out.fixed)
      by_test false e =
          contents-behind other is_connectors n line es log ∙ ap (λ (l : List (List ℕ)). contents_in other is_connectors log ++ l) (s.others other whose tied link e)
          ∙ append-nil (contents_in other is_connectors log) ∙ silent-before run whole us vs told log J one f i t other whose tied link (sym (other-said other e) ∙ empty)

  -- who asks for a session behind it
  asks-of : (other : List ℕ) (cookie : ℕ) → AsksFor next.said other cookie → AsksFor told.said other cookie ⊎ ((other ≡ key) × (mon_client : MonClient) × (gid : ℕ) × (flags : ℕ) × Contains words (Idents mon_client gid flags cookie))
  asks-of other cookie a = by_place (Contains-append_cases told.said (tagged key words) (other, Idents a.mon_client a.gid a.flags cookie) a.asks)
    where
      by_place : Contains told.said (other, Idents a.mon_client a.gid a.flags cookie) ⊎ Contains (tagged key words) (other, Idents a.mon_client a.gid a.flags cookie)
          → AsksFor told.said other cookie ⊎ ((other ≡ key) × (mon_client : MonClient) × (gid : ℕ) × (flags : ℕ) × Contains words (Idents mon_client gid flags cookie))
      by_place (inl was) = inl (record { mon_client = a.mon_client; gid = a.gid; flags = a.flags; asks = was })
      by_place (inr now) = let k = tagged-key key other words (Idents a.mon_client a.gid a.flags cookie) now in inr (k.0, a.mon_client, a.gid, a.flags, k.1)

  abbrev AskedNow : List ℕ → ℕ → Type 0
  AskedNow other cookie = AsksFor told.said other cookie ⊎ ((other ≡ key) × (mon_client : MonClient) × (gid : ℕ) × (flags : ℕ) × Contains words (Idents mon_client gid flags cookie))

  drew : (other : List ℕ) (cookie : ℕ) → AskedNow other cookie → HasCookie later cookie
  drew other cookie (inl was) = some-behind (λ (at : Logged). at.entry ≡ entry.Drawn (draw.Cookie cookie)) n line es log (t.cookies other cookie was)
  drew other cookie (inr now) = s.drawn now.1 now.2 now.3 cookie now.4

  alone : (first second : List ℕ) (cookie : ℕ) → AskedNow first cookie → AskedNow second cookie → first ≡ second
  alone first second cookie (inl a) (inl b) = t.once first second cookie a b
  alone first second cookie (inl a) (inr b) = absurd (s.fresh b.1 b.2 b.3 cookie b.4 first a)
  alone first second cookie (inr a) (inl b) = absurd (s.fresh a.1 a.2 a.3 cookie a.4 second b)
  alone first second cookie (inr a) (inr b) = a.0 ∙ sym b.0

  -- so all of it is known behind the step
  pub told-speaks : AreTold run vs next later K
  told-speaks = record {
    spoken = all-spoken;
    silent = all-silent;
    cookies = λ other cookie a. drew other cookie (asks-of other cookie a);
    once = λ first second cookie a b. alone first second cookie (asks-of first cookie a) (asks-of second cookie b);
    nonces = m.drawn;
    joined = λ session has. let h : IsJoined us told session = t.joined session (none session has) in
        record { key = h.key; tie = h.tie; is = link-grows us vs h.key session.entity h.tie f h.is; joined = h.joined };
    asked = λ other cookie has. let h : IsAsked run us told other cookie = t.asked other cookie has in
        record {
          name = h.name;
          tie = h.tie;
          is = link-grows us vs other h.name h.tie f h.is;
          asks = λ free. let a : AsksFor told.said other cookie = h.asks free in
              record { mon_client = a.mon_client; gid = a.gid; flags = a.flags; asks = Contains-append_left told.said (tagged key words) (other, Idents a.mon_client a.gid a.flags cookie) a.asks };
        };
  }
