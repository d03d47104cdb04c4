-- What is known of all that was said on links to daemons stays so behind a step that seals nothing there as a connector, whatever keys it draws.
use Rattle.std.proofs.Common.{◌≡◌, ℕ, Bool, true, false, List, [], ◌∷◌, ◌++◌, Option, Some, None, inl, inr, ◌⊎◌, refl, sym, ap, ◌∙◌, subst, append-nil}
use Rattle.std.proofs.lemmas.Slice.Eq.{bytes_eq-Decides}
use Rattle.std.specs.Prelude.{◌&&◌, Contains}
use Rattle.std.specs.List.{AllByRecursion, cons_option}
use Rattle.std.specs.Str.{bytes_eq}
use Rattle.cx_base.specs.Names.{Name}
use Rattle.cx_base.specs.declared.nodes.NodeName.{NodeName}
use Rattle.cx_journal.specs.declared.entries.Admitted.{Admitted}
use Rattle.cx_journal.specs.declared.entries.Entry.{Entry}
use Rattle.cx_journal.specs.declared.entries.Entry.TheVariants as journal
use Rattle.cx_laws_keys.proofs.keys.Known.{Inv, IsAllowed, Within}
use Rattle.cx_laws_keys.proofs.keys.Premises.{behind}
use Rattle.cx_laws_keys.proofs.keys.Uses.{AtDaemon, Connected, Grows, Means, Use, Uses, WholeRun}
use Rattle.cx_laws_keys.proofs.series.Contents.{content_of, content_where, contents-behind, contents_by, contents_in}
use Rattle.cx_steps.specs.Onto.{SomeOf}
use Rattle.cx_steps.specs.declared.seals.DrawMark.TheVariants as draw
use Rattle.cx_steps.specs.declared.seals.Logged.{Logged}
use Rattle.cx_steps.specs.declared.seals.SealEntry.{SealEntry}
use Rattle.cx_steps.specs.declared.seals.SealEntry.TheVariants as entry
use Rattle.cx_steps.specs.declared.seals.SealMark.{SealMark}
use Rattle.cx_laws_links.proofs.links.Known.{AreTold, AreTrueWords, IsAsked, IsJoined, IsSpoken, IsTrueWord, Told}
use Rattle.cx_laws_links.proofs.links.Spoken.{Idents, KeepsUp, Orders, Reconnects, Signs, Spoken, cookie_after, is_connectors, said_under}
use Rattle.cx_laws_links.proofs.links.Written.{IsLinkKey, written-stays}

pub link-grows : (us vs : Uses) (key : List ℕ) (name : Name) (tie : ℕ) → Grows us vs → IsLinkKey us key name tie → IsLinkKey vs key name tie
link-grows us vs key name tie f h = record {
  acceptor = h.acceptor;
  number = h.number;
  service = h.service;
  means = f.means key (Connected h.acceptor h.number name (AtDaemon h.service tie)) h.means;
}

-- what is true of the words stays so in a longer journal
pub words-grow : (J K : List Entry) (name : Name) → Within J K → (before : Option ℕ) (xs : List Spoken) → AreTrueWords J name before xs → AreTrueWords K name before xs
words-grow J K name w before [] h = tt
words-grow J K name w before (x ∷ xs) h = (by_word x h.0, words-grow J K name w (cookie_after before x) xs h.1)
  where
    by_word : (y : Spoken) → IsTrueWord J name before y → IsTrueWord K name before y
    by_word (Orders order) t = (t.0, t.1, t.2, w.has _ t.3)
    by_word (Signs code) t = tt
    by_word (Idents mon_client gid flags cookie) t = tt
    by_word (Reconnects mon_client session) t = tt
    by_word (KeepsUp ack) t = tt

-- behind a step the log has what it had
pub some-behind : (P : Logged → Type 0) (n : NodeName) (line : ℕ) (es : List SealEntry) (log : List Logged) → SomeOf P log → SomeOf P (behind n line es log)
some-behind P n line [] log h = h
some-behind P n line (e ∷ es) log h = some-behind P n line es (record { node = n; line = line; entry = e } ∷ log) (inr h)

-- ---- silence

-- where something was sealed under a key as by a connector, the key has a use
sealed-means : (run : WholeRun) (whole : List Logged) (us : Uses) (J : List Entry) (key : List ℕ) (log : List Logged) → AllByRecursion (λ (at : Logged). IsAllowed us J at.node at.entry) log
    → (contents_in key is_connectors log ≡ []) ⊎ ((u : Use) × Means us key u)
sealed-means run whole us J key [] h = inl refl
sealed-means run whole us J key (at ∷ log) h = by_rest (sealed-means run whole us J key log h.1)
  where
    by_mark : (n : NodeName) (mark : SealMark) (there : Bool) → bytes_eq mark.key key ≡ there → IsAllowed us J n (entry.Sealed mark)
        → (content_where (there && is_connectors mark.content) mark.content ≡ None) ⊎ ((u : Use) × Means us key u)
    by_mark n mark false e a = inl refl
    by_mark n mark true e a = inr (a.0, subst (λ (k : List ℕ). Means us k a.0) ((bytes_eq-Decides mark.key key).0 e) a.1)

    by_entry : (n : NodeName) (e : SealEntry) → IsAllowed us J n e → (content_of key is_connectors e ≡ None) ⊎ ((u : Use) × Means us key u)
    by_entry n (entry.Sealed mark) a = by_mark n mark (bytes_eq mark.key key) refl a
    by_entry n (entry.Signed mark) a = inl refl
    by_entry n (entry.Opened mark) a = inl refl
    by_entry n (entry.Checked mark) a = inl refl
    by_entry n (entry.Drawn mark) a = inl refl

    by_both : contents_in key is_connectors log ≡ [] → (content_of key is_connectors at.entry ≡ None) ⊎ ((u : Use) × Means us key u)
        → (contents_in key is_connectors (at ∷ log) ≡ []) ⊎ ((u : Use) × Means us key u)
    by_both none (inl here) =
        inl (ap (λ (o : Option (List ℕ)). contents_in key is_connectors log ++ cons_option o []) here ∙ append-nil (contents_in key is_connectors log) ∙ none)
    by_both none (inr u) = inr u

    by_rest : (contents_in key is_connectors log ≡ []) ⊎ ((u : Use) × Means us key u) → (contents_in key is_connectors (at ∷ log) ≡ []) ⊎ ((u : Use) × Means us key u)
    by_rest (inr u) = inr u
    by_rest (inl none) = by_both none (by_entry at.node at.entry h.0)

-- so a key that has its use but later was silent before
pub silent-before : (run : WholeRun) (whole : List Logged) (us vs : Uses) (told : Told) (log : List Logged) (J : List Entry)
    → ((k : List ℕ) (u v : Use) → Means vs k u → Means vs k v → u ≡ v) → Grows us vs → Inv run whole us log J → AreTold run us told log J
    → (key : List ℕ) (name : Name) (tie : ℕ) → IsLinkKey vs key name tie → said_under key told.said ≡ [] → contents_in key is_connectors log ≡ []
silent-before run whole us vs told log J one f i t key name tie is none = by_use (sealed-means run whole us J key log i.allowed)
  where
    by_use : (contents_in key is_connectors log ≡ []) ⊎ ((u : Use) × Means us key u) → contents_in key is_connectors log ≡ []
    by_use (inl quiet) = quiet
    by_use (inr (u, means)) =
        let same : u ≡ Connected is.acceptor is.number name (AtDaemon is.service tie) = one key u (Connected is.acceptor is.number name (AtDaemon is.service tie)) (f.means key u means) is.means in
        t.silent key name tie (record { acceptor = is.acceptor; number = is.number; service = is.service; means = subst (λ (v : Use). Means us key v) same means }) none

-- ---- a step that speaks nothing

-- where a step seals nothing of a connector under the key of any link, and admits no session, all that is known stays known
pub told-stays : (run : WholeRun) (whole : List Logged) (us vs : Uses) (told : Told) (log : List Logged) (J K : List Entry) (n : NodeName) (line : ℕ) (es : List SealEntry)
    → ((k : List ℕ) (u v : Use) → Means vs k u → Means vs k v → u ≡ v) → Grows us vs → Within J K → Inv run whole us log J
    → ((key : List ℕ) (name : Name) (tie : ℕ) → IsLinkKey vs key name tie → contents_by key is_connectors es ≡ [])
    → ((session : Admitted) → Contains K (journal.Admitted session) → Contains J (journal.Admitted session))
    → AreTold run us told log J → AreTold run vs told (behind n line es log) K
told-stays run whole us vs told log J K n line es one f w i quiet none t = record {
  spoken = λ key x has. let h : IsSpoken us told log J key = t.spoken key x has in
      record {
        name = h.name;
        tie = h.tie;
        is = link-grows us vs key h.name h.tie f h.is;
        written = written-stays n line es log told.said key (quiet key h.name h.tie (link-grows us vs key h.name h.tie f h.is)) h.written;
        words = words-grow J K h.name w None (said_under key told.said) h.words;
        frames = h.frames;
        bound = h.bound;
      };
  silent = λ key name tie is empty.
      contents-behind key is_connectors n line es log ∙ ap (λ (l : List (List ℕ)). contents_in key is_connectors log ++ l) (quiet key name tie is)
      ∙ append-nil (contents_in key is_connectors log) ∙ silent-before run whole us vs told log J one f i t key name tie is empty;
  cookies = λ key cookie a. some-behind (λ (at : Logged). at.entry ≡ entry.Drawn (draw.Cookie cookie)) n line es log (t.cookies key cookie a);
  once = t.once;
  nonces = λ nonce shown. some-behind (λ (at : Logged). at.entry ≡ entry.Drawn (draw.Nonce nonce)) n line es log (t.nonces nonce shown);
  joined = λ session has. let h : IsJoined us told session = t.joined session (none session has) in
      record { key = h.key; tie = h.tie; is = link-grows us vs h.key session.entity h.tie f h.is; joined = h.joined };
  asked = λ key cookie has. let h : IsAsked run us told key cookie = t.asked key cookie has in
      record { name = h.name; tie = h.tie; is = link-grows us vs key h.name h.tie f h.is; asks = h.asks };
}
