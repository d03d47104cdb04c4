-- Where nonces move: one is shown on a link for the first time, or a reply to it gives its link a key. Nothing else that is known changes.
use Rattle.std.proofs.Common.{◌≡◌, ℕ, ◌==◌, ◌<◌, ◌≤◌, ◌^◌, Bool, true, false, List, [], ◌∷◌, ◌++◌, length, take, slice_index, Option, Some, None, inl, inr, ◌⊎◌, refl, sym, ap, ◌∙◌, subst, arith}
use Rattle.std.proofs.lemmas.Bool.{eq-eqb, eqb-true}
use Rattle.std.specs.Prelude.{Contains, if◌then◌else◌}
use Rattle.std.specs.List.{AllByRecursion}
use Rattle.cx_laws_tickets.specs.cx_run.specs.cx_authorize.specs.Verdict.{raised}
use Rattle.cx_base.specs.Names.{Name}
use Rattle.cx_journal.specs.declared.entries.Entry.{Entry}
use Rattle.cx_laws_keys.proofs.keys.Known.{HasReply}
use Rattle.cx_laws_keys.proofs.keys.Uses.{Means, Use, Uses, WholeRun}
use Rattle.cx_laws_keys.proofs.series.Contents.{contents_in}
use Rattle.cx_laws_keys.specs.cx_rules.specs.Secured.{Secured, connector_keys}
use Rattle.cx_laws_keys.specs.cx_sealed.specs.declared.authorize_reply.AuthorizeReply.{AuthorizeReply}
use Rattle.cx_secure.specs.Contents.{sealed_contents}
use Rattle.cx_steps.specs.declared.seals.Logged.{Logged}
use Rattle.cx_laws_links.proofs.links.Known.{AreTold, Bound, HasNonce, IsBound, IsKeyed, IsShown, IsSpoken, NoncePlace, Shown, Told, Unshown}
use Rattle.cx_laws_links.proofs.links.Others.{link-one, raised-one}
use Rattle.cx_laws_links.proofs.links.Speaking.{said-has}
use Rattle.cx_laws_links.proofs.links.Spoken.{Spoken, cookie_behind, is_connectors, parts_of, said_under}
use Rattle.cx_laws_links.proofs.links.Written.{IsLinkKey}

-- where nonces stand with one of them here
abbrev pub placed : (ℕ → NoncePlace) → ℕ → NoncePlace → ℕ → NoncePlace
placed nonces nonce place other = if other == nonce then place else nonces other

pub placed-here : (nonces : ℕ → NoncePlace) (nonce : ℕ) (place : NoncePlace) → placed nonces nonce place nonce ≡ place
placed-here nonces nonce place = ap (λ (t : Bool). if t then place else nonces nonce) (eq-eqb nonce nonce refl)

-- the others stand where they stood
pub placed-other : (nonces : ℕ → NoncePlace) (nonce : ℕ) (place was : NoncePlace) (other : ℕ) → nonces other ≡ was → (nonces nonce ≡ was → ⊥) → placed nonces nonce place other ≡ was
placed-other nonces nonce place was other stands apart = by_test (other == nonce) refl
  where
    by_test : (t : Bool) → (other == nonce) ≡ t → (if t then place else nonces other) ≡ was
    by_test true e = absurd (apart (ap nonces (sym (eqb-true other nonce e)) ∙ stands))
    by_test false e = stands

-- all that is known stays so where nonces move and those that are bound stay bound
pub nonces-move : (run : WholeRun) (us : Uses) (told : Told) (log : List Logged) (J : List Entry) (nonces : ℕ → NoncePlace)
    → ((nonce : ℕ) (name : Name) (number : ℕ) (key : List ℕ) → told.nonces nonce ≡ Bound name number key → nonces nonce ≡ Bound name number key)
    → ((nonce : ℕ) → (nonces nonce ≡ Unshown → ⊥) → HasNonce log nonce)
    → AreTold run us told log J → AreTold run us (record told { nonces = nonces }) log J
nonces-move run us told log J nonces keeps drawn t = record {
  spoken = λ key x has. let h : IsSpoken us told log J key = t.spoken key x has in
      record {
        name = h.name;
        tie = h.tie;
        is = h.is;
        written = h.written;
        words = h.words;
        frames = h.frames;
        bound = record { nonce = h.bound.nonce; number = h.bound.number; low = h.bound.low; tied = h.bound.tied; stands = keeps h.bound.nonce h.name h.bound.number key h.bound.stands };
      };
  silent = t.silent;
  cookies = t.cookies;
  once = t.once;
  nonces = drawn;
  joined = λ session has. let h = t.joined session has in record { key = h.key; tie = h.tie; is = h.is; joined = h.joined };
  asked = λ key cookie has. let h = t.asked key cookie has in record { name = h.name; tie = h.tie; is = h.is; asks = h.asks };
}

-- ---- a nonce is shown

pub shown-bound : (name other : Name) (number second : ℕ) (key : List ℕ) → Shown name number ≡ Bound other second key → ⊥
shown-bound name other number second key e = absurd cc

pub bound-unshown : (name : Name) (number : ℕ) (key : List ℕ) → Unshown ≡ Bound name number key → ⊥
bound-unshown name number key e = absurd cc

-- one that was shown to nobody is shown on a link
pub shows : (run : WholeRun) (us : Uses) (told : Told) (log : List Logged) (J : List Entry) (nonce : ℕ) (name : Name) (number : ℕ) → told.nonces nonce ≡ Unshown → HasNonce log nonce
    → AreTold run us told log J → AreTold run us (record told { nonces = placed told.nonces nonce (Shown name number) }) log J
shows run us told log J nonce name number free drawn t =
    nonces-move run us told log J (placed told.nonces nonce (Shown name number))
    (λ other whose second key stands. placed-other told.nonces nonce (Shown name number) (Bound whose second key) other stands (λ is. bound-unshown whose second key (sym free ∙ is)))
    (λ other shown. by_test other (other == nonce) refl shown) t
  where
    by_test : (other : ℕ) (here : Bool) → (other == nonce) ≡ here → ((if here then Shown name number else told.nonces other) ≡ Unshown → ⊥) → HasNonce log other
    by_test other true e shown = subst (λ (m : ℕ). HasNonce log m) (sym (eqb-true other nonce e)) drawn
    by_test other false e shown = t.nonces other shown

pub shown-here : (told : Told) (nonce : ℕ) (name : Name) (number : ℕ) → nonce < 2 ^ 64 → IsShown (record told { nonces = placed told.nonces nonce (Shown name number) }) name number nonce
shown-here told nonce name number low = record { low = low; stands = placed-here told.nonces nonce (Shown name number) }

-- ---- a reply gives the link its key

module _ (run : WholeRun) (us : Uses) (told : Told) (log : List Logged) (J : List Entry) (one : (k : List ℕ) (u v : Use) → Means us k u → Means us k v → u ≡ v) (t : AreTold run us told log J)
    (name : Name) (number nonce : ℕ) (shown : IsShown told name number nonce) (x : AuthorizeReply) (h : HasReply us name x) (answers : x.nonce_plus_one ≡ raised nonce) where
  abbrev key : List ℕ
  key = take 16 x.secret

  abbrev bound_told : Told
  bound_told = record told { nonces = placed told.nonces nonce (Bound name number key) }

  link : IsLinkKey us key name x.nonce_plus_one
  link = record { acceptor = h.acceptor; number = h.number; service = h.service; means = h.means }

  -- nothing was spoken under it yet
  pub unspoken : said_under key told.said ≡ []
  unspoken = by_said (said_under key told.said) refl
    where
      by_said : (xs : List Spoken) → said_under key told.said ≡ xs → xs ≡ []
      by_said [] e = refl
      by_said (y ∷ ys) e =
          let s : IsSpoken us told log J key = t.spoken key y (said-has key told.said y ys e) in
          let both = link-one us one key s.name name s.tie x.nonce_plus_one s.is link in
          let same : s.bound.nonce ≡ nonce = raised-one s.bound.nonce nonce s.bound.low shown.low (s.bound.tied ∙ both.1 ∙ answers) in
          absurd (shown-bound name s.name number s.bound.number key (sym shown.stands ∙ ap (λ (m : ℕ). told.nonces m) (sym same) ∙ s.bound.stands))

  pub binds : AreTold run us bound_told log J
  binds =
      nonces-move run us told log J (placed told.nonces nonce (Bound name number key))
      (λ other whose second k stands. placed-other told.nonces nonce (Bound name number key) (Bound whose second k) other stands (λ is. shown-bound name whose number second k (sym shown.stands ∙ is)))
      (λ other is. by_test other (other == nonce) refl is) t
    where
      was-shown : told.nonces nonce ≡ Unshown → ⊥
      was-shown e = absurd_shown (sym shown.stands ∙ e)
        where
          absurd_shown : Shown name number ≡ Unshown → ⊥
          absurd_shown e = absurd cc

      by_test : (other : ℕ) (here : Bool) → (other == nonce) ≡ here → ((if here then Bound name number key else told.nonces other) ≡ Unshown → ⊥) → HasNonce log other
      by_test other true e is = subst (λ (m : ℕ). HasNonce log m) (sym (eqb-true other nonce e)) (t.nonces nonce was-shown)
      by_test other false e is = t.nonces other is

  none-sealed : (fixed : List ℕ) → sealed_contents fixed 0 [] ≡ []
  unfolding sealed_contents
  none-sealed fixed = refl

  -- and the link has it, from counter 0 on
  pub binds-keyed : (session covered : List ℕ) → IsKeyed us bound_told log name number (record { keys = connector_keys x.secret; session = session; covered = covered }) None
  binds-keyed session covered = record {
    nonce = nonce;
    low = shown.low;
    is = subst (λ (m : ℕ). IsLinkKey us key name m) answers link;
    stands = placed-here told.nonces nonce (Bound name number key);
    parts = record {
      sealed = t.silent key name x.nonce_plus_one link unspoken ∙ sym (ap (λ (l : List Spoken). sealed_contents (connector_keys x.secret).out.fixed 0 (parts_of l)) unspoken ∙ none-sealed (connector_keys x.secret).out.fixed);
      counter = h.counts_out ∙ sym (ap (λ (l : List Spoken). length (parts_of l)) unspoken);
    };
    connector = h.out;
    four = refl;
    fits = let zero : (connector_keys x.secret).out.counter ≡ 0 = h.counts_out in omega (arith, zero);
    session = ap (λ (l : List Spoken). cookie_behind None l) unspoken;
  }
