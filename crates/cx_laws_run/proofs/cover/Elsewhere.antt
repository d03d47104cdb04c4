-- What is sealed or signed under a key that has nothing to do with logins: neither the session key of a ticket for AUTH, nor the key of a link to the monitor.
use Rattle.std.proofs.Common.{◌≡◌, ◌+◌, ℕ, Bool, true, false, List, [], ◌∷◌, Option, None, Result, Ok, Err, inl, refl, sym, ap, ◌∙◌, subst}
use Rattle.std.proofs.lemmas.Slice.Eq.{bytes_eq-Decides}
use Rattle.std.specs.Prelude.{◌&&◌}
use Rattle.std.specs.List.{AllByRecursion, cons_option}
use Rattle.std.specs.Str.{bytes_eq}
use Rattle.cx_base.specs.declared.nodes.NodeName.TheVariants as node
use Rattle.cx_frame.specs.declared.frame.Frame.{Frame}
use Rattle.cx_journal.specs.declared.faults.BytesFault.{BytesFault}
use Rattle.cx_journal.specs.declared.premises.KeyKind.TheVariants as kind
use Rattle.cx_laws_run.specs.cx_laws_keys.proofs.keys.Lists.{all-append, all-map, all-of-map}
use Rattle.cx_laws_run.specs.cx_laws_keys.proofs.keys.Uses.{AtDaemon, AtMonitor, Connected, Generated, Login, Means, Secret, Ticketed, Use, Uses}
use Rattle.cx_laws_run.specs.cx_laws_keys.proofs.series.Contents.{content_of, content_where, contents_by}
use Rattle.cx_laws_run.specs.cx_laws_keys.proofs.series.Frames.{frame-sealed}
use Rattle.cx_laws_run.specs.cx_rules.specs.Fronts.{opened_parts}
use Rattle.cx_laws_run.specs.cx_rules.specs.Messages.{sealed_behind, sealed_then, secure_frames}
use Rattle.cx_laws_run.specs.cx_rules.specs.Secured.{Keys, SealedFrame, part_seals, secure_frame}
use Rattle.cx_secure.specs.Plains.{plains}
use Rattle.cx_steps.specs.declared.seals.SealEntry.{SealEntry}
use Rattle.cx_steps.specs.declared.seals.SealEntry.TheVariants as entry
use Rattle.cx_steps.specs.declared.seals.SealMark.{SealMark}
use Rattle.cx_laws_run.specs.cx_stream.specs.Openings.{front_contents}
use Rattle.cx_laws_run.specs.cx_stream.specs.SecureStreams.{Ahead}
use Rattle.cx_laws_run.specs.cx_laws_tickets.proofs.fetch.Handed.{IsNoLogin, IsPlain}
use Rattle.cx_laws_run.specs.cx_laws_tickets.proofs.fetch.Later.{of_acceptor, of_connector}
use Rattle.cx_laws_run.specs.cx_laws_tickets.proofs.fetch.MonitorMoves.{IsAnyLogin}
use Rattle.cx_laws_run.specs.cx_laws_tickets.proofs.fetch.RowWords.{AreStill}
use Rattle.cx_laws_run.specs.cx_laws_tickets.proofs.fetch.ToldStays.{SealsNone}

-- a use that has nothing to do with logins
abbrev pub IsElsewhere : Use → Type 0
IsElsewhere (Secret name) = Unit {0}
IsElsewhere (Generated service id) = Unit {0}
IsElsewhere (Login name) = ⊥
IsElsewhere (Ticketed name service) = Unit {0}
IsElsewhere (Connected acceptor number name (AtMonitor challenge)) = ⊥
IsElsewhere (Connected acceptor number name (AtDaemon service nonce)) = Unit {0}

-- a key of such a use
abbrev pub IsUsedElsewhere : Uses → List ℕ → Type 0
IsUsedElsewhere us key = (u : Use) × Means us key u × IsElsewhere u

-- under such a key alone anything is sealed or signed
abbrev pub IsPutElsewhere : Uses → SealEntry → Type 0
IsPutElsewhere us (entry.Sealed mark) = IsUsedElsewhere us mark.key
IsPutElsewhere us (entry.Signed mark) = IsUsedElsewhere us mark.key
IsPutElsewhere us (entry.Opened mark) = Unit {0}
IsPutElsewhere us (entry.Checked mark) = Unit {0}
IsPutElsewhere us (entry.Drawn mark) = Unit {0}

abbrev pub ArePutElsewhere : Uses → List SealEntry → Type 0
ArePutElsewhere us es = AllByRecursion (IsPutElsewhere us) es

-- ---- so it has nothing to do with logins, and is said on no link to the monitor

pub elsewhere-no_login : (u : Use) → IsElsewhere u → IsNoLogin u
elsewhere-no_login u apart name e = subst IsElsewhere e apart

one-plain : (us : Uses) (e : SealEntry) → IsPutElsewhere us e → IsPlain us e
one-plain us (entry.Sealed mark) (u, means, apart) = inl (u, means, elsewhere-no_login u apart)
one-plain us (entry.Signed mark) (u, means, apart) = inl (u, means, elsewhere-no_login u apart)
one-plain us (entry.Opened mark) h = tt
one-plain us (entry.Checked mark) h = tt
one-plain us (entry.Drawn mark) h = tt

pub elsewhere-plain : (us : Uses) (es : List SealEntry) → ArePutElsewhere us es → AllByRecursion (IsPlain us) es
elsewhere-plain us es h = all-map (IsPutElsewhere us) (IsPlain us) (one-plain us) es h

module _ (us : Uses) (one : (k : List ℕ) (u v : Use) → Means us k u → Means us k v → u ≡ v) where
  mark-elsewhere : (key : List ℕ) (test : List ℕ → Bool) (mark : SealMark) → IsAnyLogin us key → IsUsedElsewhere us mark.key → content_of key test (entry.Sealed mark) ≡ None
  mark-elsewhere key test mark (name, challenge, is) (u, means, apart) = by_test (bytes_eq mark.key key) refl
    where
      login : Use
      login = Connected node.Monitor is.number name (AtMonitor challenge)

      by_test : (here : Bool) → bytes_eq mark.key key ≡ here → content_where (here && test mark.content) mark.content ≡ None
      by_test false e = refl
      by_test true e =
          let same : u ≡ login = one key u login (subst (λ (k : List ℕ). Means us k u) ((bytes_eq-Decides mark.key key).0 e) means) is.means in
          absurd (subst IsElsewhere same apart)

  pub elsewhere-still : (es : List SealEntry) → ArePutElsewhere us es → AreStill (IsAnyLogin us) es
  elsewhere-still [] h = λ key test p. refl
  elsewhere-still (entry.Sealed mark ∷ es) h = λ key test p.
      ap (λ (o : Option (List ℕ)). cons_option o (contents_by key test es)) (mark-elsewhere key test mark p h.0) ∙ elsewhere-still es h.1 key test p
  elsewhere-still (entry.Signed mark ∷ es) h = elsewhere-still es h.1
  elsewhere-still (entry.Opened mark ∷ es) h = elsewhere-still es h.1
  elsewhere-still (entry.Checked mark ∷ es) h = elsewhere-still es h.1
  elsewhere-still (entry.Drawn mark ∷ es) h = elsewhere-still es h.1

  pub elsewhere-none : (es : List SealEntry) → ArePutElsewhere us es → SealsNone us es
  elsewhere-none es h = λ key is. (elsewhere-still es h key of_connector is, elsewhere-still es h key of_acceptor is)

-- ---- frames

module _ (us : Uses) where
  -- what opens is put nowhere
  pub opened-elsewhere : (ahead : Ahead) → ArePutElsewhere us (opened_parts ahead)
  opened-elsewhere ahead =
      all-of-map (IsPutElsewhere us) (λ (content : List ℕ). entry.Opened (record { key = ahead.key; kind = kind.Connection; content = content })) (front_contents ahead) (λ content. tt)

  pub parts-elsewhere : (key fixed : List ℕ) (counter : ℕ) (texts : List (List ℕ)) → IsUsedElsewhere us key → ArePutElsewhere us (part_seals key fixed counter texts)
  parts-elsewhere key fixed counter [] used = tt
  parts-elsewhere key fixed counter (text ∷ texts) used = (used, parts-elsewhere key fixed (counter + 1) texts used)

  -- what is sealed under such a key, and goes on under it
  abbrev pub SealedElsewhere : List ℕ → Result SealedFrame BytesFault → Type 0
  SealedElsewhere key (Ok sealed) = ArePutElsewhere us sealed.seals × (sealed.keys.key ≡ key)
  SealedElsewhere key (Err why) = Unit {0}

  pub frame-elsewhere : (keys : Keys) (f : Frame) → IsUsedElsewhere us keys.key → SealedElsewhere keys.key (secure_frame keys f)
  frame-elsewhere keys f used = by_sealed (secure_frame keys f) refl
    where
      by_sealed : (r : Result SealedFrame BytesFault) → secure_frame keys f ≡ r → SealedElsewhere keys.key r
      by_sealed (Err why) made = tt
      by_sealed (Ok sealed) made =
          let is = frame-sealed keys f sealed made in (
            subst (ArePutElsewhere us) (sym (ap (λ (x : SealedFrame). x.seals) is.0)) (parts-elsewhere keys.key keys.out.fixed keys.out.counter (plains f) used),
            ap (λ (x : SealedFrame). x.keys.key) is.0,
          )

  pub frames-elsewhere : (keys : Keys) (fs : List Frame) → IsUsedElsewhere us keys.key → SealedElsewhere keys.key (secure_frames keys fs)
  frames-elsewhere keys [] used = (tt, refl)
  frames-elsewhere keys (f ∷ fs) used = by_first (secure_frame keys f) (frame-elsewhere keys f used) (λ k same. frames-elsewhere k fs (subst (IsUsedElsewhere us) (sym same) used))
    where
      by_rest : (one : SealedFrame) → ArePutElsewhere us one.seals → one.keys.key ≡ keys.key → (r : Result SealedFrame BytesFault) → SealedElsewhere one.keys.key r
          → SealedElsewhere keys.key (sealed_behind one r)
      by_rest one first same (Err why) rest = tt
      by_rest one first same (Ok more) rest = (all-append (IsPutElsewhere us) one.seals more.seals first rest.0, rest.1 ∙ same)

      by_first : (r : Result SealedFrame BytesFault) → SealedElsewhere keys.key r → ((k : Keys) → k.key ≡ keys.key → SealedElsewhere k.key (secure_frames k fs))
          → SealedElsewhere keys.key (sealed_then r (λ one. sealed_behind one (secure_frames one.keys fs)))
      by_first (Err why) ok rest = tt
      by_first (Ok one) ok rest = by_rest one ok.0 ok.1 (secure_frames one.keys fs) (rest one.keys ok.1)
