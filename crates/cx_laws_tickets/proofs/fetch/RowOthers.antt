-- A frame that is spoken seals nothing under the key of another login; and two links of the monitor have no key in common.
use Rattle.std.proofs.Common.{◌≡◌, ℕ, Bool, true, false, List, [], Option, inl, inr, refl, ap, ◌∙◌, subst}
use Rattle.std.proofs.lemmas.Slice.Eq.{bytes_eq-Decides}
use Rattle.std.specs.Str.{bytes_eq}
use Rattle.cx_base.specs.Names.{Name}
use Rattle.cx_base.specs.declared.nodes.NodeName.TheVariants as node
use Rattle.cx_frame.specs.declared.frame.Frame.{Frame}
use Rattle.cx_laws_tickets.specs.cx_laws_keys.proofs.keys.Uses.{AtMonitor, Connected, Means, Use, Uses}
use Rattle.cx_laws_keys.proofs.series.Contents.{contents_by, parts-others}
use Rattle.cx_laws_keys.proofs.series.Frames.{frame-sealed}
use Rattle.cx_laws_keys.specs.cx_rules.specs.Links.{Link}
use Rattle.cx_laws_keys.specs.cx_rules.specs.Rows.{Row}
use Rattle.cx_laws_keys.specs.cx_rules.specs.Secured.{SealedFrame, Secured}
use Rattle.cx_secure.specs.Plains.{plains}
use Rattle.cx_steps.specs.declared.seals.SealEntry.{SealEntry}
use Rattle.cx_laws_tickets.proofs.fetch.MonitorMoves.{both-none}
use Rattle.cx_laws_tickets.proofs.fetch.RowWords.{RowSays}

-- ---- a row

-- what says at most one word under a key seals nothing under another one
pub row-others : {W Own Stage : Type 0} (frame_of : W → Frame) (P : List ℕ → Type 0) (Kept : Option W → Secured → Link Stage → Type 0) (Tells : W → Type 0) (s : Secured) (row : Row Own Stage)
    → RowSays frame_of P Kept Tells s row → (other : List ℕ) → P other → bytes_eq s.keys.key other ≡ false → (test : List ℕ → Bool) → contents_by other test row.seals ≡ []
row-others frame_of P Kept Tells s row (inl h) other p apart test = h.still other test p
row-others frame_of P Kept Tells s row (inr h) other p apart test =
    let seals = ap (λ (x : SealedFrame). x.seals) (frame-sealed s.keys (frame_of h.word) h.sealed h.made).0 in
    ap (λ (es : List SealEntry). contents_by other test es) h.seals
    ∙ both-none other test h.before h.sealed.seals (h.still other test p)
    (ap (λ (es : List SealEntry). contents_by other test es) seals ∙ parts-others other test s.keys.key s.keys.out.fixed (inl apart) s.keys.out.counter (plains (frame_of h.word)))

-- ---- links of the monitor

abbrev number_of : ℕ → Use → ℕ
number_of number (Connected acceptor other name tie) = other
number_of number u = number

-- links of two numbers have two keys
pub numbers-apart : (us : Uses) → ((k : List ℕ) (u v : Use) → Means us k u → Means us k v → u ≡ v) → (key : List ℕ) (number : ℕ) (name : Name) (challenge : ℕ)
    → Means us key (Connected node.Monitor number name (AtMonitor challenge)) → (second : List ℕ) (other : ℕ) (whose : Name) (c : ℕ)
    → Means us second (Connected node.Monitor other whose (AtMonitor c)) → (number ≡ other → ⊥) → bytes_eq key second ≡ false
numbers-apart us one key number name challenge means second other whose c there apart = by_test (bytes_eq key second) refl
  where
    by_test : (t : Bool) → bytes_eq key second ≡ t → bytes_eq key second ≡ false
    by_test false e = e
    by_test true e =
        let same : Connected node.Monitor number name (AtMonitor challenge) ≡ Connected node.Monitor other whose (AtMonitor c) =
        one second (Connected node.Monitor number name (AtMonitor challenge)) (Connected node.Monitor other whose (AtMonitor c))
        (subst (λ (k : List ℕ). Means us k (Connected node.Monitor number name (AtMonitor challenge))) ((bytes_eq-Decides key second).0 e) means) there in
        absurd (apart (ap (number_of number) same))
