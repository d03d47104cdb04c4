-- Frames behind frames.
use Rattle.std.proofs.Common.{◌≡◌, ℕ, ◌+◌, ◌<◌, ◌≤◌, List, [], ◌++◌, length, get_or, drop, Result, Ok, Err, refl, sym, ap, ◌∙◌, append_assoc, drop-cons, add-one, length-drop, suc, arith}
use Rattle.std.proofs.lemmas.List.{append-nil, nil_from_length}
use Rattle.cx_frame.specs.declared.frame.Frame.{Frame}
use Rattle.cx_journal.specs.declared.faults.BytesFault.{BytesFault}
use Rattle.cx_node.specs.cx_rules.specs.Messages.{sealed_behind, sealed_then, secure_frames}
use Rattle.cx_node.specs.cx_rules.specs.Secured.{Keys, SealedFrame, secure_frame}
use Rattle.cx_node.specs.cx_steps.specs.declared.seals.SealEntry.{SealEntry}

abbrev Sealed : Type 0
Sealed = Result SealedFrame BytesFault

joined : List ℕ → List SealEntry → Keys → Sealed
joined bytes seals keys = Ok (record { bytes = bytes; seals = seals; keys = keys })

-- frames behind two that stand one behind the other
behind_both : (before one : SealedFrame) (rest : Sealed)
    → sealed_behind before (sealed_behind one rest) ≡ sealed_behind (record { bytes = before.bytes ++ one.bytes; seals = before.seals ++ one.seals; keys = one.keys }) rest
unfolding joined
behind_both before one (Ok s) =
    ap (λ b. joined b (before.seals ++ (one.seals ++ s.seals)) s.keys) (sym (append_assoc before.bytes one.bytes s.bytes))
    ∙ ap (λ l. joined ((before.bytes ++ one.bytes) ++ s.bytes) l s.keys) (sym (append_assoc before.seals one.seals s.seals))
behind_both before one (Err why) = refl

-- what is due behind frames that were sent, of which the last has these keys
pub due : SealedFrame → List Frame → Sealed
due before frames = sealed_behind before (secure_frames before.keys frames)

-- one more was sealed
more_by : (before : SealedFrame) (one : Sealed) (frames : List Frame) (more : SealedFrame) → sealed_behind before one ≡ Ok more
    → sealed_behind before (sealed_then one (λ first. sealed_behind first (secure_frames first.keys frames))) ≡ due more frames
unfolding due
more_by before (Ok first) frames more is =
    let same : record { bytes = before.bytes ++ first.bytes; seals = before.seals ++ first.seals; keys = first.keys } ≡ more = cc in
    behind_both before first (secure_frames first.keys frames) ∙ ap (λ (s : SealedFrame). sealed_behind s (secure_frames s.keys frames)) same
more_by before (Err why) frames more is = absurd cc

pub more_due : (before : SealedFrame) (frames : List Frame) (i : ℕ) (d : Frame) (more : SealedFrame) (all : Sealed) → i < length frames
    → sealed_behind before (secure_frame before.keys (get_or frames i d)) ≡ Ok more → due before (drop i frames) ≡ all → due more (drop (i + 1) frames) ≡ all
unfolding due
more_due before frames i d more all lt is at =
    ap (λ n. due more (drop n frames)) (add-one i)
    ∙ sym (more_by before (secure_frame before.keys (get_or frames i d)) (drop (suc i) frames) more is)
    ∙ ap (due before) (sym (drop-cons frames i d lt)) ∙ at

-- one couldn't be sealed
none_by : (before : SealedFrame) (one : Sealed) (next : SealedFrame → Sealed) (why : BytesFault) → sealed_behind before one ≡ Err why
    → sealed_behind before (sealed_then one next) ≡ Err why
none_by before (Ok first) next why is = absurd cc
none_by before (Err w) next why is = is

pub none_due : (before : SealedFrame) (frames : List Frame) (i : ℕ) (d : Frame) (why : BytesFault) (all : Sealed) → i < length frames
    → sealed_behind before (secure_frame before.keys (get_or frames i d)) ≡ Err why → due before (drop i frames) ≡ all → all ≡ Err why
unfolding due
none_due before frames i d why all lt is at =
    sym at ∙ ap (due before) (drop-cons frames i d lt)
    ∙ none_by before (secure_frame before.keys (get_or frames i d)) (λ first. sealed_behind first (secure_frames first.keys (drop (suc i) frames))) why is

-- no more frames are left
pub nothing_due : (before : SealedFrame) (frames : List Frame) (i : ℕ) (all : Sealed) → length frames ≤ i → due before (drop i frames) ≡ all → all ≡ Ok before
unfolding due joined
nothing_due before frames i all past at =
    sym at ∙ ap (due before) (nil_from_length (drop i frames) (omega (arith, length-drop i frames)))
    ∙ ap (λ b. joined b (before.seals ++ []) before.keys) (append-nil before.bytes) ∙ ap (λ l. joined before.bytes l before.keys) (append-nil before.seals)

-- frames behind none
nothing_before : (keys : Keys) (all : Sealed) → sealed_behind (record { bytes = []; seals = []; keys = keys }) all ≡ all
nothing_before keys (Ok s) = refl
nothing_before keys (Err why) = refl

pub all_due : (keys : Keys) (frames : List Frame) (sent : SealedFrame) → sent ≡ record { bytes = []; seals = []; keys = keys } → due sent (drop 0 frames) ≡ secure_frames keys frames
unfolding due
all_due keys frames sent is = ap (λ s. due s frames) is ∙ nothing_before keys (secure_frames keys frames)
