-- The banner at the front of a stream ("msgr2 protocol", banner phase).
use Rattle.std.specs.Prelude.{ℕ, ◌≡◌, List, [], length, Some, None, Ok, Err}
use Rattle.cx_frame.specs.Banners.{banner_at}
use Rattle.cx_stream.specs.PlainStreams.{Stands}
use Rattle.cx_stream.specs.declared.faults.StreamFault.TheVariants as fault
use Rattle.cx_stream.specs.declared.stages.Greeted.{Greeted}
use Rattle.cx_stream.specs.declared.stages.Greeted.TheVariants.{NotYet, Done, Refused}

-- what became of a greeting that was fed these bytes
abbrev pub Greets : List ℕ → Greeted → Type 0
Greets fed (NotYet g) = (banner_at fed ≡ Ok None) × (g ≡ fed)
Greets fed (Done b s) = (banner_at fed ≡ Ok (Some (b, length s.taken))) × Stands s fed []
Greets fed (Refused (fault.Banner e) ended) = banner_at fed ≡ Err e
Greets fed (Refused e ended) = ⊥
