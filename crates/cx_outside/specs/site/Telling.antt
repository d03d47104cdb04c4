-- What each of the objects outside of a node tells of acts, one by one, and that this goes on from act to act.
use Rattle.std.specs.Prelude.{ℕ, ◌≡◌, ◌≤◌, Bool, true, false, List, [], ◌∷◌, ◌++◌, Option, Some, None}
use Rattle.std.proofs.Common.{refl, ap, subst, sym}
use Rattle.cx_base.specs.Streams.{Rose}
use Rattle.cx_outside.specs.timing.Readings.{GivesReading}
use Rattle.cx_dice.specs.Rolls.{GivesDraw}
use Rattle.cx_keep.specs.Formats.{SpellsState, state_text}
use Rattle.cx_keep.specs.Slots.{Kept, Saves, SavesOrNot}
use Rattle.cx_keep.specs.declared.keeper.Slot.TheVariants.{State}
use Rattle.cx_rotate.specs.declared.states.KeptState.{KeptState}
use Rattle.cx_outside.specs.linking.Acts.{LinkAct, Listened, Opened, Gave, Broke, Sent, Shut, Regarded}
use Rattle.cx_outside.specs.site.Acts.{Act, Linked, Read, Rolled, Saved}

-- ---- acts that lead on, one behind the other

module _ {X : Type 0} (leads : X → Act → X → Type 0) where
  abbrev pub Walk : X → List Act → X → Type 0
  Walk from [] to = to ≡ from
  Walk from (act ∷ []) to = leads from act to
  Walk from (act ∷ next ∷ acts) to = (between : X) × leads from act between × Walk between (next ∷ acts) to

  walk_first : (a b c : X) (act : Act) (acts : List Act) → leads a act b → Walk b acts c → Walk a (act ∷ acts) c
  walk_first a b c act [] p q = subst (λ x. leads a act x) (sym q) p
  walk_first a b c act (next ∷ acts) p q = (b, p, q)

  pub walk_on : (a b c : X) (xs ys : List Act) → Walk a xs b → Walk b ys c → Walk a (xs ++ ys) c
  walk_on a b c [] ys p q = subst (λ x. Walk x ys c) p q
  walk_on a b c (x ∷ []) ys p q = walk_first a b c x ys p q
  walk_on a b c (x ∷ y ∷ xs) ys (between, leads, p) q = (between, leads, walk_on between b c (y ∷ xs) ys p q)

-- a count rose by a failure
abbrev pub Rises : ℕ → ℕ → Type 0
Rises before now = (before ≤ now) × Rose before now

-- the count stands where this went well, and rose where it failed
abbrev pub CountsBy : Bool → ℕ → ℕ → Type 0
CountsBy true before now = now ≡ before
CountsBy false before now = Rises before now

-- whether there is something
abbrev pub is_there : {X : Type 0} → Option X → Bool
is_there None = false
is_there (Some x) = true

-- ---- the keeper

-- the spelling of a state that is saved is read again as this state, whatever lives are handed in
abbrev pub IsSpelled : KeptState → Type 0
IsSpelled state = (lives : ℕ × ℕ) → SpellsState lives (state_text state) state

-- what is kept: behind a save that failed the old bytes or the new ones
abbrev pub Keeps : Option Kept → Act → Option Kept → Type 0
Keeps old (Saved state true) new = IsSpelled state × Saves old new State (state_text state)
Keeps old (Saved state false) new = IsSpelled state × SavesOrNot old new State (state_text state)
Keeps old (Linked act) new = new ≡ old
Keeps old (Read reading) new = new ≡ old
Keeps old (Rolled draw) new = new ≡ old

-- its count of faults
abbrev pub CountsSaves : ℕ → Act → ℕ → Type 0
CountsSaves old (Saved state ok) new = CountsBy ok old new
CountsSaves old (Linked act) new = new ≡ old
CountsSaves old (Read reading) new = new ≡ old
CountsSaves old (Rolled draw) new = new ≡ old

abbrev pub KeeperTells : Option Kept → ℕ → Option Kept → ℕ → List Act → Type 0
KeeperTells kept faults kept' faults' acts = Walk Keeps kept acts kept' × Walk CountsSaves faults acts faults'

pub keeper_stays : (kept : Option Kept) (faults : ℕ) → KeeperTells kept faults kept faults []
keeper_stays kept faults = (refl, refl)

pub keeper_goes_on : (a b c : Option Kept) (l m n : ℕ) (xs ys : List Act) → KeeperTells a l b m xs → KeeperTells b m c n ys → KeeperTells a l c n (xs ++ ys)
keeper_goes_on a b c l m n xs ys p q = (walk_on Keeps a b c xs ys p.0 q.0, walk_on CountsSaves l m n xs ys p.1 q.1)

-- ---- links

-- the acts that they see
abbrev pub link_acts : List Act → List LinkAct
link_acts [] = []
link_acts (Linked act ∷ acts) = act ∷ link_acts acts
link_acts (Read reading ∷ acts) = link_acts acts
link_acts (Rolled draw ∷ acts) = link_acts acts
link_acts (Saved state ok ∷ acts) = link_acts acts

link_acts_on : (xs ys : List Act) → link_acts (xs ++ ys) ≡ link_acts xs ++ link_acts ys
link_acts_on [] ys = refl
link_acts_on (Linked act ∷ xs) ys = ap (λ acts. act ∷ acts) (link_acts_on xs ys)
link_acts_on (Read reading ∷ xs) ys = link_acts_on xs ys
link_acts_on (Rolled draw ∷ xs) ys = link_acts_on xs ys
link_acts_on (Saved state ok ∷ xs) ys = link_acts_on xs ys

pub links_go_on : {D : Type 0} (follows : D → D → List LinkAct → Type 0) → ((a b c : D) (xs ys : List LinkAct) → follows a b xs → follows b c ys → follows a c (xs ++ ys))
    → (a b c : D) (xs ys : List Act) → follows a b (link_acts xs) → follows b c (link_acts ys) → follows a c (link_acts (xs ++ ys))
links_go_on follows goes_on a b c xs ys p q = subst (follows a c) (sym (link_acts_on xs ys)) (goes_on a b c (link_acts xs) (link_acts ys) p q)

-- their count of faults, of listening and waiting
abbrev pub CountsWaits : ℕ → Act → ℕ → Type 0
CountsWaits old (Linked (Listened at ok)) new = CountsBy ok old new
CountsWaits old (Linked Broke) new = Rises old new
CountsWaits old (Linked (Opened to number)) new = new ≡ old
CountsWaits old (Linked (Gave event bytes)) new = new ≡ old
CountsWaits old (Linked (Sent link bytes ok)) new = new ≡ old
CountsWaits old (Linked (Shut link)) new = new ≡ old
CountsWaits old (Linked (Regarded link regard)) new = new ≡ old
CountsWaits old (Read reading) new = new ≡ old
CountsWaits old (Rolled draw) new = new ≡ old
CountsWaits old (Saved state ok) new = new ≡ old

-- their count of misses, of opening and sending
abbrev pub CountsMisses : ℕ → Act → ℕ → Type 0
CountsMisses old (Linked (Opened to number)) new = CountsBy (is_there number) old new
CountsMisses old (Linked (Sent link bytes ok)) new = CountsBy ok old new
CountsMisses old (Linked (Listened at ok)) new = new ≡ old
CountsMisses old (Linked Broke) new = new ≡ old
CountsMisses old (Linked (Gave event bytes)) new = new ≡ old
CountsMisses old (Linked (Shut link)) new = new ≡ old
CountsMisses old (Linked (Regarded link regard)) new = new ≡ old
CountsMisses old (Read reading) new = new ≡ old
CountsMisses old (Rolled draw) new = new ≡ old
CountsMisses old (Saved state ok) new = new ≡ old

abbrev pub LinksCount : ℕ → ℕ → ℕ → ℕ → List Act → Type 0
LinksCount faults misses faults' misses' acts = Walk CountsWaits faults acts faults' × Walk CountsMisses misses acts misses'

pub links_stand : (faults misses : ℕ) → LinksCount faults misses faults misses []
links_stand faults misses = (refl, refl)

pub links_count_on : (a b c : ℕ) (l m n : ℕ) (xs ys : List Act) → LinksCount a l b m xs → LinksCount b m c n ys → LinksCount a l c n (xs ++ ys)
links_count_on a b c l m n xs ys p q = (walk_on CountsWaits a b c xs ys p.0 q.0, walk_on CountsMisses l m n xs ys p.1 q.1)

-- ---- the clock

abbrev pub Ticks : Option (ℕ → ℕ) → Act → Option (ℕ → ℕ) → Type 0
Ticks old (Read reading) new = GivesReading old new reading
Ticks old (Linked act) new = new ≡ old
Ticks old (Rolled draw) new = new ≡ old
Ticks old (Saved state ok) new = new ≡ old

abbrev pub ClockTells : Option (ℕ → ℕ) → Option (ℕ → ℕ) → List Act → Type 0
ClockTells old new acts = Walk Ticks old acts new

pub clock_stays : (coming : Option (ℕ → ℕ)) → ClockTells coming coming []
clock_stays coming = refl

pub clock_goes_on : (a b c : Option (ℕ → ℕ)) (xs ys : List Act) → ClockTells a b xs → ClockTells b c ys → ClockTells a c (xs ++ ys)
clock_goes_on a b c xs ys p q = walk_on Ticks a b c xs ys p q

-- ---- the dice

-- what is to come; behind a failure nothing is known of it
abbrev pub Rolls : Option (ℕ → List ℕ) → Act → Option (ℕ → List ℕ) → Type 0
Rolls old (Rolled (Some draw)) new = GivesDraw old new draw
Rolls old (Rolled None) new = Unit {0}
Rolls old (Linked act) new = new ≡ old
Rolls old (Read reading) new = new ≡ old
Rolls old (Saved state ok) new = new ≡ old

-- their count of faults
abbrev pub CountsRolls : ℕ → Act → ℕ → Type 0
CountsRolls old (Rolled draw) new = CountsBy (is_there draw) old new
CountsRolls old (Linked act) new = new ≡ old
CountsRolls old (Read reading) new = new ≡ old
CountsRolls old (Saved state ok) new = new ≡ old

abbrev pub DiceTells : Option (ℕ → List ℕ) → ℕ → Option (ℕ → List ℕ) → ℕ → List Act → Type 0
DiceTells coming faults coming' faults' acts = Walk Rolls coming acts coming' × Walk CountsRolls faults acts faults'

pub dice_stay : (coming : Option (ℕ → List ℕ)) (faults : ℕ) → DiceTells coming faults coming faults []
dice_stay coming faults = (refl, refl)

pub dice_go_on : (a b c : Option (ℕ → List ℕ)) (l m n : ℕ) (xs ys : List Act) → DiceTells a l b m xs → DiceTells b m c n ys → DiceTells a l c n (xs ++ ys)
dice_go_on a b c l m n xs ys p q = (walk_on Rolls a b c xs ys p.0 q.0, walk_on CountsRolls l m n xs ys p.1 q.1)
