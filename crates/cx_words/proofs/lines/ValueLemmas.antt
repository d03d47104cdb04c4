-- A word is good at its place exactly where it spells a value of that place, and it spells one at most.
use Rattle.std.proofs.Common.{◌≡◌, ℕ, ◌<◌, ◌^◌, Bool, true, false, cond, IsTrue, List, [], ◌∷◌, ◌++◌, map, length, Option, Some, None, refl, ap, ◌∙◌, arith}
use Rattle.std.specs.Prelude.{is_none, is_some, codes}
use Rattle.std.specs.List.{list_any}
use Rattle.std.specs.Option.{option_map}
use Rattle.std.specs.Str.{bytes_eq}
use Rattle.std.proofs.lemmas.Bool.{and_parts}
use Rattle.std.proofs.lemmas.Bool.Decides.{nat_tests}
use Rattle.std.proofs.lemmas.Slice.Eq.{bytes_eq-Decides}
use Rattle.cx_base.specs.Names.{Name, name_text}
use Rattle.cx_base.specs.declared.kinds.Access.{Access}
use Rattle.cx_base.specs.declared.kinds.EntityType.{EntityType}
use Rattle.cx_base.specs.declared.kinds.EntityType.TheVariants as kind
use Rattle.cx_words.specs.Words.{number_of, reading_of, name_of, service_of, services_of, access_of, part_of, hex_of, caps_of}
use Rattle.cx_words.proofs.NumberWords.{number_of-decimal, number_of-is, reading_of-is, reading_of-word}
use Rattle.cx_words.proofs.NameWords.{name_of-is, name_of-text, service_of-is, service_of-word, access_of-is, access_of-word}
use Rattle.cx_words.proofs.ListWords.{services_of-is, services_of-word}
use Rattle.cx_words.proofs.TextWords.{caps_of-is, caps_of-quoted, part_of-is, part_of-word}
use Rattle.cx_words.proofs.HexWords.{hex_of-is, hex_of-word}
use Rattle.cx_words.specs.declared.choices.Side.{Side}
use Rattle.cx_words.specs.declared.choices.Modes.{Modes}
use Rattle.cx_words.specs.declared.choices.LeftState.{LeftState}
use Rattle.cx_words.specs.declared.choices.CommandForm.{CommandForm}
use Rattle.cx_words.specs.declared.faults.LineFault.{LineFault}
use Rattle.cx_words.specs.declared.faults.LineFault.TheVariants.{BadNumber, BadText}
use Rattle.cx_words.specs.declared.known.Known.{Known}
use Rattle.cx_base.specs.declared.nodes.NodeName.{NodeName}
use Rattle.cx_base.specs.declared.nodes.NodeName.TheVariants as node
use Rattle.cx_words.specs.declared.places.WordPlace.{WordPlace}
use Rattle.cx_words.specs.declared.places.WordPlace.TheVariants as at
use Rattle.cx_words.specs.lines.Choices.{command_form_of, modes_of, side_of, state_of}
use Rattle.cx_words.specs.lines.Known.{is_client, is_daemon, is_declarable, is_node, is_seeded}
use Rattle.cx_words.specs.lines.Named.{is_among, is_name}
use Rattle.cx_base.specs.Nodes.{node_text}
use Rattle.cx_words.specs.lines.Values.{Item, LifeOf, ReadingOf, NumberOf, EntityOf, ServiceOf, CapsOf, ClientOf, UnmodedOf, UnleakedOf, DaemonOf, NodeOf, UnseededOf, ServicesOf, AccessOf, PartOf, DataOf, BytesOf, ModesOf, SideOf, LossyWord, StateOf, CommandOf, SpellsItem, SpellsItems, IsWritable, is_fit, is_life}
use Rattle.cx_words.specs.lines.Places.{are_good, is_good, known_fault, name_fault, never, node_of, passes, service_fault, unless, word_fault}
use Rattle.cx_words.proofs.lines.ChoiceLemmas.{command_form_of-is, command_form_of-word, modes_of-is, modes_of-word, side_of-is, side_of-word, state_of-is, state_of-word}

-- the place of a value
abbrev pub place_of : Item → WordPlace
place_of (LifeOf seconds) = at.Life
place_of (ReadingOf reading) = at.Reading
place_of (NumberOf n) = at.Number
place_of (EntityOf name) = at.Entity
place_of (ServiceOf kind) = at.Service
place_of (CapsOf caps) = at.Caps
place_of (ClientOf name) = at.Client
place_of (UnmodedOf name) = at.Unmoded
place_of (UnleakedOf name) = at.Unleaked
place_of (DaemonOf name) = at.Daemon
place_of (NodeOf node) = at.Node
place_of (UnseededOf node) = at.Unseeded
place_of (ServicesOf kinds) = at.Services
place_of (AccessOf access) = at.Access
place_of (PartOf part) = at.Part
place_of (DataOf bytes) = at.Data
place_of (BytesOf bytes) = at.Bytes
place_of (ModesOf modes) = at.Modes
place_of (SideOf side) = at.Side
place_of LossyWord = at.Lossy
place_of (StateOf state) = at.LeftState
place_of (CommandOf form) = at.Command

-- ---- nodes

-- no entity's word is that of the monitor's node
not_mon : (name : Name) → bytes_eq (name_text name) (codes "mon") ≡ false
not_mon name = kinds name.kind name.id
  where
    kinds : (k : EntityType) (id : List ℕ) → bytes_eq (name_text (record { kind = k; id = id })) (codes "mon") ≡ false
    kinds kind.Mon id = refl
    kinds kind.Mds id = refl
    kinds kind.Osd id = refl
    kinds kind.Client id = refl
    kinds kind.Mgr id = refl
    kinds kind.Auth id = refl

node_of-word : (n : NodeName) → IsWritable n → node_of (node_text n) ≡ Some n
node_of-word node.Monitor h = refl
node_of-word (node.Entity name) h = rw (not_mon name, name_of-text name h) refl

node_cases : (w : List ℕ) (b : Bool) (found : Option Name) (n : NodeName) → bytes_eq w (codes "mon") ≡ b → name_of w ≡ found
    → cond b (Some node.Monitor) (option_map (λ name. node.Entity name) found) ≡ Some n → IsWritable n × (w ≡ node_text n)
node_cases w true found n is name some =
    let same : node.Monitor ≡ n = cc in
    rw (← same) (tt, (bytes_eq-Decides w (codes "mon")).0 is)
node_cases w false None n is name some = absurd (let x : None ≡ Some n = some in cc)
node_cases w false (Some other) n is name some =
    let same : node.Entity other ≡ n = cc in
    rw (← same) (name_of-is w other name)

node_of-is : (w : List ℕ) (n : NodeName) → node_of w ≡ Some n → IsWritable n × (w ≡ node_text n)
node_of-is w n some = node_cases w (bytes_eq w (codes "mon")) (name_of w) n refl refl some

-- ---- what is spelled is good

life_below : (seconds : ℕ) → IsTrue (is_life seconds) → seconds < 2 ^ 64
life_below seconds h = grind (arith, nat_tests, h)

good_one : (known : Known) (before : List (List ℕ)) (item : Item) (word : List ℕ) → SpellsItem known before item word → word_fault known before (place_of item) word ≡ None
good_one k b (LifeOf s) w p = rw (p.1, number_of-decimal s (life_below s p.0), p.0) refl
good_one k b (ReadingOf r) w p = rw (reading_of-word w r p) refl
good_one k b (NumberOf n) w p = rw (p.1, number_of-decimal n p.0) refl
good_one k b (EntityOf n) w p = rw (p.3, name_of-text n p.0, p.1, p.2) refl
good_one k b (ServiceOf s) w p = rw (p.1, p.2, service_of-word s p.0) refl
good_one k b (CapsOf c) w p = rw (p.1, caps_of-quoted c p.0) refl
good_one k b (ClientOf n) w p = rw (p.2, name_of-text n p.0, p.1) refl
good_one k b (UnmodedOf n) w p = rw (p.3, name_of-text n p.0, p.1, p.2) refl
good_one k b (UnleakedOf n) w p = rw (p.3, name_of-text n p.0, p.1, p.2) refl
good_one k b (DaemonOf n) w p = rw (p.2, name_of-text n p.0, p.1) refl
good_one k b (NodeOf n) w p =
    let found : node_of w ≡ Some n = ap node_of p.2 ∙ node_of-word n p.0 in
    let known : is_node k n ≡ true = p.1 in
    ap (λ found. name_fault (is_node k) never found) found ∙ ap (λ is. known_fault is false) known
good_one k b (UnseededOf n) w p =
    let found : node_of w ≡ Some n = ap node_of p.3 ∙ node_of-word n p.0 in
    let known : is_node k n ≡ true = p.1 in
    ap (λ found. name_fault (is_node k) (is_seeded k) found) found ∙ ap (λ is. known_fault is (is_seeded k n)) known ∙ ap (λ again. known_fault true again) p.2
good_one k b (ServicesOf ks) w p = rw (p.1, services_of-word ks p.0) refl
good_one k b (AccessOf a) w p = rw (p, access_of-word a) refl
good_one k b (PartOf t) w p = rw (p.1, part_of-word t p.0) refl
good_one k b (DataOf bs) w p = rw (hex_of-word w bs p.1, p.0) refl
good_one k b (BytesOf bs) w p = rw (hex_of-word w bs p) refl
good_one k b (ModesOf m) w p = rw (p, modes_of-word m) refl
good_one k b (SideOf s) w p = rw (p, side_of-word s) refl
good_one k b LossyWord w p = rw p refl
good_one k b (StateOf s) w p = rw (p, state_of-word s) refl
good_one k b (CommandOf f) w p = rw (p, command_form_of-word f) refl

pub all_good : (known : Known) (before : List (List ℕ)) (items : List Item) (words : List (List ℕ)) → SpellsItems known before items words → are_good known before (map place_of items) words ≡ true
all_good e b [] [] p = refl
all_good e b [] (w ∷ ws) p = absurd p
all_good e b (i ∷ items) [] p = absurd p
all_good e b (i ∷ items) (w ∷ ws) p = rw (good_one e b i w p.0, all_good e (b ++ w ∷ []) items ws p.1) refl

pub as_many : (known : Known) (before : List (List ℕ)) (items : List Item) (words : List (List ℕ)) → SpellsItems known before items words → length (map place_of items) ≡ length words
as_many e b [] [] p = refl
as_many e b [] (w ∷ ws) p = absurd p
as_many e b (i ∷ items) [] p = absurd p
as_many e b (i ∷ items) (w ∷ ws) p = let more = as_many e (b ++ w ∷ []) items ws p.1 in omega arith

-- ---- words are read back

abbrev pub read_item : WordPlace → List ℕ → Option Item
read_item at.Life w = option_map (λ s. LifeOf s) (number_of w)
read_item at.Reading w = option_map (λ r. ReadingOf r) (reading_of w)
read_item at.Number w = option_map (λ n. NumberOf n) (number_of w)
read_item at.Entity w = option_map (λ n. EntityOf n) (name_of w)
read_item at.Service w = option_map (λ k. ServiceOf k) (service_of w)
read_item at.Caps w = option_map (λ c. CapsOf c) (caps_of w)
read_item at.Client w = option_map (λ n. ClientOf n) (name_of w)
read_item at.Unmoded w = option_map (λ n. UnmodedOf n) (name_of w)
read_item at.Unleaked w = option_map (λ n. UnleakedOf n) (name_of w)
read_item at.Daemon w = option_map (λ n. DaemonOf n) (name_of w)
read_item at.Node w = option_map (λ n. NodeOf n) (node_of w)
read_item at.Unseeded w = option_map (λ n. UnseededOf n) (node_of w)
read_item at.Services w = option_map (λ ks. ServicesOf ks) (services_of w)
read_item at.Access w = option_map (λ a. AccessOf a) (access_of w)
read_item at.Part w = option_map (λ t. PartOf t) (part_of w)
read_item at.Data w = option_map (λ bs. DataOf bs) (hex_of w)
read_item at.Bytes w = option_map (λ bs. BytesOf bs) (hex_of w)
read_item at.Modes w = option_map (λ m. ModesOf m) (modes_of w)
read_item at.Side w = option_map (λ s. SideOf s) (side_of w)
read_item at.Lossy w = Some LossyWord
read_item at.LeftState w = option_map (λ s. StateOf s) (state_of w)
read_item at.Command w = option_map (λ f. CommandOf f) (command_form_of w)
read_item at.Anything w = None

item_back : (known : Known) (before : List (List ℕ)) (item : Item) (word : List ℕ) → SpellsItem known before item word → read_item (place_of item) word ≡ Some item
item_back k b (LifeOf s) w p = rw (p.1, number_of-decimal s (life_below s p.0)) refl
item_back k b (ReadingOf r) w p = rw (reading_of-word w r p) refl
item_back k b (NumberOf n) w p = rw (p.1, number_of-decimal n p.0) refl
item_back k b (EntityOf n) w p = rw (p.3, name_of-text n p.0) refl
item_back k b (ServiceOf s) w p = rw (p.2, service_of-word s p.0) refl
item_back k b (CapsOf c) w p = rw (p.1, caps_of-quoted c p.0) refl
item_back k b (ClientOf n) w p = rw (p.2, name_of-text n p.0) refl
item_back k b (UnmodedOf n) w p = rw (p.3, name_of-text n p.0) refl
item_back k b (UnleakedOf n) w p = rw (p.3, name_of-text n p.0) refl
item_back k b (DaemonOf n) w p = rw (p.2, name_of-text n p.0) refl
item_back k b (NodeOf n) w p = ap (λ found. option_map (λ m. NodeOf m) found) (ap node_of p.2 ∙ node_of-word n p.0)
item_back k b (UnseededOf n) w p = ap (λ found. option_map (λ m. UnseededOf m) found) (ap node_of p.3 ∙ node_of-word n p.0)
item_back k b (ServicesOf ks) w p = rw (p.1, services_of-word ks p.0) refl
item_back k b (AccessOf a) w p = rw (p, access_of-word a) refl
item_back k b (PartOf t) w p = rw (p.1, part_of-word t p.0) refl
item_back k b (DataOf bs) w p = rw (hex_of-word w bs p.1) refl
item_back k b (BytesOf bs) w p = rw (hex_of-word w bs p) refl
item_back k b (ModesOf m) w p = rw (p, modes_of-word m) refl
item_back k b (SideOf s) w p = rw (p, side_of-word s) refl
item_back k b LossyWord w p = refl
item_back k b (StateOf s) w p = rw (p, state_of-word s) refl
item_back k b (CommandOf f) w p = rw (p, command_form_of-word f) refl

abbrev in_front : Option Item → Option (List Item) → Option (List Item)
in_front None items = None
in_front (Some item) None = None
in_front (Some item) (Some items) = Some (item ∷ items)

abbrev pub read_items : List WordPlace → List (List ℕ) → Option (List Item)
read_items [] ws = Some []
read_items (p ∷ ps) [] = None
read_items (p ∷ ps) (w ∷ ws) = in_front (read_item p w) (read_items ps ws)

pub items_back : (known : Known) (before : List (List ℕ)) (items : List Item) (words : List (List ℕ)) → SpellsItems known before items words → read_items (map place_of items) words ≡ Some items
items_back e b [] [] p = refl
items_back e b [] (w ∷ ws) p = absurd p
items_back e b (i ∷ items) [] p = absurd p
items_back e b (i ∷ items) (w ∷ ws) p = rw (item_back e b i w p.0, items_back e (b ++ w ∷ []) items ws p.1) refl

-- ---- what is good is spelled

-- a value that the word spells at the place
abbrev pub ValueAt : Known → List (List ℕ) → WordPlace → List ℕ → Type 0
ValueAt k b at.Life w = (s : ℕ) × SpellsItem k b (LifeOf s) w
ValueAt k b at.Reading w = (r : ℕ) × SpellsItem k b (ReadingOf r) w
ValueAt k b at.Number w = (n : ℕ) × SpellsItem k b (NumberOf n) w
ValueAt k b at.Entity w = (n : Name) × SpellsItem k b (EntityOf n) w
ValueAt k b at.Service w = (s : EntityType) × SpellsItem k b (ServiceOf s) w
ValueAt k b at.Caps w = (c : List ℕ) × SpellsItem k b (CapsOf c) w
ValueAt k b at.Client w = (n : Name) × SpellsItem k b (ClientOf n) w
ValueAt k b at.Unmoded w = (n : Name) × SpellsItem k b (UnmodedOf n) w
ValueAt k b at.Unleaked w = (n : Name) × SpellsItem k b (UnleakedOf n) w
ValueAt k b at.Daemon w = (n : Name) × SpellsItem k b (DaemonOf n) w
ValueAt k b at.Node w = (n : NodeName) × SpellsItem k b (NodeOf n) w
ValueAt k b at.Unseeded w = (n : NodeName) × SpellsItem k b (UnseededOf n) w
ValueAt k b at.Services w = (ks : List EntityType) × SpellsItem k b (ServicesOf ks) w
ValueAt k b at.Access w = (a : Access) × SpellsItem k b (AccessOf a) w
ValueAt k b at.Part w = (t : List ℕ) × SpellsItem k b (PartOf t) w
ValueAt k b at.Data w = (bs : List ℕ) × SpellsItem k b (DataOf bs) w
ValueAt k b at.Bytes w = (bs : List ℕ) × SpellsItem k b (BytesOf bs) w
ValueAt k b at.Modes w = (m : Modes) × SpellsItem k b (ModesOf m) w
ValueAt k b at.Side w = (s : Side) × SpellsItem k b (SideOf s) w
ValueAt k b at.Lossy w = SpellsItem k b LossyWord w
ValueAt k b at.LeftState w = (s : LeftState) × SpellsItem k b (StateOf s) w
ValueAt k b at.Command w = (f : CommandForm) × SpellsItem k b (CommandOf f) w
ValueAt k b at.Anything w = Unit {0}

there : {X : Type 0} (why : LineFault) (found : Option X) → is_none (unless (is_some found) why) ≡ true → (x : X) × (found ≡ Some x)
there why None good = absurd (let e : false ≡ true = good in cc)
there why (Some x) good = (x, refl)

held : (why : LineFault) (b : Bool) → is_none (unless b why) ≡ true → b ≡ true
held why true good = refl
held why false good = absurd (let e : false ≡ true = good in cc)

passed : {X : Type 0} (why : LineFault) (test : X → Bool) (found : Option X) → is_none (unless (passes test found) why) ≡ true → (x : X) × (found ≡ Some x) × IsTrue (test x)
passed why test None good = absurd (let e : false ≡ true = good in cc)
passed why test (Some x) good = (x, refl, held why (test x) good)

known_in : (known again : Bool) → is_none (known_fault known again) ≡ true → (known ≡ true) × (again ≡ false)
known_in true false good = (refl, refl)
known_in true true good = absurd (let e : false ≡ true = good in cc)
known_in false again good = absurd (let e : false ≡ true = good in cc)

named_as : (known again : Name → Bool) (w : List ℕ) (found : Option Name) → name_of w ≡ found → is_none (name_fault known again found) ≡ true → (n : Name) × IsTrue (is_name n) × (known n ≡ true) × (again n ≡ false) × (w ≡ name_text n)
named_as known again w None is good = absurd (let e : false ≡ true = good in cc)
named_as known again w (Some n) is good =
    let own = name_of-is w n is in
    let here = known_in (known n) (again n) good in
    (n, own.0, here.0, here.1, own.1)

node_as : (known again : NodeName → Bool) (w : List ℕ) (found : Option NodeName) → node_of w ≡ found → is_none (name_fault known again found) ≡ true → (n : NodeName) × IsWritable n × (known n ≡ true) × (again n ≡ false) × (w ≡ node_text n)
node_as known again w None is good = absurd (let e : false ≡ true = good in cc)
node_as known again w (Some n) is good =
    let own = node_of-is w n is in
    let here = known_in (known n) (again n) good in
    (n, own.0, here.0, here.1, own.1)

served_in : (found again : Bool) → is_none (service_fault found again) ≡ true → (found ≡ true) × (again ≡ false)
served_in true false good = (refl, refl)
served_in true true good = absurd (let e : false ≡ true = good in cc)
served_in false again good = absurd (let e : false ≡ true = good in cc)

some_in : {X : Type 0} (found : Option X) → is_some found ≡ true → (x : X) × (found ≡ Some x)
some_in None good = absurd (let e : false ≡ true = good in cc)
some_in (Some x) good = (x, refl)

value_in : (known : Known) (before : List (List ℕ)) (place : WordPlace) (word : List ℕ) → is_good known before place word ≡ true → ValueAt known before place word
value_in k b at.Life w g =
    let found = passed BadNumber is_life (number_of w) g in
    (found.0, (found.2, (number_of-is w found.0 found.1).1))
value_in k b at.Reading w g = let found = there BadNumber (reading_of w) g in (found.0, reading_of-is w found.0 found.1)
value_in k b at.Number w g = let found = there BadNumber (number_of w) g in (found.0, number_of-is w found.0 found.1)
value_in k b at.Entity w g =
    let n = named_as is_declarable (is_among k.declared) w (name_of w) refl g in
    (n.0, (n.1, n.2, n.3, n.4))
value_in k b at.Service w g =
    let good = served_in (is_some (service_of w)) (list_any (bytes_eq w) b) g in
    let found = some_in (service_of w) good.0 in
    let own = service_of-is w found.0 found.1 in
    (found.0, (own.0, good.1, own.1))
value_in k b at.Caps w g = let found = there BadText (caps_of w) g in (found.0, caps_of-is w found.0 found.1)
value_in k b at.Client w g =
    let n = named_as (is_client k) never w (name_of w) refl g in
    (n.0, (n.1, n.2, n.4))
value_in k b at.Unmoded w g =
    let n = named_as (is_client k) (is_among k.moded) w (name_of w) refl g in
    (n.0, (n.1, n.2, n.3, n.4))
value_in k b at.Unleaked w g =
    let n = named_as (is_client k) (is_among k.leaked) w (name_of w) refl g in
    (n.0, (n.1, n.2, n.3, n.4))
value_in k b at.Daemon w g =
    let n = named_as (is_daemon k) never w (name_of w) refl g in
    (n.0, (n.1, n.2, n.4))
value_in k b at.Node w g =
    let n = node_as (is_node k) never w (node_of w) refl g in
    (n.0, (n.1, n.2, n.4))
value_in k b at.Unseeded w g =
    let n = node_as (is_node k) (is_seeded k) w (node_of w) refl g in
    (n.0, (n.1, n.2, n.3, n.4))
value_in k b at.Services w g = let found = there BadText (services_of w) g in (found.0, services_of-is w found.0 found.1)
value_in k b at.Access w g = let found = there BadText (access_of w) g in (found.0, access_of-is w found.0 found.1)
value_in k b at.Part w g = let found = there BadText (part_of w) g in (found.0, part_of-is w found.0 found.1)
value_in k b at.Data w g =
    let found = passed BadText is_fit (hex_of w) g in
    (found.0, (found.2, hex_of-is w found.0 found.1))
value_in k b at.Bytes w g = let found = there BadText (hex_of w) g in (found.0, hex_of-is w found.0 found.1)
value_in k b at.Modes w g = let found = there BadText (modes_of w) g in (found.0, modes_of-is w found.0 found.1)
value_in k b at.Side w g = let found = there BadText (side_of w) g in (found.0, side_of-is w found.0 found.1)
value_in k b at.Lossy w g = (bytes_eq-Decides w (codes "lossy")).0 (held BadText (bytes_eq w (codes "lossy")) g)
value_in k b at.LeftState w g = let found = there BadText (state_of w) g in (found.0, state_of-is w found.0 found.1)
value_in k b at.Command w g = let found = there BadText (command_form_of w) g in (found.0, command_form_of-is w found.0 found.1)
value_in k b at.Anything w g = tt

-- a value at each place
abbrev pub Values : Known → List (List ℕ) → List WordPlace → List (List ℕ) → Type 0
Values e b [] [] = Unit {0}
Values e b [] (w ∷ ws) = ⊥
Values e b (p ∷ ps) [] = ⊥
Values e b (p ∷ ps) (w ∷ ws) = ValueAt e b p w × Values e (b ++ w ∷ []) ps ws

pub values_in : (known : Known) (before : List (List ℕ)) (places : List WordPlace) (words : List (List ℕ)) → are_good known before places words ≡ true → Values known before places words
values_in e b [] [] g = tt
values_in e b [] (w ∷ ws) g = absurd (let x : false ≡ true = g in cc)
values_in e b (p ∷ ps) [] g = absurd (let x : false ≡ true = g in cc)
values_in e b (p ∷ ps) (w ∷ ws) g =
    let parts = and_parts (is_good e b p w) (are_good e (b ++ w ∷ []) ps ws) g in
    (value_in e b p w parts.0, values_in e (b ++ w ∷ []) ps ws parts.1)
