-- Layouts: forms with their law. A record, a payload or a body is declared by one layout, made of fields in their order.
use Rattle.std.specs.Prelude.{ℕ, ◌≡◌, List, Bool, Option, Some, refl}
use Rattle.cx_base.specs.declared.kinds.EntityType.{EntityType}
use Rattle.cx_base.specs.declared.addresses.Addr.{Addr}
use Rattle.cx_base.specs.Names.{Name}
use Rattle.cx_enc.specs.Moments.{Moment}
use Rattle.cx_enc.specs.declared.keys.Key.{Key}
use Rattle.cx_enc.specs.declared.tickets.TicketBlob.{TicketBlob}
use Rattle.cx_enc.specs.Forms.{Form, IsLawful, u8_form, u16_form, u32_form, u64_form, bytes_form, blob_form, pair, after, seen, checked, judged, times, with_count, many, chain}
use Rattle.cx_enc.specs.Values.{time_form, reading_form, key_form, secret_form, sized_form, ticket_form, count_form, addr_form, kind_form, name_form, flag_form, fixed}
use Rattle.cx_enc.specs.FormLaws.{u8-lawful, u16-lawful, u32-lawful, u64-lawful, bytes-lawful, blob-lawful, pair-lawful, after-lawful, seen-lawful, checked-lawful, judged-lawful, times-lawful, with_count-lawful, list-lawful, many-lawful, chain-lawful}
use Rattle.cx_enc.specs.FieldLaws.{time-lawful, reading-lawful, key-lawful, secret-lawful, sized-lawful, ticket-lawful, count-lawful, addr-lawful, kind-lawful, name-lawful, flag-lawful, fixed-lawful}

-- a form, and that it is lawful
pub record Layout (X : Type 0) : Type 1 where
  pub form : Form X
  pub lawful : IsLawful form

-- ---- fields

abbrev pub u8_field : Layout ℕ
u8_field = record { form = u8_form; lawful = u8-lawful }

abbrev pub u16_field : Layout ℕ
u16_field = record { form = u16_form; lawful = u16-lawful }

abbrev pub u32_field : Layout ℕ
u32_field = record { form = u32_form; lawful = u32-lawful }

abbrev pub u64_field : Layout ℕ
u64_field = record { form = u64_form; lawful = u64-lawful }

abbrev pub flag_field : Layout Bool
flag_field = record { form = flag_form; lawful = flag-lawful }

abbrev pub bytes_field : ℕ → Layout (List ℕ)
bytes_field n = record { form = bytes_form n; lawful = bytes-lawful n }

abbrev pub blob_field : Layout (List ℕ)
blob_field = record { form = blob_form; lawful = blob-lawful }

abbrev pub time_field : Layout Moment
time_field = record { form = time_form; lawful = time-lawful }

abbrev pub key_field : Layout Key
key_field = record { form = key_form; lawful = key-lawful }

abbrev pub reading_field : Layout ℕ
reading_field = record { form = reading_form; lawful = reading-lawful }

abbrev pub secret_field : Layout (List ℕ)
secret_field = record { form = secret_form; lawful = secret-lawful }

abbrev pub sized_field : ℕ → Layout (List ℕ)
sized_field n = record { form = sized_form n; lawful = sized-lawful n }

abbrev pub ticket_field : Layout TicketBlob
ticket_field = record { form = ticket_form; lawful = ticket-lawful }

abbrev pub count_field : ℕ → ℕ → Layout ℕ
count_field least most = record { form = count_form least most; lawful = count-lawful least most }

abbrev pub addr_field : Layout Addr
addr_field = record { form = addr_form; lawful = addr-lawful }

abbrev pub kind_field : Layout EntityType
kind_field = record { form = kind_form; lawful = kind-lawful }

abbrev pub name_field : Layout Name
name_field = record { form = name_form; lawful = name-lawful }

-- ---- layouts of layouts

-- one behind the other
infixr 6 ◌⊗◌
abbrev pub ◌⊗◌ : {A B : Type 0} → Layout A → Layout B → Layout (A × B)
f ⊗ g = record { form = pair f.form g.form; lawful = pair-lawful f.form g.form f.lawful g.lawful }

-- a number that is always this one
abbrev pub constant : ℕ → Layout ℕ → Layout (Unit {0})
constant n f = record { form = fixed n f.form; lawful = fixed-lawful n f.form f.lawful }

-- the same bytes for another type: the maps both ways, and that each undoes the other
abbrev pub seen_as : {A X : Type 0} (f : Layout A) (made : A → X) (parts : X → A) → ((a : A) → f.form.Fits a → parts (made a) ≡ a) → ((x : X) → f.form.Fits (parts x) → made (parts x) ≡ x) → Layout X
seen_as f made parts back again = record { form = seen made parts f.form; lawful = seen-lawful made parts f.form f.lawful back again }

-- a constant in front, which no field of the record holds
infixr 6 ◌⊳◌
abbrev pub ◌⊳◌ : {A : Type 0} → Layout (Unit {0}) → Layout A → Layout A
f ⊳ g = seen_as (f ⊗ g) (λ a. a.1) (λ x. (tt, x)) (λ _ _. refl) (λ _ _. refl)

-- a field that is judged once all of it is there: its parts may make no value
abbrev pub checked_as : {A X : Type 0} (f : Layout A) (made : A → Option X) (parts : X → A) → ((a : A) (x : X) → f.form.Fits a → made a ≡ Some x → parts x ≡ a) → Layout X
checked_as f made parts back = record { form = checked made parts f.form; lawful = checked-lawful made parts f.form f.lawful back }

-- a field of which only some values are good
abbrev pub only_if : {A : Type 0} → (A → Bool) → Layout A → Layout A
only_if good f = record { form = judged good f.form; lawful = judged-lawful good f.form f.lawful }

-- a layout that depends on what was read before it
abbrev pub before : {A B : Type 0} → Layout A → (A → Layout B) → Layout (A × B)
before f g = record { form = after f.form (λ a. (g a).form); lawful = after-lawful f.form (λ a. (g a).form) f.lawful (λ a. (g a).lawful) }

-- so many values
abbrev pub so_many : {X : Type 0} → ℕ → Layout X → Layout (List X)
so_many n f = record { form = times n f.form; lawful = times-lawful n f.form f.lawful }

-- a count of four bytes and so many values
abbrev pub list_of : {X : Type 0} → Layout X → Layout (List X)
list_of f = record { form = many f.form; lawful = many-lawful f.form f.lawful }

-- a count in a layout of its own and so many values
abbrev pub list_by : {X : Type 0} → Layout ℕ → Layout X → Layout (List X)
list_by count f = record {
  form = with_count count.form (λ n. times n f.form);
  lawful = list-lawful count.form f.form count.lawful f.lawful;
}

-- so many values, each by a layout that depends on what stands before it
abbrev pub chained : {S X : Type 0} → (S → Layout X) → (S → X → S) → S → ℕ → Layout (List X)
chained f next first n = record {
  form = chain (λ b. (f b).form) next first n;
  lawful = chain-lawful (λ b. (f b).form) next (λ b. (f b).lawful) first n;
}

-- a count in a layout of its own and so many such values
abbrev pub chain_by : {S X : Type 0} → Layout ℕ → (S → Layout X) → (S → X → S) → S → Layout (List X)
chain_by count f next first = record {
  form = with_count count.form (λ n. chain (λ b. (f b).form) next first n);
  lawful = with_count-lawful count.form (λ n. chain (λ b. (f b).form) next first n) count.lawful (λ n. chain-lawful (λ b. (f b).form) next (λ b. (f b).lawful) first n) (λ n xs fits. fits.0);
}
