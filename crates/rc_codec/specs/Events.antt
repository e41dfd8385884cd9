-- Orders to the coordinator and events as their bytes, and how these are read. `docs/BYTES.md` has the same in prose.
use Rattle.std.specs.Prelude.{ℕ, List, [], ◌∷◌, ◌++◌, ◌-◌, map, slice_get}
use Rattle.rc_types.specs.declared.events.Event.{Event}
use Rattle.rc_types.specs.declared.events.Event.TheVariants as event
use Rattle.rc_types.specs.declared.events.Order.{Order}
use Rattle.rc_types.specs.declared.events.Order.TheVariants as order
use Rattle.rc_codec.specs.Parts.{byte, four_bytes, eight_bytes, listed}
use Rattle.rc_codec.specs.Reading.{◌>>=◌, Reader, made, ◌⊗◌, listed_at}
use Rattle.rc_codec.specs.Fields.{u8_at, u32_at, u64_at, chosen_at, id_code, id_at, addr_code, addr_at, kept_code}
use Rattle.rc_codec.specs.Fields.{kept_at}
use Rattle.rc_codec.specs.Bodies.{body_code, body_at}

-- what the coordinator is told: of an event, and of what a node is given
abbrev pub order_code : Order → List ℕ
order_code (order.Suspect id) = 5 ∷ id_code id
order_code (order.Decide id) = 6 ∷ id_code id
order_code (order.Create table owner) = 7 ∷ four_bytes table ++ id_code owner
order_code (order.Split table at) = 8 ∷ four_bytes table ++ eight_bytes at

-- behind a kind of 5 and more

abbrev pub suspect_at : Reader Order
suspect_at = made id_at order.Suspect

abbrev pub decide_at : Reader Order
decide_at = made id_at order.Decide

abbrev pub create_at : Reader Order
create_at = made (u32_at ⊗ id_at) (λ p. order.Create p.0 p.1)

abbrev pub split_at : Reader Order
split_at = made (u32_at ⊗ u64_at) (λ p. order.Split p.0 p.1)

abbrev pub orders : List (Reader Order)
orders = suspect_at ∷ decide_at ∷ create_at ∷ split_at ∷ []

abbrev pub order_at : ℕ → Reader Order
order_at kind xs = slice_get orders (kind - 5) >>= λ read. read xs

-- what is made of them
abbrev pub ordered : {A : Type 0} → (Order → A) → List (Reader A)
ordered f = map (λ (read : Reader Order). made read f) orders

abbrev pub event_code : Event → List ℕ
event_code (event.Ask to body) = 0 ∷ id_code to ++ body_code body
event_code (event.Deliver number) = 1 ∷ eight_bytes number
event_code (event.Tick addr) = 2 ∷ addr_code addr
event_code (event.Stop id) = 3 ∷ id_code id
event_code (event.Start host kept) = 4 ∷ byte host ++ listed kept_code kept
event_code (event.Order o) = order_code o

abbrev pub ask_at : Reader Event
ask_at = made (id_at ⊗ body_at) (λ p. event.Ask p.0 p.1)

abbrev pub deliver_at : Reader Event
deliver_at = made u64_at event.Deliver

abbrev pub tick_at : Reader Event
tick_at = made addr_at event.Tick

abbrev pub stop_at : Reader Event
stop_at = made id_at event.Stop

abbrev pub start_at : Reader Event
start_at = made (u8_at ⊗ listed_at kept_at) (λ p. event.Start p.0 p.1)

abbrev pub events : List (Reader Event)
events = ask_at ∷ deliver_at ∷ tick_at ∷ stop_at ∷ start_at ∷ ordered event.Order

unfoldable pub event_at : Reader Event
event_at = chosen_at events

abbrev pub coded_event : Event → List ℕ
coded_event e = 1 ∷ event_code e
