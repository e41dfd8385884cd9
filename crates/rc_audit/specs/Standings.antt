-- What the acknowledged writes of each master ask of a recovery of it.
use Rattle.std.specs.Prelude.{◌≡◌, ℕ, ◌+◌, Bool, true, max, nat_eq, ◌&&◌, if◌then◌else◌, List, [], ◌∷◌, Option, Some}
use Rattle.std.specs.Prelude.{None}
use Rattle.std.specs.Ordering.{nat_cmp}
use Rattle.std.specs.BTreeMap.{BTreeMap, get}
use Rattle.rc_types.specs.declared.ids.ServerId.{ServerId}
use Rattle.rc_types.specs.declared.messages.Message.{Message}
use Rattle.rc_model.specs.Ids.{same_id}
use Rattle.rc_model.specs.Made.{made}
use Rattle.rc_model.specs.Recovered.{Ack}
use Rattle.rc_model.specs.Breach.{all_agree}
use Rattle.rc_audit.specs.declared.standing.Standing.{Standing}
use Rattle.rc_audit.specs.Places.{id_order}

-- the places of a segment that have acknowledged writes are below this offset
abbrev pub acked_below : List Ack → ℕ → ℕ
acked_below [] s = 0
acked_below (ack ∷ acks) s = if nat_eq ack.seg s then max (ack.offset + 1) (acked_below acks s) else acked_below acks s

-- all that was sent for the place of each of these writes is that write
abbrev pub all_kept : List Message → ServerId → List Ack → Bool
all_kept sent m [] = true
all_kept sent m (ack ∷ acks) = all_agree ack (made sent m ack.seg ack.offset) && all_kept sent m acks

-- what a standing says of both, where a master with none has acknowledged nothing
abbrev pub kept_in : Option Standing → Bool
kept_in None = true
kept_in (Some standing) = standing.all_agree

abbrev pub one_above : Option ℕ → ℕ
one_above None = 0
one_above (Some top) = top + 1

abbrev pub below_in : Option Standing → ℕ → ℕ
below_in None s = 0
below_in (Some standing) s = one_above (get nat_cmp standing.tops s)

abbrev pub kept_at : BTreeMap ServerId Standing → ServerId → Bool
kept_at standings m = kept_in (get id_order standings m)

abbrev pub below_at : BTreeMap ServerId Standing → ServerId → ℕ → ℕ
below_at standings m s = below_in (get id_order standings m) s

-- the standings are those of the masters that have acknowledged these writes
pub record StandsFor (standings : BTreeMap ServerId Standing) (sent : List Message) (acked : ServerId → List Ack) :
    Type 0 where
  pub kept : (m : ServerId) → kept_at standings m ≡ all_kept sent m (acked m)
  pub below : (m : ServerId) (s : ℕ) → below_at standings m s ≡ acked_below (acked m) s

-- one more acknowledged write of one master, which agrees with all that was sent for its place or not
pub record AddsWrite (old new : BTreeMap ServerId Standing) (master : ServerId) (ack : Ack) (agrees : Bool) :
    Type 0 where
  pub kept : (m : ServerId) → kept_at new m ≡ (if same_id master m then kept_at old m && agrees else kept_at old m)
  pub below : (m : ServerId) (s : ℕ) →
      below_at new m s ≡ (if same_id master m && nat_eq ack.seg s then max (ack.offset + 1) (below_at old m s)
      else below_at old m s)
