-- A master answers a read by a ReadOk, and sends none besides.
use Rattle.std.proofs.Common.{arith}
use Rattle.std.proofs.Common.{◌≡◌, Bool, true, false, List, [], ◌∷◌, refl, subst}
use Rattle.rc_model.specs.Model.{ServerId, Addr, Message, Body, Read, ReadOk, Master, to_ids, then_does, goes_on}
use Rattle.rc_model.specs.Model.{master_takes_first, deposed_takes, master_ticks}
use Rattle.rc_model.proofs.Tests.{true_false}
use Rattle.rc_model.proofs.Walk.{Joined, Listed, Taken, Ticked, Followed, kept-then, kept-takes_first, kept-deposed}
use Rattle.rc_model.proofs.Walk.{kept-goes_on, kept-ticks}
use Rattle.rc_model.proofs.Sending.{Each, each-none, each-one, each-both, each-map, each-to_ids, each-frees, each-write_oks, each-reminds}

-- the message answers a read
abbrev pub is_read_ok : Body → Bool
is_read_ok (ReadOk table key version value) = true
is_read_ok _ = false

abbrev is_hushed : Message → Type 0
is_hushed message = is_read_ok message.body ≡ false

-- none of these does
abbrev pub Hushed : List Message → Type 0
Hushed messages = Each is_hushed messages

-- a rule sends none
pub record Hush (after : Master × List Message) : Type 0 where
  pub hushed : Hushed after.1

-- whatever it began with
abbrev By : Master → Master × List Message → Type 0
By master after = Hush after

none : {master : Master} → Hush (master, [])
none = record { hushed = each-none is_hushed }

one : {master : Master} {message : Message} → is_read_ok message.body ≡ false → Hush (master, message ∷ [])
one {master} {message} isn't = record { hushed = each-one is_hushed isn't }

several : {master : Master} (own : ServerId) (ids : List ServerId) (body : Body) → is_read_ok body ≡ false →
    Hush (master, to_ids own ids body)
several own ids body isn't = record { hushed = each-to_ids is_hushed ids (λ id _. isn't) }

joined : Joined By
joined = record {
  still = λ master. none;
  both = λ one two first after p q. record { hushed = each-both is_hushed first after.1 p.hushed q.hushed };
}

listed : Listed By
listed = record { replaces = λ master seg ids isn't. several _ _ _ refl; opens = λ master ids none chosen. several _ _ _ refl }

-- but for a read
abbrev pub is_read : Body → Bool
is_read (Read table key) = true
is_read _ = false

taken : {master : Master} {from : Addr} {body : Body} → is_read body ≡ false → Taken By master from body
taken isn't = record {
  refuses = λ other fault. one refl;
  rolls = λ ids writing room chosen. several _ _ _ refl;
  writes = λ term table key value is owned writing room. several _ _ _ refl;
  reads = λ term table key is owned. true_false (subst (λ (says : Body). is_read says ≡ false) is isn't);
  lists = λ version rows is newer. none;
  stores = λ teller seg epoch len closed is told. none;
  commits = λ seg epoch is. none;
  deposes = none;
  begins = λ other attempt crashed head rows parts part is at new. record { hushed = each-map is_hushed _ rows (λ row _. refl) };
  comes = λ holder attempt seg term entries is says. none;
  owns = λ range term previous attempt is. none;
}

ticked : Ticked By
ticked = search (arith, one, each-reminds)

followed : Followed By
followed = search (arith, none, one, several, each-frees, each-write_oks)

pub hush-then : {first : Master × List Message} {rule : Master → Master × List Message} → Hush first →
    ((after : Master) → Hush (rule after)) → Hush (then_does first rule)
hush-then {first} {rule} p q = kept-then By joined {master = first.0} p q

pub hush-takes_first : (master : Master) (from : Addr) (body : Body) → is_read body ≡ false → Hush (master_takes_first master from body)
hush-takes_first master from body isn't = kept-takes_first By joined listed from body (taken isn't)

pub hush-deposed : (master : Master) (body : Body) → Hush (deposed_takes master body)
hush-deposed master body = kept-deposed By joined (λ other fault. one refl) body

pub hush-goes : (master : Master) → Hush (goes_on master)
hush-goes = kept-goes_on By joined followed

pub hush-master_ticks : (master : Master) → Hush (master_ticks master)
hush-master_ticks = kept-ticks By joined listed followed ticked
