-- Whole steps of masters: what was placed before, or is placed now.
use Rattle.std.proofs.Common.{◌≡◌, ◌⊎◌, ℕ, Bool, true, List, [], ◌++◌, sym, subst, inl, inr}
use Rattle.std.proofs.lemmas.List.{append_assoc}
use Rattle.rc_model.specs.Model.{ServerId, Addr, Server, Message, Body, Stored, Replicas, Data, Enlist, between, Log, Master, goes_on}
use Rattle.rc_model.specs.Model.{then_does, ticks, master_takes_first, deposed_takes, master_takes, master_ticks, In}
use Rattle.rc_model.proofs.Tests.{true_false, either}
use Rattle.rc_model.proofs.Walk.{kept-takes_first, kept-ticks_first, kept-goes_on, kept-deposed}
use Rattle.rc_step_laws.proofs.EachMaster.{IsLed, is_others}
use Rattle.rc_owner_laws.proofs.Placings.{Placings, PlacedNow, HasClosed, Claims, placings-wider, placings-heard, placings-say}
use Rattle.rc_owner_laws.proofs.Steps as first
use Rattle.rc_owner_laws.proofs.Follows as follow

-- who told closed had been told to close
abbrev pub ToldShut : List Message → ServerId → Type 0
ToldShut sent m = (x : ServerId) (s e len : ℕ) (closed : Bool) → In (between x m (Stored s e len closed)) sent → closed ≡ true →
    HasClosed sent m s

-- placed before, or now
abbrev pub OrNow : (ℕ → ℕ → Type 0) → Log → ℕ → ℕ → Type 0
OrNow W log s e = W s e ⊎ PlacedNow log s e

-- what others say in a master's name claims nothing
others-claim : (next : ℕ → Type 0) (ready : Type 0) (placed : ℕ → ℕ → Type 0) (body : Body) → is_others body ≡ true →
    Claims next ready placed body
others-claim next ready placed (Stored seg epoch len closed) e = tt
others-claim next ready placed (Replicas attempt rows) e = tt
others-claim next ready placed (Data attempt seg term entries) e = tt
others-claim next ready placed Enlist e = tt
others-claim next ready placed _ e = true_false (sym e)

module _ (f : ℕ) (W : ℕ → ℕ → Type 0) (m : ServerId) where
  abbrev After : List Message → Master × List Message → Type 0
  After sent after = Placings f (OrNow W after.0.log) (sent ++ after.1) m after.0.log

  -- an input and the list rules, and then what follows up
  joined : (sent : List Message) (one : Master × List Message) → Placings f W (sent ++ one.1) m one.0.log → After sent
      (then_does one goes_on)
  joined sent one p =
      subst (λ (all : List Message). Placings f (OrNow W (goes_on one.0).0.log) all m (goes_on one.0).0.log)
      (append_assoc sent one.1 (goes_on one.0).1)
      ((kept-goes_on (follow.Follows f (OrNow W (goes_on one.0).0.log) m) (follow.follows-joined f (OrNow W (goes_on one.0).0.log) m)
      (follow.follows-followed f (OrNow W (goes_on one.0).0.log) m) one.0).leads (sent ++ one.1) (λ s e now. inr now)
      (placings-wider W (OrNow W (goes_on one.0).0.log) (λ s e w. inl w) p))

  wider : (sent : List Message) (after : Master × List Message) → Placings f W (sent ++ after.1) m after.0.log → After sent after
  wider sent after p = placings-wider W (OrNow W after.0.log) (λ s e w. inl w) p

  pub stepped : (sent : List Message) (master : Master) (from : Addr) (says : Body) → ToldShut sent m → Placings f W sent m master.log →
      In (record { from = from; to = Server m; body = says }) sent → After sent (master_takes master from says)
  stepped sent master from says told p at =
      either (After sent) master.deposed (deposed_takes master says) (then_does (master_takes_first master from says) goes_on)
      (λ _. wider sent (deposed_takes master says) (kept-deposed (first.Begins f W m sent) (first.begins-joined f W m sent)
      (first.begins-taken f W m sent master from says at told).refuses says sent (λ message there. there) p))
      (λ _. joined sent (master_takes_first master from says)
      (kept-takes_first (first.Begins f W m sent) (first.begins-joined f W m sent) (first.begins-listed f W m sent) from says
      (first.begins-taken f W m sent master from says at told) sent (λ message there. there) p))

  pub ticked : {sent : List Message} (master : Master) → Placings f W sent m master.log → After sent (master_ticks master)
  ticked {sent} master p = either (After sent) master.deposed (master, []) (then_does (ticks master) goes_on)
      (λ _. wider sent (master, []) (placings-say W [] (λ message none. absurd none) p))
      (λ _. joined sent (ticks master)
      (kept-ticks_first (first.Begins f W m sent) (first.begins-joined f W m sent) (first.begins-listed f W m sent)
      (first.begins-ticked f W m sent) master sent (λ message there. there) p))

-- of all masters
module _ (f : ServerId → ℕ) (W : ServerId → ℕ → ℕ → Type 0) where
  abbrev pub Before : List Message → ServerId → Master → Type 0
  Before sent m master = ToldShut sent m × Placings (f m) (W m) sent m master.log

  abbrev pub Now : List Message → ServerId → Master → Type 0
  Now sent m master = Placings (f m) (OrNow (W m) master.log) sent m master.log

  pub masters-led : IsLed Before Now
  masters-led = record {
    same = λ sent m master p. placings-wider (W m) (OrNow (W m) master.log) (λ s e w. inl w) p.1;
    others = λ sent messages m master p others. placings-heard (OrNow (W m) master.log) messages
        (λ message at from. others-claim _ _ _ message.body (others message at from))
        (placings-wider (W m) (OrNow (W m) master.log) (λ s e w. inl w) p.1);
    takes = λ sent m master from says good p at. stepped (f m) (W m) m sent master from says p.0 p.1 at;
    ticks = λ sent m master good p. ticked (f m) (W m) m master p.1;
  }
