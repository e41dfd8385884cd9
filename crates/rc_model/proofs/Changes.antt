-- How members change, and what a roll opens.
use Rattle.std.proofs.Common.{◌≡◌, ℕ, zero, suc, ◌+◌, Bool, true, false, not, ◌||◌, nat_eq, nat_lt, List, [], ◌∷◌, ◌++◌, map, filter}
use Rattle.std.proofs.Common.{Option, Some, None, Result, Ok, Err, slice_get, refl, sym, ap, ◌∙◌, subst, arith}
use Rattle.std.specs.List.{list_any}
use Rattle.rc_model.specs.Heads.{opened_on}
use Rattle.rc_model.specs.Model.{ServerId, Fault, LogFull, Member, LAST_SEGMENT, ServerList, Config}
use Rattle.rc_model.specs.Model.{new_member, changes_to, lose, noted, choose}
use Rattle.rc_model.specs.Model.{Segment, Log, head_of, next_digest, begin_roll, Master, dead_segments}
use Rattle.rc_model.proofs.Tests.{either, true_false}
use Rattle.rc_model.proofs.Tables.{put-same}

-- fresh members have told nothing
fresh-untold : (members : List Member) (k : ℕ) (member : Member) →
    slice_get (map (λ (one : Member). new_member one.id) members) k ≡ Some member →
    (member.told ≡ None) × (member.lost ≡ false)
fresh-untold [] k member found = cc
fresh-untold (one ∷ others) zero member found = search arith
fresh-untold (one ∷ others) (suc k) member found = fresh-untold others k member found

-- a config as it is right after a change from another
pub record Fresh (old new : Config) : Type 0 where
  pub epoch : new.epoch ≡ old.epoch + 1
  pub committed : new.committed ≡ false
  pub untold : (k : ℕ) (member : Member) → slice_get new.members k ≡ Some member → (member.told ≡ None) × (member.lost ≡ false)

abbrev FreshIfChanged : Config → Config × Result Bool Fault → Type 0
FreshIfChanged old answer = answer.1 ≡ Ok true → Fresh old answer.0

fresh-changed : {old : Config} (marked : Config) (found : Option (List ServerId)) → marked.epoch ≡ old.epoch →
    FreshIfChanged old (changes_to marked found)
fresh-changed marked None same e = cc
fresh-changed {old} marked (Some ids) same e = search (arith, either, nat_lt, fresh-untold)

fresh-lose : (own : ServerId) (servers : ServerList) {old : Config} → FreshIfChanged old (lose own servers old)
fresh-lose own servers {old} = search (arith, either, fresh-changed)

-- a change of members begins afresh
pub lose-fresh : (own : ServerId) (servers : ServerList) {old new : Config} → lose own servers old ≡ (new, Ok true) → Fresh old new
lose-fresh own servers {old} e = subst (FreshIfChanged old) e (fresh-lose own servers) refl

-- what is told under another epoch isn't noted
pub noted-other : (from : ServerId) (epoch len : ℕ) (closed : Bool) (config : Config) →
    nat_eq epoch config.epoch ≡ false → noted from epoch len closed config ≡ config
noted-other from epoch len closed config other = rw other refl

-- Digests

-- with nothing dead, all stay
pub all-stay : (head : ℕ) (digest : List ℕ) → filter (λ seg. nat_eq seg head || not (list_any (nat_eq seg) [])) digest ≡ digest
all-stay head [] = refl
all-stay head (seg ∷ digest) =
    either (λ segs. segs ≡ seg ∷ digest) (nat_eq seg head || true) (seg ∷ filter (λ s. nat_eq s head || true) digest)
    (filter (λ s. nat_eq s head || true) digest)
    (λ _. ap (λ rest. seg ∷ rest) (all-stay head digest)) (λ isn't. true_false (sym (or_true (nat_eq seg head)) ∙ isn't))
  where
    or_true : (b : Bool) → b || true ≡ true
    or_true true = refl
    or_true false = refl

abbrev DigestKept : Log → Log × Result Bool Fault → Type 0
DigestKept old answer = (began : Bool) → answer.1 ≡ Ok began → (head_of answer.0).digest ≡ (head_of old).digest ++ (old.head + 1) ∷ []

kept-opened_on : (old : Log) (chosen : Option (List ServerId)) → DigestKept old (opened_on old (next_digest old []) chosen)
kept-opened_on old None began e = cc
kept-opened_on old (Some ids) began e = ap (λ (s : Segment). s.digest) (put-same old.segments (old.head + 1))
    ∙ ap (λ segs. segs ++ (old.head + 1) ∷ []) (all-stay old.head (head_of old).digest)

kept-begun : (old : Log) (servers : ServerList) → DigestKept old (begin_roll servers [] old)
kept-begun old servers = either (DigestKept old) (nat_lt old.head LAST_SEGMENT)
    (opened_on old (next_digest old []) (choose (old.head + 1) old.own old.factor servers)) (old, Err LogFull)
    (λ _. kept-opened_on old (choose (old.head + 1) old.own old.factor servers)) (λ _ began e. cc)

-- a master that frees nothing keeps the whole digest
pub rolls-keep : (master : Master) (log : Log) (began : Bool) → master.free ≡ false →
    begin_roll master.known (dead_segments master) master.log ≡ (log, Ok began) →
    (head_of log).digest ≡ (head_of master.log).digest ++ (master.log.head + 1) ∷ []
rolls-keep master log began keeps e = search (arith, kept-begun)
