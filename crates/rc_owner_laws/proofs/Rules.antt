-- What single rules of a master make of its placings.
use Rattle.std.proofs.Common.{◌≡◌, ◌⊎◌, ℕ, ◌+◌, ◌<◌, ◌≤◌, Bool, true, false, nat_eq, nat_lt, List}
use Rattle.std.proofs.Common.{length, map, Option, Some, None, Result, Ok, Err, refl, sym, ◌∙◌, subst, inl, inr, arith}
use Rattle.std.proofs.lemmas.Bool.{eqb-true}
use Rattle.std.proofs.lemmas.List.{length-map}
use Rattle.rc_model.specs.Model.{ServerId, Phase, Opening, Fault, EpochsExhausted, LAST_EPOCH, Message, Stored}
use Rattle.rc_model.specs.Model.{between, ServerList, Config, any_lost, lost_if_crashed, with_lost, substitutes_for}
use Rattle.rc_model.specs.Model.{replaced, changed, changes_to, lose, refills_with, refill, told_if_heard, noted, committed_at, Segment}
use Rattle.rc_model.specs.Model.{new_segment, under_new_epoch, Log, with_segment, has_segment, opens_head, with_config, opens_change}
use Rattle.rc_model.specs.Model.{refills, loses, stored, commit_noted, In}
use Rattle.rc_model.proofs.Tests.{either}
use Rattle.rc_model.proofs.Tables.{put_each}
use Rattle.rc_step_laws.proofs.MasterWorlds.{put-cases}
use Rattle.rc_owner_laws.proofs.Placings.{IsNext, Some_placed, HasClosed, AllKnown, GoodPlacing, Placings, PlacedNow}
use Rattle.rc_owner_laws.proofs.Placings.{good-later, placings-moved}
use Rattle.rc_owner_laws.proofs.Placings.{placings-put, good-config, good-alike}
use Rattle.rc_owner_laws.proofs.Members.{many-replaced, known-anew, known-chosen, known-lost, known-replaced, known-told}

module _ (f : ℕ) (W : ℕ → ℕ → Type 0) (sent : List Message) (m : ServerId) where
  -- A segment changes

  -- other members, under the same epoch
  config-put : {log : Log} {seg : ℕ} (config : Config) → Placings f W sent m log →
      length config.members ≡ length (log.segments seg).config.members → config.epoch ≡ (log.segments seg).config.epoch →
      AllKnown sent m seg config.epoch config.members → Placings f W sent m (with_config seg config log)
  config-put {seg} config p many epoch known = placings-put W p (good-config W many refl
      (λ _. epoch) known (λ is. (is, epoch)) (p.each seg))

  -- marks that are not of the config
  pub alike-put : {log : Log} {seg : ℕ} (segment : Segment) → Placings f W sent m log →
      segment.config ≡ (log.segments seg).config → segment.shut ≡ (log.segments seg).shut →
      segment.commit_sent ≡ (log.segments seg).commit_sent → Placings f W sent m (with_segment seg segment log)
  alike-put {seg} segment p config shut marked = placings-put W p (good-alike W config shut marked (p.each seg))

  -- lost members
  marked-put : {log : Log} (seg : ℕ) (servers : ServerList) → Placings f W sent m log →
      Placings f W sent m (with_config seg (with_lost servers (log.segments seg).config) log)
  marked-put {log} seg servers p = config-put (with_lost servers (log.segments seg).config) p
      (length-map (log.segments seg).config.members (lost_if_crashed servers)) refl
      (known-lost servers (log.segments seg).config.members (p.each seg).known)

  refilled-put : {log : Log} (seg : ℕ) (servers : ServerList) (found : Option (List ServerId)) → Placings f W sent m log →
      Placings f W sent m (refills seg log (refills_with (with_lost servers (log.segments seg).config) found)).0
  refilled-put seg servers None p = marked-put seg servers p
  refilled-put {log} seg servers (Some ids) p = config-put (record (with_lost servers (log.segments seg).config)
      { members = replaced (with_lost servers (log.segments seg).config).members ids }) p
      (many-replaced (map (lost_if_crashed servers) (log.segments seg).config.members) ids ∙
      length-map (log.segments seg).config.members (lost_if_crashed servers)) refl
      (known-replaced sent m seg (log.segments seg).config.epoch (map (lost_if_crashed servers) (log.segments seg).config.members) ids
      (known-lost servers (log.segments seg).config.members (p.each seg).known))

  changed-put : {log : Log} (seg : ℕ) (servers : ServerList) (ids : List ServerId) →
      (log.segments seg).shut ≡ false → Placings f W sent m log →
      Placings f W sent m
      (with_segment seg (under_new_epoch (changed (with_lost servers (log.segments seg).config) ids) (log.segments seg)) log)
  changed-put {log} seg servers ids unshut p =
      search (arith, placings-put, good-config, length-map, many-replaced, known-anew)

  changes-put : {log : Log} (seg : ℕ) (servers : ServerList) (found : Option (List ServerId)) →
      (log.segments seg).shut ≡ false → Placings f W sent m log →
      Placings f W sent m (opens_change seg log (changes_to (with_lost servers (log.segments seg).config) found)).0
  changes-put seg servers None unshut p = marked-put seg servers p
  changes-put {log} seg servers (Some ids) unshut p =
      either (λ (answer : Config × Result Bool Fault). Placings f W sent m (opens_change seg log answer).0)
      (nat_lt (log.segments seg).config.epoch LAST_EPOCH) (changed (with_lost servers (log.segments seg).config) ids, Ok true)
      (with_lost servers (log.segments seg).config, Err EpochsExhausted)
      (λ _. changed-put seg servers ids unshut p) (λ _. marked-put seg servers p)

  pub loses-put : (servers : ServerList) (seg : ℕ) {log : Log} → Placings f W sent m log →
      Placings f W sent m (loses servers seg log).0
  loses-put servers seg {log} p =
      either (λ (after : Log × Result (List ServerId) Fault). Placings f W sent m after.0) (log.segments seg).shut
      (refills seg log (refill log.own servers (log.segments seg).config))
      (opens_change seg log (lose log.own servers (log.segments seg).config))
      (λ _. refilled-put seg servers (substitutes_for log.own servers (with_lost servers (log.segments seg).config)) p)
      (λ unshut. either (λ (answer : Config × Result Bool Fault). Placings f W sent m (opens_change seg log answer).0)
      (any_lost (with_lost servers (log.segments seg).config).members)
      (changes_to (with_lost servers (log.segments seg).config)
      (substitutes_for log.own servers (with_lost servers (log.segments seg).config)))
      (with_lost servers (log.segments seg).config, Ok false)
      (λ _. changes-put seg servers (substitutes_for log.own servers (with_lost servers (log.segments seg).config)) unshut p)
      (λ _. marked-put seg servers p))

  -- what members tell
  pub stored-put : (seg : ℕ) (from : ServerId) (epoch len : ℕ) (closed : Bool) (log : Log) →
      In (between from m (Stored seg epoch len closed)) sent → (closed ≡ true → HasClosed sent m seg) →
      Placings f W sent m log → Placings f W sent m (stored seg from epoch len closed log)
  stored-put seg from epoch len closed log at shuts p = either (Placings f W sent m) (has_segment log seg)
      (with_config seg (noted from epoch len closed (log.segments seg).config) log) log
      (λ _. either (λ (config : Config). Placings f W sent m (with_config seg config log))
      (nat_eq epoch (log.segments seg).config.epoch)
      (record (log.segments seg).config { members = map (told_if_heard from len closed) (log.segments seg).config.members })
      (log.segments seg).config
      (λ e. config-put _ p (length-map (log.segments seg).config.members (told_if_heard from len closed)) refl
      (known-told sent m seg (log.segments seg).config.epoch from len closed
      (subst (λ n. In (between from m (Stored seg n len closed)) sent) (eqb-true epoch (log.segments seg).config.epoch e) at)
      shuts (log.segments seg).config.members (p.each seg).known))
      (λ _. config-put (log.segments seg).config p refl refl (p.each seg).known)) (λ _. p)

  pub commit-put : (seg epoch : ℕ) {log : Log} → Placings f W sent m log → Placings f W sent m (commit_noted seg epoch log)
  commit-put seg epoch {log} p =
      either (Placings f W sent m) (has_segment log seg) (with_config seg (committed_at epoch (log.segments seg).config) log) log
      (λ _. either (λ (config : Config). Placings f W sent m (with_config seg config log))
      (nat_eq epoch (log.segments seg).config.epoch) (record (log.segments seg).config { committed = true })
      (log.segments seg).config
      (λ _. config-put (record (log.segments seg).config { committed = true }) p refl refl (p.each seg).known)
      (λ _. config-put (log.segments seg).config p refl refl (p.each seg).known)) (λ _. p)

  -- The phase, and a new head

  next-up : (head s : ℕ) (phase now : Phase) → IsNext f head phase s → IsNext f (head + 1) now s
  next-up head s phase now (inl less) = inl (omega (arith, less))
  next-up head s phase now (inr (same, _)) = inl (omega (arith, same))

  -- a head is opened where the old one was placed, or there was none
  pub opens-put : {log : Log} (digest : List ℕ) (ids : List ServerId) → length ids ≡ f →
      (log.phase ≡ Opening → ⊥) ⊎ (log.head ≡ 0) → Placings f W sent m log → Placings f W sent m (opens_head log digest ids)
  opens-put {log} digest ids many may p = placings-moved W refl refl (λ s. next-up log.head s log.phase Opening)
      (λ s above below. lower s above (last s log.head below) may) (λ never. absurd (never refl))
      (put-cases (λ k (one : Segment). GoodPlacing f W sent m (log.head + 1) Opening k one) log.segments (log.head + 1)
      (new_segment (log.head + 1) digest ids) fresh (λ k differs. good-later W W (λ t e w. w)
      (λ message at. at) (λ above upto. which k log.head upto (λ same. differs (sym same)))
      (next-up log.head k log.phase Opening) (p.each k))) p
    where
      last : (s head : ℕ) → s < head + 1 → (s < head) ⊎ (s ≡ head)
      last s head below = grind arith

      which : (a b : ℕ) → a ≤ b + 1 → (a ≡ b + 1 → ⊥) → a ≤ b
      which a b q differs = grind arith

      lower : (s : ℕ) → 0 < s → (s < log.head) ⊎ (s ≡ log.head) → (log.phase ≡ Opening → ⊥) ⊎ (log.head ≡ 0) → Some_placed W s
      lower s above (inl less) may = p.lower s above less
      lower s above (inr same) (inl not_opening) = subst (Some_placed W) (sym same) (p.head_placed not_opening).1
      lower s above (inr same) (inr none) = absurd (omega (arith, above, same, none))

      fresh : GoodPlacing f W sent m (log.head + 1) Opening (log.head + 1) (new_segment (log.head + 1) digest ids)
      fresh = search (arith, length-map, known-chosen)

  -- the phase goes on from Opening, where the head is placed on all, or from one in which it was
  pub phase-put : {log : Log} {phase : Phase} → (phase ≡ Opening → ⊥) → (0 < log.head) × Some_placed W log.head →
      Placings f W sent m log → Placings f W sent m (record log { phase = phase })
  phase-put {log} {phase} not_opening placed p = search (arith, placings-moved, good-later)

  -- the durable count
  pub counted-put : {log : Log} {n : ℕ} → Placings f W sent m log → Placings f W sent m (record log { durable = n })
  counted-put p = placings-moved W refl refl (λ s is. is) p.lower p.head_placed p.each p

-- What is placed now stays so

pub placed-kept : {old new : Log} → old.head ≤ new.head →
    ((s : ℕ) → s ≤ old.head → (new.segments s).config ≡ (old.segments s).config) → (s e : ℕ) → PlacedNow old s e → PlacedNow new s e
placed-kept up same s e p = search arith

pub kept-put : {log : Log} (seg : ℕ) (segment : Segment) → segment.config ≡ (log.segments seg).config → (s e : ℕ) →
    PlacedNow log s e → PlacedNow (with_segment seg segment log) s e
kept-put {log} seg segment same = placed-kept (omega arith)
    (λ s _. put_each (λ k (one : Segment). one.config ≡ (log.segments k).config) log.segments seg segment same (λ k. refl) s)

pub kept-opens : {log : Log} (digest : List ℕ) (ids : List ServerId) (s e : ℕ) → PlacedNow log s e → PlacedNow
    (opens_head log digest ids) s e
kept-opens {log} digest ids = search (arith, placed-kept, put-cases)
