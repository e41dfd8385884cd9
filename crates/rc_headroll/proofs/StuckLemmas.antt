-- Segments whose lost members nobody of a list can replace.
use Rattle.std.proofs.Common.{◌≡◌, ◌⊎◌, inl, inr, ℕ, Bool, true, false, cond, not, ◌||◌, List, [], ◌∷◌, map, filter, Option}
use Rattle.std.proofs.Common.{Some, None, is_none, option_map, option_and_then, Result, Ok, Err, OnOk, is_ok, refl, ap, sym, ◌∙◌}
use Rattle.std.proofs.Math.Path.{fun_ext}
use Rattle.std.proofs.lemmas.Bool.{and_parts, and_from, cond_both, false≢true}
use Rattle.rc_types.specs.declared.faults.Fault.TheVariants.{OutOfMemory}
use Rattle.rc_model.specs.Model.{ServerId, Member, Fault, NoBackups, ServerList, has_crashed, Config, told_with, told_if_heard, is_heard}
use Rattle.rc_model.specs.Model.{lost_if_crashed, with_lost, staying, first_free, substitutes, substitutes_for, candidates}
use Rattle.rc_model.specs.Model.{refills_with, refill, lose, Segment, Log, refills, opens_change, loses}
use Rattle.rc_headroll.specs.Watching.{are_marked, is_helpless}
use Rattle.rc_headroll.proofs.ConcernedLemmas.{config-same}

-- What a member tells changes nothing of it

module _ (from : ServerId) (len : ℕ) (closed : Bool) where
  abbrev tells : List Member → List Member
  tells members = map (told_if_heard from len closed) members

  -- what holds of each member that differs in what it has told holds of the one that tells
  either-way : (member : Member) (P : Member → Type 0) → P (record member { told = Some (told_with member.told len closed) }) →
      P member → P (told_if_heard from len closed member)
  either-way member P heard other =
      cond_both (is_heard from member) (record member { told = Some (told_with member.told len closed) }) member P (λ e. heard)
      (λ e. other)

  marked-told : (servers : ServerList) (members : List Member) → are_marked servers members ≡ true →
      are_marked servers (tells members) ≡ true
  marked-told servers [] marked = refl
  marked-told servers (member ∷ members) marked =
      let parts = and_parts (member.lost || not (has_crashed servers member.id)) (are_marked servers members) marked in
      either-way member (λ m. are_marked servers (m ∷ tells members) ≡ true)
      (and_from (member.lost || not (has_crashed servers member.id)) (are_marked servers (tells members)) parts.0
      (marked-told servers members parts.1))
      (and_from (member.lost || not (has_crashed servers member.id)) (are_marked servers (tells members)) parts.0
      (marked-told servers members parts.1))

  one-more : (b : Bool) (m : Member) (others others' : List Member) →
      map (λ (o : Member). o.id) others ≡ map (λ (o : Member). o.id) others' → (m' : Member) → m'.id ≡ m.id →
      map (λ (o : Member). o.id) (cond b (m' ∷ others) others) ≡ map (λ (o : Member). o.id) (cond b (m ∷ others') others')
  one-more true m others others' e m' same =
      ap (λ (id : ServerId). id ∷ map (λ (o : Member). o.id) others) same ∙ ap (λ (ids : List ServerId). m.id ∷ ids) e
  one-more false m others others' e m' same = e

  staying-told : (members : List Member) → staying (tells members) ≡ staying members
  staying-told [] = refl
  staying-told (member ∷ members) =
      either-way member (λ m. staying (m ∷ tells members) ≡ staying (member ∷ members))
      (one-more (not member.lost) member (filter (λ o. not o.lost) (tells members)) (filter (λ o. not o.lost) members)
      (staying-told members) (record member { told = Some (told_with member.told len closed) }) refl)
      (one-more (not member.lost) member (filter (λ o. not o.lost) (tells members)) (filter (λ o. not o.lost) members)
      (staying-told members) member refl)

  substitutes-told : (ids taken : List ServerId) (members : List Member) →
      substitutes ids taken (tells members) ≡ substitutes ids taken members
  substitutes-told ids taken [] = refl
  substitutes-told ids taken (member ∷ members) =
      let same = ap (λ (found : List ServerId → Option (List ServerId)).
      cond member.lost
      (option_and_then (λ id. option_map (λ rest. id ∷ rest) (found (id ∷ taken))) (first_free ids taken)) (found taken))
      (fun_ext (λ (others : List ServerId). substitutes-told ids others members)) in
      either-way member (λ m. substitutes ids taken (m ∷ tells members) ≡ substitutes ids taken (member ∷ members)) same same

pub helpless-told : (own : ServerId) (servers : ServerList) (from : ServerId) (len : ℕ) (closed : Bool) (config : Config) →
    is_helpless own servers config ≡ true →
    is_helpless own servers (record config { members = map (told_if_heard from len closed) config.members }) ≡ true
helpless-told own servers from len closed config helpless =
    let told : Config = record config { members = map (told_if_heard from len closed) config.members } in
    let parts = and_parts (are_marked servers config.members) (is_none (substitutes_for own servers config)) helpless in
    let ids : List ServerId = candidates config.seg own servers in
    let same : substitutes_for own servers told ≡ substitutes_for own servers config =
    ap (λ (taken : List ServerId). substitutes ids taken told.members) (staying-told from len closed config.members)
    ∙ substitutes-told from len closed ids (staying config.members) config.members in
    and_from (are_marked servers told.members) (is_none (substitutes_for own servers told))
    (marked-told from len closed servers config.members parts.0)
    (ap (λ (found : Option (List ServerId)). is_none found) same ∙ parts.1)

-- It can't be refilled

lost-already : (servers : ServerList) (member : Member) → (member.lost || not (has_crashed servers member.id)) ≡ true →
    lost_if_crashed servers member ≡ member
lost-already servers member marked = by member.lost refl (has_crashed servers member.id) marked
  where
    by : (lost : Bool) → member.lost ≡ lost → (crashed : Bool) → (member.lost || not crashed) ≡ true →
        cond crashed (record member { lost = true }) member ≡ member
    by lost is false well = refl
    by true is true well = ap (λ (b : Bool). record member { lost = b }) (sym is)
    by false is true well = absurd (false≢true (ap (λ (b : Bool). b || false) (sym is) ∙ well))

marked-same : (servers : ServerList) (members : List Member) → are_marked servers members ≡ true →
    map (lost_if_crashed servers) members ≡ members
marked-same servers [] marked = refl
marked-same servers (member ∷ members) marked =
    let parts = and_parts (member.lost || not (has_crashed servers member.id)) (are_marked servers members) marked in
    ap (λ (m : Member). m ∷ map (lost_if_crashed servers) members) (lost-already servers member parts.0)
    ∙ ap (λ (ms : List Member). member ∷ ms) (marked-same servers members parts.1)

same-config : (servers : ServerList) (config : Config) → are_marked servers config.members ≡ true → with_lost servers config ≡ config
same-config servers config marked =
    ap (λ (ms : List Member). record config { members = ms }) (marked-same servers config.members marked)

abbrev is-memory : Fault → Bool
is-memory OutOfMemory = true
is-memory _ = false

not-memory : NoBackups ≡ OutOfMemory → ⊥
not-memory e = false≢true (ap is-memory e)

module _ (own : ServerId) (servers : ServerList) (config : Config) where
  refill-marked : are_marked servers config.members ≡ true →
      refill own servers config ≡ refills_with config (substitutes_for own servers config)
  refill-marked marked =
      ap (λ (c : Config). refills_with c (substitutes_for own servers c)) (same-config servers config marked)

  none-found : (found : Option (List ServerId)) (new : Config) (fault : Fault) → refills_with config found ≡ (new, Err fault) →
      is_none found ≡ true
  none-found None new fault e = refl
  none-found (Some ids) new fault e =
      absurd (false≢true (sym (ap (λ (r : Config × Result (List ServerId) Fault). is_ok r.1) e)))

  -- it was tried, and there was nobody
  pub helpless-from : (tried new : Config) (fault : Fault) (same : Type 0) → fault ≡ NoBackups → tried ≡ config →
      are_marked servers config.members ≡ true → ((fault ≡ OutOfMemory) × same) ⊎ (refill own servers tried ≡ (new, Err fault)) →
      is_helpless own servers config ≡ true
  helpless-from tried new fault same nobody is marked (inl memory) = absurd (not-memory (sym nobody ∙ memory.0))
  helpless-from tried new fault same nobody is marked (inr e) =
      and_from (are_marked servers config.members) (is_none (substitutes_for own servers config)) marked
      (none-found (substitutes_for own servers config) new fault
      (sym (refill-marked marked) ∙ ap (refill own servers) (sym is) ∙ e))

  refused : (found : Option (List ServerId)) → is_none found ≡ true → refills_with config found ≡ (config, Err NoBackups)
  refused None none = refl
  refused (Some ids) none = absurd (false≢true none)

  refill-helpless : is_helpless own servers config ≡ true → refill own servers config ≡ (config, Err NoBackups)
  refill-helpless helpless =
      let parts = and_parts (are_marked servers config.members) (is_none (substitutes_for own servers config)) helpless in
      refill-marked parts.0 ∙ refused (substitutes_for own servers config) parts.1

-- the loss of its members changes nothing, where it is shut
pub loses-helpless : (servers : ServerList) (seg : ℕ) (log : Log) → (log.segments seg).shut ≡ true →
    is_helpless log.own servers (log.segments seg).config ≡ true → loses servers seg log ≡ (log, Err NoBackups)
loses-helpless servers seg log shut helpless =
    let segment : Segment = log.segments seg in
    ap (λ (b : Bool). cond b (refills seg log (refill log.own servers segment.config))
    (opens_change seg log (lose log.own servers segment.config))) shut
    ∙ ap (refills seg log) (refill-helpless log.own servers segment.config helpless)
    ∙ ap (λ (l : Log).
    let none : Result (List ServerId) Fault = Err NoBackups in
    (l, none)) (config-same seg log)

-- Lists, what is gone over, and what holds of an answer

pub on-both : {T E P Q R : Type 0} (r : Result T E) → (P → Q → R) → OnOk r P → OnOk r Q → OnOk r R
on-both (Ok x) so p q = so p q
on-both (Err e) so p q = tt

-- lists of one version with the same rows are one
pub same-list : (a b : ServerList) → a.version ≡ b.version → a.rows ≡ b.rows → a ≡ b
same-list a b versions rows =
    ap (λ (n : ℕ). record a { version = n }) versions ∙ ap (λ (rs : List (ServerId × Bool)). record b { rows = rs }) rows

-- what isn't gone over after more is gone over wasn't
pub was-asleep : (was is : Bool) → (was ≡ true → is ≡ true) → is ≡ false → was ≡ false
was-asleep true is more asleep = sym (more refl) ∙ asleep
was-asleep false is more asleep = refl
