-- What a backup answers to a Fetch is its master's log, cut to the part; and it stays so.
use Rattle.std.proofs.Common.{◌≡◌, ◌⊎◌, ℕ, zero, suc, ◌≤◌, List, [], ◌∷◌, ◌++◌, length, filter, take, nat_le, Option}
use Rattle.std.proofs.Common.{Some, None, refl, sym, ap, ◌∙◌, subst, inl, inr, arith}
use Rattle.std.proofs.lemmas.Bool.{leb-true}
use Rattle.rc_model.specs.Model.{ServerId, Addr, Server, Outside, Entry, Part, Message, Body, between, Replica, Backup}
use Rattle.rc_model.specs.Model.{replica_of, keeps, stores, fences, is_in_part}
use Rattle.rc_model.specs.Model.{data_of, answers_fetch, backup_takes, Master, In}
use Rattle.rc_types.specs.declared.ids.Addr.TheVariants.{Coordinator as AtCoordinator}
use Rattle.rc_types.specs.declared.messages.Body.TheVariants as body
use Rattle.rc_step_laws.specs.All.{Begins, log_in, GoodHeld, GoodReplica, LogLater}
use Rattle.rc_step_laws.proofs.Lists.{begins-length}
use Rattle.rc_step_laws.proofs.Copies.{More, grows-log}
use Rattle.rc_owner_laws.specs.Data.{IsCut, data_between, data_fine}
use Rattle.rc_model.proofs.Tests.{either}

-- Beginnings

take-append : {X : Type 0} (n : ℕ) (xs ys : List X) → n ≤ length xs → take n (xs ++ ys) ≡ take n xs
take-append zero xs ys less = refl
take-append (suc n) [] ys less = absurd (omega arith)
take-append (suc n) (x ∷ xs) ys less = ap (λ l. x ∷ l) (take-append n xs ys (omega arith))

take-begins : {X : Type 0} {n : ℕ} (xs : List X) {ys : List X} → Begins xs ys → n ≤ length xs → take n ys ≡ take n xs
take-begins {n} xs p less = ap (take n) (sym p.1) ∙ take-append n xs p.0 less

-- A cut stays one

cut-later : {sent sent_now : List Message} {masters masters_now : ServerId → Master} → More sent sent_now →
    ((m : ServerId) → LogLater sent_now m (masters m).log (masters_now m).log) →
    {y x : ServerId} {attempt seg term : ℕ} {entries : List Entry} →
    IsCut sent masters y x attempt seg term entries → IsCut sent_now masters_now y x attempt seg term entries
cut-later {masters} {masters_now} more later {y} {x} {attempt} {seg} p = record {
  master = p.master;
  len = p.len;
  part = p.part;
  asked = more (between x y (body.Fetch attempt p.master seg p.len p.part)) p.asked;
  term_is = p.term_is;
  within = (let a = p.within in let b = begins-length (log_in (masters p.master).log seg)
      (log_in (masters_now p.master).log seg) begins in omega arith);
  entries_are = p.entries_are ∙ ap (filter (is_in_part p.part))
      (sym (take-begins (log_in (masters p.master).log seg) begins
      p.within));
}
  where
    begins : Begins (log_in (masters p.master).log seg) (log_in (masters_now p.master).log seg)
    begins = grows-log (later p.master) seg

between-later : (sent : List Message) {sent_now : List Message} (masters masters_now : ServerId → Master) → More sent sent_now →
    ((m : ServerId) → LogLater sent_now m (masters m).log (masters_now m).log) →
    (from to : Addr) (attempt seg term : ℕ) (entries : List Entry) →
    data_between sent masters from to attempt seg term entries → data_between sent_now masters_now from to attempt seg term entries
between-later sent masters masters_now more later (Server y) (Server x) attempt seg term entries p =
    cut-later more later p
between-later sent masters masters_now more later (Server y) AtCoordinator attempt seg term entries p = absurd p
between-later sent masters masters_now more later (Server y) Outside attempt seg term entries p = absurd p
between-later sent masters masters_now more later AtCoordinator to attempt seg term entries p = absurd p
between-later sent masters masters_now more later Outside to attempt seg term entries p = absurd p

pub data-later : (sent : List Message) {sent_now : List Message} (masters masters_now : ServerId → Master) → More sent sent_now →
    ((m : ServerId) → LogLater sent_now m (masters m).log (masters_now m).log) → (from to : Addr) (says : Body) →
    data_fine sent masters from to says → data_fine sent_now masters_now from to says
data-later sent masters masters_now more later from to (body.Data attempt seg term entries) p =
    between-later sent masters masters_now more later from to attempt seg term entries p
data-later sent masters masters_now more later from to _ p = tt

-- Messages that are no Data

abbrev pub IsNoData : Body → Type 0
IsNoData (body.Data attempt seg term entries) = ⊥
IsNoData _ = Unit {0}

pub no-data-fine : (sent : List Message) (masters : ServerId → Master) (from to : Addr) (says : Body) → IsNoData says →
    data_fine sent masters from to says
no-data-fine sent masters from to (body.Data attempt seg term entries) is = absurd is
no-data-fine sent masters from to _ is = tt

-- A backup

module _ (sent : List Message) (masters : ServerId → Master) (index generation : ℕ) (backup : Backup)
    (held : (m : ServerId) → GoodHeld sent m (masters m).log index generation (backup.held m)) where
  abbrev AllFine : List Message → Type 0
  AllFine messages = (message : Message) → In message messages → data_fine sent masters message.from message.to message.body

  one : {only : Message} → data_fine sent masters only.from only.to only.body → AllFine (only ∷ [])
  one fine message (inl same) = subst (λ (it : Message). data_fine sent masters it.from it.to it.body) (sym same) fine
  one fine message (inr never) = absurd never

  none : AllFine []
  none message at = absurd at

  keeps-fine : (m : ServerId) (seg : ℕ) (found : Option Replica) → AllFine (keeps backup m seg found).1
  keeps-fine m seg None = none
  keeps-fine m seg (Some replica) = one tt

  stores-fine : (m : ServerId) (seg : ℕ) (says : Body) → AllFine (stores backup m seg says).1
  stores-fine m seg says = search (arith, none, keeps-fine)

  -- the answer to a Fetch
  module _ (asker m : ServerId) (attempt seg len : ℕ) (part : Part)
      (asked : In (between asker backup.own (body.Fetch attempt m seg len part)) sent) where
    answer-fine : (bodies : List Body) →
        ((says : Body) → In says bodies → data_fine sent masters (Server backup.own) (Server asker) says) →
        AllFine (answers_fetch backup asker m bodies)
    answer-fine [] fine = none
    answer-fine (says ∷ bodies) fine = either AllFine (backup.held m).fenced (between backup.own asker says ∷ []) []
        (λ _. one (fine says (inl refl))) (λ _. none)

    data-cut : (found : Option Replica) → replica_of seg (backup.held m).replicas ≡ found → (says : Body) →
        In says (data_of attempt seg len part found) → data_fine sent masters (Server backup.own) (Server asker) says
    data-cut None e says at = absurd at
    data-cut (Some replica) e says at =
        either (λ bodies. In says bodies → data_fine sent masters (Server backup.own) (Server asker) says)
        (nat_le len (length replica.entries))
        (body.Data attempt seg part.term (filter (is_in_part part) (take len replica.entries)) ∷ []) []
        (λ long now. by (leb-true len (length replica.entries) long) now) (λ _ never. absurd never) at
      where
        good : GoodReplica sent m (masters m).log index generation seg replica
        good = (held m).each seg replica e

        cut : len ≤ length replica.entries → IsCut sent masters backup.own asker attempt seg part.term
            (filter (is_in_part part) (take len replica.entries))
        cut long = search (arith, begins-length, good, take-begins)

        by : len ≤ length replica.entries →
            (says ≡ body.Data attempt seg part.term (filter (is_in_part part) (take len replica.entries))) ⊎ ⊥ →
            data_fine sent masters (Server backup.own) (Server asker) says
        by long (inl same) = subst (data_fine sent masters (Server backup.own) (Server asker)) (sym same) (cut long)
        by long (inr never) = absurd never

    pub fetched-fine : AllFine (answers_fetch backup asker m (data_of attempt seg len part (replica_of seg (backup.held m).replicas)))
    fetched-fine = answer-fine (data_of attempt seg len part (replica_of seg (backup.held m).replicas))
        (data-cut (replica_of seg (backup.held m).replicas) refl)

  fences-fine : {attempt : ℕ} (m : ServerId) → AllFine (fences backup attempt m).1
  fences-fine m = one tt

  pub backup-fine : (from : Addr) (says : Body) → In (record { from = from; to = Server backup.own; body = says })
      sent → AllFine (backup_takes backup from says).1
  backup-fine (Server m) (body.Place seg epoch digest entries closed) at = stores-fine m seg (body.Place seg epoch digest entries closed)
  backup-fine (Server m) (body.Append seg offset entries) at = stores-fine m seg (body.Append seg offset entries)
  backup-fine (Server m) (body.Close seg len) at = stores-fine m seg (body.Close seg len)
  backup-fine (Server asker) (body.Fetch attempt m seg len part) at = fetched-fine asker m attempt seg len part at
  backup-fine from (body.Gather attempt m) at = fences-fine m
  backup-fine _ _ at = none
