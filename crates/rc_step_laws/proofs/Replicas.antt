-- What a Place, an Append and a Close make of one replica.
use Rattle.std.proofs.Common.{◌≡◌, ◌⊎◌, ℕ, suc, ◌+◌, ◌-◌, ◌<◌, ◌≤◌, Bool, true, false, List, [], ◌∷◌, ◌++◌, length, drop}
use Rattle.std.proofs.Common.{slice_get, Option, Some, None, refl, sym, ap, ◌∙◌, subst, inl, inr, arith}
use Rattle.std.proofs.lemmas.Bool.{eq-eqb, le-leb}
use Rattle.std.proofs.lemmas.List.{length-append, append-nil}
use Rattle.rc_model.specs.Model.{ServerId, Entry, Message, Place, Append, Stored, between, Replica, grown, Log, Master, In, HasMade}
use Rattle.rc_step_laws.specs.All.{Begins, log_in, Stands, HasTold, HasToldClosed, IsMember, GoodMaster, IsPlace, IsCopy, GoodReplica}
use Rattle.rc_step_laws.specs.All.{OwnFine}
use Rattle.rc_step_laws.proofs.Lists.{get-append, get-drop, get-below, begins-length, get-begins}

-- Lists

-- a list whose elements stand in another one at their places begins it
pub begins-places : (xs ys : List Entry) → ((k : ℕ) (x : Entry) → slice_get xs k ≡ Some x → slice_get ys k ≡ Some x) → Begins xs ys
begins-places [] ys at = (ys, refl)
begins-places (x ∷ xs) [] at = absurd (none_some (at 0 x refl))
  where
    none_some : None ≡ Some x → ⊥
    none_some never = cc
begins-places (x ∷ xs) (y ∷ ys) at =
    let first : Some y ≡ Some x = at 0 x refl in
    let same : y ≡ x = cc in
    let rest : Begins xs ys = begins-places xs ys (λ k z e. at (suc k) z e) in
    (rest.0, ap (λ (h : Entry). h ∷ (xs ++ rest.0)) (sym same) ∙ ap (λ (t : List Entry). y ∷ t) rest.1)

-- a beginning as long as the whole is the whole
pub begins-whole : {xs ys : List Entry} → Begins xs ys → length xs ≡ length ys → xs ≡ ys
begins-whole {xs} {ys} b same = by b.0 b.1
  where
    by : (rest : List Entry) → xs ++ rest ≡ ys → xs ≡ ys
    by [] e = sym (append-nil xs) ∙ e
    by (r ∷ rest) e = search (arith, length-append)

-- of a list that is grown, what was there stays, and what is new stands at its place
pub grown-places : (log entries : List Entry) (offset : ℕ) (more : List Entry) → offset ≤ length entries →
    Begins entries log → Stands more offset log →
    (k : ℕ) (x : Entry) → slice_get (grown entries offset more) k ≡ Some x → slice_get log k ≡ Some x
grown-places log entries offset more no_gap begins stands k x at = search (arith, get-append, get-begins, get-drop)

-- the same for what was sent
pub grown-made : (sent : List Message) (m : ServerId) (s : ℕ) (entries : List Entry) (offset : ℕ) (more : List Entry) →
    offset ≤ length entries → ((k : ℕ) (x : Entry) → slice_get entries k ≡ Some x → HasMade sent m s k x) →
    ((j : ℕ) (x : Entry) → slice_get more j ≡ Some x → HasMade sent m s (offset + j) x) →
    (k : ℕ) (x : Entry) → slice_get (grown entries offset more) k ≡ Some x → HasMade sent m s k x
grown-made sent m s entries offset more no_gap old new k x at = by (get-append entries (drop (length entries - offset) more) k at)
  where
    by : (slice_get entries k ≡ Some x) ⊎
        ((j : ℕ) × (k ≡ length entries + j) × (slice_get (drop (length entries - offset) more) j ≡ Some x)) →
        HasMade sent m s k x
    by (inl there) = old k x there
    by (inr (j, e, there)) =
        let place : offset + (length entries - offset + j) ≡ k = omega arith in
        subst (λ n. HasMade sent m s n x) place
        (new (length entries - offset + j) x (sym (get-drop (length entries - offset) more j) ∙ there))

pub grown-longer : (entries : List Entry) (offset : ℕ) (more : List Entry) → length entries ≤ length (grown entries offset more)
grown-longer entries offset more = omega (arith, length-append entries (drop (length entries - offset) more))

-- a Place that was sent holds its entries from the first place on
pub place-made : (sent : List Message) (m x : ServerId) (s e : ℕ) (digest : List ℕ) (entries : List Entry)
    (closed : Bool) → In (between m x (Place s e digest entries closed)) sent →
    (j : ℕ) (entry : Entry) → slice_get entries j ≡ Some entry → HasMade sent m s (0 + j) entry
place-made sent m x s e digest entries closed at j entry there = search (arith, eq-eqb)

-- an Append that was sent holds its entries from its offset on
pub append-made : (sent : List Message) (m x : ServerId) (s offset : ℕ) (entries : List Entry) →
    In (between m x (Append s offset entries)) sent →
    (j : ℕ) (entry : Entry) → slice_get entries j ≡ Some entry → HasMade sent m s (offset + j) entry
append-made sent m x s offset entries at j entry there = search (arith, eq-eqb, le-leb)

-- Changes of a replica

-- a good replica that has risen from the one before
pub record Changed (sent : List Message) (m : ServerId) (log : Log) (index generation s : ℕ) (before : Option Replica)
    (after : Replica) : Type 0 where
  pub good : GoodReplica sent m log index generation s after
  pub epoch : (old : Replica) → before ≡ Some old → old.epoch ≤ after.epoch
  pub longer : (old : Replica) → before ≡ Some old → length old.entries ≤ length after.entries
  pub closed : (old : Replica) → before ≡ Some old → old.closed ≡ true → after.closed ≡ true

pub some-same : {one other : Replica} → Some one ≡ Some other → one ≡ other
some-same e = cc

-- a change of a replica that was there
pub changed-some : {sent : List Message} {m : ServerId} {log : Log} {index generation s : ℕ} {old new : Replica} →
    GoodReplica sent m log index generation s new →
    old.epoch ≤ new.epoch → length old.entries ≤ length new.entries → (old.closed ≡ true → new.closed ≡ true) →
    Changed sent m log index generation s (Some old) new
changed-some {new} good up longer closed = search (arith, some-same)

pub changed-none : {sent : List Message} {m : ServerId} {log : Log} {index generation s : ℕ} {old : Replica} →
    GoodReplica sent m log index generation s old → Changed sent m log index generation s (Some old) old
changed-none good = changed-some good (omega arith) (omega arith) (λ same. same)

-- what a host's running server has told of a segment still stands in its replica
pub record Stood (before : Option Replica) (e len : ℕ) (closed : Bool) : Type 0 where
  pub replica : Replica
  pub is : before ≡ Some replica
  pub epoch : e ≤ replica.epoch
  pub enough : len ≤ length replica.entries
  pub closed_too : closed ≡ true → replica.closed ≡ true

abbrev pub AllStood : List Message → ServerId → ServerId → ℕ → Option Replica → Type 0
AllStood sent z m s before = (e len : ℕ) (closed : Bool) → In (between z m (Stored s e len closed)) sent → Stood before e len closed

-- Places

-- of a copy under the epoch of a Place: what must be above all that a member of the host has told
pub record AboveTold (sent : List Message) (m : ServerId) (index s e : ℕ) (closed : Bool) (len : ℕ) : Type 0 where
  pub above : (x : ServerId) (o : ℕ) → x.index ≡ index → IsMember sent m s e x → HasTold sent x m s e o → o < len
  pub closed_too : (x : ServerId) → x.index ≡ index → IsMember sent m s e x → HasToldClosed sent x m s e → closed ≡ true

-- a whole closed copy is
pub above-whole : {sent : List Message} {m : ServerId} {log : Log} {index s e len : ℕ} → OwnFine sent m log →
    len ≡ length (log_in log s) → AboveTold sent m index s e true len
above-whole {log} {s} {e} {len} fine whole = search arith

-- under a proper Place to the running server: only it can have told, and what it told stands
pub above-proper : (sent : List Message) (m : ServerId) (master : Master) (z : ServerId) (s e : ℕ) (digest : List ℕ)
    (entries : List Entry) (before : Option Replica) (len : ℕ) (closed : Bool) →
    GoodMaster sent m master → In (between m z (Place s e digest entries false)) sent → AllStood sent z m s before →
    ((old : Replica) → before ≡ Some old → length old.entries ≤ len) →
    ((old : Replica) → before ≡ Some old → old.closed ≡ true → closed ≡ true) →
    AboveTold sent m z.index s e closed len
above-proper sent m master z s e digest entries before len closed good at stood longer kept = record {
  above = λ x o on member told. above x o told (same x on member);
  closed_too = λ x on member told. closed_too x told (same x on member);
}
  where
    same : (x : ServerId) → x.index ≡ z.index → IsMember sent m s e x → x ≡ z
    same x on member = good.one_a_host s e x z member (record { digest = digest; entries = entries; placed = at }) on

    above : (x : ServerId) (o : ℕ) → HasTold sent x m s e o → x ≡ z → o < len
    above x o told is = search arith

    closed_too : (x : ServerId) → HasToldClosed sent x m s e → x ≡ z → closed ≡ true
    closed_too x told is = search arith

-- the copy that a Place leaves, of these entries
pub placed-copy : (sent : List Message) (m : ServerId) (master : Master) (z : ServerId) (s e : ℕ) (digest : List ℕ)
    (entries : List Entry) (closed : Bool) (mark : Bool) (all : List Entry) (digest_now : List ℕ) →
    In (between m z (Place s e digest entries closed)) sent → IsPlace sent m master.log z s e digest entries closed →
    Begins all (log_in master.log s) → ((k : ℕ) (x : Entry) → slice_get all k ≡ Some x → HasMade sent m s k x) →
    (mark ≡ true → (s < master.log.head) × (length all ≡ length (log_in master.log s))) →
    (mark ≡ false → (closed ≡ false) × (length entries ≤ length all)) → digest_now ≡ (master.log.segments s).digest →
    AboveTold sent m z.index s e mark (length all) → IsCopy sent m master.log z.index z.generation s e mark (length all) digest_now
placed-copy sent m master z s e digest entries closed mark all digest_now at place begins made whole unclosed same told = record {
  opened = place.opened;
  made = λ o below. (
      let found : (x : Entry) × (slice_get all o ≡ Some x) = get-below all o below in
      (found.0, get-begins all begins o found.1, made o found.0 found.1));
  within = begins-length all (log_in master.log s) begins;
  whole = whole;
  placed = record { to = z; digest = digest; entries = entries; closed = closed; placed = at; host = refl; since = omega arith };
  opened_at = λ open_so. record {
    to = z;
    digest = digest;
    entries = entries;
    placed = subst (λ b. In (between m z (Place s e digest entries b)) sent) (unclosed open_so).0 at;
    host = refl;
    since = omega arith;
    enough = (unclosed open_so).1;
  };
  digest_is = same;
  above = told.above;
  closed_too = told.closed_too;
}
