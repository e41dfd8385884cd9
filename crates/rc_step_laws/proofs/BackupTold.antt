-- What holds of a host's replicas holds of them when more was sent, also what the host itself has told of one.
use Rattle.std.proofs.Common.{◌≡◌, ◌⊎◌, ℕ, ◌<◌, ◌≤◌, Bool, true, false, List, [], ◌∷◌, ◌++◌, length, refl, inl, inr, arith}
use Rattle.rc_model.specs.Model.{ServerId, Entry, Message, Place, Stored, between, Replica, Held, Log, In}
use Rattle.rc_model.proofs.Members.{In-append}
use Rattle.rc_step_laws.specs.All.{HasTold, HasToldClosed, IsMember, IsCopy, GoodReplica, GoodHeld}
use Rattle.rc_step_laws.proofs.Copies.{More, made-more, placed-more, opened_at-more}

-- no Place is new
abbrev pub NoNewPlaces : List Message → List Message → Type 0
NoNewPlaces sent sent_now = (m x : ServerId) (s e : ℕ) (digest : List ℕ) (entries : List Entry) (closed : Bool) →
    In (between m x (Place s e digest entries closed)) sent_now → In (between m x (Place s e digest entries closed)) sent

-- what is newly told to m by this host, of this segment under this epoch, is no more than this
abbrev pub NewlyToldUpTo : List Message → List Message → ServerId → ℕ → ℕ → ℕ → ℕ → Bool → Type 0
NewlyToldUpTo sent sent_now m index s e len closed = (x : ServerId) (told_len : ℕ) (mark : Bool) → x.index ≡ index →
    In (between x m (Stored s e told_len mark)) sent_now →
    In (between x m (Stored s e told_len mark)) sent ⊎ ((told_len ≤ len) × (mark ≡ true → closed ≡ true))

pub replica-told : {sent sent_now : List Message} {m : ServerId} {log : Log} {index generation generation_now s : ℕ}
    {replica : Replica} → More sent sent_now → NoNewPlaces sent sent_now → generation ≤ generation_now →
    NewlyToldUpTo sent sent_now m index s replica.epoch (length replica.entries) replica.closed →
    GoodReplica sent m log index generation s replica → GoodReplica sent_now m log index generation_now s replica
replica-told {sent} {sent_now} {m} {log} {index} {generation} {s} {replica} more back up newly good = record {
  begins = good.begins;
  copy = record {
    opened = c.opened;
    made = λ o below. ((c.made o below).0, (c.made o below).1, made-more more (c.made o below).2);
    within = c.within;
    whole = c.whole;
    placed = placed-more more up c.placed;
    opened_at = λ open_so. opened_at-more more up (c.opened_at open_so);
    digest_is = c.digest_is;
    above = λ x o on p told. above x o (member x p) on told (newly x told.len told.closed on told.told);
    closed_too = λ x on p told. closed_too x (member x p) on told (newly x told.len true on told.told);
  };
}
  where
    c : IsCopy sent m log index generation s replica.epoch replica.closed (length replica.entries) replica.digest
    c = good.copy

    member : (x : ServerId) → IsMember sent_now m s replica.epoch x → IsMember sent m s replica.epoch x
    member x p = record { digest = p.digest; entries = p.entries; placed = back m x s replica.epoch p.digest p.entries false p.placed }

    above : (x : ServerId) (o : ℕ) → IsMember sent m s replica.epoch x → x.index ≡ index → (told : HasTold sent_now x m s replica.epoch o) →
        In (between x m (Stored s replica.epoch told.len told.closed)) sent ⊎
        ((told.len ≤ length replica.entries) × (told.closed ≡ true → replica.closed ≡ true)) →
        o < length replica.entries
    above x o p on told (inl there) = c.above x o on p (record { len = told.len; closed = told.closed; above = told.above; told = there })
    above x o p on told (inr fresh) =
        let less : o < told.len = told.above in let upto : told.len ≤ length replica.entries = fresh.0 in omega arith

    closed_too : (x : ServerId) → IsMember sent m s replica.epoch x → x.index ≡ index →
        (told : HasToldClosed sent_now x m s replica.epoch) →
        In (between x m (Stored s replica.epoch told.len true)) sent ⊎
        ((told.len ≤ length replica.entries) × (true ≡ true → replica.closed ≡ true)) → replica.closed ≡ true
    closed_too x p on told (inl there) = c.closed_too x on p (record { len = told.len; told = there })
    closed_too x p on told (inr fresh) = fresh.1 refl

-- of a backup's replicas of a master to which the host tells nothing new
abbrev pub NothingNewlyTold : List Message → List Message → ServerId → ℕ → Type 0
NothingNewlyTold sent sent_now m index = (x : ServerId) (s e len : ℕ) (closed : Bool) → x.index ≡ index →
    In (between x m (Stored s e len closed)) sent_now → In (between x m (Stored s e len closed)) sent

pub held-told : {sent sent_now : List Message} {m : ServerId} {log : Log} {index generation generation_now : ℕ}
    {held : Held} → More sent sent_now → NoNewPlaces sent sent_now → generation ≤ generation_now →
    NothingNewlyTold sent sent_now m index → GoodHeld sent m log index generation held → GoodHeld sent_now m log index generation_now held
held-told more back up nothing good = record {
  ascending = good.ascending;
  each = λ s replica at. replica-told more back up
      (λ x len mark on told. inl (nothing x s replica.epoch len mark on told)) (good.each s replica at);
}

-- One message more

-- the parts of equal Stored messages
pub record SameStored (x y m n : ServerId) (s t e f len other : ℕ) (closed mark : Bool) : Type 0 where
  pub from : x ≡ y
  pub to : m ≡ n
  pub seg : s ≡ t
  pub epoch : e ≡ f
  pub length_is : len ≡ other
  pub closed_is : closed ≡ mark

pub same-stored : {x y m n : ServerId} {s t e f len other : ℕ} {closed mark : Bool} →
    between x m (Stored s e len closed) ≡ between y n (Stored t f other mark) →
    SameStored x y m n s t e f len other closed mark
same-stored {x} {y} {m} {n} {s} {t} {e} {f} {len} {other} {closed} {mark} same = search arith

-- the message that was added, or one that was there
pub one-more : (message : Message) (sent : List Message) (last : Message) → In message (sent ++ last ∷ []) →
    In message sent ⊎ (message ≡ last)
one-more message sent last at = by (In-append message sent (last ∷ []) at)
  where
    by : In message sent ⊎ In message (last ∷ []) → In message sent ⊎ (message ≡ last)
    by (inl there) = inl there
    by (inr (inl same)) = inr same
    by (inr (inr never)) = absurd never
