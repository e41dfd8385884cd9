-- What is sent by others changes nothing of a master's facts.
use Rattle.std.proofs.Common.{◌⊎◌, ℕ, Bool, false, List, inl, inr}
use Rattle.rc_model.specs.Model.{ServerId, Entry, Message, Place, Stored, between, Log, Master, In}
use Rattle.rc_step_laws.specs.All.{IsMember, GoodMaster, IsTold, OwnFine}
use Rattle.rc_step_laws.proofs.Copies.{More, told-more, told_closed-more, member-more}
use Rattle.rc_step_laws.proofs.LogViews.{Grown, committed-more, log_later-refl, safe-grown, digest-grown, place-grown, told-grown}

-- no Place of this master is new
abbrev pub NoNewPlaceOf : List Message → List Message → ServerId → Type 0
NoNewPlaceOf sent sent_now m = (x : ServerId) (s e : ℕ) (digest : List ℕ) (entries : List Entry) (closed : Bool) →
    In (between m x (Place s e digest entries closed)) sent_now → In (between m x (Place s e digest entries closed)) sent

-- what is newly told to a master fits its log
abbrev pub NewlyToldFits : List Message → List Message → ServerId → Log → Type 0
NewlyToldFits sent sent_now m log = (x : ServerId) (s e len : ℕ) (closed : Bool) → In (between x m (Stored s e len closed)) sent_now →
    In (between x m (Stored s e len closed)) sent ⊎ IsTold sent_now m log x s e len closed

pub unmoved-grown : {sent sent_now : List Message} {m : ServerId} {master : Master} → GoodMaster sent m master →
    More sent sent_now → NoNewPlaceOf sent sent_now m → Grown sent sent_now m master.log master.log
unmoved-grown good more back = record {
  more = more;
  later = log_later-refl;
  places = λ x s e digest entries closed at. inl (back x s e digest entries closed at);
  below = good.shut_below;
}

pub unmoved-good : {sent sent_now : List Message} {m : ServerId} {master : Master} → GoodMaster sent m master →
    More sent sent_now → NoNewPlaceOf sent sent_now m → GoodMaster sent_now m master
unmoved-good {sent} {sent_now} {m} good more back = record {
  own = good.own;
  none_below = good.none_below;
  none_above = good.none_above;
  old_shut = good.old_shut;
  writing_opened = good.writing_opened;
  writing_shut = good.writing_shut;
  empty = good.empty;
  shut_below = good.shut_below;
  shut_committed = good.shut_committed;
  complete = λ s x opened open_so at. member-more more (good.complete s x opened open_so at);
  apart = good.apart;
  one_a_host = λ s e x y p q on. good.one_a_host s e x y (member x s e p) (member y s e q) on;
  noted = λ s one at o below. told-more more (good.noted s one at o below);
  noted_closed = λ s one at shut_so. told_closed-more more (good.noted_closed s one at shut_so);
  committed = λ s is. committed-more sent sent_now m s more (good.committed s is);
  counted = λ k place below at. safe-grown (unmoved-grown good more back) (good.counted k place below at);
  digests = λ s opened. digest-grown (unmoved-grown good more back) (good.digests s opened);
  known = good.known;
  durable_within = good.durable_within;
}
  where
    member : (x : ServerId) (s e : ℕ) → IsMember sent_now m s e x → IsMember sent m s e x
    member x s e p = record { digest = p.digest; entries = p.entries; placed = back x s e p.digest p.entries false p.placed }

pub unmoved-own : {sent sent_now : List Message} {m : ServerId} {master : Master} → GoodMaster sent m master →
    OwnFine sent m master.log → More sent sent_now → NoNewPlaceOf sent sent_now m →
    NewlyToldFits sent sent_now m master.log → OwnFine sent_now m master.log
unmoved-own {sent} {sent_now} {m} {master} good fine more back fits = record {
  places = λ x s e digest entries closed at. place-grown (unmoved-grown good more back)
      (fine.places x s e digest entries closed (back x s e digest entries closed at));
  told = λ x s e len closed at. told x s e len closed (fits x s e len closed at);
}
  where
    told : (x : ServerId) (s e len : ℕ) (closed : Bool) → In (between x m (Stored s e len closed)) sent ⊎
        IsTold sent_now m master.log x s e len closed → IsTold sent_now m master.log x s e len closed
    told x s e len closed (inl there) = told-grown (unmoved-grown good more back) (fine.told x s e len closed there)
    told x s e len closed (inr is) = is
