-- A head is opened.
use Rattle.std.proofs.Common.{◌≡◌, ◌⊎◌, ℕ, ◌+◌, ◌<◌, ◌≤◌, Bool, true, false, List, [], ◌∷◌, ◌++◌, length, map, refl}
use Rattle.std.proofs.Common.{sym, ap, ◌∙◌, subst, inl, inr, arith}
use Rattle.rc_model.specs.Model.{ServerId, Entry, Opening, Writing, Message, Place, between, new_member, Segment, no_segment, new_segment}
use Rattle.rc_model.specs.Model.{Log, opens_head, to_ids, ids_of, places_head, In}
use Rattle.rc_model.proofs.Members.{In-right, In-map, map-In}
use Rattle.rc_step_laws.specs.All.{log_in, IsMember, OnDifferentHosts, IsDead, IsDigest, LogLater, OwnFine, MasterSays}
use Rattle.rc_step_laws.proofs.Lists.{begins-refl}
use Rattle.rc_step_laws.proofs.LogViews.{dead-grown, member-more, told-more, told_closed-more, committed-more}
use Rattle.rc_step_laws.proofs.LogMoves.{GoodLog, GoodSegment, LogMoved, IsFresh, more-left, new_places, moved-log}
use Rattle.rc_step_laws.proofs.Segments.{SegmentLater, log-later, later-refl, counted-still, within-still}
use Rattle.rc_step_laws.proofs.Views.{place-to_ids}
use Rattle.rc_model.proofs.Tables.{put-same, put_each}
use Rattle.rc_model.proofs.Tests.{true_false}
use Rattle.rc_model.proofs.Sending.{each-to_ids}

not_writing : {P : Type 0} → Opening ≡ Writing → P
not_writing e = cc

ids-new : (ids : List ServerId) → ids_of (map new_member ids) ≡ ids
ids-new [] = refl
ids-new (id ∷ ids) = ap (λ others. id ∷ others) (ids-new ids)

-- the digest of the new head
pub record NewDigest (sent : List Message) (m : ServerId) (log : Log) (digest : List ℕ) : Type 0 where
  pub own : In (log.head + 1) digest
  pub upto : (t : ℕ) → In t digest → (0 < t) × (t ≤ log.head + 1)
  pub lacks : (t : ℕ) → 0 < t → t < log.head + 1 → In t digest ⊎ IsDead sent m log t

abbrev placed_on : ServerId → Log → List ℕ → List ServerId → List Message
placed_on m log digest ids = to_ids m ids (Place (log.head + 1) 0 digest [] false)

-- what the new head's members are sent
placed_head : {m : ServerId} (log : Log) (digest : List ℕ) (ids : List ServerId) → log.own ≡ m →
    placed_on m log digest ids ≡ places_head (opens_head log digest ids)
placed_head log digest ids own = search (arith, put-same, ids-new)

opened-moved : {sent : List Message} {m : ServerId} {log : Log} {digest : List ℕ} (ids : List ServerId) →
    GoodLog sent m log → OwnFine sent m log
    → ((s : ℕ) → 0 < s → s < log.head → (log.segments s).shut ≡ true) → OnDifferentHosts ids → NewDigest sent m log digest
    → LogMoved sent m log (opens_head log digest ids) (placed_on m log digest ids)
opened-moved {sent} {m} {log} {digest} ids good fine all_shut apart fits = moved-log good fine (record {
  later = later;
  says = says;
  own = good.own;
  none_below = put_each (λ n segment. n ≡ 0 → segment ≡ no_segment 0) log.segments h seg (λ e. absurd (omega arith))
      (λ n e. ap log.segments e ∙ good.none_below) 0 refl;
  none_above = λ n over. put_each (λ k segment. h < k → segment ≡ no_segment k) log.segments h seg
      (λ above. absurd (omega arith)) (λ k above. good.none_above k (omega arith)) n over;
  writing_opened = λ e. not_writing e;
  empty = λ quiet. ap (λ (segment : Segment). map (λ (one : Entry × Bool). one.0) segment.entries) at_new;
  each = put_each (λ n segment. GoodSegment sent_now m Opening h n segment) log.segments h seg new_good old_good;
  news = λ x s e other entries at. inr (fresh x s e (place-to_ids m m ids x s e h 0 other digest entries [] false false at));
  counted = counted-still sent sent_now m log new good later refl;
  digests = λ s over upto. (let is : h ≡ s = omega arith in
      subst (λ n. IsDigest sent_now m new n (new.segments n).digest) is
      (subst (λ (segment : Segment). IsDigest sent_now m new h segment.digest) (sym at_new) (record {
        own = fits.own;
        upto = fits.upto;
        lacks = λ t above less. dead_or t (fits.lacks t above less);
      })));
  durable_within = within-still good later refl;
})
  where
    h : ℕ
    h = log.head + 1

    seg : Segment
    seg = new_segment h digest ids

    new : Log
    new = opens_head log digest ids

    messages : List Message
    messages = placed_on m log digest ids

    sent_now : List Message
    sent_now = sent ++ messages

    at_new : new.segments h ≡ seg
    at_new = put-same log.segments h

    none_there : log.segments h ≡ no_segment h
    none_there = good.none_above h (omega arith)

    later : LogLater sent_now m log new
    later = log-later (omega arith)
        (put_each (λ n segment. SegmentLater sent_now m log.head n (log.segments n) segment) log.segments h seg
        (subst (λ (old : Segment). SegmentLater sent_now m log.head h old seg) (sym none_there) (record {
          grows = begins-refl;
          final = λ below. absurd (omega arith);
          digest = λ upto. absurd (omega arith);
          epoch = λ upto. omega arith;
          shut = λ e. true_false (sym e);
          joined = λ x upto shut same at. absurd (omega arith);
          shuts = λ x upto before shut same at. absurd (omega arith);
        })) (λ n. later-refl))

    says : (message : Message) → In message messages → MasterSays sent sent_now m log new message
    says = each-to_ids (MasterSays sent sent_now m log new) ids (λ x at. record {
      from = refl;
      says = (
        record {
          opened = record { above = omega arith; below = omega arith };
          epoch = omega arith;
          digest_is = sym (ap (λ (segment : Segment). segment.digest) at_new);
          begins = (log_in new h, refl);
          whole = λ e. true_false (sym e);
          member = λ is same open_now. subst (λ (segment : Segment). In x (ids_of segment.config.members)) (sym at_new)
              (subst (λ others. In x others) (sym (ids-new ids)) at);
          told = λ is same shut. true_false (sym shut ∙ ap (λ (segment : Segment). segment.shut) at_new);
        },
        record {
          long = (let nothing : length (log_in log h) ≡ 0 = ap
              (λ (segment : Segment). length (map (λ (one : Entry × Bool). one.0) segment.entries)) none_there in
              omega arith);
          known = λ is upto under. absurd (omega arith);
        },
      );
    })

    old_good : (n : ℕ) → GoodSegment sent_now m Opening h n (log.segments n)
    old_good n = let p = good.each n in record {
      old_shut = λ above less. all_shut n above (omega arith);
      writing_shut = λ e above less. not_writing e;
      shut_below = λ e. (let q = p.shut_below e in (q.0, omega (arith, q.1)));
      shut_committed = p.shut_committed;
      complete = λ x above upto open_now at. member-more (more-left sent messages) (by x upto (below_or n log.head) above open_now at);
      apart = p.apart;
      noted = λ member at o less. told-more (more-left sent messages) (p.noted member at o less);
      noted_closed = λ member at told. told_closed-more (more-left sent messages) (p.noted_closed member at told);
      committed = λ e. committed-more sent sent_now m n (more-left sent messages) (p.committed e);
    }
      where
        below_or : (a b : ℕ) → (a ≤ b) ⊎ (b < a)
        below_or a b = grind arith

        by : (x : ServerId) → n ≤ h → (n ≤ log.head) ⊎ (log.head < n) → 0 < n → (log.segments n).shut ≡ false →
            In x (ids_of (log.segments n).config.members) → IsMember sent m n (log.segments n).config.epoch x
        by x upto (inl under) above open_now at = (good.each n).complete x above under open_now at
        by x upto (inr over) above open_now at =
            absurd (subst (λ (segment : Segment). In x (ids_of segment.config.members)) (good.none_above n over) at)

    new_good : GoodSegment sent_now m Opening h h seg
    new_good = record {
      old_shut = λ above less. absurd (omega arith);
      writing_shut = λ e above less. not_writing e;
      shut_below = λ e. true_false (sym e);
      shut_committed = λ e. true_false (sym e);
      complete = λ x above upto open_now at. record {
        digest = digest;
        entries = [];
        placed = In-right (between m x (Place h 0 digest [] false)) sent messages
            (map-In (λ (id : ServerId). between m id (Place h 0 digest [] false)) x ids (subst (λ others. In x others) (ids-new ids) at));
      };
      apart = λ open_now. subst OnDifferentHosts (sym (ids-new ids)) apart;
      noted = λ member at o less. (let found = In-map new_member member ids at in
          absurd (let e : Rattle.rc_model.specs.Config.told_len member.told ≡ 0 = ap
          (λ (one : Rattle.rc_types.specs.declared.kept.Member.Member). Rattle.rc_model.specs.Config.told_len one.told)
          found.2 in omega arith));
      noted_closed = λ member at told. (let found = In-map new_member member ids at in
          true_false (sym told ∙ ap (λ (one : Rattle.rc_types.specs.declared.kept.Member.Member).
          Rattle.rc_model.specs.Config.told_closed one.told) found.2));
      committed = λ e. inl refl;
    }

    fresh : (x : ServerId) (s e : ℕ) → In x ids × Rattle.rc_step_laws.proofs.Views.SamePlace x x s e false h 0
        false → IsFresh log new x s e
    fresh x s e p = search (arith, new, at_new, ids-new)

    dead_or : (t : ℕ) → In t digest ⊎ IsDead sent m log t → In t digest ⊎ IsDead sent_now m new t
    dead_or t (inl there) = inl there
    dead_or t (inr dead) = inr (dead-grown (record {
      more = more-left sent messages;
      later = later;
      places = new_places sent m log new messages says;
      below = λ s is. (good.each s).shut_below is;
    }) dead)

pub opens-moved : {sent : List Message} {m : ServerId} {log : Log} {digest : List ℕ} (ids : List ServerId) →
    GoodLog sent m log → OwnFine sent m log
    → ((s : ℕ) → 0 < s → s < log.head → (log.segments s).shut ≡ true) → OnDifferentHosts ids → NewDigest sent m log digest
    → LogMoved sent m log (opens_head log digest ids) (places_head (opens_head log digest ids))
opens-moved {sent} {m} {log} {digest} ids good fine all_shut apart fits =
    subst (λ messages. LogMoved sent m log (opens_head log digest ids) messages) (placed_head log digest ids good.own)
    (opened-moved ids good fine all_shut apart fits)
