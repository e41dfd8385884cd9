-- What a turn adds to what was done.
use Rattle.std.proofs.Common.{◌≡◌, ℕ, zero, suc, ◌+◌, ◌<◌, ◌≤◌, nat_lt, nat_eq, Bool, true, false, cond, ◌&&◌, ◌||◌, not}
use Rattle.std.proofs.Common.{List, [], ◌∷◌, ◌++◌, take, length, Option, Some, None, slice_get, slice_index_or}
use Rattle.std.proofs.Common.{refl, sym, ap, ◌∙◌, subst, append_assoc, arith}
use Rattle.std.specs.Prelude.{Result, Ok, Err, OnOk, OnErr}
use Rattle.std.specs.Option.{IfSome, IfNone}
use Rattle.std.proofs.lemmas.Bool.{and_parts, eq-eqb}
use Rattle.std.proofs.lemmas.List.{append-nil}
use Rattle.std.proofs.lemmas.List.Folds.{list_any-append}
use Rattle.rc_model.specs.Model.{Setup, Event, Message, same_node, node_of}
use Rattle.rc_types.specs.declared.events.Event.TheVariants as event
use Rattle.rc_history.specs.Nodes.{Node}
use Rattle.rc_history.specs.Events.{StartsWith}
use Rattle.rc_history.proofs.Lists.{starts-same, starts-through}
use Rattle.rc_history.proofs.Longer.{longer-sent}
use Rattle.rc_types.specs.declared.ids.NodeName.{NodeName}
use Rattle.rc_types.specs.Names.{number_of}
use Rattle.rc_wire.specs.Numbers.{least_to}
use Rattle.rc_wire.specs.declared.work.Work.{Work}
use Rattle.rc_wire.specs.declared.work.Work.TheVariants as work
use Rattle.rc_wire.specs.SeatView.{SeatData, Offered, offered_events, world_at, node_at}
use Rattle.rc_wire.specs.SeatCalls.{Later, Finds, Commits}
use Rattle.rc_wire.specs.Works.{event_for, work_in, Prepares, is_delivery_of, was_delivered}
use Rattle.rc_wire.specs.declared.steps.Step.{Step}
use Rattle.rc_wire.specs.declared.steps.Step.TheVariants.{Do, Settle}
use Rattle.rc_wire.specs.Runs.{own_work, listed, works_for, is_fetched, none_fetched, works_in, is_new, all_new}
use Rattle.rc_wire.specs.Runs.{Does, DeliveredBelow, Runs, Grows, Progress, Takes}
use Rattle.rc_wire.proofs.Found.{none-found, none-before, within-found}

-- What holds of an answer

pub on-ok : {A E : Type 0} {P Q : Type 0} (r : Result A E) → (P → Q) → OnOk r P → OnOk r Q
on-ok (Ok x) f h = f h
on-ok (Err e) f h = tt

pub err-always : {A E : Type 0} {P : Type 0} (r : Result A E) → P → OnErr r P
err-always (Ok x) h = tt
err-always (Err e) h = h

pub if-some : {A : Type 0} (P : A → Type 0) (o : Option A) (x : A) → o ≡ Some x → IfSome o P → P x
if-some P o x is h = subst (λ q. IfSome q P) is h

pub if-none : {A : Type 0} (P : Type 0) (o : Option A) → o ≡ None → IfNone o P → P
if-none P o is h = subst (λ q. IfNone q P) is h

-- Lists

pub get-index : {A : Type 0} (xs : List A) (n : ℕ) (x : A) → n < length xs → x ≡ slice_index_or xs n x → slice_get xs n ≡ Some x
get-index [] n x lt is = absurd (omega (arith, lt))
get-index (y ∷ xs) zero x lt is = ap Some (sym is)
get-index (y ∷ xs) (suc n) x lt is = get-index xs n x (omega (arith, lt)) is

get-front : {A : Type 0} (xs ys : List A) (n : ℕ) (x : A) → n < length xs → slice_get (xs ++ ys) n ≡ Some x → slice_get xs n ≡ Some x
get-front [] ys n x lt found = absurd (omega (arith, lt))
get-front (y ∷ xs) ys zero x lt found = found
get-front (y ∷ xs) ys (suc n) x lt found = get-front xs ys n x (omega (arith, lt)) found

-- what stands at a number below the length of a beginning stands there in the beginning
pub starts-back : {A : Type 0} (longer shorter : List A) (n : ℕ) (x : A) → StartsWith longer shorter → n < length shorter →
    slice_get longer n ≡ Some x → slice_get shorter n ≡ Some x
starts-back longer shorter n x starts lt found =
    get-front shorter starts.rest n x lt (ap (λ l. slice_get l n) (sym starts.same) ∙ found)

append-longer : {A : Type 0} (xs ys : List A) → length xs ≤ length (xs ++ ys)
append-longer [] ys = omega arith
append-longer (x ∷ xs) ys = omega (arith, append-longer xs ys)

starts-longer : {A : Type 0} (longer shorter : List A) → StartsWith longer shorter → length shorter ≤ length longer
starts-longer longer shorter starts =
    subst (λ l. length shorter ≤ length l) (sym starts.same) (append-longer shorter starts.rest)

works_for-suc : (name : NodeName) (steps : List Step) (at : ℕ) (step : Step) → slice_get steps at ≡ Some step →
    works_for name (take (suc at) steps) ≡ works_for name (take at steps) ++ listed (own_work name step)
works_for-suc name [] at step found = cc
works_for-suc name (s ∷ steps) zero step found =
    let same : s ≡ step = cc in append-nil (listed (own_work name s)) ∙ ap (λ (x : Step). listed (own_work name x)) same
works_for-suc name (s ∷ steps) (suc at) step found =
    ap (λ l. listed (own_work name s) ++ l) (works_for-suc name steps at step found)
    ∙ sym (append_assoc (listed (own_work name s)) (works_for name (take at steps)) (listed (own_work name step)))

works_for-push : (name : NodeName) (steps : List Step) (at : ℕ) (step : Step) → slice_get steps at ≡ Some step →
    works_for name (take (at + 1) steps) ≡ works_for name (take at steps) ++ listed (own_work name step)
works_for-push name steps at step found =
    let one : at + 1 ≡ suc at = omega arith in
    ap (λ n. works_for name (take n steps)) one ∙ works_for-suc name steps at step found

works_in-push : (events : List Event) (event : Event) → works_in (events ++ event ∷ []) ≡ works_in events ++ listed (work_in event)
works_in-push [] event = append-nil (listed (work_in event))
works_in-push (first ∷ events) event = ap (λ l. listed (work_in first) ++ l) (works_in-push events event)
    ∙ sym (append_assoc (listed (work_in first)) (works_in events) (listed (work_in event)))

and-assoc : (a b c : Bool) → ((a && b) && c) ≡ (a && (b && c))
and-assoc true b c = refl
and-assoc false b c = refl

and-true : (b : Bool) → (b && true) ≡ b
and-true true = refl
and-true false = refl

all_new-push : (done events : List Event) (event : Event) →
    all_new done (events ++ event ∷ []) ≡ (all_new done events && is_new (done ++ events) event)
all_new-push done [] event = and-true (is_new done event) ∙ ap (λ l. is_new l event) (sym (append-nil done))
all_new-push done (first ∷ events) event =
    ap (λ b. is_new done first && b) (all_new-push (done ++ first ∷ []) events event
    ∙ ap (λ l. all_new (done ++ first ∷ []) events && is_new l event) (append_assoc done (first ∷ []) events))
    ∙ sym (and-assoc (is_new done first) (all_new (done ++ first ∷ []) events) (is_new (done ++ first ∷ events) event))

or-true : (a b : Bool) → a ≡ true → (a || b) ≡ true
or-true a b is = ap (λ x. x || b) is

or-right : (a : Bool) → (a || true) ≡ true
or-right true = refl
or-right false = refl

pub delivered-stays : (longer shorter : List Event) (number : ℕ) → StartsWith longer shorter → was_delivered shorter number ≡ true →
    was_delivered longer number ≡ true
delivered-stays longer shorter number starts is = ap (λ l. was_delivered l number) starts.same
    ∙ (list_any-append (is_delivery_of number) shorter starts.rest
    ∙ or-true (was_delivered shorter number) (was_delivered starts.rest number) is)

delivered-last : (mine : List Event) (number : ℕ) → was_delivered (mine ++ event.Deliver number ∷ []) number ≡ true
delivered-last mine number = list_any-append (is_delivery_of number) mine (event.Deliver number ∷ [])
    ∙ (ap (λ b. was_delivered mine number || (b || false)) (eq-eqb number number refl) ∙ or-right (was_delivered mine number))

-- What grows

pub grows-takes : (setup : Setup) (old : SeatData) (given : Work) (new : SeatData) → Takes setup old given new → Grows old new
grows-takes setup old given new t = record {
  name = t.name;
  seen = t.seen;
  mine = record { rest = t.event ∷ []; same = t.mine };
}

-- a step that was tried has grown it, whether it was taken or not
pub grows-tried : {E : Type 0} (setup : Setup) (old : SeatData) (given : Work) (new : SeatData) (r : Result (Unit {0}) E) →
    OnOk r (Takes setup old given new) → OnErr r (Grows old new) → Grows old new
grows-tried setup old given new (Ok x) takes grows = grows-takes setup old given new takes
grows-tried setup old given new (Err e) takes grows = grows

pub grows-through : (one two three : SeatData) → Grows one two → Grows two three → Grows one three
grows-through one two three a b = record {
  name = b.name ∙ a.name;
  seen = starts-through b.seen a.seen;
  mine = starts-through b.mine a.mine;
}

pub grows-same : (seat : SeatData) → Grows seat seat
grows-same seat = record { name = refl; seen = starts-same; mine = starts-same }

starts-equal : {A : Type 0} (xs ys : List A) → xs ≡ ys → StartsWith xs ys
starts-equal xs ys is = record { rest = []; same = is ∙ sym (append-nil ys) }

-- a run of turns has grown its seat
pub grows-does : (old new : SeatData) (works : List Work) → Does old works new → Grows old new
grows-does old new works d = record {
  name = d.name;
  seen = d.seen;
  mine = record { rest = d.added; same = d.mine };
}

-- What was delivered stays so

own-still : (old new : SeatData) (message : Message) → new.name ≡ old.name →
    same_node (node_of message.to) new.name ≡ true → same_node (node_of message.to) old.name ≡ true
own-still old new message named own = ap (λ (n : NodeName). same_node (node_of message.to) n) (sym named) ∙ own

below-stays : (setup : Setup) (old new : SeatData) (from : ℕ) → from ≤ length (world_at setup old).sent → Grows old new →
    DeliveredBelow setup from old → DeliveredBelow setup from new
below-stays setup old new from within g d number message lt found own =
    let starts = longer-sent setup new.seen old.seen g.seen in
    let before = starts-back (world_at setup new).sent (world_at setup old).sent number message starts (omega (arith, lt, within)) found in
    delivered-stays new.mine old.mine number g.mine (d number message lt before (own-still old new message g.name own))

within-stays : (setup : Setup) (old new : SeatData) (from : ℕ) → from ≤ length (world_at setup old).sent → Grows old new →
    from ≤ length (world_at setup new).sent
within-stays setup old new from within g =
    omega (arith, within, starts-longer (world_at setup new).sent (world_at setup old).sent (longer-sent setup new.seen old.seen g.seen))

-- Turns

-- nothing was committed, but the seat may have seen more
pub progress-looked : (setup : Setup) (start : SeatData) (steps : List Step) (at from : ℕ) (old new : SeatData) →
    Progress setup start steps at from old → Grows old new → new.mine ≡ old.mine → new.pending ≡ None →
    Progress setup start steps at from new
progress-looked setup start steps at from old new p g mine idle = record {
  does = record {
    added = p.does.added;
    name = g.name ∙ p.does.name;
    seen = starts-through g.seen p.does.seen;
    mine = mine ∙ p.does.mine;
    did = p.does.did;
    news = p.does.news;
  };
  within = within-stays setup old new from p.within g;
  delivered = below-stays setup old new from p.within g p.delivered;
  idle = idle;
}

-- an event was committed, which is a work, or a delivery of what was not delivered
does-push : (setup : Setup) (start : SeatData) (works more : List Work) (old : SeatData) (given : Work) (new : SeatData) →
    Does start works old → (t : Takes setup old given new) → listed (work_in t.event) ≡ more → is_new old.mine t.event ≡ true →
    Does start (works ++ more) new
does-push setup start works more old given new d t is fresh = record {
  added = d.added ++ t.event ∷ [];
  name = t.name ∙ d.name;
  seen = starts-through t.seen d.seen;
  mine = t.mine ∙ (ap (λ l. l ++ t.event ∷ []) d.mine ∙ append_assoc start.mine d.added (t.event ∷ []));
  did = works_in-push d.added t.event ∙ (ap (λ l. l ++ listed (work_in t.event)) d.did ∙ ap (λ l. works ++ l) is);
  news = all_new-push start.mine d.added t.event ∙ (ap (λ b. b && is_new (start.mine ++ d.added) t.event) d.news
      ∙ (ap (λ l. is_new l t.event) (sym d.mine) ∙ fresh));
}

by-event : (one e : Event) (given : Work) → Some one ≡ Some e → work_in one ≡ Some given →
    ((done : List Event) → is_new done one ≡ true) → (work_in e ≡ Some given) × ((done : List Event) → is_new done e ≡ true)
by-event one e given is works new =
    let same : one ≡ e = cc in (ap work_in (sym same) ∙ works, λ done. ap (is_new done) (sym same) ∙ new done)

given-work : (node : Node) (held : Option (ℕ × Message)) (given : Work) (e : Event) → is_fetched given ≡ false →
    event_for node held given ≡ Some e → (work_in e ≡ Some given) × ((done : List Event) → is_new done e ≡ true)
given-work node held work.Fetched e none is = cc
given-work node held given e none is = by-event _ e given is refl (λ done. refl)

own-given : (b f : Bool) (w given : Work) → is_fetched w ≡ f → not f ≡ true → cond b (Some w) None ≡ Some given →
    is_fetched given ≡ false
own-given true false w given is h e = let same : w ≡ given = cc in ap is_fetched (sym same) ∙ is
own-given true true w given is h e = cc
own-given false f w given is h e = cc

own-not-fetched : (steps : List Step) (at : ℕ) (name : NodeName) (step : Step) (given : Work) → none_fetched steps ≡ true →
    slice_get steps at ≡ Some step → own_work name step ≡ Some given → is_fetched given ≡ false
own-not-fetched [] at name step given none found own = cc
own-not-fetched (Settle ∷ steps) zero name step given none found own =
    let same : Settle ≡ step = cc in let e : None ≡ Some given = ap (own_work name) same ∙ own in cc
own-not-fetched (Do who w ∷ steps) zero name step given none found own =
    let same : Do who w ≡ step = cc in
    let parts = and_parts (not (is_fetched w)) (none_fetched steps) none in
    own-given (nat_eq (number_of who) (number_of name)) (is_fetched w) w given refl parts.0 (ap (own_work name) same ∙ own)
own-not-fetched (Settle ∷ steps) (suc at) name step given none found own = own-not-fetched steps at name step given none found own
own-not-fetched (Do who w ∷ steps) (suc at) name step given none found own =
    own-not-fetched steps at name step given (and_parts (not (is_fetched w)) (none_fetched steps) none).1 found own

-- a work was done
pub progress-done : (setup : Setup) (start : SeatData) (steps : List Step) (at from : ℕ) (old new : SeatData) (step : Step) (given : Work) →
    Progress setup start steps at from old → none_fetched steps ≡ true → slice_get steps at ≡ Some step →
    own_work old.name step ≡ Some given → Takes setup old given new → Progress setup start steps (at + 1) from new
progress-done setup start steps at from old new step given p none found own t =
    let not-held : is_fetched given ≡ false = own-not-fetched steps at old.name step given none found own in
    let e = given-work (node_at setup old) old.held given t.event not-held t.is in
    let own' : own_work start.name step ≡ Some given = ap (λ (n : NodeName). own_work n step) (sym p.does.name) ∙ own in
    let g : Grows old new = grows-takes setup old given new t in
    let works : works_for start.name (take at steps) ++ listed (Some given) ≡ works_for start.name (take (at + 1) steps) =
    sym (works_for-push start.name steps at step found ∙ ap (λ (o : Option Work). works_for start.name (take at steps) ++ listed o) own') in
    record {
      does = subst (λ (l : List Work). Does start l new) works
          (does-push setup start (works_for start.name (take at steps)) (listed (Some given)) old given new p.does t (ap listed e.0)
          (e.1 old.mine));
      within = within-stays setup old new from p.within g;
      delivered = below-stays setup old new from p.within g p.delivered;
      idle = t.idle;
    }

-- a step that is not the seat's
pub progress-skipped : (setup : Setup) (start : SeatData) (steps : List Step) (at from : ℕ) (old : SeatData) (step : Step) →
    Progress setup start steps at from old → slice_get steps at ≡ Some step → own_work old.name step ≡ None →
    Progress setup start steps (at + 1) from old
progress-skipped setup start steps at from old step p found other =
    let other' : own_work start.name step ≡ None = ap (λ (n : NodeName). own_work n step) (sym p.does.name) ∙ other in
    let works : works_for start.name (take at steps) ≡ works_for start.name (take (at + 1) steps) =
    sym (works_for-push start.name steps at step found
    ∙ (ap (λ (o : Option Work). works_for start.name (take at steps) ++ listed o) other'
    ∙ append-nil (works_for start.name (take at steps)))) in
    record {
      does = subst (λ (l : List Work). Does start l old) works p.does;
      within = p.within;
      delivered = p.delivered;
      idle = p.idle;
    }

-- what lies between is delivered too
progress-raised : (setup : Setup) (start : SeatData) (steps : List Step) (at from next : ℕ) (now : SeatData) →
    Progress setup start steps at from now → next ≤ length (world_at setup now).sent →
    ((number : ℕ) (message : Message) → from ≤ number → number < next → slice_get (world_at setup now).sent number ≡ Some message →
    same_node (node_of message.to) now.name ≡ true → was_delivered now.mine number ≡ true) →
    Progress setup start steps at next now
progress-raised setup start steps at from next now p within gap = record {
  does = p.does;
  within = within;
  delivered = λ number message lt found own. by (nat_lt number from) number refl message lt found own;
  idle = p.idle;
}
  where
    by : (b : Bool) (number : ℕ) → nat_lt number from ≡ b → (message : Message) → number < next →
        slice_get (world_at setup now).sent number ≡ Some message →
        same_node (node_of message.to) now.name ≡ true → was_delivered now.mine number ≡ true
    by true number is message lt found own = p.delivered number message (grind (arith, is)) found own
    by false number is message lt found own = gap number message (grind (arith, is)) lt found own

-- the least message from there on was delivered before
pub progress-had : (setup : Setup) (start : SeatData) (steps : List Step) (at from number : ℕ) (now : SeatData) →
    Progress setup start steps at from now → least_to now.name from (world_at setup now).sent ≡ Some number →
    was_delivered now.mine number ≡ true → Progress setup start steps at (number + 1) now
progress-had setup start steps at from number now p least had =
    let sent = (world_at setup now).sent in
    let w = within-found from 0 number now.name sent least in
    progress-raised setup start steps at from (number + 1) now p (omega (arith, w.1)) (λ n message le lt found own.
    let least' = none-before from 0 number now.name sent n message least found own (omega (arith, le)) in
    let same : number ≡ n = omega (arith, least', lt) in subst (λ k. was_delivered now.mine k ≡ true) same had)

-- or it is delivered now
pub progress-delivered : (setup : Setup) (start : SeatData) (steps : List Step) (at from number : ℕ) (old held new : SeatData)
    (message : Message) → Progress setup start steps at from old → least_to old.name from (world_at setup old).sent ≡ Some number →
    was_delivered old.mine number ≡ false → Grows old held → held.mine ≡ old.mine → held.pending ≡ None →
    held.held ≡ Some (number, message) → Takes setup held work.Fetched new → Progress setup start steps at (number + 1) new
progress-delivered setup start steps at from number old held new message p least not-had g mine idle holds t =
    let is : event.Deliver number ≡ t.event =
    cc-some (event.Deliver number) t.event
    (ap (λ (h : Option (ℕ × Message)). event_for (node_at setup held) h work.Fetched) (sym holds) ∙ t.is) in
    let p' : Progress setup start steps at from held = progress-looked setup start steps at from old held p g mine idle in
    let fresh : is_new held.mine t.event ≡ true =
    ap (is_new held.mine) (sym is) ∙ (ap (λ l. not (was_delivered l number)) mine ∙ ap not not-had) in
    let works = works_for start.name (take at steps) in
    let d : Does start works new = subst (λ (l : List Work). Does start l new) (append-nil works)
    (does-push setup start works [] held work.Fetched new p'.does t (ap (λ (e : Event). listed (work_in e)) (sym is)) fresh) in
    let g' : Grows held new = grows-takes setup held work.Fetched new t in
    let all : Grows old new = grows-through old held new g g' in
    let w = within-found from 0 number old.name (world_at setup old).sent least in
    let had : was_delivered new.mine number ≡ true =
    ap (λ l. was_delivered l number) (t.mine ∙ ap (λ (e : Event). held.mine ++ e ∷ []) (sym is)) ∙ delivered-last held.mine number in
    let low : Progress setup start steps at from new = record {
      does = d;
      within = within-stays setup held new from p'.within g';
      delivered = below-stays setup held new from p'.within g' p'.delivered;
      idle = t.idle;
    } in
    progress-raised setup start steps at from (number + 1) new low
    (within-stays setup old new (number + 1) (omega (arith, w.1)) all) (λ n message le lt found own.
    let before = starts-back (world_at setup new).sent (world_at setup old).sent n message (longer-sent setup new.seen old.seen all.seen)
    (omega (arith, lt, w.1)) found in
    let least' = none-before from 0 number old.name (world_at setup old).sent n message least before
    (own-still old new message all.name own) (omega (arith, le)) in
    let same : number ≡ n = omega (arith, least', lt) in subst (λ k. was_delivered new.mine k ≡ true) same had)
  where
    cc-some : (a b : Event) → Some a ≡ Some b → a ≡ b
    cc-some a b e = cc

-- there is none left
pub progress-all : (setup : Setup) (start : SeatData) (steps : List Step) (at from : ℕ) (now : SeatData) →
    Progress setup start steps at from now → least_to now.name from (world_at setup now).sent ≡ None →
    Runs setup start (works_for start.name (take at steps)) now
progress-all setup start steps at from now p none = record {
  does = p.does;
  delivered = λ number message found own. by (nat_lt number from) number refl message found own;
  idle = p.idle;
}
  where
    by : (b : Bool) (number : ℕ) → nat_lt number from ≡ b → (message : Message) →
        slice_get (world_at setup now).sent number ≡ Some message →
        same_node (node_of message.to) now.name ≡ true → was_delivered now.mine number ≡ true
    by true number is message found own = p.delivered number message (grind (arith, is)) found own
    by false number is message found own = absurd
        (none-found from 0 now.name (world_at setup now).sent number message none found own (grind (arith, is)))

-- a run of turns begins
pub progress-begins : (setup : Setup) (start : SeatData) (steps : List Step) → start.pending ≡ None →
    Progress setup start steps 0 0 start
progress-begins setup start steps idle = record {
  does = record {
    added = [];
    name = refl;
    seen = starts-same;
    mine = sym (append-nil start.mine);
    did = refl;
    news = refl;
  };
  within = omega arith;
  delivered = λ number message lt found own. absurd (omega (arith, lt));
  idle = idle;
}

-- of fewer messages the same is said
pub progress-lower : (setup : Setup) (start : SeatData) (steps : List Step) (at high low : ℕ) (now : SeatData) → low ≤ high →
    Progress setup start steps at high now → Progress setup start steps at low now
progress-lower setup start steps at high low now le p = record {
  does = p.does;
  within = omega (arith, le, p.within);
  delivered = λ number message lt found own. p.delivered number message (omega (arith, lt, le)) found own;
  idle = p.idle;
}

-- Looks

pub grows-later : (old new : SeatData) → Later old new → Grows old new
grows-later old new l = record {
  name = ap (λ (s : SeatData). s.name) l.same;
  seen = l.seen;
  mine = subst (λ (m : List Event). StartsWith m old.mine) (sym (ap (λ (s : SeatData). s.mine) l.same)) starts-same;
}

pub progress-later : (setup : Setup) (start : SeatData) (steps : List Step) (at from : ℕ) (old new : SeatData) →
    Progress setup start steps at from old → Later old new → Progress setup start steps at from new
progress-later setup start steps at from old new p l =
    progress-looked setup start steps at from old new p (grows-later old new l) (ap (λ (s : SeatData). s.mine) l.same)
    (ap (λ (s : SeatData). s.pending) l.same ∙ p.idle)

pub grows-finds : (setup : Setup) (old : SeatData) (number : ℕ) (new : SeatData) → Finds setup old number new → Grows old new
grows-finds setup old number new f = record {
  name = ap (λ (s : SeatData). s.name) f.after;
  seen = f.seen;
  mine = starts-equal new.mine old.mine (ap (λ (s : SeatData). s.mine) f.after);
}

-- the message is fetched, and delivered
pub progress-fetched : (setup : Setup) (start : SeatData) (steps : List Step) (at from number : ℕ) (old found new : SeatData) →
    Progress setup start steps at from old → least_to old.name from (world_at setup old).sent ≡ Some number →
    was_delivered old.mine number ≡ false → Finds setup old number found → Takes setup found work.Fetched new →
    Progress setup start steps at (number + 1) new
progress-fetched setup start steps at from number old found new p least not-had f t =
    progress-delivered setup start steps at from number old found new f.message p least not-had (grows-finds setup old number found f)
    (ap (λ (s : SeatData). s.mine) f.after) (ap (λ (s : SeatData). s.pending) f.after ∙ p.idle)
    (ap (λ (s : SeatData). s.held) f.after) t

pub idle-later : (old new : SeatData) → Later old new → old.pending ≡ None → new.pending ≡ None
idle-later old new l idle = ap (λ (s : SeatData). s.pending) l.same ∙ idle

pub had-idle : (mine : List Event) (pending : Option Offered) (number : ℕ) (b had : Bool) → pending ≡ None →
    b ≡ was_delivered (mine ++ offered_events pending) number → b ≡ had → was_delivered mine number ≡ had
had-idle mine pending number b had idle is same = ap (λ l. was_delivered l number) (sym (append-nil mine))
    ∙ (ap (λ (p : Option Offered). was_delivered (mine ++ offered_events p) number) (sym idle) ∙ (sym is ∙ same))

-- A step

-- it is pending, and nothing was committed
pub grows-prepared : (setup : Setup) (old : SeatData) (given : Work) (ready : SeatData) → Prepares setup old given ready → Grows old ready
grows-prepared setup old given ready p = record {
  name = ap (λ (s : SeatData). s.name) p.after;
  seen = starts-equal ready.seen old.seen (ap (λ (s : SeatData). s.seen) p.after);
  mine = starts-equal ready.mine old.mine (ap (λ (s : SeatData). s.mine) p.after);
}

-- it was pending, and is committed
pub takes-committed : (setup : Setup) (old : SeatData) (given : Work) (ready : SeatData) (n : ℕ) (new : SeatData) →
    Prepares setup old given ready → Commits setup ready n new → Takes setup old given new
takes-committed setup old given ready n new p c =
    let same : c.offered ≡ p.offered =
    some-same c.offered p.offered (sym c.pending ∙ ap (λ (s : SeatData). s.pending) p.after) in
    record {
      event = p.offered.event;
      is = p.event;
      name = ap (λ (s : SeatData). s.name) c.after ∙ ap (λ (s : SeatData). s.name) p.after;
      seen = starts-through (record { rest = c.offered.event ∷ []; same = ap (λ (s : SeatData). s.seen) c.after })
          (subst (λ (l : List Event). StartsWith c.earlier l) (ap (λ (s : SeatData). s.seen) p.after) c.seen);
      mine = ap (λ (s : SeatData). s.mine) c.after ∙ (ap (λ (s : SeatData). s.mine ++ c.offered.event ∷ []) p.after
          ∙ ap (λ (o : Offered). old.mine ++ o.event ∷ []) same);
      idle = ap (λ (s : SeatData). s.pending) c.after;
    }
  where
    some-same : (a b : Offered) → Some a ≡ Some b → a ≡ b
    some-same a b is = cc
