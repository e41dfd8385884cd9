-- All processes: what was done and is not forgotten goes on whatever happens.
use Rattle.std.proofs.Common.{◌≡◌, ◌≤◌, ℕ, Bool, true, false, cond, nat_le, ◌⊎◌, inl, inr, List, [], ◌∷◌, ◌++◌, length}
use Rattle.std.proofs.Common.{filter, take}
use Rattle.std.proofs.Common.{refl, sym, ap, ◌∙◌, subst, arith, append_assoc, length-append}
use Rattle.std.proofs.lemmas.List.{append-nil, length-take-le}
use Rattle.std.proofs.lemmas.Bool.{le-leb}
use Rattle.std.proofs.lemmas.List.Elements.{filter-append}
use Rattle.rc_types.specs.declared.events.Setup.{Setup}
use Rattle.rc_types.specs.declared.messages.Message.{Message}
use Rattle.rc_model.specs.Headline.{In}
use Rattle.rc_model.specs.Model.{NodeWork, Deliver, HostNode}
use Rattle.rc_model.specs.Model.{Master}
use Rattle.std.proofs.Common.{Option, Some, None}
use Rattle.rc_model.specs.World.{NodeName, TheOutside, TheCoordinator, TheHost, same_node}
use Rattle.rc_model.proofs.Ids.{same_node-true, same_node-refl}
use Rattle.rc_model.proofs.Members.{In-left, In-append}
use Rattle.rc_history.specs.Nodes.{Node, node_can, node_step, new_node, name_of}
use Rattle.rc_history.specs.Nodes as node
use Rattle.rc_history.specs.Lives.{Life, keeps, new_life, life_next, life_after, node_after, stops, replayed, remade}
use Rattle.rc_history.specs.Processes.{Deed, Process, Processes, new_processes, Happening, Takes, Syncs, Leaves, Falls}
use Rattle.rc_history.specs.Processes.{with_process, deed_of, is_left, stop_deeds, after, IsAddressed, IsBrought, MayTake, MayLeave}
use Rattle.rc_history.specs.Processes.{MayBeLeft, safe_at, May, MayAll, after_all}
use Rattle.rc_history.proofs.OwnLife.{IsLived, life_of, life_of-append, lived-append, life_journal, deed_lives}
use Rattle.rc_history.proofs.Cutting.{are_left, first-cut, name-next}
use Rattle.rc_history.proofs.Remaking.{Ends, remade-ends, stop-lived, stop-works}

abbrev pub own : NodeName → List Deed → List Deed
own name deeds = filter (λ (deed : Deed). same_node deed.node name) deeds

-- a message that is taken has left before
abbrev pub IsSupported : (NodeName → ℕ) → List Deed → NodeWork → Type 0
IsSupported safe earlier (Deliver message) = MayLeave safe earlier message
IsSupported safe earlier _ = Unit {0}

pub record Brought (safe : NodeName → ℕ) (earlier : List Deed) (deed : Deed) : Type 0 where
  pub addressed : IsAddressed deed.node deed.work
  pub supported : IsSupported safe earlier deed.work

abbrev pub AllBrought : (NodeName → ℕ) → List Deed → List Deed → Type 0
AllBrought safe earlier [] = Unit {0}
AllBrought safe earlier (deed ∷ deeds) = Brought safe earlier deed × AllBrought safe (earlier ++ deed ∷ []) deeds

pub record Well (setup : Setup) (name : NodeName) (process : Process) (deeds : List Deed) : Type 0 where
  pub life : process.life ≡ life_of name (new_life setup name) deeds
  pub lived : IsLived name (new_life setup name) deeds
  pub safe : process.safe ≤ length process.life.journal

pub record Goes (setup : Setup) (all : Processes) : Type 0 where
  pub well : (name : NodeName) → Well setup name (all.at name) (own name all.done)
  pub brought : AllBrought (safe_at all) [] all.done
  pub left : (message : Message) → In message all.left → MayLeave (safe_at all) all.done message

-- Lists

pub in-filter : (p : Deed → Bool) (deed : Deed) (deeds : List Deed) → In deed deeds → p deed ≡ true → In deed (filter p deeds)
in-filter p deed [] at passes = absurd at
in-filter p deed (one ∷ deeds) (inl e) passes =
    subst (In deed) (sym (ap (λ b. cond b (one ∷ filter p deeds) (filter p deeds)) (ap p (sym e) ∙ passes))) (inl e)
in-filter p deed (one ∷ deeds) (inr rest) passes = by (p one) (in-filter p deed deeds rest passes)
  where
    by : (b : Bool) → In deed (filter p deeds) → In deed (cond b (one ∷ filter p deeds) (filter p deeds))
    by true later = inr later
    by false later = later

pub leave-through : {safe after' : NodeName → ℕ} {done more : List Deed} {message : Message} →
    ((name : NodeName) → safe name ≤ after' name) →
    ((deed : Deed) → In deed done → deed.rests ≤ safe deed.node → In deed more) → MayLeave safe done message →
    MayLeave after' more message
leave-through {safe} {after'} rises stays leaves = record {
  deed = leaves.deed;
  done_before = stays leaves.deed leaves.done_before leaves.safe_by_now;
  its = leaves.its;
  safe_by_now = let r : safe leaves.deed.node ≤ after' leaves.deed.node = rises leaves.deed.node in let s = leaves.safe_by_now in
      omega arith;
}

supported-through : {safe after' : NodeName → ℕ} (done more : List Deed) (work : NodeWork) → ((name : NodeName) → safe name ≤ after' name) →
    ((deed : Deed) → In deed done → deed.rests ≤ safe deed.node → In deed more) → IsSupported safe done work →
    IsSupported after' more work
supported-through done more (Deliver message) rises stays is = leave-through rises stays is
supported-through done more work rises stays is = is

brought-rises : {safe after' : NodeName → ℕ} (earlier deeds : List Deed) → ((name : NodeName) → safe name ≤ after' name) →
    AllBrought safe earlier deeds → AllBrought after' earlier deeds
brought-rises earlier [] rises is = tt
brought-rises earlier (deed ∷ deeds) rises is = (
  record {
    addressed = is.0.addressed;
    supported = supported-through earlier earlier deed.work rises (λ d at e. at) is.0.supported;
  },
  brought-rises (earlier ++ deed ∷ []) deeds rises is.1,
)

brought-append : (safe : NodeName → ℕ) (earlier deeds more : List Deed) → AllBrought safe earlier deeds →
    AllBrought safe (earlier ++ deeds) more →
    AllBrought safe earlier (deeds ++ more)
brought-append safe earlier [] more one two = subst (λ l. AllBrought safe l more) (append-nil earlier) two
brought-append safe earlier (deed ∷ deeds) more one two = (
  one.0,
  brought-append safe (earlier ++ deed ∷ []) deeds more one.1
      (subst (λ l. AllBrought safe l more) (sym (append_assoc earlier (deed ∷ []) deeds)) two),
)

filter-push : (p : Deed → Bool) (earlier : List Deed) (deed : Deed) → filter p (earlier ++ deed ∷ [])
    ≡ filter p earlier ++ cond (p deed) (deed ∷ []) []
filter-push p earlier deed = filter-append p earlier (deed ∷ [])

brought-filter : (safe : NodeName → ℕ) {p : Deed → Bool} → ((deed : Deed) → deed.rests ≤ safe deed.node → p deed ≡ true) →
    (earlier deeds : List Deed) → AllBrought safe earlier deeds → AllBrought safe (filter p earlier) (filter p deeds)
brought-filter safe keeps earlier [] is = tt
brought-filter safe {p} keeps earlier (deed ∷ deeds) is =
    by (p deed) (subst (λ l. AllBrought safe l (filter p deeds)) (filter-push p earlier deed)
    (brought-filter safe keeps (earlier ++ deed ∷ []) deeds is.1))
  where
    by : (b : Bool) → AllBrought safe (filter p earlier ++ cond b (deed ∷ []) []) (filter p deeds) →
        AllBrought safe (filter p earlier) (cond b (deed ∷ filter p deeds) (filter p deeds))
    by true rest = (
      record {
        addressed = is.0.addressed;
        supported = supported-through earlier (filter p earlier) deed.work (λ n. omega arith)
            (λ d at e. in-filter p d earlier at (keeps d e)) is.0.supported;
      },
      rest,
    )
    by false rest = subst (λ l. AllBrought safe l (filter p deeds)) (append-nil (filter p earlier)) rest

-- The own deeds of a node

pub own-push : (name : NodeName) (done : List Deed) (deed : Deed) → same_node deed.node name ≡ true → own name (done ++ deed ∷ [])
    ≡ own name done ++ deed ∷ []
own-push name done deed its = filter-push (λ (d : Deed). same_node d.node name) done deed
    ∙ ap (λ b. own name done ++ cond b (deed ∷ []) []) its

pub own-others : (name : NodeName) (done : List Deed) (deed : Deed) → same_node deed.node name ≡ false → own name (done ++ deed ∷ [])
    ≡ own name done
own-others name done deed its = filter-push (λ (d : Deed). same_node d.node name) done deed
    ∙ (ap (λ b. own name done ++ cond b (deed ∷ []) []) its ∙ append-nil (own name done))

own-left : (name : NodeName) (k : ℕ) (done : List Deed) → own name (filter (is_left name k) done) ≡ are_left k (own name done)
own-left name k [] = refl
own-left name k (deed ∷ done) = by (same_node deed.node name) (nat_le deed.rests k) refl refl (own-left name k done)
  where
    by : (b c : Bool) → same_node deed.node name ≡ b → nat_le deed.rests k ≡ c →
        own name (filter (is_left name k) done) ≡ are_left k (own name done) →
        own name (cond (cond b c true) (deed ∷ filter (is_left name k) done) (filter (is_left name k) done))
        ≡ are_left k (cond b (deed ∷ own name done) (own name done))
    by true true e f rest =
        ap (λ b. cond b (deed ∷ own name (filter (is_left name k) done)) (own name (filter (is_left name k) done))) e
        ∙ (ap (λ l. deed ∷ l) rest ∙ sym (ap (λ c. cond c (deed ∷ are_left k (own name done)) (are_left k (own name done))) f))
    by true false e f rest = rest ∙ sym (ap (λ c. cond c (deed ∷ are_left k (own name done)) (are_left k (own name done))) f)
    by false c e f rest =
        ap (λ b. cond b (deed ∷ own name (filter (is_left name k) done)) (own name (filter (is_left name k) done))) e ∙ rest

other-left : (name other : NodeName) (k : ℕ) (done : List Deed) → same_node name other ≡ false → own other (filter (is_left name k) done)
    ≡ own other done
other-left name other k [] differ = refl
other-left name other k (deed ∷ done) differ = by (same_node deed.node name) (nat_le deed.rests k) refl
    (other-left name other k done differ)
  where
    by : (b c : Bool) → same_node deed.node name ≡ b → own other (filter (is_left name k) done) ≡ own other done →
        own other (cond (cond b c true) (deed ∷ filter (is_left name k) done) (filter (is_left name k) done))
        ≡ cond (same_node deed.node other) (deed ∷ own other done) (own other done)
    by true true e rest = ap (λ l. cond (same_node deed.node other) (deed ∷ l) l) rest
    by true false e rest = rest ∙ sym (ap (λ b. cond b (deed ∷ own other done) (own other done))
        (ap (λ n. same_node n other) (same_node-true deed.node name e) ∙ differ))
    by false c e rest = ap (λ l. cond (same_node deed.node other) (deed ∷ l) l) rest

put-well : (setup : Setup) (at : NodeName → Process) (name : NodeName) (process : Process) (done now : List Deed) →
    Well setup name process (own name now) → ((other : NodeName) → same_node name other ≡ false → own other now ≡ own other done) →
    ((other : NodeName) → Well setup other (at other) (own other done)) → (other : NodeName) →
    Well setup other (with_process at name process other) (own other now)
put-well setup at name process done now its others well other = by (same_node name other) refl
  where
    by : (b : Bool) → same_node name other ≡ b → Well setup other (cond b process (at other)) (own other now)
    by true e = subst (λ n. Well setup n process (own n now)) (same_node-true name other e) its
    by false e = subst (Well setup other (at other)) (sym (others other e)) (well other)

pub put-safe : (at : NodeName → Process) (name : NodeName) (process : Process) → (at name).safe ≤ process.safe → (other : NodeName) →
    (at other).safe ≤ (with_process at name process other).safe
put-safe at name process rises other = by (same_node name other) refl
  where
    by : (b : Bool) → same_node name other ≡ b → (at other).safe ≤ (cond b process (at other)).safe
    by true e = subst (λ n. (at n).safe ≤ process.safe) (same_node-true name other e) rises
    by false e = omega arith

-- A work is taken

longer-next : (name : NodeName) (life : Life) (work : NodeWork) → length life.journal ≤ length (life_next name life work).journal
longer-next name life work = by (keeps name work)
  where
    by : (b : Bool) → length life.journal ≤ length (cond b (life.journal ++ work ∷ []) life.journal)
    by true = rw (length-append life.journal (work ∷ [])) (omega arith)
    by false = omega arith

well-takes : {setup : Setup} {name : NodeName} {process : Process} {deeds : List Deed} (work : NodeWork) → Well setup name process deeds →
    node_can process.life.node work ≡ true →
    Well setup name (record { life = life_next name process.life work; safe = process.safe })
    (deeds ++ deed_of name process.life work ∷ [])
well-takes {setup} {name} {process} {deeds} work well can = record {
  life = ap (λ l. life_next name l work) well.life
      ∙ sym (life_of-append name (new_life setup name) deeds (deed_of name process.life work ∷ []));
  lived = lived-append name (new_life setup name) deeds (deed_of name process.life work ∷ []) well.lived
      (subst (λ l. IsLived name l (deed_of name process.life work ∷ [])) well.life (deed_lives can, tt));
  safe = let s = well.safe in let l = longer-next name process.life work in omega arith;
}

supported-takes : (all : Processes) (work : NodeWork) → IsBrought all.left work →
    ((message : Message) → In message all.left → MayLeave (safe_at all) all.done message) → IsSupported (safe_at all) all.done work
supported-takes all (Deliver message) brought left = left message brought
supported-takes all work brought left = tt

goes-takes : {setup : Setup} {all : Processes} {name : NodeName} {work : NodeWork} → Goes setup all → MayTake all name work →
    Goes setup (after setup all (Takes name work))
goes-takes {setup} {all} {name} {work} goes may =
    let deed = deed_of name (all.at name).life work in
    let process : Process = record { life = life_next name (all.at name).life work; safe = (all.at name).safe } in
    let rises = put-safe all.at name process (omega arith) in
    record {
      well = put-well setup all.at name process all.done (all.done ++ deed ∷ [])
          (subst (Well setup name process) (sym (own-push name all.done deed (same_node-refl name)))
          (well-takes work (goes.well name) may.can))
          (λ other differ. own-others other all.done deed differ) goes.well;
      brought = brought-rises [] (all.done ++ deed ∷ []) rises
          (brought-append (safe_at all) [] all.done (deed ∷ []) goes.brought
          (record { addressed = may.addressed; supported = supported-takes all work may.brought goes.left }, tt));
      left = λ message at. leave-through rises (λ d among e. In-left d all.done (deed ∷ []) among)
          (goes.left message at);
    }

-- Works are safe

goes-syncs : {setup : Setup} {all : Processes} {name : NodeName} {count : ℕ} → Goes setup all → MayBeLeft (all.at name) count →
    Goes setup (after setup all (Syncs name count))
goes-syncs {setup} {all} {name} {count} goes may =
    let process : Process = record { life = (all.at name).life; safe = count } in
    let rises = put-safe all.at name process may.no_less in
    record {
      well = put-well setup all.at name process all.done all.done
          (record { life = (goes.well name).life; lived = (goes.well name).lived; safe = may.no_more })
          (λ other differ. refl) goes.well;
      brought = brought-rises [] all.done rises goes.brought;
      left = λ message at. leave-through rises (λ d among e. among) (goes.left message at);
    }

-- A message leaves

goes-leaves : {setup : Setup} {all : Processes} {message : Message} → Goes setup all → MayLeave (safe_at all) all.done message →
    Goes setup (after setup all (Leaves message))
goes-leaves {all} {message} goes may = record {
  well = goes.well;
  brought = goes.brought;
  left = λ one at. by one (In-append one all.left (message ∷ []) at);
}
  where
    by : (one : Message) → In one all.left ⊎ In one (message ∷ []) → MayLeave (safe_at all) all.done one
    by one (inl at) = goes.left one at
    by one (inr (inl e)) = subst (MayLeave (safe_at all) all.done) (sym e) may
    by one (inr (inr rest)) = absurd rest

-- A process falls

pub name-life : (name : NodeName) (life : Life) (works : List NodeWork) → name_of (life_after name life works).node ≡ name_of life.node
name-life name life [] = refl
name-life name life (work ∷ works) = name-life name (life_next name life work) works ∙ name-next life.node work

name-after : (n : Node) (works : List NodeWork) → name_of (node_after n works) ≡ name_of n
name-after n [] = refl
name-after n (work ∷ works) = name-after (node_step n work).0 works ∙ name-next n work

pub name-new : (setup : Setup) (name : NodeName) → name_of (new_node setup name) ≡ name
name-new setup TheOutside = refl
name-new setup TheCoordinator = refl
name-new setup (TheHost index) = refl

-- its stop is its own, names it and delivers nothing

own-stop : (name : NodeName) (life : Life) (works : List NodeWork) → own name (stop_deeds name life works) ≡ stop_deeds name life works
own-stop name life [] = refl
own-stop name life (work ∷ works) =
    ap (λ b. cond b (deed_of name life work ∷ own name (stop_deeds name life works)) (own name (stop_deeds name life works)))
    (same_node-refl name) ∙ ap (λ l. deed_of name life work ∷ l) (own-stop name life works)

other-stop : (name other : NodeName) (life : Life) (works : List NodeWork) → same_node name other
    ≡ false → own other (stop_deeds name life works) ≡ []
other-stop name other life [] differ = refl
other-stop name other life (work ∷ works) differ =
    ap (λ b. cond b (deed_of name life work ∷ own other (stop_deeds name life works)) (own other (stop_deeds name life works))) differ
    ∙ other-stop name other life works differ

stop-brought-host : (safe : NodeName → ℕ) (earlier : List Deed) (name : NodeName) (life : Life) (host : HostNode)
    (running : Option Master) → AllBrought safe earlier (stop_deeds name life (stops (node.TheHost (record host { master = running }))))
stop-brought-host safe earlier name life host None = tt
stop-brought-host safe earlier name life host (Some m) = (record { addressed = tt; supported = tt }, tt)

stop-brought : (safe : NodeName → ℕ) (earlier : List Deed) (name : NodeName) (life : Life) (n : Node) →
    AllBrought safe earlier (stop_deeds name life (stops n))
stop-brought safe earlier name life node.TheOutside = tt
stop-brought safe earlier name life (node.TheCoordinator c) = tt
stop-brought safe earlier name life (node.TheHost host) = stop-brought-host safe earlier name life host host.master

record Falls' (setup : Setup) (name : NodeName) (k : ℕ) (process : Process) (deeds : List Deed) : Type 0 where
  well : Well setup name (record { life = remade setup name (take k process.life.journal); safe = process.safe })
      (are_left k deeds
      ++ stop_deeds name (replayed setup name (take k process.life.journal))
      (stops (replayed setup name (take k process.life.journal)).node))

longer-after : (name : NodeName) (life : Life) (works : List NodeWork) → length life.journal ≤ length (life_after name life works).journal
longer-after name life works =
    rw (life_journal name life works) (rw (length-append life.journal (filter (keeps name) works)) (omega arith))

well-falls : {setup : Setup} {name : NodeName} {k : ℕ} {process : Process} {deeds : List Deed} → Well setup name process deeds →
    MayBeLeft process k → Falls' setup name k process deeds
well-falls {setup} {name} {k} {process} {deeds} well may =
    let fresh : Life = new_life setup name in
    let cut = first-cut deeds (name-new setup name) (omega arith) (omega arith) well.lived in
    let short : Life = life_of name fresh (are_left k deeds) in
    let its : short.journal ≡ take k process.life.journal = cut.journal ∙ ap (λ (l : Life). take k l.journal) (sym well.life) in
    let ends : Ends name (replayed setup name (take k process.life.journal)) short =
    subst (λ l. Ends name (replayed setup name l) short) its (remade-ends setup name (are_left k deeds) cut.lived) in
    let again : Life = replayed setup name (take k process.life.journal) in
    let size : length (take k process.life.journal) ≡ k = length-take-le k process.life.journal may.no_more in
    record {
      well = record {
        life = ends.life ∙ (sym (stop-works name short) ∙ (ap (life_of name short) (sym ends.deeds)
            ∙ sym (life_of-append name fresh (are_left k deeds) (stop_deeds name again (stops again.node)))));
        lived = lived-append name fresh (are_left k deeds) (stop_deeds name again (stops again.node)) cut.lived
            (subst (IsLived name short) (sym ends.deeds) (stop-lived name short));
        safe =
            let longer : length (take k process.life.journal) ≤ length (life_after name again (stops again.node)).journal =
            longer-after name again (stops again.node) in
            let s = may.no_less in omega arith;
      };
    }

pub left-passes : {name : NodeName} {k : ℕ} (safe : NodeName → ℕ) (deed : Deed) → safe name ≤ k → deed.rests ≤ safe deed.node →
    is_left name k deed ≡ true
left-passes {name} {k} safe deed within rests = by (same_node deed.node name) refl
  where
    by : (b : Bool) → same_node deed.node name ≡ b → cond b (nat_le deed.rests k) true ≡ true
    by true e =
        let here : deed.rests ≤ safe name = subst (λ n. deed.rests ≤ safe n) (same_node-true deed.node name e) rests in
        le-leb deed.rests k (omega arith)
    by false e = refl

goes-falls : {setup : Setup} {all : Processes} {name : NodeName} {k : ℕ} → Goes setup all → MayBeLeft (all.at name) k →
    Goes setup (after setup all (Falls name k))
goes-falls {setup} {all} {name} {k} goes may =
    let kept : List NodeWork = take k (all.at name).life.journal in
    let again : Life = replayed setup name kept in
    let stop : List Deed = stop_deeds name again (stops again.node) in
    let remain : List Deed = filter (is_left name k) all.done in
    let process : Process = record { life = remade setup name kept; safe = (all.at name).safe } in
    let rises = put-safe all.at name process (omega arith) in
    let passes = λ (deed : Deed) (e : deed.rests ≤ safe_at all deed.node). left-passes (safe_at all) deed may.no_less e in
    let split = λ (n : NodeName). filter-append (λ (d : Deed). same_node d.node n) remain stop in
    record {
      well = put-well setup all.at name process all.done (remain ++ stop) (subst (Well setup name process)
          (sym (split name ∙ (ap (λ l. l ++ own name stop) (own-left name k all.done)
          ∙ ap (λ l. are_left k (own name all.done) ++ l) (own-stop name again (stops again.node)))))
          (well-falls (goes.well name) may).well) (λ other differ.
          split other ∙ (ap (λ l. l ++ own other stop) (other-left name other k all.done differ)
          ∙ (ap (λ l. own other all.done ++ l) (other-stop name other again (stops again.node) differ)
          ∙ append-nil (own other all.done))))
          goes.well;
      brought = brought-rises [] (remain ++ stop) rises (brought-append (safe_at all) [] remain stop
          (brought-filter (safe_at all) passes [] all.done goes.brought)
          (stop-brought (safe_at all) remain name again again.node));
      left = λ message at. leave-through rises
          (λ d among e. In-left d remain stop (in-filter (is_left name k) d all.done among (passes d e))) (goes.left message at);
    }

-- Whatever happens

pub goes-after : {setup : Setup} {all : Processes} (one : Happening) → Goes setup all → May all one → Goes setup (after setup all one)
goes-after (Takes name work) goes may = goes-takes goes may
goes-after (Syncs name count) goes may = goes-syncs goes may
goes-after (Leaves message) goes may = goes-leaves goes may
goes-after (Falls name count) goes may = goes-falls goes may

pub goes-all : (setup : Setup) (all : Processes) (happenings : List Happening) → Goes setup all → MayAll setup all happenings →
    Goes setup (after_all setup all happenings)
goes-all setup all [] goes may = goes
goes-all setup all (one ∷ more) goes may = goes-all setup (after setup all one) more (goes-after one goes may.0) may.1

pub goes-new : {setup : Setup} → Goes setup (new_processes setup)
goes-new = record {
  well = λ name. record { life = refl; lived = tt; safe = omega arith };
  brought = tt;
  left = λ message at. absurd at;
}
