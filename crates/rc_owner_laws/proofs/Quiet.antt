-- Rules that leave what the facts read: the list rules, what the timer says again, and most of the rules that follow up.
use Rattle.std.proofs.Common.{arith}
use Rattle.std.proofs.Common.{ℕ, false, List}
use Rattle.rc_model.specs.Model.{ServerId, Message, head_of, opens_head, next_digest, Master, with_log, ids_of, place_of}
use Rattle.rc_model.specs.Model.{places_head, dead_segments}
use Rattle.rc_model.proofs.Walk.{Joined, Listed, Rolls}
use Rattle.rc_owner_laws.specs.Parts.{part_view, GoodParts}
use Rattle.rc_owner_laws.specs.PartMoves.{HasHead, PartsMoved}
use Rattle.rc_owner_laws.proofs.PartViews.{plain-to_ids, still, moved-then}
use Rattle.rc_owner_laws.proofs.PartPlaces.{quiet-log, same-loses, same-opens}

-- a rule moves the parts of a master as it may, where they are good
abbrev pub Kept : List Message → ServerId → Master → Master × List Message → Type 0
Kept sent m master after = HasHead master.log → GoodParts sent m (part_view master) → PartsMoved sent m master after

module _ (sent : List Message) (m : ServerId) where
  pub parts-joined : Joined (Kept sent m)
  parts-joined = record {
    still = still sent m;
    both = λ one two first after p q head good. (let done : PartsMoved sent m one (two, first) = p head good in
        moved-then done (q done.head done.good));
  }

  -- a head is opened, and placed on its members
  parts-opens : {master : Master} (digest : List ℕ) (ids : List ServerId) →
      Kept sent m master (with_log master (opens_head master.log digest ids), places_head (opens_head master.log digest ids))
  parts-opens {master} digest ids head good = quiet-log head good (same-opens digest ids)
      (plain-to_ids master.log.own (ids_of (head_of (opens_head master.log digest ids)).config.members)
      (place_of (opens_head master.log digest ids) (opens_head master.log digest ids).head false) tt)

  pub parts-rolls : (master : Master) → Rolls (Kept sent m) master
  parts-rolls master ids writing room chosen = parts-opens (next_digest master.log (dead_segments master)) ids

  pub parts-listed : Listed (Kept sent m)
  parts-listed = search (arith, quiet-log, same-loses, plain-to_ids, parts-opens)
