-- That a replica's new entries begin with its old ones.
use Rattle.std.proofs.Common.{ℕ, ◌-◌, Bool, true, false, cond, not, nat_lt, nat_le, ◌&&◌, List, [], length, drop, refl, rules}
use Rattle.rc_model.specs.Model.{Entry, Replica, placed, placed_open, appended, grown}
use Rattle.rc_replica.specs.Laws.{IsBeginning}

-- a list is its own beginning
unmoved : (entries : List Entry) → IsBeginning entries entries
unmoved entries = ([], search rules)

-- what holds of both branches holds of the choice
either_way : (P : Replica → Type 0) (b : Bool) (one other : Replica) → P one → P other → P (cond b one other)
either_way P true one other p q = p
either_way P false one other p q = q

pub placed_begins : (replica : Replica) (epoch : ℕ) (sent : List Entry) (closed : Bool) →
    IsBeginning replica.entries (placed replica epoch sent closed).entries
placed_begins replica epoch sent closed =
    let P : Replica → Type 0 = λ r. IsBeginning replica.entries r.entries in
    either_way P (nat_lt epoch replica.epoch) replica _ (unmoved replica.entries)
    (either_way P replica.closed (record replica { epoch = epoch }) (placed_open replica epoch sent closed)
    (unmoved replica.entries) (drop (length replica.entries - 0) sent, refl))

pub appended_begins : (replica : Replica) (offset : ℕ) (sent : List Entry) →
    IsBeginning replica.entries (appended replica offset sent).entries
appended_begins replica offset sent =
    let P : Replica → Type 0 = λ r. IsBeginning replica.entries r.entries in
    either_way P (not replica.closed && nat_le offset (length replica.entries))
    (record replica { entries = grown replica.entries offset sent }) replica
    (drop (length replica.entries - offset) sent, refl) (unmoved replica.entries)
