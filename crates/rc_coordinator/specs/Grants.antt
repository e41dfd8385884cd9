-- Claims, by which a grant is asked for, and the tables of grants.
use Rattle.std.specs.Prelude.{ℕ, Bool, nat_eq, ◌&&◌}
use Rattle.std.specs.declared.hash.FoldHasher.{FoldHasher}
use Rattle.std.specs.declared.hash.BuildHasherDefault.{BuildHasherDefault}
use Rattle.indexmap.specs.IndexMap.{IndexMap}
use Rattle.std.specs.HashSet.{HashSet}
use Rattle.rc_types.specs.declared.kept.Grant.{Grant}
use Rattle.rc_model.specs.Ids.{same_id}
use Rattle.rc_coordinator.specs.declared.grants.Claim.{Claim}

abbrev pub same_claim : Claim → Claim → Bool
same_claim one other = nat_eq one.term other.term && same_id one.owner other.owner

-- what a grant is asked for by
abbrev pub claim_of : Grant → Claim
claim_of grant = record { term = grant.term; owner = grant.owner }

abbrev pub ClaimTable : Type 0
ClaimTable = IndexMap Claim Grant (BuildHasherDefault FoldHasher)

abbrev pub TermTable : Type 0
TermTable = HashSet ℕ (BuildHasherDefault FoldHasher)
