-- The owners of a point form one chain, in every world.
use Rattle.rc_model.specs.World.{replay}
use Rattle.rc_owner_laws.specs.Chains.{PointsHaveOneChain, TermsRise, PointsAreGrantedOnce}
use Rattle.rc_owner_laws.proofs.OwnersOrdered.{one-chain, earlier-less, granted-once}
use Rattle.rc_owner_laws.proofs.OwnerReplays.{OfWorld, grants-world}

pub points-have-one-chain : PointsHaveOneChain
points-have-one-chain setup events = let p : OfWorld (replay setup events) = grants-world setup events in
    one-chain (replay setup events).sent (replay setup events).coordinator p.good p.kept

pub terms-rise : TermsRise
terms-rise setup events = let p : OfWorld (replay setup events) = grants-world setup events in
    earlier-less (replay setup events).sent (replay setup events).coordinator p.good p.kept

pub points-are-granted-once : PointsAreGrantedOnce
points-are-granted-once setup events = let p : OfWorld (replay setup events) = grants-world setup events in
    granted-once (replay setup events).sent (replay setup events).coordinator p.good p.kept
